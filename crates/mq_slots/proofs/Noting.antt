-- The levels, as a message is put into a slot: which slot comes before it, and what becomes of the
-- levels.
use Rattle.std.proofs.Common.{◌≡◌, ◌≢◌, ℕ, ◌+◌, ◌-◌, ◌<◌, ◌≤◌, inl, inr, sym, ◌∙◌, ap, subst, arith}
use Rattle.std.proofs.lemmas.Bool.{cases_eq, cases_lt}
use Rattle.mq_slots.specs.Chains.{IsChained, IsLevelled, IsCovered}
use Rattle.mq_slots.proofs.Linking.{Linked, IsBefore, IsNew}

-- `at` is the index at which the level of the priority q is or would be
pub record IsPlaced (m : ℕ) (lp : ℕ → ℕ) (at q : ℕ) : Type 0 where
  pub within : at ≤ m
  pub below : (k : ℕ) → k < at → lp k < q
  pub rest : (k : ℕ) → at ≤ k → k < m → q ≤ lp k

-- the last slot of the level of the priority, or of the next higher one, comes before the message
pub level-before : (n : ℕ) (p t nx : ℕ → ℕ) (m : ℕ) (lp ll : ℕ → ℕ) (at new q s : ℕ) →
    IsChained n p t nx → IsLevelled n p t m lp ll → IsPlaced m lp at q → IsNew n p t new q s →
    at < m → IsBefore n p t (ll at) q s
level-before n p t nx m lp ll at new q s chain levels placed fresh here =
    let level = levels.level at here in
    let low = levels.low at here in
    let above = placed.rest at (omega arith) here in
    let place = fresh.place in
    let less : t (ll at) < s = fresh.newest (ll at) (levels.within at here) (omega arith) in
    record {
      within = levels.within at here;
      chained = omega arith;
      under = omega arith;
      nearest = λ j jl jp order. (
          let cover : IsCovered m lp (p j) = levels.covers j jl jp in
          let bound = chain.places j jl in
          let at_j = cover.below in
          let is_j = cover.is in
          elim (cases_lt cover.at at) [
            | inl h ↦ absurd (let bad = placed.below cover.at h in omega arith)
            | inr h ↦ elim (cases_eq at cover.at) [
              | inl e ↦ (let same : lp at ≡ lp cover.at = ap lp e in let great : t j ≤ t
                  (ll at) = levels.greatest at j here jl (omega arith) in omega arith)
              | inr other ↦ (let more : lp at < lp cover.at = levels.rising at cover.at
                  (omega arith) cover.below in omega arith)
            ]
          ]);
    }

-- if no level is as high, the head of the list comes before the message
pub head-before : (n : ℕ) (p t nx : ℕ → ℕ) (m : ℕ) (lp ll : ℕ → ℕ) (at new q s : ℕ) →
    IsChained n p t nx → IsLevelled n p t m lp ll → IsPlaced m lp at q → IsNew n p t new q s →
    m ≤ at → IsBefore n p t 0 q s
head-before n p t nx m lp ll at new q s chain levels placed fresh over =
    let head = chain.head in
    let head_place = chain.head_place in
    let low = fresh.low in
    let place = fresh.place in
    record {
      within = chain.there;
      chained = omega arith;
      under = omega arith;
      nearest = λ j jl jp order. (
          let cover : IsCovered m lp (p j) = levels.covers j jl jp in
          let bound = chain.places j jl in
          let at_j = cover.below in
          let is_j = cover.is in
          let under = placed.below cover.at (omega arith) in
          absurd (omega arith));
    }

-- the level of the priority is there, and has a newer message now
pub noted-there : (n : ℕ) (p t nx p' t' nx' : ℕ → ℕ) (m : ℕ) (lp ll lp' ll' : ℕ → ℕ)
    (before at new q s : ℕ) → IsLevelled n p t m lp ll → Linked p t nx p' t' nx' before new q s →
    IsNew n p t new q s → at < m → lp at ≡ q
    → ((k : ℕ) → lp' k ≡ lp k) → ll' at ≡ new → ((k : ℕ) → k ≢ at → ll' k ≡ ll k) →
    IsLevelled n p' t' m lp' ll'
noted-there n p t nx p' t' nx' m lp ll lp' ll' before at new q s old step fresh here is same_lp
    now_last same_ll =
    let pn = step.new_p in
    let tn = step.new_t in
    let spare = fresh.spare in
    let used = fresh.low in
    let apart : (k : ℕ) → k < m →
    ll k ≢ new = λ k kl e. (let same : p (ll k) ≡ p new = ap p e in let level = old.level k
    kl in let low = old.low k kl in omega arith) in
    record {
      rising = λ a b less bl. (let is_a = same_lp a in let is_b = same_lp b in
          let less = old.rising a b less bl in omega arith);
      within = λ k kl. elim (cases_eq k at) [
        | inl e ↦ subst (λ x. x < n) (sym (ap ll' e ∙ now_last)) fresh.within
        | inr other ↦ subst (λ x. x < n) (sym (same_ll k other)) (old.within k kl)
      ];
      level = λ k kl. elim (cases_eq k at) [
        | inl e ↦ ap p' (ap ll' e ∙ now_last) ∙ pn ∙ sym is ∙ sym (ap lp e) ∙ sym (same_lp k)
        | inr other ↦ ap p' (same_ll k other) ∙ step.kept_p (ll k) (apart k kl) ∙ old.level k kl ∙
            sym (same_lp k)
      ];
      low = λ k kl. (let is_k = same_lp k in let low = old.low k kl in omega arith);
      greatest = λ k j kl jl e. (
          let is_k = same_lp k in
          let low = old.low k kl in
          elim (cases_eq k at) [
            | inl here_k ↦ (
                let last : t' (ll' k) ≡ s = ap t' (ap ll' here_k ∙ now_last) ∙ tn in
                elim (cases_eq j new) [
                  | inl f ↦ (let same : t' j ≡ t' new = ap t' f in omega arith)
                  | inr other ↦ (let pj : p' j ≡ p j = step.kept_p j other in let tj : t' j ≡
                      t j = step.kept_t j other in let less : t j < s =
                      fresh.newest j jl (omega arith) in omega arith)
                ])
            | inr far ↦ (
                let last : t' (ll' k) ≡ t (ll k) = ap t' (same_ll k far) ∙ step.kept_t
                (ll k) (apart k kl) in
                elim (cases_eq j new) [
                  | inl f ↦ (let same : p' j ≡ p' new = ap p' f in
                      elim (cases_lt k at) [
                        | inl h ↦ absurd (let less : lp k < lp at = old.rising k at h here in
                            omega arith)
                        | inr h ↦ absurd (let less : lp at < lp k = old.rising at k (omega arith)
                            kl in omega arith)
                      ])
                  | inr other ↦ (let pj : p' j ≡ p j = step.kept_p j other in let tj : t' j ≡
                      t j = step.kept_t j other in let less : t j ≤ t (ll k) =
                      old.greatest k j kl jl (omega arith) in omega arith)
                ])
          ]);
      covers = λ j jl jp. elim (cases_eq j new) [
        | inl f ↦ record { at = at; below = here; is = same_lp at ∙ is ∙ sym pn ∙ sym (ap p' f) }
        | inr other ↦ (let pj : p' j ≡ p j = step.kept_p j other in let cover : IsCovered m lp
            (p j) = old.covers j jl (omega arith) in
            record {
              at = cover.at;
              below = cover.below;
              is = same_lp cover.at ∙ cover.is ∙
                  sym pj;
            })
      ];
    }

-- f with x put in at an index
pub record Inserted (f f' : ℕ → ℕ) (at x : ℕ) : Type 0 where
  pub lower : (k : ℕ) → k < at → f' k ≡ f k
  pub here : f' at ≡ x
  pub upper : (k : ℕ) → at ≤ k → f' (k + 1) ≡ f k

above : (f f' : ℕ → ℕ) (at x : ℕ) → Inserted f f' at x → (k : ℕ) → at < k → f' k ≡ f (k - 1)
above f f' at x put k h = let e : k ≡ (k - 1) + 1 = omega arith in ap f' e ∙
    put.upper (k - 1) (omega arith)

-- the index of a level before another was inserted
record Was (m : ℕ) (lp ll lp' ll' : ℕ → ℕ) (at k q : ℕ) : Type 0 where
  pub was : ℕ
  pub below : was < m
  pub same_p : lp' k ≡ lp was
  pub same_l : ll' k ≡ ll was
  pub unlike : lp was ≢ q

was_of : (m : ℕ) (lp ll lp' ll' : ℕ → ℕ) (at new q : ℕ) → Inserted lp lp' at q →
    Inserted ll ll' at new → ((k : ℕ) → k < at → lp k < q) → ((k : ℕ) → at ≤ k → k < m → q < lp k) →
    at ≤ m
    → (k : ℕ) → k < m + 1 → k ≢ at → Was m lp ll lp' ll' at k q
was_of m lp ll lp' ll' at new q put_p put_l below rest within k kl other =
    elim (cases_lt k at) [
      | inl h ↦ record {
        was = k;
        below = omega arith;
        same_p = put_p.lower k h;
        same_l = put_l.lower k h;
        unlike = λ e. (let less = below k h in omega arith);
      }
      | inr h ↦ record {
        was = k - 1;
        below = omega arith;
        same_p = above lp lp' at q put_p k
            (omega arith);
        same_l = above ll ll' at new put_l k (omega arith);
        unlike =
            λ e. (let less = rest (k - 1) (omega arith) (omega arith) in omega arith);
      }
    ]

-- a level is put in for a priority that had none
pub noted-new : (n : ℕ) (p t nx p' t' nx' : ℕ → ℕ) (m : ℕ) (lp ll lp' ll' : ℕ → ℕ)
    (before at new q s : ℕ) → IsLevelled n p t m lp ll → Linked p t nx p' t' nx' before new q s →
    IsNew n p t new q s → IsPlaced m lp at q → (at < m → lp at ≢ q)
    → Inserted lp lp' at q → Inserted ll ll' at new → IsLevelled n p' t' (m + 1) lp' ll'
noted-new n p t nx p' t' nx' m lp ll lp' ll' before at new q s old step fresh placed
    unlike put_p put_l =
    let pn = step.new_p in
    let tn = step.new_t in
    let spare = fresh.spare in
    let used = fresh.low in
    let within = placed.within in
    let rest : (k : ℕ) → at ≤ k → k < m → q < lp k = λ k h kl. elim (cases_eq at k) [
      | inl e ↦ (let not : lp at ≢ q = unlike (omega arith) in let same : lp at ≡ lp k = ap lp e in
          let least = placed.rest k h kl in omega arith)
      | inr other ↦ (let least = placed.rest at (omega arith) (omega arith) in
          let less : lp at < lp k = old.rising at k (omega arith) kl in omega arith)
    ] in
    let was = was_of m lp ll lp' ll' at new q put_p put_l placed.below rest within in
    let here = put_p.here in
    let here_last = put_l.here in
    let apart : (k : ℕ) → k < m →
    ll k ≢ new = λ k kl e. (let same : p (ll k) ≡ p new = ap p e in let level = old.level k
    kl in let low = old.low k kl in omega arith) in
    record {
      rising = λ a b less bl. elim (cases_lt a at) [
        | inl al ↦ (let is_a = put_p.lower a al in let under = placed.below a al in
            elim (cases_lt b at) [
              | inl h ↦ (let is_b = put_p.lower b h in let more = old.rising a b less
                  (omega arith) in
                  omega arith)
              | inr h ↦ elim (cases_eq b at) [
                | inl e ↦ (let same : lp' b ≡ lp' at = ap lp' e in omega arith)
                | inr other ↦ (let is_b = above lp lp' at q put_p b (omega arith) in let more = rest
                    (b - 1) (omega arith) (omega arith) in omega arith)
              ]
            ])
        | inr ag ↦ (let is_b = above lp lp' at q put_p b (omega arith) in elim (cases_eq a at) [
          | inl e ↦ (let same : lp' a ≡ lp' at = ap lp' e in let more = rest (b - 1) (omega arith)
              (omega arith) in omega arith)
          | inr other ↦ (let is_a = above lp lp' at q put_p a (omega arith) in let more = old.rising
              (a - 1) (b - 1) (omega arith) (omega arith) in omega arith)
        ])
      ];
      within = λ k kl. elim (cases_eq k at) [
        | inl e ↦ subst (λ x. x < n) (sym (ap ll' e ∙ here_last)) fresh.within
        | inr other ↦ (let w = was k kl other in subst (λ x. x < n) (sym w.same_l)
            (old.within w.was w.below))
      ];
      level = λ k kl. elim (cases_eq k at) [
        | inl e ↦ ap p' (ap ll' e ∙ here_last) ∙ pn ∙ sym here ∙ sym (ap lp' e)
        | inr other ↦ (let w = was k kl other in ap p' w.same_l ∙ step.kept_p (ll w.was)
            (apart w.was w.below) ∙ old.level w.was w.below ∙ sym w.same_p)
      ];
      low = λ k kl. elim (cases_eq k at) [
        | inl e ↦ (let same : lp' k ≡ lp' at = ap lp' e in omega arith)
        | inr other ↦ (let w = was k kl other in let same = w.same_p in let low = old.low w.was
            w.below in omega arith)
      ];
      greatest = λ k j kl jl e. elim (cases_eq k at) [
        | inl here_k ↦ (
            let same : lp' k ≡ lp' at = ap lp' here_k in
            let last : t' (ll' k) ≡ s = ap t' (ap ll' here_k ∙ here_last) ∙ tn in
            elim (cases_eq j new) [
              | inl f ↦ (let same_t : t' j ≡ t' new = ap t' f in omega arith)
              | inr other ↦ (let tj : t' j ≡ t j = step.kept_t j other in let pj : p' j ≡
                  p j = step.kept_p j other in let less : t j < s =
                  fresh.newest j jl (omega arith) in omega arith)
            ])
        | inr far ↦ (
            let w = was k kl far in
            let same = w.same_p in
            let last : t' (ll' k) ≡ t (ll w.was) = ap t' w.same_l ∙ step.kept_t (ll w.was)
            (apart w.was w.below) in
            elim (cases_eq j new) [
              | inl f ↦ absurd (let new_p : p' j ≡ p' new = ap p' f in let not = w.unlike in
                  omega arith)
              | inr other ↦ (let pj : p' j ≡ p j = step.kept_p j other in let tj : t' j ≡
                  t j = step.kept_t j other in let less : t j ≤ t (ll w.was) =
                  old.greatest w.was j w.below jl (omega arith) in omega arith)
            ])
      ];
      covers = λ j jl jp. elim (cases_eq j new) [
        | inl f ↦ record { at = at; below = omega arith; is = here ∙ sym pn ∙ sym (ap p' f) }
        | inr other ↦ (
            let pj : p' j ≡ p j = step.kept_p j other in
            let cover : IsCovered m lp (p j) = old.covers j jl (omega arith) in
            let below = cover.below in
            elim (cases_lt cover.at at) [
              | inl h ↦ record {
                at = cover.at;
                below = omega arith;
                is = put_p.lower cover.at h ∙
                    cover.is ∙ sym pj;
              }
              | inr h ↦ record {
                at = cover.at + 1;
                below = omega arith;
                is = put_p.upper cover.at h ∙ cover.is ∙ sym pj;
              }
            ])
      ];
    }
