-- The levels, as the first message leaves its slot.
use Rattle.std.proofs.Common.{◌≡◌, ◌≢◌, ℕ, ◌+◌, ◌-◌, ◌*◌, ◌<◌, ◌≤◌, inl, inr, sym, ◌∙◌, ap, subst, arith}
use Rattle.std.proofs.lemmas.Bool.{cases_eq}
use Rattle.mq_slots.specs.Chains.{span, IsChained, IsLevelled, IsCovered}
use Rattle.mq_slots.proofs.Unlinking.{Unlinked, IsFirst, first-before}

-- the first message is of the highest level
first_is_high : (n : ℕ) (p t nx : ℕ → ℕ) (m : ℕ) (lp ll : ℕ → ℕ) (first : ℕ) → IsChained n p t nx →
    IsLevelled n p t m lp ll → IsFirst n p t first → (k : ℕ) → k + 1 < m → ll k ≢ first
first_is_high n p t nx m lp ll first chain levels best k kl e =
    let top = ll (m - 1) in
    let within = levels.within (m - 1) (omega arith) in
    let bound : t top < span = chain.places top within in
    let level : p top ≡ lp (m - 1) = levels.level (m - 1) (omega arith) in
    let low : lp (m - 1) < 32768 = levels.low (m - 1) (omega arith) in
    let level_k : p (ll k) ≡ lp k = levels.level k (omega arith) in
    let same : p (ll k) ≡ p first = ap p e in
    let more : lp k < lp (m - 1) = levels.rising k (m - 1) (omega arith) (omega arith) in
    let near : t first + span * p top ≤ t top + span * p first = best.nearest top within
    (omega arith) in
    omega arith

-- the levels are unchanged if the slot is not the last of the highest
pub dropped-not : (n : ℕ) (p t nx p' t' nx' : ℕ → ℕ) (m : ℕ) (lp ll : ℕ → ℕ)
    (first free count : ℕ) → IsChained n p t nx → IsLevelled n p t m lp ll → IsFirst n p t first →
    Unlinked p t nx p' t' nx' first free count
    → (0 < m → ll (m - 1) ≢ first) → IsLevelled n p' t' m lp ll
dropped-not n p t nx p' t' nx' m lp ll first free count chain old best step top =
    let gone = step.gone_p in
    let stays : (j : ℕ) → p' j < 32768 →
    j ≢ first = λ j jp e. (let same : p' j ≡ p' first = ap p' e in omega arith) in
    let apart : (k : ℕ) → k < m → ll k ≢ first = λ k kl. elim (cases_eq k (m - 1)) [
      | inl e ↦ subst (λ x. ll x ≢ first) (sym e) (top (omega arith))
      | inr other ↦ first_is_high n p t nx m lp ll first chain old best k (omega arith)
    ] in
    record {
      rising = old.rising;
      within = old.within;
      level = λ k kl. step.kept_p (ll k) (apart k kl) ∙ old.level k kl;
      low = old.low;
      greatest = λ k j kl jl e. (
          let low = old.low k kl in
          let other : j ≢ first = stays j (omega arith) in
          let pj : p' j ≡ p j = step.kept_p j other in
          let tj : t' j ≡ t j = step.kept_t j other in
          let last : t' (ll k) ≡ t (ll k) = step.kept_t (ll k) (apart k kl) in
          let less : t j ≤ t (ll k) = old.greatest k j kl jl (omega arith) in
          omega arith);
      covers = λ j jl jp. (
          let other : j ≢ first = stays j jp in
          let pj : p' j ≡ p j = step.kept_p j other in
          let cover : IsCovered m lp (p j) = old.covers j jl (omega arith) in
          record { at = cover.at; below = cover.below; is = cover.is ∙ sym pj });
    }

-- the highest level goes with its last slot
pub dropped-top : (n : ℕ) (p t nx p' t' nx' : ℕ → ℕ) (m : ℕ) (lp ll lp' ll' : ℕ → ℕ)
    (first free count : ℕ) → IsChained n p t nx → IsLevelled n p t m lp ll → IsFirst n p t first →
    Unlinked p t nx p' t' nx' first free count
    → 0 < m → ll (m - 1) ≡ first → ((k : ℕ) → k < m - 1 → lp' k ≡ lp k) →
    ((k : ℕ) → k < m - 1 → ll' k ≡ ll k) → IsLevelled n p' t' (m - 1) lp' ll'
dropped-top n p t nx p' t' nx' m lp ll lp' ll' first free count chain old best step some top
    same_lp same_ll =
    let gone = step.gone_p in
    let stays : (j : ℕ) → p' j < 32768 →
    j ≢ first = λ j jp e. (let same : p' j ≡ p' first = ap p' e in omega arith) in
    let apart : (k : ℕ) → k < m - 1 →
    ll k ≢ first = λ k kl. first_is_high n p t nx m lp ll first chain old best k
    (omega arith) in
    record {
      rising = λ a b less bl. (let is_a = same_lp a (omega arith) in let is_b = same_lp b bl in
          let more = old.rising a b less (omega arith) in omega arith);
      within = λ k kl. subst (λ x. x < n) (sym (same_ll k kl)) (old.within k (omega arith));
      level = λ k kl. ap p' (same_ll k kl) ∙ step.kept_p (ll k) (apart k kl) ∙ old.level k
          (omega arith) ∙ sym (same_lp k kl);
      low = λ k kl. (let is_k = same_lp k kl in let low = old.low k (omega arith) in omega arith);
      greatest = λ k j kl jl e. (
          let is_k = same_lp k kl in
          let low = old.low k (omega arith) in
          let other : j ≢ first = stays j (omega arith) in
          let pj : p' j ≡ p j = step.kept_p j other in
          let tj : t' j ≡ t j = step.kept_t j other in
          let last : t' (ll' k) ≡ t (ll k) = ap t' (same_ll k kl) ∙ step.kept_t
          (ll k) (apart k kl) in
          let less : t j ≤ t (ll k) = old.greatest k j (omega arith) jl (omega arith) in
          omega arith);
      covers = λ j jl jp. (
          let other : j ≢ first = stays j jp in
          let pj : p' j ≡ p j = step.kept_p j other in
          let cover : IsCovered m lp (p j) = old.covers j jl (omega arith) in
          let below = cover.below in
          let is = cover.is in
          let under : cover.at < m - 1 = elim (cases_eq cover.at (m - 1)) [
            | inl e ↦ absurd (
                let same : lp cover.at ≡ lp (m - 1) = ap lp e in
                let great : t j ≤ t (ll (m - 1)) = old.greatest (m - 1) j (omega arith) jl
                (omega arith) in
                let last_t : t (ll (m - 1)) ≡ t first = ap t top in
                let last_p : p (ll (m - 1)) ≡ p first = ap p top in
                let level : p (ll (m - 1)) ≡ lp (m - 1) = old.level (m - 1) (omega arith) in
                let order = first-before n p t nx first chain best j jl (omega arith) other in
                omega arith)
            | inr far ↦ omega arith
          ] in
          record { at = cover.at; below = under; is = same_lp cover.at under ∙ is ∙ sym pj });
    }
