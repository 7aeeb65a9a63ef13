-- The prefixes of well-formed histories are well-formed.
use Rattle.std.proofs.lemmas.Bool.Decides.{nat_tests}
use Rattle.std.proofs.Common.{◌≡◌, ◌∙◌, ◌≤◌, ◌<◌, ◌⊎◌, ℕ, zero, suc, ◌+◌, ◌-◌, ◌^◌, Bool, true, false, not, ◌&&◌, ◌||◌, ◌==◌, nat_lt, nat_le, max, List, [], ◌∷◌, Option, None, Some, drop, slice_get, if◌then◌else◌, refl, sym, subst, ap, arith, eqb-true}
use Rattle.std.specs.List.{list_any}
use Rattle.std.specs.Option.{option_and_then}
use Rattle.mq_model.specs.Legality.{is_payload}
use Rattle.mq_model.specs.declared.entries.Reply.TheVariants.{Done}
use Rattle.histories.specs.Histories.{is_pending}
use Rattle.histories.specs.declared.operation.Operation.{Operation}
use Rattle.history_judge.specs.Fitting.{AllFit, Fits}
use Rattle.history_judge.specs.Fronts.{Return, begins_at, ends_at, front_by, front_until, had_returned, is_held, under_way}
use Rattle.history_judge.specs.WellFormed.{IsWellFormed, LatestMoments, fault_at, fault_behind, has_pending, is_behind, is_pending_by, latest, moment_by, overlaps}
use Rattle.history_judge.specs.declared.line.Called.{Called}
use Rattle.history_judge.specs.declared.well_formed.IllFormed.{IllFormed}

-- ---- what is known of the calls of each process so far: whether one had not returned, and the
-- latest times at which they began and ended

record Known : Type 0 where
  pub pending : ℕ → Bool
  pub begin : ℕ → ℕ
  pub end : ℕ → ℕ

abbrev after : Known → Called → Known
after k c = record {
  pending = λ p. k.pending p || ((c.process == p) && is_pending c.operation.outcome);
  begin = λ p. max (k.begin p) (if c.process == p then c.operation.begin else 0);
  end = λ p. max (k.end p) (if c.process == p then c.operation.end else 0);
}

abbrev fault_in : Known → Called → Option IllFormed
fault_in k c = fault_behind (k.pending c.process) (record {
  begin = k.begin c.process;
  end = k.end c.process;
}) c

abbrev Formed : Known → List Called → Type 0
Formed k [] = Unit {0}
Formed k (c ∷ calls) = (fault_in k c ≡ None) × Formed (after k c) calls

-- the same by the index of a call
abbrev known_after : Known → List Called → ℕ → Known
known_after k calls n = record {
  pending = λ p. k.pending p || has_pending calls p n;
  begin = λ p. max (k.begin p) (latest (λ o. o.begin) calls p n);
  end = λ p. max (k.end p) (latest (λ o. o.end) calls p n);
}

abbrev fault_from : Known → List Called → ℕ → Option IllFormed
fault_from k calls n = option_and_then (fault_in (known_after k calls n)) (slice_get calls n)

or-assoc : (a b c : Bool) → (a || (b || c)) ≡ ((a || b) || c)
or-assoc true b c = refl
or-assoc false b c = refl

or-false : (a : Bool) → (a || false) ≡ a
or-false true = refl
or-false false = refl

or-true : (a : Bool) → (a || true) ≡ true
or-true true = refl
or-true false = refl

latest-cons : (moment : Operation → ℕ) (c : Called) (calls : List Called) (p n : ℕ) →
    latest moment (c ∷ calls) p (suc n) ≡ max (moment_by moment p (Some c))
    (latest moment calls p n)
latest-cons moment c calls p zero = grind arith
latest-cons moment c calls p (suc n) = grind (arith, latest-cons moment c calls p n)

pending-cons : (c : Called) (calls : List Called) (p n : ℕ) →
    has_pending (c ∷ calls) p (suc n) ≡ (is_pending_by p (Some c) || has_pending calls p n)
pending-cons c calls p zero = sym (or-false (is_pending_by p (Some c)))
pending-cons c calls p (suc n) =
    ap (λ (b : Bool). b || is_pending_by p (slice_get calls n)) (pending-cons c calls p n)
    ∙ sym (or-assoc (is_pending_by p (Some c)) (has_pending calls p n)
    (is_pending_by p (slice_get calls n)))

same-fault : (p q : Bool) (b d e g : ℕ) (c : Called) → p ≡ q → b ≡ d → e ≡ g →
    fault_behind p (record { begin = b; end = e }) c ≡
    fault_behind q (record { begin = d; end = g }) c
same-fault p q b d e g c pending begin end = rw (pending, begin, end) refl

max-assoc : (a b c : ℕ) → max a (max b c) ≡ max (max a b) c
max-assoc a b c = omega arith

tail-of : (k : Known) (c : Called) (calls : List Called) (n : ℕ) (o : Option Called) →
    option_and_then (fault_in (known_after k (c ∷ calls) (suc n))) o ≡
    option_and_then (fault_in (known_after (after k c) calls n)) o
tail-of k c calls n None = refl
tail-of k c calls n (Some d) = same-fault _ _ _ _ _ _ d
    (ap (λ (b : Bool). k.pending d.process || b) (pending-cons c calls d.process n) ∙
    or-assoc (k.pending d.process) (is_pending_by d.process (Some c))
    (has_pending calls d.process n))
    (ap (λ (m : ℕ). max (k.begin d.process) m) (latest-cons (λ o. o.begin) c calls d.process n)
    ∙ max-assoc (k.begin d.process) (moment_by (λ o. o.begin) d.process (Some c))
    (latest (λ o. o.begin) calls d.process n))
    (ap (λ (m : ℕ). max (k.end d.process) m) (latest-cons (λ o. o.end) c calls d.process n)
    ∙ max-assoc (k.end d.process) (moment_by (λ o. o.end) d.process (Some c))
    (latest (λ o. o.end) calls d.process n))

tail : (k : Known) (c : Called) (calls : List Called) (n : ℕ) →
    fault_from k (c ∷ calls) (suc n) ≡ fault_from (after k c) calls n
tail k c calls n = tail-of k c calls n (slice_get calls n)

max-zero : (a : ℕ) → max a 0 ≡ a
max-zero a = omega arith

head : (k : Known) (c : Called) (calls : List Called) → fault_from k (c ∷ calls) 0 ≡ fault_in k c
head k c calls = same-fault _ _ _ _ _ _ c (or-false _) (max-zero _) (max-zero _)

formed-of : (k : Known) (calls : List Called) → ((n : ℕ) → fault_from k calls n ≡ None) →
    Formed k calls
formed-of k [] none = tt
formed-of k (c ∷ calls) none = (
  sym (head k c calls) ∙ none 0,
  formed-of (after k c) calls (λ n. sym (tail k c calls n) ∙
      none (suc n)),
)

of-formed : (k : Known) (calls : List Called) → Formed k calls → (n : ℕ) →
    fault_from k calls n ≡ None
of-formed k [] formed n = refl
of-formed k (c ∷ calls) formed zero = head k c calls ∙ formed.0
of-formed k (c ∷ calls) formed (suc n) = tail k c calls n ∙ of-formed (after k c) calls formed.1 n

abbrev nothing : Known
nothing = record { pending = λ p. false; begin = λ p. 0; end = λ p. 0 }

max-of-zero : (a : ℕ) → max 0 a ≡ a
max-of-zero a = omega arith

start-of : (calls : List Called) (n : ℕ) (o : Option Called) →
    option_and_then (fault_in (known_after nothing calls n)) o
    ≡ option_and_then (λ c. fault_behind (has_pending calls c.process n)
    (record {
      begin = latest (λ o. o.begin) calls c.process n;
      end = latest (λ o. o.end) calls c.process n;
    }) c) o
start-of calls n None = refl
start-of calls n (Some d) = same-fault _ _ _ _ _ _ d refl (max-of-zero _) (max-of-zero _)

start : (calls : List Called) (n : ℕ) → fault_from nothing calls n ≡ fault_at calls n
start calls n = start-of calls n (slice_get calls n)

-- ---- why a call has no fault

record IsFree (pending : Bool) (before : LatestMoments) (c : Called) : Type 0 where
  pub behind : is_behind pending before.begin c.operation ≡ false
  pub over : overlaps before c.operation ≡ false
  pub ordered : nat_lt c.operation.end c.operation.begin ≡ false
  pub given : is_payload c.operation.call Done c.operation.given.items ≡ true

free-of : (pending : Bool) (before : LatestMoments) (c : Called) →
    fault_behind pending before c ≡ None → IsFree pending before c
free-of pending before c none = grind arith

none-of : (pending : Bool) (before : LatestMoments) (c : Called) → IsFree pending before c →
    fault_behind pending before c ≡ None
none-of pending before c free = rw (free.behind, free.over, free.ordered, free.given) refl

-- ---- one process, in the history and in its prefix

-- Calls that ended before the limit have returned in the prefix, and those that began before it
-- have begun. This is known of the calls of a process in the history and in the prefix.
record InStep (limit : ℕ) (pending : Bool) (begin end : ℕ) (pending' : Bool)
    (begin' end' : ℕ) : Type 0 where
  pub order : begin ≤ end
  pub same : begin < limit → begin' ≡ begin
  pub free : begin < limit → pending' ≡ false → (pending ≡ false) × (end' ≡ end) × (end < limit)
  pub under : begin < limit → pending' ≡ true →
      ((pending ≡ true) ⊎ (limit ≤ end)) × (end' ≡ 2 ^ 64 - 1)

-- what is known of a call without a fault: whether it returned, and when it began and ended
record Follows (pending : Bool) (begin end : ℕ) (is : Bool) (b e : ℕ) : Type 0 where
  pub behind : pending ≡ true → (is ≡ true) × (b ≡ begin)
  pub over : (end ≤ b) ⊎ ((b ≡ begin) × (e ≡ end))
  pub ordered : b ≤ e
  pub last : is ≡ true → e ≡ 2 ^ 64 - 1
  pub small : e ≤ 2 ^ 64 - 1

follows : (pending : Bool) (begin end : ℕ) (c : Called) → Fits c →
    IsFree pending (record { begin = begin; end = end }) c →
    Follows pending begin end (is_pending c.operation.outcome) c.operation.begin c.operation.end
follows pending begin end c fits free = record {
  behind = grind (arith, nat_tests);
  over = grind (arith, nat_tests);
  ordered = grind (arith, nat_tests);
  last = fits.pending;
  small = omega (arith, fits.end);
}

-- a call that has returned in the prefix follows a call that has
settled : (limit : ℕ) (pending : Bool) (begin end : ℕ) (pending' : Bool) (begin' end' : ℕ)
    (is : Bool) (b e : ℕ) →
    InStep limit pending begin end pending' begin' end' → Follows pending begin end is b e →
    is ≡ false → e < limit →
    (pending' ≡ false) × (begin < limit)
settled limit pending begin end true begin' end' is b e step call returned before =
    absurd (grind arith)
settled limit pending begin end false begin' end' is b e step call returned before =
    (refl, grind arith)

-- a call that has begun in the prefix follows calls that had
reached : (limit : ℕ) (pending : Bool) (begin end : ℕ) (pending' : Bool) (begin' end' : ℕ)
    (is : Bool) (b e : ℕ) →
    InStep limit pending begin end pending' begin' end' → Follows pending begin end is b e →
    b < limit → begin < limit
reached limit pending begin end pending' begin' end' is b e step call before = grind arith

-- after a call that has returned in the prefix
step-returned : (limit : ℕ) (pending : Bool) (begin end : ℕ) (pending' : Bool) (begin' end' : ℕ)
    (is : Bool) (b e : ℕ) →
    InStep limit pending begin end pending' begin' end' → Follows pending begin end is b e →
    is ≡ false → e < limit →
    InStep limit (pending || is) (max begin b) (max end e) (pending' || is)
    (max begin' b) (max end' e)
step-returned limit pending begin end pending' begin' end' is b e step call returned before =
    let was = settled limit pending begin end pending' begin' end' is b e step call
    returned before in
    let same = step.same was.1 in
    let free = step.free was.1 was.0 in
    record {
      order = omega (arith, step.order, call.ordered);
      same = λ less. omega (arith, same);
      free = grind (arith, or-false);
      under = grind (arith, or-false);
    }

-- after a call that is under way in the prefix
step-begun : (limit : ℕ) (pending : Bool) (begin end : ℕ) (pending' : Bool) (begin' end' : ℕ)
    (is : Bool) (b e : ℕ) →
    InStep limit pending begin end pending' begin' end' → Follows pending begin end is b e →
    (is ≡ true) ⊎ (limit ≤ e) → b < limit →
    InStep limit (pending || is) (max begin b) (max end e) (pending' || true) (max begin' b)
    (max end' (2 ^ 64 - 1))
step-begun limit pending begin end pending' begin' end' is b e step call late before =
    let was = reached limit pending begin end pending' begin' end' is b e step call before in
    let same = step.same was in
    record {
      order = omega (arith, step.order, call.ordered);
      same = λ less. omega (arith, same);
      free = grind (arith, or-true);
      under = grind (arith, or-true);
    }

-- after a call that has not begun in the prefix
step-later : (limit : ℕ) (pending : Bool) (begin end : ℕ) (pending' : Bool) (begin' end' : ℕ)
    (is : Bool) (b e : ℕ) →
    InStep limit pending begin end pending' begin' end' → Follows pending begin end is b e →
    limit ≤ b →
    InStep limit (pending || is) (max begin b) (max end e) pending' begin' end'
step-later limit pending begin end pending' begin' end' is b e step call later = record {
  order = omega (arith, step.order, call.ordered);
  same = λ less. absurd (omega (arith, less, later));
  free = λ less p. absurd (omega (arith, less, later));
  under = λ less p. absurd (omega (arith, less, later));
}

-- whether a call of one process changes what is known of another
step-own : (own : Bool) (limit : ℕ) (pending : Bool) (begin end : ℕ) (pending' : Bool)
    (begin' end' : ℕ) (is is' : Bool) (b e e' : ℕ) →
    InStep limit pending begin end pending' begin' end' →
    (own ≡ true → InStep limit (pending || is) (max begin b) (max end e) (pending' || is')
    (max begin' b) (max end' e')) →
    InStep limit (pending || (own && is)) (max begin (if own then b else 0))
    (max end (if own then e else 0))
    (pending' || (own && is')) (max begin' (if own then b else 0))
    (max end' (if own then e' else 0))
step-own true limit pending begin end pending' begin' end' is is' b e e' step next = next refl
step-own false limit pending begin end pending' begin' end' is is' b e e' step next =
    rw (
      or-false pending,
      or-false pending',
      max-zero begin,
      max-zero end,
      max-zero begin',
      max-zero end',
    ) step

later-own : (own : Bool) (limit : ℕ) (pending : Bool) (begin end : ℕ) (pending' : Bool)
    (begin' end' : ℕ) (is : Bool) (b e : ℕ) →
    InStep limit pending begin end pending' begin' end' →
    (own ≡ true → InStep limit (pending || is) (max begin b) (max end e) pending' begin' end') →
    InStep limit (pending || (own && is)) (max begin (if own then b else 0))
    (max end (if own then e else 0)) pending' begin' end'
later-own true limit pending begin end pending' begin' end' is b e step next = next refl
later-own false limit pending begin end pending' begin' end' is b e step next =
    rw (or-false pending, max-zero begin, max-zero end) step

-- ---- all processes

abbrev limit_of : ℕ → Bool → ℕ
limit_of moment true = moment
limit_of moment false = moment + 1

returned-facts : (moment : ℕ) (held : Bool) (o : Operation) → had_returned moment held o ≡ true →
    (is_pending o.outcome ≡ false) × (o.end < limit_of moment held)
returned-facts moment true o is = grind (arith, nat_tests)
returned-facts moment false o is = grind (arith, nat_tests)

late-facts : (moment : ℕ) (held : Bool) (o : Operation) → had_returned moment held o ≡ false →
    (is_pending o.outcome ≡ true) ⊎ (limit_of moment held ≤ o.end)
late-facts moment true o is = grind (arith, nat_tests)
late-facts moment false o is = grind (arith, nat_tests)

begun-facts : (moment : ℕ) (held : Bool) (b : ℕ) → nat_le b moment ≡ true →
    (held ≡ true → b ≡ moment → ⊥) → b < limit_of moment held
begun-facts moment true b is apart = let other = apart refl in grind (arith, nat_tests)
begun-facts moment false b is apart = grind (arith, nat_tests)

later-facts : (moment : ℕ) (held : Bool) (b : ℕ) → nat_le b moment ≡ false →
    limit_of moment held ≤ b
later-facts moment true b is = grind (arith, nat_tests)
later-facts moment false b is = grind (arith, nat_tests)

-- what is known of each process in the history and in its prefix
record AreInStep (moment : ℕ) (held : ℕ → Bool) (k f : Known) : Type 0 where
  pub each : (p : ℕ) → InStep (limit_of moment (held p)) (k.pending p) (k.begin p) (k.end p)
      (f.pending p) (f.begin p) (f.end p)

-- what is known of a call that follows others of its process
abbrev FollowsAt : Known → ℕ → Operation → Type 0
FollowsAt k p o = Follows (k.pending p) (k.begin p) (k.end p) (is_pending o.outcome) o.begin o.end

follows-at : (k : Known) (c : Called) → Fits c → fault_in k c ≡ None →
    FollowsAt k c.process c.operation
follows-at k c fits none =
    follows (k.pending c.process) (k.begin c.process) (k.end c.process) c fits
    (free-of (k.pending c.process) (record { begin = k.begin c.process; end = k.end c.process }) c
    none)

after-returned : (moment : ℕ) (held : ℕ → Bool) (k f : Known) (c : Called) →
    AreInStep moment held k f → FollowsAt k c.process c.operation →
    is_pending c.operation.outcome ≡ false → c.operation.end < limit_of moment (held c.process) →
    AreInStep moment held (after k c) (after f c)
after-returned moment held k f c step call returned before = record {
  each = λ p. step-own (c.process == p) _ _ _ _ _ _ _ _ _ _ _ _ (step.each p) (λ t.
      let same : c.process ≡ p = eqb-true _ _ t in
      step-returned _ _ _ _ _ _ _ _ _ _ (step.each p) (subst (λ q. FollowsAt k q c.operation)
      same call) returned
      (subst (λ q. c.operation.end < limit_of moment (held q)) same before));
}

after-begun : (moment : ℕ) (held : ℕ → Bool) (k f : Known) (c : Called) →
    AreInStep moment held k f → FollowsAt k c.process c.operation →
    (is_pending c.operation.outcome ≡ true) ⊎ (limit_of moment (held c.process) ≤ c.operation.end) →
    c.operation.begin < limit_of moment (held c.process) →
    AreInStep moment held (after k c) (after f (under_way c))
after-begun moment held k f c step call late before = record {
  each = λ p. step-own (c.process == p) _ _ _ _ _ _ _ _ _ _ _ _ (step.each p) (λ t.
      let same : c.process ≡ p = eqb-true _ _ t in
      step-begun _ _ _ _ _ _ _ _ _ _ (step.each p)
      (subst (λ q. FollowsAt k q c.operation) same call)
      (subst (λ q. (is_pending c.operation.outcome ≡ true) ⊎
      (limit_of moment (held q) ≤ c.operation.end)) same late)
      (subst (λ q. c.operation.begin < limit_of moment (held q)) same before));
}

after-later : (moment : ℕ) (held : ℕ → Bool) (k f : Known) (c : Called) →
    AreInStep moment held k f → FollowsAt k c.process c.operation →
    limit_of moment (held c.process) ≤ c.operation.begin → AreInStep moment held (after k c) f
after-later moment held k f c step call later = record {
  each = λ p. later-own (c.process == p) _ _ _ _ _ _ _ _ _ _ (step.each p) (λ t.
      let same : c.process ≡ p = eqb-true _ _ t in
      step-later _ _ _ _ _ _ _ _ _ _ (step.each p)
      (subst (λ q. FollowsAt k q c.operation) same call)
      (subst (λ q. limit_of moment (held q) ≤ c.operation.begin) same later));
}

-- ---- the first call of a prefix has no fault

head-returned : (limit : ℕ) (pending : Bool) (begin end : ℕ) (pending' : Bool)
    (begin' end' : ℕ) (c : Called) →
    InStep limit pending begin end pending' begin' end' →
    Follows pending begin end (is_pending c.operation.outcome) c.operation.begin
    c.operation.end →
    is_pending c.operation.outcome ≡ false → c.operation.end < limit →
    fault_behind pending (record { begin = begin; end = end }) c ≡ None →
    fault_behind pending' (record { begin = begin'; end = end' }) c ≡ None
head-returned limit pending begin end pending' begin' end' c step call returned before none =
    let was = settled limit pending begin end pending' begin' end' _ _ _ step call
    returned before in
    let free = step.free was.1 was.0 in
    same-fault pending' pending begin' begin end' end c (was.0 ∙ sym free.0)
    (step.same was.1) free.1 ∙ none

begun-behind : (limit : ℕ) (pending : Bool) (begin end : ℕ) (pending' : Bool) (begin' end' : ℕ)
    (is : Bool) (b e : ℕ) →
    InStep limit pending begin end pending' begin' end' → Follows pending begin end is b e →
    (is ≡ true) ⊎ (limit ≤ e) → b < limit →
    pending' ≡ true → (b ≡ begin') × (end' ≡ 2 ^ 64 - 1)
begun-behind limit pending begin end pending' begin' end' is b e step call late before is_pending' =
    let was = reached limit pending begin end pending' begin' end' is b e step call before in
    let same = step.same was in
    let under = step.under was is_pending' in
    (grind arith, under.1)

begun-over : (limit : ℕ) (pending : Bool) (begin end : ℕ) (pending' : Bool) (begin' end' : ℕ)
    (is : Bool) (b e : ℕ) →
    InStep limit pending begin end pending' begin' end' → Follows pending begin end is b e →
    (is ≡ true) ⊎ (limit ≤ e) → b < limit →
    pending' ≡ false → (end' ≤ b) ⊎ ((b ≡ begin') × (2 ^ 64 - 1 ≡ end'))
begun-over limit pending begin end pending' begin' end' is b e step call late before returned =
    let was = reached limit pending begin end pending' begin' end' is b e step call before in
    let same = step.same was in
    let free = step.free was returned in
    grind arith

head-begun : (limit : ℕ) (pending : Bool) (begin end : ℕ) (pending' : Bool)
    (begin' end' : ℕ) (c : Called) →
    InStep limit pending begin end pending' begin' end' →
    Follows pending begin end (is_pending c.operation.outcome) c.operation.begin
    c.operation.end →
    (is_pending c.operation.outcome ≡ true) ⊎ (limit ≤ c.operation.end) →
    c.operation.begin < limit →
    is_payload c.operation.call Done c.operation.given.items ≡ true →
    fault_behind pending' (record { begin = begin'; end = end' }) (under_way c) ≡ None
head-begun limit pending begin end true begin' end' c step call late before given =
    let known = begun-behind limit pending begin end true begin' end' _ _ _ step call
    late before refl in
    none-of true (record { begin = begin'; end = end' }) (under_way c) (record {
      behind = grind (arith, nat_tests);
      over = grind (arith, nat_tests);
      ordered = grind (arith, nat_tests);
      given = given;
    })
head-begun limit pending begin end false begin' end' c step call late before given =
    let known = begun-over limit pending begin end false begin' end' _ _ _ step call
    late before refl in
    none-of false (record { begin = begin'; end = end' }) (under_way c) (record {
      behind = refl;
      over = grind (arith, nat_tests);
      ordered = grind (arith, nat_tests);
      given = given;
    })

-- ---- all calls

-- no process whose calls are held makes a call at the time
abbrev AreApart : ℕ → (ℕ → Bool) → List Called → Type 0
AreApart moment held calls = (p : ℕ) → held p ≡ true → list_any (begins_at p moment) calls ≡ false

apart-first : (moment : ℕ) (held : ℕ → Bool) (c : Called) (calls : List Called) →
    AreApart moment held (c ∷ calls) → held c.process ≡ true → c.operation.begin ≡ moment → ⊥
apart-first moment held c calls apart is same = let none = apart c.process is in
    grind (arith, nat_tests)

apart-rest : (moment : ℕ) (held : ℕ → Bool) (c : Called) (calls : List Called) →
    AreApart moment held (c ∷ calls) → AreApart moment held calls
apart-rest moment held c calls apart p is = let none = apart p is in grind arith

one-more : (returned begun : Bool) (moment : ℕ) (held : ℕ → Bool) (k f : Known) (c : Called)
    (front : List Called) →
    had_returned moment (held c.process) c.operation ≡ returned →
    nat_le c.operation.begin moment ≡ begun → AreInStep moment held k f → Fits c →
    (held c.process ≡ true → c.operation.begin ≡ moment → ⊥) → fault_in k c ≡ None →
    ((g : Known) → AreInStep moment held (after k c) g → Formed g front) →
    Formed f (if returned then c ∷ front else if begun then under_way c ∷ front else front)
one-more true begun moment held k f c front returned_is begun_is step fits apart none rest =
    let facts = returned-facts moment (held c.process) c.operation returned_is in
    let call = follows-at k c fits none in (
      head-returned (limit_of moment (held c.process)) _ _ _ _ _ _ c (step.each c.process) call
          facts.0 facts.1 none,
      rest (after f c) (after-returned moment held k f c step call facts.0 facts.1),
    )
one-more false true moment held k f c front returned_is begun_is step fits apart none rest =
    let late = late-facts moment (held c.process) c.operation returned_is in
    let before = begun-facts moment (held c.process) c.operation.begin begun_is apart in
    let call = follows-at k c fits none in
    let free = free-of (k.pending c.process) (record {
      begin = k.begin c.process;
      end = k.end c.process;
    }) c none in (
      head-begun (limit_of moment (held c.process)) _ _ _ _ _ _ c (step.each c.process) call late
          before free.given,
      rest (after f (under_way c)) (after-begun moment held k f c step call late before),
    )
one-more false false moment held k f c front returned_is begun_is step fits apart none rest =
    rest f (after-later moment held k f c step (follows-at k c fits none)
    (later-facts moment (held c.process) c.operation.begin begun_is))

front-formed : (moment : ℕ) (held : ℕ → Bool) (k f : Known) (calls : List Called) →
    AreInStep moment held k f → AllFit calls → AreApart moment held calls → Formed k calls →
    Formed f (front_by moment held calls)
front-formed moment held k f [] step fits apart formed = tt
front-formed moment held k f (c ∷ calls) step fits apart formed =
    one-more (had_returned moment (held c.process) c.operation) (nat_le c.operation.begin moment)
    moment held k f c (front_by moment held calls) refl refl step fits.0
    (apart-first moment held c calls apart) formed.0
    (λ g next. front-formed moment held (after k c) g calls next fits.1
    (apart-rest moment held c calls apart) formed.1)

nothing-in-step : (moment : ℕ) (held : ℕ → Bool) → AreInStep moment held nothing nothing
nothing-in-step moment held = record {
  each = λ p. record {
    order = omega arith;
    same = λ less. refl;
    free = λ less is. (refl, refl, less);
    under = λ less is. absurd (let no : ⊥ = cc in no);
  };
}

front-by-formed : (moment : ℕ) (held : ℕ → Bool) (calls : List Called) → AllFit calls →
    AreApart moment held calls → IsWellFormed calls → IsWellFormed (front_by moment held calls)
front-by-formed moment held calls fits apart formed n =
    sym (start (front_by moment held calls) n)
    ∙ of-formed nothing (front_by moment held calls)
    (front-formed moment held nothing nothing calls (nothing-in-step moment held) fits apart
    (formed-of nothing calls (λ m. start calls m ∙ formed m))) n

apart-at : (a b : Bool) → (a && not b) ≡ true → b ≡ false
apart-at true false is = refl
apart-at true true is = absurd (let no : ⊥ = cc in no)
apart-at false b is = absurd (let no : ⊥ = cc in no)

pub front-until-formed : (last : Return) (calls : List Called) → AllFit calls → IsWellFormed calls →
    IsWellFormed (front_until last calls)
front-until-formed last calls fits formed =
    front-by-formed last.0 (λ p. is_held last p calls) calls fits
    (λ p is. apart-at (list_any (ends_at p last.0) (drop (last.1 + 1) calls))
    (list_any (begins_at p last.0) calls) is) formed
