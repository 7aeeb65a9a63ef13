-- Renumbering gives this library's numbers, and leaves them unchanged.
use Rattle.std.proofs.Common.{◌≡◌, ◌≢◌, ◌⊎◌, inl, inr, ℕ, ◌<◌, ◌≤◌, ◌==◌, Bool, true, false, not, List, [], ◌∷◌, length, get_or, Option, Some, None, is_some, is_none, if◌then◌else◌, refl, sym, ◌∙◌, ap, subst, arith, eqb-true, eq-eqb, ne_eqb, nat_lt, position, slice_set, unwrap_or}
use Rattle.std.specs.List.{filter, position_or_len}
use Rattle.std.specs.Option.{option_eq}
use Rattle.std.proofs.lemmas.Bool.{eqb-false}
use Rattle.std.proofs.lemmas.Bool.Decides.{nat_tests}
use Rattle.std.proofs.lemmas.List.{get_or-replicate, get_or-set_other, get_or-set_same, length-set}
use Rattle.std.proofs.lemmas.List.Sums.{fails_before_first, passes_at_first, position_or_len_is, prefix_len-le-length}
use Rattle.mq_model.specs.Messages.{is_in}
use Rattle.mq_model.specs.declared.entries.Call.{Call}
use Rattle.mq_model.specs.declared.entries.Call.TheVariants.{MqOpen, MqClose, MqUnlink, MqSend, MqReceive, MqTimedSend, MqTimedReceive, MqGetattr, MqSetattr, MqNotify, NextNotice, Collect, Withdraw}
use Rattle.mq_model.proofs.Places.{split, is_in-filter}
use Rattle.histories.specs.declared.operation.Operation.{Operation}
use Rattle.histories.specs.declared.operation.Outcome.{Outcome}
use Rattle.histories.specs.declared.operation.Outcome.TheVariants.{Pending, Done, Opened, Got, Attributes, Notice, Refused}
use Rattle.history_judge.specs.Descriptors.{Numbers, after_closed, after_opened, lowest_free, no_numbers, numbers_after, own_call, own_number, own_operation, own_outcome, renamed}
use Rattle.history_judge.specs.OwnNumbers.{HaveOwnNumbers, IsLowestFree, NamesOwn, held_then}

-- the number of the implementation at an own number
abbrev at : Numbers → ℕ → Option ℕ
at numbers i = get_or numbers i None

abbrev is_number : ℕ → Option ℕ → Bool
is_number d number = option_eq ◌==◌ number (Some d)

-- the first place of 16 at which a test passes, or 16
first-is : (p : Option ℕ → Bool) (numbers : Numbers) → length numbers ≡ 16 →
    unwrap_or (position p numbers) 16 ≡ position_or_len p numbers
first-is p numbers count = grind (arith, prefix_len-le-length)

pub first-at : (p : Option ℕ → Bool) (numbers : Numbers) (i : ℕ) → length numbers ≡ 16 → i ≤ 16 →
    ((k : ℕ) → k < i → p (at numbers k) ≡ false) → (i < 16 → p (at numbers i) ≡ true) →
    unwrap_or (position p numbers) 16 ≡ i
first-at p numbers i count le before here = grind (arith, first-is, position_or_len_is)

other-number : (b : Bool) (k d : ℕ) → (k ≡ d → ⊥) → is_number d (if b then Some k else None) ≡ false
other-number b k d ne = grind arith

-- renumbering of numbers: this library's number i is at i if a number was there
-- ----------------------

pub record AreOwned (numbers own : Numbers) : Type 0 where
  pub count : length numbers ≡ 16
  pub own_count : length own ≡ 16
  pub each : (i : ℕ) → i < 16 → at own i ≡ (if is_some (at numbers i) then Some i else None)

none-owned : (o : Option ℕ) (k : ℕ) → is_none (if is_some o then Some k else None) ≡ is_none o
none-owned o k = grind arith

some-number : (d : ℕ) (o : Option ℕ) → is_number d o ≡ true → is_some o ≡ true
some-number d o e = grind arith

module _ (numbers own : Numbers) (r : AreOwned numbers own) where
  number-again : (d : ℕ) → own_number own (own_number numbers d) ≡ own_number numbers d
  number-again d =
      let j : ℕ = position_or_len (is_number d) numbers in
      let is : own_number numbers d ≡ j = first-is (is_number d) numbers r.count in
      let count : length numbers ≡ 16 = r.count in
      let le : j ≤ length numbers = prefix_len-le-length (λ x. not (is_number d x)) numbers in
      let again : own_number own j ≡ j =
      first-at (is_number j) own j r.own_count (omega arith)
      (λ k lt. let few : k < 16 = omega arith in rw (r.each k few)
      (other-number (is_some (at numbers k)) k j (λ e. omega arith)))
      (λ lt. let here : is_number d (at numbers j) ≡ true = passes_at_first (is_number d) numbers
      None (omega arith) in
      let some : is_some (at numbers j) ≡ true = some-number d (at numbers j) here in
      rw (r.each j lt, some) (eq-eqb j j refl))
      in
      ap (own_number own) is ∙ again ∙ sym is

  lowest-again : lowest_free own ≡ lowest_free numbers
  lowest-again =
      let j : ℕ = position_or_len is_none numbers in
      let is : lowest_free numbers ≡ j = first-is is_none numbers r.count in
      let count : length numbers ≡ 16 = r.count in
      let le : j ≤ length numbers = prefix_len-le-length (λ (x : Option ℕ). not (is_none x)) numbers
      in
      let again : lowest_free own ≡ j =
      first-at is_none own j r.own_count (omega arith)
      (λ k lt. let few : k < 16 = omega arith in rw (r.each k few) (none-owned (at numbers k) k ∙
      fails_before_first is_none numbers k None lt))
      (λ lt. rw (r.each j lt) (none-owned (at numbers j) j ∙ passes_at_first is_none numbers
      None (omega arith)))
      in
      again ∙ sym is

  call-again : (call : Call) → own_call own (own_call numbers call) ≡ own_call numbers call
  call-again (MqOpen flags attr) = refl
  call-again (MqClose d) = ap (λ (k : ℕ). MqClose k) (number-again d)
  call-again MqUnlink = refl
  call-again (MqSend d prio len) = ap (λ (k : ℕ). MqSend k prio len) (number-again d)
  call-again (MqReceive d room) = ap (λ (k : ℕ). MqReceive k room) (number-again d)
  call-again (MqTimedSend d prio len until now) = ap (λ (k : ℕ). MqTimedSend k prio len until now)
      (number-again d)
  call-again (MqTimedReceive d room until now) = ap (λ (k : ℕ). MqTimedReceive k room until now)
      (number-again d)
  call-again (MqGetattr d) = ap (λ (k : ℕ). MqGetattr k) (number-again d)
  call-again (MqSetattr d nonblock) = ap (λ (k : ℕ). MqSetattr k nonblock) (number-again d)
  call-again (MqNotify d value) = ap (λ (k : ℕ). MqNotify k value) (number-again d)
  call-again NextNotice = refl
  call-again Collect = refl
  call-again (Withdraw now) = refl

  outcome-again : (outcome : Outcome) → own_outcome own (own_outcome numbers outcome) ≡
      own_outcome numbers outcome
  outcome-again (Opened d) = ap (λ (k : ℕ). Opened k) lowest-again
  outcome-again Pending = refl
  outcome-again Done = refl
  outcome-again (Got prio message) = refl
  outcome-again (Attributes s) = refl
  outcome-again (Notice v) = refl
  outcome-again (Refused f) = refl

  set-owned : (i : ℕ) → i < 16 → (o : Option ℕ) →
      AreOwned (slice_set numbers i o) (slice_set own i (if is_some o then Some i else None))
  set-owned i few o =
      let count : length numbers ≡ 16 = r.count in
      let own_count : length own ≡ 16 = r.own_count in
      record {
        count = length-set numbers i o ∙ r.count;
        own_count = length-set own i (if is_some o then Some i else None) ∙ r.own_count;
        each = λ k lt. split (k == i)
            (λ t. let same : k ≡ i = eqb-true _ _ t in
            subst (λ (j : ℕ). at (slice_set own i (if is_some o then Some i else None)) j ≡
            (if is_some (at (slice_set numbers i o) j) then Some j else None)) (sym same)
            (get_or-set_same own i (if is_some o then Some i else None) None (omega arith) ∙
            sym (ap (λ (x : Option ℕ). if is_some x then Some i else None)
            (get_or-set_same numbers i o None (omega arith)))))
            (λ f. let ne : k ≢ i = eqb-false _ _ f in
            get_or-set_other own i k (if is_some o then Some i else None) None ne ∙ r.each k lt ∙
            sym (ap (λ (x : Option ℕ). if is_some x then Some k else None)
            (get_or-set_other numbers i k o None ne)));
      }

  opened-owned : (i d : ℕ) → AreOwned (after_opened numbers i d) (after_opened own i i)
  opened-owned i d = split (nat_lt i 16)
      (λ t. let few : i < 16 = grind (arith, nat_tests) in rw t (set-owned i few (Some d)))
      (λ f. rw f r)

  closed-owned : (call : Call) → AreOwned (after_closed numbers call) (after_closed own call)
  closed-owned (MqClose d) = split (nat_lt d 16)
      (λ t. let few : d < 16 = grind (arith, nat_tests) in rw t (set-owned d few None))
      (λ f. rw f r)
  closed-owned call = r

  after-owned : (call : Call) (outcome : Outcome) →
      AreOwned (numbers_after numbers (own_call numbers call) outcome)
      (numbers_after own (own_call own (own_call numbers call)) (own_outcome numbers outcome))
  after-owned call (Opened d) =
      subst (λ (j : ℕ). AreOwned (after_opened numbers (lowest_free numbers) d)
      (after_opened own j (lowest_free numbers))) (sym lowest-again)
      (opened-owned (lowest_free numbers) d)
  after-owned call Done =
      subst (λ (c : Call). AreOwned (after_closed numbers (own_call numbers call))
      (after_closed own c)) (sym (call-again call)) (closed-owned (own_call numbers call))
  after-owned call outcome = r

pub renamed-again : (numbers own : Numbers) → AreOwned numbers own → (operations : List Operation) →
    renamed own (renamed numbers operations) ≡ renamed numbers operations
renamed-again numbers own r [] = refl
renamed-again numbers own r (o ∷ operations) =
    let head : own_operation own (own_operation numbers o) ≡ own_operation numbers o =
    λ i. record o {
      call = call-again numbers own r o.call i;
      outcome = outcome-again numbers own r o.outcome i;
    } in
    let rest = renamed-again (numbers_after numbers (own_call numbers o.call) o.outcome)
    (numbers_after own (own_call own (own_call numbers o.call)) (own_outcome numbers o.outcome))
    (after-owned numbers own r o.call o.outcome) operations in
    λ i. head i ∷ rest i

none-at : (i : ℕ) → i < 16 → at no_numbers i ≡ None
none-at i lt = get_or-replicate 16 i None None lt

pub none-owned-yet : AreOwned no_numbers no_numbers
none-owned-yet = grind (arith, none-at)

-- numbers that are own already --------------------------------------------------------------------

pub record Holds (held : List ℕ) (numbers : Numbers) : Type 0 where
  pub count : length numbers ≡ 16
  pub each : (i : ℕ) → i < 16 → at numbers i ≡ (if is_in held i then Some i else None)
  pub few : (i : ℕ) → is_in held i ≡ true → i < 16

without-in : (d : ℕ) (held : List ℕ) (i : ℕ) → is_in (filter (λ k. not (k == d)) held) i ≡
    (if i == d then false else is_in held i)
without-in d [] i = split (i == d) (λ t. rw t refl) (λ f. rw f refl)
without-in d (x ∷ held) i = grind (arith, eqb-true, eqb-false, without-in d held i)

module _ (held : List ℕ) (numbers : Numbers) (h : Holds held numbers) where
  number-stays : (d : ℕ) → (is_in held d ≡ true) ⊎ (d ≡ 16) → own_number numbers d ≡ d
  number-stays d (inl inside) =
      let few : d < 16 = h.few d inside in
      first-at (is_number d) numbers d h.count (omega arith)
      (λ k lt. let low : k < 16 = omega arith in rw (h.each k low) (other-number (is_in held k) k d
      (λ e. omega arith)))
      (λ lt. rw (h.each d lt, inside) (eq-eqb d d refl))
  number-stays d (inr e) =
      first-at (is_number d) numbers d h.count (omega arith)
      (λ k lt. let low : k < 16 = omega arith in rw (h.each k low) (other-number (is_in held k) k d
      (λ e. omega arith)))
      (λ lt. absurd (omega arith))

  lowest-stays : (d : ℕ) → IsLowestFree held d → lowest_free numbers ≡ d
  lowest-stays d l =
      let few : d < 16 = l.few in
      first-at is_none numbers d h.count (omega arith)
      (λ k lt. let low : k < 16 = omega arith in rw (h.each k low, l.below k lt) refl)
      (λ lt. rw (h.each d lt, l.free) refl)

  call-stays : (call : Call) → NamesOwn held call → own_call numbers call ≡ call
  call-stays (MqOpen flags attr) names = refl
  call-stays (MqClose d) names = ap (λ (k : ℕ). MqClose k) (number-stays d (names d refl))
  call-stays MqUnlink names = refl
  call-stays (MqSend d prio len) names = ap (λ (k : ℕ). MqSend k prio len)
      (number-stays d (names d refl))
  call-stays (MqReceive d room) names = ap (λ (k : ℕ). MqReceive k room)
      (number-stays d (names d refl))
  call-stays (MqTimedSend d prio len until now) names =
      ap (λ (k : ℕ). MqTimedSend k prio len until now) (number-stays d (names d refl))
  call-stays (MqTimedReceive d room until now) names =
      ap (λ (k : ℕ). MqTimedReceive k room until now) (number-stays d (names d refl))
  call-stays (MqGetattr d) names = ap (λ (k : ℕ). MqGetattr k) (number-stays d (names d refl))
  call-stays (MqSetattr d nonblock) names = ap (λ (k : ℕ). MqSetattr k nonblock)
      (number-stays d (names d refl))
  call-stays (MqNotify d value) names = ap (λ (k : ℕ). MqNotify k value)
      (number-stays d (names d refl))
  call-stays NextNotice names = refl
  call-stays Collect names = refl
  call-stays (Withdraw now) names = refl

  outcome-stays : (outcome : Outcome) → ((d : ℕ) → outcome ≡ Opened d → IsLowestFree held d) →
      own_outcome numbers outcome ≡ outcome
  outcome-stays (Opened d) lowest = ap (λ (k : ℕ). Opened k) (lowest-stays d (lowest d refl))
  outcome-stays Pending lowest = refl
  outcome-stays Done lowest = refl
  outcome-stays (Got prio message) lowest = refl
  outcome-stays (Attributes s) lowest = refl
  outcome-stays (Notice v) lowest = refl
  outcome-stays (Refused f) lowest = refl

  opened-holds : (d : ℕ) → d < 16 → Holds (d ∷ held) (slice_set numbers d (Some d))
  opened-holds d few =
      let count : length numbers ≡ 16 = h.count in
      record {
        count = length-set numbers d (Some d) ∙ h.count;
        each = λ i lt. split (d == i)
            (λ t. let same : d ≡ i = eqb-true _ _ t in
            rw t (subst (λ (j : ℕ). at (slice_set numbers d (Some d)) j ≡ Some j) same
            (get_or-set_same numbers d (Some d) None (omega arith))))
            (λ f. let ne : d ≢ i = eqb-false _ _ f in
            rw f (get_or-set_other numbers d i (Some d) None (λ e. ne (sym e)) ∙ h.each i lt));
        few = λ i inside. split (d == i)
            (λ t. let same : d ≡ i = eqb-true _ _ t in omega arith)
            (λ f. h.few i (rw f at inside));
      }

  closed-holds : (d : ℕ) → (is_in held d ≡ true) ⊎ (d ≡ 16) →
      Holds (filter (λ k. not (k == d)) held) (after_closed numbers (MqClose d))
  closed-holds d names = split (nat_lt d 16)
      (λ t. let few : d < 16 = grind (arith, nat_tests) in
      let count : length numbers ≡ 16 = h.count in
      rw t (record {
        count = length-set numbers d None ∙ h.count;
        each = λ i lt. split (i == d)
            (λ y. let same : i ≡ d = eqb-true _ _ y in
            rw (without-in d held i, y) (subst (λ (j : ℕ). at (slice_set numbers d None) j ≡ None)
            (sym same) (get_or-set_same numbers d None None (omega arith))))
            (λ n. let ne : i ≢ d = eqb-false _ _ n in rw (without-in d held i, n)
            (get_or-set_other numbers d i None None ne ∙ h.each i lt));
        few = small;
      }))
      (λ f. let past : 16 ≤ d = grind (arith, nat_tests) in
      rw f (record {
        count = h.count;
        each = λ i lt. rw (without-in d held i, ne_eqb i d (λ e. omega arith)) (h.each i lt);
        few = small;
      }))
    where
      small : (i : ℕ) → is_in (filter (λ k. not (k == d)) held) i ≡ true → i < 16
      small i inside = h.few i (is_in-filter (λ k. not (k == d)) held i inside).0

  after-holds : (call : Call) (outcome : Outcome) → NamesOwn held call →
      ((d : ℕ) → outcome ≡ Opened d → IsLowestFree held d) →
      Holds (held_then held call outcome) (numbers_after numbers call outcome)
  after-holds call (Opened d) names lowest =
      let l = lowest d refl in
      let yes : nat_lt d 16 ≡ true = few-true d l.few in
      subst (λ (j : ℕ). Holds (d ∷ held) (after_opened numbers j d)) (sym (lowest-stays d l))
      (rw yes (opened-holds d l.few))
    where
      few-true : (d : ℕ) → d < 16 → nat_lt d 16 ≡ true
      few-true d lt = grind (arith, nat_tests)
  after-holds (MqClose d) Done names lowest = closed-holds d (names d refl)
  after-holds call outcome names lowest = h

pub renamed-stays : (held : List ℕ) (numbers : Numbers) → Holds held numbers →
    (operations : List Operation) → HaveOwnNumbers held operations →
    renamed numbers operations ≡ operations
renamed-stays held numbers h [] own = refl
renamed-stays held numbers h (o ∷ operations) own =
    let same = call-stays held numbers h o.call own.0 in
    let head : own_operation numbers o ≡ o = λ i. record o {
      call = same i;
      outcome = outcome-stays held numbers h o.outcome own.1 i;
    } in
    let next : Holds (held_then held o.call o.outcome)
    (numbers_after numbers (own_call numbers o.call) o.outcome) =
    subst (λ (c : Call). Holds (held_then held o.call o.outcome)
    (numbers_after numbers c o.outcome)) (sym same)
    (after-holds held numbers h o.call o.outcome own.0 own.1) in
    let rest = renamed-stays (held_then held o.call o.outcome)
    (numbers_after numbers (own_call numbers o.call) o.outcome) next operations own.2 in
    λ i. head i ∷ rest i

pub none-held : Holds [] no_numbers
none-held = record { count = refl; each = none-at; few = λ i inside. absurd (cc) }
