-- Independent steps make independent calls.
use Rattle.std.proofs.Common.{◌≡◌, ◌⊎◌, inl, inr, ℕ, ◌==◌, Bool, true, false, ◌&&◌, ◌||◌, not, Option, Some, List, refl, sym, ◌∙◌, ap, eqb-true, eq-eqb, arith, nat_le}
use Rattle.std.specs.List.{Contains, list_all}
use Rattle.std.proofs.lemmas.Bool.{and_parts, not-true, or_cases, or_left, or_right}
use Rattle.std.proofs.lemmas.List.Sums.{AllPass-from_list_all}
use Rattle.mq_model.specs.Record.{Past, Queue}
use Rattle.mq_model.specs.Threads.{shares}
use Rattle.mq_model.proofs.Places.{split}
use Rattle.mq_equivalence.specs.Runs.{Request}
use Rattle.mq_commutation.specs.Independence as calls
use Rattle.mq_commutation.specs.Independence.{differ, only_reads, queue_touched, whose_notices}
use Rattle.mq_commutation.specs.Commuting.{is_covered}
use Rattle.exploration.specs.Dependence as steps
use Rattle.exploration.specs.Dependence.{commute, commute_on, is_apart, is_receive, is_send, is_wait}
use Rattle.exploration.specs.declared.deed.Deed.{Deed}
use Rattle.exploration.specs.declared.deed.Effect.{Effect}
use Rattle.mq_commutation.specs.ExploredCalls.{IsCall, IsReceive, IsSend, OwnThreads}
use Rattle.mq_commutation.proofs.Collects.{names-off}

-- what holds of each element holds of one
among : {X : Type 0} (p : X → Bool) (xs : List X) (x : X) → list_all p xs ≡ true → Contains xs x →
    p x ≡ true
among {X} p xs x all (k, within, at) = grind (arith, AllPass-from_list_all)

apart-processes : (a b : Request) (d e : Deed) → OwnThreads a b d e →
    not (d.choice.thread == e.choice.thread) ≡ true → not (shares a.process b.process) ≡ true
apart-processes a b d e threads apart = grind (arith, eq-eqb, eqb-true, not-true)

apart-queues : (object : ℕ → ℕ) (o u : Option ℕ) (m n : ℕ) → ((q : ℕ) → o ≡ Some q → object q ≡ m) →
    ((q : ℕ) → u ≡ Some q → object q ≡ n) → not (m == n) ≡ true → differ o u ≡ true
apart-queues object (Some i) (Some j) m n of_o of_u ne =
    split (i == j)
    (λ t.
    let one : m ≡ n = sym (of_o i refl) ∙ ap object (eqb-true i j t) ∙ of_u j refl in
    let same : (m == n) ≡ true = eq-eqb m n one in
    let not_same = not-true _ ne in absurd (cc))
    (λ f. rw f refl)
apart-queues object _ _ m n of_o of_u ne = refl

record Passing (x y : Effect) : Type 0 where
  send : is_send x.kind ≡ true
  receive : is_receive y.kind ≡ true
  low : nat_le x.priority y.priority ≡ true

calls-pass : (past : Past) (a b : Request) (x y : Effect) → IsSend past a x → IsReceive past b y →
    nat_le x.priority y.priority ≡ true → calls.passes past a b ≡ true
calls-pass past a b x y s r low = grind arith

-- the calls are about different queues, or both only read, or a send and a receive on one queue do
-- not affect each other
abbrev Meet : Past → Request → Request → Type 0
Meet past a b =
    (differ (queue_touched past a) (queue_touched past b) || only_reads a.call && only_reads b.call
    || calls.passes past a b || calls.passes past b a) ≡ true

meet-apart : (past : Past) (a b : Request) → differ (queue_touched past a) (queue_touched past b) ≡
    true → Meet past a b
meet-apart past a b h = grind (arith, or_left)

meet-reads : (past : Past) (a b : Request) → only_reads a.call ≡ true → only_reads b.call ≡ true →
    Meet past a b
meet-reads past a b h k = grind (arith, or_left, or_right)

meet-passes : (past : Past) (a b : Request) → calls.passes past a b ≡ true → Meet past a b
meet-passes past a b h = grind (arith, or_left, or_right)

meet-back : (past : Past) (a b : Request) → calls.passes past b a ≡ true → Meet past a b
meet-back past a b h = grind (arith, or_right)

meet-on : (past : Past) (object : Queue → ℕ) (a b : Request) (d e : Deed)
    (first : IsCall past object a d)
    (second : IsCall past object b e) →
    (first.effect.looks && second.effect.looks ≡ true)
    ⊎ ((not first.effect.looks && not second.effect.looks
    && (steps.passes first.effect second.effect || steps.passes second.effect first.effect)) ≡
    true) → Meet past a b
meet-on past object a b d e first second h = grind (
  arith,
  and_parts,
  meet-reads,
  not-true,
  or_cases,
  meet-passes,
  calls-pass,
  meet-back,
)

meet : (past : Past) (object : Queue → ℕ) (a b : Request) (d e : Deed)
    (first : IsCall past object a d)
    (second : IsCall past object b e) → commute first.effect second.effect ≡ true → Meet past a b
meet past object a b d e first second commutes =
    let x = first.effect in
    let y = second.effect in
    let looks : Bool = x.looks && y.looks in
    let pass : Bool = not x.looks && not y.looks && (steps.passes x y || steps.passes y x) in
    let waits : Bool = is_wait x.kind && is_wait y.kind in
    elim (or_cases (not (x.object == y.object)) (commute_on x y) commutes) [
      | inl apart ↦
          meet-apart past a b (apart-queues object (queue_touched past a) (queue_touched past b)
          x.object y.object first.queue second.queue apart)
      | inr on ↦
          elim (or_cases (looks || pass) waits on) [
            | inl most ↦ meet-on past object a b d e first second (or_cases looks pass most)
            | inr wait ↦
                let one = and_parts (is_wait x.kind) (is_wait y.kind) wait in
                let other = first.waits in absurd (let bad : true ≡ false = sym one.0 ∙ other in cc)
          ]
    ]

pub steps-independent : (past : Past) (object : Queue → ℕ) (a b : Request) (d e : Deed) →
    is_covered a.call ≡ true → is_covered b.call ≡ true → OwnThreads a b d e →
    differ (whose_notices past a) (whose_notices past b) ≡ true →
    IsCall past object a d → IsCall past object b e → steps.are_independent d e ≡ true →
    calls.are_independent past a b ≡ true
steps-independent past object a b d e covered_a covered_b threads notices first second independent =
    let thread : Bool = not (d.choice.thread == e.choice.thread) in
    let bound : Bool = not (steps.are_bound d e) in
    let one = and_parts (thread && bound) (steps.are_apart d.effects.items e.effects.items)
    independent in
    let two = and_parts thread bound one.0 in
    let of_first = among (λ z. is_apart z e.effects.items) d.effects.items first.effect
    one.1 first.among in
    let commutes = among (λ z. commute first.effect z) e.effects.items second.effect
    of_first second.among in
    rw (
      apart-processes a b d e threads two.0,
      names-off a.call covered_a,
      names-off b.call covered_b,
      notices,
    )
    (meet past object a b d e first second commutes)
