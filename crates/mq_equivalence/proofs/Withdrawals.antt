-- The processes that still wait when one of them withdraws.
use Rattle.std.proofs.Common.{◌≡◌, ℕ, ◌==◌, Bool, false, not, List, [], ◌∷◌, map, Option, Some, None, if◌then◌else◌, refl, sym, ◌∙◌, ap, eqb-true, eq-eqb, arith}
use Rattle.std.specs.List.{filter}
use Rattle.std.specs.Option.{option_map}
use Rattle.std.proofs.lemmas.Bool.{eqb-false}
use Rattle.mq_model.specs.Record.{Record, Past, record_at}
use Rattle.mq_model.specs.Messages.{blocked_receives, blocked_sends, ended_receives, ended_sends, is_in, waiting_receives, waiting_sends}
use Rattle.mq_model.specs.Waits.{open_wait}
use Rattle.mq_model.specs.Legality.{Legal}
use Rattle.mq_model.specs.declared.callers.WaitKind.TheVariants.{Send, Receive}
use Rattle.mq_model.specs.declared.entries.Call.{Call}
use Rattle.mq_model.specs.declared.entries.Reply.TheVariants.{Withdrawn}
use Rattle.mq_model.proofs.Places.{split, is_in-filter}
use Rattle.mq_model.proofs.Frames.{filter-same}
use Rattle.mq_model.proofs.Alive.{rec}
use Rattle.mq_model.proofs.OpenWaits.{open_wait-process, same-waiter}
use Rattle.mq_model.proofs.Steps.{filter-both, without}
use Rattle.mq_model.proofs.Waiters.{waiter}
use Rattle.mq_equivalence.specs.Views.{Sender, answer, at, author, receivers, sender, senders}
use Rattle.mq_equivalence.proofs.Changes.{map-older, waiting_receives-below, waiting_sends-below}
use Rattle.mq_equivalence.proofs.Effects.{answer-older}

filter-map : {X : Type 0} (f : ℕ → X) (t : X → Bool) (ks : List ℕ) →
    filter t (map f ks) ≡ map f (filter (λ k. t (f k)) ks)
filter-map f t [] = refl
filter-map f t (k ∷ ks) = split (t (f k)) (λ y. rw (y, filter-map f t ks) refl)
    (λ n. rw (n, filter-map f t ks) refl)

abbrev pub sends_as : ℕ → Option Sender → Bool
sends_as p None = false
sends_as p (Some s) = s.process == p

abbrev receives_as : ℕ → Option ℕ → Bool
receives_as p None = false
receives_as p (Some k) = k == p

-- the processes that wait, without process p
abbrev pub senders_but : ℕ → List (Option Sender) → List (Option Sender)
senders_but p ss = filter (λ s. not (sends_as p s)) ss

abbrev pub receivers_but : ℕ → List (Option ℕ) → List (Option ℕ)
receivers_but p rs = filter (λ r. not (receives_as p r)) rs

sender-of : (past : Past) (k p j : ℕ) → option_map (λ r. r.entry.process) (record_at past k) ≡
    Some j → sends_as p (at sender past k) ≡ (j == p)
sender-of past k p j e = grind arith

receiver-of : (past : Past) (k p j : ℕ) → option_map (λ r. r.entry.process) (record_at past k) ≡
    Some j → receives_as p (at author past k) ≡ (j == p)
receiver-of past k p j e = grind arith

-- a wait is that of process p if it is the one that p has
own-wait : (past : Past) (p w j k : ℕ) → open_wait past p ≡ Some w → open_wait past j ≡ Some k →
    (j == p) ≡ (w == k)
own-wait past p w j k mine its = grind (arith, eqb-true, eq-eqb, eqb-false, same-waiter)

module _ (past : Past) (legal : Legal past) (p : ℕ) (call : Call) (w : ℕ) (payload : List ℕ)
    (mine : open_wait past p ≡ Some w) where
  abbrev r : Record
  r = rec p call (Withdrawn w) payload

  pub senders-withdrawn : (q : ℕ) → senders (r ∷ past) q ≡ senders_but p (senders past q)
  senders-withdrawn q =
      let is : waiting_sends (r ∷ past) q ≡ without w (waiting_sends past q) =
      filter-both (λ k. w == k) (is_in (ended_sends past)) (blocked_sends past q) in
      ap (λ (ks : List ℕ). map (at sender (r ∷ past)) ks) is
      ∙ map-older sender past r (without w (waiting_sends past q))
      (λ j h. waiting_sends-below past q j (is_in-filter (λ k. not (w == k))
      (waiting_sends past q) j h).0)
      ∙ ap (map (at sender past)) (filter-same _ _ (waiting_sends past q)
      (λ k h. let o = waiter past legal Send q k h in
      sym (ap not (sender-of past k p o.0 (open_wait-process past o.0 k o.1) ∙
      own-wait past p w o.0 k mine o.1))))
      ∙ sym (filter-map (at sender past) (λ s. not (sends_as p s)) (waiting_sends past q))

  pub receivers-withdrawn : (q : ℕ) → receivers (r ∷ past) q ≡ receivers_but p (receivers past q)
  receivers-withdrawn q =
      let is : waiting_receives (r ∷ past) q ≡ without w (waiting_receives past q) =
      filter-both (λ k. w == k) (is_in (ended_receives past)) (blocked_receives past q) in
      ap (λ (ks : List ℕ). map (at author (r ∷ past)) ks) is
      ∙ map-older author past r (without w (waiting_receives past q))
      (λ j h. waiting_receives-below past q j (is_in-filter (λ k. not (w == k))
      (waiting_receives past q) j h).0)
      ∙ ap (map (at author past)) (filter-same _ _ (waiting_receives past q)
      (λ k h. let o = waiter past legal Receive q k h in
      sym (ap not (receiver-of past k p o.0 (open_wait-process past o.0 k o.1) ∙
      own-wait past p w o.0 k mine o.1))))
      ∙ sym (filter-map (at author past) (λ s. not (receives_as p s)) (waiting_receives past q))

pub answer-withdrawn : (past : Past) (p : ℕ) (call : Call) (w : ℕ) (payload : List ℕ) (k : ℕ) →
    answer (rec p call (Withdrawn w) payload ∷ past) k ≡ (if p == k then None else answer past k)
answer-withdrawn past p call w payload k = grind (arith, answer-older, rec)
