-- The calls in which processes wait.
use Rattle.std.proofs.lemmas.Bool.Decides.{nat_tests}
use Rattle.std.proofs.Common.{◌≡◌, ℕ, ◌+◌, ◌≤◌, ◌==◌, true, false, List, ◌∷◌, length, length-set, Option, Some, None, slice_index_or, refl, sym, ◌∙◌, arith, eqb-true, eq-eqb, get_or-set_same, get_or-set_other}
use Rattle.std.proofs.lemmas.Bool.{eqb-false}
use Rattle.std.specs.Option.{option_map, unwrap_or}
use Rattle.mq_model.specs.Record.{Record, Past}
use Rattle.mq_model.specs.Waits.{is_wait, open_wait}
use Rattle.mq_model.specs.declared.entries.Call.{Call}
use Rattle.mq_model.specs.declared.entries.Call.TheVariants.{Collect}
use Rattle.mq_model.specs.declared.entries.Reply.{Reply}
use Rattle.mq_model.specs.declared.entries.Reply.TheVariants.{Waits}
use Rattle.mq_model.proofs.Places.{split}
use Rattle.mq_model.proofs.Frames.{record_at-older}
use Rattle.mq_model.proofs.OthersLeave.{open_wait-below}
use Rattle.mq_state.specs.Buffers.{waiting_call}
use Rattle.mq_state.specs.Moves.{wait_move}
use Rattle.mq_state.specs.Tables.{calls_noted, AreCalls}
use Rattle.mq_state.specs.declared.moves.WaitMove.{WaitMove}
use Rattle.mq_state.specs.declared.moves.WaitMove.TheVariants.{Stays, Begins, Ends}

abbrev call_at : Option Record → Call
call_at o = unwrap_or (option_map (λ (x : Record). x.entry.call) o) Collect

-- the call of a wait that remains open
older : (past : Past) (r : Record) (p w : ℕ) → open_wait past p ≡ Some w →
    open_wait (r ∷ past) p ≡ Some w → waiting_call (r ∷ past) p ≡ waiting_call past p
older past r p w was is = grind (arith, record_at-older, open_wait-below)

pub calls-keep : (past : Past) (r : Record) (n : ℕ) (calls : List Call) → AreCalls past n calls →
    r.entry.process ≤ n →
    AreCalls (r ∷ past) n (calls_noted (wait_move r.entry.reply) r.entry.process r.entry.call calls)
calls-keep past r n calls old few = record {
  count = count (wait_move r.entry.reply);
  at = λ p w e. split (r.entry.process == p) (λ own. mine p w own e)
      (λ other. others p w other e);
}
  where
    count : (m : WaitMove) → length (calls_noted m r.entry.process r.entry.call calls) ≡ n + 1
    count Begins = length-set calls r.entry.process r.entry.call ∙ old.count
    count Stays = old.count
    count Ends = old.count

    others : (p w : ℕ) → (r.entry.process == p) ≡ false → open_wait (r ∷ past) p ≡ Some w →
        slice_index_or (calls_noted (wait_move r.entry.reply) r.entry.process r.entry.call calls) p
        Collect ≡ waiting_call (r ∷ past) p
    others p w other e =
        let was : open_wait past p ≡ Some w = rw other at e in
        same (wait_move r.entry.reply) ∙ old.at p w was ∙ sym (older past r p w was e)
      where
        same : (m : WaitMove) →
            slice_index_or (calls_noted m r.entry.process r.entry.call calls) p Collect ≡
            slice_index_or calls p Collect
        same Begins = get_or-set_other calls r.entry.process p r.entry.call Collect
            (λ x. eqb-false _ _ other (sym x))
        same Stays = refl
        same Ends = refl

    mine : (p w : ℕ) → (r.entry.process == p) ≡ true → open_wait (r ∷ past) p ≡ Some w →
        slice_index_or (calls_noted (wait_move r.entry.reply) r.entry.process r.entry.call calls) p
        Collect ≡ waiting_call (r ∷ past) p
    mine p w own e = split (is_wait r.entry.reply)
        (λ t. grind (arith, nat_tests, eqb-true, get_or-set_same))
        (λ f. let none : None ≡ Some w = rw (own, f) at e in absurd (cc))
      where
        waits : (reply : Reply) → is_wait reply ≡ true → wait_move reply ≡ Begins
        waits Waits t = refl
        waits reply t = absurd (cc)

        newest : (p : ℕ) → is_wait r.entry.reply ≡ true → waiting_call (r ∷ past) r.entry.process ≡
            r.entry.call
        newest p t = rw (eq-eqb r.entry.process r.entry.process refl, t)
            (rw (eq-eqb (length past) (length past) refl) refl)
