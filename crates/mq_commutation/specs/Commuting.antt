-- Two calls that may be made in either order, with the same effect.
use Rattle.std.specs.Prelude.{◌≡◌, Bool, true, false, [], ◌∷◌}
use Rattle.mq_model.specs.Record.{Record, Past, Process}
use Rattle.mq_model.specs.Legality.{IsLegalNext}
use Rattle.mq_model.specs.declared.entries.Call.{Call}
use Rattle.mq_model.specs.declared.entries.Call.TheVariants.{MqOpen, MqUnlink, Collect, Withdraw}
use Rattle.mq_equivalence.specs.Steps.{message_collected, message_given, record_of}
use Rattle.mq_equivalence.specs.Outline.{outline}
use Rattle.mq_equivalence.specs.Equivalence.{Equivalent}
use Rattle.mq_equivalence.specs.Runs.{Request, after_calls}
use Rattle.mq_commutation.specs.Independence.{reply_of}

-- the record of a call after a journal
abbrev pub record_for : Past → Request → Record
record_for past a = record_of past a.process a.call a.given

-- After a the call b may still be made. It has the same reply as without a, up to sequence numbers,
-- and gives its caller the same message, as a receive or as a collect.
pub record Unaffected (past : Past) (a b : Request) : Type 0 where
  pub next : IsLegalNext (after_calls past (a ∷ [])) (record_for (after_calls past (a ∷ [])) b)
  pub reply : outline (reply_of (after_calls past (a ∷ [])) b) ≡ outline (reply_of past b)
  pub message :
      message_given (after_calls past (b ∷ (a ∷ []))) (reply_of (after_calls past (a ∷ [])) b)
      ≡ message_given (after_calls past (b ∷ [])) (reply_of past b)
  pub collected :
      message_collected (after_calls past (b ∷ (a ∷ []))) (reply_of (after_calls past (a ∷ [])) b)
      ≡ message_collected (after_calls past (b ∷ [])) (reply_of past b)

-- neither call affects the other, and both orders leave equivalent journals
pub record Commute (past : Past) (a b : Request) : Type 0 where
  pub second : Unaffected past a b
  pub first : Unaffected past b a
  pub journals : Equivalent (after_calls past (b ∷ (a ∷ []))) (after_calls past (a ∷ (b ∷ [])))

-- the calls that the theorems cover: all except mq_open, mq_unlink and the withdrawal of a wait
abbrev pub is_covered : Call → Bool
is_covered (MqOpen flags attr) = false
is_covered MqUnlink = false
is_covered (Withdraw now) = false
is_covered _ = true

-- a process collects the answer to its wait
abbrev pub collect_of : Process → Request
collect_of p = record { process = p; call = Collect; given = [] }

abbrev pub is_withdrawal : Call → Bool
is_withdrawal (Withdraw now) = true
is_withdrawal _ = false
