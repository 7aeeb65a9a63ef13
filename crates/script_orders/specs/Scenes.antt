-- The steps of a process, and what they print.
use Rattle.std.specs.Prelude.{ℕ, Bool, not, List, [], ◌∷◌, ◌++◌, Option, Some, if◌then◌else◌, zero, suc}
use Rattle.std.specs.Option.{option_map}
use Rattle.mq_model.specs.Legality.{is_refused, reply_to}
use Rattle.mq_model.specs.Record.{Past, Process, Descriptor}
use Rattle.mq_model.specs.declared.entries.Call.{Call}
use Rattle.mq_model.specs.declared.entries.Call.TheVariants.{MqClose}
use Rattle.script_text.specs.Replies.{reply_line}
use Rattle.script_text.specs.declared.reply.Outcome.TheVariants as outcomes
use Rattle.mq_state.specs.Trails.{record_of_call, with_call}
use Rattle.script_orders.specs.Said.{said}
use Rattle.script_orders.specs.declared.plan.Step.{Step}
use Rattle.script_orders.specs.declared.plan.Step.TheVariants as step

-- the journal so far, and the text of a process
pub record Scene : Type 0 where
  pub past : Past
  pub text : List ℕ

-- after a call of process p with these bytes, if it may make it
abbrev pub after_call : Scene → Process → Call → List ℕ → Option Scene
after_call scene p call given =
    option_map (λ (past : Past). record {
      past = past;
      text = scene.text ++ said past p
          (reply_to scene.past p call given);
    })
    (with_call scene.past p call given)

-- process p holds descriptor d: a close of it does not fail
abbrev pub is_held : Past → Process → Descriptor → Bool
is_held past p d = not (is_refused (reply_to past p (MqClose d) []))

-- process p has closed descriptor d, if it held it
abbrev pub close_held : Past → Process → Descriptor → Past
close_held past p d = if is_held past p d then record_of_call past p (MqClose d) [] ∷ past else past

-- the same for the first n descriptors, in rising order
abbrev pub close_first : Past → Process → ℕ → Past
close_first past p zero = past
close_first past p (suc n) = close_held (close_first past p n) p n

-- After a line of process p, if it can do what the line says. An exit closes all 16 descriptors
-- that it may hold, in one step.
abbrev pub after_step : Scene → Process → List ℕ → Step → Option Scene
after_step scene p given (step.Call call) = after_call scene p call given
after_step scene p given (step.Refusal fault) =
    Some (record {
      past = scene.past;
      text = scene.text ++ reply_line p
          (outcomes.Refused fault) [];
    })
after_step scene p given step.Exit = Some (record {
  past = close_first scene.past p 16;
  text = scene.text ++ reply_line p outcomes.Done [];
})
