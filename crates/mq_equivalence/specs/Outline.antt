-- A reply without sequence numbers. It still says whether a send was admitted and whether a
-- registration was notified.
use Rattle.std.specs.Prelude.{ℕ, Option}
use Rattle.std.specs.Option.{option_map}
use Rattle.mq_model.specs.declared.entries.Reply.{Reply}
use Rattle.mq_model.specs.declared.entries.Reply.TheVariants.{Queued, Handed, Got, Collected, Withdrawn}

abbrev pub unnumbered : Option ℕ → Option ℕ
unnumbered o = option_map (λ k. 0) o

abbrev pub outline : Reply → Reply
outline (Queued n) = Queued (unnumbered n)
outline (Handed w) = Handed 0
outline (Got m a n) = Got 0 (unnumbered a) (unnumbered n)
outline (Collected b) = Collected 0
outline (Withdrawn w) = Withdrawn 0
outline reply = reply
