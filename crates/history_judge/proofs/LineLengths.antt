-- The maximum length of the line of a call.
use Rattle.std.proofs.Common.{◌<◌, ◌≤◌, ◌+◌, ◌*◌, ◌^◌, ◌++◌, false, [], ◌∷◌, length, length-append, arith, codes, None, IfSome}
use Rattle.std.specs.List.{join_with_byte}
use Rattle.mq_model.specs.declared.entries.Reply.TheVariants as reply
use Rattle.journal_format.specs.Text.{call_words, payload_words, reply_words}
use Rattle.journal_format.proofs.LineLengths.{call-size, decimal-length, join-size, number_or-length, payload-size, reply-size, size, size-append}
use Rattle.histories.specs.Histories.{is_pending}
use Rattle.histories.specs.declared.operation.Outcome.{Outcome}
use Rattle.histories.specs.declared.operation.Outcome.TheVariants.{Pending, Done, Opened, Got, Attributes, Notice, Refused}
use Rattle.history_judge.specs.Fitting.{Fits, OutcomeFits}
use Rattle.history_judge.specs.Text.{called_words, end_of, line_text, message_of, result_words, written_reply}
use Rattle.history_judge.specs.declared.line.Called.{Called}
use Rattle.history_judge.proofs.Written.{end_fits, process_fits}

result-size : (o : Outcome) → OutcomeFits o →
    size (result_words (written_reply o) (message_of o)) ≤ 3 * length (message_of o) + 200
result-size Pending fits = omega arith
result-size Done fits = omega (
  arith,
  size-append (reply_words reply.Done) [],
  reply-size reply.Done tt,
)
result-size (Opened d) fits = omega (
  arith,
  size-append (reply_words (reply.Opened d false)) [],
  reply-size (reply.Opened d false) fits,
)
result-size (Got prio message) fits =
    let small : prio < 2 ^ 64 = omega (arith, fits.0) in
    omega (
      arith,
      size-append (reply_words (reply.Got prio None None))
          (payload_words message.items),
      reply-size (reply.Got prio None None) (small, tt, tt),
      payload-size message.items,
    )
result-size (Attributes status) fits = omega (
  arith,
  size-append (reply_words (reply.Attrs status))
      [],
  reply-size (reply.Attrs status) fits,
)
result-size (Notice value) fits = omega (
  arith,
  size-append (reply_words (reply.Notice value)) [],
  reply-size (reply.Notice value) fits,
)
result-size (Refused fault) fits = omega (
  arith,
  size-append (reply_words (reply.Refused fault)) [],
  reply-size (reply.Refused fault) tt,
)

pub line-length : (c : Called) → Fits c →
    length (line_text c) ≤ 3 * length c.operation.given.items + 3 * length
    (message_of c.operation.outcome) + 700
unfolding line_text
line-length c fits =
    let o = c.operation in
    let result = result_words (written_reply o.outcome) (message_of o.outcome) in
    let behind = payload_words o.given.items ++ codes "->" ∷ result in
    let small : c.process < 2 ^ 64 = omega (arith, process_fits c.process fits.process) in
    let end : IfSome (end_of o) (λ n. n < 2 ^ 64) = end_fits (is_pending o.outcome)
    o.end fits.end in
    omega (
      arith,
      length-append (join_with_byte 32 (called_words c)) (10 ∷ []),
      join-size (called_words c),
      decimal-length c.process small,
      decimal-length o.begin fits.begin,
      number_or-length (codes "-") (end_of o) (omega arith) end,
      size-append (call_words o.call) behind,
      size-append (payload_words o.given.items) (codes "->" ∷ result),
      call-size o.call fits.call,
      payload-size o.given.items,
      result-size o.outcome fits.outcome,
    )
