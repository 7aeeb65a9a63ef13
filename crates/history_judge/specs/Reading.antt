-- What the words of a line mean. Words that are in no line may be accepted as a call, too: then the
-- line of that call differs.
use Rattle.std.specs.Prelude.{◌≡◌, ◌≢◌, ℕ, ◌-◌, ◌^◌, false, nat_lt, List, [], ◌∷◌, drop, Option, None, Some, unwrap_or, codes, if◌then◌else◌}
use Rattle.percent_encoding.specs.Percent.{percent_decode}
use Rattle.text_io.specs.Words.{Word, ◌>>=◌}
use Rattle.mq_model.specs.declared.entries.Call.{Call}
use Rattle.mq_model.specs.declared.entries.Reply.{Reply}
use Rattle.mq_model.specs.declared.entries.Reply.TheVariants as reply
use Rattle.journal_format.specs.Reading.{call_at, number_at, number_or_at, quoted_at, reply_at, word_at, words_at}
use Rattle.histories.specs.declared.operation.Outcome.{Outcome}
use Rattle.history_judge.specs.Fitting.{Fits}
use Rattle.history_judge.specs.Seen.{SeenCall, seen_call}
use Rattle.history_judge.specs.Text.{line_text, message_of, written_reply}
use Rattle.history_judge.specs.declared.line.Called.{Called}
use Rattle.history_judge.specs.declared.line.Parts.{Parts}

-- what was returned: the reply with its words, and the message
abbrev pub Shown : Type 0
Shown = Option Reply × List ℕ

abbrev pub shown : Outcome → Shown
shown outcome = (written_reply outcome, message_of outcome)

-- a message and its priority; the message is in the third word, if there is one
abbrev pub message_at : ℕ → List Word → Option Shown
message_at prio words =
    if nat_lt prio (2 ^ 32)
    then Some (
      Some (reply.Got prio None None),
      percent_decode
          (quoted_at (drop 1 (drop 1 words))).0,
    ) else None

-- what a reply with these words shows
abbrev pub shown_by : Reply → List Word → Option Shown
shown_by (reply.Opened d created) words = Some (Some (reply.Opened d false), [])
shown_by (reply.Queued notified) words = None
shown_by (reply.Handed wait) words = None
shown_by reply.Waits words = None
shown_by (reply.Got place admitted notified) words = message_at place words
shown_by (reply.Collected by) words = None
shown_by (reply.Withdrawn wait) words = None
shown_by (reply.Attrs status) words = Some (Some (reply.Attrs status), [])
shown_by (reply.Notice value) words = Some (Some (reply.Notice value), [])
shown_by reply.Done words = Some (Some reply.Done, [])
shown_by (reply.Refused fault) words = Some (Some (reply.Refused fault), [])

-- what the words after the arrow mean
unfoldable pub outcome_at : List Word → Option Shown
outcome_at [] = Some (None, [])
outcome_at (word ∷ words) = do
  reply ← reply_at (word ∷ words)
  shown_by reply (word ∷ words)

-- the parts of a line, without the positions of its words
pub record PartsSeen : Type 0 where
  pub process : ℕ
  pub begin : ℕ
  pub end : Option ℕ
  pub call : Call
  pub quoted : Word
  pub result : List Word

abbrev pub parts_seen : Parts → PartsSeen
parts_seen p = record {
  process = p.process;
  begin = p.begin;
  end = p.end;
  call = p.call;
  quoted = p.quoted.now;
  result = words_at p.result.now;
}

unfoldable pub parts_at : List Word → Option PartsSeen
parts_at words = do
  process ← number_at 32 words
  begin ← number_at 64 process.1
  end ← number_or_at (codes "-") begin.1
  call ← call_at end.1
  let quoted = quoted_at call.1
  arrow ← word_at quoted.1
  Some (record {
    process = process.0;
    begin = begin.0;
    end = end.0;
    call = call.0;
    quoted = quoted.0;
    result = arrow.1;
  })

-- the call with these parts and this result
abbrev pub called_of : PartsSeen → Shown → SeenCall
called_of parts shown = record {
  process = parts.process;
  operation = record {
    call = parts.call;
    given = percent_decode parts.quoted;
    begin = parts.begin;
    end = unwrap_or parts.end (2 ^ 64 - 1);
    reply = shown.0;
    message = shown.1;
  };
}

-- this is not the line of a call
abbrev pub IsNoLine : List ℕ → Type 0
IsNoLine line = (c : Called) → Fits c → line ≢ line_text c

-- each call with this line shows the same as the given one
abbrev pub IsOneOf : List ℕ → Called → Type 0
IsOneOf line called = (c : Called) → Fits c → line ≡ line_text c → seen_call called ≡ seen_call c
