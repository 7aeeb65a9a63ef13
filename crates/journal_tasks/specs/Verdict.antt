-- The verdict on a journal.
use Rattle.std.specs.Prelude.{ℕ, zero, suc, ◌≡◌, ◌+◌, ◌++◌, ◌==◌, Bool, false, List, [], ◌∷◌, length, count_by, codes, if◌then◌else◌, Option}
use Rattle.std.specs.Fmt.{decimal}
use Rattle.std.specs.List.{join_with_byte, list_any}
use Rattle.std.specs.Io.KnownBytes as known
use Rattle.text_io.specs.Output.{AppendsTooLittle}
use Rattle.mq_model.specs.Legality as legality
use Rattle.mq_model.specs.Record.{Past, Record, first}
use Rattle.mq_model.specs.Threads.{owner_of}
use Rattle.mq_model.specs.declared.entries.Reply.{Reply}
use Rattle.mq_model.specs.declared.entries.Reply.TheVariants as reply
use Rattle.journal_format.specs.Fitting.{AllFit}
use Rattle.journal_format.specs.Text.{journal_text, line_text, reply_words}
use Rattle.mq_state.specs.Replays.{IsDeparture}
use Rattle.mq_state.specs.declared.replay.Cause.{Cause}
use Rattle.mq_state.specs.declared.replay.Cause.TheVariants as cause
use Rattle.mq_state.specs.declared.replay.Departure.{Departure}
use Rattle.journal_tasks.specs.declared.counts.Counts.{Counts}
use Rattle.journal_tasks.specs.declared.verdict.Verdict.{Verdict}
use Rattle.journal_tasks.specs.declared.verdict.Verdict.TheVariants.{Legal, Illegal}

-- an entry is of a thread of this process
abbrev pub has_process : Past → ℕ → Bool
has_process past p = list_any (λ r. owner_of r.entry.process == p) past

-- how many of the processes 1 to n have an entry
unfoldable pub processes_to : ℕ → Past → ℕ
processes_to zero past = 0
processes_to (suc n) past = processes_to n past + (if has_process past (suc n) then 1 else 0)

-- the reply is that of an open that created its queue
abbrev pub opens_new : Reply → Bool
opens_new (reply.Opened d created) = created
opens_new reply = false

abbrev pub creates : Record → Bool
creates r = opens_new r.entry.reply

abbrev pub counts_of : Past → Counts
counts_of past = record {
  entries = length past;
  processes = processes_to 32 past;
  queues = count_by creates past;
}

-- a number of things, with the word for one of them or that for several
abbrev pub counted : ℕ → List ℕ → List ℕ → List ℕ
counted count one several =
    decimal count ++ (codes " " ++ (if count == 1 then one else several))

-- what is printed of a legal journal
abbrev pub legal_text : Counts → List ℕ
legal_text counts =
    codes "legal: " ++ (counted counts.entries (codes "entry") (codes "entries")
    ++ (codes ", " ++ (counted counts.processes (codes "process") (codes "processes")
    ++ (codes ", " ++ (counted counts.queues (codes "queue") (codes "queues") ++ codes "\n")))))

-- the line of the last record
abbrev pub last_line : Past → List ℕ
last_line [] = []
last_line (r ∷ past) = line_text (length past) r

-- Why an entry is not legal: its caller, its turn, its payload, or its reply, with the reply that
-- the definitions give.
abbrev pub cause_text : Cause → List ℕ
cause_text cause.Process = codes "no caller from 1 to 2048"
cause_text cause.Turn = codes "out of turn"
cause_text cause.Payload = codes "another payload expected"
cause_text (cause.Reply expected) = codes "expected " ++ join_with_byte 32 (reply_words expected)

-- What is printed if a journal is not legal: the place of its first entry that is not legal, why,
-- and its line.
abbrev pub illegal_text : Past → Departure → List ℕ
illegal_text past d = codes "entry " ++
    (decimal d.place ++
    (codes ": " ++ (cause_text d.cause ++ 10 ∷ last_line (first (d.place + 1) past))))

abbrev pub verdict_text : Past → Verdict → List ℕ
verdict_text past (Legal counts) = legal_text counts
verdict_text past (Illegal departure) = illegal_text past departure

-- The verdict is right: the journal is legal and has these counts, or this is the first place that
-- is not legal, and why.
abbrev pub Judges : Past → Verdict → Type 0
Judges past (Legal counts) = legality.Legal past × (counts ≡ counts_of past)
Judges past (Illegal departure) = IsDeparture past departure

-- the verdict on the journal with this text, whose own text was appended to known bytes
pub record Checks (bytes : List ℕ) (verdict : Verdict) (old new : Option (List ℕ)) : Type 0 where
  pub past : Past
  pub fits : AllFit past
  pub text : bytes ≡ journal_text past
  pub judges : Judges past verdict
  pub written : known.Appends old new (verdict_text past verdict)

-- the exit status of the program
abbrev pub verdict_status : Verdict → ℕ
verdict_status (Legal counts) = 0
verdict_status (Illegal departure) = 1

-- a proper prefix of the text of the verdict on the journal with this text was appended to known
-- bytes
pub record StopsInVerdict (bytes : List ℕ) (old new : Option (List ℕ)) : Type 0 where
  pub verdict : Verdict
  pub past : Past
  pub fits : AllFit past
  pub text : bytes ≡ journal_text past
  pub judges : Judges past verdict
  pub written : AppendsTooLittle old new (verdict_text past verdict)
