-- A line reads as the call that it was written from.
use Rattle.std.proofs.Common.{◌≡◌, ◌<◌, ◌^◌, ◌-◌, ◌∙◌, ◌++◌, ℕ, true, false, Bool, List, [], ◌∷◌, arith, refl, ap, sym, codes, Option, Some, None, All, IfSome, unwrap_or, if◌then◌else◌, lt-ltb}
use Rattle.std.proofs.lemmas.Bool.Decides.{nat_tests}
use Rattle.std.specs.Fmt.{decimal}
use Rattle.std.specs.List.{join_with_byte}
use Rattle.percent_encoding.specs.Percent.{percent_decode}
use Rattle.percent_encoding.proofs.PercentLemmas.{round_trip, percent_encode-nil}
use Rattle.text_io.specs.Words.{Word, words_of}
use Rattle.mq_model.specs.declared.entries.Reply.{Reply}
use Rattle.mq_model.specs.declared.entries.Reply.TheVariants as reply
use Rattle.journal_format.specs.declared.payload.TheConstants.{ESCAPED}
use Rattle.journal_format.specs.Text.{call_words, escaped, number_or, payload_words, reply_words}
use Rattle.journal_format.specs.Reading.{got_at, kind_written, place_at, quoted_at, reply_at, word_at}
use Rattle.journal_format.proofs.WholeWords.{AreWords, word-decimal, words-append, words_of-line}
use Rattle.journal_format.proofs.WrittenCalls.{call_again, call-words, number_or-word, number_or_at_again, place_at_again, small_at_again}
use Rattle.journal_format.proofs.WrittenLines.{no_limit, payload-words, quoted_again}
use Rattle.journal_format.proofs.WrittenReplies.{reply_again, reply-words}
use Rattle.histories.specs.declared.operation.Outcome.{Outcome}
use Rattle.histories.specs.declared.operation.Outcome.TheVariants.{Pending, Done, Opened, Got, Attributes, Notice, Refused}
use Rattle.histories.specs.Histories.{is_pending}
use Rattle.history_judge.specs.Fitting.{Fits, OutcomeFits}
use Rattle.history_judge.specs.Processes.{is_process}
use Rattle.history_judge.specs.Reading.{PartsSeen, Shown, called_of, outcome_at, parts_at, shown}
use Rattle.history_judge.specs.Seen.{SeenCall, seen_call}
use Rattle.history_judge.specs.Text.{called_words, end_of, line_text, message_of, result_words, words_between, written_reply}
use Rattle.history_judge.specs.declared.line.Called.{Called}

-- ---- the result of a call

decoded : (bytes : List ℕ) → All (λ b. b < 256) bytes → percent_decode (escaped bytes) ≡ bytes
decoded bytes fits = round_trip ESCAPED bytes refl fits

-- a message after other words
got_again : (prio : ℕ) (message : List ℕ) → prio < 2 ^ 64 →
    reply_at (reply_words (reply.Got prio None None) ++ payload_words message) ≡
    Some (reply.Got prio None None)
unfolding reply_at word_at kind_written got_at place_at
got_again prio [] fits = rw (place_at_again prio [] fits) refl
got_again prio (b ∷ bytes) fits = rw (place_at_again prio (payload_words (b ∷ bytes)) fits) refl

message_again : (message : List ℕ) → (quoted_at (payload_words message)).0 ≡ escaped message
unfolding quoted_at
message_again [] = sym (percent_encode-nil ESCAPED)
message_again (b ∷ bytes) = ap (λ (read : Word × List Word). read.0) (quoted_again (b ∷ bytes) [])

outcome_again : (o : Outcome) → OutcomeFits o →
    outcome_at (result_words (written_reply o) (message_of o)) ≡ Some (shown o)
unfolding outcome_at
outcome_again Pending fits = refl
outcome_again Done fits = rw (reply_again reply.Done tt) refl
outcome_again (Opened d) fits = rw (reply_again (reply.Opened d false) fits) refl
outcome_again (Got prio message) fits =
    let small : prio < 2 ^ 64 = omega (arith, fits.0) in
    rw (
      got_again prio message.items small,
      lt-ltb prio (2 ^ 32) fits.0,
      message_again message.items,
      decoded message.items fits.1,
    ) refl
outcome_again (Attributes status) fits = rw (reply_again (reply.Attrs status) fits) refl
outcome_again (Notice value) fits = rw (reply_again (reply.Notice value) fits) refl
outcome_again (Refused fault) fits = rw (reply_again (reply.Refused fault) tt) refl

result-words : (o : Outcome) → OutcomeFits o →
    AreWords (result_words (written_reply o) (message_of o))
result-words Pending fits = tt
result-words Done fits = reply-words reply.Done tt
result-words (Opened d) fits = reply-words (reply.Opened d false) fits
result-words (Got prio message) fits =
    let small : prio < 2 ^ 64 = omega (arith, fits.0) in
    words-append (reply_words (reply.Got prio None None)) (payload_words message.items)
    (reply-words (reply.Got prio None None) (small, tt, tt))
    (payload-words message.items)
result-words (Attributes status) fits = reply-words (reply.Attrs status) fits
result-words (Notice value) fits = reply-words (reply.Notice value) fits
result-words (Refused fault) fits = reply-words (reply.Refused fault) tt

-- ---- when it ended

abbrev pub end_if : Bool → ℕ → Option ℕ
end_if pending end = if pending then None else Some end

pub end_fits : (pending : Bool) (end : ℕ) → end < 2 ^ 64 →
    IfSome (end_if pending end) (λ n. n < 2 ^ 64)
end_fits pending end fits = grind arith

-- ---- a line

pub process_fits : (p : ℕ) → is_process p ≡ true → p < 2 ^ 32
process_fits p is = grind (arith, nat_tests)

abbrev parts_from : Called → PartsSeen
parts_from c = record {
  process = c.process;
  begin = c.operation.begin;
  end = end_of c.operation;
  call = c.operation.call;
  quoted = escaped c.operation.given.items;
  result = result_words (written_reply c.operation.outcome) (message_of c.operation.outcome);
}

parts_again : (c : Called) → Fits c → parts_at (called_words c) ≡ Some (parts_from c)
unfolding parts_at word_at
parts_again c fits =
    let o = c.operation in
    let result = result_words (written_reply o.outcome) (message_of o.outcome) in
    let behind = payload_words o.given.items ++ codes "->" ∷ result in
    let end : IfSome (end_of o) (λ n. n < 2 ^ 64) = end_fits (is_pending o.outcome)
    o.end fits.end in
    rw (
      small_at_again c.process (decimal o.begin ∷ number_or (codes "-") (end_of o) ∷
          call_words o.call ++ behind) (process_fits c.process fits.process),
      place_at_again o.begin (number_or (codes "-") (end_of o) ∷ call_words o.call ++
          behind) fits.begin,
      number_or_at_again (codes "-") (end_of o) (call_words o.call ++ behind) refl refl end,
      call_again o.call behind fits.call (no_limit o.given.items result),
      quoted_again o.given.items result,
    )
    refl

pub called-words : (c : Called) → Fits c → AreWords (called_words c)
called-words c fits = grind (
  arith,
  process_fits,
  end_fits,
  AreWords,
  words-append,
  payload-words,
  result-words,
  word-decimal,
  number_or-word,
  call-words,
)

line_again : (c : Called) → Fits c → parts_at (words_of (line_text c)) ≡ Some (parts_from c)
unfolding line_text
line_again c fits = rw (words_of-line (called_words c) (called-words c fits)) (parts_again c fits)

called_again : (c : Called) → Fits c → called_of (parts_from c) (shown c.operation.outcome) ≡
    seen_call c
called_again c fits = grind (arith, decoded)

-- ---- what the reader finds

some_is : {A : Type 0} (a b : A) → ◌≡◌ {A = Option A} (Some a) (Some b) → a ≡ b
some_is a b same = cc

parts_are : (c : Called) (line : List ℕ) (words : List Word) → Fits c → words ≡ words_of line →
    line ≡ line_text c → parts_at words ≡ Some (parts_from c)
parts_are c line words fits cut is = ap parts_at cut ∙ ap (λ t. parts_at (words_of t)) is ∙
    line_again c fits

outcome_is : (c : Called) (line : List ℕ) (words : List Word) (p : PartsSeen) → Fits c →
    words ≡ words_of line → line ≡ line_text c → parts_at words ≡ Some p →
    outcome_at p.result ≡ Some (shown c.operation.outcome)
outcome_is c line words p fits cut is read =
    let same : p ≡ parts_from c = some_is p (parts_from c)
    (sym read ∙ parts_are c line words fits cut is) in
    ap (λ (q : PartsSeen). outcome_at q.result) same ∙
    outcome_again c.operation.outcome fits.outcome

-- words without the parts of a line are no call's
pub no_parts : (c : Called) (line : List ℕ) (words : List Word) → Fits c → words ≡ words_of line →
    line ≡ line_text c → parts_at words ≡ None → ⊥
no_parts c line words fits cut is none = let some = parts_are c line words fits cut is in cc

-- nor are those of another process
pub no_process : (c : Called) (line : List ℕ) (words : List Word) (p : PartsSeen) → Fits c →
    words ≡ words_of line → line ≡ line_text c → parts_at words ≡ Some p →
    is_process p.process ≡ false → ⊥
no_process c line words p fits cut is read other =
    let same : p ≡ parts_from c = some_is p (parts_from c)
    (sym read ∙ parts_are c line words fits cut is) in
    let own : is_process p.process ≡ true = ap (λ (q : PartsSeen). is_process q.process) same ∙
    fits.process in
    let no : true ≡ false = sym own ∙ other in cc

-- nor words whose last ones are no result of a call
pub no_outcome : (c : Called) (line : List ℕ) (words : List Word) (p : PartsSeen) → Fits c →
    words ≡ words_of line → line ≡ line_text c → parts_at words ≡ Some p →
    outcome_at p.result ≡ None → ⊥
no_outcome c line words p fits cut is read none = let some =
    outcome_is c line words p fits cut is read in cc

-- what is read is seen as the call that was written
pub read_seen : (c : Called) (line : List ℕ) (words : List Word) (p : PartsSeen) (s : Shown) →
    Fits c → words ≡ words_of line → line ≡ line_text c → parts_at words ≡ Some p →
    outcome_at p.result ≡ Some s → called_of p s ≡ seen_call c
read_seen c line words p s fits cut is read came =
    let same : p ≡ parts_from c = some_is p (parts_from c)
    (sym read ∙ parts_are c line words fits cut is) in
    let end : s ≡ shown c.operation.outcome = some_is s (shown c.operation.outcome)
    (sym came ∙ outcome_is c line words p fits cut is read) in
    ap (λ (q : PartsSeen). called_of q s) same ∙ ap (λ (t : Shown). called_of (parts_from c) t)
    end ∙ called_again c fits

-- the same of the call that is made of what was read
pub built_seen : (c : Called) (line : List ℕ) (words : List Word) (p : PartsSeen) (s : Shown)
    (given : List ℕ) (end : ℕ) → Fits c →
    words ≡ words_of line → line ≡ line_text c → parts_at words ≡ Some p →
    outcome_at p.result ≡ Some s →
    given ≡ percent_decode p.quoted → end ≡ unwrap_or p.end (2 ^ 64 - 1) →
    ◌≡◌ {A = SeenCall} (record {
      process = p.process;
      operation = record {
        call = p.call;
        given = given;
        begin = p.begin;
        end = end;
        reply = s.0;
        message = s.1;
      };
    }) (seen_call c)
built_seen c line words p s given end fits cut is read came given_is end_is =
    grind (arith, read_seen)

end-is : (o d : Outcome) (ended written end : ℕ) → (is_pending d ≡ true → ended ≡ 2 ^ 64 - 1) →
    written_reply o ≡ written_reply d → written ≡ ended →
    (is_pending o ≡ true → end ≡ 2 ^ 64 - 1) → (is_pending o ≡ false → end ≡ written) →
    end ≡ written
end-is o d ended written end last same is pending returned = grind arith

-- the same, if a call that had not returned ends at the greatest time
pub ended_seen : (c : Called) (line : List ℕ) (words : List Word) (p : PartsSeen) (o : Outcome)
    (given : List ℕ) (end : ℕ) → Fits c →
    words ≡ words_of line → line ≡ line_text c → parts_at words ≡ Some p →
    outcome_at p.result ≡ Some (shown o) →
    given ≡ percent_decode p.quoted → (is_pending o ≡ true → end ≡ 2 ^ 64 - 1) →
    (is_pending o ≡ false → end ≡ unwrap_or p.end (2 ^ 64 - 1)) →
    ◌≡◌ {A = SeenCall} (record {
      process = p.process;
      operation = record {
        call = p.call;
        given = given;
        begin = p.begin;
        end = end;
        reply = (shown o).0;
        message = (shown o).1;
      };
    }) (seen_call c)
ended_seen c line words p o given end fits cut is read came given_is pending returned =
    let written : ℕ = unwrap_or p.end (2 ^ 64 - 1) in
    let seen = built_seen c line words p (shown o) given written fits cut is read came
    given_is refl in
    built_seen c line words p (shown o) given end fits cut is read came given_is
    (end-is o c.operation.outcome c.operation.end written end fits.pending
    (ap (λ (s : SeenCall). s.operation.reply) seen) (ap (λ (s : SeenCall). s.operation.end)
    seen) pending returned)

-- ---- calls that look the same have the same line

abbrev end_by : Option Reply → ℕ → Option ℕ
end_by None end = None
end_by (Some reply) end = Some end

end_by-is : (end : ℕ) (o : Outcome) → end_if (is_pending o) end ≡ end_by (written_reply o) end
end_by-is end o = grind arith

abbrev line_by : SeenCall → Option ℕ → List ℕ
line_by c end =
    join_with_byte 32 (words_between c.process c.operation.begin end c.operation.call
    c.operation.given (result_words c.operation.reply c.operation.message))
    ++ 10 ∷ []

line_by-is : (c : Called) →
    line_text c ≡ line_by (seen_call c) (end_by (written_reply c.operation.outcome) c.operation.end)
unfolding line_text
line_by-is c = ap (λ end. line_by (seen_call c) end) (end_by-is c.operation.end c.operation.outcome)

pub one_line : (a b : Called) → seen_call a ≡ seen_call b → line_text a ≡ line_text b
one_line a b same = line_by-is a ∙
    ap (λ (c : SeenCall). line_by c (end_by c.operation.reply c.operation.end)) same ∙
    sym (line_by-is b)

-- ---- calls with the same line look the same

pub same_line : (c d : Called) → Fits c → Fits d → line_text c ≡ line_text d →
    seen_call c ≡ seen_call d
same_line c d c_fits d_fits same =
    let words = words_of (line_text c) in
    sym (called_again c c_fits)
    ∙ read_seen d (line_text c) words (parts_from c) (shown c.operation.outcome) d_fits refl same
    (line_again c c_fits) (outcome_again c.operation.outcome c_fits.outcome)
