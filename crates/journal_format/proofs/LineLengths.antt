-- How long a line is at most.
use Rattle.std.proofs.Common.{nat_le, ◌≡◌, ◌<◌, ◌≤◌, ◌+◌, ◌*◌, ◌^◌, ◌++◌, ℕ, ℤ, Bool, true, false, List, [], ◌∷◌, length, length-append, arith, codes, Option, IfSome, refl}
use Rattle.std.specs.Fmt.{decimal, signed_decimal}
use Rattle.std.proofs.lemmas.Fmt.{length-decimal-le}
use Rattle.std.specs.List.{join_with_byte, flat_map}
use Rattle.text_io.specs.Words.{Word}
use Rattle.mq_model.specs.Fault.{text_of}
use Rattle.mq_model.specs.Record.{Record}
use Rattle.mq_model.specs.declared.faults.Fault.{Fault}
use Rattle.mq_model.specs.declared.entries.Access.{Access}
use Rattle.mq_model.specs.declared.entries.OpenFlags.{OpenFlags}
use Rattle.mq_model.specs.declared.entries.Deadline.{Deadline}
use Rattle.mq_model.specs.declared.entries.Call.{Call}
use Rattle.mq_model.specs.declared.entries.Reply.{Reply}
use Rattle.percent_encoding.specs.declared.ascii_set.AsciiSet.{AsciiSet}
use Rattle.percent_encoding.specs.AsciiSet.{should_percent_encode}
use Rattle.percent_encoding.specs.Percent.{encode_byte, percent_encode, percent_encode_byte}
use Rattle.mq_model.specs.Threads.{owner_of}
use Rattle.mq_model.proofs.Places.{split}
use Rattle.journal_format.proofs.Callers.{above, small}
use Rattle.journal_format.specs.declared.payload.TheConstants.{ESCAPED}
use Rattle.journal_format.specs.Fitting.{CallFits, Fits, IsLong, MomentFits, ReplyFits}
use Rattle.journal_format.specs.Text.{caller_word, thread_of, access_letter, call_words, escaped, flag_word, flags_word, line_text, moment_words, number_or, payload_words, record_words, reply_words}

-- how many bytes words take in a line, each with the space or the line feed after it
abbrev pub size : List Word → ℕ
size [] = 0
size (w ∷ ws) = length w + 1 + size ws

pub size-append : (vs ws : List Word) → size (vs ++ ws) ≡ size vs + size ws
size-append [] ws = omega arith
size-append (v ∷ vs) ws = omega (arith, size-append vs ws)

pub join-size : (ws : List Word) → length (join_with_byte 32 ws) ≤ size ws
join-size (w ∷ v ∷ ws) = omega (
  arith,
  length-append w (32 ∷ join_with_byte 32 (v ∷ ws)),
  join-size (v ∷ ws),
)
join-size _ = omega arith

-- ---- numbers

pub decimal-length : (n : ℕ) → n < 2 ^ 64 → length (decimal n) ≤ 20
decimal-length n small = length-decimal-le 20 n (omega arith) (omega (arith, small)) small

small-length : (n : ℕ) → n < 2 ^ 32 → length (decimal n) ≤ 20
small-length n small = decimal-length n (omega (arith, small))

caller-length : (p : ℕ) → p < 2 ^ 32 → length (caller_word p) ≤ 41
caller-length p fits = split (nat_le p 32)
    (λ t. rw t (let short = decimal-length p (omega (arith, fits)) in omega (arith, short)))
    (λ f.
    let s = small p (above p f) fits in
    let front = decimal-length (owner_of p) s.long_process in
    let back = decimal-length (thread_of p) s.long_thread in
    rw f (omega (
      arith,
      length-append (decimal (owner_of p)) (46 ∷ decimal (thread_of p)),
      front,
      back,
    )))

signed-length : (z : ℤ) → IsLong z → length (signed_decimal z) ≤ 21
signed-length z fits = grind (arith, decimal-length)

pub number_or-length : (none : Word) (n : Option ℕ) → length none ≤ 20 →
    IfSome n (λ k. k < 2 ^ 64) → length (number_or none n) ≤ 20
number_or-length none n short fits = grind (arith, decimal-length)

-- ---- calls

access-length : (a : Access) → length (access_letter a) ≤ 1
access-length a = grind arith

flags-length : (flags : OpenFlags) → length (flags_word flags) ≤ 4
flags-length flags = grind (arith, length-append, access-length)

moment-size : (label : Word) (moment : Deadline) → length label ≤ 5 → MomentFits moment →
    size (moment_words label moment) ≤ 60
moment-size label moment short fits = omega (
  arith,
  short,
  signed-length moment.sec fits.0,
  signed-length moment.nsec fits.1,
)

flag-length : (is : Bool) → length (flag_word is) ≤ 1
flag-length is = grind arith

pub call-size : (c : Call) → CallFits c → size (call_words c) ≤ 300
call-size c fits = grind (
  arith,
  flags-length,
  small-length,
  decimal-length,
  size-append,
  moment-size,
  flag-length,
  number_or-length,
)

-- ---- replies

fault-length : (f : Fault) → length (text_of f) ≤ 12
fault-length f = grind arith

pub reply-size : (r : Reply) → ReplyFits r → size (reply_words r) ≤ 100
reply-size r fits = grind (
  arith,
  small-length,
  decimal-length,
  size-append,
  flag-length,
  signed-length,
  number_or-length,
  fault-length,
)

-- ---- payloads

byte-length : (set : AsciiSet) (b : ℕ) (is : Bool) → should_percent_encode set b ≡ is →
    length (encode_byte set b) ≤ 3
unfolding percent_encode_byte
byte-length set b true is = rw is (omega arith)
byte-length set b false is = rw is (omega arith)

escaped-length : (bytes : List ℕ) → length (escaped bytes) ≤ 3 * length bytes
unfolding percent_encode
escaped-length [] = omega arith
escaped-length (b ∷ bytes) =
    omega (
      arith,
      length-append (encode_byte ESCAPED b) (flat_map (encode_byte ESCAPED) bytes),
      byte-length ESCAPED b (should_percent_encode ESCAPED b) refl,
      escaped-length bytes,
    )

pub payload-size : (bytes : List ℕ) → size (payload_words bytes) ≤ 3 * length bytes + 3
payload-size bytes = grind (arith, length-append, escaped-length)

-- ---- lines

pub line-length : (place : ℕ) (r : Record) → place < 2 ^ 64 → Fits r →
    length (line_text place r) ≤ 3 * length r.payload + 500
unfolding line_text
line-length place r small fits =
    let result = reply_words r.entry.reply in
    let behind = payload_words r.payload ++ codes "->" ∷ result in
    omega (
      arith,
      length-append (join_with_byte 32 (record_words place r)) (10 ∷ []),
      join-size (record_words place r),
      decimal-length place small,
      caller-length r.entry.process fits.process,
      size-append (call_words r.entry.call) behind,
      size-append (payload_words r.payload) (codes "->" ∷ result),
      call-size r.entry.call fits.call,
      payload-size r.payload,
      reply-size r.entry.reply fits.reply,
    )
