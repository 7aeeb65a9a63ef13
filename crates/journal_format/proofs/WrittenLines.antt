-- A line reads as the record that it was written from.
use Rattle.std.proofs.lemmas.Grind.{common_steps}
use Rattle.std.proofs.Common.{◌≡◌, ◌<◌, ◌⊎◌, ◌&&◌, ◌^◌, ◌-◌, ◌∙◌, ◌++◌, ℕ, zero, suc, Bool, inl, inr, true, false, List, [], ◌∷◌, length, take, arith, refl, ap, codes, All, Some, None, append_assoc}
use Rattle.std.proofs.lemmas.Bool.{and_from, both_ways, lt-ltb, and_parts}
use Rattle.std.proofs.lemmas.Bool.Decides.{nat_tests}
use Rattle.std.proofs.lemmas.List.{length-append}
use Rattle.std.proofs.lemmas.List.Elements.{All-head, All-tail}
use Rattle.std.proofs.Math.Seq.{take-append_seam}
use Rattle.std.specs.Fmt.{decimal}
use Rattle.std.specs.List.{list_all, join_with_byte}
use Rattle.percent_encoding.specs.AsciiSet.{contains, should_percent_encode}
use Rattle.percent_encoding.specs.Percent.{percent_decode}
use Rattle.percent_encoding.proofs.AsciiSetLemmas.{ascii_from_kept, escaped_from_inside}
use Rattle.percent_encoding.proofs.PercentLemmas.{IsEscapeByte, All-percent_encode, percent_encode-nil, round_trip}
use Rattle.text_io.specs.Words.{Word, words_of}
use Rattle.mq_model.specs.Record.{Record}
use Rattle.mq_model.specs.declared.entries.Entry.{Entry}
use Rattle.mq_model.specs.declared.entries.Call.{Call}
use Rattle.mq_model.specs.declared.entries.Reply.{Reply}
use Rattle.journal_format.specs.declared.payload.TheConstants.{ESCAPED}
use Rattle.journal_format.specs.Fitting.{Fits}
use Rattle.journal_format.specs.Text.{call_words, caller_word, escaped, line_text, payload_text, payload_words, record_words, reply_words}
use Rattle.journal_format.specs.Reading.{entry_at, limits_at, quoted_at, word_at}
use Rattle.journal_format.proofs.WholeWords.{AreWords, is_plain, word-decimal, words-append, words_of-line}
use Rattle.journal_format.proofs.WrittenCalls.{call_again, call-words}
use Rattle.journal_format.proofs.Callers.{caller_at_again, word-caller}
use Rattle.journal_format.proofs.WrittenReplies.{reply_again, reply-words}

-- ---- what is between quotes

last_or_below : (n b : ℕ) → b < suc n → (b ≡ n) ⊎ (b < n)
last_or_below zero zero small = inl refl
last_or_below zero (suc b) small = absurd (omega (arith, small))
last_or_below (suc n) zero small = inr (omega arith)
last_or_below (suc n) (suc b) small = grind (arith, last_or_below n b (omega (arith, small)))

-- what holds of each number below n
abbrev each_below : ℕ → (ℕ → Bool) → Bool
each_below zero p = true
each_below (suc n) p = p n && each_below n p

below : (n : ℕ) (p : ℕ → Bool) (b : ℕ) → each_below n p ≡ true → b < n → p b ≡ true
below zero p b all small = absurd (omega (arith, small))
below (suc n) p b all small =
    let parts = and_parts (p n) (each_below n p) all in
    elim (last_or_below n b small) [
      | inl is ↦ ap p is ∙ parts.0
      | inr less ↦ below n p b parts.1 less
    ]

controls_escaped : (b : ℕ) → b < 33 → contains ESCAPED b ≡ true
controls_escaped b small = below 33 (contains ESCAPED) b refl small

kept_plain : (b : ℕ) → should_percent_encode ESCAPED b ≡ false → is_plain b ≡ true
kept_plain b kept = grind (arith, ascii_from_kept, both_ways, escaped_from_inside, controls_escaped)

hex_plain : (b : ℕ) → IsEscapeByte b → is_plain b ≡ true
hex_plain b hex = grind (arith, nat_tests)

all_from : (bs : List ℕ) → All (λ b. is_plain b ≡ true) bs → list_all is_plain bs ≡ true
all_from [] all = refl
all_from (b ∷ bs) all = and_from (is_plain b) (list_all is_plain bs)
    (All-head (λ b. is_plain b ≡ true) b bs all)
    (all_from bs (All-tail (λ b. is_plain b ≡ true) b bs all))

list_all-append : (xs ys : List ℕ) → list_all is_plain xs ≡ true → list_all is_plain ys ≡ true →
    list_all is_plain (xs ++ ys) ≡ true
list_all-append [] ys first second = second
list_all-append (x ∷ xs) ys first second =
    let here : is_plain x ≡ true = grind (arith, nat_tests) in
    let rest : list_all is_plain xs ≡ true = grind (arith, nat_tests) in
    and_from (is_plain x) (list_all is_plain (xs ++ ys)) here (list_all-append xs ys rest second)

escaped_plain : (bytes : List ℕ) → list_all is_plain (escaped bytes) ≡ true
escaped_plain bytes = all_from (escaped bytes) (All-percent_encode (λ b. is_plain b ≡ true) ESCAPED
    bytes kept_plain hex_plain)

pub payload-words : (payload : List ℕ) → AreWords (payload_words payload)
payload-words payload = grind (arith, list_all-append, escaped_plain, and_from, is_plain, lt-ltb)

all_but_last : (xs : List ℕ) (x : ℕ) → take (length (xs ++ x ∷ []) - 1) (xs ++ x ∷ []) ≡ xs
all_but_last xs x = let e : length (xs ++ x ∷ []) - 1 ≡ length xs =
    omega (arith, length-append xs (x ∷ [])) in rw e (take-append_seam xs (x ∷ []))

pub quoted_again : (payload : List ℕ) (ws : List Word) →
    quoted_at (payload_words payload ++ codes "->" ∷ ws) ≡ (escaped payload, codes "->" ∷ ws)
unfolding quoted_at
quoted_again [] ws = rw percent_encode-nil refl
quoted_again (b ∷ bytes) ws = rw (all_but_last (escaped (b ∷ bytes)) 34) refl

pub no_limit : (payload : List ℕ) (ws : List Word) →
    limits_at (payload_words payload ++ codes "->" ∷ ws) ≡ Some (
      None,
      payload_words payload ++
          codes "->" ∷ ws,
    )
unfolding limits_at
no_limit [] ws = refl
no_limit (b ∷ bytes) ws = refl

-- ---- a line

pub record-words : (place : ℕ) (r : Record) → place < 2 ^ 64 → Fits r →
    AreWords (record_words place r)
record-words place r small fits = grind (
  arith,
  AreWords,
  words-append,
  payload-words,
  reply-words,
  word-decimal,
  word-caller,
  call-words,
)

entry_again : (place : ℕ) (r : Record) → Fits r →
    entry_at (record_words place r) ≡ Some (r.entry, escaped r.payload)
unfolding entry_at word_at
entry_again place r fits =
    let behind = payload_words r.payload ++ codes "->" ∷ reply_words r.entry.reply in
    rw (
      caller_at_again r.entry.process (call_words r.entry.call ++ behind) fits.process,
      call_again r.entry.call behind fits.call (no_limit r.payload (reply_words r.entry.reply)),
      quoted_again r.payload (reply_words r.entry.reply),
      reply_again r.entry.reply fits.reply,
    )
    refl

pub line_again : (place : ℕ) (r : Record) → place < 2 ^ 64 → Fits r →
    entry_at (words_of (line_text place r)) ≡ Some (r.entry, escaped r.payload)
unfolding line_text
line_again place r small fits =
    rw (words_of-line (record_words place r) (record-words place r small fits))
    (entry_again place r fits)

pub payload_again : (r : Record) → Fits r → percent_decode (escaped r.payload) ≡ r.payload
payload_again r fits = round_trip ESCAPED r.payload refl fits.payload

-- ---- a line in parts

pub join-more : (v : Word) (vs : List Word) (w : Word) (ws : List Word) →
    join_with_byte 32 (v ∷ vs ++ w ∷ ws) ≡ join_with_byte 32 (v ∷ vs) ++ 32 ∷
    join_with_byte 32 (w ∷ ws)
join-more v [] w ws = refl
join-more v (u ∷ us) w ws = rw append_assoc (ap (λ t. v ++ 32 ∷ t) (join-more u us w ws))

parts : (place process : Word) (cs : List Word) (payload : List ℕ) (rs : List Word) →
    0 < length cs → 0 < length rs →
    join_with_byte 32 (place ∷ process ∷ cs ++ (payload_words payload ++ codes "->" ∷ rs)) ++ 10 ∷
    [] ≡ place ++
    (codes " " ++
    (process ++
    (codes " " ++
    (join_with_byte 32 cs ++
    (payload_text payload ++ (codes " -> " ++ (join_with_byte 32 rs ++ codes "\n")))))))
parts place process cs payload rs some_call some_reply = grind (arith, common_steps, join-more)

pub call_some : (c : Call) → 0 < length (call_words c)
call_some c = grind arith

pub reply_some : (r : Reply) → 0 < length (reply_words r)
reply_some r = grind arith

-- the line as the program puts it together
pub line_text-parts : (place : ℕ) (e : Entry) (payload : List ℕ) →
    line_text place (record { entry = e; payload = payload }) ≡ decimal place ++
    (codes " " ++ (caller_word e.process ++ (codes " " ++ (join_with_byte 32 (call_words e.call) ++
    (payload_text payload ++ (codes " -> " ++ (join_with_byte 32 (reply_words e.reply) ++
    codes "\n")))))))
unfolding line_text
line_text-parts place e payload = parts (decimal place) (caller_word e.process) (call_words e.call)
    payload (reply_words e.reply) (call_some e.call) (reply_some e.reply)
