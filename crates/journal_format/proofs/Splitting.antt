-- How a text is cut into the lines of records: in one way only.
use Rattle.std.proofs.lemmas.Grind.{common_steps}
use Rattle.std.proofs.Common.{◌≡◌, ◌≢◌, ◌<◌, ◌+◌, ◌^◌, ◌∙◌, ◌++◌, ℕ, suc, cond, count_by, Bool, true, false, not, ◌==◌, List, [], ◌∷◌, length, arith, refl, ap, sym, Some, None, append_assoc, append-nil, inl, inr}
use Rattle.std.proofs.lemmas.Bool.{and_from, cases_Bool}
use Rattle.std.proofs.lemmas.Bool.Decides.{nat_tests}
use Rattle.std.proofs.lemmas.List.{length-append}
use Rattle.std.proofs.lemmas.List.Folds.{list_any-append}
use Rattle.std.proofs.lemmas.List.Sums.{sum_by-append}
use Rattle.std.specs.List.{list_all, join_with_byte, concat}
use Rattle.text_io.specs.Words.{Word, words_of}
use Rattle.mq_model.specs.Record.{Record, Past}
use Rattle.mq_model.specs.declared.entries.Entry.{Entry}
use Rattle.script_text.specs.Script.{lines_of}
use Rattle.journal_format.specs.Fitting.{AllFit, Fits}
use Rattle.journal_format.specs.JournalFault.{IsNoLine, StopsAt}
use Rattle.journal_format.specs.Text.{can_go_on, escaped, has_feed, is_line_byte, is_text_byte, journal_text, line_text, record_words}
use Rattle.journal_format.specs.Reading.{entry_at}
use Rattle.percent_encoding.specs.Percent.{percent_decode}
use Rattle.journal_format.proofs.WholeWords.{AreWords, IsWord, is_plain}
use Rattle.journal_format.proofs.WrittenLines.{line_again, payload_again, record-words}

-- ---- feeds

abbrev pub no_feed : ℕ → Bool
no_feed b = not (b == 10)

abbrev pub HasNoFeed : List ℕ → Type 0
HasNoFeed bytes = list_all no_feed bytes ≡ true

feedless : (bytes : List ℕ) → list_all is_plain bytes ≡ true → HasNoFeed bytes
feedless [] none = refl
feedless (b ∷ bytes) none =
    let here : no_feed b ≡ true = grind (arith, nat_tests) in
    let rest : list_all is_plain bytes ≡ true = grind (arith, nat_tests) in
    and_from (no_feed b) (list_all no_feed bytes) here (feedless bytes rest)

feedless_word : (w : Word) → IsWord w → HasNoFeed w
feedless_word w word = feedless w (grind (arith, nat_tests))

feedless-append : (xs ys : List ℕ) → HasNoFeed xs → HasNoFeed ys → HasNoFeed (xs ++ ys)
feedless-append [] ys first second = second
feedless-append (x ∷ xs) ys first second =
    let here : no_feed x ≡ true = grind (arith, nat_tests) in
    let rest : HasNoFeed xs = grind (arith, nat_tests) in
    and_from (no_feed x) (list_all no_feed (xs ++ ys)) here (feedless-append xs ys rest second)

pub feedless-join : (ws : List Word) → AreWords ws → HasNoFeed (join_with_byte 32 ws)
feedless-join [] words = refl
feedless-join (w ∷ []) words = feedless_word w words.0
feedless-join (w ∷ v ∷ ws) words = feedless-append w (32 ∷ join_with_byte 32 (v ∷ ws))
    (feedless_word w words.0) (feedless-join (v ∷ ws) words.1)

-- ---- bytes of lines

plain-line : (bytes : List ℕ) → list_all is_plain bytes ≡ true → can_go_on bytes ≡ true
plain-line [] plain = refl
plain-line (b ∷ bytes) plain =
    let here : is_line_byte b ≡ true = grind (arith, nat_tests) in
    let rest : list_all is_plain bytes ≡ true = grind (arith, nat_tests) in
    and_from (is_line_byte b) (can_go_on bytes) here (plain-line bytes rest)

pub all-append : (p : ℕ → Bool) (xs ys : List ℕ) → list_all p xs ≡ true → list_all p ys ≡ true →
    list_all p (xs ++ ys) ≡ true
all-append p [] ys first second = second
all-append p (x ∷ xs) ys first second =
    let here : p x ≡ true = grind (arith, nat_tests) in
    let rest : list_all p xs ≡ true = grind (arith, nat_tests) in
    and_from (p x) (list_all p (xs ++ ys)) here (all-append p xs ys rest second)

pub line-join : (ws : List Word) → AreWords ws → can_go_on (join_with_byte 32 ws) ≡ true
line-join [] words = refl
line-join (w ∷ []) words = plain-line w (grind (arith, nat_tests))
line-join (w ∷ v ∷ ws) words = grind (
  arith,
  is_plain,
  all-append,
  plain-line,
  line-join (v ∷ ws) words.1,
)

pub text-line : (bytes : List ℕ) → can_go_on bytes ≡ true → list_all is_text_byte bytes ≡ true
text-line [] all = refl
text-line (b ∷ bytes) all =
    let here : is_text_byte b ≡ true = grind (arith, nat_tests) in
    let rest : can_go_on bytes ≡ true = grind (arith, nat_tests) in
    and_from (is_text_byte b) (list_all is_text_byte bytes) here (text-line bytes rest)

-- the line that begins with these bytes has only such before its line feed
pub line-start : (rest more u behind : List ℕ) → has_feed rest ≡ false → can_go_on u ≡ true →
    rest ++ more ≡ u ++ 10 ∷ behind → can_go_on rest ≡ true
line-start [] more u behind none all same = refl
line-start (b ∷ rest) more [] behind none all same = let is : b ≡ 10 =
    cc in absurd (grind (arith, nat_tests))
line-start (b ∷ rest) more (d ∷ u) behind none all same =
    let is : b ≡ d = cc in
    let later : rest ++ more ≡ u ++ 10 ∷ behind = cc in
    let short : has_feed rest ≡ false = grind (arith, nat_tests) in
    let others : can_go_on u ≡ true = grind (arith, nat_tests) in
    let here : is_line_byte b ≡ true = grind (arith, nat_tests) in
    and_from (is_line_byte b) (can_go_on rest) here
    (line-start rest more u behind short others later)

-- what is left after the last line feed is shorter than what had one
pub left_short : (xs ys last rest : List ℕ) → xs ++ last ≡ ys ++ rest → has_feed last ≡ true →
    has_feed rest ≡ false → length rest < length last
left_short [] [] last rest same some none = let both : false ≡ true = sym none ∙ ap has_feed
    (sym same) ∙ some in absurd (cc)
left_short [] (y ∷ ys) last rest same some none =
    omega (arith, ap length same, length-append ys rest)
left_short (x ∷ xs) [] last rest same some none = grind (arith, list_any-append)
left_short (x ∷ xs) (y ∷ ys) last rest same some none = let later : xs ++ last ≡ ys ++ rest =
    cc in left_short xs ys last rest later some none

-- if two texts begin with a start without a line feed, and then a line feed, the starts are equal
pub one_front : (u v x y : List ℕ) → HasNoFeed u → HasNoFeed v → u ++ 10 ∷ x ≡ v ++ 10 ∷ y →
    (u ≡ v) × (x ≡ y)
one_front [] [] x y first second same = (refl, cc)
one_front [] (b ∷ v) x y first second same = let is : 10 ≡ b =
    cc in absurd (grind (arith, nat_tests))
one_front (b ∷ u) [] x y first second same = let is : b ≡ 10 =
    cc in absurd (grind (arith, nat_tests))
one_front (b ∷ u) (d ∷ v) x y first second same =
    let is : b ≡ d = cc in
    let behind : u ++ 10 ∷ x ≡ v ++ 10 ∷ y = cc in
    let rest : HasNoFeed u = grind (arith, nat_tests) in
    let other : HasNoFeed v = grind (arith, nat_tests) in
    let fronts = one_front u v x y rest other behind in
    (ap (λ t. b ∷ t) fronts.0 ∙ ap (λ h. h ∷ v) is, fronts.1)

-- the number of line feeds among these bytes
abbrev pub feeds : List ℕ → ℕ
feeds bytes = count_by (λ b. b == 10) bytes

pub feeds-append : (xs ys : List ℕ) → feeds (xs ++ ys) ≡ feeds xs + feeds ys
feeds-append xs ys = sum_by-append (λ b. cond (b == 10) 1 0) xs ys

feeds-none : (bytes : List ℕ) → HasNoFeed bytes → feeds bytes ≡ 0
feeds-none [] none = refl
feeds-none (b ∷ bytes) none =
    let rest : HasNoFeed bytes = grind (arith, nat_tests) in
    let other : (b == 10) ≡ false = grind (arith, nat_tests) in
    let one : feeds (b ∷ []) ≡ 0 = rw other refl in
    omega (arith, feeds-append (b ∷ []) bytes, one, feeds-none bytes rest)

-- a start without a line feed, and then a line feed
pub feeds-one : (u : List ℕ) → HasNoFeed u → feeds (u ++ 10 ∷ []) ≡ 1
feeds-one u none = feeds-append u (10 ∷ []) ∙ ap (λ n. n + 1) (feeds-none u none)

pub feeds-unseen : (bytes : List ℕ) → has_feed bytes ≡ false → feeds bytes ≡ 0
feeds-unseen [] none = refl
feeds-unseen (b ∷ bytes) none =
    let rest : has_feed bytes ≡ false = grind (arith, nat_tests) in
    let other : (b == 10) ≡ false = grind (arith, nat_tests) in
    let one : feeds (b ∷ []) ≡ 0 = rw other refl in
    omega (arith, feeds-append (b ∷ []) bytes, one, feeds-unseen bytes rest)

-- ---- lines

concat-lines : (text : List ℕ) → concat (lines_of text) ≡ text
concat-lines [] = refl
concat-lines (b ∷ text) = grind (arith, cases_Bool, concat-lines text)

-- a text is its first line, and what is after it
pub first-whole : (text line others : List ℕ) → lines_of text ≡ line ∷ lines_of others →
    text ≡ line ++ others
first-whole text line others lines = sym (concat-lines text) ∙ ap concat lines ∙ ap (λ t. line ++ t)
    (concat-lines others)

pub lines_of-front : (u rest : List ℕ) → HasNoFeed u →
    lines_of (u ++ 10 ∷ rest) ≡ (u ++ 10 ∷ []) ∷ lines_of rest
lines_of-front [] rest none = refl
lines_of-front (b ∷ u) rest none =
    let other : (b == 10) ≡ false = grind (arith, nat_tests) in
    let behind : HasNoFeed u = grind (arith, nat_tests) in
    rw (other, lines_of-front u rest behind) refl

-- ---- the line of a record

front-feedless : (place : ℕ) (r : Record) → place < 2 ^ 64 → Fits r →
    HasNoFeed (join_with_byte 32 (record_words place r))
front-feedless place r small fits = feedless-join (record_words place r)
    (record-words place r small fits)

-- the lines of a journal have only bytes of lines
pub journal-text : (past : Past) → AllFit past → length past < 2 ^ 64 →
    list_all is_text_byte (journal_text past) ≡ true
unfolding line_text
journal-text [] fits small = refl
journal-text (r ∷ past) fits small =
    let low : length past < 2 ^ 64 = omega arith in
    let u = join_with_byte 32 (record_words (length past) r) in
    all-append is_text_byte (journal_text past) (u ++ 10 ∷ []) (journal-text past fits.1 low)
    (all-append is_text_byte u (10 ∷ []) (text-line u (line-join (record_words (length past) r)
    (record-words (length past) r low fits.0))) refl)

-- bytes that no line has begin none, whatever comes after them
pub no_line : (place : ℕ) (rest more : List ℕ) → place < 2 ^ 64 → has_feed rest ≡ false →
    can_go_on rest ≡ false → (r : Record) (behind : List ℕ) → Fits r →
    rest ++ more ≢ line_text place r ++ behind
unfolding line_text
no_line place rest more small none bad r behind fits is =
    let u = join_with_byte 32 (record_words place r) in
    let good : can_go_on rest ≡ true = line-start rest more u behind none
    (line-join (record_words place r) (record-words place r small fits))
    (is ∙ append_assoc u (10 ∷ []) behind) in
    let both : false ≡ true = sym bad ∙ good in cc

-- each line of a journal has one line feed
pub feeds-journal : (past : Past) → AllFit past → length past < 2 ^ 64 →
    feeds (journal_text past) ≡ length past
unfolding line_text
feeds-journal [] fits small = refl
feeds-journal (r ∷ past) fits small =
    let low : length past < 2 ^ 64 = omega arith in
    let line = join_with_byte 32 (record_words (length past) r) in
    let one : feeds (line ++ 10 ∷ []) ≡ 1 =
    feeds-one line (front-feedless (length past) r low fits.0) in
    omega (
      arith,
      feeds-append (journal_text past) (line ++ 10 ∷ []),
      one,
      feeds-journal past fits.1 low,
    )

record_is : (r s : Record) → r.entry ≡ s.entry → r.payload ≡ s.payload → r ≡ s
record_is r s entry payload = λ i. record { entry = entry i; payload = payload i }

-- a line reads as one record
pub read_is : (place : ℕ) (r : Record) (e : Entry) (quoted : Word) → place < 2 ^ 64 → Fits r →
    entry_at (words_of (line_text place r)) ≡ Some (e, quoted) →
    ◌≡◌ {A = Record} (record { entry = e; payload = percent_decode quoted }) r
read_is place r e quoted small fits read = grind (arith, line_again, record_is, payload_again)

one_record : (place : ℕ) (r s : Record) → place < 2 ^ 64 → Fits r → Fits s →
    line_text place r ≡ line_text place s → r ≡ s
one_record place r s small r_fits s_fits same =
    let r_read = line_again place r small r_fits in
    let s_read : entry_at (words_of (line_text place s)) ≡ Some (r.entry, escaped r.payload) =
    ap (λ line. entry_at (words_of line)) (sym same) ∙ r_read in
    sym (read_is place r r.entry (escaped r.payload) small r_fits r_read) ∙ read_is place s r.entry
    (escaped r.payload) small s_fits s_read

-- words that read as no record are no record's
pub reads_none : (place : ℕ) (r : Record) (line : List ℕ) (words : List Word) → place < 2 ^ 64 →
    Fits r → entry_at words ≡ None → words ≡ words_of line → line ≡ line_text place r → ⊥
reads_none place r line words small fits none cut is = grind (arith, line_again)

-- words that read as a record whose line is another are no record's
pub reads_other : (place : ℕ) (r : Record) (line : List ℕ) (words : List Word) (e : Entry)
    (quoted payload : List ℕ) → place < 2 ^ 64 → Fits r → entry_at words ≡ Some (e, quoted) →
    words ≡ words_of line → payload ≡ percent_decode quoted → line ≡ line_text place r →
    line ≡ line_text place (record { entry = e; payload = payload })
reads_other place r line words e quoted payload small fits read cut decoded is =
    grind (arith, read_is)

one_line : (place : ℕ) (r s : Record) (x y : List ℕ) → place < 2 ^ 64 → Fits r → Fits s →
    line_text place r ++ x ≡ line_text place s ++ y → (r ≡ s) × (x ≡ y)
unfolding line_text
one_line place r s x y small r_fits s_fits same =
    let u = join_with_byte 32 (record_words place r) in
    let v = join_with_byte 32 (record_words place s) in
    let both : u ++ 10 ∷ x ≡ v ++ 10 ∷ y = sym (append_assoc u (10 ∷ []) x) ∙ same ∙
    append_assoc v (10 ∷ []) y in
    let fronts = one_front u v x y (front-feedless place r small r_fits)
    (front-feedless place s small s_fits) both in
    (one_record place r s small r_fits s_fits (ap (λ t. t ++ 10 ∷ []) fronts.0), fronts.1)

line-some : (place : ℕ) (r : Record) (others : List ℕ) → 0 < length (line_text place r ++ others)
unfolding line_text
line-some place r others = simp (length-append) (omega arith)

-- ---- the records of a journal, the earliest first

-- the lines of records from this place on
abbrev pub lines_text : ℕ → List Record → List ℕ
lines_text place [] = []
lines_text place (r ∷ later) = line_text place r ++ lines_text (suc place) later

-- the journal extended by these records
abbrev pub onto : Past → List Record → Past
onto past [] = past
onto past (r ∷ later) = onto (r ∷ past) later

onto-last : (past : Past) (later : List Record) (r : Record) →
    onto past (later ++ r ∷ []) ≡ r ∷ onto past later
onto-last past [] r = refl
onto-last past (s ∷ later) r = onto-last (s ∷ past) later r

length-onto : (past : Past) (later : List Record) →
    length (onto past later) ≡ length past + length later
length-onto past [] = omega arith
length-onto past (s ∷ later) = omega (arith, length-onto (s ∷ past) later)

lines_text-last : (place : ℕ) (later : List Record) (r : Record) →
    lines_text place (later ++ r ∷ []) ≡ lines_text place later ++
    line_text (place + length later) r
lines_text-last place [] r = let e : place + 0 ≡ place = omega arith in rw (append-nil, e) refl
lines_text-last place (s ∷ later) r =
    grind (arith, common_steps, lines_text-last (suc place) later r)

allfit-last : (later : List Record) (r : Record) → AllFit later → Fits r → AllFit (later ++ r ∷ [])
allfit-last [] r all fits = (fits, tt)
allfit-last (s ∷ later) r all fits = (all.0, allfit-last later r all.1 fits)

-- the lines that follow those of a journal in a text
pub record GoesOn (a b : Past) (rest : List ℕ) : Type 0 where
  pub later : List Record
  pub fits : AllFit later
  pub is : a ≡ onto b later
  pub text : rest ≡ lines_text (length b) later

from_start : (a : Past) → AllFit a → GoesOn a [] (journal_text a)
from_start [] fits = record { later = []; fits = tt; is = refl; text = refl }
from_start (r ∷ a) fits =
    let before = from_start a fits.1 in
    let count : length a ≡ 0 + length before.later = ap length before.is ∙
    length-onto [] before.later in
    record {
      later = before.later ++ r ∷ [];
      fits = allfit-last before.later r before.fits fits.0;
      is = ap (λ t. r ∷ t) before.is ∙ sym (onto-last [] before.later r);
      text = ap (λ n. journal_text a ++ line_text n r) count ∙
          ap (λ t. t ++ line_text (0 + length before.later) r) before.text ∙
          sym (lines_text-last 0 before.later r);
    }

next : (a : Past) (r : Record) (b : Past) (rest : List ℕ) (later : List Record) →
    length b < 2 ^ 64 → Fits r → AllFit later → a ≡ onto b later →
    line_text (length b) r ++ rest ≡ lines_text (length b) later → GoesOn a (r ∷ b) rest
next a r b rest [] small fits all is text = let some = line-some (length b) r rest in
    absurd (omega (arith, ap length text, some))
next a r b rest (s ∷ later) small fits all is text = grind (arith, one_line)

-- a journal whose text begins with that of another extends it
pub goes_on : (a b : Past) (rest : List ℕ) → AllFit a → AllFit b → length b < 2 ^ 64 →
    journal_text a ≡ journal_text b ++ rest → GoesOn a b rest
goes_on a [] rest a_fits b_fits small text = grind (arith, from_start)
goes_on a (r ∷ b) rest a_fits b_fits small text =
    let low : length b < 2 ^ 64 = omega arith in
    let before = goes_on a b (line_text (length b) r ++ rest) a_fits b_fits.1 low
    (text ∙ append_assoc (journal_text b) (line_text (length b) r) rest) in
    next a r b rest before.later low b_fits.0 before.fits before.is before.text

-- ---- what a reader finds

no_more : (a b : Past) (later : List Record) → a ≡ onto b later → [] ≡ lines_text (length b) later →
    b ≡ a
no_more a b [] is text = sym is
no_more a b (r ∷ later) is text = let some = line-some (length b) r
    (lines_text (suc (length b)) later) in absurd (omega (arith, ap length text, some))

-- journals with one text are one
pub one_journal : (a b : Past) → AllFit a → AllFit b → length b < 2 ^ 64 →
    journal_text a ≡ journal_text b → b ≡ a
one_journal a b a_fits b_fits small same =
    let on = goes_on a b [] a_fits b_fits small (same ∙ sym (append-nil (journal_text b))) in
    no_more a b on.later on.is on.text

stopped : (a b : Past) (rest : List ℕ) (later : List Record) → 0 < length rest → AllFit later →
    rest ≡ lines_text (length b) later →
    ((r : Record) (others : List ℕ) → Fits r → rest ≢ line_text (length b) r ++ others) → ⊥
stopped a b rest [] some fits text none = omega (arith, ap length text)
stopped a b rest (r ∷ later) some fits text none =
    none r (lines_text (suc (length b)) later) fits.0 text

-- a text that stops to be a journal's is none
pub stops_none : (line : ℕ) (text : List ℕ) (a : Past) → StopsAt line text → line < 2 ^ 64 →
    AllFit a → text ≡ journal_text a → ⊥
stops_none line text a stops small fits is =
    let low : length stops.past < 2 ^ 64 = omega (arith, stops.line_is) in
    let on = goes_on a stops.past stops.rest fits stops.fits low (sym is ∙ stops.whole) in
    stopped a stops.past stops.rest on.later stops.some on.fits on.text stops.none

-- a text that was read up to a line, read up to the next one
pub next_line : (text rest line others : List ℕ) (past new : Past) (place : ℕ) (r : Record) →
    text ≡ journal_text past ++ rest → lines_of rest ≡ line ∷ lines_of others →
    line ≡ line_text place r → place ≡ length past → new ≡ r ∷ past →
    text ≡ journal_text new ++ others
next_line text rest line others past new place r so_far lines is count pushed =
    grind (arith, common_steps, first-whole)

pub allfit_next : (past new : Past) (r : Record) → AllFit past → Fits r → new ≡ r ∷ past →
    AllFit new
allfit_next past new r all fits pushed = rw pushed (fits, all)

-- ---- a text with more after it

-- bytes with a line feed: those before the first one, and those after it
record Cut (bytes : List ℕ) : Type 0 where
  front : List ℕ
  behind : List ℕ
  none : HasNoFeed front
  is : bytes ≡ front ++ 10 ∷ behind

cut_at : (bytes : List ℕ) → has_feed bytes ≡ true → Cut bytes
cut_at [] some = absurd (cc)
cut_at (b ∷ bytes) some = elim (cases_Bool (b == 10)) [
  | inl feed ↦ let is : b ≡ 10 = grind (arith, nat_tests) in record {
    front = [];
    behind = bytes;
    none = refl;
    is = ap (λ h. h ∷ bytes) is;
  }
  | inr other ↦
      let rest : has_feed bytes ≡ true = grind (arith, nat_tests) in
      let here : no_feed b ≡ true = grind (arith, nat_tests) in
      let later = cut_at bytes rest in
      record {
        front = b ∷ later.front;
        behind = later.behind;
        none = and_from (no_feed b) (list_all no_feed later.front) here later.none;
        is = ap (λ t. b ∷ t) later.is;
      }
]

pub feed_some : (bytes more : List ℕ) → has_feed bytes ≡ true → 0 < length (bytes ++ more)
feed_some bytes more some = grind (arith, common_steps)

pub feed_behind : (front behind : List ℕ) → has_feed (front ++ 10 ∷ behind) ≡ true
feed_behind [] behind = refl
feed_behind (b ∷ front) behind = let later = feed_behind front behind in grind (arith, nat_tests)

line_feed : (place : ℕ) (r : Record) (behind : List ℕ) → has_feed (line_text place r ++ behind) ≡
    true
unfolding line_text
line_feed place r behind =
    let u = join_with_byte 32 (record_words place r) in
    ap has_feed (append_assoc u (10 ∷ []) behind) ∙ feed_behind u behind

-- if a text has a line feed, its first line does not depend on what follows the text
pub first_in : (rest line others more u behind : List ℕ) → has_feed rest ≡ true →
    lines_of rest ≡ line ∷ lines_of others → HasNoFeed u → rest ++ more ≡ (u ++ 10 ∷ []) ++ behind →
    line ≡ u ++ 10 ∷ []
first_in rest line others more u behind some lines none is =
    let cut = cut_at rest some in
    let left : rest ++ more ≡ cut.front ++ 10 ∷ (cut.behind ++ more) = ap (λ t. t ++ more) cut.is ∙
    append_assoc cut.front (10 ∷ cut.behind) more in
    let right : (u ++ 10 ∷ []) ++ behind ≡ u ++ 10 ∷ behind = append_assoc u (10 ∷ []) behind in
    grind (arith, nat_tests, one_front, lines_of-front)

no_first_in : (place : ℕ) (rest line others more : List ℕ) → place < 2 ^ 64 → has_feed rest ≡ true →
    lines_of rest ≡ line ∷ lines_of others → IsNoLine place line → (r : Record) (behind : List ℕ) →
    Fits r → rest ++ more ≢ line_text place r ++ behind
unfolding line_text
no_first_in place rest line others more small some lines none r behind fits is =
    none r fits (first_in rest line others more (join_with_byte 32 (record_words place r)) behind
    some lines (front-feedless place r small fits) is)

-- a text that stops at the next line, whatever follows
pub stops_in : (line place : ℕ) (text rest first others more : List ℕ) (past : Past) →
    text ≡ journal_text past ++ rest → AllFit past → place ≡ length past → place < 2 ^ 63 →
    line ≡ place + 1 → has_feed rest ≡ true → lines_of rest ≡ first ∷ lines_of others →
    IsNoLine place first → StopsAt line (text ++ more)
stops_in line place text rest first others more past so_far all count small number some lines none =
    grind (arith, common_steps, feed_some, no_first_in)

-- a text that ends with a line that lacks its line feed
pub stops_short : (line : ℕ) (rest : List ℕ) (past : Past) → AllFit past → line ≡ length past + 1 →
    0 < length rest → has_feed rest ≡ false → StopsAt line (journal_text past ++ rest)
stops_short line rest past all number some short = grind (arith, line_feed)
