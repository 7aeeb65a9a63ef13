-- A text that is read as it arrives.
use Rattle.std.proofs.lemmas.Grind.{common_steps}
use Rattle.std.proofs.Common.{◌≡◌, ◌<◌, ◌≤◌, ◌+◌, ◌⊎◌, ◌||◌, ◌==◌, ◌^◌, true, false, ◌∙◌, ◌++◌, ℕ, zero, suc, List, [], ◌∷◌, length, length-append, take, inl, inr, arith, refl, ap, sym, subst, Option, Some, Result, Ok, Err, IfOk, IsErrOf, MatchResult, append-nil, append_assoc}
use Rattle.std.specs.Io.KnownBytes.{Consumes, IsAtEnd}
use Rattle.std.specs.List.{list_all}
use Rattle.std.proofs.lemmas.Bool.Decides.{nat_tests}
use Rattle.std.proofs.lemmas.List.{take-append-le}
use Rattle.std.proofs.lemmas.List.Folds.{list_any-append}
use Rattle.mq_model.specs.Record.{Past}
use Rattle.mq_model.specs.declared.journals.Journal.{Journal}
use Rattle.journal_format.specs.Fitting.{AllFit}
use Rattle.journal_format.specs.JournalFault.{IsAtFault, StopsAt}
use Rattle.journal_format.specs.Lines.{HasEnded, HasNewLine, HasRead, IsTooLong, ReadsUpTo}
use Rattle.journal_format.specs.Text.{can_go_on, has_feed, is_text_byte, journal_text}
use Rattle.journal_format.specs.declared.lines.TheConstants.{CHUNK, MOST_BYTES, MOST_LINE}
use Rattle.journal_format.specs.declared.fault.JournalFault.{JournalFault}
use Rattle.journal_format.specs.declared.fault.JournalFault.TheVariants.{BadLine, Input, NoMemory}
use Rattle.journal_format.proofs.Splitting.{all-append, feeds, feeds-append, feeds-unseen, left_short, no_line, one_journal, stops_none, text-line}

-- ---- what was read, and what is left

-- these bytes come first, and the others are left
record IsFront (xs all : List ℕ) (new : Option (List ℕ)) : Type 0 where
  left : List ℕ
  whole : all ≡ xs ++ left
  is : new ≡ Some left

front_of : (old new : Option (List ℕ)) (xs all : List ℕ) → old ≡ Some all → Consumes old new xs →
    IsFront xs all new
front_of old new xs all known read = grind arith

take-onto : (xs ys : List ℕ) (n k : ℕ) → length xs + k ≡ n → take n (xs ++ ys) ≡ xs ++ take k ys
take-onto [] ys n k is = let same : n ≡ k = omega arith in ap (λ j. take j ys) same
take-onto (x ∷ xs) ys zero k is = absurd (omega arith)
take-onto (x ∷ xs) ys (suc n) k is = ap (λ t. x ∷ t) (take-onto xs ys n k (omega arith))

-- of what is read at most, some was read and k more bytes may be
front_taken : (xs all : List ℕ) (new : Option (List ℕ)) (n k : ℕ) → (front : IsFront xs all new) →
    length xs + k ≡ n → take n all ≡ xs ++ take k front.left
front_taken xs all new n k front count = ap (take n) front.whole ∙ take-onto xs front.left n k count

none_left : (left : List ℕ) (new : Option (List ℕ)) → new ≡ Some left → IsAtEnd new → left ≡ []
none_left left new is = grind arith

all_at_end : (xs all : List ℕ) (new : Option (List ℕ)) (n k : ℕ) → IsFront xs all new →
    length xs + k ≡ n → IsAtEnd new → take n all ≡ xs
all_at_end xs all new n k front count at = grind (
  arith,
  common_steps,
  none_left,
  front_taken,
  append-nil,
)

all_taken : (xs all : List ℕ) (new : Option (List ℕ)) (n : ℕ) → IsFront xs all new →
    length xs + 0 ≡ n → take n all ≡ xs
all_taken xs all new n front count = front_taken xs all new n 0 front count ∙ append-nil xs

-- if nothing more is read, these are all bytes
pub all_read : (start now : Option (List ℕ)) (all bytes : List ℕ) (left : ℕ) →
    HasRead start now bytes left → start ≡ Some all → (left ≡ 0) ⊎ IsAtEnd now →
    take (MOST_BYTES + 1) all ≡ bytes
all_read start now all bytes left read known (inl none) =
    all_taken bytes all now _ (front_of start now bytes all known read.bytes_are)
    (ap (λ k. length bytes + k) (sym none) ∙ read.count)
all_read start now all bytes left read known (inr at) = all_at_end bytes all now _ left
    (front_of start now bytes all known read.bytes_are) read.count at

-- they come first, whatever more there is
pub some_read : (start now : Option (List ℕ)) (all bytes : List ℕ) (left : ℕ) →
    HasRead start now bytes left → start ≡ Some all →
    (more : List ℕ) × (take (MOST_BYTES + 1) all ≡ bytes ++ more)
some_read start now all bytes left read known =
    let front = front_of start now bytes all known read.bytes_are in
    (take left front.left, front_taken bytes all now _ left front read.count)

-- these bytes come first, and the rest of them is too long for a line, or has a byte that no line
-- has
pub record EndsEarly (rest bytes text : List ℕ) : Type 0 where
  pub more : List ℕ
  pub whole : text ≡ bytes ++ more
  pub why : (MOST_LINE < length rest) ⊎ (can_go_on rest ≡ false)

-- if no more of a line is read, these are all bytes, or they do not start a line, whatever follows
pub ended : (start now : Option (List ℕ)) (all front rest : List ℕ) (left : ℕ) →
    HasRead start now (front ++ rest) left → start ≡ Some all → HasEnded rest left now →
    (take (MOST_BYTES + 1) all ≡ front ++ rest) ⊎ EndsEarly rest (front ++ rest)
    (take (MOST_BYTES + 1) all)
ended start now all front rest left read known (inl none) =
    inl (all_read start now all (front ++ rest) left read known (inl none))
ended start now all front rest left read known (inr (inl at)) =
    inl (all_read start now all (front ++ rest) left read known (inr at))
ended start now all front rest left read known (inr (inr why)) =
    let some = some_read start now all (front ++ rest) left read known in
    inr (record { more = some.0; whole = some.1; why = why })

-- then something is left
pub early_some : (rest bytes text : List ℕ) → EndsEarly rest bytes text → rest ≡ [] → ⊥
early_some rest bytes text end none = grind arith

pub early_length : (rest : List ℕ) → can_go_on rest ≡ false → 0 < length rest
early_length rest bad = grind (arith, common_steps)

take-feedless : (n : ℕ) (bytes : List ℕ) → has_feed bytes ≡ false → has_feed (take n bytes) ≡ false
take-feedless (suc n) (b ∷ bytes) none =
    let rest : has_feed bytes ≡ false = grind (arith, nat_tests) in
    let later = take-feedless n bytes rest in
    grind (arith, nat_tests)
take-feedless _ _ none = refl

pub too_long : (rest more : List ℕ) → MOST_LINE < length rest → has_feed rest ≡ false →
    IsTooLong (rest ++ more)
too_long rest more long none =
    let some : MOST_LINE < length (rest ++ more) = omega (arith, length-append rest more, long) in
    let first : take MOST_LINE (rest ++ more) ≡ take MOST_LINE rest =
    take-append-le MOST_LINE rest more (omega (arith, long)) in
    (some, ap has_feed first ∙ take-feedless MOST_LINE rest none)

-- what is left after the lines that have come was read last
pub left_in_last : (xs ys bytes rest : List ℕ) → xs ++ bytes ≡ ys ++ rest → HasNewLine bytes →
    has_feed bytes ≡ true → has_feed rest ≡ false → length rest ≤ CHUNK
left_in_last xs ys bytes rest same new some none =
    let text : (xs ++ new.before) ++ new.last ≡ ys ++ rest = append_assoc xs new.before new.last ∙
    ap (λ t. xs ++ t) (sym new.whole) ∙ same in
    let parts : has_feed bytes ≡ (has_feed new.before || has_feed new.last) =
    ap has_feed new.whole ∙ list_any-append (λ b. b == 10) new.before new.last in
    let last : has_feed new.last ≡ true = ap (λ t. t || has_feed new.last) (sym new.none) ∙
    sym parts ∙ some in
    omega (arith, left_short (xs ++ new.before) ys new.last rest text last none, new.size)

-- a line that is wrong is among those that were read last, or after them
pub reads_up_to : (line : ℕ) (old now : Option (List ℕ)) (front rest : List ℕ) (left : ℕ) →
    HasRead old now (front ++ rest) left → HasNewLine rest → feeds front < line →
    list_all is_text_byte front ≡ true → ReadsUpTo line old now
reads_up_to line old now front rest left read new few plain = record {
  before = front ++ new.before;
  last = new.last;
  read = subst (Consumes old now) (ap (λ t. front ++ t) new.whole ∙
      sym (append_assoc front new.before new.last)) read.bytes_are;
  few = omega (arith, feeds-append front new.before, feeds-unseen new.before new.none, few);
  plain = all-append is_text_byte front new.before plain (text-line new.before new.goes_on);
  size = new.size;
}

-- ---- the result of reading a text

pub found_of : (result : Result Journal JournalFault) (journal : Journal) (text rest : List ℕ) →
    AllFit journal.records → text ≡ journal_text journal.records ++ rest →
    IfOk result (λ read. (read ≡ journal) × (rest ≡ [])) →
    IfOk result (λ read. AllFit read.records × (text ≡ journal_text read.records))
found_of result journal text rest fits is whole = grind (arith, append-nil)

-- the same of an input in which no more is read
pub found_at_end : (result : Result Journal JournalFault) (journal : Journal)
    (text rest bytes : List ℕ) → AllFit journal.records →
    bytes ≡ journal_text journal.records ++ rest →
    (text ≡ bytes) ⊎ EndsEarly rest bytes text →
    IfOk result (λ read. (read ≡ journal) × (rest ≡ [])) →
    IfOk result (λ read. AllFit read.records × (text ≡ journal_text read.records))
found_at_end result journal text rest bytes fits is h whole = grind (arith, found_of, early_some)

early_fault : (line : ℕ) (past : Past) (rest more : List ℕ) → AllFit past → length past < 2 ^ 64 →
    has_feed rest ≡ false → line ≡ length past + 1 →
    (MOST_LINE < length rest) ⊎ (can_go_on rest ≡ false) →
    IsAtFault line (journal_text past ++ (rest ++ more))
early_fault line past rest more fits small none number (inl long) =
    inr (record {
      past = past;
      rest = rest ++ more;
      fits = fits;
      whole = refl;
      line_is = number;
      long = too_long rest more long none;
    })
early_fault line past rest more fits small none number (inr bad) =
    grind (arith, length-append, early_length, no_line)

pub at_fault_at_end : (line : ℕ) (past : Past) (text rest bytes : List ℕ) → AllFit past →
    length past < 2 ^ 64 → has_feed rest ≡ false → bytes ≡ journal_text past ++ rest →
    line ≡ length past + 1 →
    (text ≡ bytes) ⊎ EndsEarly rest bytes text → StopsAt line bytes → IsAtFault line text
at_fault_at_end line past text rest bytes fits small none is number (inl all) stops =
    inl (subst (StopsAt line) (sym all) stops)
at_fault_at_end line past text rest bytes fits small none is number (inr end) stops =
    let whole : text ≡ journal_text past ++ (rest ++ end.more) = end.whole ∙ ap (λ t. t ++ end.more)
    is ∙ append_assoc (journal_text past) rest end.more in
    subst (IsAtFault line) (sym whole) (early_fault line past rest end.more fits small
    none number end.why)

pub err_only : (fault : JournalFault) → ((line : ℕ) → fault ≡ BadLine line → ⊥) →
    (fault ≡ Input → ⊥) → fault ≡ NoMemory
err_only fault no_line no_input = grind (arith, no_line)

-- if this is the text of a journal, that journal is read, or memory is refused
pub only_from : (result : Result Journal JournalFault) (text : List ℕ) (past : Past) → AllFit past →
    text ≡ journal_text past →
    IfOk result (λ read. AllFit read.records × (text ≡ journal_text read.records)) →
    IfOk result (λ read. length read.records < 2 ^ 63) →
    ((line : ℕ) → IsErrOf result (BadLine line) → StopsAt line text) →
    ((line : ℕ) → IsErrOf result (BadLine line) → line ≤ 2 ^ 63) → (IsErrOf result Input → ⊥) →
    MatchResult result (λ journal. journal.records ≡ past) (λ fault. fault ≡ NoMemory)
only_from (Ok read) text past fits is found few stops number no_input =
    one_journal past read.records fits found.0 (omega (arith, few)) (sym is ∙ found.1)
only_from (Err fault) text past fits is found few stops number no_input =
    err_only fault
    (λ line bad. let named : IsErrOf {T = Journal} (Err fault) (BadLine line) = ap (λ e. Err e)
    bad in stops_none line text past (stops line named) (omega (arith, number line named)) fits
    is)
    (λ bad. no_input (ap (λ e. Err e) bad))

pub as_err : {T U E : Type 0} (x y : E) → IsErrOf {T = T} (Err x) y → IsErrOf {T = U} (Err x) y
as_err x y is = let same : x ≡ y = cc in ap (λ e. Err e) same

pub stops_from_start : (line : ℕ) (text : List ℕ) (start : Past) → start ≡ [] →
    StopsAt line (journal_text start ++ (text ++ [])) → StopsAt line text
stops_from_start line text start none stops = subst (StopsAt line)
    (ap (λ p. journal_text p ++ (text ++ [])) none ∙ append-nil text) stops
