-- How a text is cut into the lines of calls: in one way only.
use Rattle.std.proofs.lemmas.Grind.{common_steps}
use Rattle.std.proofs.Common.{◌≡◌, ◌≢◌, ◌⊎◌, inl, inr, ◌<◌, ◌+◌, ◌∙◌, ◌++◌, ℕ, true, false, List, [], ◌∷◌, length, map, arith, refl, ap, sym, subst, append_assoc, append-nil, Result, Ok, Err, IfOk, IsErrOf, MatchResult, Vec, Global}
use Rattle.std.proofs.lemmas.List.{length-append}
use Rattle.std.specs.List.{join_with_byte, list_all}
use Rattle.script_text.specs.Script.{lines_of}
use Rattle.journal_format.specs.Text.{can_go_on, has_feed, is_text_byte}
use Rattle.journal_format.specs.declared.lines.TheConstants.{MOST_LINE}
use Rattle.journal_format.specs.declared.fault.JournalFault.{JournalFault}
use Rattle.journal_format.specs.declared.fault.JournalFault.TheVariants.{BadLine, Input, NoMemory}
use Rattle.journal_format.proofs.Arriving.{EndsEarly, early_length, early_some, err_only, too_long}
use Rattle.journal_format.proofs.Splitting.{HasNoFeed, all-append, feed_behind, feed_some, feedless-join, feeds, feeds-append, feeds-one, first_in, line-join, line-start, one_front, text-line}
use Rattle.history_judge.specs.Fitting.{AllFit, Fits}
use Rattle.history_judge.specs.HistoryFault.{IsAtFault, StopsAt}
use Rattle.history_judge.specs.Reading.{IsNoLine}
use Rattle.history_judge.specs.Seen.{AreSameCalls, SeenCall, seen_call}
use Rattle.history_judge.specs.Text.{called_words, history_text, line_text}
use Rattle.history_judge.specs.declared.line.Called.{Called}
use Rattle.history_judge.proofs.Written.{called-words, same_line}

-- ---- the line of a call

front-feedless : (c : Called) → Fits c → HasNoFeed (join_with_byte 32 (called_words c))
front-feedless c fits = feedless-join (called_words c) (called-words c fits)

line-some : (c : Called) (others : List ℕ) → 0 < length (line_text c ++ others)
unfolding line_text
line-some c others = simp (length-append) (omega arith)

-- the lines of a history have only bytes of lines
pub history-text : (calls : List Called) → AllFit calls →
    list_all is_text_byte (history_text calls) ≡ true
unfolding line_text
history-text [] fits = refl
history-text (c ∷ calls) fits =
    let u = join_with_byte 32 (called_words c) in
    let line : list_all is_text_byte (u ++ 10 ∷ []) ≡ true = all-append is_text_byte u (10 ∷ [])
    (text-line u (line-join (called_words c) (called-words c fits.0))) refl in
    all-append is_text_byte (u ++ 10 ∷ []) (history_text calls) line (history-text calls fits.1)

-- bytes that no line has begin none, whatever comes after them
no_line : (rest more : List ℕ) → has_feed rest ≡ false → can_go_on rest ≡ false →
    (c : Called) (behind : List ℕ) → Fits c → rest ++ more ≢ line_text c ++ behind
unfolding line_text
no_line rest more none bad c behind fits is =
    let u = join_with_byte 32 (called_words c) in
    let good : can_go_on rest ≡ true = line-start rest more u behind none
    (line-join (called_words c) (called-words c fits)) (is ∙ append_assoc u (10 ∷ []) behind) in
    let both : false ≡ true = sym bad ∙ good in cc

-- each line of a history has one line feed
pub feeds-history : (calls : List Called) → AllFit calls → feeds (history_text calls) ≡ length calls
unfolding line_text
feeds-history [] fits = refl
feeds-history (c ∷ calls) fits =
    let line = join_with_byte 32 (called_words c) in
    omega (
      arith,
      feeds-append (line ++ 10 ∷ []) (history_text calls),
      feeds-one line
          (front-feedless c fits.0),
      feeds-history calls fits.1,
    )

line_feed : (c : Called) (behind : List ℕ) → has_feed (line_text c ++ behind) ≡ true
unfolding line_text
line_feed c behind =
    let u = join_with_byte 32 (called_words c) in
    ap has_feed (append_assoc u (10 ∷ []) behind) ∙ feed_behind u behind

-- if two texts begin with the line of a call, the lines are equal
one_line : (c d : Called) (x y : List ℕ) → Fits c → Fits d → line_text c ++ x ≡ line_text d ++ y →
    (line_text c ≡ line_text d) × (x ≡ y)
unfolding line_text
one_line c d x y c_fits d_fits same =
    let u = join_with_byte 32 (called_words c) in
    let v = join_with_byte 32 (called_words d) in
    let both : u ++ 10 ∷ x ≡ v ++ 10 ∷ y = sym (append_assoc u (10 ∷ []) x) ∙ same ∙
    append_assoc v (10 ∷ []) y in
    let fronts = one_front u v x y (front-feedless c c_fits) (front-feedless d d_fits) both in
    (ap (λ t. t ++ 10 ∷ []) fronts.0, fronts.1)

-- ---- what a reader finds

-- the calls of two histories with one text are the same
one_history : (a b : List Called) → AllFit a → AllFit b → history_text a ≡ history_text b →
    AreSameCalls a b
one_history [] [] a_fits b_fits same = refl
one_history [] (d ∷ b) a_fits b_fits same = let some = line-some d (history_text b) in
    absurd (omega (arith, ap length same, some))
one_history (c ∷ a) [] a_fits b_fits same = let some = line-some c (history_text a) in
    absurd (omega (arith, ap length same, some))
one_history (c ∷ a) (d ∷ b) a_fits b_fits same =
    let both = one_line c d (history_text a) (history_text b) a_fits.0 b_fits.0 same in
    ap (λ (s : SeenCall). s ∷ map seen_call a) (same_line c d a_fits.0 b_fits.0 both.0)
    ∙ ap (λ t. seen_call d ∷ t) (one_history a b a_fits.1 b_fits.1 both.1)

stopped : (calls a : List Called) (rest : List ℕ) → AllFit calls → AllFit a → 0 < length rest →
    ((c : Called) (others : List ℕ) → Fits c → rest ≢ line_text c ++ others) →
    history_text calls ++ rest ≡ history_text a → ⊥
stopped [] [] rest fits a_fits some none same = omega (arith, ap length same, some)
stopped [] (d ∷ a) rest fits a_fits some none same = none d (history_text a) a_fits.0 same
stopped (c ∷ calls) [] rest fits a_fits some none same =
    let more = line-some c (history_text calls ++ rest) in
    omega (
      arith,
      ap length (sym (append_assoc (line_text c) (history_text calls) rest) ∙ same),
      more,
    )
stopped (c ∷ calls) (d ∷ a) rest fits a_fits some none same =
    let both = one_line c d (history_text calls ++ rest) (history_text a) fits.0 a_fits.0
    (sym (append_assoc (line_text c) (history_text calls) rest) ∙ same) in
    stopped calls a rest fits.1 a_fits.1 some none both.1

-- a text that stops to be a history's is none
stops_none : (line : ℕ) (text : List ℕ) (a : List Called) → StopsAt line text → AllFit a →
    text ≡ history_text a → ⊥
stops_none line text a stops fits is = stopped stops.calls a stops.rest stops.fits fits stops.some
    stops.none (sym stops.whole ∙ is)

pub found_of : (result : Result (Vec Called Global) JournalFault) (calls : Vec Called Global)
    (text rest : List ℕ) → text ≡ history_text calls.items ++ rest →
    IfOk result (λ read. (read ≡ calls) × (rest ≡ [])) →
    IfOk result (λ read. text ≡ history_text read.items)
found_of result calls text rest is whole = grind (arith, append-nil)

pub fits_of : (result : Result (Vec Called Global) JournalFault) (calls : Vec Called Global)
    (rest : List ℕ) → AllFit calls.items → IfOk result (λ read. (read ≡ calls) × (rest ≡ [])) →
    IfOk result (λ read. AllFit read.items)
fits_of result calls rest fits whole = grind arith

pub stops_from_start : (line : ℕ) (text : List ℕ) (start : List Called) → start ≡ [] →
    StopsAt line (history_text start ++ (text ++ [])) → StopsAt line text
stops_from_start line text start none stops = subst (StopsAt line)
    (ap (λ (cs : List Called). history_text cs ++ (text ++ [])) none ∙ append-nil text) stops

-- the same of an input in which no more is read
pub found_at_end : (result : Result (Vec Called Global) JournalFault) (calls : Vec Called Global)
    (text rest : List ℕ) →
    (text ≡ history_text calls.items ++ rest) ⊎ EndsEarly rest (history_text calls.items ++ rest)
    text → IfOk result (λ read. (read ≡ calls) × (rest ≡ [])) →
    IfOk result (λ read. text ≡ history_text read.items)
found_at_end result calls text rest h whole = grind (arith, found_of, early_some)

early_fault : (line : ℕ) (calls : List Called) (rest more : List ℕ) → AllFit calls →
    has_feed rest ≡ false → line ≡ length calls + 1 →
    (MOST_LINE < length rest) ⊎ (can_go_on rest ≡ false) →
    IsAtFault line (history_text calls ++ (rest ++ more))
early_fault line calls rest more fits none number (inl long) =
    inr (record {
      calls = calls;
      rest = rest ++ more;
      fits = fits;
      whole = refl;
      line_is = number;
      long = too_long rest more long none;
    })
early_fault line calls rest more fits none number (inr bad) =
    grind (arith, length-append, early_length, no_line)

pub at_fault_at_end : (line : ℕ) (calls : List Called) (text rest : List ℕ) → AllFit calls →
    has_feed rest ≡ false → line ≡ length calls + 1 →
    (text ≡ history_text calls ++ rest) ⊎ EndsEarly rest (history_text calls ++ rest) text →
    StopsAt line (history_text calls ++ rest) → IsAtFault line text
at_fault_at_end line calls text rest fits none number (inl all) stops =
    inl (subst (StopsAt line) (sym all) stops)
at_fault_at_end line calls text rest fits none number (inr end) stops =
    let whole : text ≡ history_text calls ++ (rest ++ end.more) = end.whole ∙ append_assoc
    (history_text calls) rest end.more in
    subst (IsAtFault line) (sym whole) (early_fault line calls rest end.more fits
    none number end.why)

-- if this is the text of a history, its calls are read, or memory is refused
pub only_from : (result : Result (Vec Called Global) JournalFault) (text : List ℕ)
    (history : List Called) → AllFit history → text ≡ history_text history →
    IfOk result (λ calls. text ≡ history_text calls.items) →
    IfOk result (λ calls. AllFit calls.items) →
    ((line : ℕ) → IsErrOf result (BadLine line) → StopsAt line text) → (IsErrOf result Input → ⊥) →
    MatchResult result (λ calls. AreSameCalls calls.items history) (λ fault. fault ≡ NoMemory)
only_from (Ok calls) text history fits is found all stops no_input = one_history calls.items history
    all fits (sym found ∙ is)
only_from (Err fault) text history fits is found all stops no_input =
    err_only fault
    (λ line bad. let named : IsErrOf {T = Vec Called Global} (Err fault) (BadLine line) = ap
    (λ e. Err e) bad in stops_none line text history (stops line named) fits is)
    (λ bad. no_input (ap (λ e. Err e) bad))

-- ---- where it stops

none_in : (rest line others more : List ℕ) → has_feed rest ≡ true →
    lines_of rest ≡ line ∷ lines_of others → IsNoLine line → (c : Called) (behind : List ℕ) →
    Fits c → rest ++ more ≢ line_text c ++ behind
unfolding line_text
none_in rest line others more some lines none c behind fits is =
    none c fits (first_in rest line others more (join_with_byte 32 (called_words c)) behind some
    lines (front-feedless c fits) is)

-- at the next line, whatever comes after it
pub stops_in : (line : ℕ) (text rest first others more : List ℕ) (calls : List Called) →
    text ≡ history_text calls ++ rest → AllFit calls → line ≡ length calls + 1 →
    has_feed rest ≡ true → lines_of rest ≡ first ∷ lines_of others → IsNoLine first →
    StopsAt line (text ++ more)
stops_in line text rest first others more calls so_far fits number some lines none =
    grind (arith, common_steps, feed_some, none_in)

-- with a line that lacks its line feed
pub stops_short : (line : ℕ) (rest : List ℕ) (calls : List Called) → AllFit calls →
    line ≡ length calls + 1 → 0 < length rest → has_feed rest ≡ false →
    StopsAt line (history_text calls ++ rest)
stops_short line rest calls fits number some short = grind (arith, line_feed)
