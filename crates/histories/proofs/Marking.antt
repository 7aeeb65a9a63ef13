-- The operations of a process on the queue of a name, one by one.
use Rattle.std.proofs.lemmas.Bool.Decides.{nat_tests}
use Rattle.std.proofs.Common.{◌≡◌, ℕ, ◌+◌, ◌≤◌, zero, suc, Bool, true, false, ◌&&◌, ◌||◌, List, [], ◌∷◌, ◌++◌, length, take, Option, Some, None, Vec, refl, sym, ◌∙◌, ap, arith, add-one, slice_get, count_by, if◌then◌else◌, Global}
use Rattle.std.specs.List.{list_any}
use Rattle.std.specs.Option.{option_and_then, option_map, unwrap_or}
use Rattle.std.proofs.lemmas.List.{length-set}
use Rattle.std.proofs.lemmas.List.Sums.{sum_by-cons}
use Rattle.mq_model.specs.Descriptors.{descriptor_of}
use Rattle.mq_model.proofs.Places.{split}
use Rattle.histories.specs.declared.operation.Operation.{Operation}
use Rattle.histories.specs.declared.operation.Outcome.{Outcome}
use Rattle.mq_model.specs.Record.{Past}
use Rattle.histories.specs.Histories.{Histories, completed, current_of}
use Rattle.histories.specs.RealTime.{operation_at}
use Rattle.histories.proofs.Completing.{one_if}
use Rattle.histories.specs.Named.{Marks, calls_from, calls_on, has_any, has_any_on, is_marked, marks_after, marks_of, marks_opened, no_marks}

-- one more operation ------------------------------------------------------------------------------

marks-append : (name : List ℕ) (marks : Marks) (xs : List Operation) (o : Operation) →
    marks_of name marks (xs ++ o ∷ []) ≡ marks_after name (marks_of name marks xs) o
marks-append name marks [] o = refl
marks-append name marks (x ∷ xs) o = marks-append name (marks_after name marks x) xs o

or-same : (a b c : Bool) → (a || (b || c)) ≡ ((a || b) || c)
or-same a b c = grind arith

any-append : (test : Operation → Bool) (name : List ℕ) (marks : Marks) (xs : List Operation)
    (o : Operation) →
    list_any test (calls_from name marks (xs ++ o ∷ [])) ≡
    (list_any test (calls_from name marks xs) || (is_marked (marks_of name marks xs)
    (descriptor_of o.call) && test o))
any-append test name marks [] o = split (is_marked marks (descriptor_of o.call))
    (λ t. split (test o) (λ y. rw (t, y) refl) (λ n. rw (t, n) refl))
    (λ f. rw f refl)
any-append test name marks (x ∷ xs) o =
    let rest = any-append test name (marks_after name marks x) xs o in
    split (is_marked marks (descriptor_of x.call))
    (λ t. rw (t, rest) (or-same (test x) _ _))
    (λ f. rw (f, rest) refl)

take-at : {A : Type 0} (xs : List A) (k : ℕ) (x : A) → slice_get xs k ≡ Some x →
    take (suc k) xs ≡ take k xs ++ x ∷ []
take-at [] k x is = absurd (let bad : None ≡ Some x = is in cc)
take-at (y ∷ ys) zero x is = let both : Some y ≡ Some x = is in let same : y ≡ x =
    cc in ap (λ z. z ∷ []) same
take-at (y ∷ ys) (suc k) x is = ap (λ zs. y ∷ zs) (take-at ys k x is)

pub marks-next : (name : List ℕ) (xs : List Operation) (k : ℕ) (o : Operation) →
    slice_get xs k ≡ Some o →
    marks_of name no_marks (take (k + 1) xs) ≡
    marks_after name (marks_of name no_marks (take k xs)) o
marks-next name xs k o is = ap (λ n. marks_of name no_marks (take n xs)) (add-one k) ∙
    ap (marks_of name no_marks) (take-at xs k o is) ∙ marks-append name no_marks (take k xs) o

pub any-next : (test : Operation → Bool) (name : List ℕ) (xs : List Operation) (k : ℕ)
    (o : Operation) → slice_get xs k ≡ Some o →
    list_any test (calls_from name no_marks (take (k + 1) xs)) ≡
    (list_any test (calls_from name no_marks (take k xs)) ||
    (is_marked (marks_of name no_marks (take k xs)) (descriptor_of o.call) && test o))
any-next test name xs k o is = ap (λ n. list_any test (calls_from name no_marks (take n xs)))
    (add-one k) ∙ ap (λ ys. list_any test (calls_from name no_marks ys)) (take-at xs k o is) ∙
    any-append test name no_marks (take k xs) o

-- what a test finds -------------------------------------------------------------------------------

pub none-on : (test : Operation → Bool) (name : List ℕ) (marks : Marks) (xs : List Operation)
    (k : ℕ) (o : Operation) → list_any test (calls_from name marks xs) ≡ false →
    slice_get xs k ≡ Some o →
    is_marked (marks_of name marks (take k xs)) (descriptor_of o.call) ≡ true → test o ≡ false
none-on test name marks [] k o none is on = absurd (let bad : None ≡ Some o = is in cc)
none-on test name marks (x ∷ xs) zero o none is on =
    let both : Some x ≡ Some o = is in
    let same : x ≡ o = cc in
    let here : is_marked marks (descriptor_of x.call) ≡ true =
    ap (λ (y : Operation). is_marked marks (descriptor_of y.call)) same ∙ on in
    split (test x)
    (λ t. let bad : true ≡ false = rw (here, t) at none in absurd (cc))
    (λ f. ap test (sym same) ∙ f)
none-on test name marks (x ∷ xs) (suc k) o none is on = none-on test name (marks_after name marks x)
    xs k o rest is on
  where
    rest : list_any test (calls_from name (marks_after name marks x) xs) ≡ false
    rest = split (is_marked marks (descriptor_of x.call))
        (λ t. split (test x)
        (λ y. let bad : true ≡ false = rw (t, y) at none in absurd (cc))
        (λ n. rw (t, n) at none))
        (λ f. rw f at none)

-- an operation on the queue that passes a test
pub record IsOn (test : Operation → Bool) (name : List ℕ) (marks : Marks)
    (xs : List Operation) : Type 0 where
  pub k : ℕ
  pub operation : Operation
  pub is : slice_get xs k ≡ Some operation
  pub on : is_marked (marks_of name marks (take k xs)) (descriptor_of operation.call) ≡ true
  pub passes : test operation ≡ true

pub any-on : (test : Operation → Bool) (name : List ℕ) (marks : Marks) (xs : List Operation) →
    list_any test (calls_from name marks xs) ≡ true → IsOn test name marks xs
any-on test name marks [] e = absurd (let bad : false ≡ true = e in cc)
any-on test name marks (x ∷ xs) e = split (is_marked marks (descriptor_of x.call))
    (λ t. split (test x)
    (λ y. record { k = 0; operation = x; is = refl; on = t; passes = y })
    (λ n. let rest : list_any test (calls_from name (marks_after name marks x) xs) ≡
    true = rw (t, n) at e in later (any-on test name (marks_after name marks x) xs rest)))
    (λ f. let rest : list_any test (calls_from name (marks_after name marks x) xs) ≡
    true = rw f at e in later (any-on test name (marks_after name marks x) xs rest))
  where
    later : IsOn test name (marks_after name marks x) xs → IsOn test name marks (x ∷ xs)
    later y = record {
      k = suc y.k;
      operation = y.operation;
      is = y.is;
      on = y.on;
      passes = y.passes;
    }

-- the marks of a process --------------------------------------------------------------------------

-- those after its first k operations
abbrev pub marks_at : List ℕ → Histories → ℕ → ℕ → Marks
marks_at name histories index k =
    unwrap_or (option_map (λ (v : Vec Operation Global). marks_of name no_marks (take k v.items))
    (slice_get histories index)) no_marks

pub marks_at-next : (name : List ℕ) (histories : Histories) (index k : ℕ) (o : Operation) →
    operation_at histories index k ≡ Some o →
    marks_at name histories index (k + 1) ≡ marks_after name (marks_at name histories index k) o
marks_at-next name histories index k o is = by (slice_get histories index) refl is
  where
    by : (v : Option (Vec Operation Global)) → slice_get histories index ≡ v →
        operation_at histories index k ≡ Some o → marks_at name histories index (k + 1) ≡
        marks_after name (marks_at name histories index k) o
    by None there e = absurd (let bad : None ≡ Some o = rw there at e in cc)
    by (Some v) there e = rw there (marks-next name v.items k o (rw there at e))

opened-length : (name given : List ℕ) (marks : Marks) (x : Outcome) →
    length (marks_opened name marks given x) ≡ length marks
opened-length name given marks x = grind (arith, length-set)

marks-length : (name : List ℕ) (marks : Marks) (xs : List Operation) →
    length (marks_of name marks xs) ≡ length marks
marks-length name marks [] = refl
marks-length name marks (x ∷ xs) = marks-length name (marks_after name marks x) xs ∙
    opened-length name x.given.items marks x.outcome

pub marks_at-length : (name : List ℕ) (histories : Histories) (index k : ℕ) →
    length (marks_at name histories index k) ≡ 16
marks_at-length name histories index k = by (slice_get histories index) refl
  where
    by : (v : Option (Vec Operation Global)) → slice_get histories index ≡ v →
        length (marks_at name histories index k) ≡ 16
    by None there = rw there refl
    by (Some v) there = rw there (marks-length name no_marks (take k v.items))

-- no operation passes a test that none passes
none-any : {A : Type 0} (test : A → Bool) (xs : List A) (k : ℕ) (x : A) → list_any test xs ≡ false →
    slice_get xs k ≡ Some x → test x ≡ false
none-any test [] k x none is = absurd (let bad : None ≡ Some x = is in cc)
none-any test (y ∷ ys) zero x none is =
    let both : Some y ≡ Some x = is in
    let same : y ≡ x = cc in
    split (test y)
    (λ t. let bad : true ≡ false = rw t at none in absurd (cc))
    (λ f. ap test (sym same) ∙ f)
none-any test (y ∷ ys) (suc k) x none is = split (test y)
    (λ t. let bad : true ≡ false = rw t at none in absurd (cc))
    (λ f. let rest : list_any test ys ≡ false = rw f at none in none-any test ys k x rest is)

pub none-has : (test : Operation → Bool) (histories : Histories) (index k : ℕ) (o : Operation) →
    has_any test histories ≡ false → operation_at histories index k ≡ Some o → test o ≡ false
none-has test histories index k o none is = by (slice_get histories index) refl is
  where
    by : (v : Option (Vec Operation Global)) → slice_get histories index ≡ v →
        option_and_then (λ (operations : Vec Operation Global). slice_get operations.items k) v ≡
        Some o → test o ≡ false
    by None there e = absurd (let bad : None ≡ Some o = e in cc)
    by (Some v) there e =
        let inner = none-any (λ (w : Vec Operation Global). list_any test w.items) histories
        index v none there in
        none-any test v.items k o inner e

pub none-has-on : (test : Operation → Bool) (name : List ℕ) (histories : Histories) (index k : ℕ)
    (o : Operation) → has_any_on name test histories ≡ false →
    operation_at histories index k ≡ Some o →
    is_marked (marks_at name histories index k) (descriptor_of o.call) ≡ true → test o ≡ false
none-has-on test name histories index k o none is on = by (slice_get histories index) refl is on
  where
    by : (v : Option (Vec Operation Global)) → slice_get histories index ≡ v →
        operation_at histories index k ≡ Some o →
        is_marked (marks_at name histories index k) (descriptor_of o.call) ≡ true → test o ≡ false
    by None there e marked = absurd (let bad : None ≡ Some o = rw there at e in cc)
    by (Some v) there e marked =
        let inner = none-any (λ (w : Vec Operation Global). list_any test (calls_on name w.items))
        histories index v none there in
        none-on test name no_marks v.items k o inner (rw there at e) (rw there at marked)

-- counts ------------------------------------------------------------------------------------------

-- how many of the first n operations are on the queue and pass a test
abbrev pub tally : (Operation → Bool) → List ℕ → List Operation → ℕ → ℕ
tally test name xs n = count_by test (calls_on name (take n xs))

count-cons : (test : Operation → Bool) (x : Operation) (xs : List Operation) →
    count_by test (x ∷ xs) ≡ one_if (test x) + count_by test xs
count-cons test x xs = sum_by-cons (λ (o : Operation). if test o then 1 else 0) x xs

pub one-most : (b : Bool) → one_if b ≤ 1
one-most b = grind arith

count-append : (test : Operation → Bool) (name : List ℕ) (marks : Marks) (xs : List Operation)
    (o : Operation) →
    count_by test (calls_from name marks (xs ++ o ∷ [])) ≡ count_by test (calls_from name marks xs)
    + one_if (is_marked (marks_of name marks xs) (descriptor_of o.call) && test o)
count-append test name marks [] o = split (is_marked marks (descriptor_of o.call))
    (λ t. let one = count-cons test o [] in rw t (omega (arith, one)))
    (λ f. rw f (omega arith))
count-append test name marks (x ∷ xs) o =
    let next : Marks = marks_after name marks x in
    grind (arith, nat_tests, count-cons, count-append test name next xs o)

pub tally-more : (test : Operation → Bool) (name : List ℕ) (xs : List Operation) (n : ℕ)
    (o : Operation) → slice_get xs n ≡ Some o →
    tally test name xs (n + 1) ≡ tally test name xs n + one_if
    (is_marked (marks_of name no_marks (take n xs)) (descriptor_of o.call) && test o)
tally-more test name xs n o is =
    ap (λ k. tally test name xs k) (add-one n) ∙ ap (λ ys. count_by test (calls_on name ys))
    (take-at xs n o is) ∙ count-append test name no_marks (take n xs) o

count-from : (test : Operation → Bool) (name : List ℕ) (marks : Marks) (xs : List Operation)
    (m n : ℕ) → m ≤ n → count_by test (calls_from name marks (take m xs)) ≤ count_by test
    (calls_from name marks (take n xs))
count-from test name marks xs zero n le = omega arith
count-from test name marks [] (suc m) n le = omega arith
count-from test name marks (x ∷ xs) (suc m) zero le = absurd (omega (arith, le))
count-from test name marks (x ∷ xs) (suc m) (suc n) le =
    let next : Marks = marks_after name marks x in
    grind (arith, nat_tests, count-cons, count-from test name next xs m n (omega (arith, le)))

pub tally-fewer : (test : Operation → Bool) (name : List ℕ) (xs : List Operation) (m n : ℕ) →
    m ≤ n → tally test name xs m ≤ tally test name xs n
tally-fewer test name xs m n le = count-from test name no_marks xs m n le

pub tally-le : (test : Operation → Bool) (name : List ℕ) (xs : List Operation) (n : ℕ) →
    tally test name xs n ≤ count_by test (calls_on name xs)
tally-le test name xs n = from no_marks xs n
  where
    from : (marks : Marks) (xs : List Operation) (n : ℕ) →
        count_by test (calls_from name marks (take n xs)) ≤ count_by test (calls_from name marks xs)
    from marks xs zero = omega arith
    from marks [] (suc n) = omega arith
    from marks (x ∷ xs) (suc n) =
        let next : Marks = marks_after name marks x in
        let rest = from next xs n in
        split (is_marked marks (descriptor_of x.call))
        (λ t.
        let few = count-cons test x (calls_from name next (take n xs)) in
        let all = count-cons test x (calls_from name next xs) in
        rw t (omega (arith, few, all, rest)))
        (λ f. rw f rest)

-- whether the current operation of a process is on the queue
abbrev pub is_op_marked : Marks → Option Operation → Bool
is_op_marked marks None = false
is_op_marked marks (Some o) = is_marked marks (descriptor_of o.call)

abbrev pub is_on_now : List ℕ → Histories → Past → ℕ → Bool
is_on_now name histories past i = is_op_marked (marks_at name histories i (completed past (i + 1)))
    (current_of histories past i)
