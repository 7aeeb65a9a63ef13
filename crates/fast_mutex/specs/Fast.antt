-- The rule of Lamport's lock, and what each access to its words tells the proof. The words are x, y
-- and the flags b[1] to b[n], and then the words s. Words and points form a world that satisfies
-- `Safe` of `lamport_core`. The state is in its slot if and only if no process is in its critical
-- section.
use Rattle.std.specs.Prelude.{◌≡◌, ◌≢◌, ◌==◌, ◌||◌, ◌⊎◌, ℕ, zero, suc, ◌+◌, ◌≤◌, Bool, true, false, cond, List, [], ◌∷◌, ◌++◌, length, slice_index, Option as Opt, Some, None, refl}
use Rattle.std.specs.List.{AllByRecursion as Each}
use Rattle.std.specs.Coded.{×_prop, le_prop, Coded-set, coded_ℕ}
use mathlib.Core.Option.{none, some}
use lib.ListN.{get_elem?}
use Rattle.atomic_table.specs.Table.{State, Me, Step}
use Rattle.atomic_table.specs.Seated.{TableId}
use Rattle.atomic_table.specs.declared.shared.Seat.{Seat}
use Rattle.lamport_core.specs.State.{after_TestY, after_AwaitY, after_Scan, after_SlowAwait}
use Rattle.lamport_core.specs.Safe.{Safe}
use Rattle.lamport_core.specs.Line.{IsCounted}
use Rattle.lamport_core.specs.declared.At.{At}
use Rattle.lamport_core.specs.declared.At.TheVariants.{Rest, Start, SetX, TestY, BackB, AwaitY, SetY, TestX, SlowB, Scan, SlowY, SlowAwait, Fast, Slow, Leaving}
use Rattle.fast_mutex.specs.Items.{Ticket, Grows, GrowsBy}
use Rattle.fast_mutex.specs.Seats.{Claim, Fixed, IsGood, Resting, lock_id, made_with, claims_after, last_left, sum_over, times}
use Rattle.fast_mutex.specs.Marks.{flag, mark_in, has, Course, Marked}
use Rattle.fast_mutex.specs.declared.seats.About.{About}
use Rattle.fast_mutex.specs.declared.fast.view.Plan.{Plan}
use Rattle.fast_mutex.specs.declared.fast.view.View.{View}

-- a process at this point is in its critical section
abbrev pub is_inside : At → Bool
is_inside Fast = true
is_inside Slow = true
is_inside _ = false

-- The flag of process k is up if its word is 1. Process 1 has the first of these words.
abbrev pub flag_in : List ℕ → ℕ → Bool
flag_in flags zero = false
flag_in flags (suc k) = slice_index flags k == 1

-- These words, the last of which are the words s, and n processes at these points form a world that
-- satisfies `Safe`.
pub record IsSafeWorld (n : ℕ) (words marks : List ℕ) (at : ℕ → At) : Type 0 where
  pub x : ℕ
  pub y : ℕ
  pub flags : List ℕ
  pub is : words ≡ x ∷ y ∷ flags ++ marks
  pub wide : length flags ≡ n
  pub safe : Safe n x y (flag_in flags) at

-- views
module _ {I : Type 0} where
  abbrev pub plan_of : List I → List ℕ → Bool → Plan I
  plan_of next stored told = record { next = next; stored = stored; told = told }

  -- of a seat outside the critical section, of whose process no poll was true
  abbrev pub no_plan : Plan I
  no_plan = plan_of [] [] false

  abbrev pub seat_view : At → List I → Fixed → List (Claim I) → Plan I → ℕ → View I
  seat_view at found fixed claims plan accesses = record {
    at = at;
    found = found;
    fixed = fixed;
    claims = claims;
    plan = plan;
    accesses = accesses;
  }

  -- One access takes the seat to a point.
  abbrev pub view_at : At → View I → View I
  view_at p v = seat_view p v.found v.fixed v.claims v.plan (v.accesses + 1)

  -- One access takes the seat into the critical section, with this list found.
  abbrev pub view_inside : At → List I → View I → View I
  view_inside p found v = seat_view p found v.fixed v.claims (plan_of found [] v.plan.told)
      (v.accesses + 1)

  -- One access, a poll, tells the seat what the word shows.
  abbrev pub view_told : Bool → View I → View I
  view_told shown v = seat_view v.at v.found v.fixed v.claims (plan_of v.plan.next v.plan.stored
      (v.plan.told || shown)) (v.accesses + 1)

  -- By one access the seat stored the word s of process p, from the list `given`.
  abbrev pub view_marked : ℕ → List I → View I → View I
  view_marked p given v = seat_view v.at v.found v.fixed v.claims
      (plan_of given (p ∷ v.plan.stored) v.plan.told) (v.accesses + 1)

  -- the seat with another plan and this number of accesses
  abbrev pub view_planned : Plan I → ℕ → View I → View I
  view_planned plan accesses v = seat_view v.at v.found v.fixed v.claims plan accesses

  -- how a view stands for seats at rest
  abbrev pub resting : Resting (View I) I
  resting = record {
    fixed = λ v. v.fixed;
    claims = λ v. v.claims;
    told = λ v. v.plan.told;
    rest = λ v fixed claims. seat_view Rest v.found fixed claims v.plan v.accesses;
    blank = seat_view Rest [] (0, []) [] no_plan 0;
    rest_fixed = λ v f cs. refl;
    rest_claims = λ v f cs. refl;
    rest_again = λ v f g cs ds. refl;
    fresh_told = λ f cs. refl;
  }

  -- the number of the seat
  abbrev pub number_in : List (Claim I) → ℕ
  number_in [] = 0
  number_in (c ∷ cs) = c.0

-- the rule
module _ {S I : Type 0} (shows : S → List I) (fixes : S → List ℕ) (author : I → ℕ) (answered : ℕ →
    List I → Bool) (about : About S) where
  -- The process of the seat is at its point, and the processes joined to it are at Rest.
  abbrev pub Stands : (ℕ → At) → At → List (Claim I) → Type 0
  Stands at p [] = p ≡ Rest
  Stands at p (c ∷ cs) = (at c.0 ≡ p) × Each (λ (d : Claim I). at d.0 ≡ Rest) cs

  -- In the critical section, the seat has found the current list, and its plan has the list to come
  -- and the processes whose words it stored. Outside, if a poll of the process was true, its word s
  -- is 1. The number of each claim is that of a process, and the current list extends the claim's
  -- list by items of other processes only.
  pub record Fits (at : ℕ → At) (course : Course I) (v : View I) : Type 0 where
    pub stands : Stands at v.at v.claims
    pub found : is_inside v.at ≡ true → v.found ≡ course.now
    pub planned : is_inside v.at ≡ true →
        (v.plan.next ≡ course.next) × (v.plan.stored ≡ course.done)
    pub told : is_inside v.at ≡ false → v.plan.told ≡ true →
        mark_in course.marks (number_in v.claims) ≡ 1
    pub good : Each (IsGood fixes author about v.fixed course.now) v.claims

  -- The list to come is the current one, or extends it by items of the process in its critical
  -- section.
  abbrev pub Comes : (ℕ → At) → Course I → Type 0
  Comes at c = (c.next ≡ c.now) ⊎ ((k : ℕ) × (is_inside (at k) ≡ true) ×
      GrowsBy author k c.now c.next)

  -- `at` has the points of the processes, and `course` the current list, the list to come and the
  -- words s.
  pub record KeepsRule (s : State (Opt S) (View I)) : Type 0 where
    pub at : ℕ → At
    pub course : Course I
    pub world : IsSafeWorld about.count s.words course.marks at
    pub home : ((i : ℕ) → is_inside (at i) ≡ false) → (st : S) × (s.homes ≡ some (Some st) ∷ []) ×
        (shows st ≡ course.now) × (fixes st ≡ fixes about.state.value)
    pub away : (i : ℕ) → is_inside (at i) ≡ true → (s.homes ≡ none ∷ []) × (id : ℕ) × (v : View I) ×
        (get_elem? s.views id ≡ some v) × (is_inside v.at ≡ true)
    pub comes : Comes at course
    pub idle : ((i : ℕ) → is_inside (at i) ≡ false) → course.done ≡ []
    pub marked : Marked answered about.count course
    pub seats : (id : ℕ) (v : View I) → get_elem? s.views id ≡ some v → Fits at course v
    pub once : (k : ℕ) → sum_over (λ (v : View I). times k v.claims) s.views ≤ 1
    pub total : sum_over (λ (v : View I). length v.claims) s.views ≡ about.count

-- The lines that store, except the store of 0 to y: their points, the word and the value that
-- process k stores, and the point after the line. The values at other points are never used.
abbrev pub stores_line : At → Bool
stores_line Rest = true
stores_line Start = true
stores_line SetX = true
stores_line BackB = true
stores_line SetY = true
stores_line SlowB = true
stores_line Leaving = true
stores_line p = false

abbrev pub word_stored : ℕ → At → ℕ
word_stored k SetX = 0
word_stored k SetY = 1
word_stored k p = k + 1

abbrev pub value_stored : ℕ → At → ℕ
value_stored k Rest = 1
value_stored k Start = 1
value_stored k SetX = k
value_stored k SetY = k
value_stored k p = 0

abbrev pub after_store : At → At
after_store Rest = SetX
after_store Start = SetX
after_store SetX = TestY
after_store BackB = AwaitY
after_store SetY = TestX
after_store SlowB = Scan 1
after_store Leaving = Rest
after_store p = p

-- The lines that load: the points of those that cannot acquire the lock, the points of those that
-- may, the word, and the point after a line that did not acquire it, by the value found.
abbrev pub loads_line : At → Bool
loads_line TestY = true
loads_line AwaitY = true
loads_line (Scan j) = true
loads_line SlowAwait = true
loads_line p = false

abbrev pub tests_line : At → Bool
tests_line TestX = true
tests_line SlowY = true
tests_line p = false

abbrev pub word_loaded : At → ℕ
word_loaded TestX = 0
word_loaded (Scan j) = j + 1
word_loaded p = 1

abbrev pub after_load : ℕ → At → ℕ → At
after_load n TestY found = after_TestY found
after_load n AwaitY found = after_AwaitY found
after_load n (Scan j) found = after_Scan n j (found == 1)
after_load n SlowAwait found = after_SlowAwait found
after_load n p found = p

-- The points after a line that may acquire the lock: if it found the process's own number, and if
-- it did not.
abbrev pub point_admitted : At → At
point_admitted TestX = Fast
point_admitted SlowY = Slow
point_admitted p = p

abbrev pub point_refused : At → At
point_refused TestX = SlowB
point_refused SlowY = SlowAwait
point_refused p = p

-- The access is to this word with this value, and compares with nothing. A load has 0 as its value.
module _ {S : Type 0} where
  abbrev pub IsOn : Step (Opt S) → ℕ → ℕ → Type 0
  IsOn t word value = (t.word ≡ word) × (t.first ≡ value) × (t.second ≡ 0)

module _ {S I : Type 0} where
  -- A line that stores, except the store of 0 to y. A store reports the value stored as the one
  -- found. No other kind of access does: it reports the word that it found, and no seat could show
  -- that this is the value.
  pub record IsStore (t : Step (Opt S)) (me : Me (Opt S) (View I)) (found : ℕ)
      (me' : Me (Opt S) (View I)) : Type 0 where
    pub line : stores_line me.0.at ≡ true
    pub on : IsOn t (word_stored (number_in me.0.claims) me.0.at)
        (value_stored (number_in me.0.claims) me.0.at)
    pub stores : found ≡ value_stored (number_in me.0.claims) me.0.at
    pub goes : me' ≡ (view_at (after_store me.0.at) me.0, me.1)

  -- a line that loads and cannot acquire the lock
  pub record IsLoad (t : Step (Opt S)) (me : Me (Opt S) (View I)) (found : ℕ)
      (me' : Me (Opt S) (View I)) : Type 0 where
    pub line : loads_line me.0.at ≡ true
    pub on : IsOn t (word_loaded me.0.at) 0
    pub goes : me' ≡ (view_at (after_load me.0.fixed.0 me.0.at found) me.0, me.1)

module _ {S I : Type 0} (answered : ℕ → List I → Bool) where
  -- The load of the process's own word s, outside the critical section. It tells the seat whether
  -- the word is 1. It finds 1 if an earlier poll did, or if the list that the process left answers
  -- its wait.
  pub record IsLook (t : Step (Opt S)) (me : Me (Opt S) (View I)) (found : ℕ)
      (me' : Me (Opt S) (View I)) : Type 0 where
    pub rests : me.0.at ≡ Rest
    pub on : IsOn t (me.0.fixed.0 + 1 + number_in me.0.claims) 0
    pub goes : me' ≡ (view_told (found == 1) me.0, me.1)
    pub again : me.0.plan.told ≡ true → found ≡ 1
    pub left : answered (number_in me.0.claims) (last_left me.0.claims) ≡ true → found ≡ 1

module _ {S I : Type 0} (shows : S → List I) (fixes : S → List ℕ) (author : I → ℕ) (answered : ℕ →
    List I → Bool) where
  -- A line that loads, and acquires the lock if and only if it finds the number of the process.
  -- Then the seat has the state, whose list extends the one that the process left by items of
  -- others. If a poll of the process was true, the list answers its wait.
  pub record IsTest (t : Step (Opt S)) (me : Me (Opt S) (View I)) (found : ℕ)
      (me' : Me (Opt S) (View I)) : Type 0 where
    pub line : tests_line me.0.at ≡ true
    pub on : IsOn t (word_loaded me.0.at) 0
    pub refused : found ≢ number_in me.0.claims → me' ≡ (view_at (point_refused me.0.at) me.0, me.1)
    pub admitted : found ≡ number_in me.0.claims →
        (st : S) × (me' ≡ (view_inside (point_admitted me.0.at) (shows st) me.0, (0, Some st) ∷ []))
        × (fixes st ≡ me.0.fixed.1)
        × Grows author (number_in me.0.claims) (last_left me.0.claims) (shows st) [] ×
        (me.0.plan.told ≡ true → answered (number_in me.0.claims) (shows st) ≡ true)

module _ {S I : Type 0} (shows : S → List I) where
  -- the list of the state that a seat has in its slot
  abbrev pub list_in : List (ℕ × Opt S) → List I
  list_in [] = []
  list_in ((i, None) ∷ slots) = []
  list_in ((i, Some st) ∷ slots) = shows st

  -- the store of a word s, in the critical section, with the state in the slot of the seat
  pub record IsMark (answered : ℕ → List I → Bool) (t : Step (Opt S)) (me : Me (Opt S) (View I))
      (found : ℕ) (me' : Me (Opt S) (View I)) : Type 0 where
    pub inside : is_inside me.0.at ≡ true
    pub process : ℕ
    pub on : IsOn t (me.0.fixed.0 + 1 + process) (flag (answered process (list_in me.1)))
    pub stores : found ≡ flag (answered process (list_in me.1))
    pub goes : me' ≡ (view_marked process (list_in me.1) me.0, me.1)

  -- By one access the seat has given back the state in its slot.
  abbrev pub view_left : Me (Opt S) (View I) → List (ℕ × Opt S) → View I
  view_left me [] = me.0
  view_left me ((i, None) ∷ slots) = me.0
  view_left me ((i, Some st) ∷ slots) = seat_view Leaving (shows st) me.0.fixed
      (claims_after (shows st) me.0.claims) no_plan (me.0.accesses + 1)

  -- the store of 0 to y
  pub record IsLeave (t : Step (Opt S)) (me : Me (Opt S) (View I)) (found : ℕ)
      (me' : Me (Opt S) (View I)) : Type 0 where
    pub inside : is_inside me.0.at ≡ true
    pub on : IsOn t 1 0
    pub stores : found ≡ 0
    pub goes : me' ≡ (view_left me me.1, [])

-- giving the state back
module _ {I : Type 0} (answered : ℕ → List I → Bool) where
  -- A list may be the one to come: the first store of a word s in a critical section fixes it.
  abbrev pub MayCome : Plan I → List I → Type 0
  MayCome plan given = (given ≡ plan.next) ⊎ (plan.stored ≡ [])

  -- The words s of n processes match the list that is given back, those that this process did not
  -- store too.
  abbrev pub Shows : ℕ → List I → Plan I → List I → Type 0
  Shows n found plan given = MayCome plan given × ((q : ℕ) → 1 ≤ q → q ≤ n → has q plan.stored ≡
      false → answered q found ≡ answered q given)

module _ {S I : Type 0} (shows : S → List I) (fixes : S → List ℕ) (author : I → ℕ) (answered : ℕ →
    List I → Bool) where
  -- The seat of one process is in its critical section. Its slot has the state to give back, whose
  -- list has grown only by items of the process.
  pub record IsReady (me : Me (Opt S) (View I)) : Type 0 where
    pub inside : is_inside me.0.at ≡ true
    pub alone : me.0.claims ≡ (number_in me.0.claims, last_left me.0.claims) ∷ []
    pub full : (st : S) × (me.1 ≡ (0, Some st) ∷ []) × (fixes st ≡ me.0.fixed.1)
    pub adds : GrowsBy author (number_in me.0.claims) me.0.found (list_in shows me.1)
    pub may : MayCome answered me.0.plan (list_in shows me.1)

module _ {S I : Type 0} where
  -- what the seat of process k knows, outside and inside its critical section
  abbrev pub ticket_of : ℕ → Seat (Opt S) (View I) → Ticket I
  ticket_of k s = record {
    lock = lock_id s.table_id s.me.0.fixed;
    number = k;
    left = last_left s.me.0.claims;
    told = s.me.0.plan.told;
  }

  abbrev pub stay_of : ℕ → Seat (Opt S) (View I) → Ticket I
  stay_of k s = record {
    lock = lock_id s.table_id s.me.0.fixed;
    number = k;
    left = s.me.0.found;
    told = s.me.0.plan.told;
  }

  -- The number of accesses that the seat has made to words of the lock. Each load and each store
  -- counts as one.
  abbrev pub accesses_of : Seat (Opt S) (View I) → ℕ
  accesses_of s = s.me.0.accesses

-- the seat is one of the lock that has this table
module _ {S I : Type 0} (fixes : S → List ℕ) where
  abbrev pub IsSeatOf : TableId → About S → Seat (Opt S) (View I) → Type 0
  IsSeatOf table about s = lock_id s.table_id s.me.0.fixed ≡ lock_id table (made_with fixes about)

-- what an acquisition holds: at a point inside the critical section the slot, empty, since the
-- acquisition itself has the state
module _ {S : Type 0} where
  abbrev pub slots_at : At → List (ℕ × Opt S)
  slots_at p = cond (is_inside p) ((0, None) ∷ []) []

module _ {S I : Type 0} (shows : S → List I) (fixes : S → List ℕ) where
  abbrev pub state_shown : Opt S → Opt (List I × List ℕ)
  state_shown None = None
  state_shown (Some st) = Some (shows st, fixes st)

module _ {I : Type 0} where
  abbrev pub state_at : At → List I → Fixed → Opt (List I × List ℕ)
  state_at p found fixed = cond (is_inside p) (Some (found, fixed.1)) None

-- The count of the steps at each point is a fact with one proof, as a ghost field requires.
pub counted_prop : (n : ℕ) (p : At) (k : ℕ) → IsProp (IsCounted n p k)
counted_prop n Rest k = Coded-set coded_ℕ k 0
counted_prop n Start k = le_prop
counted_prop n SetX k = Coded-set coded_ℕ k 1
counted_prop n TestY k = Coded-set coded_ℕ k 2
counted_prop n BackB k = Coded-set coded_ℕ k 3
counted_prop n AwaitY k = le_prop
counted_prop n SetY k = Coded-set coded_ℕ k 3
counted_prop n TestX k = Coded-set coded_ℕ k 4
counted_prop n SlowB k = Coded-set coded_ℕ k 5
counted_prop n (Scan j) k = ×_prop (×_prop le_prop le_prop) le_prop
counted_prop n SlowY k = le_prop
counted_prop n SlowAwait k = le_prop
counted_prop n Fast k = Coded-set coded_ℕ k 5
counted_prop n Slow k = le_prop
counted_prop n Leaving k = le_prop
