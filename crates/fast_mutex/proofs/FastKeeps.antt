-- Each step of Lamport's lock keeps its rule.
use Rattle.std.proofs.Common.{◌≡◌, ℕ, zero, suc, ◌+◌, ◌≤◌, ◌<◌, ◌≢◌, ◌⊎◌, ◌-◌, ◌||◌, ◌==◌, inl, inr, eqb, cond, Bool, true, false, List, [], ◌∷◌, ◌++◌, set, get_or, length, length-append, drop, sym, refl, ap, ◌∙◌, subst, ⊎_elim, arith, Option as Opt, Some}
use Rattle.std.specs.List.{All, AllByRecursion as Each}
use mathlib.Core.Logic.{dite}
use mathlib.Core.Option.{none, some, some-injective, some-ne-none}
use native.Mathlib.Decide.{ℕ_discrete}
use lib.ListN.{get_elem?}
use Rattle.std.proofs.lemmas.Bool.{eqb-true, false_from_ne_true}
use Rattle.atomic_table.specs.Table.{State, Me, step, keeps, takes, gives, opening, Allows, Splits, Joins, Final, Seen}
use Rattle.atomic_table.proofs.Lists.{set_here, set_else, at_longer, at_snoc}
use Rattle.lamport_core.specs.State.{IsProcess}
use Rattle.lamport_core.specs.Safe.{moved_to}
use Rattle.lamport_core.specs.Line.{IsCounted}
use Rattle.lamport_core.specs.declared.At.{At}
use Rattle.lamport_core.specs.declared.At.TheVariants.{Rest, Start, SetX, TestY, BackB, AwaitY, SetY, TestX, SlowB, Scan, SlowY, SlowAwait, Leaving}
use Rattle.fast_mutex.specs.Items.{Grows, GrowsBy}
use Rattle.fast_mutex.specs.Seats.{Claim, Fixed, IsGood, Deals, new_claims, last_left, sum_over, times, first_view, view_of_others, view_of_first, joint_view}
use Rattle.fast_mutex.specs.Marks.{flag, mark_in, has, answer_bits, Course, Marked, ShowAnswers}
use Rattle.fast_mutex.specs.declared.seats.About.{About}
use Rattle.fast_mutex.specs.declared.fast.view.Plan.{Plan}
use Rattle.fast_mutex.specs.declared.fast.view.View.{View}
use Rattle.fast_mutex.specs.Fast.{is_inside, IsSafeWorld, seat_view, plan_of, no_plan, number_in, view_told, view_planned, view_marked, list_in, Comes, MayCome, Shows, IsReady, IsLook, IsMark, resting, Stands, Fits, KeepsRule, stores_line, loads_line, tests_line, after_store, after_load, point_admitted, point_refused, word_stored, value_stored, word_loaded, IsStore, IsLoad, IsTest, view_left, IsLeave, slots_at}
use Rattle.fast_mutex.proofs.Sums.{views_stay, in_length, once_same, total_same, sum_over-set, one_in_sum, two_in_sum, times_here, times_other, sum_over-append, times-append, each-append, new_claims_once, length-new_claims, grows_none}
use Rattle.fast_mutex.proofs.WordKeeps.{good_new_claims, good_more, good_grows}
use Rattle.fast_mutex.proofs.FastWorld.{moved_here, moved_else, inside_point, raises_rest, raises_start, lowers_back, lowers_slow, lowers_leaving, sets_x, sets_y, leaves_world, loads_test_y, loads_await_y, loads_slow_await, loads_flag, admits_fast, refuses_fast, admits_slow, refuses_slow, others_outside, found_nobody, starting_world, sets_mark, mark_loaded}
use Rattle.fast_mutex.proofs.MarksKeep.{course_marked, course_left, marks_stored, marks_left, marks_new, shown_now, shown_left, shown_on, Done, done_none, done_same, done_stored, done_all}

module _ {S I : Type 0} (shows : S → List I) (fixes : S → List ℕ) (author : I → ℕ) (answered : ℕ →
    List I → Bool) (about : About S) where
  abbrev St : Type 0
  St = State (Opt S) (View I)

  abbrev Rule : St → Type 0
  Rule = KeepsRule shows fixes author answered about

  abbrev Fit : (ℕ → At) → Course I → View I → Type 0
  Fit = Fits shows fixes author answered about

  abbrev On : (ℕ → At) → At → List (Claim I) → Type 0
  On = Stands shows fixes author answered about

  abbrev Good : Fixed → List I → Claim I → Type 0
  Good = IsGood fixes author about

  abbrev pub Stays : Type 0
  Stays = (p : ℕ) (more before : List I) → All (λ x. author x ≢ p) more → answered p before ≡ true →
      answered p (more ++ before) ≡ true

  abbrev claimed : ℕ → View I → ℕ
  claimed k v = times k v.claims

  abbrev many : View I → ℕ
  many v = length v.claims

  -- the view of seat k, with those joined to it, at a point
  abbrev seat : At → ℕ → List I → Fixed → List I → List (Claim I) → Plan I → ℕ → View I
  seat p k found fixed left more plan n = seat_view p found fixed ((k, left) ∷ more) plan n

  -- the points of the processes of other claims do not change
  rests_else : (at : ℕ → At) (k : ℕ) (p : At) (cs : List (Claim I)) → times k cs ≡ 0 →
      Each (λ (c : Claim I). at c.0 ≡ Rest) cs →
      Each (λ (c : Claim I). moved_to at k p c.0 ≡ Rest) cs
  rests_else at k p [] z h = tt
  rests_else at k p (c ∷ cs) z h = dite (ℕ_discrete c.0 k)
      (λ e. let t = times_here c.0 c.1 cs in let P : ℕ → Type 0 = λ i. times i (c ∷ cs) ≡ 0 in
      let u = subst P (sym e) z in absurd (omega arith))
      (λ ne. let t = times_other k c.0 c.1 cs ne in (
        moved_else at k c.0 p ne ∙ h.0,
        rests_else at k p cs (omega arith) h.1,
      ))

  stands_else : (at : ℕ → At) (k : ℕ) (p q : At) (cs : List (Claim I)) → times k cs ≡ 0 →
      On at q cs → On (moved_to at k p) q cs
  stands_else at k p q [] z h = h
  stands_else at k p q (c ∷ cs) z h = dite (ℕ_discrete c.0 k)
      (λ e. let t = times_here c.0 c.1 cs in let P : ℕ → Type 0 = λ i. times i (c ∷ cs) ≡ 0 in
      let u = subst P (sym e) z in absurd (omega arith))
      (λ ne. let t = times_other k c.0 c.1 cs ne in (
        moved_else at k c.0 p ne ∙ h.0,
        rests_else at k p cs (omega arith) h.1,
      ))

  -- the number k is claimed by the seat id alone
  others_lack : (s : St) (r : Rule s) (id k : ℕ) (v : View I) (l : List I) (more : List (Claim I)) →
      get_elem? s.views id ≡ some v → v.claims ≡ (k, l) ∷ more
      → (times k more ≡ 0) × ((j : ℕ) (d : View I) → j ≢ id → get_elem? s.views j ≡ some d →
      times k d.claims ≡ 0)
  others_lack s r id k v l more at e =
      let t : times k v.claims ≡ 1 + times k more = ap (times k) e ∙ times_here k l more in
      let o : sum_over (claimed k) s.views ≤ 1 = r.once k in
      let one : times k v.claims ≤ sum_over (claimed k) s.views =
      one_in_sum (claimed k) s.views id v at in (
        omega arith,
        λ j d ne g. let two : times k v.claims + times k d.claims ≤ sum_over (claimed k)
            s.views = two_in_sum (claimed k) s.views id j v d (λ q. ne (sym q)) at g in omega arith,
      )

  number_good : (k : ℕ) (fixed : Fixed) (now left : List I) → Good fixed now (k, left) →
      IsProcess about.count k
  number_good k fixed now left g = (omega (arith, g.1), g.2)

  -- if no process is in its critical section, no view is
  nobody_stands : (at : ℕ → At) → ((i : ℕ) → is_inside (at i) ≡ false) →
      (p : At) (cs : List (Claim I)) → On at p cs → is_inside p ≡ false
  nobody_stands at none_in p [] on = ap is_inside on
  nobody_stands at none_in p (c ∷ cs) on = ap is_inside (sym on.0) ∙ none_in c.0

  -- a process in its critical section stays there while another process takes a step
  comes_on : (at : ℕ → At) (k : ℕ) (p : At) (c : Course I) → is_inside (at k) ≡ false →
      Comes shows fixes author answered about at c →
      Comes shows fixes author answered about (moved_to at k p) c
  comes_on at k p c out h = ⊎_elim (λ e. inl e) (λ t. let ne : t.0 ≢ k = (λ e. let q : true ≡
      false = sym t.1 ∙ ap (λ z. is_inside (at z)) e ∙ out in absurd (cc)) in
      inr (t.0, ap is_inside (moved_else at k t.0 p ne) ∙ t.1, t.2)) h

  -- if no process is in its critical section, the list to come is the current one
  comes_now : (at : ℕ → At) (c : Course I) → ((i : ℕ) → is_inside (at i) ≡ false) →
      Comes shows fixes author answered about at c → c.next ≡ c.now
  comes_now at c none_in h = ⊎_elim (λ e. e) (λ t. let q : true ≡ false = sym t.1 ∙ none_in t.0 in
      absurd (cc)) h

  -- a step of seat k that neither enters nor leaves
  quiet : (s : St) (r : Rule s) (id k : ℕ) (old p : At) (found : List I) (fixed : Fixed)
      (l : List I) (more : List (Claim I)) (plan : Plan I) (n : ℕ) →
      get_elem? s.views id ≡ some (seat old k found fixed l more plan n)
      → is_inside old ≡ false → is_inside p ≡ false → (words : List ℕ) →
      IsSafeWorld about.count words r.course.marks (moved_to r.at k p)
      → Rule record {
        words = words;
        homes = s.homes;
        views = set s.views id (seat p k found fixed l more plan (n + 1));
      }
  quiet s r id k old p found fixed l more plan n at out out' words world =
      let v : View I = seat old k found fixed l more plan n in
      let w : View I = seat p k found fixed l more plan (n + 1) in
      let mine : Fit r.at r.course v = r.seats id v at in
      let lack = others_lack s r id k v l more at refl in
      let back : ((i : ℕ) → is_inside (moved_to r.at k p i) ≡ false) → (i : ℕ) →
      is_inside (r.at i) ≡ false =
      λ none_in i. dite (ℕ_discrete i k) (λ e. ap (λ z. is_inside (r.at z)) e ∙
      ap is_inside mine.stands.0 ∙ out) (λ ne. ap is_inside (sym (moved_else r.at k i p ne)) ∙
      none_in i) in record {
        at = moved_to r.at k p;
        course = r.course;
        world = world;
        home = λ none_in. r.home (back none_in);
        away = λ i is. let ne : i ≢ k = (λ e. let a : moved_to r.at k p i ≡
            p = ap (moved_to r.at k p) e ∙ moved_here r.at k p in let q : is_inside p ≡ true =
            ap is_inside (sym a) ∙ is in cc) in
            let a = r.away i (ap is_inside (sym (moved_else r.at k i p ne)) ∙ is) in (
              a.0,
              a.1,
              a.2,
              set_else s.views id a.1 w (λ e. let P : ℕ → Type 0 = λ z. get_elem? s.views z ≡
                  some a.2 in let same : a.2 ≡ v = some-injective a.2 v (sym (subst P e a.3) ∙
                  at) in
                  let q : is_inside old ≡ true = ap (λ (z : View I). is_inside z.at) (sym same) ∙
                  a.4 in cc) ∙ a.3,
              a.4,
            );
        comes = comes_on r.at k p r.course (ap is_inside mine.stands.0 ∙ out) r.comes;
        idle = λ none_in. r.idle (back none_in);
        marked = r.marked;
        seats = views_stay (Fit (moved_to r.at k p) r.course) s.views id w
            record {
              stands = (moved_here r.at k p, rests_else r.at k p more lack.0 mine.stands.1);
              found = λ e. absurd (cc);
              planned = λ e. absurd (cc);
              told = λ _ t. mine.told out t;
              good = mine.good;
            }
            (λ j d ne g. let f = r.seats j d g in
            record {
              stands = stands_else r.at k p d.at d.claims (lack.1 j d ne g) f.stands;
              found = f.found;
              planned = f.planned;
              told = f.told;
              good = f.good;
            });
        once = λ j. once_same (claimed j) s.views id v w at refl (r.once j);
        total = total_same many s.views id v w at refl about.count r.total;
      }

  -- a step that admits seat k
  enters : (s : St) (r : Rule s) (id k : ℕ) (old p : At) (found : List I) (fixed : Fixed)
      (l : List I) (more : List (Claim I)) (plan : Plan I) (n : ℕ) →
      get_elem? s.views id ≡ some (seat old k found fixed l more plan n)
      → is_inside p ≡ true → ((i : ℕ) → is_inside (r.at i) ≡ false) → (st : S) →
      s.homes ≡ some (Some st) ∷ [] → shows st ≡ r.course.now → (words : List ℕ) →
      IsSafeWorld about.count words r.course.marks (moved_to r.at k p)
      → Rule record {
        words = words;
        homes = set s.homes 0 none;
        views = set s.views id (seat p k (shows st) fixed l more (plan_of (shows st) [] plan.told)
            (n + 1));
      }
  enters s r id k old p found fixed l more plan n at is nobody st homes shown words world =
      let v : View I = seat old k found fixed l more plan n in
      let w : View I = seat p k (shows st) fixed l more (plan_of (shows st) [] plan.told) (n + 1) in
      let mine : Fit r.at r.course v = r.seats id v at in
      let same : r.course.next ≡ r.course.now = comes_now r.at r.course nobody r.comes in
      let lack = others_lack s r id k v l more at refl in record {
        at = moved_to r.at k p;
        course = r.course;
        world = world;
        home = λ none_in. absurd (let q : is_inside p ≡ false = ap is_inside
            (sym (moved_here r.at k p)) ∙ none_in k in cc);
        away = λ i _. (
          ap (λ h. set h 0 none) homes,
          id,
          w,
          set_here s.views id w
              (in_length s.views id v at),
          is,
        );
        comes = inl same;
        idle = λ none_in. absurd (let q : is_inside p ≡ false = ap is_inside
            (sym (moved_here r.at k p)) ∙ none_in k in cc);
        marked = r.marked;
        seats = views_stay (Fit (moved_to r.at k p) r.course) s.views id w
            record {
              stands = (moved_here r.at k p, rests_else r.at k p more lack.0 mine.stands.1);
              found = λ _. shown;
              planned = λ _. (shown ∙ sym same, sym (r.idle nobody));
              told = λ e. absurd (let q : true ≡ false = sym is ∙ e in cc);
              good = mine.good;
            }
            (λ j d ne g. let f = r.seats j d g in
            record {
              stands = stands_else r.at k p d.at d.claims (lack.1 j d ne g) f.stands;
              found = f.found;
              planned = f.planned;
              told = f.told;
              good = f.good;
            });
        once = λ j. once_same (claimed j) s.views id v w at refl (r.once j);
        total = total_same many s.views id v w at refl about.count r.total;
      }

  -- a line that stores, and neither enters nor leaves
  stores : (slots id k word v : ℕ) (old : At) (found : List I) (fixed : Fixed) (l : List I)
      (more : List (Claim I)) (plan : Plan I) (n : ℕ) → stores_line old ≡ true →
      word ≡ word_stored k old → v ≡ value_stored k old → is_inside old ≡ false →
      is_inside (after_store old) ≡ false
      → ((words marks : List ℕ) (at : ℕ → At) → IsSafeWorld about.count words marks at → at k ≡
      old → IsProcess about.count k →
      IsSafeWorld about.count (set words word v) marks (moved_to at k (after_store old)))
      → Allows Rule slots id (seat old k found fixed l more plan n, []) word (λ _. v)
      (λ _. IsStore (step slots word v 0 none) (seat old k found fixed l more plan n, []) v)
  stores slots id k word v old found fixed l more plan n is_line on_word with_value out out' line s
      r len at small =
      let mine : Fit r.at r.course (seat old k found fixed l more plan n) = r.seats id _ at in
      let world = line s.words r.course.marks r.at r.world mine.stands.0
      (number_good k fixed r.course.now l mine.good.0) in (
        seat (after_store old) k found fixed l more plan (n + 1),
        keeps,
        tt,
        quiet s r id k old
            (after_store old) found fixed l more plan n at out out' (set s.words word v) world,
        record {
          line = is_line;
          on = (on_word, with_value, refl);
          stores = with_value;
          goes = refl;
        },
      )

  set_back : (ws : List ℕ) (i : ℕ) → set ws i (get_or ws i 0) ≡ ws
  set_back [] i = refl
  set_back (w ∷ ws) zero = refl
  set_back (w ∷ ws) (suc i) = λ j. w ∷ set_back ws i j

  -- a line that loads, and takes no process into its critical section
  loads : (slots id k word : ℕ) (old : At) (found : List I) (fixed : Fixed) (l : List I)
      (more : List (Claim I)) (plan : Plan I) (n : ℕ) → loads_line old ≡ true →
      word ≡ word_loaded old → is_inside old ≡ false →
      ((v : ℕ) → is_inside (after_load fixed.0 old v) ≡ false)
      → ((words marks : List ℕ) (at : ℕ → At) → IsSafeWorld about.count words marks at → at k ≡
      old → IsSafeWorld about.count words marks
      (moved_to at k (after_load about.count old (get_or words word 0))))
      → Allows Rule slots id (seat old k found fixed l more plan n, []) word (λ n. n)
      (IsLoad (step slots word 0 0 none) (seat old k found fixed l more plan n, []))
  loads slots id k word old found fixed l more plan n is_line on_word out out' line s r len at small =
      let mine : Fit r.at r.course (seat old k found fixed l more plan n) = r.seats id _ at in
      let v : ℕ = get_or s.words word 0 in
      let count : fixed.0 ≡ about.count = ap (λ z. z.0) mine.good.0.0 in
      let P : ℕ → Type 0 = λ n. IsSafeWorld about.count s.words r.course.marks
      (moved_to r.at k (after_load n old v)) in
      let world = subst P (sym count) (line s.words r.course.marks r.at r.world mine.stands.0) in
      let next = quiet s r id k old (after_load fixed.0 old v) found fixed l more plan n at out
      (out' v) s.words world in (
        seat (after_load fixed.0 old v) k found fixed l more plan (n + 1),
        keeps,
        tt,
        subst (λ ws. Rule record {
          words = ws;
          homes = s.homes;
          views = set s.views id (seat (after_load fixed.0 old v) k found fixed l more plan
              (n + 1));
        }) (sym (set_back s.words word)) next,
        record {
          line = is_line;
          on = (on_word, refl, refl);
          goes = refl;
        },
      )

  -- a line that loads, and admits a seat that finds its number
  tests : (slots id k word : ℕ) (old : At) (found : List I) (fixed : Fixed) (l : List I)
      (plan : Plan I) (n : ℕ) → tests_line old ≡ true → word ≡ word_loaded old →
      is_inside old ≡ false → is_inside (point_admitted old) ≡ true →
      is_inside (point_refused old) ≡ false
      → ((words marks : List ℕ) (at : ℕ → At) → IsSafeWorld about.count words marks at →
      get_or words word 0 ≡ k → at k ≡ old →
      IsSafeWorld about.count words marks (moved_to at k (point_admitted old)))
      → ((words marks : List ℕ) (at : ℕ → At) → IsSafeWorld about.count words marks at →
      get_or words word 0 ≢ k → at k ≡ old →
      IsSafeWorld about.count words marks (moved_to at k (point_refused old)))
      → Allows Rule slots id (seat old k found fixed l [] plan n, []) word (λ n. n)
      (IsTest shows fixes author answered (step slots word 0 0 none)
      (seat old k found fixed l [] plan n, []))
  tests slots id k word old found fixed l plan n is_line on_word out is out' hit miss s
      r len at small =
      let mine : Fit r.at r.course (seat old k found fixed l [] plan n) = r.seats id _ at in
      let v : ℕ = get_or s.words word 0 in
      let back : s.words ≡ set s.words word v = sym (set_back s.words word) in
      dite (ℕ_discrete v k)
      (λ e. let world = hit s.words r.course.marks r.at r.world e mine.stands.0 in
      let nobody : (i : ℕ) →
      is_inside (r.at i) ≡ false = found_nobody about.count s.words r.course.marks r.at k old
      (point_admitted old) world mine.stands.0 out is in
      let home = r.home nobody in
      let st : S = home.0 in
      let number = number_good k fixed r.course.now l mine.good.0 in (
        seat (point_admitted old) k (shows st) fixed l [] (plan_of (shows st) [] plan.told) (n + 1),
        takes 0 (Some st),
        ap (λ h. get_elem? h 0) home.1,
        subst (λ ws. Rule record {
          words = ws;
          homes = set s.homes 0 none;
          views = set s.views id (seat (point_admitted old) k (shows st) fixed l []
              (plan_of (shows st) [] plan.told) (n + 1));
        }) back
            (enters s r id k old (point_admitted old) found fixed l [] plan n at is nobody st home.1
            home.2 s.words world),
        record {
          line = is_line;
          on = (on_word, refl, refl);
          refused = λ ne. absurd (ne e);
          admitted = λ _. (
            st,
            refl,
            home.3 ∙ sym (ap (λ z. z.1) mine.good.0.0),
            (let G : List I → Type 0 = λ z. Grows author k l z [] in
                subst G (sym home.2) mine.good.0.3),
            λ t. ap (answered k) home.2 ∙ shown_now answered about.count r.course r.marked
                (r.idle nobody) k number.0 number.1 (mine.told out t),
          );
        },
      ))
      (λ ne. let world = miss s.words r.course.marks r.at r.world ne mine.stands.0 in (
        seat (point_refused old) k found fixed l [] plan (n + 1),
        keeps,
        tt,
        subst (λ ws. Rule record {
          words = ws;
          homes = s.homes;
          views = set s.views id (seat (point_refused old) k found fixed l [] plan (n + 1));
        })
            back (quiet s r id k old (point_refused old) found fixed l [] plan n at out
            out' s.words world),
        record {
          line = is_line;
          on = (on_word, refl, refl);
          refused = λ _. refl;
          admitted = λ e. absurd (ne e);
        },
      ))

  -- while k is in its critical section, no other seat is
  not_inside : (words marks : List ℕ) (at : ℕ → At) → IsSafeWorld about.count words marks at →
      (k : ℕ) → is_inside (at k) ≡ true → (p : At) (cs : List (Claim I)) → times k cs ≡ 0 →
      On at p cs → is_inside p ≡ false
  not_inside words marks at h k is p [] z on = ap is_inside on
  not_inside words marks at h k is p (c ∷ cs) z on = dite (ℕ_discrete c.0 k)
      (λ e. let t = times_here c.0 c.1 cs in let P : ℕ → Type 0 = λ i. times i (c ∷ cs) ≡ 0 in
      let u = subst P (sym e) z in absurd (omega arith))
      (λ ne. ap is_inside (sym on.0) ∙ others_outside about.count words marks at h k is c.0 ne)

  left_home : (s : St) (r : Rule s) (id k : ℕ) (p : At) (found : List I) (fixed : Fixed)
      (l : List I) (more : List (Claim I)) (plan : Plan I) (n : ℕ) (st : S) → is_inside p ≡ true →
      GrowsBy author k found (shows st) → fixes st ≡ fixed.1
      → Shows answered fixed.0 found plan (shows st) →
      get_elem? s.views id ≡ some (seat p k found fixed l more plan n)
      → Rule record {
        words = set s.words 1 0;
        homes = set s.homes 0 (some (Some st));
        views = set s.views id (seat Leaving k (shows st) fixed (shows st) more no_plan (n + 1));
      }
  left_home s r id k p found fixed l more plan n st is adds same shown at =
      let v : View I = seat p k found fixed l more plan n in
      let w : View I = seat Leaving k (shows st) fixed (shows st) more no_plan (n + 1) in
      let mine : Fit r.at r.course v = r.seats id v at in
      let mine_in : is_inside (r.at k) ≡ true = ap is_inside mine.stands.0 ∙ is in
      let lack = others_lack s r id k v l more at refl in
      let P : List I → Type 0 = λ l. GrowsBy author k l (shows st) in
      let adds' : GrowsBy author k r.course.now (shows st) = subst P (mine.found is) adds in
      let count : fixed.0 ≡ about.count = ap (λ z. z.0) mine.good.0.0 in
      let declared = mine.planned is in
      let came : (shows st ≡ r.course.next) ⊎ (r.course.done ≡ []) =
      ⊎_elim (λ e. inl (e ∙ declared.0)) (λ e. inr (sym declared.1 ∙ e)) shown.0 in
      let unstored : (q : ℕ) → 1 ≤ q → q ≤ about.count → has q r.course.done ≡ false →
      answered q r.course.now ≡ answered q (shows st) =
      λ q low high no. ap (answered q) (sym (mine.found is)) ∙ shown.1 q low (omega arith)
      (ap (has q) declared.1 ∙ no) in
      let empty : (i : ℕ) → is_inside (moved_to r.at k Leaving i) ≡ false =
      λ i. dite (ℕ_discrete i k) (λ e. ap (λ z. is_inside (moved_to r.at k Leaving z)) e ∙
      ap is_inside (moved_here r.at k Leaving))
      (λ ne. ap is_inside (moved_else r.at k i Leaving ne) ∙ others_outside about.count s.words
      r.course.marks r.at r.world k mine_in i ne) in
      record {
        at = moved_to r.at k Leaving;
        course = course_left answered about.count (shows st) r.course;
        world = leaves_world about.count s.words r.course.marks r.at r.world k
            (inside_point (r.at k) mine_in);
        home = λ _. (
          st,
          ap (λ hs. set hs 0 (some (Some st))) (r.away k mine_in).0,
          refl,
          same ∙
              ap (λ z. z.1) mine.good.0.0,
        );
        away = λ i q. absurd (let e : is_inside (moved_to r.at k Leaving i) ≡ false = empty i in
            let z : true ≡ false = sym q ∙ e in cc);
        comes = inl refl;
        idle = λ _. refl;
        marked = marks_left answered about.count r.course (shows st) r.marked came unstored;
        seats = views_stay (Fit (moved_to r.at k Leaving) (course_left answered about.count
            (shows st) r.course)) s.views id w
            record {
              stands = (
                moved_here r.at k Leaving,
                rests_else r.at k Leaving more
                    lack.0 mine.stands.1,
              );
              found = λ _. refl;
              planned = λ e. absurd (cc);
              told = λ _ t. absurd (cc);
              good = (
                (mine.good.0.0, mine.good.0.1, mine.good.0.2, grows_none author k (shows st)),
                good_more shows fixes author about k fixed r.course.now (shows st) adds' more
                    lack.0 mine.good.1,
              );
            }
            (λ j d ne g. let f = r.seats j d g in let z = lack.1 j d ne g in
            let outside : is_inside d.at ≡ false = not_inside s.words r.course.marks r.at r.world k
            mine_in d.at d.claims z f.stands in record {
              stands = stands_else r.at k Leaving d.at d.claims z f.stands;
              found = λ q. absurd (let z : true ≡ false = sym q ∙ outside in cc);
              planned = λ q. absurd (let z : true ≡ false = sym q ∙ outside in cc);
              told = f.told;
              good = good_more shows fixes author about k d.fixed r.course.now (shows st) adds'
                  d.claims z f.good;
            });
        once = λ j. once_same (claimed j) s.views id v w at refl (r.once j);
        total = total_same many s.views id v w at refl about.count r.total;
      }

  -- the store of 0 to y
  leaves : (slots id k : ℕ) (p : At) (found : List I) (fixed : Fixed) (l : List I)
      (more : List (Claim I)) (plan : Plan I) (n : ℕ) (st : S) → is_inside p ≡ true →
      GrowsBy author k found (shows st) → fixes st ≡ fixed.1 →
      Shows answered fixed.0 found plan (shows st)
      → Allows Rule slots id (seat p k found fixed l more plan n, (0, Some st) ∷ []) 1 (λ _. 0)
      (λ _. IsLeave shows (step slots 1 0 0 none) (
        seat p k found fixed l more plan n,
        (0, Some st) ∷ [],
      ) 0)
  leaves slots id k p found fixed l more plan n st is adds same shown s r len at small = (
    seat Leaving k (shows st) fixed (shows st) more no_plan (n + 1),
    gives,
    tt,
    left_home s r id k p found fixed l more plan n st is adds same shown at,
    record {
      inside = is;
      on = (refl, refl, refl);
      stores = refl;
      goes = refl;
    },
  )

  -- the one seat of a new table
  only_first : (id : ℕ) (v : View I) →
      get_elem? (first_view (resting {I = I}) shows fixes about ∷ []) id ≡ some v →
      v ≡ first_view resting shows fixes about
  only_first zero v e = sym (some-injective _ _ e)
  only_first (suc id) v e = absurd (some-ne-none v (sym e))

  total_new : sum_over many (first_view (resting {I = I}) shows fixes about ∷ []) ≡ about.count
  total_new = let h = length-new_claims (shows about.state.value) 1 about.count in omega arith

  new_claims_rest : (left : List I) (k n : ℕ) →
      Each (λ (c : Claim I). Rest ≡ Rest) (new_claims left k n)
  new_claims_rest left k zero = tt
  new_claims_rest left k (suc n) = (refl, new_claims_rest left (suc k) n)

  new_claims_stand : (left : List I) (n : ℕ) → On (λ _. Rest) Rest (new_claims left 1 n)
  new_claims_stand left zero = refl
  new_claims_stand left (suc n) = (refl, new_claims_rest left 2 n)

  -- the table that `new` makes
  pub starts : (words : List ℕ) (st : S) (slots : List (Opt S)) →
      ShowAnswers answered about.count (shows about.state.value) words → slots ≡ Some st ∷ [] →
      about.state.value ≡ st → Rule (opening words slots (first_view resting shows fixes about))
  starts words st slots first filled same =
      let now : List I = shows about.state.value in
      let marks : List ℕ = drop about.count (drop 2 words) in
      let safe : IsSafeWorld about.count words marks (λ _. Rest) =
      starting_world answered about.count now words first in
      let course : Course I = record { now = now; next = now; done = []; marks = marks } in
      subst (λ xs. Rule (opening words xs (first_view resting shows fixes about)))
      (sym filled) record {
        at = λ _. Rest;
        course = course;
        world = safe;
        home = λ e. (st, refl, ap shows (sym same), ap fixes (sym same));
        away = λ i z. absurd (cc);
        comes = inl refl;
        idle = λ _. refl;
        marked = marks_new answered about.count now words first safe;
        seats = λ j d e. let P : View I →
            Type 0 = λ w. Fit (λ _. Rest) course w in subst P (sym (only_first j d e)) record {
              stands = new_claims_stand now about.count;
              found = λ q. absurd (cc);
              planned = λ q. absurd (cc);
              told = λ _ t. absurd (cc);
              good = good_new_claims shows fixes author about now 1 about.count
                  (omega arith) (omega arith);
            };
        once = λ j. let h = new_claims_once now j 1 about.count in omega arith;
        total = total_new;
      }

  -- the points of the claims of a seat at Rest
  rest_all : (at : ℕ → At) (cs : List (Claim I)) → On at Rest cs →
      Each (λ (c : Claim I). at c.0 ≡ Rest) cs
  rest_all at [] h = tt
  rest_all at (c ∷ cs) h = h

  all_rest : (at : ℕ → At) (cs : List (Claim I)) → Each (λ (c : Claim I). at c.0 ≡ Rest) cs →
      On at Rest cs
  all_rest at [] h = refl
  all_rest at (c ∷ cs) h = h

  -- a step of a seat at Rest leaves the process in its critical section there
  still_inside : (vs : List (View I)) (id j : ℕ) (v w d : View I) → v.at ≡ Rest →
      is_inside d.at ≡ true → get_elem? vs id ≡ some v → get_elem? vs j ≡ some d →
      get_elem? (set vs id w) j ≡ some d
  still_inside vs id j v w d o i at g = set_else vs id j w (λ e. let P : ℕ → Type 0 = λ n. get_elem?
      vs n ≡ some d in
      let same : d ≡ v = some-injective d v (sym (subst P e g) ∙ at) in let x : true ≡ false =
      sym i ∙ ap (λ (z : View I). is_inside z.at) same ∙ ap is_inside o in cc) ∙ g

  -- a word that is 1 keeps that value if seat k stores the word of another
  told_on : (at : ℕ → At) (c : Course I) → Comes shows fixes author answered about at c →
      Marked answered about.count c → Stays → (k q : ℕ) (given : List I) → is_inside (at k) ≡ true →
      GrowsBy author k c.now given → (given ≡ c.next) ⊎ (c.done ≡ []) → 1 ≤ q → q ≤ about.count
      → (p : At) (fixed : Fixed) (cs : List (Claim I)) → On at p cs → is_inside p ≡ false →
      Each (Good fixed c.now) cs → mark_in c.marks (number_in cs) ≡ 1 →
      mark_in (set c.marks (q - 1) (flag (answered q given))) (number_in cs) ≡ 1
  told_on at c comes m stays k q given i adds same low high p fixed [] on out good up =
      absurd (omega (arith, up))
  told_on at c comes m stays k q given i adds same low high p fixed (d ∷ ds) on out good up =
      shown_on answered about.count author stays at c comes m d.0 (ap is_inside on.0 ∙ out)
      (good.0.1) (good.0.2) k q given i adds same low high up

  -- the store of the word s of process q, in the critical section
  marks_home : (s : St) (r : Rule s) → Stays →
      (id k : ℕ) (p : At) (found : List I) (fixed : Fixed) (l : List I) (plan : Plan I) (n : ℕ)
      (st : S) (q : ℕ) → is_inside p ≡ true → GrowsBy author k found (shows st) →
      MayCome answered plan (shows st) → 1 ≤ q → q ≤ fixed.0
      → get_elem? s.views id ≡ some (seat p k found fixed l [] plan n)
      → Rule record {
        words = set s.words (fixed.0 + 1 + q) (flag (answered q (shows st)));
        homes = s.homes;
        views = set s.views id (view_marked q (shows st) (seat p k found fixed l [] plan n));
      }
  marks_home s r stays id k p found fixed l plan n st q is adds may low high at =
      let v : View I = seat p k found fixed l [] plan n in
      let w : View I = view_marked q (shows st) v in
      let mine : Fit r.at r.course v = r.seats id v at in
      let mine_in : is_inside (r.at k) ≡ true = ap is_inside mine.stands.0 ∙ is in
      let lack = others_lack s r id k v l [] at refl in
      let P : List I → Type 0 = λ l. GrowsBy author k l (shows st) in
      let adds' : GrowsBy author k r.course.now (shows st) = subst P (mine.found is) adds in
      let count : fixed.0 ≡ about.count = ap (λ z. z.0) mine.good.0.0 in
      let high' : q ≤ about.count = omega arith in
      let declared = mine.planned is in
      let same : (shows st ≡ r.course.next) ⊎ (r.course.done ≡ []) =
      ⊎_elim (λ e. inl (e ∙ declared.0)) (λ e. inr (sym declared.1 ∙ e)) may in
      let course : Course I = course_marked answered about.count q (shows st) r.course in
      let World : ℕ →
      Type 0 = λ n. IsSafeWorld about.count
      (set s.words (n + 1 + q) (flag (answered q (shows st)))) course.marks r.at in
      let someone : ((i : ℕ) → is_inside (r.at i) ≡ false) →
      ⊥ = (λ none_in. let z : true ≡ false = sym mine_in ∙ none_in k in cc) in record {
        at = r.at;
        course = course;
        world = subst World (sym count) (sets_mark about.count s.words r.course.marks r.at r.world q
            (flag (answered q (shows st))) low);
        home = λ none_in. absurd (someone none_in);
        away = λ i z. (
          (r.away i z).0,
          id,
          w,
          set_here s.views id w (in_length s.views id v at),
          is,
        );
        comes = inr (k, mine_in, adds');
        idle = λ none_in. absurd (someone none_in);
        marked = marks_stored answered about.count r.course q (shows st) r.marked same low high';
        seats = views_stay (Fit r.at course) s.views id w
            record {
              stands = mine.stands;
              found = mine.found;
              planned = λ _. (refl, ap (λ d. q ∷ d) declared.1);
              told = λ o. absurd (let z : true ≡ false = sym is ∙ o in cc);
              good = mine.good;
            }
            (λ j d ne g. let f = r.seats j d g in
            let outside : is_inside d.at ≡ false = not_inside s.words r.course.marks r.at r.world k
            mine_in d.at d.claims (lack.1 j d ne g) f.stands in record {
              stands = f.stands;
              found = f.found;
              planned = λ z. absurd (let e : true ≡ false = sym z ∙ outside in cc);
              told = λ o t. told_on r.at r.course r.comes r.marked stays k q (shows st) mine_in
                  adds' same low high' d.at d.fixed d.claims f.stands o f.good (f.told o t);
              good = f.good;
            });
        once = λ j. once_same (claimed j) s.views id v w at refl (r.once j);
        total = total_same many s.views id v w at refl about.count r.total;
      }

  marks : Stays → (slots id k : ℕ) (p : At) (found : List I) (fixed : Fixed) (l : List I)
      (plan : Plan I) (n : ℕ) (st : S) (q : ℕ) → is_inside p ≡ true →
      GrowsBy author k found (shows st) → MayCome answered plan (shows st) → 1 ≤ q → q ≤ fixed.0
      → Allows Rule slots id (seat p k found fixed l [] plan n, (0, Some st) ∷ []) (fixed.0 + 1 + q)
      (λ _. flag (answered q (shows st)))
      (λ _. IsMark shows answered (step slots (fixed.0 + 1 + q) (flag (answered q (shows st))) 0
      none) (seat p k found fixed l [] plan n, (0, Some st) ∷ [])
      (flag (answered q (shows st))))
  marks stays slots id k p found fixed l plan n st q is adds may low high s r len at small = (
    view_marked q (shows st) (seat p k found fixed l [] plan n),
    keeps,
    tt,
    marks_home s r stays id k p found fixed l plan n st q is adds may low high at,
    record { inside = is; process = q; on = (refl, refl, refl); stores = refl; goes = refl },
  )

  -- if a poll of a process was true, or now is, its word is 1
  or_told : (told : Bool) (word mark : ℕ) → word ≡ mark → (told ≡ true → mark ≡ 1) →
      (told || (word == 1)) ≡ true → mark ≡ 1
  or_told true word mark is before t = before refl
  or_told false word mark is before t = sym is ∙ eqb-true word 1 t

  -- the load of the own word s
  looks_home : (s : St) (r : Rule s) (id k : ℕ) (found : List I) (fixed : Fixed) (l : List I)
      (plan : Plan I) (n : ℕ) (word : ℕ) → word ≡ mark_in r.course.marks k →
      get_elem? s.views id ≡ some (seat Rest k found fixed l [] plan n)
      → Rule record {
        words = s.words;
        homes = s.homes;
        views = set s.views id (view_told (word == 1) (seat Rest k found fixed l [] plan n));
      }
  looks_home s r id k found fixed l plan n word is at =
      let v : View I = seat Rest k found fixed l [] plan n in
      let w : View I = view_told (word == 1) v in
      let mine : Fit r.at r.course v = r.seats id v at in record {
        at = r.at;
        course = r.course;
        world = r.world;
        home = r.home;
        away = λ i z. let a = r.away i z in (
          a.0,
          a.1,
          a.2,
          still_inside s.views id a.1 v w a.2 refl
              a.4 at a.3,
          a.4,
        );
        comes = r.comes;
        idle = r.idle;
        marked = r.marked;
        seats = views_stay (Fit r.at r.course) s.views id w
            record {
              stands = mine.stands;
              found = λ e. absurd (cc);
              planned = λ e. absurd (cc);
              told = λ _ t. or_told plan.told word (mark_in r.course.marks k) is
                  (λ u. mine.told refl u) t;
              good = mine.good;
            }
            (λ j d ne g. r.seats j d g);
        once = λ j. once_same (claimed j) s.views id v w at refl (r.once j);
        total = total_same many s.views id v w at refl about.count r.total;
      }

  looks : Stays → (slots id k : ℕ) (found : List I) (fixed : Fixed) (l : List I)
      (plan : Plan I) (n : ℕ)
      → Allows Rule slots id (seat Rest k found fixed l [] plan n, []) (fixed.0 + 1 + k) (λ n. n)
      (IsLook answered (step slots (fixed.0 + 1 + k) 0 0 none)
      (seat Rest k found fixed l [] plan n, []))
  looks stays slots id k found fixed l plan n s r len at small =
      let v : View I = seat Rest k found fixed l [] plan n in
      let mine : Fit r.at r.course v = r.seats id v at in
      let number = number_good k fixed r.course.now l mine.good.0 in
      let count : fixed.0 ≡ about.count = ap (λ z. z.0) mine.good.0.0 in
      let word : ℕ = get_or s.words (fixed.0 + 1 + k) 0 in
      let is : word ≡ mark_in r.course.marks k = ap (λ n. get_or s.words (n + 1 + k) 0) count ∙
      mark_loaded about.count s.words r.course.marks r.at r.world k number.0 in
      let out : is_inside (r.at k) ≡ false = ap is_inside mine.stands.0 in
      let next = looks_home s r id k found fixed l plan n word is at in (
        view_told (word == 1) v,
        keeps,
        tt,
        subst (λ ws. Rule record {
          words = ws;
          homes = s.homes;
          views = set s.views id (view_told (word == 1) v);
        })
            (sym (set_back s.words (fixed.0 + 1 + k))) next,
        record {
          rests = refl;
          on = (refl, refl, refl);
          goes = refl;
          again = λ t. is ∙
              mine.told refl t;
          left = λ a. is ∙ shown_left answered about.count author stays r.at
              r.course r.comes r.marked k out number.0 number.1 l mine.good.0.3 a;
        },
      )

  -- the first claim goes to a new seat
  splits : (id : ℕ) (fixed : Fixed) (c : Claim I) (cs : List (Claim I)) →
      Splits Rule id (seat_view Rest [] fixed (c ∷ cs) no_plan 0)
      (seat_view Rest [] fixed cs no_plan 0) (seat_view Rest [] fixed (c ∷ []) no_plan 0)
  splits id fixed c cs s r at =
      let v : View I = seat_view Rest [] fixed (c ∷ cs) no_plan 0 in
      let l : View I = seat_view Rest [] fixed cs no_plan 0 in
      let h : View I = seat_view Rest [] fixed (c ∷ []) no_plan 0 in
      let mine : Fit r.at r.course v = r.seats id v at in
      let fit_l : Fit r.at r.course l = record {
        stands = all_rest r.at cs mine.stands.1;
        found = λ e. absurd (cc);
        planned = λ e. absurd (cc);
        told = λ _ t. absurd (cc);
        good = mine.good.1;
      } in
      let fit_h : Fit r.at r.course h = record {
        stands = (mine.stands.0, tt);
        found = λ e. absurd (cc);
        planned = λ e. absurd (cc);
        told = λ _ t. absurd (cc);
        good = (mine.good.0, tt);
      } in
      record {
        at = r.at;
        world = r.world;
        course = r.course;
        home = r.home;
        comes = r.comes;
        idle = r.idle;
        marked = r.marked;
        away = λ i z. let a = r.away i z in (
          a.0,
          a.1,
          a.2,
          at_longer (set s.views id l)
              (h ∷ []) a.1 a.2 (still_inside s.views id a.1 v l a.2 refl a.4 at a.3),
          a.4,
        );
        seats = λ j d e. ⊎_elim (views_stay (Fit r.at r.course) s.views id l fit_l
            (λ i x n g. r.seats i x g) j d) (λ (t : h ≡ d). let P : View I →
            Type 0 = Fit r.at r.course in subst P t fit_h) (at_snoc (set s.views id l) h d j e);
        once = λ k. let a = sum_over-append (claimed k) (set s.views id l) (h ∷ []) in let b =
            sum_over-set (claimed k) s.views id v l at in let o = r.once k in omega arith;
        total = let a = sum_over-append many (set s.views id l) (h ∷ []) in let b =
            sum_over-set many s.views id v l at in let o = r.total in omega arith;
      }

  -- one seat takes in the claims of another
  joins : (id : ℕ) (found : List I) (fixed : Fixed) (cs : List (Claim I)) (plan : Plan I) (n : ℕ)
      (other : ℕ) (found' : List I) (ds : List (Claim I)) (plan' : Plan I) (n' : ℕ)
      → Joins Rule id (seat_view Rest found fixed cs plan n) other
      (seat_view Rest found' fixed ds plan' n') (seat_view Rest [] fixed (ds ++ cs) no_plan 0)
      (seat_view Rest [] (0, []) [] no_plan 0)
  joins id found fixed cs plan n other found' ds plan' n' s r at apart that =
      let v : View I = seat_view Rest found fixed cs plan n in
      let b : View I = seat_view Rest [] fixed (ds ++ cs) no_plan 0 in
      let spent : View I = seat_view Rest [] (0, []) [] no_plan 0 in
      let d : View I = seat_view Rest found' fixed ds plan' n' in
      let vs : List (View I) = set s.views id b in
      let mine : Fit r.at r.course v = r.seats id v at in
      let at' : get_elem? s.views other ≡ some d = sym (set_else s.views id other b apart) ∙ that in
      let theirs : Fit r.at r.course d = r.seats other d at' in
      let Rests : Claim I → Type 0 = λ c. r.at c.0 ≡ Rest in
      let fit : Fit r.at r.course b = record {
        stands = all_rest r.at (ds ++ cs) (each-append Rests ds cs (rest_all r.at ds theirs.stands)
            (rest_all r.at cs mine.stands));
        found = λ e. absurd (cc);
        planned = λ e. absurd (cc);
        told = λ _ t. absurd (cc);
        good = each-append (Good fixed r.course.now) ds cs theirs.good mine.good;
      } in
      let fit_spent : Fit r.at r.course spent = record {
        stands = refl;
        found = λ e. absurd (cc);
        planned = λ e. absurd (cc);
        told = λ _ t. absurd (cc);
        good = tt;
      } in
      record {
        at = r.at;
        world = r.world;
        course = r.course;
        home = r.home;
        comes = r.comes;
        idle = r.idle;
        marked = r.marked;
        away = λ i z. let a = r.away i z in let first : get_elem? vs a.1 ≡ some a.2 =
            still_inside s.views id a.1 v b a.2 refl a.4 at a.3 in
            (a.0, a.1, a.2, still_inside vs other a.1 d spent a.2 refl a.4 that first, a.4);
        seats = views_stay (Fit r.at r.course) vs other spent fit_spent
            (λ j x n g. views_stay (Fit r.at r.course) s.views id b fit
            (λ i y m h. r.seats i y h) j x g);
        once = λ k. let a = sum_over-set (claimed k) s.views id v b at in let e =
            sum_over-set (claimed k) vs other d spent that in let t = times-append k ds cs in
            let o = r.once k in omega arith;
        total = let a = sum_over-set many s.views id v b at in let e =
            sum_over-set many vs other d spent that in let t = length-append ds cs in let o =
            r.total in omega arith;
      }

  some_claim : (at : ℕ → At) (p : At) (cs : List (Claim I)) → On at p cs → is_inside p ≡ true →
      1 ≤ length cs
  some_claim at p [] h i = let q : true ≡ false = sym i ∙ ap is_inside h in absurd (cc)
  some_claim at p (c ∷ cs) h i = omega arith

  -- a seat with all claims finds the state in its slot
  ends : (id : ℕ) (found : List I) (fixed : Fixed) (cs : List (Claim I)) (plan : Plan I) (n : ℕ)
      (ws : List ℕ) (xs : List (Opt S)) → about.count ≤ length cs →
      Final (Seen Rule id (seat_view Rest found fixed cs plan n)) ws xs
      → (st : S) × (get_elem? xs 0 ≡ some (Some st)) × (fixes st ≡ fixes about.state.value) ×
      Each (λ (c : Claim I). Grows author c.0 c.1 (shows st) []) cs
  ends id found fixed cs plan n ws xs all fin =
      let v : View I = seat_view Rest found fixed cs plan n in
      let s : St = fin.0 in
      let at : get_elem? s.views id ≡ some v = fin.1.1 in
      let r : Rule s = fin.1.0 in
      let mine : Fit r.at r.course v = r.seats id v at in
      let nobody : (i : ℕ) →
      is_inside (r.at i) ≡ false = λ i. false_from_ne_true (is_inside (r.at i)) (λ z.
      let a = r.away i z in
      let f : Fit r.at r.course a.2 = r.seats a.1 a.2 a.3 in
      let one : 1 ≤ length a.2.claims = some_claim r.at a.2.at a.2.claims f.stands a.4 in
      let two : length cs + length a.2.claims ≤ sum_over many s.views =
      two_in_sum many s.views id a.1 v a.2 (λ e. let P : ℕ → Type 0 = λ n. get_elem? s.views n ≡
      some a.2 in
      let same : a.2 ≡ v = some-injective a.2 v (sym (subst P (sym e) a.3) ∙ at) in let x : true ≡
      false = sym a.4 ∙ ap (λ (z : View I). is_inside z.at) same in cc) at a.3 in
      let o : sum_over many s.views ≡ about.count = r.total in omega arith) in
      let home = r.home nobody in
      let st : S = home.0 in
      let P : List I → Type 0 = λ z. Each (λ (c : Claim I). Grows author c.0 c.1 z []) cs in (
        st,
        fin.4 0 (Some st) (ap (λ h. get_elem? h 0) home.1),
        home.3,
        subst P (sym home.2)
            (good_grows shows fixes author about fixed r.course.now cs mine.good),
      )

  -- The same, for a seat alone that is known by an equation.
  abbrev me_at : At → ℕ → List I → Fixed → List I → Plan I → ℕ → Me (Opt S) (View I)
  me_at p k found fixed l plan n = (seat p k found fixed l [] plan n, [])

  stores_at : (slots id k word v : ℕ) (old : At) (me : Me (Opt S) (View I)) (found : List I)
      (fixed : Fixed) (l : List I) (plan : Plan I) (n : ℕ) → stores_line old ≡ true →
      word ≡ word_stored k old → v ≡ value_stored k old → is_inside old ≡ false →
      is_inside (after_store old) ≡ false
      → ((words marks : List ℕ) (at : ℕ → At) → IsSafeWorld about.count words marks at → at k ≡
      old → IsProcess about.count k →
      IsSafeWorld about.count (set words word v) marks (moved_to at k (after_store old)))
      → me ≡ me_at old k found fixed l plan n →
      Allows Rule slots id me word (λ _. v) (λ _. IsStore (step slots word v 0 none) me v)
  stores_at slots id k word v old me found fixed l plan n is_line on_word with_value out out' line
      e = let P : Me (Opt S) (View I) →
      Type 0 = λ m. Allows Rule slots id m word (λ _. v)
      (λ _. IsStore (step slots word v 0 none) m v) in
      subst P (sym e) (stores slots id k word v old found fixed l [] plan n is_line on_word
      with_value out out' line)

  loads_at : (slots id k word : ℕ) (old : At) (me : Me (Opt S) (View I)) (found : List I)
      (fixed : Fixed) (l : List I) (plan : Plan I) (n : ℕ) → loads_line old ≡ true →
      word ≡ word_loaded old → is_inside old ≡ false →
      ((v : ℕ) → is_inside (after_load fixed.0 old v) ≡ false)
      → ((words marks : List ℕ) (at : ℕ → At) → IsSafeWorld about.count words marks at → at k ≡
      old → IsSafeWorld about.count words marks
      (moved_to at k (after_load about.count old (get_or words word 0))))
      → me ≡ me_at old k found fixed l plan n →
      Allows Rule slots id me word (λ n. n) (IsLoad (step slots word 0 0 none) me)
  loads_at slots id k word old me found fixed l plan n is_line on_word out out' line e =
      let P : Me (Opt S) (View I) →
      Type 0 = λ m. Allows Rule slots id m word (λ n. n) (IsLoad (step slots word 0 0 none) m) in
      subst P (sym e) (loads slots id k word old found fixed l [] plan n is_line
      on_word out out' line)

  tests_at : (slots id k word : ℕ) (old : At) (me : Me (Opt S) (View I)) (found : List I)
      (fixed : Fixed) (l : List I) (plan : Plan I) (n : ℕ) → tests_line old ≡ true →
      word ≡ word_loaded old → is_inside old ≡ false → is_inside (point_admitted old) ≡ true →
      is_inside (point_refused old) ≡ false
      → ((words marks : List ℕ) (at : ℕ → At) → IsSafeWorld about.count words marks at →
      get_or words word 0 ≡ k → at k ≡ old →
      IsSafeWorld about.count words marks (moved_to at k (point_admitted old)))
      → ((words marks : List ℕ) (at : ℕ → At) → IsSafeWorld about.count words marks at →
      get_or words word 0 ≢ k → at k ≡ old →
      IsSafeWorld about.count words marks (moved_to at k (point_refused old)))
      → me ≡ me_at old k found fixed l plan n →
      Allows Rule slots id me word (λ n. n) (IsTest shows fixes author answered
      (step slots word 0 0 none) me)
  tests_at slots id k word old me found fixed l plan n is_line on_word out is out' hit miss e =
      let P : Me (Opt S) (View I) →
      Type 0 = λ m. Allows Rule slots id m word (λ n. n) (IsTest shows fixes author answered
      (step slots word 0 0 none) m) in
      subst P (sym e) (tests slots id k word old found fixed l plan n is_line on_word out
      is out' hit miss)

  -- Each line of the algorithm, for the seat of an acquisition.
  module _ (slots id k : ℕ) (me : Me (Opt S) (View I)) (found : List I) (fixed : Fixed) (l : List I)
      (plan : Plan I) (n : ℕ) where
    raises_rest_at : me ≡ me_at Rest k found fixed l plan n →
        Allows Rule slots id me (k + 1) (λ _. 1) (λ _. IsStore (step slots (k + 1) 1 0 none) me 1)
    raises_rest_at = stores_at slots id k (k + 1) 1 Rest me found fixed l plan n refl refl refl refl
        refl (λ ws ms at w e p. raises_rest about.count ws ms at w k e p)

    raises_start_at : me ≡ me_at Start k found fixed l plan n →
        Allows Rule slots id me (k + 1) (λ _. 1) (λ _. IsStore (step slots (k + 1) 1 0 none) me 1)
    raises_start_at = stores_at slots id k (k + 1) 1 Start me found fixed l plan n refl refl refl
        refl refl (λ ws ms at w e p. raises_start about.count ws ms at w k e p)

    pub raises_at : (old : At) → (old ≡ Rest) ⊎ (old ≡ Start) →
        me ≡ (seat old k found fixed l [] plan n, slots_at old) →
        Allows Rule slots id me (k + 1) (λ _. 1) (λ _. IsStore (step slots (k + 1) 1 0 none) me 1)
    raises_at old is e = let P : At →
        Type 0 = λ p. me ≡ (seat p k found fixed l [] plan n, slots_at p) in
        ⊎_elim (λ q. raises_rest_at (subst P q e)) (λ q. raises_start_at (subst P q e)) is

    pub lowers_back_at : me ≡ me_at BackB k found fixed l plan n →
        Allows Rule slots id me (k + 1) (λ _. 0) (λ _. IsStore (step slots (k + 1) 0 0 none) me 0)
    lowers_back_at = stores_at slots id k (k + 1) 0 BackB me found fixed l plan n refl refl refl
        refl refl (λ ws ms at w e p. lowers_back about.count ws ms at w k e p)

    pub lowers_slow_at : me ≡ me_at SlowB k found fixed l plan n →
        Allows Rule slots id me (k + 1) (λ _. 0) (λ _. IsStore (step slots (k + 1) 0 0 none) me 0)
    lowers_slow_at = stores_at slots id k (k + 1) 0 SlowB me found fixed l plan n refl refl refl
        refl refl (λ ws ms at w e p. lowers_slow about.count ws ms at w k e p)

    pub lowers_leaving_at : me ≡ me_at Leaving k found fixed l plan n →
        Allows Rule slots id me (k + 1) (λ _. 0) (λ _. IsStore (step slots (k + 1) 0 0 none) me 0)
    lowers_leaving_at = stores_at slots id k (k + 1) 0 Leaving me found fixed l plan n refl refl
        refl refl refl (λ ws ms at w e p. lowers_leaving about.count ws ms at w k e p)

    pub sets_x_at : me ≡ me_at SetX k found fixed l plan n →
        Allows Rule slots id me 0 (λ _. k) (λ _. IsStore (step slots 0 k 0 none) me k)
    sets_x_at = stores_at slots id k 0 k SetX me found fixed l plan n refl refl refl refl refl
        (λ ws ms at w e p. sets_x about.count ws ms at w k e)

    pub sets_y_at : me ≡ me_at SetY k found fixed l plan n →
        Allows Rule slots id me 1 (λ _. k) (λ _. IsStore (step slots 1 k 0 none) me k)
    sets_y_at = stores_at slots id k 1 k SetY me found fixed l plan n refl refl refl refl refl
        (λ ws ms at w e p. sets_y about.count ws ms at w k e)

    pub loads_test_y_at : me ≡ me_at TestY k found fixed l plan n →
        Allows Rule slots id me 1 (λ n. n) (IsLoad (step slots 1 0 0 none) me)
    loads_test_y_at = loads_at slots id k 1 TestY me found fixed l plan n refl refl refl
        (λ v. let B : Bool → Type 0 = λ b. is_inside (cond b SetY BackB) ≡ false in
        elim (eqb v 0) as B [ true ↦ refl | false ↦ refl ])
        (λ ws ms at w e. loads_test_y about.count ws ms at w k e)

    pub loads_await_y_at : me ≡ me_at AwaitY k found fixed l plan n →
        Allows Rule slots id me 1 (λ n. n) (IsLoad (step slots 1 0 0 none) me)
    loads_await_y_at = loads_at slots id k 1 AwaitY me found fixed l plan n refl refl refl
        (λ v. let B : Bool → Type 0 = λ b. is_inside (cond b Start AwaitY) ≡ false in
        elim (eqb v 0) as B [ true ↦ refl | false ↦ refl ])
        (λ ws ms at w e. loads_await_y about.count ws ms at w k e)

    pub loads_slow_await_at : me ≡ me_at SlowAwait k found fixed l plan n →
        Allows Rule slots id me 1 (λ n. n) (IsLoad (step slots 1 0 0 none) me)
    loads_slow_await_at = loads_at slots id k 1 SlowAwait me found fixed l plan n refl refl refl
        (λ v. let B : Bool → Type 0 = λ b. is_inside (cond b Start SlowAwait) ≡ false in
        elim (eqb v 0) as B [ true ↦ refl | false ↦ refl ])
        (λ ws ms at w e. loads_slow_await about.count ws ms at w k e)

    scan_outside : (j : ℕ) (t u : Bool) →
        is_inside (cond t (Scan j) (cond u SlowY (Scan (j + 1)))) ≡ false
    scan_outside j true u = refl
    scan_outside j false true = refl
    scan_outside j false false = refl

    pub loads_flag_at : (j : ℕ) → me ≡ me_at (Scan j) k found fixed l plan n →
        Allows Rule slots id me (j + 1) (λ n. n) (IsLoad (step slots (j + 1) 0 0 none) me)
    loads_flag_at j = loads_at slots id k (j + 1) (Scan j) me found fixed l plan n refl refl refl
        (λ v. scan_outside j (eqb v 1) (eqb j fixed.0)) (λ ws ms at w e. loads_flag about.count
        ws ms at w k j e)

    pub tests_x_at : me ≡ me_at TestX k found fixed l plan n →
        Allows Rule slots id me 0 (λ n. n) (IsTest shows fixes author answered
        (step slots 0 0 0 none) me)
    tests_x_at = tests_at slots id k 0 TestX me found fixed l plan n refl refl refl refl refl
        (λ ws ms at w is e. admits_fast about.count ws ms at w k is e)
        (λ ws ms at w ne e. refuses_fast about.count ws ms at w k ne e)

    pub tests_y_at : me ≡ me_at SlowY k found fixed l plan n →
        Allows Rule slots id me 1 (λ n. n) (IsTest shows fixes author answered
        (step slots 1 0 0 none) me)
    tests_y_at = tests_at slots id k 1 SlowY me found fixed l plan n refl refl refl refl refl
        (λ ws ms at w is e. admits_slow about.count ws ms at w k is e)
        (λ ws ms at w ne e. refuses_slow about.count ws ms at w k ne e)

    pub leaves_at : (p : At) (st : S) → me ≡ (seat p k found fixed l [] plan n, (0, Some st) ∷ []) →
        is_inside p ≡ true → GrowsBy author k found (shows st) → fixes st ≡ fixed.1 →
        Shows answered fixed.0 found plan (shows st)
        → Allows Rule slots id me 1 (λ _. 0) (λ _. IsLeave shows (step slots 1 0 0 none) me 0)
    leaves_at p st e is adds same shown = let P : Me (Opt S) (View I) →
        Type 0 = λ m. Allows Rule slots id m 1 (λ _. 0)
        (λ _. IsLeave shows (step slots 1 0 0 none) m 0) in
        subst P (sym e) (leaves slots id k p found fixed l [] plan n st is adds same shown)

  pub looks_at : Stays → (slots id k word : ℕ) (me : Me (Opt S) (View I)) (found : List I)
      (fixed : Fixed) (l : List I) (plan : Plan I) (n : ℕ) → word ≡ fixed.0 + 1 + k →
      me ≡ me_at Rest k found fixed l plan n →
      Allows Rule slots id me word (λ n. n) (IsLook answered (step slots word 0 0 none) me)
  looks_at stays slots id k word me found fixed l plan n on_word e = let P : ℕ →
      Me (Opt S) (View I) →
      Type 0 = λ w m. Allows Rule slots id m w (λ n. n) (IsLook answered (step slots w 0 0 none) m)
      in
      subst (λ w. P w me) (sym on_word) (subst (P (fixed.0 + 1 + k)) (sym e)
      (looks stays slots id k found fixed l plan n))

  -- the view of a seat that is ready to leave
  ready_is : (me : Me (Opt S) (View I)) (r : IsReady shows fixes author answered me) →
      me ≡ (
        seat me.0.at (number_in me.0.claims) me.0.found me.0.fixed (last_left me.0.claims) []
            me.0.plan me.0.accesses,
        (0, Some r.full.0) ∷ [],
      )
  ready_is me r = λ i. (
    seat_view me.0.at me.0.found me.0.fixed (r.alone i) me.0.plan me.0.accesses,
    r.full.1 i,
  )

  pub marks_at : Stays → (slots id q word v : ℕ) (me : Me (Opt S) (View I)) →
      IsReady shows fixes author answered me → 1 ≤ q → q ≤ me.0.fixed.0 →
      word ≡ me.0.fixed.0 + 1 + q → v ≡ flag (answered q (list_in shows me.1))
      → Allows Rule slots id me word (λ _. v) (λ _. IsMark shows answered
      (step slots word v 0 none) me v)
  marks_at stays slots id q word v me r low high on_word with_value =
      let st : S = r.full.0 in
      let given : list_in shows me.1 ≡ shows st = ap (list_in shows) r.full.1 in
      let G : List I → Type 0 = λ l. GrowsBy author (number_in me.0.claims) me.0.found l in
      let M : List I → Type 0 = λ l. MayCome answered me.0.plan l in
      let one = marks stays slots id (number_in me.0.claims) me.0.at me.0.found me.0.fixed
      (last_left me.0.claims) me.0.plan me.0.accesses st q r.inside (subst G given r.adds)
      (subst M given r.may) low high in
      let P : Me (Opt S) (View I) → Type 0 = λ m. Allows Rule slots id m (me.0.fixed.0 + 1 + q)
      (λ _. flag (answered q (shows st))) (λ _. IsMark shows answered
      (step slots (me.0.fixed.0 + 1 + q) (flag (answered q (shows st))) 0 none) m
      (flag (answered q (shows st)))) in
      let two = subst P (sym (ready_is me r)) one in
      let Q : ℕ → ℕ →
      Type 0 = λ w x. Allows Rule slots id me w (λ _. x) (λ _. IsMark shows answered
      (step slots w x 0 none) me x) in
      subst (λ w. Q w v) (sym on_word) (subst (Q (me.0.fixed.0 + 1 + q))
      (sym (with_value ∙ ap (λ l. flag (answered q l)) given)) two)

  -- the store of 0 to y by a seat that is ready
  pub leaves_ready : (slots id : ℕ) (me : Me (Opt S) (View I)) →
      IsReady shows fixes author answered me →
      Shows answered me.0.fixed.0 me.0.found me.0.plan (list_in shows me.1) →
      Allows Rule slots id me 1 (λ _. 0) (λ _. IsLeave shows (step slots 1 0 0 none) me 0)
  leaves_ready slots id me r shown =
      let st : S = r.full.0 in
      let given : list_in shows me.1 ≡ shows st = ap (list_in shows) r.full.1 in
      let G : List I → Type 0 = λ l. GrowsBy author (number_in me.0.claims) me.0.found l in
      let H : List I → Type 0 = λ l. Shows answered me.0.fixed.0 me.0.found me.0.plan l in
      leaves_at slots id (number_in me.0.claims) me me.0.found me.0.fixed (last_left me.0.claims)
      me.0.plan me.0.accesses me.0.at st (ready_is me r) r.inside (subst G given r.adds)
      r.full.2 (subst H given shown)

  -- seats at rest are dealt and joined
  pub fast_deals : Deals resting shows fixes author about Rule
  fast_deals = record {
    splits = λ id v f c cs e. let P : View I →
        Type 0 = λ x. Splits Rule id x (view_of_others resting x) (view_of_first resting x) in
        subst P (sym e) (splits id f c cs);
    joins = λ id v other w f cs ds e d. let P : View I → View I →
        Type 0 = λ x y. Joins Rule id x other y (joint_view resting x y) (resting {I = I}).blank in
        subst (λ x. P x w) (sym e) (subst (λ y. P (seat_view Rest v.found f cs v.plan v.accesses) y)
        (sym d) (joins id v.found f cs v.plan v.accesses other w.found ds w.plan w.accesses));
    ends = λ id v f cs ws xs e all fin. let P : View I →
        Type 0 = λ x. Final (Seen Rule id x) ws xs in ends id v.found f cs v.plan v.accesses ws xs
        all (subst P e fin);
  }

-- a scan is at the flag of a process
pub scan_process : (n j steps : ℕ) (p : At) → IsCounted n p steps → p ≡ Scan j → IsProcess n j
scan_process n j steps p h e = let P : At → Type 0 = λ q. IsCounted n q steps in (subst P e h).0

-- what is known of a seat that stores words s
module _ {S I : Type 0} (shows : S → List I) (fixes : S → List ℕ) (author : I → ℕ) (answered : ℕ →
    List I → Bool) where
  -- a seat that has its state in the slot again is ready
  pub ready_from : (me : Me (Opt S) (View I)) (p : At) (k : ℕ) (found : List I) (fixed : Fixed)
      (l : List I) (plan : Plan I) (n : ℕ) (st : S) →
      me ≡ (seat_view p found fixed ((k, l) ∷ []) plan n, (0, Some st) ∷ []) → is_inside p ≡ true →
      GrowsBy author k found (shows st) → fixes st ≡ fixed.1 → plan.stored ≡ []
      → IsReady shows fixes author answered me
  ready_from me p k found fixed l plan n st e is adds same blank = let P : Me (Opt S) (View I) →
      Type 0 = λ m. IsReady shows fixes author answered m in
      subst P (sym e) record {
        inside = is;
        alone = refl;
        full = (st, refl, same);
        adds = adds;
        may = inr blank;
      }

  -- it remains ready after it has stored a word s
  pub ready_on : (me me' : Me (Opt S) (View I)) (q : ℕ) → IsReady shows fixes author answered me →
      me' ≡ (view_marked q (list_in shows me.1) me.0, me.1) →
      IsReady shows fixes author answered me'
  ready_on me me' q r e = let P : Me (Opt S) (View I) →
      Type 0 = λ m. IsReady shows fixes author answered m in
      subst P (sym e) record {
        inside = r.inside;
        alone = r.alone;
        full = r.full;
        adds = r.adds;
        may = inl refl;
      }

  -- what is known of the seat before it stored the words, of the seat after
  pub shows_after : (me0 me : Me (Opt S) (View I)) →
      me ≡ (view_planned me.0.plan me.0.accesses me0.0, me0.1) →
      Shows answered me0.0.fixed.0 me0.0.found me.0.plan (list_in shows me0.1) →
      Shows answered me.0.fixed.0 me.0.found me.0.plan (list_in shows me.1)
  shows_after me0 me view h = let P : Me (Opt S) (View I) →
      Type 0 = λ m. Shows answered m.0.fixed.0 m.0.found me.0.plan (list_in shows m.1) in
      subst P (sym view) h

  -- The seat was as `me0` with its state in the slot, and has stored the words of the processes
  -- below k that differ.
  pub record IsMarking (me0 : Me (Opt S) (View I)) (k : ℕ) (me : Me (Opt S) (View I)) : Type 0 where
    pub view : me ≡ (view_planned me.0.plan me.0.accesses me0.0, me0.1)
    pub ready : IsReady shows fixes author answered me
    pub done : Done answered me0.0.found (list_in shows me0.1) k me.0.plan.stored
    pub few : me.0.accesses + 1 ≤ me0.0.accesses + k

  pub marking_none : (me : Me (Opt S) (View I)) → IsReady shows fixes author answered me →
      IsMarking me 1 me
  marking_none me r = record {
    view = refl;
    ready = r;
    done = done_none answered me.0.found
        (list_in shows me.1) me.0.plan.stored;
    few = omega arith;
  }

  pub marking_same : (me0 me me' : Me (Opt S) (View I)) (k : ℕ) → IsMarking me0 k me →
      answered k me0.0.found ≡ answered k (list_in shows me0.1) → me' ≡ me →
      IsMarking me0 (k + 1) me'
  marking_same me0 me me' k h same e = let P : Me (Opt S) (View I) →
      Type 0 = λ m. IsMarking me0 (k + 1) m in
      subst P (sym e) record {
        view = h.view;
        ready = h.ready;
        done = done_same answered me0.0.found
            (list_in shows me0.1) k me.0.plan.stored same h.done;
        few = omega (arith, h.few);
      }

  pub marking_stored : (me0 me me' : Me (Opt S) (View I)) (k : ℕ) → IsMarking me0 k me →
      me' ≡ (view_marked k (list_in shows me.1) me.0, me.1) → IsMarking me0 (k + 1) me'
  marking_stored me0 me me' k h e =
      let stored : me'.0.plan.stored ≡ k ∷ me.0.plan.stored =
      ap (λ (m : Me (Opt S) (View I)). m.0.plan.stored) e in
      let more : me'.0.accesses ≡ me.0.accesses + 1 =
      ap (λ (m : Me (Opt S) (View I)). m.0.accesses) e in
      let D : List ℕ → Type 0 = λ l. Done answered me0.0.found (list_in shows me0.1) (k + 1) l in
      let P : Me (Opt S) (View I) →
      Type 0 = λ m. m ≡ (view_planned m.0.plan m.0.accesses me0.0, me0.1) in record {
        view = subst P (sym e)
            (ap (λ (m : Me (Opt S) (View I)). (
              view_planned (plan_of (list_in shows me.1) (k ∷ me.0.plan.stored) me.0.plan.told)
                  (me.0.accesses + 1) m.0,
              m.1,
            )) h.view);
        ready = ready_on me me' k h.ready e;
        done = subst D (sym stored) (done_stored answered me0.0.found (list_in shows me0.1) k
            me.0.plan.stored h.done);
        few = omega (arith, h.few, more);
      }

  -- once all words are done, they show the list that is given back
  pub marking_all : (me0 me : Me (Opt S) (View I)) (k m n w : ℕ) → IsMarking me0 k me →
      w ≡ answer_bits (λ p. answered p me0.0.found) k m →
      w ≡ answer_bits (λ p. answered p (list_in shows me0.1)) k m → n < k + m
      → Shows answered n me0.0.found me.0.plan (list_in shows me0.1)
  marking_all me0 me k m n w h e f wide = let slots : me.1 ≡ me0.1 =
      ap (λ (z : Me (Opt S) (View I)). z.1) h.view in
      let M : List (ℕ × Opt S) → Type 0 = λ z. MayCome answered me.0.plan (list_in shows z) in (
        subst M slots h.ready.may,
        done_all answered me0.0.found (list_in shows me0.1) k m n w
            me.0.plan.stored e f wide h.done,
      )

-- what is known of the view of a seat
module _ {S I : Type 0} where
  -- the seat of an acquisition at point p
  pub stands_at : (me : Me (Opt S) (View I)) (at p : At) (k : ℕ) →
      me ≡ (
        seat_view at me.0.found me.0.fixed ((k, last_left me.0.claims) ∷ []) me.0.plan
            me.0.accesses,
        slots_at at,
      ) → at ≡ p
      → me ≡ (
        seat_view p me.0.found me.0.fixed ((k, last_left me.0.claims) ∷ []) me.0.plan
            me.0.accesses,
        slots_at p,
      )
  stands_at me at p k e q =
      e ∙ ap (λ z. (
        seat_view z me.0.found me.0.fixed ((k, last_left me.0.claims) ∷ []) me.0.plan
            me.0.accesses,
        slots_at z,
      )) q

  -- the seat that has given the state back
  pub left_is : (shows : S → List I) (me me' : Me (Opt S) (View I)) (p : At) (found : List I)
      (fixed : Fixed) (k : ℕ) (left : List I) (plan : Plan I) (n : ℕ) (st : S) →
      me ≡ (seat_view p found fixed ((k, left) ∷ []) plan n, (0, Some st) ∷ [])
      → me' ≡ (view_left shows me me.1, []) →
      me' ≡ (seat_view Leaving (shows st) fixed ((k, shows st) ∷ []) no_plan (n + 1), [])
  left_is shows me me' p found fixed k left plan n st e a = let P : Me (Opt S) (View I) →
      Type 0 = λ m. me' ≡ (view_left shows m m.1, []) in subst P e a

  -- the step that a mark tells of is that of this process
  pub marked_is : (shows : S → List I) (answered : ℕ → List I → Bool) (slots word v found q : ℕ)
      (me me' : Me (Opt S) (View I)) →
      IsMark shows answered (step slots word v 0 none) me found me' → word ≡ me.0.fixed.0 + 1 + q →
      me' ≡ (view_marked q (list_in shows me.1) me.0, me.1)
  marked_is shows answered slots word v found q me me' h on_word = let e : word ≡
      me.0.fixed.0 + 1 + h.process = h.on.0 in
      let same : h.process ≡ q = omega arith in h.goes ∙
      ap (λ z. (view_marked z (list_in shows me.1) me.0, me.1)) same

  -- the seat that has stored words s
  pub planned_is : (me me' : Me (Opt S) (View I)) (v : View I) (slots : List (ℕ × Opt S)) →
      me ≡ (v, slots) → me' ≡ (view_planned me'.0.plan me'.0.accesses me.0, me.1) →
      me' ≡ (view_planned me'.0.plan me'.0.accesses v, slots)
  planned_is me me' v slots e a =
      a ∙ ap (λ (m : Me (Opt S) (View I)). (view_planned me'.0.plan me'.0.accesses m.0, m.1)) e
