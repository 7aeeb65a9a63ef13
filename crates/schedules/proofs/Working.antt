-- How many of its steps a search has made.
use Rattle.std.proofs.lemmas.Bool.Decides.{nat_tests}
use Rattle.std.proofs.lemmas.Grind.{common_steps}
use Rattle.std.proofs.Common.{◌≡◌, ℕ, ◌+◌, ◌*◌, ◌^◌, ◌<◌, ◌≤◌, zero, suc, inl, inr, List, [], ◌∷◌, ◌++◌, length, Option, Some, None, unwrap_or, refl, ap, ◌∙◌, arith, length-append, add-one}
use Rattle.std.proofs.lemmas.Bool.{cases_lt}
use Rattle.std.proofs.Math.Nat.{mul-le-mul_right, pow-succ', pow-zero}
use Rattle.std.specs.Option.{option_map, option_and_then}
use Rattle.schedules.specs.Schedules.{after}
use Rattle.schedules.proofs.Along.{taken}
use Rattle.schedules.proofs.Covering.{after-append}
use Rattle.schedules.proofs.Ranking.{sum-same}
use Rattle.schedules.specs.Work.{AreShort, HaveFew, sum_below, work, TakesAll}

-- the steps for a choice, with those that follow it
abbrev pub cost : {S : Type 0} → (S → ℕ → Option S) → (S → ℕ) → (ℕ → ℕ) → ℕ → ℕ → S → ℕ → ℕ
cost next choices back n depth s choice = 1 + unwrap_or (option_map (work next choices back n depth)
    (next s choice)) 0

-- the steps that were made when a search is after a path, at a choice
abbrev pub spent : {S : Type 0} → (S → ℕ → Option S) → (S → ℕ) → (ℕ → ℕ) → ℕ → ℕ → List ℕ → ℕ → S →
    ℕ
spent next choices back zero depth path choice s = 0
spent next choices back (suc n) depth [] choice s =
    sum_below (cost next choices back n (depth + 1) s) choice
spent next choices back (suc n) depth (p ∷ path) choice s =
    sum_below (cost next choices back n (depth + 1) s) p + 1 + unwrap_or
    (option_map (spent next choices back n (depth + 1) path choice) (next s p)) 0

pub sum-le : (f : ℕ → ℕ) (a b : ℕ) → a ≤ b → sum_below f a ≤ sum_below f b
sum-le f a zero le = let e : a ≡ 0 = omega (arith, le) in rw e (omega arith)
sum-le f a (suc b) le =
    elim (cases_lt a (suc b)) [
      | inl h ↦ let ih = sum-le f a b (omega (arith, h)) in omega (arith, ih)
      | inr h ↦ let e : a ≡ suc b = omega (arith, h, le) in rw e (omega arith)
    ]

sum-next : (f : ℕ → ℕ) (n : ℕ) → sum_below f (n + 1) ≡ sum_below f n + f n
sum-next f n = rw add-one refl

-- a choice was taken
pub spent-entered : {S : Type 0} (next : S → ℕ → Option S) (choices : S → ℕ) (back : ℕ → ℕ)
    (n depth : ℕ) (path : List ℕ) (choice : ℕ) (s now t : S) →
    after next path s ≡ Some now → next now choice ≡ Some t → length path < n →
    spent next choices back n depth (path ++ choice ∷ []) 0 s ≡ spent next choices back n depth
    path choice s + 1
spent-entered next choices back zero depth path choice s now t runs step deep = let k : ⊥ =
    omega (arith, deep) in absurd k
spent-entered {S} next choices back (suc zero) depth [] choice s now t runs step deep = grind arith
spent-entered {S} next choices back (suc (suc n)) depth [] choice s now t runs step deep =
    grind arith
spent-entered {S} next choices back (suc n) depth (p ∷ path) choice s now t runs step deep =
    let low : length path < n = omega (arith, deep) in
    let goes : (o : Option S) → next s p ≡ o → option_and_then (after next path) o ≡ Some now →
    spent next choices back (suc n) depth (p ∷ (path ++ choice ∷ [])) 0 s ≡ spent next choices back
    (suc n) depth (p ∷ path) choice s + 1 =
    λ (o : Option S). elim o as (λ o. next s p ≡ o → option_and_then (after next path) o ≡
    Some now →
    spent next choices back (suc n) depth (p ∷ (path ++ choice ∷ [])) 0 s ≡ spent next choices back
    (suc n) depth (p ∷ path) choice s + 1) [
      | None ↦ (λ e h. let k : ⊥ = cc in absurd k)
      | Some u ↦ (λ e h.
          grind (
            arith,
            nat_tests,
            spent-entered next choices back n (depth + 1) path choice u
                now t h step low,
          ))
    ]
    in
    goes (next s p) refl runs

-- at a later choice as many were made, or more
pub spent-le : {S : Type 0} (next : S → ℕ → Option S) (choices : S → ℕ) (back : ℕ → ℕ) (n depth : ℕ)
    (path : List ℕ) (a b : ℕ) (s : S) →
    a ≤ b → spent next choices back n depth path a s ≤ spent next choices back n depth path b s
spent-le next choices back zero depth path a b s le = omega arith
spent-le next choices back (suc n) depth [] a b s le =
    sum-le (cost next choices back n (depth + 1) s) a b le
spent-le {S} next choices back (suc n) depth (p ∷ path) a b s le =
    let goes : (o : Option S) →
    unwrap_or (option_map (spent next choices back n (depth + 1) path a) o) 0 ≤ unwrap_or
    (option_map (spent next choices back n (depth + 1) path b) o) 0 =
    λ (o : Option S). elim o as
    (λ o. unwrap_or (option_map (spent next choices back n (depth + 1) path a) o) 0 ≤ unwrap_or
    (option_map (spent next choices back n (depth + 1) path b) o) 0)
    [ None ↦ omega arith | Some u ↦ spent-le next choices back n (depth + 1) path a b u le ]
    in
    let h = goes (next s p) in
    omega (arith, h)

-- a choice was passed over
pub spent-skipped : {S : Type 0} (next : S → ℕ → Option S) (choices : S → ℕ) (back : ℕ → ℕ)
    (n depth : ℕ) (path : List ℕ) (choice : ℕ) (s now : S) →
    after next path s ≡ Some now → length path < n →
    spent next choices back n depth path choice s + 1 ≤ spent next choices back n depth
    path (choice + 1) s
spent-skipped next choices back zero depth path choice s now runs deep = let k : ⊥ =
    omega (arith, deep) in absurd k
spent-skipped next choices back (suc n) depth [] choice s now runs deep = grind (arith, sum-next)
spent-skipped {S} next choices back (suc n) depth (p ∷ path) choice s now runs deep =
    let low : length path < n = omega (arith, deep) in
    let goes : (o : Option S) → option_and_then (after next path) o ≡ Some now →
    unwrap_or (option_map (spent next choices back n (depth + 1) path choice) o) 0 + 1 ≤ unwrap_or
    (option_map (spent next choices back n (depth + 1) path (choice + 1)) o) 0 =
    λ (o : Option S). elim o as (λ o. option_and_then (after next path) o ≡ Some now →
    unwrap_or (option_map (spent next choices back n (depth + 1) path choice) o) 0 + 1 ≤ unwrap_or
    (option_map (spent next choices back n (depth + 1) path (choice + 1)) o) 0) [
      | None ↦ (λ h. let k : ⊥ = cc in absurd k)
      | Some u ↦ (λ h. spent-skipped next choices back n (depth + 1) path choice u now h low)
    ]
    in
    let h = goes (next s p) runs in
    omega (arith, h)

-- the last choice was taken back
pub spent-left : {S : Type 0} (next : S → ℕ → Option S) (choices : S → ℕ) (back : ℕ → ℕ)
    (n depth : ℕ) (front : List ℕ) (last choice : ℕ) (s now : S) →
    after next (front ++ last ∷ []) s ≡ Some now → choice ≤ choices now → length front + 1 < n →
    spent next choices back n depth (front ++ last ∷ []) choice s + back (depth + length front + 1)
    ≤ spent next choices back n depth front (last + 1) s
spent-left {S} next choices back (suc (suc n)) depth [] last choice s now runs few deep =
    grind (arith, taken, sum-le, sum-next)
spent-left {S} next choices back (suc (suc n)) depth (p ∷ front) last choice s now runs few deep =
    let low : length front + 1 < suc n = omega (arith, deep) in
    let goes : (o : Option S) → option_and_then (after next (front ++ last ∷ [])) o ≡ Some now →
    unwrap_or (option_map (spent next choices back (suc n) (depth + 1) (front ++ last ∷ []) choice)
    o) 0 + back (depth + 1 + length front + 1)
    ≤ unwrap_or (option_map (spent next choices back (suc n) (depth + 1) front (last + 1)) o) 0 =
    λ (o : Option S). elim o as (λ o. option_and_then (after next (front ++ last ∷ [])) o ≡
    Some now →
    unwrap_or (option_map (spent next choices back (suc n) (depth + 1) (front ++ last ∷ []) choice)
    o) 0 + back (depth + 1 + length front + 1)
    ≤ unwrap_or (option_map (spent next choices back (suc n) (depth + 1) front (last + 1)) o) 0) [
      | None ↦ (λ h. let k : ⊥ = cc in absurd k)
      | Some u ↦ (λ h. spent-left next choices back (suc n) (depth + 1) front last choice
          u now h few low)
    ]
    in
    let h = goes (next s p) runs in
    let e : depth + length (p ∷ front) + 1 ≡ depth + 1 + length front + 1 = omega arith in
    let b = ap back e in
    omega (arith, h, b)
spent-left next choices back _ depth front last choice s now runs few deep = let k : ⊥ =
    omega (arith, deep) in absurd k

-- no more were made than it takes to try all
pub spent-within : {S : Type 0} (next : S → ℕ → Option S) (choices : S → ℕ) (back : ℕ → ℕ) →
    ((x : S) (choice : ℕ) → choices x ≤ choice → next x choice ≡ None) →
    (n depth : ℕ) (path : List ℕ) (choice : ℕ) (s now : S) →
    after next path s ≡ Some now → choice ≤ choices now →
    spent next choices back n depth path choice s ≤ work next choices back n depth s
spent-within next choices back others zero depth path choice s now runs few = omega arith
spent-within {S} next choices back others (suc n) depth [] choice s now runs few =
    grind (arith, sum-le)
spent-within {S} next choices back others (suc n) depth (p ∷ path) choice s now runs few =
    let goes : (o : Option S) → next s p ≡ o → option_and_then (after next path) o ≡ Some now →
    spent next choices back (suc n) depth (p ∷ path) choice s ≤ work next choices back
    (suc n) depth s =
    λ (o : Option S). elim o as (λ o. next s p ≡ o → option_and_then (after next path) o ≡
    Some now → spent next choices back (suc n) depth (p ∷ path) choice s ≤ work next choices
    back (suc n) depth s) [
      | None ↦ (λ e h. let k : ⊥ = cc in absurd k)
      | Some u ↦ (λ e h.
          elim (cases_lt p (choices s)) [
            | inl below ↦
                let ih = spent-within next choices back others n (depth + 1) path
                choice u now h few in
                let f = ap (λ (o : Option S). unwrap_or
                (option_map (spent next choices back n (depth + 1) path choice) o) 0) e in
                let g = ap (λ (o : Option S). unwrap_or
                (option_map (work next choices back n (depth + 1)) o) 0) e in
                let all = sum-le (cost next choices back n (depth + 1) s) (p + 1) (choices s)
                (omega (arith, below)) in
                let i = sum-next (cost next choices back n (depth + 1) s) p in
                omega (arith, ih, f, g, all, i)
            | inr beyond ↦ let no : next s p ≡ None = others s p beyond in let k : ⊥ =
                cc in absurd k
          ])
    ]
    in
    goes (next s p) refl runs

-- The progress of a search after a number of steps: its path leads to a node, and it has made these
-- steps up to a choice there, which is no later than the next one, if there is one.
pub record HasSpent {S : Type 0} (next : S → ℕ → Option S) (choices : S → ℕ) (back : ℕ → ℕ)
    (budget steps more : ℕ) (path : List ℕ) (start now : S) (choice : Option ℕ) : Type 0 where
  pub deep : length path ≤ steps
  pub at : ℕ
  pub early : (c : ℕ) → choice ≡ Some c → at ≤ c
  pub few : at ≤ choices now
  pub made : steps + more ≤ spent next choices back budget 0 path at start

-- at the beginning
pub spends-first : {S : Type 0} (next : S → ℕ → Option S) (choices : S → ℕ) (back : ℕ → ℕ)
    (budget : ℕ) (start now : S) (choice : Option ℕ) →
    HasSpent next choices back budget 0 0 [] start now choice
spends-first next choices back budget start now choice = record {
  deep = omega arith;
  at = 0;
  early = λ c e. omega arith;
  few = omega arith;
  made = omega arith;
}

-- a choice is taken
pub spends-entered : {S : Type 0} (next : S → ℕ → Option S) (choices : S → ℕ) (back : ℕ → ℕ)
    (budget steps more : ℕ) (path : List ℕ) (choice : ℕ) (start now t : S) (first : Option ℕ) →
    after next path start ≡ Some now → next now choice ≡ Some t → steps < budget →
    HasSpent next choices back budget steps more path start now (Some choice) →
    HasSpent next choices back budget (steps + 1) more (path ++ choice ∷ []) start t first
spends-entered next choices back budget steps more path choice start now t first runs step within
    has = grind (arith, spent-entered, spent-le, length-append)

-- a choice is passed over
pub spends-skipped : {S : Type 0} (next : S → ℕ → Option S) (choices : S → ℕ) (back : ℕ → ℕ)
    (budget steps more : ℕ) (path : List ℕ) (choice : ℕ) (start now : S) →
    after next path start ≡ Some now → choice < choices now → steps < budget →
    HasSpent next choices back budget steps more path start now (Some choice) →
    HasSpent next choices back budget (steps + 1) more path start now (Some (choice + 1))
spends-skipped next choices back budget steps more path choice start now runs below within has =
    grind (arith, spent-skipped, spent-le)

-- a choice is taken back, after which this many others are run again
pub spends-left : {S : Type 0} (next : S → ℕ → Option S) (choices : S → ℕ) (back : ℕ → ℕ) →
    ((x : S) (choice : ℕ) → choices x ≤ choice → next x choice ≡ None) →
    (budget steps more again total : ℕ) (path front : List ℕ) (last : ℕ) (start node now : S)
    (choice other : Option ℕ) →
    path ≡ front ++ last ∷ [] → after next path start ≡ Some node →
    after next front start ≡ Some now → steps < budget →
    again + 1 ≤ back (length front + 1) → total ≤ more + again →
    ((c : ℕ) → other ≡ Some c → last + 1 ≤ c) →
    HasSpent next choices back budget steps more path start node choice →
    HasSpent next choices back budget (steps + 1) total front start now other
spends-left {S} next choices back others budget steps more again total path front last start node
    now choice other parts runs_on at within cheap sum later has =
    grind (arith, length-append, spent-left, after-append, taken, cases_lt)

-- it has made no more than it takes to try all
pub spends-within : {S : Type 0} (next : S → ℕ → Option S) (choices : S → ℕ) (back : ℕ → ℕ) →
    ((x : S) (choice : ℕ) → choices x ≤ choice → next x choice ≡ None) →
    (budget steps more : ℕ) (path : List ℕ) (start now : S) (choice : Option ℕ) →
    after next path start ≡ Some now →
    HasSpent next choices back budget steps more path start now choice → budget ≤ steps + more →
    TakesAll next choices back budget start
spends-within next choices back others budget steps more path start now choice runs has all =
    grind (arith, spent-within)

-- two machines, of which one makes the steps of the other, take as much work
pub work-mapped : {S T : Type 0} (f : S → T) (next : S → ℕ → Option S) (follow : T → ℕ → Option T)
    (choices : S → ℕ) (counts : T → ℕ) (back : ℕ → ℕ) →
    ((s : S) (choice : ℕ) → follow (f s) choice ≡ option_map f (next s choice)) →
    ((s : S) → counts (f s) ≡ choices s) → (n depth : ℕ) (s : S) →
    work follow counts back n depth (f s) ≡ work next choices back n depth s
work-mapped f next follow choices counts back same count zero depth s = refl
work-mapped {S} {T} f next follow choices counts back same count (suc n) depth s =
    let rest : Option T →
    ℕ = λ o. 1 + unwrap_or (option_map (work follow counts back n (depth + 1)) o) 0 in
    let others : Option S →
    ℕ = λ o. 1 + unwrap_or (option_map (work next choices back n (depth + 1)) o) 0 in
    let alike : (o : Option S) → rest (option_map f o) ≡ others o =
    λ (o : Option S). elim o as (λ o. rest (option_map f o) ≡ others o) [
      | None ↦ refl
      | Some t ↦ (let ih = work-mapped f next follow choices counts back same count n
          (depth + 1) t in omega (arith, ih))
    ]
    in
    let each = sum-same (λ choice. rest (follow (f s) choice)) (λ choice. others (next s choice))
    (λ choice. ap rest (same s choice) ∙ alike (next s choice)) (counts (f s)) in
    let e = ap (λ (k : ℕ). sum_below (λ choice. others (next s choice)) k) (count s) in
    omega (arith, each, e)

sum-bound : (f : ℕ → ℕ) (most c : ℕ) → ((k : ℕ) → f k ≤ most) → (n : ℕ) → n ≤ c →
    sum_below f n ≤ n * most
sum-bound f most c few zero le = omega arith
sum-bound f most c few (suc n) le = let ih = sum-bound f most c few n (omega (arith, le)) in let h =
    few n in grind (arith, ih, h)

abbrev limit : ℕ → ℕ → ℕ → ℕ
limit b c k = (b + 1) * (c + 1) ^ k

limit-grows : (b c k : ℕ) → limit b c (k + 1) ≡ c * limit b c k + limit b c k
limit-grows b c k = grind (arith, common_steps, pow-succ')

limit-least : (b c k : ℕ) → b < limit b c k
limit-least b c zero = let e = pow-zero (c + 1) in grind (arith, e)
limit-least b c (suc k) =
    let ih = limit-least b c k in
    let e = limit-grows b c k in
    let same : k + 1 ≡ suc k = omega arith in
    let f = ap (λ (x : ℕ). limit b c x) same in
    omega (arith, ih, e, f)

-- how many steps it takes if schedules are short and choices are few
pub work-bound : {S : Type 0} (next : S → ℕ → Option S) (choices : S → ℕ) (back : ℕ → ℕ)
    (b c most : ℕ) → ((depth : ℕ) → depth ≤ most → back depth ≤ b) →
    (d n depth : ℕ) (from : S) → depth + d ≤ most → AreShort next d from →
    HaveFew next choices c from →
    work next choices back n depth from < limit b c (d + 1)
work-bound next choices back b c most cheap d zero depth from deep short few = let h =
    limit-least b c (d + 1) in omega (arith, h)
work-bound {S} next choices back b c most cheap d (suc n) depth from deep short few =
    let rest : Option S →
    ℕ = λ o. 1 + unwrap_or (option_map (work next choices back n (depth + 1)) o) 0 in
    let least = limit-least b c d in
    let below : (e : ℕ) → d ≡ e → (choice : ℕ) (o : Option S) → next from choice ≡ o →
    rest o ≤ limit b c d =
    λ (e : ℕ). elim e as (λ e. d ≡ e → (choice : ℕ) (o : Option S) → next from choice ≡ o →
    rest o ≤ limit b c d) [
      | zero ↦ (λ is choice o. elim o as (λ o. next from choice ≡ o → rest o ≤ limit b c d) [
        | None ↦ (λ step. omega (arith, least))
        | Some t ↦ (λ step.
            let long = short (choice ∷ []) t
            (ap (λ (x : Option S). option_and_then (after next []) x) step) in
            let k : ⊥ = omega (arith, long, is) in absurd k)
      ])
      | suc e ↦ (λ is choice o. elim o as (λ o. next from choice ≡ o → rest o ≤ limit b c d) [
        | None ↦ (λ step. omega (arith, least))
        | Some t ↦ (λ step.
            let on : (schedule : List ℕ) (to : S) → after next schedule t ≡ Some to →
            after next (choice ∷ schedule) from ≡ Some to =
            λ schedule to runs. ap (λ (x : Option S). option_and_then (after next schedule) x)
            step ∙ runs in
            let ih = work-bound next choices back b c most cheap e n (depth + 1) t
            (omega (arith, deep, is))
            (λ schedule to runs. let long = short (choice ∷ schedule) to (on schedule to runs) in
            omega (arith, long, is))
            (λ to reached. few to (choice ∷ reached.0, on reached.0 to reached.1)) in
            let same : e + 1 ≡ d = omega (arith, is) in
            let f = ap (λ (x : ℕ). limit b c x) same in
            omega (arith, ih, f))
      ])
    ]
    in
    let each : (choice : ℕ) → rest (next from choice) ≤ limit b c d = λ choice. below d refl choice
    (next from choice) refl in
    let here : choices from ≤ c = few from ([], refl) in
    let sum = sum-bound (λ choice. rest (next from choice)) (limit b c d) c each
    (choices from) here in
    grind (arith, nat_tests, mul-le-mul_right, limit-grows)
