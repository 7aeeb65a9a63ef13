-- What a search keeps of its nodes: their choices remain possible, and how many runs are left.
use Rattle.std.proofs.Common.{◌≡◌, ℕ, suc, ◌+◌, ◌*◌, ◌-◌, ◌^◌, ◌<◌, ◌≤◌, Bool, true, List, [], ◌∷◌, ◌++◌, length, All, take, drop, get_or, length-append, refl, sym, subst, arith}
use Rattle.std.specs.List.{remove}
use Rattle.std.proofs.Math.Nat.{pow-suc, one-le-pow, mul-le-mul_left}
use Rattle.std.proofs.Math.Seq.{drop-cons, take-length, take-suc}
use Rattle.std.proofs.lemmas.List.{length-take, length-take-le, take-append-le, take-take}
use Rattle.std.proofs.lemmas.List.Elements.{All-append, All-drop, All-get_or, All-take, All-weaker}
use Rattle.std.proofs.lemmas.List.Edits.{length-remove}
use Rattle.exploration.specs.Choices.{can_choose}
use Rattle.exploration.specs.Shown.{AreOpen, IsOpen, Possible, none, one, Shows, runs_left, runs_of}
use Rattle.exploration.specs.declared.operation.Choice.{Choice}
use Rattle.exploration.specs.declared.operation.Step.{Step}
use Rattle.exploration.specs.declared.search.Node.{Node}

pub possible-kept : {could kept : List Choice → Choice → Bool} {choices : List Choice} →
    ((before : List Choice) (choice : Choice) → could before choice ≡ true → kept before choice ≡
    true) →
    Possible could choices → Possible kept choices
possible-kept more none = none
possible-kept more (one {before} {choice} leads goes) = one (possible-kept more leads)
    (more before choice goes)

pub opens-kept : (could kept : List Choice → Choice → Bool) (path : List Choice) (count : ℕ)
    (nodes : List Node) →
    ((before : List Choice) (choice : Choice) → could before choice ≡ true → kept before choice ≡
    true) →
    AreOpen could path count nodes → AreOpen kept path count nodes
opens-kept could kept path count [] more h = tt
opens-kept could kept path count (node ∷ nodes) more h = (
  record {
    within = h.0.within;
    leads = possible-kept more h.0.leads;
    goes_on = All-weaker (λ choice. could (take count path) choice ≡ true)
        (λ choice. kept (take count path) choice ≡ true)
        (more (take count path)) node.open.items h.0.goes_on;
  },
  opens-kept could kept path (suc count) nodes more h.1,
)

-- the first choices of a path are those of one that is longer, or was cut behind them
pub is-longer : (could : List Choice → Choice → Bool) (path more : List Choice)
    (count : ℕ) (node : Node) →
    IsOpen could path count node → IsOpen could (path ++ more) count node
is-longer could path more count node is =
    let e = take-append-le count path more is.within in
    record {
      within = rw (length-append path more) (omega (arith, is.within));
      leads = rw e is.leads;
      goes_on = rw e is.goes_on;
    }

pub is-shorter : (could : List Choice → Choice → Bool) (path : List Choice)
    (count most : ℕ) (node : Node) →
    count ≤ most → IsOpen could path count node → IsOpen could (take most path) count node
is-shorter could path count most node below is =
    let e = take-take count most path below in
    record {
      within = rw (length-take most path) (grind (arith, is.within, below));
      leads = rw e is.leads;
      goes_on = rw e is.goes_on;
    }

pub opens-longer : (could : List Choice → Choice → Bool) (path more : List Choice) (count : ℕ)
    (nodes : List Node) →
    AreOpen could path count nodes → AreOpen could (path ++ more) count nodes
opens-longer could path more count [] h = tt
opens-longer could path more count (node ∷ nodes) h =
    (is-longer could path more count node h.0, opens-longer could path more (suc count) nodes h.1)

pub opens-shorter : (could : List Choice → Choice → Bool) (path : List Choice) (count most : ℕ)
    (nodes : List Node) →
    count + length nodes ≤ most → AreOpen could path count nodes →
    AreOpen could (take most path) count nodes
opens-shorter could path count most [] below h = tt
opens-shorter could path count most (node ∷ nodes) below h = (
  is-shorter could path count most node (omega arith) h.0,
  opens-shorter could path (suc count)
      most nodes (omega arith) h.1,
)

-- the last node
pub opens-push : (could : List Choice → Choice → Bool) (path : List Choice) (count k : ℕ)
    (nodes : List Node) (node : Node) →
    k ≡ count + length nodes → AreOpen could path count nodes → IsOpen could path k node →
    AreOpen could path count (nodes ++ node ∷ [])
opens-push could path count k [] node at h is =
    (subst (λ k. IsOpen could path k node) (omega (arith, at)) is, tt)
opens-push could path count k (first ∷ nodes) node at h is =
    (h.0, opens-push could path (suc count) k nodes node (omega (arith, at)) h.1 is)

pub opens-pop : (could : List Choice → Choice → Bool) (path : List Choice) (count k : ℕ)
    (nodes : List Node) (node : Node) →
    k ≡ count + length nodes → AreOpen could path count (nodes ++ node ∷ []) →
    AreOpen could path count nodes × IsOpen could path k node
opens-pop could path count k [] node at h =
    (tt, subst (λ k. IsOpen could path k node) (omega (arith, at)) h.0)
opens-pop could path count k (first ∷ nodes) node at h =
    let rest = opens-pop could path (suc count) k nodes node (omega (arith, at)) h.1 in
    ((h.0, rest.0), rest.1)

-- each node has its choices in the path
pub opens-within : (could : List Choice → Choice → Bool) (path : List Choice) (count : ℕ)
    (nodes : List Node) →
    count ≤ length path → AreOpen could path count nodes → count + length nodes ≤ suc (length path)
opens-within could path count [] within h = omega arith
opens-within could path count (node ∷ []) within h = omega arith
opens-within could path count (node ∷ next ∷ nodes) within h =
    let rest = opens-within could path (suc count) (next ∷ nodes) h.1.0.within h.1 in
    omega arith

pub opens-fit : (could : List Choice → Choice → Bool) (path : List Choice) (nodes : List Node) →
    AreOpen could path 0 nodes → length nodes ≤ suc (length path)
opens-fit could path nodes h = let e = opens-within could path 0 nodes (omega arith) h in
    omega (arith, e)

-- at least one
pub power-positive : (m k : ℕ) → 1 ≤ suc m ^ k
power-positive m k = one-le-pow k (suc m) (omega arith)

-- the runs of a node with few open choices, and those of the places after it
pub power-step : (m s i open_choices : ℕ) → open_choices ≤ m → i ≤ s →
    open_choices * suc m ^ (s - i) + suc m ^ (s - i) ≤ suc m ^ (suc s - i)
power-step m s i n few within =
    let e : suc s - i ≡ suc (s - i) = omega arith in
    rw (e, pow-suc (suc m) (s - i))
    (let h : suc n ≤ suc m = omega arith in
    let p : suc m ^ (s - i) * suc n ≤ suc m ^ (s - i) * suc m =
    mul-le-mul_left (suc m ^ (s - i)) h in
    grind (arith, p))

pub left-push : (m s count k : ℕ) (nodes : List Node) (node : Node) → k ≡ count + length nodes →
    runs_left m s count (nodes ++ node ∷ []) ≡ runs_left m s count nodes + runs_of m s k node
left-push m s count k [] node at = let e : k ≡ count = omega (arith, at) in rw e (omega arith)
left-push m s count k (first ∷ nodes) node at =
    rw (left-push m s (suc count) k nodes node (omega (arith, at))) (omega arith)

-- the runs that are left with one node more, at the end of a path
pub left-node : (m s : ℕ) (nodes : List Node) (node : Node) (path : List Choice) (choice : Choice) →
    length nodes ≡ length path →
    length node.open.items ≤ m → length path ≤ s →
    runs_left m s 0 (nodes ++ node ∷ []) + suc m ^ (suc s - length (path ++ choice ∷ [])) ≤
    runs_left m s 0 nodes + suc m ^ (suc s - length path)
left-node m s nodes node path choice at few within =
    let long : length (path ++ choice ∷ []) ≡ length path + 1 = length-append path (choice ∷ []) in
    let e : suc s - (length path + 1) ≡ s - length path = omega arith in
    rw (left-push m s 0 (length path) nodes node (omega (arith, at)), long, e)
    (let h = power-step m s (length path) (length node.open.items) few within in omega (arith, h))

pub left-end : (m s k old initial : ℕ) → old + suc m ^ k ≤ initial → old < initial
left-end m s k old initial left = omega (arith, power-positive m k)

-- a node of which an open choice was taken, after its path
pub opens-after : (could : List Choice → Choice → Bool) (path : List Choice) (nodes : List Node)
    (node after : Node) (at : ℕ) (choice : Choice) →
    AreOpen could path 0 nodes → IsOpen could path (length nodes) node →
    after.open.items ≡ remove node.open.items at →
    AreOpen could (take (length nodes) path ++ choice ∷ []) 0 (nodes ++ after ∷ [])
opens-after could path nodes node after at choice opened is others =
    let P : Choice → Type 0 = λ choice. could (take (length nodes) path) choice ≡ true in
    let rest : All P (remove node.open.items at) =
    All-append P (take at node.open.items) (drop (suc at) node.open.items)
    (All-take P at node.open.items is.goes_on) (All-drop P (suc at) node.open.items is.goes_on)
    in
    let here : IsOpen could path (length nodes) after = record {
      within = is.within;
      leads = is.leads;
      goes_on = rw others rest;
    } in
    let cut = is-shorter could path (length nodes) (length nodes) after (omega arith) here in
    opens-push could (take (length nodes) path ++ choice ∷ []) 0 (length nodes) nodes
    after (omega arith)
    (opens-longer could (take (length nodes) path) (choice ∷ []) 0 nodes (opens-shorter could path 0
    (length nodes) nodes (omega arith) opened))
    (is-longer could (take (length nodes) path) (choice ∷ []) (length nodes) after cut)

pub possible-next : (could : List Choice → Choice → Bool) (path : List Choice) (count : ℕ)
    (node : Node) (choice : Choice) (at : ℕ) → at < length node.open.items →
    choice ≡ get_or node.open.items at choice → IsOpen could path count node →
    Possible could (take count path ++ choice ∷ [])
possible-next could path count node choice at within is_at is =
    let P : Choice → Type 0 = λ x. could (take count path) x ≡ true in
    one is.leads (subst P (sym is_at) (All-get_or P node.open.items at choice within is.goes_on))

pub left-next : (m s : ℕ) (nodes : List Node) (node after : Node) (at : ℕ) (path : List Choice)
    (choice : Choice) → at < length node.open.items →
    after.open.items ≡ remove node.open.items at → length nodes ≤ length path →
    runs_left m s 0 (nodes ++ after ∷ []) + suc m ^ (suc s - length (take (length nodes) path ++
    choice ∷ [])) ≤ runs_left m s 0 nodes + runs_of m s (length nodes) node
left-next m s nodes node after at path choice within others fits =
    let long : length (take (length nodes) path ++ choice ∷ []) ≡ length nodes + 1 =
    rw (
      length-append (take (length nodes) path) (choice ∷ []),
      length-take-le (length nodes)
          path fits,
    ) refl in
    let e : suc s - (length nodes + 1) ≡ s - length nodes = omega arith in
    rw (left-push m s 0 (length nodes) nodes after (omega arith), others, long, e)
    (grind (arith, length-remove))

-- the first steps show what they show
pub shows-take : (could : List Choice → Choice → Bool) (n : ℕ) (before : List Choice)
    (steps : List Step) →
    Shows could before steps → Shows could before (take n steps)
shows-take could (suc n) before (step ∷ steps) h =
    (h.0, shows-take could n (before ++ step.choice ∷ []) steps h.1)
shows-take could _ before _ h = tt

-- a step by a choice that can be made
pub open-step : (could : List Choice → Choice → Bool) (prefix : List Choice) (step : Step)
    (steps : List Step) →
    Possible could prefix → Shows could prefix (step ∷ steps) →
    can_choose step.parked.items step.choice ≡ true →
    Possible could (prefix ++ step.choice ∷ []) × Shows could (prefix ++ step.choice ∷ []) steps
open-step could prefix step steps leads shows can = (one leads (shows.0 step.choice can), shows.1)

-- the node of a step at the end of the path
pub opens-step : (could : List Choice → Choice → Bool) (path : List Choice) (nodes : List Node)
    (node : Node) (step : Step) (steps : List Step) →
    AreOpen could path 0 nodes → length nodes ≡ length path → Possible could path →
    Shows could path (step ∷ steps) →
    All (λ choice. can_choose step.parked.items choice ≡ true) node.open.items →
    AreOpen could (path ++ step.choice ∷ []) 0 (nodes ++ node ∷ [])
opens-step could path nodes node step steps opened at leads shows all =
    let whole : take (length nodes) path ≡ path = rw at (take-length path) in
    let is : IsOpen could path (length nodes) node = record {
      within = omega arith;
      leads = rw whole leads;
      goes_on = rw whole (All-weaker (λ choice. can_choose step.parked.items choice ≡ true)
          (λ choice. could path choice ≡ true) shows.0 node.open.items all);
    } in
    opens-longer could path (step.choice ∷ []) 0 (nodes ++ node ∷ [])
    (opens-push could path 0 (length nodes) nodes node (omega arith) opened is)

-- steps that begin with these choices show what comes after them
pub shows-next : (could : List Choice → Choice → Bool) (asked : List Choice) (steps : List Step)
    (i : ℕ) (step : Step) (choice : Choice) →
    i < length asked → i < length steps → step ≡ get_or steps i step →
    choice ≡ get_or asked i choice → step.choice ≡ choice →
    Shows could (take i asked) (drop i steps) →
    Shows could (take (suc i) asked) (drop (suc i) steps)
shows-next could asked steps i step choice in_asked in_steps is_step is_choice same shows =
    let here : drop i steps ≡ step ∷ drop (suc i) steps = rw (
      drop-cons steps i step in_steps,
      ← is_step,
    ) refl in
    let next : take (suc i) asked ≡ take i asked ++ choice ∷ [] =
    rw (take-suc asked i choice in_asked, ← is_choice) refl in
    let both : Shows could (take i asked) (step ∷ drop (suc i) steps) = rw here at shows in
    rw next (rw same at both.1)

-- the last of the nodes, and those before it
pub opens-last : (could : List Choice → Choice → Bool) (path : List Choice) (nodes rest : List Node)
    (node : Node) → nodes ≡ rest ++ node ∷ [] →
    AreOpen could path 0 nodes → AreOpen could path 0 rest × IsOpen could path (length rest) node
opens-last could path nodes rest node e h = opens-pop could path 0 (length rest) rest node
    (omega arith) (rw e at h)

pub left-last : (m s : ℕ) (nodes rest : List Node) (node : Node) → nodes ≡ rest ++ node ∷ [] →
    (length nodes ≡ suc (length rest)) × (runs_left m s 0 nodes ≡ runs_left m s 0 rest + runs_of m s
    (length rest) node)
left-last m s nodes rest node e = (
  rw (e, length-append rest (node ∷ [])) (omega arith),
  rw e (left-push m s 0 (length rest) rest node (omega arith)),
)
