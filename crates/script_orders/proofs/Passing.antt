-- A call of a process and the steps of another: they commute if the call commutes with each call
-- that the other makes.
use Rattle.std.proofs.lemmas.Bool.Decides.{nat_tests}
use Rattle.std.proofs.Common.{◌≡◌, ℕ, zero, suc, ◌+◌, ◌≤◌, ◌<◌, ◌==◌, Bool, true, false, not, List, [], ◌∷◌, ◌++◌, length, slice_get, Option, Some, None, is_some, if◌then◌else◌, Vec, refl, sym, ◌∙◌, ap, subst, arith, Global}
use Rattle.std.specs.Option.{option_and_then, option_map}
use Rattle.mq_model.specs.Legality.{IsLegalNext, Legal, reply_to}
use Rattle.mq_model.specs.Record.{Past, Process}
use Rattle.mq_model.specs.Threads.{shares}
use Rattle.mq_model.specs.Waits.{open_wait}
use Rattle.mq_model.specs.declared.entries.Call.{Call}
use Rattle.mq_model.specs.declared.entries.Call.TheVariants.{MqClose, Collect}
use Rattle.mq_state.specs.Trails.{can_call, record_of_call}
use Rattle.mq_state.proofs.Trails.{legal-of}
use Rattle.mq_equivalence.specs.Equivalence.{Equivalent}
use Rattle.mq_equivalence.specs.Runs.{Request, after_calls}
use Rattle.mq_equivalence.specs.Steps.{shape}
use Rattle.mq_equivalence.specs.Structure.{extended}
use Rattle.mq_equivalence.proofs.Alike.{refused-alike}
use Rattle.mq_equivalence.proofs.Calls.{can-alike, never-collected}
use Rattle.mq_equivalence.proofs.Going.{shape-outline}
use Rattle.mq_equivalence.proofs.Relation.{equivalent-both}
use Rattle.mq_equivalence.proofs.Runs.{steps-agree}
use Rattle.mq_commutation.specs.Commuting.{Commute, Unaffected, record_for}
use Rattle.mq_commutation.proofs.Structure.{others-differ}
use Rattle.script_orders.specs.Progress.{Progress}
use Rattle.script_orders.specs.Said.{said}
use Rattle.script_orders.specs.Scenes.{Scene, after_call, after_step, close_first, close_held, is_held}
use Rattle.script_orders.specs.Turns.{Turned, after_line, after_turn, scene_of, turned}
use Rattle.script_orders.specs.declared.plan.Planned.{Planned}
use Rattle.script_orders.specs.declared.plan.Step.{Step}
use Rattle.script_orders.specs.declared.plan.Step.TheVariants as steps
use Rattle.script_text.specs.Replies.{reply_line}
use Rattle.script_text.specs.declared.reply.Outcome.TheVariants as outcomes
use Rattle.script_orders.proofs.Legality.{Free, all-free, close-can}
use Rattle.script_orders.proofs.Likewise.{may-of}
use Rattle.script_orders.proofs.Printing.{call-said, collect_by, said-alike, said-collect, shape-same}
use Rattle.schedules.proofs.Removing.{is-none}

-- a call that others may pass ---------------------------------------------------------------------

abbrev pub can_make : Past → Request → Bool
can_make past a = can_call past a.process a.call a.given

abbrev pub made : Past → Request → Past
made past a = record_of_call past a.process a.call a.given ∷ past

-- what is printed of the call
abbrev pub printed : Past → Request → List ℕ
printed past a = said (made past a) a.process (reply_to past a.process a.call a.given)

-- A request commutes with the calls of other processes that may pass it, after journals of which
-- something holds; and it holds after them.
pub record IsPassable (a : Request) (Holds : Past → Type 0) (Passes : Past → Process → Call →
    Type 0) : Type 0 where
  pub commutes : (past : Past) (b : Request) → Holds past → Legal past →
      IsLegalNext past (record_for past a) → IsLegalNext past (record_for past b) →
      shares a.process b.process ≡ false → Passes past b.process b.call → Commute past a b
  pub holds : (past : Past) (b : Request) → Holds past → Legal past →
      IsLegalNext past (record_for past b) → shares a.process b.process ≡ false →
      Passes past b.process b.call → Holds (made past b)

-- The call may be made. The journal `ahead` is equivalent to the one after it.
pub record IsReady (a : Request) (Holds : Past → Type 0) (past ahead : Past) : Type 0 where
  pub legal : Legal past
  pub holds : Holds past
  pub can : can_make past a ≡ true
  pub journals : Equivalent ahead (made past a)

-- the same after calls of another process, with the same text
pub record Moved (a : Request) (Holds : Past → Type 0) (past new ahead : Past) : Type 0 where
  pub ready : IsReady a Holds new ahead
  pub told : printed new a ≡ printed past a

-- what is printed of a call that another call does not affect
unaffected-said : (past : Past) (a : Request) (q : Process) (call : Call) (given : List ℕ) →
    Unaffected past a (record { process = q; call = call; given = given }) →
    said (after_calls past (record { process = q; call = call; given = given } ∷ (a ∷ []))) q
    (reply_to (after_calls past (a ∷ [])) q call given)
    ≡ said (after_calls past (record { process = q; call = call; given = given } ∷ [])) q
    (reply_to past q call given)
unaffected-said past a q Collect given u = grind (arith, nat_tests, said-collect, collect_by)
unaffected-said past a q call given u =
    let b : Request = record { process = q; call = call; given = given } in
    let mid : Past = after_calls past (a ∷ []) in
    said-alike (after_calls past (b ∷ [])) (after_calls past (b ∷ (a ∷ []))) q
    (reply_to past q call given) (reply_to mid q call given)
    (never-collected past q call given refl) (never-collected mid q call given refl)
    (sym (shape-outline (reply_to mid q call given)) ∙ ap shape u.reply ∙ shape-outline
    (reply_to past q call given)) u.message

-- the shape of a reply that another call does not affect
unaffected-shape : (past : Past) (a b : Request) → Unaffected past a b →
    shape (reply_to (made past a) b.process b.call b.given) ≡
    shape (reply_to past b.process b.call b.given)
unaffected-shape past a b u =
    sym (shape-outline (reply_to (made past a) b.process b.call b.given)) ∙ ap shape u.reply ∙
    shape-outline (reply_to past b.process b.call b.given)

record CallPassed (a : Request) (Holds : Past → Type 0) (q : Process) (call : Call) (given : List ℕ)
    (past ahead : Past) : Type 0 where
  can : can_call ahead q call given ≡ true
  reply : shape (reply_to ahead q call given) ≡ shape (reply_to past q call given)
  prints : said (record_of_call ahead q call given ∷ ahead) q (reply_to ahead q call given) ≡
      said (record_of_call past q call given ∷ past) q (reply_to past q call given)
  moved : Moved a Holds past (record_of_call past q call given ∷ past)
      (record_of_call ahead q call given ∷ ahead)

-- what another process may do in a step
pub record PassesStep (Holds : Past → Type 0) (Passes : Past → Process → Call → Type 0)
    (past : Past) (q : Process) (given : List ℕ) (step : Step) : Type 0 where
  pub call : (call : Call) → step ≡ steps.Call call → can_call past q call given ≡ true →
      Passes past q call
  pub closes : step ≡ steps.Exit → (n : ℕ) → n < 16 → Holds (close_first past q n) →
      Passes (close_first past q n) q (MqClose n)

record ScenePassed (a : Request) (Holds : Past → Type 0) (past : Past) (scene : Scene)
    (o : Option Scene) : Type 0 where
  there : Scene
  is : o ≡ Some there
  text : there.text ≡ scene.text
  moved : Moved a Holds past scene.past there.past

pub record TurnPassed (a : Request) (Holds : Past → Type 0) (past : Past) (from : ℕ) (t : Turned)
    (o : Option Turned) : Type 0 where
  pub there : Turned
  pub is : o ≡ Some there
  pub progress : there.progress ≡ t.progress
  pub later : from ≤ t.progress.begun
  pub moved : Moved a Holds past t.past there.past

can-from : (scene new : Scene) (p : Process) (call : Call) (given : List ℕ) →
    after_call scene p call given ≡ Some new → can_call scene.past p call given ≡ true
can-from scene new p call given step = grind arith

module _ (a : Request) (Holds : Past → Type 0) (Passes : Past → Process → Call → Type 0)
    (g : IsPassable a Holds Passes) where
  call-passes : (q : Process) (call : Call) (given : List ℕ) (past ahead : Past) →
      shares a.process q ≡ false → Passes past q call → can_call past q call given ≡ true →
      IsReady a Holds past ahead → CallPassed a Holds q call given past ahead
  call-passes q call given past ahead ne passes can c =
      let b : Request = record { process = q; call = call; given = given } in
      let mid : Past = made past a in
      let new : Past = record_of_call past q call given ∷ past in
      let first = legal-of past a.process a.call a.given c.can in
      let second = legal-of past q call given can in
      let k : Commute past a b = g.commutes past b c.holds c.legal first second ne passes in
      let mid_shape : shape (reply_to mid q call given) ≡ shape (reply_to past q call given) =
      unaffected-shape past a b k.second in
      let mid_can : can_call mid q call given ≡ true = can-alike past mid q call given
      (k.second.next.turn ∙ sym second.turn) mid_shape ∙ can in
      let j = c.journals in
      let steps = steps-agree j.to ahead mid j.equivalent q call given refl in
      let same_shape : shape (reply_to mid q call given) ≡ shape (reply_to ahead q call given) =
      shape-same j.to ahead mid q call given steps in
      let ahead_can : can_call ahead q call given ≡ true =
      sym (can-alike ahead mid q call given steps.turn same_shape) ∙ mid_can in
      let next : Equivalent (record_of_call ahead q call given ∷ ahead)
      (record_of_call mid q call given ∷ mid) =
      record {
        to = extended j.to (length ahead) (length mid);
        equivalent = steps.next (legal-of ahead q call given ahead_can);
      }
      in
      record {
        can = ahead_can;
        reply = sym same_shape ∙ mid_shape;
        prints =
            sym (call-said j.to ahead mid q call given j.equivalent
            (may-of ahead q call given ahead_can) (may-of mid q call given mid_can) steps)
            ∙ unaffected-said past a q call given k.second;
        moved = record {
          ready = record {
            legal = (c.legal, second);
            holds = g.holds past b c.holds c.legal second ne passes;
            can = can-alike past new a.process a.call a.given (k.first.next.turn ∙ sym first.turn)
                (unaffected-shape past b a k.first) ∙ c.can;
            journals = equivalent-both (record_of_call ahead q call given ∷ ahead)
                (record_of_call mid q call given ∷ mid) (made new a) next k.journals;
          };
          told = unaffected-said past b a.process a.call a.given k.first;
        };
      }

  close-passes : (q d : ℕ) (past ahead : Past) → shares a.process q ≡ false → (1 ≤ q) × (q ≤ 32) →
      Passes past q (MqClose d) → Free past q → IsReady a Holds past ahead →
      Moved a Holds past (close_held past q d) (close_held ahead q d)
  close-passes q d past ahead ne bounds passes free c =
      let one = call-passes q (MqClose d) [] past ahead ne passes
      (close-can past q d bounds free) c in
      let same : is_held ahead q d ≡ is_held past q d =
      ap not (refused-alike (reply_to ahead q (MqClose d) [])
      (reply_to past q (MqClose d) []) one.reply) in
      let closed : Past → Bool → Past = λ x b. if b then record_of_call x q (MqClose d) [] ∷ x
      else x in
      let goes : (b : Bool) → Moved a Holds past (closed past b) (closed ahead b) =
      λ (b : Bool). elim b as (λ b. Moved a Holds past (closed past b) (closed ahead b)) [
        | true ↦
            one.moved
        | false ↦ record { ready = c; told = refl }
      ]
      in
      let P : Bool → Type 0 = λ b. Moved a Holds past (closed past (is_held past q d))
      (closed ahead b) in
      subst P (sym same) (goes (is_held past q d))

  closes-pass : (q n : ℕ) (past ahead : Past) → shares a.process q ≡ false → (1 ≤ q) × (q ≤ 32) →
      n ≤ 16 → ((m : ℕ) → m < 16 → Holds (close_first past q m) → Passes (close_first past q m) q
      (MqClose m)) → Free past q → IsReady a Holds past ahead → Moved a Holds past
      (close_first past q n) (close_first ahead q n)
  closes-pass q zero past ahead ne bounds within passes free c = record { ready = c; told = refl }
  closes-pass q (suc n) past ahead ne bounds within passes free c =
      let before = closes-pass q n past ahead ne bounds (omega (arith, within)) passes free c in
      let one = close-passes q n (close_first past q n) (close_first ahead q n) ne bounds
      (passes n (omega (arith, within)) before.ready.holds)
      (all-free past q n bounds free) before.ready in
      record { ready = one.ready; told = one.told ∙ before.told }

  call-scene : (q : Process) (call : Call) (given : List ℕ) (past ahead : Past) (text : List ℕ)
      (scene : Scene) → shares a.process q ≡ false →
      (can_call past q call given ≡ true → Passes past q call) → IsReady a Holds past ahead →
      after_call (record { past = past; text = text }) q call given ≡ Some scene →
      ScenePassed a Holds past scene
      (after_call (record { past = ahead; text = text }) q call given)
  call-scene q call given past ahead text scene ne passes c step =
      let scene_of_call : Past → Past →
      Scene = λ x new. record {
        past = new;
        text = text ++ said new q (reply_to x q call given);
      } in
      let after : Past → Bool →
      Option Scene = λ x b. option_map (scene_of_call x)
      (if b then Some (record_of_call x q call given ∷ x) else None) in
      let goes : (b : Bool) → can_call past q call given ≡ b → after past b ≡ Some scene →
      ScenePassed a Holds past scene (after ahead (can_call ahead q call given)) =
      λ (b : Bool). elim b as (λ b. can_call past q call given ≡ b → after past b ≡ Some scene →
      ScenePassed a Holds past scene (after ahead (can_call ahead q call given))) [
        | true ↦ (λ can h.
            let one = call-passes q call given past ahead ne (passes can) can c in
            let here : scene_of_call past (record_of_call past q call given ∷ past) ≡ scene = cc in
            let P : Scene →
            Type 0 = λ s. ScenePassed a Holds past s (after ahead (can_call ahead q call given))
            in
            subst P here
            record {
              there = scene_of_call ahead (record_of_call ahead q call given ∷ ahead);
              is = ap (after ahead) one.can;
              text = ap (λ (line : List ℕ). text ++ line) one.prints;
              moved = one.moved;
            })
        | false ↦ (λ can h. absurd (cc))
      ]
      in
      goes (can_call past q call given) refl step

  step-passes : (q : Process) (given : List ℕ) (step : Step) (past ahead : Past) (text : List ℕ)
      (scene : Scene) → shares a.process q ≡ false → (1 ≤ q) × (q ≤ 32) → Free past q →
      PassesStep Holds Passes past q given step → IsReady a Holds past ahead →
      after_step (record { past = past; text = text }) q given step ≡ Some scene →
      ScenePassed a Holds past scene
      (after_step (record { past = ahead; text = text }) q given step)
  step-passes q given (steps.Call call) past ahead text scene ne bounds free may c h =
      call-scene q call given past ahead text scene ne (may.call call refl) c h
  step-passes q given (steps.Refusal fault) past ahead text scene ne bounds free may c h =
      let line : List ℕ = text ++ reply_line q (outcomes.Refused fault) [] in
      let here : Scene = record { past = past; text = line } in
      let e : here ≡ scene = cc in
      let P : Scene →
      Type 0 = λ s. ScenePassed a Holds past s
      (after_step (record { past = ahead; text = text }) q given (steps.Refusal fault)) in
      subst P e (record {
        there = record { past = ahead; text = line };
        is = refl;
        text = refl;
        moved = record { ready = c; told = refl };
      })
  step-passes q given steps.Exit past ahead text scene ne bounds free may c h =
      let line : List ℕ = text ++ reply_line q outcomes.Done [] in
      let here : Scene = record { past = close_first past q 16; text = line } in
      let e : here ≡ scene = cc in
      let P : Scene →
      Type 0 = λ s. ScenePassed a Holds past s
      (after_step (record { past = ahead; text = text }) q given steps.Exit) in
      subst P e (record {
        there = record { past = close_first ahead q 16; text = line };
        is = refl;
        text = refl;
        moved = closes-pass q 16 past ahead ne bounds (omega arith)
            (may.closes refl) free c;
      })

  line-passes : (q phase : ℕ) (past ahead : Past) (progress : Progress) (o : Option Planned)
      (scene : Scene) → shares a.process q ≡ false → (1 ≤ q) × (q ≤ 32) → Free past q →
      ((next : Planned) → o ≡ Some next → (next.phase == phase) ≡ true → PassesStep Holds Passes
      past q next.given.items next.step) → IsReady a Holds past ahead →
      option_and_then (after_line past phase q progress) o ≡ Some scene →
      ScenePassed a Holds past scene (option_and_then (after_line ahead phase q progress) o)
  line-passes q phase past ahead progress None scene ne bounds free may c h = absurd (cc)
  line-passes q phase past ahead progress (Some next) scene ne bounds free may c h =
      let line : Past → Bool → Option Scene = λ x b. if b
      then after_step (scene_of x progress) q next.given.items next.step else None in
      let goes : (b : Bool) → (next.phase == phase) ≡ b → line past b ≡ Some scene →
      ScenePassed a Holds past scene (line ahead b) =
      λ (b : Bool). elim b as (λ b. (next.phase == phase) ≡ b → line past b ≡ Some scene →
      ScenePassed a Holds past scene (line ahead b)) [
        | true ↦ (λ now h. step-passes q next.given.items next.step past ahead progress.text scene
            ne bounds free (may next refl now) c h)
        | false ↦ (λ now h. absurd (cc))
      ]
      in
      goes (next.phase == phase) refl h

  turned-passes : (past : Past) (lines : ℕ) (progress : Progress) (o q : Option Scene)
      (t : Turned) → ((scene : Scene) → o ≡ Some scene → ScenePassed a Holds past scene q) →
      option_map (turned lines progress) o ≡ Some t →
      TurnPassed a Holds past progress.begun t (option_map (turned lines progress) q)
  turned-passes past lines progress None q t passes h = absurd (cc)
  turned-passes past lines progress (Some scene) q t passes h =
      let one = passes scene refl in
      let e : turned lines progress scene ≡ t = cc in
      let P : Turned →
      Type 0 = λ u. TurnPassed a Holds past progress.begun u
      (option_map (turned lines progress) q) in
      subst P e (record {
        there = turned lines progress one.there;
        is = ap (λ (o : Option Scene). option_map (turned lines progress) o) one.is;
        progress =
            ap (λ (text : List ℕ). let next : Progress = record {
              begun = progress.begun + lines;
              text = text;
            } in next) one.text;
        later = omega arith;
        moved = one.moved;
      })

  pub turn-passes : (q phase : ℕ) (past ahead : Past) (progress : Progress)
      (program : Vec Planned Global) (t : Turned) → shares a.process q ≡ false →
      (1 ≤ q) × (q ≤ 32) →
      (is_some (open_wait past q) ≡ true → Passes past q Collect) →
      (open_wait past q ≡ None → (next : Planned) → slice_get program.items progress.begun ≡
      Some next → (next.phase == phase) ≡ true →
      PassesStep Holds Passes past q next.given.items next.step) →
      IsReady a Holds past ahead → after_turn past phase q progress program ≡ Some t →
      TurnPassed a Holds past progress.begun t (after_turn ahead phase q progress program)
  turn-passes q phase past ahead progress program t ne bounds collects_pass lines_pass c h =
      let collects : Past →
      Option Turned = λ x. option_map (turned 0 progress)
      (after_call (scene_of x progress) q Collect []) in
      let begins : Past →
      Option Turned = λ x. option_map (turned 1 progress)
      (option_and_then (after_line x phase q progress) (slice_get program.items progress.begun))
      in
      let goes : (b : Bool) → is_some (open_wait past q) ≡ b →
      (if b then collects past else begins past) ≡ Some t →
      TurnPassed a Holds past progress.begun t (if b then collects ahead else begins ahead) =
      λ (b : Bool). elim b as (λ b. is_some (open_wait past q) ≡ b →
      (if b then collects past else begins past) ≡ Some t →
      TurnPassed a Holds past progress.begun t (if b then collects ahead else begins ahead)) [
        | true ↦ (λ e h.
            turned-passes past 0 progress (after_call (scene_of past progress) q Collect [])
            (after_call (scene_of ahead progress) q Collect []) t
            (λ scene step. call-scene q Collect [] past ahead progress.text scene ne
            (λ can. collects_pass e) c step) h)
        | false ↦ (λ e h.
            let none : open_wait past q ≡ None = is-none (open_wait past q) e in
            let free : Free past q = record { legal = c.legal; free = none } in
            turned-passes past 1 progress (option_and_then (after_line past phase q progress)
            (slice_get program.items progress.begun))
            (option_and_then (after_line ahead phase q progress)
            (slice_get program.items progress.begun)) t
            (λ scene step. line-passes q phase past ahead progress
            (slice_get program.items progress.begun) scene ne bounds free
            (lines_pass none) c step) h)
      ]
      in
      let mid : is_some (open_wait (made past a) q) ≡ is_some (open_wait past q) =
      rw (others-differ a.process q ne) refl in
      let same : is_some (open_wait ahead q) ≡ is_some (open_wait past q) =
      sym (c.journals.equivalent.waits q) ∙ mid in
      let P : Bool →
      Type 0 = λ b. TurnPassed a Holds past progress.begun t
      (if b then collects ahead else begins ahead) in
      subst P (sym same) (goes (is_some (open_wait past q)) refl h)
