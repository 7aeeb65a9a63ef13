use Rattle.std.proofs.Common.{arith, ◌≡◌, ◌<◌, ◌+◌, ◌∙◌, List, [], ap, sym, subst, get_or, length, map, Vec, Global}
use Rattle.std.proofs.lemmas.Grind.{common_steps}
use Rattle.std.proofs.lemmas.List.{get_or-map}
use Rattle.script_text.specs.Script.{said_phases}
use Rattle.script_orders.specs.Plans.{Plan, plan_of, program_of}
use Rattle.script_orders.specs.declared.plan.Planned.{Planned}
use Rattle.journal_tasks.specs.Histories.{MakesFront, asked, completions_of}
use Rattle.journal_tasks.proofs.Historic.{fronts-one_more, programs-at}
use Rattle.journal_tasks.proofs.called.calls_of.Goals as goal

pub loop-index-preserved : goal.loop-index-preserved
loop-index-preserved c =
    let now = c.in_ok-push_program.ensures in
    let phases = said_phases c.args.script.now.phases.items in let n =
    c.args.script.now.processes in let i = c.loop-index.index in
    let programs = c.in_ok-programs.programs.items in let program = c.index.result.now in
    let shown : Vec Planned Global → List Plan = λ v. map plan_of v.items in
    let low : i < n = c.loop-index-test.true in
    let within : i < length programs = grind (arith, common_steps) in
    let at : map plan_of c.as_slice-program.result.now ≡ program_of 0 phases (i + 1) =
    ap (map plan_of) c.as_slice-program.ensures.value
    ∙ ap shown c.index.ensures
    ∙ sym (get_or-map shown programs i program [] within)
    ∙ ap (λ (all : List (List Plan)). get_or all i []) c.in_ok-programs.ensures.programs
    ∙ programs-at phases n i [] low in
    let front : MakesFront (i + 1) (program_of 0 phases (i + 1))
    (completions_of (i + 1) c.args.noted.now) now.0 =
    subst (λ plans. MakesFront (i + 1) plans (completions_of (i + 1) c.args.noted.now) now.0) at
    now.1 in
    fronts-one_more phases c.args.noted.now i (map asked c.loop-index.calls.items) now.0
    (map asked c.push_program.new.calls.items) c.loop-index.invariant front now.2
