use Rattle.std.proofs.Common.{◌≡◌, ◌∙◌, ℕ, ◌==◌, None, length, refl, sym, ap, subst, arith, eqb-true, nat_le, leb-true, leb-false}
use Rattle.std.proofs.lemmas.Bool.{eqb-false}
use Rattle.std.specs.Option.{option_and_then}
use Rattle.std.proofs.lemmas.Option.{slice_get_past, slice_get_read}
use Rattle.mq_model.proofs.Places.{split}
use Rattle.history_judge.specs.WellFormed.{fault_at, fault_of}
use Rattle.history_judge.proofs.Noting.{falses, few, latest-of, noted-next, zeros}
use Rattle.history_judge.proofs.well_formed.first_fault.Goals as goal

pub loop-n-init : goal.loop-n-init
loop-n-init c = (
  record {
    begun = record { count = refl; each = zeros };
    ended = record { count = refl; each = zeros };
    same = refl;
    pends = falses;
  },
  λ m below. absurd (omega arith),
)

pub returns-in-Some-clause-some : goal.returns-in-Some-clause-some
returns-in-Some-clause-some c =
    let is = slice_get_read c.args.calls.now (length c.args.calls.now) c.loop-n.n
    c.index-calls-n.result refl c.loop-n-test.true c.index-calls-n.is in
    record {
      index = c.loop-n.n;
      line_is = refl;
      before = c.loop-n.invariant.1;
      is = latest-of c.args.calls.now c.loop-n.n c.index-calls-n.result _ _ _ is
          (few c.args.calls.now c.loop-n.n c.index-calls-n.result c.requires is)
          c.loop-n.invariant.0 ∙ sym c.fault_behind.ensures ∙ c.in-Some.is;
    }

pub loop-n-preserved : goal.loop-n-preserved
loop-n-preserved c =
    let calls = c.args.calls.now in
    let n = c.loop-n.n in
    let called = c.index-calls-n.result in
    let is = slice_get_read calls (length calls) n called refl c.loop-n-test.true
    c.index-calls-n.is in
    let below = few calls n called c.requires is in
    let none = latest-of calls n called _ _ _ is below c.loop-n.invariant.0 ∙
    sym c.fault_behind.ensures ∙ c.in_default.is in (
      noted-next calls n called _ _ _ c.later.result c.later-in-loop-n.result c.is_pending.result is
          below c.loop-n.invariant.0 c.later.ensures c.later-in-loop-n.ensures c.is_pending.ensures,
      λ m less. split (m == n)
          (λ t. let same : m ≡ n = eqb-true _ _ t in subst (λ (k : ℕ). fault_at calls k ≡ None)
          (sym same) none)
          (λ f. let ne = eqb-false _ _ f in c.loop-n.invariant.1 m (omega (arith, ne, less))),
    )

pub returns-clause-none : goal.returns-clause-none
returns-clause-none c = λ is n. split (nat_le (length c.args.calls.now) n)
    (λ t. let none = slice_get_past c.args.calls.now n (leb-true _ _ t) in
    ap (λ o. option_and_then (fault_of c.args.calls.now n) o) none)
    (λ f. c.loop-n.invariant.1 n (omega (arith, leb-false _ _ f, c.loop-n-test.false)))
