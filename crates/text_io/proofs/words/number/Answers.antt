use Rattle.std.proofs.Common.{rules, arith, ◌≡◌, ◌<◌, ◌≤◌, ◌*◌, ◌+◌, ◌-◌, ◌^◌, get_or, take, length, sym, ap, ◌∙◌, Some}
use Rattle.std.specs.Char.{IsNotAsciiDigit}
use Rattle.std.specs.Int.{IsInRange}
use Rattle.std.specs.Str.Parse.{AllDigits, digits_value}
use Rattle.std.proofs.lemmas.List.{take_all}
use Rattle.text_io.proofs.Numbers.{value_step, digits_step, too_large, no_digit, written_none, written_some}
use Rattle.text_io.proofs.words.number.Goals as goal

pub returns-then-not-is_ascii_digit : goal.returns-then-not-is_ascii_digit
returns-then-not-is_ascii_digit c =
    let w = c.args.word.now in let i = c.loop-b.b-index in
    let other : IsNotAsciiDigit (get_or w i 0) = grind rules in
    sym (written_none 64 w (no_digit w i c.loop-b-test.true other))

pub returns-in_err-checked_mul : goal.returns-in_err-checked_mul
returns-in_err-checked_mul c =
    let w = c.args.word.now in let i = c.loop-b.b-index in
    let digit : IsInRange 48 57 (get_or w i 0) = grind rules in
    let large : 2 ^ 64 ≤ c.loop-b.value * 10 = grind rules in
    let no = too_large w i c.loop-b-test.true digit (let is = c.loop-b.invariant.0 in
    omega (arith, is, large)) in
    let none = sym (written_none 64 w no) in search rules

pub returns-in_err-value : goal.returns-in_err-value
returns-in_err-value c =
    let w = c.args.word.now in let i = c.loop-b.b-index in
    let digit : IsInRange 48 57 (get_or w i 0) = grind rules in
    let large : 2 ^ 64 ≤ c.loop-b.value * 10 + (get_or w i 0 - 48) = grind rules in
    let no = too_large w i c.loop-b-test.true digit (let is = c.loop-b.invariant.0 in
    omega (arith, is, large)) in
    let none = sym (written_none 64 w no) in search rules

pub loop-b-preserved : goal.loop-b-preserved
loop-b-preserved c =
    let w = c.args.word.now in let i = c.loop-b.b-index in
    let digit : IsInRange 48 57 (get_or w i 0) = grind rules in
    let sum : c.in_ok-value.value ≡ c.loop-b.value * 10 + (get_or w i 0 - 48) = grind rules in
    let step = value_step w i c.loop-b-test.true digit in let is = c.loop-b.invariant.0 in (
      omega (arith, sum, step, is),
      digits_step w i c.loop-b-test.true digit c.loop-b.invariant.1,
      grind rules,
    )

pub returns : goal.returns
returns c =
    let w = c.args.word.now in
    let whole : take c.loop-b.b-index w ≡ w = take_all c.loop-b.b-index w c.loop-b-test.false in
    let is : c.loop-b.value ≡ digits_value 10 w = let h = c.loop-b.invariant.0 in rw whole at h in
    let digits : AllDigits 10 w = let h = c.loop-b.invariant.1 in rw whole at h in
    let some : 0 < length w = grind rules in
    let fits = c.loop-b.invariant.2 in
    ap Some is ∙ sym (written_some 64 w ((some, digits), omega (arith, is, fits)))
