-- Numbers that were written are read again.
use Rattle.std.proofs.Common.{◌≡◌, ◌<◌, ◌^◌, ℕ, ℤ, pos, negsuc, true, false, arith, refl, leb, suc, Some}
use Rattle.std.proofs.lemmas.Fmt.{decimal_is_IsNumeral}
use Rattle.std.proofs.lemmas.Str.Parse.{digit_at}
use Rattle.std.proofs.lemmas.Bool.Decides.{nat_tests}
use Rattle.std.specs.Fmt.{decimal, signed_decimal}
use Rattle.std.specs.Str.Parse.{starts_with_minus}
use Rattle.text_io.specs.Words.{number_written, integer_written}
use Rattle.text_io.proofs.Numbers.{written_some}
use Rattle.journal_format.specs.Fitting.{IsLong}

pub number_again : (k n : ℕ) → n < 2 ^ k → n < 2 ^ 64 → number_written k (decimal n) ≡ Some n
number_again k n fits small = grind (arith, decimal_is_IsNumeral, written_some)

no_minus : (n : ℕ) → n < 2 ^ 64 → starts_with_minus (decimal n) ≡ false
no_minus n small = grind (arith, decimal_is_IsNumeral, digit_at)

pub integer_again : (z : ℤ) → IsLong z → integer_written (signed_decimal z) ≡ Some z
integer_again (pos n) fits =
    let small : n < 2 ^ 64 = omega (arith, fits) in
    rw (no_minus n small, number_again 63 n fits small) refl
integer_again (negsuc n) fits =
    let small : suc n < 2 ^ 64 = omega (arith, fits) in
    let most : leb (suc n) (2 ^ 63) ≡ true = grind (arith, nat_tests) in
    rw (number_again 64 (suc n) small small, most) refl
