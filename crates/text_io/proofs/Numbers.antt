-- Reading a number byte by byte.
use Rattle.std.proofs.Common.{◌≡◌, ◌<◌, ◌≤◌, ◌+◌, ◌*◌, ◌-◌, ◌^◌, ℕ, List, [], ◌∷◌, length, get_or, take, arith, refl, Some, None, Decides, ltb, inl, inr}
use Rattle.std.proofs.lemmas.Bool.Decides.{nat_tests}
use Rattle.std.proofs.lemmas.Bool.{cases_Bool}
use Rattle.std.specs.Char.{digit_value, IsNotAsciiDigit, is_ascii_digit}
use Rattle.std.specs.Int.{IsInRange}
use Rattle.std.specs.List.{list_all}
use Rattle.std.specs.Str.Parse.{AllDigits, IsNumeral, digits_value}
use Rattle.std.proofs.lemmas.Bool.Decides.{Decides-and, Decides-ltb}
use Rattle.std.proofs.lemmas.Str.{digit_value_digit}
use Rattle.std.proofs.lemmas.Str.Parse.{digit_at, digits_value-take-le, digit_from_value}
use Rattle.std.proofs.lemmas.Int.Digits.{digits_value_more, digits_more}
use Rattle.text_io.specs.Words.{is_number, number_written}

-- decimal digits, one or more, whose value fits k bits
abbrev pub IsNumber : ℕ → List ℕ → Type 0
IsNumber k word = IsNumeral 10 word × (digits_value 10 word < 2 ^ k)

digit-Decides : (c : ℕ) → Decides (is_ascii_digit c) (digit_value c < 10)
digit-Decides c = (
  λ yes. let digit : IsInRange 48 57 c = grind (arith, nat_tests) in let is =
      digit_value_digit c digit in omega (arith, is, digit.0, digit.1),
  λ low. let digit = digit_from_value c low in let least : 48 ≤ c = digit.0 in let most : c ≤ 57 =
      digit.1 in grind (arith, nat_tests),
)

digits-Decides : (w : List ℕ) → Decides (list_all is_ascii_digit w) (AllDigits 10 w)
digits-Decides [] = (λ _. tt, λ _. refl)
digits-Decides (c ∷ cs) = Decides-and (is_ascii_digit c) (list_all is_ascii_digit cs)
    (digit-Decides c) (digits-Decides cs)

number-Decides : (k : ℕ) (w : List ℕ) →
    Decides (is_number k w) ((0 < length w) × (AllDigits 10 w × (digits_value 10 w < 2 ^ k)))
number-Decides k w =
    Decides-and (ltb 0 (length w)) _ (Decides-ltb 0 (length w))
    (Decides-and (list_all is_ascii_digit w) _ (digits-Decides w)
    (Decides-ltb (digits_value 10 w) (2 ^ k)))

pub written_some : (k : ℕ) (w : List ℕ) → IsNumber k w →
    number_written k w ≡ Some (digits_value 10 w)
written_some k w is = rw ((number-Decides k w).1 (is.0.0, (is.0.1, is.1)))

pub written_none : (k : ℕ) (w : List ℕ) → ¬ (IsNumber k w) → number_written k w ≡ None
written_none k w other =
    elim (cases_Bool (is_number k w)) [
      | inl accepted ↦ let is = (number-Decides k w).0 accepted in
          absurd (other ((is.0, is.1.0), is.1.1))
      | inr refused ↦ rw refused
    ]

pub value_step : (w : List ℕ) (i : ℕ) → i < length w → IsInRange 48 57 (get_or w i 0) →
    digits_value 10 (take (i + 1) w) ≡ digits_value 10 (take i w) * 10 + (get_or w i 0 - 48)
value_step w i low digit =
    let more = digits_value_more 10 w i low in let is = digit_value_digit (get_or w i 0) digit in
    omega (arith, more, is, digit.0)

pub digits_step : (w : List ℕ) (i : ℕ) → i < length w → IsInRange 48 57 (get_or w i 0) →
    AllDigits 10 (take i w) → AllDigits 10 (take (i + 1) w)
digits_step w i low digit all =
    let is = digit_value_digit (get_or w i 0) digit in
    digits_more 10 w i low all (omega (arith, is, digit.0, digit.1))

pub too_large : (w : List ℕ) (i : ℕ) → i < length w → IsInRange 48 57 (get_or w i 0) →
    2 ^ 64 ≤ digits_value 10 (take i w) * 10 + (get_or w i 0 - 48) → ¬ (IsNumber 64 w)
too_large w i low digit large number =
    let step = value_step w i low digit in let part = digits_value-take-le 10 w (i + 1)
    (omega arith) in
    omega (arith, step, part, large, number.1)

pub no_digit : (w : List ℕ) (i : ℕ) → i < length w → IsNotAsciiDigit (get_or w i 0) →
    ¬ (IsNumber 64 w)
no_digit w i low other number = let digit = digit_at w i number.0.1 low in grind arith
