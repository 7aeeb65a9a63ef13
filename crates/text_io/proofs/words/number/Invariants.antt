use Rattle.std.proofs.Common.{◌≡◌, ◌<◌, ◌^◌, take}
use Rattle.std.specs.Str.Parse.{AllDigits, digits_value}
use Rattle.text_io.proofs.words.number.Given as goal

abbrev pub invariant-loop-b : goal.invariant-loop-b
invariant-loop-b l =
    (l.value ≡ digits_value 10 (take l.b-index l.word)) × AllDigits 10 (take l.b-index l.word) ×
    (l.value < 2 ^ 64)
