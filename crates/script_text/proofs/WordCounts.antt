-- Words in a number that no call has.
use Rattle.std.proofs.lemmas.Grind.{common_steps}
use Rattle.std.proofs.Common.{◌≡◌, ◌<◌, ◌≤◌, ◌≢◌, List, [], ◌∷◌, length, map, refl, arith, None, Bor}
use Rattle.text_io.specs.Words.{Word}
use Rattle.script_text.specs.Grammar.{open_written, attr_written, timed_send_written, timed_receive_written, until_written}
use Rattle.script_text.specs.Script.{clock_written}

-- the words that references point to
abbrev pub words_at : List (Bor Word) → List Word
words_at words = map (λ word. word.now) words

pub open_none : (words : List (Bor Word)) → length words < 2 → None ≡ open_written (words_at words)
open_none (_ ∷ _ ∷ words) few = absurd (omega arith)
open_none _ few = refl

pub attr_none : (words : List (Bor Word)) → length words ≢ 0 → length words ≢ 2 →
    None ≡ attr_written (words_at words)
attr_none words some other = grind (arith, common_steps)

pub timed_send_none : (words : List (Bor Word)) → length words < 4 →
    None ≡ timed_send_written (words_at words)
timed_send_none (_ ∷ _ ∷ _ ∷ _ ∷ words) few = absurd (omega arith)
timed_send_none _ few = refl

pub timed_receive_none : (words : List (Bor Word)) → length words < 2 →
    None ≡ timed_receive_written (words_at words)
timed_receive_none (_ ∷ _ ∷ words) few = absurd (omega arith)
timed_receive_none _ few = refl

pub until_few : (words : List (Bor Word)) → length words < 2 → None ≡ until_written (words_at words)
until_few words few = grind (arith, common_steps)

pub until_many : (words : List (Bor Word)) → 3 ≤ length words →
    None ≡ until_written (words_at words)
until_many words many = grind (arith, common_steps)

pub clock_none : (words : List (Bor Word)) → length words ≢ 3 →
    None ≡ clock_written (words_at words)
clock_none (_ ∷ _ ∷ _ ∷ []) other = absurd (other refl)
clock_none _ other = refl
