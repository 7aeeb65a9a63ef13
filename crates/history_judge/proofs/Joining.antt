-- Words with a space between two.
use Rattle.std.proofs.lemmas.Grind.{common_steps}
use Rattle.std.proofs.Common.{◌≡◌, ◌<◌, ◌++◌, ℕ, List, [], ◌∷◌, length, arith, refl, ap, codes, append-nil, sym, ◌∙◌, Some}
use Rattle.std.specs.Fmt.{decimal}
use Rattle.std.specs.List.{join_with_byte}
use Rattle.text_io.specs.Words.{Word}
use Rattle.mq_model.specs.declared.entries.Reply.{Reply}
use Rattle.journal_format.specs.Text.{call_words, escaped, number_or, payload_text, payload_words, reply_words}
use Rattle.journal_format.proofs.WrittenLines.{join-more, call_some, reply_some}
use Rattle.history_judge.specs.Text.{end_of, line_text, message_of, result_words, spaced, written_reply}
use Rattle.history_judge.specs.declared.line.Called.{Called}

-- the words of a reply and a message after them
reply-parts : (rs : List Word) (message : List ℕ) → 0 < length rs →
    join_with_byte 32 (rs ++ payload_words message) ≡ join_with_byte 32 rs ++ payload_text message
reply-parts [] message some = absurd (omega arith)
reply-parts (r ∷ rs) [] some = ap (λ (ws : List Word). join_with_byte 32 ws) (append-nil (r ∷ rs)) ∙
    sym (append-nil (join_with_byte 32 (r ∷ rs)))
reply-parts (r ∷ rs) (b ∷ bytes) some = join-more r rs (34 ∷ escaped (b ∷ bytes) ++ 34 ∷ []) []

some-append : (rs ws : List Word) → 0 < length rs →
    spaced (rs ++ ws) ≡ 32 ∷ join_with_byte 32 (rs ++ ws)
some-append [] ws some = absurd (omega arith)
some-append (r ∷ rs) ws some = refl

pub result-parts : (reply : Reply) (message : List ℕ) → spaced (result_words (Some reply) message) ≡
    codes " " ++ (join_with_byte 32 (reply_words reply) ++ payload_text message)
result-parts reply message = grind (arith, some-append, reply_some, reply-parts)

pub ruleset result_parts = (result-parts)

parts : (process begin end : Word) (cs : List Word) (payload : List ℕ) (rs : List Word) →
    0 < length cs →
    join_with_byte 32 (process ∷ begin ∷ end ∷ cs ++ (payload_words payload ++ codes "->" ∷ rs)) ++
    10 ∷ [] ≡
    process ++
    (codes " " ++
    (begin ++
    (codes " " ++
    (end ++ (codes " " ++
    (join_with_byte 32 cs ++
    (payload_text payload ++ (codes " ->" ++ (spaced rs ++ codes "\n")))))))))
parts process begin end cs payload rs some = grind (arith, common_steps, join-more)

-- the line as the program puts it together
pub line_text-parts : (c : Called) → line_text c ≡
    decimal c.process ++
    (codes " " ++ (decimal c.operation.begin ++
    (codes " " ++ (number_or (codes "-") (end_of c.operation) ++ (codes " " ++
    (join_with_byte 32 (call_words c.operation.call) ++ (payload_text c.operation.given.items ++
    (codes " ->" ++
    (spaced (result_words (written_reply c.operation.outcome) (message_of c.operation.outcome)) ++
    codes "\n")))))))))
unfolding line_text
line_text-parts c =
    parts (decimal c.process) (decimal c.operation.begin)
    (number_or (codes "-") (end_of c.operation)) (call_words c.operation.call)
    c.operation.given.items (result_words (written_reply c.operation.outcome)
    (message_of c.operation.outcome)) (call_some c.operation.call)

pub ruleset line_parts = (line_text-parts)
