use Rattle.std.proofs.Common.{◌≡◌, ◌++◌, [], ◌∷◌, ℕ, List, append_assoc, codes, ap, refl, ◌∙◌}
use Rattle.std.specs.Fmt.{decimal}
use Rattle.text_io.specs.Words.{words_of}
use Rattle.script_orders.specs.Waiting.{line_numbered, spaced, wait_text}
use Rattle.script_orders.proofs.waiting.wait_text.Goals as goal

-- the parts of the text, one after another
joined : (head script text end : List ℕ) (number : ℕ) →
    head ≡ codes "line " ++ (decimal number ++ codes ": waits for ever:") →
    text ≡ head ++ spaced (words_of (line_numbered script number)) → end ≡ text ++ 10 ∷ [] →
    end ≡ wait_text script number
joined head script text end number first then last =
    let words : List ℕ = spaced (words_of (line_numbered script number)) in
    rw (last, then, first)
    (append_assoc (codes "line " ++ (decimal number ++ codes ": waits for ever:")) words (10 ∷ [])
    ∙ ap (λ (t : List ℕ). codes "line " ++ t) (append_assoc (decimal number)
    (codes ": waits for ever:") (words ++ 10 ∷ [])))

pub returns : goal.returns
returns c =
    let head : c.extend_from_slice.new.self.items ≡ codes "line " ++ (decimal c.args.number ++
    codes ": waits for ever:") =
    rw (
      c.in_ok-extend_from_slice.ensures.items,
      c.new-text.ensures.items,
      c.as_bytes.ensures.value,
      c.in_ok-head.ensures.ok,
    ) refl in
    joined c.extend_from_slice.new.self.items c.args.script.now c.push_spaced.new.text.items
    c.push.new.self.items c.args.number head
    (rw (
      c.in_ok-push_spaced.ensures,
      c.deref.ensures.value,
      c.in_ok-words.ensures,
      c.line_numbered.ensures,
    ) refl) c.in_ok-push.ensures.items
