use Rattle.std.proofs.Common.{ℕ, ◌≡◌, List, [], ◌∷◌, refl, ap, ◌∙◌, reverse}
use Rattle.std.proofs.lemmas.List.{reverse-append}
use Rattle.fast_mutex.specs.Items.{Ticket}
use Rattle.fast_mutex.proofs.Stays.{adds_one, grows_one}
use Rattle.tests_library.proofs.locks.add.Goals as goal

pub leave-requires-clause-grows : goal.leave-requires-clause-grows
leave-requires-clause-grows g c =
    let x : ℕ × ℕ = (c.number-number.result, c.args.value) in
    let before : List (ℕ × ℕ) = c.enter-inside.result.1.items.items in
    let more : reverse c.push.new.self.items ≡ x ∷ reverse before =
    ap reverse c.in-Ok.ensures.items ∙ reverse-append before (x ∷ []) in
    adds_one (λ z. z.0) (g.L.Lock.ticket c.args.seat) _ _ _ x c.enter-inside.ensures.stay more
    c.number-number.ensures

pub returns-in-Ok-clause-added : goal.returns-in-Ok-clause-added
returns-in-Ok-clause-added g c =
    let x : ℕ × ℕ = (c.number-number.result, c.args.value) in
    let before : List (ℕ × ℕ) = c.enter-inside.result.1.items.items in
    let more : reverse c.push.new.self.items ≡ x ∷ reverse before =
    ap reverse c.in-Ok.ensures.items ∙ reverse-append before (x ∷ []) in
    let own : x ∷ reverse before ≡ ((g.L.Lock.ticket c.args.seat).number, c.args.value) ∷
    reverse before = ap (λ (n : ℕ). (n, c.args.value) ∷ reverse before)
    c.number-number.ensures in
    grows_one (λ z. z.0) _ _ _ _ _ c.enter-inside.ensures.grows
    (ap (λ (t : Ticket (ℕ × ℕ)). t.left) c.leave.ensures.ticket ∙ more ∙ own) refl
