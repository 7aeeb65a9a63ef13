-- Where the next move of a process is in the journal.
use Rattle.std.proofs.lemmas.Grind.{common_steps}
use Rattle.std.proofs.Common.{arith, ◌≡◌, inl, inr, ℕ, ◌==◌, List, [], ◌∷◌, ◌++◌, refl, ap, sym, ◌∙◌, subst, append_assoc, Vec, Global}
use Rattle.std.specs.List.{All}
use Rattle.std.proofs.lemmas.List.{append_cancel_right}
use Rattle.std.proofs.lemmas.List.Elements.{filter-append}
use Rattle.fast_mutex.specs.Items.{items_of}
use Rattle.mq.specs.Calls.{author}
use Rattle.mq_model.specs.Record.{Past, Record}
use Rattle.script_orders.specs.Progress.{Progress}
use Rattle.script_orders.specs.declared.plan.Planned.{Planned}
use Rattle.schedules.proofs.Backing.{all-front}
use Rattle.script_laws.proofs.Course.{Course, Goes, Move}
use Rattle.script_laws.proofs.Joins.{two-ends, by-last, same-last, all-last, both-empty, owns-last}

-- the journal from which a course begins is an earlier state of the one to which it leads
pub course-end : (p phase : ℕ) (program : Vec Planned Global) (to : Past) (end : Progress)
    (moves : List Move) (from : Past) (progress : Progress) →
    Course p phase program to end moves from progress → (more : Past) × (to ≡ more ++ from)
course-end p phase program to end [] from progress course = (course.1.behind, course.1.is)
course-end p phase program to end (move ∷ moves) from progress course =
    let rest = course-end p phase program to end moves (move.own ++ move.found)
    move.next course.1 in
    let others = course.0.others in
    let found : move.own ++ move.found ≡ (move.own ++ others.behind) ++ from =
    ap (λ (l : Past). move.own ++ l) others.is ∙
    sym (append_assoc move.own others.behind from) in (
      rest.0 ++ (move.own ++ others.behind),
      rest.1 ∙ (ap (λ (l : Past). rest.0 ++ l) found ∙
          sym (append_assoc rest.0 (move.own ++ others.behind) from)),
    )

-- what follows the journal from which the course begins: the records that others add first, those
-- of the move, and more
pub first-move : (p phase : ℕ) (program : Vec Planned Global) (to : Past) (end : Progress)
    (move : Move) (moves : List Move) (from : Past) (progress : Progress)
    (course : Course p phase program to end (move ∷ moves) from progress) →
    (more : Past) × (to ≡ ((more ++ move.own) ++ course.0.others.behind) ++ from)
first-move p phase program to end move moves from progress course =
    grind (arith, course-end, append_assoc)

-- if p's records `own` come first, q's next move is found after them
pub found-behind : (p q : ℕ) → (q ≡ p → ⊥) → (a own c mine others : Past) →
    All (λ r. author r ≡ p) own → All (λ r. author r ≡ q) mine → (mine ≡ [] → ⊥) →
    a ++ own ≡ (c ++ mine) ++ others → (w : Past) × (others ≡ w ++ own)
found-behind p q differ a own c mine others by_p by_q some h =
    elim (two-ends a (c ++ mine) own others h) [
      | inl e ↦ elim (by-last e.0) [
        | inl z ↦ ([], sym (e.1 ∙ ap (λ (l : Past). l ++ others) z))
        | inr z ↦ elim (by-last mine) [
          | inl n ↦ absurd (some n)
          | inr n ↦
              let sides : (c ++ n.0) ++ n.1 ∷ [] ≡ (a ++ z.0) ++ z.1 ∷ [] =
              append_assoc c n.0 (n.1 ∷ []) ∙ (rw (n.2, z.2) at e.2) ∙
              sym (append_assoc a z.0 (z.1 ∷ [])) in
              let same : n.1 ≡ z.1 = same-last (c ++ n.0) (a ++ z.0) n.1 z.1 sides in
              let q_is : author n.1 ≡ q = all-last (λ r. author r ≡ q) n.0 n.1
              (subst (λ (l : Past). All (λ r. author r ≡ q) l) n.2 by_q) in
              let front : All (λ r. author r ≡ p) e.0 = all-front (λ r. author r ≡ p) e.0 own
              others e.1 by_p in
              let p_is : author z.1 ≡ p = all-last (λ r. author r ≡ p) z.0 z.1
              (subst (λ (l : Past). All (λ r. author r ≡ p) l) z.2 front) in
              absurd (differ (sym q_is ∙ (ap (λ (r : Record). author r) same ∙ p_is)))
        ]
      ]
      | inr e ↦ (e.0, e.1)
    ]

-- p adds its records first: q's course continues from there
pub course-goes-on : (p q phase : ℕ) (program : Vec Planned Global) (to : Past) (end : Progress)
    (moves : List Move) (from : Past) (progress : Progress) (a own : Past) → (q ≡ p → ⊥) →
    All (λ r. author r ≡ p) own → to ≡ (a ++ own) ++ from →
    ((move : Move) (rest : List Move) → moves ≡ move ∷ rest → move.own ≡ [] → ⊥) →
    Course q phase program to end moves from progress →
    Course q phase program to end moves (own ++ from) progress
course-goes-on p q phase program to end [] from progress a own differ by_p at none course =
    grind (arith, common_steps, append_cancel_right, both-empty, filter-append)
course-goes-on p q phase program to end (move ∷ moves) from progress a own differ by_p
    at none course =
    let others = course.0.others in
    let first = first-move q phase program to end move moves from progress course in
    let joined : a ++ own ≡ (first.0 ++ move.own) ++ others.behind = append_cancel_right (a ++ own)
    ((first.0 ++ move.own) ++ others.behind) from (sym at ∙ first.1) in
    let behind = found-behind p q differ a own first.0 move.own others.behind by_p course.0.mine
    (λ e. none move moves refl e) joined in
    let no_own : items_of author q (behind.0 ++ own) ≡ [] = ap (λ (l : Past). items_of author q l)
    (sym behind.1) ∙ others.mine in
    let parts = both-empty (items_of author q behind.0) (items_of author q own)
    (sym (filter-append (λ r. author r == q) behind.0 own) ∙ no_own) in
    let goes : Goes q phase program move (own ++ from) progress = record {
      others = record {
        behind = behind.0;
        is = others.is ∙ (ap (λ (l : Past). l ++ from) behind.1 ∙
            append_assoc behind.0 own from);
        mine = parts.0;
      };
      mine = course.0.mine;
      eager = λ e. absurd (none move moves refl e);
      turn = course.0.turn;
    }
    in
    (goes, course.1)

-- if the record of a process directly follows the journal, its next move is found there
pub found-here : (p : ℕ) (ys x others : Past) (r : Record) → author r ≡ p →
    items_of author p others ≡ [] → ys ++ r ∷ [] ≡ x ++ others → others ≡ []
found-here p ys x others r is none h =
    elim (by-last others) [
      | inl z ↦ z
      | inr z ↦
          let sides : ys ++ r ∷ [] ≡ (x ++ z.0) ++ z.1 ∷ [] = h ∙ (ap (λ (l : Past). x ++ l) z.2 ∙
          sym (append_assoc x z.0 (z.1 ∷ []))) in
          let same : r ≡ z.1 = same-last ys (x ++ z.0) r z.1 sides in
          absurd (owns-last author p z.0 z.1 (ap (λ (s : Record). author s) (sym same) ∙ is)
          (ap (λ (l : Past). items_of author p l) (sym z.2) ∙ none))
    ]
