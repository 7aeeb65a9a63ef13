-- Lists that have grown, split at the items of one process.
use Rattle.std.proofs.Common.{◌≡◌, ℕ, List, [], ◌∷◌, ◌++◌, refl, ap, sym, ◌∙◌, eqb, eq-eqb}
use Rattle.std.specs.List.{All}
use Rattle.std.proofs.lemmas.List.Elements.{All-head, All-tail}
use Rattle.mq_model.proofs.Places.{split}
use Rattle.fast_mutex.specs.Items.{Grows, items_of}

module _ {I : Type 0} (author : I → ℕ) where
  pub grows-none : (p : ℕ) (xs : List I) → Grows author p xs xs []
  grows-none p xs = record { behind = []; is = refl; mine = refl }

  before-own : (p : ℕ) (own before found behind : List I) → All (λ x. author x ≡ p) own →
      own ++ found ≡ behind ++ before → items_of author p behind ≡ own →
      Grows author p before found []
  before-own p [] before found behind mine is own_is = record {
    behind = behind;
    is = is;
    mine = own_is;
  }
  before-own p (x ∷ own) before found [] mine is own_is = let bad : [] ≡ x ∷ own = own_is in
      absurd (cc)
  before-own p (x ∷ own) before found (y ∷ behind) mine is own_is =
      let same : x ≡ y = cc in
      let rest : own ++ found ≡ behind ++ before = cc in
      let first : author y ≡ p = ap author (sym same) ∙ All-head (λ (x : I). author x ≡
      p) x own mine in
      let all : y ∷ items_of author p behind ≡ x ∷ own = rw (eq-eqb (author y) p first) at own_is in
      let tail : items_of author p behind ≡ own = cc in
      before-own p own before found behind (All-tail (λ (x : I). author x ≡ p) x own mine) rest tail

  -- the items added before a process's own are those of others
  pub grows-before : (p : ℕ) (own before found : List I) → All (λ x. author x ≡ p) own →
      Grows author p before (own ++ found) own → Grows author p before found []
  grows-before p own before found mine g = before-own p own before found g.behind mine g.is g.mine

  -- how a list has grown by one item of a process
  pub record Stands (p : ℕ) (x : I) (before after : List I) : Type 0 where
    pub found : List I
    pub others : Grows author p before found []
    pub later : Grows author p (x ∷ found) after []

  stands-by : (p : ℕ) (x : I) (before after behind : List I) → after ≡ behind ++ before →
      items_of author p behind ≡ x ∷ [] → Stands p x before after
  stands-by p x before after [] is own_is = let bad : [] ≡ x ∷ [] = own_is in absurd (cc)
  stands-by p x before after (y ∷ behind) is own_is = split (eqb (author y) p)
      (λ own.
      let all : y ∷ items_of author p behind ≡ x ∷ [] = rw own at own_is in
      let same : y ≡ x = cc in
      record {
        found = behind ++ before;
        others = record { behind = behind; is = refl; mine = cc };
        later = record {
          behind = [];
          is = is ∙ ap (λ (z : I). z ∷ (behind ++ before)) same;
          mine = refl;
        };
      })
      (λ other.
      let rest : items_of author p behind ≡ x ∷ [] = rw other at own_is in
      let s = stands-by p x before (behind ++ before) behind refl rest in
      record {
        found = s.found;
        others = s.others;
        later = record {
          behind = y ∷ s.later.behind;
          is = is ∙ ap (λ (l : List I). y ∷ l) s.later.is;
          mine = rw other s.later.mine;
        };
      })

  pub stands : (p : ℕ) (x : I) (before after : List I) → Grows author p before after (x ∷ []) →
      Stands p x before after
  stands p x before after g = stands-by p x before after g.behind g.is g.mine
