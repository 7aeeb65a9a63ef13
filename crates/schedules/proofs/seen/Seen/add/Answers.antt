use Rattle.std.proofs.lemmas.Grind.{common_steps}
use Rattle.std.proofs.Common.{◌≡◌, ◌||◌, ℕ, ◌+◌, ◌≤◌, List, Bool, false, true, not, sym, ◌∷◌, ◌∙◌, refl, length, arith, ap}
use Rattle.std.specs.Bool.{MatchBool}
use Rattle.std.specs.Str.{bytes_eq}
use Rattle.std.specs.List.{list_any, sum_by}
use Rattle.std.specs.List.Sorted.{IsPermutation}
use Rattle.std.proofs.lemmas.List.Sorted.{length_permutation, list_any-IsPermutation, sum_by_pushed}
use Rattle.schedules.proofs.seen.Seen.add.Goals as goal

either : (a b : Bool) → b ≡ true → (a || b) ≡ true
either true b h = refl
either false b h = h

-- what passes a test after a key was put in
passes : {K : Type 0} (test : K → Bool) (old new : List K) (key : K) (added : Bool) →
    MatchBool added (IsPermutation (key ∷ old) new) (new ≡ old) → list_any test new ≡ true →
    (test key || list_any test old) ≡ true
passes test old new key true puts h = list_any-IsPermutation test (key ∷ old) new puts ∙ h
passes test old new key false same h = either (test key) (list_any test old) (rw same at h)

pub returns-then-branch-clause-noted : goal.returns-then-branch-clause-noted
returns-then-branch-clause-noted c other h =
    passes (λ k. bytes_eq other k.items) c.args.self.now.keys.keys c.insert.new.self.keys c.args.key
    c.in_ok-insert.field-0 c.in_ok-insert.ensures.keys h

-- the numbers that are kept grow by those of the key at most
grows : {K : Type 0} (f : K → ℕ) (old new : List K) (key : K) (added : Bool) →
    MatchBool added (IsPermutation (key ∷ old) new) (new ≡ old) →
    sum_by f new ≤ f key + sum_by f old
grows f old new key true puts = let e : sum_by f new ≡ f key + sum_by f old =
    sum_by_pushed f key old new puts in omega (arith, e)
grows f old new key false same = let e = ap (λ xs. sum_by f xs) same in omega (arith, e)

pub returns-then-branch-clause-bounded : goal.returns-then-branch-clause-bounded
returns-then-branch-clause-bounded c before = grind (arith, common_steps, grows)

-- a key that was not there was put in, so that it passes too
puts : {K : Type 0} (test : K → Bool) (old new : List K) (key : K) (added : Bool) → added ≡ true →
    MatchBool added (IsPermutation (key ∷ old) new) (new ≡ old) →
    list_any test new ≡ (test key || list_any test old)
puts test old new key true is put = sym (list_any-IsPermutation test (key ∷ old) new put)
puts test old new key false is put = absurd (cc)

-- and then there is one key more
counts-one : {K : Type 0} (old new : List K) (key : K) (added : Bool) → added ≡ true →
    MatchBool added (IsPermutation (key ∷ old) new) (new ≡ old) → length new ≡ length old + 1
counts-one old new key true is put = let e = length_permutation (key ∷ old) new put in
    omega (arith, e)
counts-one old new key false is put = absurd (cc)

pub returns-then-branch-clause-added : goal.returns-then-branch-clause-added
returns-then-branch-clause-added c none fits =
    let is : c.in_ok-insert.field-0 ≡ true = c.in_ok-insert.ensures.added ∙ ap not none in
    record {
      noted = λ other. puts (λ k. bytes_eq other k.items) c.args.self.now.keys.keys
          c.insert.new.self.keys c.args.key c.in_ok-insert.field-0 is c.in_ok-insert.ensures.keys;
      room = omega (arith, fits, c.len-numbers.ensures, c.if-numbers-self.false);
      count = counts-one c.args.self.now.keys.keys c.insert.new.self.keys c.args.key
          c.in_ok-insert.field-0 is c.in_ok-insert.ensures.keys;
    }
