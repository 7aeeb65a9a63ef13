-- A lock that could be made where an unlock could races with it.
use Rattle.std.proofs.Common.{◌≡◌, Bool, true, false, ◌&&◌, ◌||◌, not, List, arith, eq-eqb}
use Rattle.std.specs.List.{Contains, list_any}
use Rattle.std.proofs.lemmas.List.Folds.{list_any_at}
use Rattle.exploration.specs.Dependence.{commute}
use Rattle.exploration.specs.Locks.{Lock, are_on_lock, can_lock, can_unlock, is_rwunlock, is_unlock}
use Rattle.exploration.specs.Races.{comes_after, is_freed, lets, may_race_with_any, only_lets, races_with_any}
use Rattle.exploration.specs.declared.deed.Effect.{Effect}

-- what one element passes, some element of the list passes
one-of : {X : Type 0} (p : X → Bool) (xs : List X) (x : X) → Contains xs x → p x ≡ true →
    list_any p xs ≡ true
one-of {X} p xs x (k, within, at) e = grind (arith, list_any_at)

clash : (lock : Lock) (x y : Effect) → x.object ≡ y.object → x.looks ≡ false →
    are_on_lock x y ≡ true →
    can_unlock lock x.kind ≡ true → can_lock lock y ≡ true → (not (commute x y) && not (lets x y)) ≡
    true
clash lock x y same changes on unlocks locks = grind (arith, eq-eqb)

-- such a lock is no unlock
is-no-unlock : (x y : Effect) → are_on_lock x y ≡ true → (is_unlock y.kind || is_rwunlock y.kind) ≡
    false
is-no-unlock x y on = grind (arith, eq-eqb)

all-three : (a b c d : Bool) → (not a && not b) ≡ true → c ≡ false →
    (not a && not b && not (c && d)) ≡ true
all-three a b c d first second = grind arith

pub locks-race : (lock : Lock) (xs ys : List Effect) (x y : Effect) → Contains xs x →
    Contains ys y →
    x.object ≡ y.object → x.looks ≡ false → are_on_lock x y ≡ true →
    can_unlock lock x.kind ≡ true → can_lock lock y ≡ true →
    list_any (λ x. races_with_any x ys) xs ≡ true
locks-race lock xs ys x y in_xs in_ys same changes on unlocks locks =
    one-of (λ x. races_with_any x ys) xs x in_xs
    (one-of (λ y. not (commute x y) && not (lets x y) && not (comes_after x y ys)) ys y in_ys
    (all-three (commute x y) (lets x y) (is_unlock y.kind || is_rwunlock y.kind) (is_freed x y ys)
    (clash lock x y same changes on unlocks locks) (is-no-unlock x y on)))

clash-if-made : (lock : Lock) (x y : Effect) → x.object ≡ y.object → x.looks ≡ false →
    are_on_lock x y ≡ true →
    can_unlock lock x.kind ≡ true → can_lock lock y ≡ true →
    (not (commute x y) && not (lets x y) && not (only_lets x y)) ≡ true
clash-if-made lock x y same changes on unlocks locks = grind (arith, eq-eqb)

pub locks-may-race : (lock : Lock) (xs ys : List Effect) (x y : Effect) → Contains xs x →
    Contains ys y →
    x.object ≡ y.object → x.looks ≡ false → are_on_lock x y ≡ true →
    can_unlock lock x.kind ≡ true → can_lock lock y ≡ true →
    list_any (λ x. may_race_with_any x ys) xs ≡ true
locks-may-race lock xs ys x y in_xs in_ys same changes on unlocks locks =
    one-of (λ x. may_race_with_any x ys) xs x in_xs
    (one-of (λ y. not (commute x y) && not (lets x y) && not (only_lets x y)) ys y in_ys
    (clash-if-made lock x y same changes on unlocks locks))
