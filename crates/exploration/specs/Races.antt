-- Which dependent steps may also come in the other order.
use Rattle.std.specs.Prelude.{Bool, false, ◌&&◌, ◌||◌, ◌==◌, ◌+◌, ℕ, not, nat_le, List, Option, Some, None}
use Rattle.std.specs.List.{list_any}
use Rattle.exploration.specs.Dependence.{are_bound, commute, is_receive, is_send}
use Rattle.exploration.specs.Locks.{is_lock, is_rwunlock, is_unlock, is_write_lock}
use Rattle.exploration.specs.declared.deed.Effect.{Effect}
use Rattle.exploration.specs.declared.deed.Deed.{Deed}

-- an unlock that the other effect, a lock, had to wait for
abbrev pub frees : Effect → Effect → Bool
frees x y =
    not y.is_free
    && (is_unlock x.kind && is_lock y.kind || is_rwunlock x.kind && is_write_lock y.kind)

-- a send that a receive of its message had to wait for
abbrev pub brings : Effect → Effect → Bool
brings s r =
    is_send s.kind && is_receive r.kind && not s.looks && not r.looks && not r.is_free
    && not (s.message == 0) && s.message == r.message && r.older == 0

-- a receive whose room a send had to wait for
abbrev pub makes_room : Effect → Effect → Bool
makes_room r s =
    is_receive r.kind && is_send s.kind && not r.looks && not s.looks && not s.is_free
    && not (r.number == 0) && s.number == r.number + r.room && nat_le s.priority r.priority

abbrev pub lets : Effect → Effect → Bool
lets x y = frees x y || brings x y || makes_room x y

-- one of these effects is a lock of the object of the second that had to wait for the first
abbrev pub is_freed : Effect → Effect → List Effect → Bool
is_freed x y effects = list_any (λ z. z.object == y.object && frees x z) effects

-- an unlock, in a step with these effects, after a lock by the same step, which had to wait for the
-- first effect
abbrev pub comes_after : Effect → Effect → List Effect → Bool
comes_after x y effects = (is_unlock y.kind || is_rwunlock y.kind) && is_freed x y effects

abbrev pub races_with_any : Effect → List Effect → Bool
races_with_any x effects =
    list_any (λ y. not (commute x y) && not (lets x y) && not (comes_after x y effects)) effects

abbrev pub any_race : Deed → Deed → Bool
any_race a b = list_any (λ x. races_with_any x b.effects.items) a.effects.items

-- the first effect can only enable the second, which waits for it
abbrev pub only_lets : Effect → Effect → Bool
only_lets x y =
    not x.looks && not y.is_free
    && (is_send x.kind && is_receive y.kind && x.priority == 0
    || is_receive x.kind && is_send y.kind)

abbrev pub may_race_with_any : Effect → List Effect → Bool
may_race_with_any x effects =
    list_any (λ y. not (commute x y) && not (lets x y) && not (only_lets x y)) effects

abbrev pub any_race_if_made : Deed → Deed → Bool
any_race_if_made a b = list_any (λ x. may_race_with_any x b.effects.items) a.effects.items

-- one thread makes both, or one cannot be exchanged and not both are deadlines that pass
abbrev pub are_in_order : Deed → Deed → Bool
are_in_order a b =
    a.choice.thread == b.choice.thread
    || (a.stands_still || b.stands_still) && not (a.is_late && b.is_late)

abbrev pub is_at : Option ℕ → ℕ → Bool
is_at None place = false
is_at (Some cause) place = cause == place

-- the step at this index let the other go on
abbrev pub is_cause : Deed → ℕ → Bool
is_cause b place = is_at b.cause place

-- Dependent steps race if the later one may come first: neither is bound to its place, and not all
-- that makes them dependent is that the first let the other go on.
abbrev pub may_race : Deed → ℕ → Deed → Bool
may_race a place b =
    not (are_in_order a b) && (are_bound a b || not (is_cause b place) && any_race a b)

-- the same of a step that is not made yet
abbrev pub may_race_if_made : Deed → ℕ → Deed → Bool
may_race_if_made a place b =
    not (are_in_order a b) && (are_bound a b || not (is_cause b place) && any_race_if_made a b)
