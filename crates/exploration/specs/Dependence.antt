-- Which steps are dependent.
use Rattle.std.specs.Prelude.{Bool, true, false, ◌&&◌, ◌||◌, ◌==◌, ◌+◌, not, nat_le, List, length}
use Rattle.std.specs.List.{list_all}
use Rattle.exploration.specs.declared.kind.Kind.{Kind}
use Rattle.exploration.specs.declared.kind.Kind.TheVariants as kind
use Rattle.exploration.specs.declared.deed.Effect.{Effect}
use Rattle.exploration.specs.declared.deed.Deed.{Deed}

abbrev pub is_exit : Kind → Bool
is_exit kind.Exit = true
is_exit _ = false

-- a call that may bind a name, unbind it, or end a queue
abbrev pub is_on_names : Kind → Bool
is_on_names kind.Open = true
is_on_names kind.Close = true
is_on_names kind.Unlink = true
is_on_names _ = false

abbrev pub is_send : Kind → Bool
is_send kind.Send = true
is_send _ = false

abbrev pub is_receive : Kind → Bool
is_receive kind.Receive = true
is_receive _ = false

-- a half of a wait on a condition variable
abbrev pub is_wait : Kind → Bool
is_wait kind.Register = true
is_wait kind.Wake = true
is_wait _ = false

abbrev pub tells_time : Kind → Bool
tells_time kind.Clock = true
tells_time _ = false

-- a send and a receive that are independent: the receive takes an older message of the same or a
-- higher priority, and does not make the room that the send needs
abbrev pub passes : Effect → Effect → Bool
passes s r =
    is_send s.kind && is_receive r.kind && not (s.message == 0) && not (r.message == 0)
    && not (s.message == r.message) && nat_le s.priority r.priority
    && not (s.number == r.number + r.room)

-- Two effects on the same object that commute: both only read it, or they are independent as above,
-- or both are halves of waits.
abbrev pub commute_on : Effect → Effect → Bool
commute_on x y =
    x.looks && y.looks
    || not x.looks && not y.looks && (passes x y || passes y x)
    || is_wait x.kind && is_wait y.kind

abbrev pub commute : Effect → Effect → Bool
commute x y = not (x.object == y.object) || commute_on x y

abbrev pub is_apart : Effect → List Effect → Bool
is_apart x effects = list_all (λ y. commute x y) effects

abbrev pub are_apart : List Effect → List Effect → Bool
are_apart xs ys = list_all (λ x. is_apart x ys) xs

-- both create threads, which are numbered in the order of their creation
abbrev pub both_create : Deed → Deed → Bool
both_create a b = not (length a.created.items == 0) && not (length b.created.items == 0)

-- one reads a time that the other ends
abbrev pub share_time : Deed → Deed → Bool
share_time a b = tells_time a.kind && b.is_late || tells_time b.kind && a.is_late

-- one of the steps depends on all others, or both are about names, the creation of threads or the
-- time
abbrev pub are_bound : Deed → Deed → Bool
are_bound a b =
    a.stands_still || b.stands_still || is_exit a.kind || is_exit b.kind
    || is_on_names a.kind && is_on_names b.kind || both_create a b || share_time a b

-- steps of two threads that are not bound to each other, where each effect of one commutes with
-- each of the other
abbrev pub are_independent : Deed → Deed → Bool
are_independent a b =
    not (a.choice.thread == b.choice.thread) && not (are_bound a b)
    && are_apart a.effects.items b.effects.items
