-- Journals that grow.
use Rattle.std.proofs.Common.{◌≡◌, ℕ, ◌==◌, List, [], ◌∷◌, ◌++◌, refl, ap, sym, ◌∙◌, append_assoc, eq-eqb, arith}
use Rattle.std.specs.List.{All}
use Rattle.std.proofs.lemmas.List.Elements.{filter-append}
use Rattle.mq_model.specs.Record.{Record, Past}
use Rattle.mq_model.specs.declared.entries.Call.{Call}
use Rattle.mq_model.specs.declared.entries.Reply.{Reply}
use Rattle.fast_mutex.specs.Items.{Ticket, Grows, items_of}
use Rattle.mq.specs.Calls.{author, recorded, made, Calls}

-- one critical section after another
pub grows-on : {A : Type 0} {own : A → ℕ} {p : ℕ} {xs ys zs first second : List A} →
    Grows own p xs ys first → Grows own p ys zs second → Grows own p xs zs (second ++ first)
grows-on {A} {own} {p} {xs} {ys} {zs} {first} {second} g h = record {
  behind = h.behind ++ g.behind;
  is = h.is ∙ (ap (λ (l : List A). h.behind ++ l) g.is ∙ sym (append_assoc h.behind g.behind xs));
  mine = filter-append (λ x. own x == p) h.behind g.behind ∙
      (ap (λ (l : List A). l ++ items_of own p g.behind) h.mine ∙ ap (λ (l : List A). second ++
      l) g.mine);
}

pub own-recorded : (p : ℕ) (call : Call) (given : List ℕ) (reply : Reply) →
    items_of author p (recorded p call given reply ∷ []) ≡ recorded p call given reply ∷ []
own-recorded p call given reply = rw (eq-eqb p p refl) refl

-- what a call adds is its process's own
pub own-made : (p : ℕ) (call : Call) (given : List ℕ) (reply : Reply) →
    items_of author p (made p call given reply) ≡ made p call given reply
own-made p call given reply = grind arith

pub all-made : (p : ℕ) (call : Call) (given : List ℕ) (reply : Reply) →
    All (λ x. author x ≡ p) (made p call given reply)
all-made p call given reply = grind arith

pub calls-on : {old mid new : Ticket Record} {first : Past} (own : ℕ → Past) → Calls old mid first →
    Calls mid new (own mid.number) → Calls old new (own old.number ++ first)
calls-on {old} {mid} {new} {first} own a b = grind (arith, grows-on)
