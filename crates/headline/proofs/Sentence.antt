-- At most one seat is inside, and turns add up.
use Rattle.std.proofs.Common.{◌≡◌, ◌≤◌, ◌+◌, ℕ, Bool, true, false, List, [], ◌∷◌, Option as Opt, sym, ap, ◌∙◌, subst, append-nil, arith}
use Rattle.std.specs.Prelude.{Option}
use mathlib.Core.Logic.{dite}
use native.Mathlib.Decide.{ℕ_discrete}
use Rattle.lamport_core.specs.declared.At.{At}
use Rattle.lamport_core.proofs.Along.{one_inside_at}
use Rattle.atomic_table.specs.Table.{State}
use Rattle.fast_mutex.specs.Items.{Ticket, Grows}
use Rattle.fast_mutex.specs.Seats.{times, Claim}
use Rattle.fast_mutex.specs.Fast.{KeepsRule, Stands, is_inside}
use Rattle.fast_mutex.specs.declared.seats.About.{About}
use Rattle.fast_mutex.specs.declared.fast.view.View.{View}
use Rattle.fast_mutex.proofs.FastWorld.{inside_point}
use Rattle.fast_mutex.proofs.Sums.{two_in_sum, times_here}
use Rattle.mq_model.specs.Record.{Record, Past}
use Rattle.mq_model.specs.declared.entries.Call.{Call}
use Rattle.mq_model.specs.declared.entries.Call.TheVariants.{MqReceive, MqTimedReceive}
use Rattle.mq_model.specs.declared.entries.Reply.{Reply}
use Rattle.mq.specs.Calls.{author, made, Calls}
use Rattle.mq.specs.Kinds.{IsCall}
use Rattle.mq.proofs.Growing.{grows-on}
use Rattle.headline.specs.Headline.{AtMostOneInside, Turn, AreTurns, own_records, IsHeadline}

module _ {S I : Type 0} (shows : S → List I) (fixes : S → List ℕ) (author : I → ℕ) (answered : ℕ →
    List I → Bool) (about : About S) where
  -- a seat that is inside has the claim of a process that is
  inside-claim : (at : ℕ → At) (p : At) (cs : List (Claim I)) →
      Stands shows fixes author answered about at p cs → is_inside p ≡ true →
      (k : ℕ) × (is_inside (at k) ≡ true) × (1 ≤ times k cs)
  inside-claim at p [] stands inside = let out : true ≡ false = sym inside ∙ ap is_inside stands in
      absurd (cc)
  inside-claim at p (c ∷ cs) stands inside =
      let is : is_inside (at c.0) ≡ true = ap is_inside stands.0 ∙ inside in
      let h : times c.0 (c ∷ cs) ≡ 1 + times c.0 cs = times_here c.0 c.1 cs in
      (c.0, is, omega arith)

  -- two seats that are inside have the claim of one process, which one seat has
  pub one-inside : (s : State (Opt S) (View I)) → KeepsRule shows fixes author answered about s →
      AtMostOneInside s
  one-inside s r a b v w at_a at_b in_a in_b =
      let x = inside-claim r.at v.at v.claims (r.seats a v at_a).stands in_a in
      let y = inside-claim r.at w.at w.claims (r.seats b w at_b).stands in_b in
      let same : y.0 ≡ x.0 = one_inside_at about.count r.world.x r.world.y _ r.at
      r.world.safe y.0 x.0
      (inside_point (r.at y.0) y.1) (inside_point (r.at x.0) x.1) in
      let first : 1 ≤ times x.0 v.claims = x.2 in
      let second : 1 ≤ times x.0 w.claims = subst (λ k. 1 ≤ times k w.claims) same y.2 in
      let once = r.once x.0 in
      dite (ℕ_discrete a b) (λ e. e)
      (λ ne. let two = two_in_sum (λ (u : View I). times x.0 u.claims) s.views a b v
      w ne at_a at_b in
      absurd (omega arith))

-- turns add up to what one call promises
turns-call : (first : Ticket Record) (t : Turn) (turns : List Turn) → AreTurns first (t ∷ turns) →
    Calls first t.left (own_records (t ∷ turns))
turns-call first t [] are = subst (λ own. Calls first t.left own) (sym (append-nil t.own)) are.0
turns-call first t (u ∷ turns) are =
    let before = turns-call first u turns are.1 in
    let now = are.0 in
    record {
      lock = now.lock ∙ before.lock;
      number = now.number ∙ before.number;
      legal = now.legal;
      grows = grows-on before.grows
          (subst (λ p. Grows author p u.left.left t.left.left t.own) before.number now.grows);
    }

pub is-headline : (first : Ticket Record) (t : Turn) (turns : List Turn) →
    AreTurns first (t ∷ turns) → IsHeadline first t.left (own_records (t ∷ turns))
is-headline first t turns are =
    let calls = turns-call first t turns are in
    record {
      history = calls.legal;
      since = calls.grows.behind;
      begins = calls.grows.is;
      each_once = calls.grows.mine;
    }

-- a call of any kind is a turn that adds its record
pub is-turn : {R : Type 0} (says : Past → Reply → Option R) (old new : Ticket Record) (call : Call)
    (given before after : List ℕ) (result : R) →
    IsCall says old new call given before after result →
    (reply : Reply) × (bytes : List ℕ) × Calls old new (made old.number call bytes reply)
is-turn says old new (MqReceive d room) given before after result is = (is.reply, [], is.calls)
is-turn says old new (MqTimedReceive d room until now) given before after result is =
    (is.reply, [], is.calls)
is-turn says old new call given before after result is = (is.reply, given, is.calls)
