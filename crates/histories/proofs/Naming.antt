-- The queue of a name, and the operations on it, in a linearization of what began by a time before
-- which nothing unbinds the name.
use Rattle.std.proofs.lemmas.Bool.Decides.{nat_tests}
use Rattle.std.proofs.Common.{◌≡◌, ℕ, ◌+◌, ◌≤◌, ◌<◌, ◌==◌, Bool, true, false, List, [], ◌∷◌, length, get_or, Option, Some, None, is_some, inl, inr, refl, sym, ◌∙◌, ap, subst, arith, eqb-true, eq-eqb, le-leb}
use Rattle.std.specs.Str.{bytes_eq}
use Rattle.std.proofs.lemmas.Bool.{cases_lt, eqb-false, lt-ltb}
use Rattle.std.proofs.lemmas.List.{get_or-set_other, get_or-set_same}
use Rattle.std.proofs.lemmas.Slice.Eq.{bytes_eq-Decides}
use Rattle.std.proofs.lemmas.Option.{slice_get_within}
use Rattle.mq_model.specs.Record.{Record, Past}
use Rattle.mq_model.specs.Threads.{shares}
use Rattle.mq_model.specs.Descriptors.{called_queue, created, descriptor_of, held, held_after, opened_queue}
use Rattle.mq_model.specs.Messages.{is_in}
use Rattle.mq_model.specs.Names.{bound_queue, creates, is_open, is_unlink, name_of, unlinks}
use Rattle.mq_model.specs.Waits.{is_wait, open_wait}
use Rattle.mq_model.specs.Legality.{IsLegalNext, payload_of, reply_to}
use Rattle.mq_model.specs.declared.entries.Attr.{Attr}
use Rattle.mq_model.specs.declared.entries.Call.{Call}
use Rattle.mq_model.specs.declared.entries.Call.TheVariants.{MqOpen, MqUnlink}
use Rattle.mq_model.specs.declared.entries.Description.{Description}
use Rattle.mq_model.specs.declared.entries.OpenFlags.{OpenFlags}
use Rattle.mq_model.specs.declared.entries.Reply.{Reply}
use Rattle.mq_model.specs.declared.entries.Reply.TheVariants as reply
use Rattle.mq_model.proofs.Cases.{Says}
use Rattle.mq_model.proofs.LegalReplies.{legal_says}
use Rattle.mq_model.proofs.Alive.{bound-name, name_of-newest, name_of-older, none-of}
use Rattle.mq_model.proofs.Frames.{created-below}
use Rattle.mq_model.proofs.HeldQueues.{after-cases, bound-created, created-held, created-more}
use Rattle.mq_model.proofs.OpenReplies.{OpenedFacts, lowest_free-is, opened-says}
use Rattle.mq_model.proofs.Mates.{shares_own}
use Rattle.mq_model.proofs.Places.{split}
use Rattle.mq_model.proofs.PresentFew.{called-created, created-cases}
use Rattle.histories.specs.OwnCalls.{ends_wait, made}
use Rattle.histories.specs.declared.operation.Operation.{Operation}
use Rattle.histories.specs.declared.operation.Outcome.{Outcome}
use Rattle.histories.specs.declared.operation.Outcome.TheVariants.{Done, Opened}
use Rattle.histories.specs.Histories.{Histories, completed, is_pending}
use Rattle.histories.specs.Linearizations.{ComesFrom, IsLinearization}
use Rattle.histories.specs.Outcomes.{fits, has_failed}
use Rattle.histories.specs.RealTime.{operation_at}
use Rattle.histories.specs.Named.{KeepsName, has_unlinked, is_marked, marks_opened, unbinds}
use Rattle.histories.proofs.Completing.{operations-of, added, completed-free, completed-other, completed-own, free, made-own}
use Rattle.histories.proofs.Cutting.{AreBegun, Ends, ends-older}
use Rattle.histories.proofs.Marking.{marks_at, marks_at-length, marks_at-next, none-has}
use Rattle.histories.proofs.RealTime.{completed-grows}
use Rattle.histories.proofs.Tracing.{IsCallAt, legal-linear, own-call}

-- opens -------------------------------------------------------------------------------------------

open-own : (call : Call) → is_open call ≡ true → ends_wait call ≡ false
open-own call e = grind arith

pub open-payload : (call : Call) (y : Reply) (given : List ℕ) → is_open call ≡ true →
    payload_of call y given ≡ given
open-payload call y given e = grind arith

-- an open that creates a queue found its name unbound
creates-unbound : (past : Past) (r : Record) → IsLegalNext past r →
    creates r.entry.call r.entry.reply ≡ true →
    (is_open r.entry.call ≡ true) × (bound_queue past r.payload ≡ None)
creates-unbound past r legal is = grind (arith, opened-says, none-of)

-- what a call does to the name --------------------------------------------------------------------

-- an operation that does not unbind the name
record Keeps (name : List ℕ) (o : Operation) : Type 0 where
  pub unlinks : has_unlinked name o ≡ false
  pub opens : is_open o.call ≡ true → is_pending o.outcome ≡ false

keeps : (time : ℕ) (name : List ℕ) (o : Operation) → o.begin ≤ time → unbinds time name o ≡ false →
    Keeps name o
keeps time name o begun stays = grind (arith, le-leb)

-- the operation of a record keeps the name
record-keeps : (time : ℕ) (name : List ℕ) (histories : Histories) (past : Past) (r : Record)
    (linear : IsLinearization histories (r ∷ past)) → linear.2.operation.begin ≤ time →
    KeepsName time name histories → Keeps name linear.2.operation
record-keeps time name histories past r linear begun stays =
    let from : ComesFrom histories past r = linear.2 in
    keeps time name from.operation begun (none-has (unbinds time name) histories from.index
    (completed past (from.index + 1)) from.operation stays.stays from.is)

-- which descriptors are of the queue --------------------------------------------------------------

-- each descriptor that one of 32 processes holds is marked if and only if its queue has this name
abbrev AreMarked : List ℕ → Histories → Past → Type 0
AreMarked name histories past =
    (index d : ℕ) (h : Description) → index + 1 ≤ 32 → held past (index + 1) d ≡ Some h →
    (d < 16) × (get_or (marks_at name histories index (completed past (index + 1))) d false ≡
    bytes_eq (name_of past h.queue) name)

-- an open showed its descriptor
opened-outcome : (past : Past) (d : ℕ) (new : Bool) (x : Outcome) →
    fits past (reply.Opened d new) x ≡ true → is_pending x ≡ false → x ≡ Opened d
opened-outcome past d new x fit pending = grind (arith, eqb-true)

-- such an outcome fits no other reply
shows-opened : (past : Past) (y : Reply) (d : ℕ) → fits past y (Opened d) ≡ true →
    (new : Bool) × (y ≡ reply.Opened d new)
shows-opened past y d fit = grind (arith, eqb-true)

-- only an open has this reply
opens-only : (past : Past) (p : ℕ) (call : Call) (payload : List ℕ) (d : ℕ) (new : Bool) →
    Says past p call (reply.Opened d new) → (flags : OpenFlags) × (attr : Option Attr) ×
    (call ≡ MqOpen flags attr)
opens-only past p call payload d new says = grind arith

-- the descriptor that an open returns was free
opened-free : (past : Past) (r : Record) → IsLegalNext past r → (d : ℕ) (new : Bool) →
    r.entry.reply ≡ reply.Opened d new → (held past r.entry.process d ≡ None) × (d < 16) ×
    OpenedFacts past r.entry.process r.payload d new
opened-free past r legal d new is =
    let says : Says past r.entry.process r.entry.call (reply.Opened d new) =
    subst (λ (y : Reply). Says past r.entry.process r.entry.call y) is
    (legal_says past r legal) in
    let opens = opens-only past r.entry.process r.entry.call r.payload d new says in
    let answered : reply.Opened d new ≡ reply_to past r.entry.process (MqOpen opens.0 opens.1)
    r.payload = sym is ∙ legal.reply ∙ ap (λ (c : Call). reply_to past r.entry.process c
    r.payload) opens.2 in
    let facts = opened-says past r.entry.process opens.0 opens.1 r.payload d new answered in
    let free = lowest_free-is past r.entry.process d facts.free in
    (none-of (held past r.entry.process d) free.0, free.1, facts)

marked-other : (name given : List ℕ) (marks : List Bool) (e d : ℕ) → (d ≡ e → ⊥) →
    get_or (marks_opened name marks given (Opened e)) d false ≡ get_or marks d false
marked-other name given marks e d apart = grind (arith, get_or-set_other)

marked-same : (name given : List ℕ) (marks : List Bool) (d : ℕ) → length marks ≡ 16 → d < 16 →
    get_or (marks_opened name marks given (Opened d)) d false ≡ bytes_eq given name
marked-same name given marks d long few = grind (arith, lt-ltb, get_or-set_same)

-- what is held before a record of its process stays marked as it was
marked-older : (name : List ℕ) (histories : Histories) (past : Past) (r : Record)
    (linear : IsLinearization histories (r ∷ past)) (d : ℕ) (k : Description) →
    held past (linear.2.index + 1) d ≡ Some k →
    get_or (marks_at name histories linear.2.index (completed (r ∷ past) (linear.2.index + 1))) d
    false ≡ get_or (marks_at name histories linear.2.index
    (completed past (linear.2.index + 1))) d false
marked-older name histories past r linear d k was =
    let from : ComesFrom histories past r = linear.2 in
    let n : ℕ = completed past (from.index + 1) in
    let grows = completed-grows past r (from.index + 1) linear.1 in
    let most = completed-own past r (from.index + 1) from.process linear.1 in
    elim (cases_lt n (completed (r ∷ past) (from.index + 1))) [
      | inl more ↦
          let number : completed (r ∷ past) (from.index + 1) ≡ n + 1 =
          omega (arith, most, more, added-few r.entry.reply) in
          ap (λ (j : ℕ). get_or (marks_at name histories from.index j) d false) number
          ∙ ap (λ (m : List Bool). get_or m d false) (marks_at-next name histories from.index n
          from.operation from.is)
          ∙ by from.operation.outcome refl
      | inr same ↦
          let number : completed (r ∷ past) (from.index + 1) ≡ n = omega (arith, grows, same) in
          ap (λ (j : ℕ). get_or (marks_at name histories from.index j) d false) number
    ]
  where
    added-few : (y : Reply) → added y ≤ 1
    added-few y = split (is_wait y) (λ t. rw t (omega arith)) (λ f. rw f (omega arith))

    marks : List Bool
    marks = marks_at name histories linear.2.index (completed past (linear.2.index + 1))

    by : (x : Outcome) → linear.2.operation.outcome ≡ x →
        get_or (marks_opened name marks linear.2.operation.given.items linear.2.operation.outcome) d
        false ≡ get_or marks d false
    by (Opened e) is =
        let fit : fits past r.entry.reply (Opened e) ≡ true =
        subst (λ (x : Outcome). fits past r.entry.reply x ≡ true) is linear.2.fits in
        let y = shows-opened past r.entry.reply e fit in
        let free = opened-free past r linear.1 e y.0 y.1 in
        let held_too : held past (linear.2.index + 1) e ≡ None =
        subst (λ (p : ℕ). held past p e ≡ None) linear.2.process free.0 in
        let apart : d ≡ e → ⊥ = λ same. let bad : Some k ≡ None = sym was ∙
        ap (held past (linear.2.index + 1)) same ∙ held_too in cc in
        ap (λ (x : Outcome). get_or (marks_opened name marks linear.2.operation.given.items x) d
        false) is
        ∙ marked-other name linear.2.operation.given.items marks e d apart
    by _ is = ap (λ (x : Outcome). get_or (marks_opened name marks linear.2.operation.given.items x)
        d false) is

-- what an open opened is marked by its name
marked-opened : (name : List ℕ) (histories : Histories) (past : Past) (r : Record)
    (linear : IsLinearization histories (r ∷ past)) → Keeps name linear.2.operation →
    (d : ℕ) (new : Bool) (flags : OpenFlags) (attr : Option Attr) →
    r.entry.call ≡ MqOpen flags attr → r.entry.reply ≡ reply.Opened d new →
    (d < 16) ×
    (get_or (marks_at name histories linear.2.index (completed (r ∷ past) (linear.2.index + 1)))
    d false ≡ bytes_eq r.payload name)
marked-opened name histories past r linear keeps d new flags attr c is =
    let from : ComesFrom histories past r = linear.2 in
    let own : ends_wait r.entry.call ≡ false = ap ends_wait c in
    let call = own-call histories past r from own in
    let opens : is_open from.operation.call ≡ true = ap is_open (sym call.call ∙ c) in
    let payload : r.payload ≡ from.operation.given.items = call.payload ∙
    open-payload from.operation.call r.entry.reply from.operation.given.items opens in
    let fit : fits past (reply.Opened d new) from.operation.outcome ≡ true =
    subst (λ (y : Reply). fits past y from.operation.outcome ≡ true) is from.fits in
    let outcome = opened-outcome past d new from.operation.outcome fit (keeps.opens opens) in
    let free_yet = free past r (from.index + 1) from.process linear.1 own in
    let n : ℕ = completed past (from.index + 1) in
    let before : n ≡ made past (from.index + 1) = completed-free past (from.index + 1) free_yet in
    let goes : is_wait r.entry.reply ≡ false = ap is_wait is in
    let none : is_some (open_wait (r ∷ past) (from.index + 1)) ≡ false =
    rw (eq-eqb _ _ from.process, goes) refl in
    let after = completed-free (r ∷ past) (from.index + 1) none in
    let more = made-own past r (from.index + 1) from.process own in
    let number : completed (r ∷ past) (from.index + 1) ≡ n + 1 =
    omega (arith, after, more, before) in
    let found = opened-free past r linear.1 d new is in
    let marks : List Bool = marks_at name histories from.index n in (
      found.1,
      ap (λ (j : ℕ). get_or (marks_at name histories from.index j) d false) number
          ∙ ap (λ (m : List Bool). get_or m d false) (marks_at-next name histories from.index n
          from.operation from.is)
          ∙ ap (λ (x : Outcome). get_or (marks_opened name marks from.operation.given.items x)
          d false) outcome
          ∙ marked-same name from.operation.given.items marks d
          (marks_at-length name histories from.index n) found.1
          ∙ ap (λ (b : List ℕ). bytes_eq b name) (sym payload),
    )

-- the queue that an open opened has the name that it gave
opened-name : (past : Past) (r : Record) → IsLegalNext past r → (d q : ℕ) (new : Bool) →
    r.entry.reply ≡ reply.Opened d new → opened_queue past r.payload new ≡ q →
    name_of (r ∷ past) q ≡ r.payload
opened-name past r legal d q true is on = ap (name_of (r ∷ past)) (sym on) ∙ name_of-newest past r
opened-name past r legal d q false is on = by (bound_queue past r.payload) refl
  where
    by : (o : Option ℕ) → bound_queue past r.payload ≡ o → name_of (r ∷ past) q ≡ r.payload
    by None e =
        let facts = (opened-free past r legal d false is).2 in
        let bad : true ≡ false = rw e at facts.new in absurd (cc)
    by (Some k) e =
        let same : k ≡ q = rw e at on in
        let bound : bound_queue past r.payload ≡ Some q = e ∙ ap Some same in
        name_of-older past r q (created-below past q (bound-created past r.payload q bound)) ∙
        bound-name past r.payload q bound

-- the index of a record's operation is that of one of the histories
from-within : (histories : Histories) (past : Past) (r : Record)
    (from : ComesFrom histories past r) → from.index < length histories
from-within histories past r from = let ops = operations-of histories past from.index from.operation
    from.is in slice_get_within histories from.index ops.v ops.has

are-marked : (time : ℕ) (name : List ℕ) (histories : Histories) (past : Past)
    (linear : IsLinearization histories past) → AreBegun time histories past linear →
    KeepsName time name histories → AreMarked name histories past
are-marked time name histories [] linear begun stays index d h few e =
    absurd (let bad : None ≡ Some h = e in cc)
are-marked time name histories (r ∷ past) linear begun stays index d h few e =
    let within = from-within histories past r linear.2 in
    let one : shares r.entry.process (index + 1) ≡ (r.entry.process == index + 1) =
    shares_own r.entry.process (index + 1) (let p = linear.2.process in let most = stays.few in
    omega (arith, p, most, within)) few in
    split (shares r.entry.process (index + 1))
    (λ own.
    let mine : r.entry.process ≡ index + 1 = eqb-true _ _ (sym one ∙ own) in
    let from : ComesFrom histories past r = linear.2 in
    let at : from.index ≡ index = let p = from.process in omega (arith, p, mine) in
    let after : held_after past r.entry.call r.payload r.entry.reply d (held past (index + 1) d) ≡
    Some h = rw own at e in
    after-cases _ past r.entry.call r.payload r.entry.reply d (held past (index + 1) d) h after
    (λ k was same.
    let before = are-marked time name histories past linear.0 begun.0 stays index d k few was in
    let was_his : held past (from.index + 1) d ≡ Some k = subst (λ (i : ℕ). held past (i + 1) d ≡
    Some k) (sym at) was in
    let stays_marked : get_or (marks_at name histories index (completed (r ∷ past) (index + 1))) d
    false ≡ get_or (marks_at name histories index (completed past (index + 1))) d false =
    subst (λ (i : ℕ). get_or (marks_at name histories i (completed (r ∷ past) (i + 1))) d false ≡
    get_or (marks_at name histories i (completed past (i + 1))) d false) at
    (marked-older name histories past r linear d k was_his) in
    let below = created-below past k.queue (created-held past (legal-linear histories past linear.0)
    (index + 1) d k was) in
    let named : name_of (r ∷ past) h.queue ≡ name_of past k.queue = ap (name_of (r ∷ past))
    (sym same) ∙ name_of-older past r k.queue below in
    (before.0, stays_marked ∙ before.1 ∙ ap (λ (b : List ℕ). bytes_eq b name) (sym named)))
    (λ flags attr new call is on.
    let x = marked-opened name histories past r linear (record-keeps time name histories past r
    linear begun.1 stays) d new flags attr call is in
    let named = opened-name past r linear.1 d h.queue new is on in
    let marked : get_or (marks_at name histories index (completed (r ∷ past) (index + 1))) d false ≡
    bytes_eq r.payload name =
    subst (λ (i : ℕ). get_or (marks_at name histories i (completed (r ∷ past) (i + 1))) d false ≡
    bytes_eq r.payload name) at x.1 in
    (x.0, marked ∙ ap (λ (b : List ℕ). bytes_eq b name) (sym named))))
    (λ other.
    let was : held past (index + 1) d ≡ Some h = rw other at e in
    let before = are-marked time name histories past linear.0 begun.0 stays index d h few was in
    let below = created-below past h.queue (created-held past (legal-linear histories past linear.0)
    (index + 1) d h was) in
    let number = completed-other past r (index + 1) (eqb-false _ _ (sym one ∙ other)) in (
      before.0,
      ap (λ (j : ℕ). get_or (marks_at name histories index j) d false) number ∙ before.1
          ∙ ap (λ (b : List ℕ). bytes_eq b name) (sym (name_of-older past r h.queue below)),
    ))

-- the call of a record is through a marked descriptor if and only if its queue has this name ------

-- the description through which a call is made
record IsThrough (past : Past) (p q : ℕ) (call : Call) : Type 0 where
  pub d : ℕ
  pub h : Description
  pub names : descriptor_of call ≡ Some d
  pub held : held past p d ≡ Some h
  pub queue : h.queue ≡ q

through : (past : Past) (p q : ℕ) (call : Call) → called_queue past p call ≡ Some q →
    IsThrough past p q call
through past p q call e = grind arith

pub call-marked : (time : ℕ) (name : List ℕ) (histories : Histories) (past : Past) (r : Record)
    (linear : IsLinearization histories (r ∷ past)) → AreBegun time histories (r ∷ past) linear →
    KeepsName time name histories →
    ends_wait r.entry.call ≡ false → (q : ℕ) → called_queue past r.entry.process r.entry.call ≡
    Some q →
    is_marked (marks_at name histories linear.2.index (completed past (linear.2.index + 1)))
    (descriptor_of linear.2.operation.call) ≡ bytes_eq (name_of past q) name
call-marked time name histories past r linear begun stays own q on =
    let within = from-within histories past r linear.2 in
    let few : linear.2.index + 1 ≤ 32 = let most = stays.few in omega (arith, most, within) in
    grind (arith, through, are-marked, own-call, marks_at, lt-ltb)

-- the name has one queue --------------------------------------------------------------------------

unlinks-own : (call : Call) (y : Reply) → unlinks call y ≡ true →
    (ends_wait call ≡ false) × (is_unlink call ≡ true) × (y ≡ reply.Done)
unlinks-own call y e = grind arith

done-went : (past : Past) (x : Outcome) → fits past reply.Done x ≡ true → has_failed x ≡ false
done-went past x fit = grind arith

-- a queue of the name that was created is bound to it
is-bound : (time : ℕ) (name : List ℕ) (histories : Histories) (past : Past)
    (linear : IsLinearization histories past) → AreBegun time histories past linear →
    KeepsName time name histories →
    (q : ℕ) → is_in (created past) q ≡ true → name_of past q ≡ name → bound_queue past name ≡ Some q
is-bound time name histories [] linear begun stays q made named =
    absurd (let bad : false ≡ true = made in cc)
is-bound time name histories (r ∷ past) linear begun stays q made named =
    created-cases past r q made
    (λ old below.
    let before = is-bound time name histories past linear.0 begun.0 stays q old
    (sym (name_of-older past r q below) ∙ named) in
    let keeps = record-keeps time name histories past r linear begun.1 stays in
    grind (
      arith,
      nat_tests,
      creates-unbound,
      bytes_eq-Decides,
      unlinks-own,
      own-call,
      done-went,
      keeps,
    ))
    (λ new here.
    let payload : r.payload ≡ name = sym (name_of-newest past r) ∙ ap (name_of (r ∷ past)) here ∙
    named in
    rw (new, (bytes_eq-Decides r.payload name).1 payload) (ap Some here))
  where
    unlink-payload : (call : Call) (y : Reply) (given : List ℕ) → is_unlink call ≡ true →
        payload_of call y given ≡ given
    unlink-payload MqUnlink y given e = refl
    unlink-payload _ y given e = absurd (let bad : false ≡ true = e in cc)

pub one-of-name : (time : ℕ) (name : List ℕ) (histories : Histories) (past : Past)
    (linear : IsLinearization histories past) → AreBegun time histories past linear →
    KeepsName time name histories →
    (q k : ℕ) → is_in (created past) q ≡ true → is_in (created past) k ≡ true →
    name_of past q ≡ name → name_of past k ≡ name → q ≡ k
one-of-name time name histories past linear begun stays q k first second named named_too =
    let a = is-bound time name histories past linear begun stays q first named in
    let b = is-bound time name histories past linear begun stays k second named_too in
    let both : Some q ≡ Some k = sym a ∙ b in cc

-- later -------------------------------------------------------------------------------------------

-- a queue keeps its name
pub name-later : (before past : Past) (q : ℕ) → Ends before past → is_in (created before) q ≡ true →
    (is_in (created past) q ≡ true) × (name_of past q ≡ name_of before q)
name-later before [] q ends made = let same : before ≡ [] =
    ends in (
      subst (λ (x : Past). is_in (created x) q ≡ true) same made,
      ap (λ (x : Past). name_of x q) (sym same),
    )
name-later before (r ∷ past) q ends made = elim ends [
  | inl same ↦ (
    subst (λ (x : Past). is_in (created x) q ≡ true) same made,
    ap (λ (x : Past). name_of x q) (sym same),
  )
  | inr older ↦
      let rest = name-later before past q older made in
      (created-more past r q rest.0, name_of-older past r q (created-below past q rest.0) ∙ rest.1)
]

-- the call of an operation is through a marked descriptor if and only if its queue has the name
pub call-placed : (time : ℕ) (name : List ℕ) (histories : Histories) (past : Past)
    (index k place : ℕ) (x : IsCallAt time histories past index k place) →
    KeepsName time name histories → (o : Operation) → operation_at histories index k ≡ Some o →
    (q : ℕ) → called_queue x.before x.r.entry.process x.r.entry.call ≡ Some q →
    is_marked (marks_at name histories index k) (descriptor_of o.call) ≡
    bytes_eq (name_of x.before q) name
call-placed time name histories past index k place x stays o is q on =
    grind (arith, call-marked, marks_at)

pub created-placed : (time : ℕ) (histories : Histories) (past : Past) (index k place : ℕ)
    (x : IsCallAt time histories past index k place) → (q : ℕ) →
    called_queue x.before x.r.entry.process x.r.entry.call ≡ Some q →
    is_in (created x.before) q ≡ true
created-placed time histories past index k place x q on = called-created x.before
    (legal-linear histories x.before x.linear.0) x.r.entry.process q x.r.entry.call on

-- and so it is later
pub placed-marked : (time : ℕ) (name : List ℕ) (histories : Histories) (past : Past)
    (index k place : ℕ) (x : IsCallAt time histories past index k place) →
    KeepsName time name histories → (o : Operation) → operation_at histories index k ≡ Some o →
    (q : ℕ) → called_queue x.before x.r.entry.process x.r.entry.call ≡ Some q →
    (is_in (created past) q ≡ true) ×
    (is_marked (marks_at name histories index k) (descriptor_of o.call) ≡
    bytes_eq (name_of past q) name)
placed-marked time name histories past index k place x stays o is q on =
    let later = name-later x.before past q (ends-older x.r x.before past x.ends)
    (created-placed time histories past index k place x q on) in (
      later.0,
      call-placed time name histories past index k place x stays o is q on ∙
          ap (λ (b : List ℕ). bytes_eq b name) (sym later.1),
    )
