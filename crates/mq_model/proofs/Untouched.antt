-- The registration on a queue, entry by entry.
use Rattle.std.proofs.Common.{◌≡◌, ◌≢◌, ℕ, Bool, true, false, Option, Some, None, refl, sym, ◌∙◌, subst, eq-eqb, is_some, arith}
use Rattle.mq_model.specs.Threads.{owner_of}
use Rattle.mq_model.specs.Notices.{registration_after, is_about_registrations, notified}
use Rattle.mq_model.specs.declared.entries.Entry.{Entry}
use Rattle.mq_model.specs.declared.entries.Registration.{Registration}
use Rattle.mq_model.specs.declared.entries.Call.{Call}
use Rattle.mq_model.specs.declared.entries.Call.TheVariants.{MqClose, MqNotify}
use Rattle.mq_model.specs.declared.entries.Reply.{Reply}
use Rattle.mq_model.specs.declared.entries.Reply.TheVariants.{Done, Got, Queued}

abbrev entry : ℕ → Call → Reply → Entry
entry p call reply = record { process = p; call = call; reply = reply }

-- a call that is not about registrations leaves them unchanged if it succeeds
pub untouched-done : (p : ℕ) (call : Call) → is_about_registrations call ≡ false →
    (on : Bool) (here : ℕ) (before : Option Registration) →
    registration_after on here (entry p call Done) before ≡ before
untouched-done p call e on here before = grind arith

pub untouched : (e : Entry) → e.reply ≡ Done → is_about_registrations e.call ≡ false →
    (on : Bool) (here : ℕ) (before : Option Registration) → registration_after on here e before ≡
    before
untouched e done not on here before = grind (arith, untouched-done)

-- some registration is not what it was
abbrev pub Touches : Entry → Type 0
Touches e = (on : Bool) × (here : ℕ) × (before : Option Registration) ×
    (registration_after on here e before ≢ before)

abbrev registration : ℕ → ℕ → ℕ → Registration
registration place p d = record { place = place; process = p; d = d; value = 0 }

gone : (x : Option Registration) (n : Registration) → x ≡ None → x ≢ Some n
gone x n e same = absurd (let bad : None ≡ Some n = sym e ∙ same in cc)

-- a call about registrations changes one if it succeeds
touched-call : (p : ℕ) (call : Call) → is_about_registrations call ≡ true →
    Touches (entry p call Done)
touched-call p (MqNotify d (Some v)) e =
    (true, 0, None, λ same. absurd (let bad : Some _ ≡ None = same in cc))
touched-call p (MqNotify d None) e = (
  true,
  0,
  Some (registration 0 p d),
  gone _ _ (rw (eq-eqb (owner_of p) (owner_of p) refl) refl),
)
touched-call p (MqClose d) e = (
  true,
  0,
  Some (registration 0 p d),
  gone _ _ (rw (eq-eqb (owner_of p) (owner_of p) refl, eq-eqb d d refl) refl),
)
touched-call p call e = absurd (let bad : false ≡ true = e in cc)

pub touched-done : (e : Entry) → e.reply ≡ Done → is_about_registrations e.call ≡ true → Touches e
touched-done e done about = subst (λ r. Touches (entry e.process e.call r)) (sym done)
    (touched-call e.process e.call about)

-- a reply that notifies touches the registration that it names
touched-reply : (p : ℕ) (call : Call) (reply : Reply) → is_some (notified reply) ≡ true →
    Touches (entry p call reply)
touched-reply p call (Queued (Some j)) e = (
  false,
  0,
  Some (registration j 0 0),
  gone _ _ (rw (eq-eqb j j refl) refl),
)
touched-reply p call (Got place admitted (Some j)) e = (
  false,
  0,
  Some (registration j 0 0),
  gone _ _ (rw (eq-eqb j j refl) refl),
)
touched-reply p call reply e = absurd (let bad : false ≡ true = e in cc)

pub touched-notified : (e : Entry) → is_some (notified e.reply) ≡ true → Touches e
touched-notified e some = touched-reply e.process e.call e.reply some
