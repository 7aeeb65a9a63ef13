-- A send answers a waiting receive, and a receive a waiting send.
use Rattle.std.proofs.lemmas.Bool.Decides.{nat_tests}
use Rattle.std.proofs.Common.{arith, ◌≡◌, ℕ, ◌==◌, Bool, true, false, not, [], ◌∷◌, ◌++◌, length, Some, None, if◌then◌else◌, refl, sym, ◌∙◌, subst, eqb-true, eq-eqb}
use Rattle.std.proofs.lemmas.Bool.{and_parts, eqb-false}
use Rattle.mq_model.specs.Record.{Record, Past, record_at}
use Rattle.mq_model.specs.Messages.{is_in, is_send, is_receive, least, blocked_sends, blocked_receives, waiting_sends, waiting_receives, ended_sends, ended_receives}
use Rattle.mq_model.specs.Waits.{open_wait, answered_by, names_wait}
use Rattle.mq_model.specs.Legality.{Legal}
use Rattle.mq_model.specs.Callers.{blocked}
use Rattle.mq_model.specs.declared.callers.WaitKind.{WaitKind}
use Rattle.mq_model.specs.declared.callers.WaitKind.TheVariants.{Send, Receive}
use Rattle.mq_model.specs.declared.entries.Call.{Call}
use Rattle.mq_model.specs.declared.entries.Reply.{Reply}
use Rattle.mq_model.proofs.Cases.{Says}
use Rattle.mq_model.proofs.LegalReplies.{legal_says, got_says}
use Rattle.mq_model.proofs.Places.{split, is_in-filter}
use Rattle.mq_model.proofs.NamedWaits.{blocks, blocked-cases, newest-send, newest-receive, least-in}
use Rattle.mq_model.proofs.Waiters.{hands-least, admits-least}
use Rattle.mq_model.proofs.OthersLeave.{open_wait-below}
use Rattle.mq_model.proofs.Frames.{record_at-older}
use Rattle.mq_model.proofs.Prefixes.{record_at-below}

-- a record stays at its place
pub record_at-more : (more past : Past) (k : ℕ) (r : Record) → record_at past k ≡ Some r →
    record_at (more ++ past) k ≡ Some r
record_at-more [] past k r at = at
record_at-more (x ∷ more) past k r at = grind (
  arith,
  record_at-older,
  record_at-below,
  record_at-more more past k r at,
)

-- a call that waits in this way
abbrev is_of : WaitKind → Call → Bool
is_of Send call = is_send call
is_of Receive call = is_receive call

newest-blocks : (past : Past) (x : Record) (s : WaitKind) (q : ℕ) →
    is_in (blocked (x ∷ past) s q) (length past) ≡ true → blocks s x.entry.call x.entry.reply ≡ true
newest-blocks past x s q h = grind (arith, and_parts, newest-send, newest-receive)

-- a call that waits is of its kind
blocked-of : (past : Past) (s : WaitKind) (q w : ℕ) (r : Record) →
    is_in (blocked past s q) w ≡ true → record_at past w ≡ Some r → is_of s r.entry.call ≡ true
blocked-of [] s q w r h at = absurd (cc)
blocked-of (x ∷ past) s q w r h at = split (w == length past)
    (λ here.
    grind (arith, nat_tests, eqb-true, newest-blocks))
    (λ other.
    let ne : w ≡ length past → ⊥ = eqb-false _ _ other in
    let old_at : record_at past w ≡ Some r = rw other at at in
    blocked-of past s q w r ((blocked-cases past x s q w h).1 (λ same. ne (sym same))) old_at)

waiting-receive : (past : Past) (q w : ℕ) (r : Record) → least (waiting_receives past q) ≡ Some w →
    record_at past w ≡ Some r → is_receive r.entry.call ≡ true
waiting-receive past q w r first at = blocked-of past Receive q w r
    (is_in-filter (λ j. not (is_in (ended_receives past) j)) (blocked_receives past q) w
    (least-in (waiting_receives past q) w first)).0 at

waiting-send : (past : Past) (q w : ℕ) (r : Record) → least (waiting_sends past q) ≡ Some w →
    record_at past w ≡ Some r → is_send r.entry.call ≡ true
waiting-send past q w r first at = blocked-of past Send q w r
    (is_in-filter (λ j. not (is_in (ended_sends past) j)) (blocked_sends past q) w
    (least-in (waiting_sends past q) w first)).0 at

pub no-receive : (call : Call) → is_send call ≡ true → is_receive call ≡ false
no-receive call h = grind arith

pub no-send : (call : Call) → is_receive call ≡ true → is_send call ≡ false
no-send call h = grind arith

-- an entry that names a wait is a send if and only if the call that waits is a receive
named-kind : (past : Past) (p : ℕ) (call : Call) (reply : Reply) (w : ℕ) (r : Record) →
    Says past p call reply → names_wait reply (Some w) ≡ true → record_at past w ≡ Some r →
    is_send call ≡ is_receive r.entry.call
named-kind past p call reply w r says named at = grind (
  arith,
  eqb-true,
  hands-least,
  waiting-receive,
  admits-least,
  got_says,
  no-send,
  no-receive,
  waiting-send,
)

-- the entry that answers a wait
pub record Answers (past : Past) (by : ℕ) (waiting : Call) : Type 0 where
  pub answer : Record
  pub at : record_at past by ≡ Some answer
  pub kind : is_send answer.entry.call ≡ is_receive waiting

pub answer-kind : (past : Past) → Legal past → (p w b : ℕ) (r : Record) →
    open_wait past p ≡ Some w → answered_by past p ≡ Some b → record_at past w ≡ Some r →
    Answers past b r.entry.call
answer-kind [] legal p w b r open_at answered at = absurd (cc)
answer-kind (s ∷ past) legal p w b r open_at answered at = split (s.entry.process == p)
    (λ own. let bad : None ≡ Some b = rw own at answered in absurd (cc))
    (λ other.
    let old_wait : open_wait past p ≡ Some w = rw other at open_at in
    let rest : (if names_wait s.entry.reply (Some w) then Some (length past) else answered_by past
    p) ≡ Some b = rw (other, old_wait) at answered in
    let old_at : record_at past w ≡ Some r =
    sym (record_at-older past s w (open_wait-below past p w old_wait)) ∙ at in
    split (names_wait s.entry.reply (Some w))
    (λ t.
    let here : Some (length past) ≡ Some b = rw t at rest in
    let same : length past ≡ b = cc in
    let newest : record_at (s ∷ past) (length past) ≡ Some s =
    rw (eq-eqb (length past) (length past) refl) refl in
    record {
      answer = s;
      at = subst (λ (k : ℕ). record_at (s ∷ past) k ≡ Some s) same newest;
      kind = named-kind past s.entry.process s.entry.call s.entry.reply w r
          (legal_says past s legal.1) t old_at;
    })
    (λ f.
    let old : answered_by past p ≡ Some b = rw f at rest in
    let before = answer-kind past legal.0 p w b r old_wait old old_at in
    record {
      answer = before.answer;
      at = record_at-more (s ∷ []) past b before.answer before.at;
      kind = before.kind;
    }))
