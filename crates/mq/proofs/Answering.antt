-- How one critical section of a process changes the answers.
use Rattle.std.proofs.Common.{◌≡◌, ℕ, zero, suc, ◌+◌, ◌*◌, Bool, false, ◌∷◌, Option, None, is_some, refl, arith}
use Rattle.fast_mutex.specs.Marks.{flag, answer_bits}
use Rattle.mq_model.specs.Record.{Record, Past}
use Rattle.mq_model.specs.Waits.{named_wait, names_wait, is_answered}
use Rattle.mq_model.specs.declared.entries.Reply.{Reply}
use Rattle.mq_model.proofs.Frames.{answered_by-none}
use Rattle.mq_state.specs.Buffers.{waiting_room}

-- without an open wait nothing is answered
pub unanswered : (past : Past) (p : ℕ) → waiting_room past p ≡ None → is_answered past p ≡ false
unanswered past p none = grind (arith, answered_by-none)

names-nothing : (reply : Reply) → is_some (named_wait reply) ≡ false → (o : Option ℕ) →
    names_wait reply o ≡ false
names-nothing reply e o = grind (arith)

-- a record that serves no wait leaves each answer unchanged, if the process of the record was not
-- answered
pub answers-kept : (past base : Past) (r : Record) (p : ℕ) → r.entry.process ≡ p →
    is_some (named_wait r.entry.reply) ≡ false → is_answered base p ≡ false
    → ((q : ℕ) → is_answered past q ≡ is_answered base q) → (q : ℕ) →
    is_answered (r ∷ past) q ≡ is_answered base q
answers-kept past base r p mine quiet free same q = grind arith

-- the same answers are the same bits
pub bits-kept : (f g : ℕ → Bool) → ((q : ℕ) → f q ≡ g q) → (k m : ℕ) →
    answer_bits f k m ≡ answer_bits g k m
unfolding answer_bits
bits-kept f g same k zero = refl
bits-kept f g same k (suc m) = λ i. flag (same k i) + 2 * bits-kept f g same (suc k) m i
