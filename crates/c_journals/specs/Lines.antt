-- The effect and the results of reading a line of the journal.
use Rattle.std.specs.Prelude.{ℕ, ◌≡◌, ◌⊎◌, nat_le, List, length, take, Option, Some, None, if◌then◌else◌}
use Rattle.fast_mutex.specs.Items.{Ticket}
use Rattle.mq_model.specs.Record.{Record, record_at}
use Rattle.mq_state.specs.Buffers.{with_front}
use Rattle.journal_format.specs.Text.{line_text}
use Rattle.c_handles.specs.Readings.{IsStored, IsUnstored, Reads}

-- what a buffer held before and holds now, the length written before and now, and the code returned
pub record Wrote : Type 0 where
  pub before : List ℕ
  pub after : List ℕ
  pub len_before : ℕ
  pub len : ℕ
  pub code : ℕ

-- nothing was written
pub record IsUntouched (w : Wrote) (code : ℕ) : Type 0 where
  pub text : w.after ≡ w.before
  pub same_len : w.len ≡ w.len_before
  pub code_is : w.code ≡ code

-- The buffer starts with the line, or with as much of it as fits, and the length is that of the
-- line. The code is 0, or 21 if the line does not fit.
pub record WritesLine (line : List ℕ) (w : Wrote) : Type 0 where
  pub text : w.after ≡ with_front (take (length w.before) line) w.before
  pub len_is : w.len ≡ length line
  pub code_is : w.code ≡ (if nat_le (length line) (length w.before) then 0 else 21)

-- the line of a record, or 25 if there is none
abbrev pub WritesRecord : ℕ → Option Record → Wrote → Type 0
WritesRecord place None w = IsUntouched w 25
WritesRecord place (Some r) w = WritesLine (line_text place r) w

-- A read that acquired the lock made no call, and wrote the line of the record. Or memory for that
-- was refused, 11, or the journal is not stored, 27.
abbrev pub ReadsAt : ℕ → Option (Ticket Record) → Option (Ticket Record) → Wrote → Type 0
ReadsAt place None None w = IsUntouched w 18
ReadsAt place (Some old) (Some new) w =
    (Reads old new × WritesRecord place (record_at new.left place) w × IsStored old) ⊎
    (Reads old new × IsUntouched w 11 × IsStored old) ⊎ ((new ≡ old) × IsUntouched w 16 ×
    IsStored old)
    ⊎ ((new ≡ old) × IsUntouched w 27 × IsUnstored old)
ReadsAt place None (Some new) w = ⊥
ReadsAt place (Some old) None w = ⊥
