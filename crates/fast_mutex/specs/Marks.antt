-- The words s, one for each process: each shows whether the wait of its process is answered.
use Rattle.std.specs.Prelude.{◌≡◌, ℕ, zero, suc, ◌+◌, ◌*◌, ◌<◌, ◌≤◌, Bool, true, false, cond, eqb, List, [], ◌∷◌, length, slice_index}

abbrev pub flag : Bool → ℕ
flag b = cond b 1 0

-- The word s of process k. Process 1 has the first.
abbrev pub mark_in : List ℕ → ℕ → ℕ
mark_in marks zero = 0
mark_in marks (suc k) = slice_index marks k

-- the number is in the list
abbrev pub has : ℕ → List ℕ → Bool
has p [] = false
has p (q ∷ qs) = cond (eqb p q) true (has p qs)

-- The answers of m processes from number k on, as the bits of one number. Process k has the lowest
-- bit.
unfoldable pub answer_bits : (ℕ → Bool) → ℕ → ℕ → ℕ
answer_bits answered k zero = 0
answer_bits answered k (suc m) = flag (answered k) + 2 * answer_bits answered (suc k) m

-- The current list and the list to come, the processes whose words were stored in this critical
-- section, and the words.
pub record Course (I : Type 0) : Type 0 where
  pub now : List I
  pub next : List I
  pub done : List ℕ
  pub marks : List ℕ

module _ {I : Type 0} (answered : ℕ → List I → Bool) where
  -- The words of a new lock of n processes. All are 0 except the words s, which show the answers in
  -- the list that the lock starts with.
  pub record ShowAnswers (n : ℕ) (now : List I) (words : List ℕ) : Type 0 where
    pub wide : length words ≡ 2 * n + 2
    pub low : (i : ℕ) → i < n + 2 → slice_index words i ≡ 0
    pub marks : (p : ℕ) → 1 ≤ p → p ≤ n → slice_index words (n + 1 + p) ≡ flag (answered p now)

  -- The word of p is 1 if and only if p is answered: by the list to come if the word was stored in
  -- this critical section, else by the current list.
  abbrev pub Marked : ℕ → Course I → Type 0
  Marked n c = (length c.marks ≡ n) × ((p : ℕ) → 1 ≤ p → p ≤ n → mark_in c.marks p ≡
      flag (answered p (cond (has p c.done) c.next c.now)))
