-- Each step follows a line, and an attempt along lines takes five steps to Fast and at least n + 7
-- to Slow.
use Rattle.std.proofs.Common.{◌≡◌, ◌==◌, ◌<◌, ◌≤◌, ◌+◌, ◌^◌, ◌⊎◌, ℕ, Bool, cond, refl, sym, subst, inl, inr, arith}
use Rattle.std.proofs.lemmas.Bool.Decides.{eqb_tells}
use Rattle.lamport_core.specs.State.{State, IsProcess, process_count, point_of, flag_of, next, step_from, with_process, of_process, after_TestY, after_AwaitY, after_TestX, after_Scan, after_SlowY, after_SlowAwait}
use Rattle.lamport_core.specs.Safe.{IsSafe, IsPoint}
use Rattle.lamport_core.specs.Line.{IsLine, IsCounted, pass_steps, one_more}
use Rattle.lamport_core.proofs.Worlds.{of-with_same}
use Rattle.lamport_core.specs.declared.At.{At}
use Rattle.lamport_core.specs.declared.At.TheVariants.{Rest, Start, SetX, TestY, BackB, AwaitY, SetY, TestX, SlowB, Scan, SlowY, SlowAwait, Fast, Slow, Leaving}

-- one of two points, by a test
either : (t : Bool) (p q : At) → (cond t p q ≡ p) ⊎ (cond t p q ≡ q)
either t p q = grind arith

pub line_TestY : (n v : ℕ) → IsLine n TestY (after_TestY v)
line_TestY n v = either (v == 0) SetY BackB

pub line_AwaitY : (n v : ℕ) → IsLine n AwaitY (after_AwaitY v)
line_AwaitY n v = either (v == 0) Start AwaitY

pub line_TestX : (n i v : ℕ) → IsLine n TestX (after_TestX i v)
line_TestX n i v = either (v == i) Fast SlowB

pub line_SlowY : (n i v : ℕ) → IsLine n SlowY (after_SlowY i v)
line_SlowY n i v = either (v == i) Slow SlowAwait

pub line_SlowAwait : (n v : ℕ) → IsLine n SlowAwait (after_SlowAwait v)
line_SlowAwait n v = either (v == 0) Start SlowAwait

pub line_Scan : (n j : ℕ) (f : Bool) → IsProcess n j → IsLine n (Scan j) (after_Scan n j f)
line_Scan n j f p = grind (arith, eqb_tells)

-- the point of process i after a step from P
module _ (w : State) (i : ℕ) (s : IsSafe w) (p : IsProcess (process_count w) i) where
  there : (P Q : At) → IsLine (process_count w) P Q →
      IsLine (process_count w) P (of_process Rest (with_process w.points i Q) i)
  there P Q h = subst (IsLine (process_count w) P)
      (sym (of-with_same Rest w.points i Q (subst (λ n. IsProcess n i) (sym s.same_count) p))) h

  line_from : (P : At) → IsPoint (process_count w) P →
      IsLine (process_count w) P (point_of (step_from P w i) i)
  line_from Rest h = there Rest SetX refl
  line_from Start h = there Start SetX refl
  line_from SetX h = there SetX TestY refl
  line_from TestY h = there TestY _ (line_TestY (process_count w) w.y)
  line_from BackB h = there BackB AwaitY refl
  line_from AwaitY h = there AwaitY _ (line_AwaitY (process_count w) w.y)
  line_from SetY h = there SetY TestX refl
  line_from TestX h = there TestX _ (line_TestX (process_count w) i w.x)
  line_from SlowB h = there SlowB (Scan 1) refl
  line_from (Scan j) h = there (Scan j) _ (line_Scan (process_count w) j (flag_of w j) h)
  line_from SlowY h = there SlowY _ (line_SlowY (process_count w) i w.y)
  line_from SlowAwait h = there SlowAwait _ (line_SlowAwait (process_count w) w.y)
  line_from Fast h = there Fast Leaving refl
  line_from Slow h = there Slow Leaving refl
  line_from Leaving h = there Leaving Rest refl

  pub next_line : IsLine (process_count w) (point_of w i) (point_of (next w i) i)
  next_line = line_from (point_of w i) (s.safe.point i)

module _ (n k : ℕ) (some : 0 < n) (few : n < 2 ^ 32) where
  leads : (P Q R : At) → Q ≡ R → IsCounted n R (pass_steps P k) → IsCounted n Q (pass_steps P k)
  leads P Q R e h = subst (λ q. IsCounted n q (pass_steps P k)) (sym e) h

  -- one step more of few is counted, and one of many leaves many
  more : (m : ℕ) → k ≡ m → m < 2 ^ 32 → one_more k ≡ m + 1
  more m e small = omega arith

  at_least : (m : ℕ) → m ≤ k + 1 → m < 2 ^ 33 → m ≤ one_more k
  at_least m h small = omega arith

  -- a step along a line keeps what the point says of the steps of the pass
  pub counted_line : (P Q : At) → IsCounted n P k → IsLine n P Q → IsCounted n Q (pass_steps P k)
  counted_line Rest Q c e = leads Rest Q SetX e refl
  counted_line Start Q c e = leads Start Q SetX e refl
  counted_line SetX Q c e = leads SetX Q TestY e (more 1 c (omega arith))
  counted_line TestY Q c (inl e) = leads TestY Q SetY e (more 2 c (omega arith))
  counted_line TestY Q c (inr e) = leads TestY Q BackB e (more 2 c (omega arith))
  counted_line BackB Q c e = leads BackB Q AwaitY e (at_least 4 (omega arith) (omega arith))
  counted_line AwaitY Q c (inl e) = leads AwaitY Q Start e (at_least 5 (omega arith) (omega arith))
  counted_line AwaitY Q c (inr e) = leads AwaitY Q AwaitY e (at_least 4 (omega arith) (omega arith))
  counted_line SetY Q c e = leads SetY Q TestX e (more 3 c (omega arith))
  counted_line TestX Q c (inl e) = leads TestX Q Fast e (more 4 c (omega arith))
  counted_line TestX Q c (inr e) = leads TestX Q SlowB e (more 4 c (omega arith))
  counted_line SlowB Q c e = leads SlowB Q (Scan 1) e (
    (omega arith, omega arith),
    at_least 6 (omega arith) (omega arith),
  )
  counted_line (Scan j) Q c (inl e) = leads (Scan j) Q (Scan j) e
      (c.0, at_least (j + 5) (omega arith) (omega arith))
  counted_line (Scan j) Q c (inr (inl e)) = leads (Scan j) Q SlowY e.1
      (at_least (n + 6) (omega arith) (omega arith))
  counted_line (Scan j) Q c (inr (inr e)) = leads (Scan j) Q (Scan (j + 1)) e.1
      ((omega arith, omega arith), at_least (j + 1 + 5) (omega arith) (omega arith))
  counted_line SlowY Q c (inl e) = leads SlowY Q Slow e
      (at_least (n + 7) (omega arith) (omega arith))
  counted_line SlowY Q c (inr e) = leads SlowY Q SlowAwait e
      (at_least (n + 7) (omega arith) (omega arith))
  counted_line SlowAwait Q c (inl e) = leads SlowAwait Q Start e
      (at_least 5 (omega arith) (omega arith))
  counted_line SlowAwait Q c (inr e) = leads SlowAwait Q SlowAwait e
      (at_least (n + 7) (omega arith) (omega arith))
  counted_line Fast Q c e = leads Fast Q Leaving e (at_least 6 (omega arith) (omega arith))
  counted_line Slow Q c e = leads Slow Q Leaving e (at_least 6 (omega arith) (omega arith))
  counted_line Leaving Q c e = leads Leaving Q Rest e refl
