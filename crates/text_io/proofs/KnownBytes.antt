-- Known bytes over several reads or writes.
use Rattle.std.proofs.Common.{◌≡◌, ◌<◌, ◌+◌, ℕ, List, ◌++◌, length, take, drop, sym, ap, ◌∙◌, append_assoc, Option, None, Some, Result, Ok}
use Rattle.std.proofs.Math.Seq.{take-add}
use Rattle.std.specs.Io.KnownBytes.{Appends, Consumes, IsAtEnd, WriteAppends, ReadConsumes}

pub Appends-more : (a b c : Option (List ℕ)) (bs : List ℕ) (n m : ℕ) → Appends a b (take n bs) →
    Appends b c (take m (drop n bs)) → Appends a c (take (n + m) bs)
Appends-more None b c bs n m first second = tt
Appends-more (Some x) None c bs n m first second = absurd first
Appends-more (Some x) (Some y) None bs n m first second = absurd second
Appends-more (Some x) (Some y) (Some z) bs n m first second =
    second ∙ ap (λ t. t ++ take m (drop n bs)) first ∙ append_assoc x (take n bs)
    (take m (drop n bs)) ∙ ap (λ t. x ++ t) (sym (take-add n m bs))

pub Consumes-more : (a b c : Option (List ℕ)) (xs ys : List ℕ) → Consumes a b xs → Consumes b c ys →
    Consumes a c (xs ++ ys)
Consumes-more None b c xs ys first second = tt
Consumes-more (Some x) None c xs ys first second = absurd first
Consumes-more (Some x) (Some y) None xs ys first second = absurd second
Consumes-more (Some x) (Some y) (Some z) xs ys first second =
    first ∙ ap (λ t. xs ++ t) second ∙ sym (append_assoc xs ys z)

-- what a write that took n bytes, and a read that gave n bytes, did
pub wrote_at : {E : Type 0} (a b : Option (List ℕ)) (r : Result ℕ E) (buf : List ℕ) (n : ℕ) →
    WriteAppends a b r buf → r ≡ Ok n → Appends a b (take n buf)
wrote_at a b r buf n wrote is = rw is at wrote

pub read_at : {E : Type 0} (a b : Option (List ℕ)) (r : Result ℕ E) (buf : List ℕ) (n : ℕ) →
    ReadConsumes a b r buf → r ≡ Ok n →
    Consumes a b (take n buf) × (n ≡ 0 → 0 < length buf → IsAtEnd b)
read_at a b r buf n read is = rw is at read
