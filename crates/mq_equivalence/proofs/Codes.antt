-- Decoding values from their numbers.
use Rattle.std.proofs.lemmas.Bool.Decides.{nat_tests}
use Rattle.std.proofs.Common.{◌≡◌, ℕ, ℤ, zero, suc, ◌+◌, ◌<◌, ◌≤◌, true, false, List, [], ◌∷◌, ◌++◌, length, Option, Some, None, refl, sym, ◌∙◌, subst, arith, append_assoc, eqb-true}
use Rattle.mq_model.specs.Descriptors.{numbers_from}
use Rattle.mq_model.specs.declared.entries.Attr.{Attr}
use Rattle.mq_model.specs.declared.entries.Deadline.{Deadline}
use Rattle.mq_model.specs.declared.entries.Description.{Description}
use Rattle.mq_equivalence.specs.Views.{Message, Registered, Sender}
use Rattle.mq_equivalence.specs.Key.{bytes_code, codes, deadline_code, description_code, index_of, limits_code, listed, message_code, number, optional, registered_code, sender_code, test}

-- a value and the numbers after it can both be decoded
abbrev pub IsDecodable : {X : Type 0} → (X → List ℕ) → Type 0
IsDecodable {X} code = (x y : X) (u v : List ℕ) → code x ++ u ≡ code y ++ v → (x ≡ y) × (u ≡ v)

pub decodable-number : IsDecodable number
decodable-number x y u v e = (cc, cc)

pub decodable-test : IsDecodable test
decodable-test false true u v e = absurd (cc)
decodable-test true false u v e = absurd (cc)
decodable-test _ _ u v e = (refl, cc)

told-bytes : (xs ys u v : List ℕ) → length xs ≡ length ys → xs ++ u ≡ ys ++ v → (xs ≡ ys) × (u ≡ v)
told-bytes [] [] u v n e = (refl, e)
told-bytes (x ∷ xs) (y ∷ ys) u v n e = grind (arith, told-bytes xs ys u v (omega arith) (cc))
told-bytes [] (y ∷ ys) u v n e = absurd (omega arith)
told-bytes (x ∷ xs) [] u v n e = absurd (omega arith)

pub decodable-optional : {X : Type 0} (code : X → List ℕ) → IsDecodable code →
    IsDecodable (optional code)
decodable-optional code told h h' u v e = grind arith

decodable-codes : {X : Type 0} (code : X → List ℕ) → IsDecodable code →
    (xs ys : List X) (u v : List ℕ) → length xs ≡ length ys →
    codes code xs ++ u ≡ codes code ys ++ v → (xs ≡ ys) × (u ≡ v)
decodable-codes code told [] [] u v n e = (refl, e)
decodable-codes code told (x ∷ xs) (y ∷ ys) u v n e =
    let first = told x y (codes code xs ++ u) (codes code ys ++ v)
    (sym (append_assoc (code x) (codes code xs) u) ∙ e ∙ append_assoc (code y)
    (codes code ys) v) in
    let rest = decodable-codes code told xs ys u v (omega arith) first.1 in
    (rw (first.0, rest.0) refl, rest.1)
decodable-codes code told _ _ u v n e = absurd (omega arith)

pub decodable-listed : {X : Type 0} (code : X → List ℕ) → IsDecodable code →
    IsDecodable (listed code)
decodable-listed code told xs ys u v e = decodable-codes code told xs ys u v (cc) (cc)

abbrev attr : ℤ → ℤ → Attr
attr m n = record { maxmsg = m; msgsize = n }

pub decodable-limits : IsDecodable limits_code
decodable-limits a b u v e = grind arith

abbrev moment : ℤ → ℤ → Deadline
moment m n = record { sec = m; nsec = n }

pub decodable-deadline : IsDecodable deadline_code
decodable-deadline a b u v e = grind arith

pub decodable-bytes_code : IsDecodable bytes_code
decodable-bytes_code xs ys u v e = told-bytes xs ys u v (cc) (cc)

abbrev registered : ℕ → ℕ → ℕ → Registered
registered p d v = record { process = p; d = d; value = v }

registered-same : (a b : Registered) → a.process ≡ b.process → a.d ≡ b.d → a.value ≡ b.value → a ≡ b
registered-same a b c d e = grind arith

pub decodable-registered : IsDecodable registered_code
decodable-registered a b u v e = (registered-same a b (cc) (cc) (cc), cc)

-- descriptions of queues with the same index in two lists
pub record SameDescription (qs ks : List ℕ) (g h : Description) : Type 0 where
  pub queue : index_of qs g.queue ≡ index_of ks h.queue
  pub access : g.access ≡ h.access
  pub nonblock : g.nonblock ≡ h.nonblock

abbrev pub SameHeld : List ℕ → List ℕ → Option Description → Option Description → Type 0
SameHeld qs ks None None = Unit {0}
SameHeld qs ks (Some g) (Some h) = SameDescription qs ks g h
SameHeld qs ks None (Some h) = ⊥
SameHeld qs ks (Some g) None = ⊥

pub told-held : (qs ks : List ℕ) (o p : Option Description) (u v : List ℕ) →
    optional (description_code qs) o ++ u ≡ optional (description_code ks) p ++ v →
    SameHeld qs ks o p × (u ≡ v)
told-held qs ks o p u v e = grind (arith, decodable-test)

abbrev message : ℕ → List ℕ → Message
message a xs = record { prio = a; bytes = xs }

pub decodable-message : IsDecodable message_code
decodable-message m n u v e = grind (arith, told-bytes)

abbrev sender : ℕ → Message → Sender
sender a m = record { process = a; message = m }

pub decodable-sender : IsDecodable sender_code
decodable-sender s t u v e = grind (arith, decodable-message)

-- two lists whose items are related pair by pair
abbrev pub Pairs : (ℕ → ℕ → Type 0) → List ℕ → List ℕ → Type 0
Pairs P [] [] = Unit {0}
Pairs P (x ∷ xs) (y ∷ ys) = P x y × Pairs P xs ys
Pairs P [] (y ∷ ys) = ⊥
Pairs P (x ∷ xs) [] = ⊥

told-codes_pairs : (f g : ℕ → List ℕ) (P : ℕ → ℕ → Type 0) →
    ((a b : ℕ) (u v : List ℕ) → f a ++ u ≡ g b ++ v → P a b × (u ≡ v)) →
    (xs ys : List ℕ) (u v : List ℕ) → length xs ≡ length ys → codes f xs ++ u ≡ codes g ys ++ v →
    Pairs P xs ys × (u ≡ v)
told-codes_pairs f g P told [] [] u v n e = (tt, e)
told-codes_pairs f g P told (x ∷ xs) (y ∷ ys) u v n e =
    let first = told x y (codes f xs ++ u) (codes g ys ++ v)
    (sym (append_assoc (f x) (codes f xs) u) ∙ e ∙ append_assoc (g y) (codes g ys) v) in
    let rest = told-codes_pairs f g P told xs ys u v (omega arith) first.1 in
    ((first.0, rest.0), rest.1)
told-codes_pairs f g P told _ _ u v n e = absurd (omega arith)

pub told-pairs : (f g : ℕ → List ℕ) (P : ℕ → ℕ → Type 0) →
    ((a b : ℕ) (u v : List ℕ) → f a ++ u ≡ g b ++ v → P a b × (u ≡ v)) →
    (xs ys : List ℕ) (u v : List ℕ) → listed f xs ++ u ≡ listed g ys ++ v → Pairs P xs ys × (u ≡ v)
told-pairs f g P told xs ys u v e = told-codes_pairs f g P told xs ys u v (cc) (cc)

-- lists with an item for each number
-- ---------------------------------------------------------------

pub length-numbers : (low n : ℕ) → length (numbers_from low n) ≡ n
length-numbers low zero = refl
length-numbers low (suc n) = omega (arith, length-numbers (low + 1) n)

record DecodedNumbered (P : ℕ → Type 0) (low n : ℕ) (u v : List ℕ) : Type 0 where
  each : (p : ℕ) → low ≤ p → p < low + n → P p
  rest : u ≡ v

codes-numbered : (f g : ℕ → List ℕ) (P : ℕ → Type 0) →
    ((a : ℕ) (u v : List ℕ) → f a ++ u ≡ g a ++ v → P a × (u ≡ v)) →
    (low n : ℕ) (u v : List ℕ) → codes f (numbers_from low n) ++ u ≡ codes g (numbers_from low n) ++
    v → DecodedNumbered P low n u v
codes-numbered f g P told low zero u v e = record { each = λ p l h. absurd (omega arith); rest = e }
codes-numbered f g P told low (suc n) u v e =
    let us = codes f (numbers_from (low + 1) n) ++ u in
    let vs = codes g (numbers_from (low + 1) n) ++ v in
    let first = told low us vs (sym (append_assoc (f low) (codes f (numbers_from (low + 1) n)) u) ∙
    e ∙ append_assoc (g low) (codes g (numbers_from (low + 1) n)) v) in
    grind (arith, nat_tests, eqb-true, codes-numbered f g P told (low + 1) n u v first.1)

-- two lists that are numbered from 0
pub record AllDecoded (P : ℕ → Type 0) (n m : ℕ) (u v : List ℕ) : Type 0 where
  pub count : n ≡ m
  pub each : (p : ℕ) → p < n → P p
  pub rest : u ≡ v

pub listed-numbered : (f g : ℕ → List ℕ) (P : ℕ → Type 0) →
    ((a : ℕ) (u v : List ℕ) → f a ++ u ≡ g a ++ v → P a × (u ≡ v)) →
    (n m : ℕ) (u v : List ℕ) → listed f (numbers_from 0 n) ++ u ≡ listed g (numbers_from 0 m) ++ v →
    AllDecoded P n m u v
listed-numbered f g P told n m u v e =
    let lengths : length (numbers_from 0 n) ≡ length (numbers_from 0 m) = cc in
    let same : n ≡ m = sym (length-numbers 0 n) ∙ lengths ∙ length-numbers 0 m in
    let rest : codes f (numbers_from 0 n) ++ u ≡ codes g (numbers_from 0 m) ++ v = cc in
    let here : codes f (numbers_from 0 n) ++ u ≡ codes g (numbers_from 0 n) ++ v =
    subst (λ (k : ℕ). codes f (numbers_from 0 n) ++ u ≡ codes g (numbers_from 0 k) ++ v)
    (sym same) rest in
    let all = codes-numbered f g P told 0 n u v here in
    record { count = same; each = λ p h. all.each p (omega arith) (omega arith); rest = all.rest }
