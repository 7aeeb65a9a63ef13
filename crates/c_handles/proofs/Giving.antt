-- What an export returns, given the result of a try.
use Rattle.std.proofs.Common.{◌≡◌, ℕ, Option, arith, rules}
use Rattle.fast_mutex.specs.Items.{Ticket}
use Rattle.mq_model.specs.Record.{Record}
use Rattle.c_handles.specs.declared.tried.Tried.{Tried}
use Rattle.c_handles.specs.Tries.{Tries, TriesWith, Gives, GivesWith}
use Rattle.c_handles.specs.Codes.{told}

-- a number with what was written, by both
pub told-both : {A : Type 0} {code code' : ℕ} {wrote wrote' : A} → code ≡ code' → wrote ≡ wrote' →
    told code wrote ≡ told code' wrote'
told-both c w = cc

pub gives_with : {R A : Type 0} (kept : Type 0) (call : Ticket Record → Ticket Record → R → Type 0)
    (says : Option (Tried R) → A) (old new : Option (Ticket Record)) (tried : Option (Tried R))
    (code : A) → GivesWith kept call (λ t. t) old new tried → code ≡ says tried →
    GivesWith kept call says old new code
gives_with kept call says old new tried code g is = search rules

bare : {R : Type 0} (kept : Type 0) (call : Ticket Record → Ticket Record → R → Type 0)
    (old new : Ticket Record) (t : Tried R) → TriesWith kept call old new t → Tries call old new t
bare kept call old new t g = search rules

-- the same of a call that fills no buffer
pub gives : {R A : Type 0} (kept : Type 0) (call : Ticket Record → Ticket Record → R → Type 0)
    (says : Option (Tried R) → A) (old new : Option (Ticket Record)) (tried : Option (Tried R))
    (code : A) → GivesWith kept call (λ t. t) old new tried → code ≡ says tried →
    Gives call says old new code
gives kept call says old new tried code g is = grind (arith, bare)
