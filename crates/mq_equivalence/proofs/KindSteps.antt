-- The places of a kind that are left in a queue, as a loop over the records finds them.
use Rattle.std.proofs.lemmas.Grind.{common_steps}
use Rattle.std.proofs.Common.{◌≡◌, ℕ, not, List, [], ◌∷◌, ◌++◌, Option, arith}
use Rattle.std.specs.List.{filter}
use Rattle.std.specs.Option.{option_to_list}
use Rattle.std.proofs.lemmas.List.{append-nil}
use Rattle.mq_model.specs.Record.{Record, Past}
use Rattle.mq_model.specs.Messages.{is_in}
use Rattle.mq_equivalence.specs.declared.standing.Kind.{Kind}
use Rattle.mq_checker.specs.TakenTable.{unless_in}
use Rattle.mq_equivalence.specs.Kinds.{begins, begun}

begun-none : (kind : Kind) (q : ℕ) → begun kind [] q ≡ []
begun-none kind q = grind arith

pub standing-more : (past now : Past) (kind : Kind) (r : Record) (q : ℕ) (gone ks all : List ℕ)
    (o : Option ℕ) (new : List ℕ) →
    ks ++ filter (λ m. not (is_in gone m)) (begun kind now q) ≡ all → now ≡ r ∷ past →
    o ≡ unless_in gone (begins kind past r.entry q) → new ≡ ks ++ option_to_list o →
    new ++ filter (λ m. not (is_in gone m)) (begun kind past q) ≡ all
standing-more past now kind r q gone ks all o new before is found more = grind (arith, common_steps)

pub standing-all : (now : Past) (kind : Kind) (q : ℕ) (gone ks all : List ℕ) →
    ks ++ filter (λ m. not (is_in gone m)) (begun kind now q) ≡ all → now ≡ [] → ks ≡ all
standing-all now kind q gone ks all before is = grind (arith, begun-none, append-nil)
