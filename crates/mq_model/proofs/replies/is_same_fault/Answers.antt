use Rattle.std.proofs.Common.{◌≡◌, ℕ, ◌==◌, if◌then◌else◌, refl, sym, ◌∙◌, ap, eqb-true, eq-eqb}
use Rattle.mq_model.specs.Fault.{number_of}
use Rattle.mq_model.specs.declared.faults.Fault.{Fault}
use Rattle.mq_model.specs.declared.faults.Fault.TheVariants.{Again, BadDescriptor, Busy, Exists, Invalid, TooManyOpen, MessageSize, NameTooLong, NoEntry, NoSpace, NoMemory, TimedOut, JournalFull}
use Rattle.mq_model.proofs.replies.is_same_fault.Goals as goal

abbrev fault_of : ℕ → Fault
fault_of n =
    if n == 1 then Again
    else (if n == 2 then BadDescriptor else (if n == 3 then Busy else
    (if n == 4 then Exists else (if n == 5 then Invalid else (if n == 6 then TooManyOpen
    else (if n == 7 then MessageSize else (if n == 8 then NameTooLong else
    (if n == 9 then NoEntry else (if n == 10 then NoSpace else (if n == 11 then NoMemory else
    (if n == 12 then TimedOut else JournalFull)))))))))))

back : (f : Fault) → fault_of (number_of f) ≡ f
back Again = refl
back BadDescriptor = refl
back Busy = refl
back Exists = refl
back Invalid = refl
back TooManyOpen = refl
back MessageSize = refl
back NameTooLong = refl
back NoEntry = refl
back NoSpace = refl
back NoMemory = refl
back TimedOut = refl
back JournalFull = refl

pub returns : goal.returns
returns c = (
  λ same. let e = eqb-true c.number.result c.number-2.result same in sym (back c.args.one) ∙
      ap fault_of (sym c.number.ensures ∙ e ∙ c.number-2.ensures) ∙ back c.args.other,
  λ same. eq-eqb _ _ (c.number.ensures ∙ ap number_of same ∙ sym c.number-2.ensures),
)
