-- When two replies are one.
use Rattle.std.proofs.Common.{◌≡◌}
use Rattle.mq_model.specs.declared.entries.Status.{Status}

pub status_from : (a b : Status) → a.nonblock ≡ b.nonblock → a.maxmsg ≡ b.maxmsg →
    a.msgsize ≡ b.msgsize → a.curmsgs ≡ b.curmsgs → a ≡ b
status_from a b p q r s = λ i. record { nonblock = p i; maxmsg = q i; msgsize = r i; curmsgs = s i }
