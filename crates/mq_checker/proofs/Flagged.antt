-- A description whose flag was set later.
use Rattle.std.proofs.Common.{◌≡◌, Bool, Option, Some, None, arith}
use Rattle.std.specs.Option.{option_map, unwrap_or}
use Rattle.mq_model.specs.Descriptors.{with_nonblock}
use Rattle.mq_model.specs.declared.entries.Description.{Description}

abbrev pub flagged : Option Bool → Option Description → Option Description
flagged None h = h
flagged (Some f) h = option_map (with_nonblock f) h

pub flagged_twice : (flag : Option Bool) (f : Bool) (h : Option Description) →
    flagged flag (option_map (with_nonblock f) h) ≡ flagged (Some (unwrap_or flag f)) h
flagged_twice flag f h = grind arith
