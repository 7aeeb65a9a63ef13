use Rattle.std.proofs.Common.{◌≡◌, sym, string_bytes}
use Rattle.journal_views.specs.Picture.{flight_text, ends_text}
use Rattle.journal_views.proofs.picture.flight_text.Goals as goal

pub returns : goal.returns
unfolding flight_text
returns c =
    let ends : ends_text c.args.stroke ≡ string_bytes c.in_ok-ends.ends =
    sym c.in_ok-ends.ensures in
    simp ends c.format.ensures.ok
