-- The style of a picture is the one that is defined.
use Rattle.std.proofs.Common.{◌≡◌, refl}
use Rattle.journal_views.specs.Style.{style_text}
use Rattle.journal_views.specs.declared.picture.TheConstants.{STYLE}

pub style_is : STYLE.now ≡ style_text
unfolding style_text
style_is = refl
