use Rattle.std.proofs.Common.{sym}
use Rattle.journal_format.proofs.Splitting.{one_journal}
use Rattle.journal_format.proofs.text.one_text.Goals as goal

pub returns : goal.returns
returns c = λ a b a_fits b_fits small same. sym (one_journal a b a_fits b_fits small same)
