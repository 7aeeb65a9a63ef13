use Rattle.std.proofs.Common.{◌∙◌, sym}
use Rattle.c_handles.proofs.Members.{some-value}
use Rattle.c_handles.proofs.handle.Handle.take.Goals as goal

pub take-requires : goal.take-requires
take-requires c = some-value _ (sym c.args.self.now.fullness ∙ c.if-not-self.false)
