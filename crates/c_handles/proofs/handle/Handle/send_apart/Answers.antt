use Rattle.c_handles.proofs.Giving.{gives}
use Rattle.c_handles.specs.Codes.{code_of, sent_code}
use Rattle.c_handles.proofs.handle.Handle.send_apart.Goals as goal

pub returns : goal.returns
returns c = gives _ _ (code_of sent_code) _ _ _ _ c.make-tried.ensures c.sent.ensures
