use Rattle.std.proofs.Common.{◌≡◌, ◌≤◌, length, slice_get}
use Rattle.mq_model.specs.Record.{first}
use Rattle.mq_model.specs.Notices.{values_notified}
use Rattle.mq_checker.proofs.scan_notices.next_notice.Given as goal

abbrev pub invariant-loop-i : goal.invariant-loop-i
invariant-loop-i l = (l.seen ≡ length (values_notified (first l.i l.journal.records) l.p)) ×
    (l.seen ≤ l.i) ×
    (l.notice ≡ slice_get (values_notified (first l.i l.journal.records) l.p) l.given)
