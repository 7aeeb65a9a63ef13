use Rattle.std.specs.Prelude.{length}
use Rattle.fast_mutex.specs.Items.{tickets_from}
use Rattle.script_laws.specs.StandLaws.{replies_before}
use Rattle.script_laws.proofs.Phasing.{replies-count}
use Rattle.script_laws.proofs.Standing.{stand-found, stand-observed}
use Rattle.script_laws.proofs.finds_deadlocks.Goals as goal

pub returns : goal.returns
returns c = λ script lines old new from found stop ample begins all.
    stand-found from found (length stop.stops.first) (replies_before stop) lines
    (replies-count stop.stops.first (tickets_from stop.system 1 script.processes) stop.stops.between
    stop.stops.replies stop.stops.ran)
    all (stand-observed script lines old new from stop ample begins)
