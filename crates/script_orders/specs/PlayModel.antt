use Rattle.std.specs.Prelude.{◌≡◌, ◌≤◌, length}
use Rattle.mq_model.specs.Legality.{Legal}
use Rattle.script_orders.specs.Stage.{Stage}
use Rattle.script_orders.specs.declared.play.Play.TheInside.{Inside}

abbrev pub shown : Inside → Stage
shown x = record {
  programs = x.programs.items;
  phases = x.phases;
  script = x.script.items;
  start = x.start.records;
  phase = x.phase;
  past = x.trail;
  seats = x.seats.items;
}

pub record AreSeated (x : Inside) : Type 0 where
  pub few : length x.programs.items ≤ 32
  pub legal : Legal x.start.records
  pub count : length x.seats.items ≡ length x.programs.items
