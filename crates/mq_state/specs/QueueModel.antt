use Rattle.mq_state.specs.QueueShown.{QueueShown}
use Rattle.mq_state.specs.declared.queues.Queue.TheInside.{Inside}

abbrev pub shown : Inside → QueueShown
shown x = record {
  place = x.place;
  named = x.named;
  registration = x.registration;
  slots = x.slots.messages;
  cap = x.slots.cap;
  attributes = x.attributes;
  waiting = x.waiting;
}
