use Rattle.std.proofs.Common.{◌≡◌, length}
use Rattle.ff_node_flac.specs.laws.Queues.{format_of_queue, queue_ended, StillQueues}
use Rattle.ff_node_flac.proofs.queue.Queue.cut_all.Given as goal

abbrev pub invariant-loop-turn : goal.invariant-loop-turn
invariant-loop-turn l = record {
  still : StillQueues l.fn.self l.self;
  count : length l.self.cut.items ≡ l.turn;
  ended : queue_ended l.self ≡ queue_ended l.fn.self;
  format : format_of_queue l.self ≡ format_of_queue l.fn.self;
  codes : l.self.codes.items ≡ l.fn.self.codes.items;
}
