use Rattle.std.proofs.Common.{◌≡◌, true, length}
use Rattle.ff_concat.proofs.track.Track.stop.Given as goal

abbrev pub invariant-segments : goal.invariant-segments
invariant-segments l = record {
  head : l.self.head ≡ l.fn.self.head;
  long : length l.self.backlogs.items ≡ length l.fn.self.backlogs.items;
  ended : l.self.ended ≡ l.fn.self.ended;
  stopped : l.self.stopped ≡ true;
}
