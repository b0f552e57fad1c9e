use Rattle.std.proofs.Common.{◌≡◌, drop}
use Rattle.ff_concat.specs.laws.Tracks.{each_done}
use Rattle.ff_concat.proofs.concat.Concat.is_done.Given as goal

abbrev pub invariant-outputs : goal.invariant-outputs
invariant-outputs l = record {
  same : each_done l.self.ticks.items l.q (drop l.q l.self.tracks.items) l.self.reaches.items ≡ each_done l.self.ticks.items 0 l.self.tracks.items l.self.reaches.items;
}
