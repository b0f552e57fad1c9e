use Rattle.std.proofs.Common.{◌≡◌, ◌≤◌, ◌^◌}
use Rattle.ff_concat.specs.laws.Tracks.{cut_from}
use Rattle.ff_concat.proofs.track.Track.is_cut.Given as goal

abbrev pub invariant-segments : goal.invariant-segments
invariant-segments l = record {
  same : cut_from l.ticks l.number l.self l.reaches l.before l.segment l.begin l.end
      ≡ cut_from l.ticks l.number l.self l.reaches l.self.before l.self.current l.self.begin l.self.end;
  few : l.before ≤ 2 ^ 64;
  from : l.self.current ≤ l.segment;
  here : l.segment ≡ l.self.current → l.begin ≡ l.self.begin;
}
