use Rattle.std.proofs.Common.{◌≡◌, ◌++◌, drop}
use Rattle.ff_mux.specs.HashTexts.{streams_from}
use Rattle.ff_mux.proofs.frame_hash.push_streams.Given as goal

abbrev pub invariant-streams : goal.invariant-streams
invariant-streams l = l.out.items ++ streams_from l.i (drop l.i l.heads) ≡ l.initial.out.items ++ streams_from 0 l.heads
