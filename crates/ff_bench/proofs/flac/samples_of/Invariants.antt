use Rattle.std.proofs.Common.{◌≡◌, ◌*◌, length}
use Rattle.std.specs.List.{All}
use Rattle.ff_frame.specs.Audio.{FitsBits}
use Rattle.ff_bench.proofs.flac.samples_of.Given as goal

abbrev pub invariant-loop : goal.invariant-loop
invariant-loop l = record { len : length l.samples.items ≡ 2 * l.counter; fit : All (FitsBits 16) l.samples.items }
