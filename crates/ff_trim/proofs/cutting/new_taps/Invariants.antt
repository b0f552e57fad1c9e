use Rattle.std.proofs.Common.{take}
use Rattle.ff_trim.specs.laws.Taps.{ways_of, AreNewWays}
use Rattle.ff_trim.proofs.cutting.new_taps.Given as goal

abbrev pub invariant-heads : goal.invariant-heads
invariant-heads l = AreNewWays (take l.q l.heads) (take l.q l.cuts) (ways_of l.taps.items)
