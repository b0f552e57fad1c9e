use Rattle.ff_flac_enc.specs.laws.Choice.{AreKnown}
use Rattle.ff_flac_enc.proofs.pair.choose.Given as goal

abbrev pub invariant-loop-turn : goal.invariant-loop-turn
invariant-loop-turn l = AreKnown l.bits l.left l.right l.mid l.side l.known
