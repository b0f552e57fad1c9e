use Rattle.std.proofs.Common.{◌≡◌, drop}
use Rattle.std.specs.Prelude.{◌&&◌}
use Rattle.ff_concat.specs.ConcatOptions.{in_turn}
use Rattle.ff_concat.proofs.configured.are_of_kinds.Given as goal

abbrev pub invariant-heads : goal.invariant-heads
invariant-heads l = record {
  same : in_turn l.video l.both (drop l.p l.heads) ≡ in_turn l.asked.video l.both l.heads;
  both : l.both ≡ (l.asked.video && l.asked.audio);
}
