use Rattle.std.proofs.Common.{◌≡◌, ◌<◌, ◌*◌, ℕ, length, take, drop}
use Rattle.ff_joins.specs.laws.JoinCuts.{width_to}
use Rattle.ff_joins.specs.laws.Lots.{lots, row_to}
use Rattle.ff_joins.proofs.interleaving.put_inputs.Given as goal

abbrev pub invariant-inputs : goal.invariant-inputs
invariant-inputs l = record {
  column : l.column ≡ width_to (lots l.inlets) l.p;
  len : length l.out ≡ l.count * l.wide;
  rows : (r : ℕ) → r < l.count → take (width_to (lots l.inlets) l.p) (drop (r * l.wide) l.out) ≡ row_to (lots l.inlets) l.p r;
}
