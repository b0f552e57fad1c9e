use Rattle.std.proofs.Common.{◌≡◌, ◌≤◌, ◌*◌, length}
use Rattle.std.specs.Prelude.{vec_capacity}
use Rattle.ff_joins.specs.laws.Lots.{lots, cells_to}
use Rattle.ff_joins.proofs.interleaving.paired.Given as goal

abbrev pub invariant-rows : goal.invariant-rows
invariant-rows l = record {
  items : l.out.items ≡ cells_to (lots l.inlets) 2 l.row;
  long : length l.out.items ≡ l.row * 2;
  space : l.room ≤ vec_capacity l.out;
}
