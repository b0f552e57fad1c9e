use Rattle.std.proofs.Common.{◌≡◌, ◌≤◌, length, take}
use Rattle.std.specs.Prelude.{vec_capacity}
use Rattle.ff_joins.specs.JoinView.{AreEmpty}
use Rattle.ff_joins.proofs.join_configured.inlets_of.Given as goal

abbrev pub invariant-inlets : goal.invariant-inlets
invariant-inlets l = record {
  empty : AreEmpty (take l.p l.heads) l.inlets.items;
  count : length l.inlets.items ≡ l.p;
  room : length l.heads ≤ vec_capacity l.inlets;
}
