use Rattle.std.proofs.Common.{◌≡◌, ◌++◌, ◌≤◌, drop, vec_len}
use Rattle.std.specs.List.{filter_map}
use Rattle.ff_plan_layout.specs.Pads.{pad_in}
use Rattle.ff_plan_layout.proofs.making.pads_in.Given as goal

abbrev pub invariant-loop-want : goal.invariant-loop-want
invariant-loop-want l = record {
  pads : l.pads.items ++ filter_map (pad_in l.made) (drop l.want-index l.row) ≡ filter_map (pad_in l.made) l.row;
  few : vec_len l.pads ≤ l.want-index;
}
