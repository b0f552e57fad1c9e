use Rattle.std.proofs.Common.{◌≡◌, ◌+◌, ◌≤◌, drop}
use Rattle.ff_stream.specs.edges.Ports.{tally}
use Rattle.ff_plan_layout.specs.Pads.{is_source}
use Rattle.ff_plan_layout.proofs.wanting.sources_in_row.Given as goal

abbrev pub invariant-loop-want : goal.invariant-loop-want
invariant-loop-want l = record {
  rest : l.count + tally (is_source l.inputs) (drop l.want-index l.row) ≡ tally (is_source l.inputs) l.row;
  low : l.count ≤ l.want-index;
}
