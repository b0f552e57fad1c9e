use Rattle.std.proofs.Common.{◌≡◌, ◌++◌, drop, vec_len}
use Rattle.ff_words.specs.maps.Choice.{lists}
use Rattle.ff_plan_layout.specs.Pads.{wants_of}
use Rattle.ff_plan_layout.specs.laws.Rows.{flat}
use Rattle.ff_plan_layout.proofs.wanting.wants_of.Given as goal

abbrev pub invariant-loop-pad : goal.invariant-loop-pad
invariant-loop-pad g l = record {
  wants : l.row.items ++ wants_of (g.F.Filtering.rules l.filtering) l.sources (lists l.heads) l.graphs (flat l.rows ++ l.row.items) (drop l.pad-index l.pads) ≡ wants_of (g.F.Filtering.rules l.filtering) l.sources (lists l.heads) l.graphs (flat l.rows) l.pads;
  count : vec_len l.row ≡ l.pad-index;
}
