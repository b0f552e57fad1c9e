use Rattle.std.proofs.Common.{◌≡◌, ◌++◌, ◌+◌, ◌≤◌, drop, vec_len}
use Rattle.std.specs.List.{filter_map}
use Rattle.ff_plan_layout.specs.Sources.{made_at_pad}
use Rattle.ff_plan_layout.proofs.sources.add_sources.Given as goal

abbrev pub invariant-loop-pad : goal.invariant-loop-pad
invariant-loop-pad l = record {
  items : l.all.items ++ filter_map made_at_pad (drop l.pad-index l.pads) ≡ l.initial.all.items ++ filter_map made_at_pad l.pads;
  few : vec_len l.all ≤ vec_len l.initial.all + l.pad-index;
}
