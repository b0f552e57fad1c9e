use Rattle.std.proofs.Common.{◌≡◌, ◌≤◌, List, length, vec_items, vec_len, vec_capacity}
use Rattle.ff_run_plan.specs.Asked.{asked_of}
use Rattle.ff_run_plan.specs.Parts.{AllAside, AreParts}
use Rattle.ff_run_plan.proofs.build.build.Given as goal

abbrev pub invariant-loop-number : goal.invariant-loop-number
invariant-loop-number g l = record {
  count : vec_len l.parts ≡ l.number;
  room : length l.nodes ≤ vec_capacity l.parts;
  src_count : length l.places.srcs.items ≡ length l.fn.places.srcs.items;
  snk_count : length l.places.snks.items ≡ length l.fn.places.snks.items;
  made : (srcs : List g.row.Src.Denot) (snks : List g.row.Snk.Denot) → AllAside srcs l.fn.places.srcs.items → AllAside snks l.fn.places.snks.items
      → AreParts g.K.Kinds.is g.Src.Source.left g.Src.Source.name g.Src.Source.faults g.Snk.Sink.holds g.Snk.Sink.name g.Snk.Sink.faults g.M.Machine.view
      (asked_of l.job l.texts l.made l.nodes) l.heads l.edges l.nodes srcs snks (vec_items l.parts) l.places.srcs.items l.places.snks.items;
}
