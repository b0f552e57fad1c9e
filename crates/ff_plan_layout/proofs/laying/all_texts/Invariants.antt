use Rattle.std.proofs.Common.{◌≡◌, ◌++◌, drop, map}
use Rattle.std.specs.List.{range_with_len}
use Rattle.ff_plan_layout.specs.Texts.{Complex, texts_from}
use Rattle.ff_plan_layout.proofs.laying.all_texts.Given as goal

abbrev pub invariant-loop-output : goal.invariant-loop-output
invariant-loop-output l = l.texts.items ++ texts_from l.output (drop l.output l.outs) (drop l.output l.rows) ≡ map Complex (range_with_len 0 l.graphs) ++ texts_from 0 l.outs l.rows
