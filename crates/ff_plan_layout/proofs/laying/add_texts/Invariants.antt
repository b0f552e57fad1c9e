use Rattle.std.proofs.Common.{◌≡◌, ◌++◌, drop}
use Rattle.ff_plan_layout.specs.Texts.{texts_of_row}
use Rattle.ff_plan_layout.proofs.laying.add_texts.Given as goal

abbrev pub invariant-loop-passed : goal.invariant-loop-passed
invariant-loop-passed l = l.texts.items ++ texts_of_row l.output l.out (drop l.passed-index l.row) ≡ l.initial.texts.items ++ texts_of_row l.output l.out l.row
