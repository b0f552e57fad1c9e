use Rattle.std.proofs.Common.{◌≡◌, ◌++◌, map, drop}
use Rattle.ff_plan_layout.specs.Choice.{kind_of}
use Rattle.ff_plan_layout.specs.declared.layout.InPad.{InPad}
use Rattle.ff_plan_layout.specs.Streams.{simple_of}
use Rattle.ff_plan_layout.specs.Texts.{simple_or_null}
use Rattle.ff_plan_layout.proofs.laying.add_texts_of.Given as goal

abbrev pub invariant-loop-pad : goal.invariant-loop-pad
invariant-loop-pad l = l.texts.items ++ map (λ (i : InPad). simple_or_null l.output (kind_of i.head) (simple_of l.out (kind_of i.head))) (drop l.pad-index l.laid.ins) ≡ l.initial.texts.items ++ map (λ (i : InPad). simple_or_null l.output (kind_of i.head) (simple_of l.out (kind_of i.head))) l.laid.ins
