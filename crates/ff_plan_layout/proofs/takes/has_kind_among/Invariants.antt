use Rattle.std.proofs.Common.{◌≡◌, drop}
use Rattle.std.specs.List.{list_any}
use Rattle.ff_words.specs.maps.Choice.{has_kind}
use Rattle.ff_plan_layout.specs.declared.layout.InPad.{InPad}
use Rattle.ff_plan_layout.proofs.takes.has_kind_among.Given as goal

abbrev pub invariant-loop-pad : goal.invariant-loop-pad
invariant-loop-pad l = list_any (λ (i : InPad). has_kind l.kind i.head) (drop l.pad-index l.pads) ≡ list_any (λ (i : InPad). has_kind l.kind i.head) l.pads
