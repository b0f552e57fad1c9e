use Rattle.std.proofs.Common.{◌≡◌, ◌+◌, drop}
use Rattle.std.specs.Prelude.{Some}
use Rattle.std.specs.List.{find, position_or_len}
use Rattle.ff_plan_layout.specs.Pads.{has_label, labelled_out, out_origin}
use Rattle.ff_plan_layout.proofs.making.pad_of.Given as goal

abbrev pub invariant-loop-pad : goal.invariant-loop-pad
invariant-loop-pad l = out_origin l.made.laid.graph (l.pad + position_or_len (has_label l.label) (drop l.pad l.made.outs)) (find (has_label l.label) (drop l.pad l.made.outs)) ≡ labelled_out l.label (Some l.made)
