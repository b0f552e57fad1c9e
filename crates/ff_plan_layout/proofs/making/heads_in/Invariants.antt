use Rattle.std.proofs.Common.{◌≡◌, ◌++◌, map, drop}
use Rattle.ff_plan_layout.specs.Pads.{Want, pad_in, head_in}
use Rattle.ff_plan_layout.proofs.making.heads_in.Given as goal

abbrev pub invariant-loop-want : goal.invariant-loop-want
invariant-loop-want l = l.heads.items ++ map (λ (w : Want). head_in (pad_in l.made w)) (drop l.want-index l.row) ≡ map (λ (w : Want). head_in (pad_in l.made w)) l.row
