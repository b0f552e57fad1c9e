use Rattle.std.proofs.Common.{◌≡◌, drop, take, length}
use Rattle.ff_plan_layout.specs.Streams.{all_mapped, front_with}
use Rattle.ff_plan_layout.specs.laws.Picking.{inside_of, used_before, used_by}
use Rattle.ff_plan_layout.proofs.picking.all_mapped.Given as goal

abbrev pub invariant-loop-number : goal.invariant-loop-number
invariant-loop-number l = all_mapped (inside_of l.ready) l.out (length l.earlier) 0 (used_before l.ready.graphs.now l.earlier) l.out.maps ≡ front_with l.pads.items (all_mapped (inside_of l.ready) l.out (length l.earlier) l.number (used_by l.ready.graphs.now l.earlier (take l.number l.maps)) (drop l.number l.maps))
