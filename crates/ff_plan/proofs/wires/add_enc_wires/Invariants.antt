use Rattle.std.proofs.Common.{◌≡◌, ◌++◌, map, drop}
use Rattle.ff_plan.specs.laws.Numbering.{enc_wire_in}
use Rattle.ff_plan.proofs.wires.add_enc_wires.Given as goal

abbrev pub invariant-loop-one : goal.invariant-loop-one
invariant-loop-one l = l.wires.items ++ map (enc_wire_in l.firsts) (drop l.one-index l.placed) ≡ l.initial.wires.items ++ map (enc_wire_in l.firsts) l.placed
