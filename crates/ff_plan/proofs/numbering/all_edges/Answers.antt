use Rattle.std.proofs.Common.{◌<◌, ◌^◌, List, length, sym, ◌∙◌, subst}
use Rattle.ff_plan.specs.declared.number.Wire.{Wire}
use Rattle.ff_plan.proofs.ByRows.{wires_few}
use Rattle.ff_plan.proofs.numbering.all_edges.Goals as goal

pub number_ports-requires : goal.number_ports-requires
number_ports-requires c =
    let firsts = c.first_numbers-firsts.result in
    let r = c.requires in
    subst (λ (ws : List Wire). length ws < 2 ^ 32) (sym (c.as_slice.ensures.value ∙ c.in_ok-wires.ensures)) (wires_few firsts c.args.streams.now c.args.graphs.now c.args.inputs.now c.args.read.now c.args.placed.now r.read r.graphs r.ins r.placed)
