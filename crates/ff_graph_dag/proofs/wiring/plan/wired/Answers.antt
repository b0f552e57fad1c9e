use Rattle.std.proofs.Common.{sym, ◌∙◌, ap, length}
use Rattle.ff_graph_dag.specs.declared.graph.Plan.{Plan}
use Rattle.ff_graph_dag.specs.laws.wiring.Wires.{feeds_in, IsWired}
use Rattle.ff_graph_dag.proofs.WiringLemmas.Tying.{wires_upward, pads_within, tied_so}
use Rattle.ff_graph_dag.proofs.wiring.plan.wired.Goals as goal

pub upward_ways-requires-clause-upward : goal.upward_ways-requires-clause-upward
upward_ways-requires-clause-upward c = wires_upward (feeds_in c.args.fed.now) c.args.counts.now c.args.opens.items c.args.pads.items c.requires.linked c.in_ok-plan.plan
    c.in_ok-plan.ensures.wired

pub upward_ways-requires-clause-there : goal.upward_ways-requires-clause-there
upward_ways-requires-clause-there c = pads_within (feeds_in c.args.fed.now) c.args.counts.now c.args.opens.items c.args.pads.items c.requires.linked c.in_ok-plan.plan
    c.in_ok-plan.ensures.wired

pub returns-clause-wired : goal.returns-clause-wired
returns-clause-wired c =
    let h = c.in_ok-plan.ensures.wired in
    record { feeds = h.feeds; pads = h.pads; wires = h.wires; ins = h.ins; outs = h.outs; edges = h.edges }

pub returns-clause-tied : goal.returns-clause-tied
returns-clause-tied c =
    let h = c.in_ok-plan.ensures.wired in
    let p : Plan = record c.in_ok-plan.plan { ways = c.in_ok-plan-2.field-0 } in
    let w : IsWired (feeds_in c.args.fed.now) c.args.counts.now c.args.opens.items c.args.pads.items p =
    record { feeds = h.feeds; pads = h.pads; wires = h.wires; ins = h.ins; outs = h.outs; edges = h.edges } in
    tied_so (feeds_in c.args.fed.now) c.args.counts.now c.args.opens.items c.args.pads.items c.requires.linked p w
    (sym c.requires.inputs ∙ ap (λ v. length v.items) (sym c.in_ok-plan.ensures.ins))
    (sym c.requires.outputs ∙ ap (λ v. length v.items) (sym c.in_ok-plan.ensures.outs))
    c.in_ok-plan-2.ensures.count
    (λ q f e. let r = c.in_ok-plan-2.ensures.reached q f e in (r.0, record { pad = r.1.pad; back = r.1.back; ways = r.1.ways }))
