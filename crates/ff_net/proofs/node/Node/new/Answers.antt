use Rattle.std.proofs.Common.{ap, ◌∙◌, refl, map}
use Rattle.ff_net.specs.laws.Ports.{in_wires, out_wires}
use Rattle.ff_net.proofs.Fresh.{node_fresh, in_wires_new, out_wires_new, in_new, out_new}
use Rattle.ff_net.proofs.node.Node.new.Goals as goal

pub returns-clause-ins : goal.returns-clause-ins
returns-clause-ins g c = ap (λ ps. in_wires ps) (c.in-Ok.ensures ∙ ap (λ ws. map in_new ws) c.deref.ensures.value) ∙ in_wires_new c.args.ins.items

pub returns-clause-outs : goal.returns-clause-outs
returns-clause-outs g c = ap (λ ps. out_wires ps) (c.in-Ok-out_ports.ensures ∙ ap (λ ws. map out_new ws) c.deref-2.ensures.value) ∙ out_wires_new c.args.outs.items

pub returns-clause-fresh : goal.returns-clause-fresh
returns-clause-fresh g c task s = node_fresh g.M.Machine.view _ c.args.ins.items c.args.outs.items task (c.in-Ok.ensures ∙ ap (λ ws. map in_new ws) c.deref.ensures.value) (c.in-Ok-out_ports.ensures ∙ ap (λ ws. map out_new ws) c.deref-2.ensures.value) c.requires.log refl refl s
