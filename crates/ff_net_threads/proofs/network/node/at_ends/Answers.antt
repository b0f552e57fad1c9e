use Rattle.std.proofs.Common.{All, List, ap, sym, subst, ◌∙◌, ◌≡◌, ℕ}
use Rattle.ff_net.specs.declared.node.Node.{Node}
use Rattle.ff_net.specs.laws.Nodes.{machine_of, in_wires_of, out_wires_of}
use Rattle.ff_net_threads.proofs.NetworkLemmas.NewNodes.{new_wired, new_begin, new_linked}
use Rattle.ff_net_threads.proofs.network.node.at_ends.Goals as goal

pub returns-in-Ok-clause-linked : goal.returns-in-Ok-clause-linked
returns-in-Ok-clause-linked g c new lanes fits new_ins new_outs =
    let view = g.M.Machine.view in
    let n = c.in-Ok.ensures in
    let made = c.new-in-Ok.ensures in
    let node = c.in-Ok.node in
    let wires = c.args.wires in
    let ins = c.args.ins.items in
    let outs = c.args.outs.items in
    let a = c.args.in_wires.items in
    let b = c.args.out_wires.items in
    new_linked view new a b ins outs c.args.machine fits new_ins new_outs c.new-in-Ok.result
    (ap (λ (x : Node g.row.M.Denot). machine_of x) made.node ∙ n.machine)
    (ap (λ (x : Node g.row.M.Denot). in_wires_of x) made.node ∙ n.ins)
    (ap (λ (x : Node g.row.M.Denot). out_wires_of x) made.node ∙ n.outs)
    (made.lanes ∙ sym lanes)
    (subst (λ (ns : List ℕ). All (λ k. k ≡ 1) ns) (sym made.sizes) c.requires.sizes)
    made.ins made.outs
    (made.wired (new_wired view new a b ins outs c.args.machine fits new_ins new_outs node wires lanes c.requires.fresh n.ins n.outs n.machine))
    (λ vouched task s. made.lawful task (new_begin view new a b ins outs c.args.machine fits new_ins new_outs node wires lanes c.requires.fresh n.ins n.outs n.machine vouched task (n.fresh task s)))
