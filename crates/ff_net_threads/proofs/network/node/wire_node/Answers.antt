use Rattle.std.proofs.Common.{◌≡◌, ℕ, List, ap, sym, ◌∙◌, subst}
use Rattle.std.proofs.lemmas.Result.{IfOk-weaker}
use Rattle.ff_stream.specs.declared.item.Lane.{Lane}
use Rattle.ff_stream.specs.edges.Ports.{edge_to, edge_from, at_ports}
use Rattle.ff_net.specs.Pasts.{IsIn}
use Rattle.ff_net.specs.laws.Worlds.{lanes_of}
use Rattle.ff_net_threads.specs.declared.links.linked.Linked.{Linked}
use Rattle.ff_net_threads.specs.network.Fits.{edge_lanes}
use Rattle.ff_net_threads.specs.laws.network.Nodes.{FitsWires, AreNewIns, AreNewOuts, IsLinked, in_edges, out_edges}
use Rattle.ff_net_threads.specs.laws.network.Tables.{NewLinks, HaveNewSenders, HaveNewReceivers}
use Rattle.ff_net_threads.proofs.network.node.wire_node.Goals as goal

pub take_ins-ins-requires-clause-there : goal.take_ins-ins-requires-clause-there
take_ins-ins-requires-clause-there g c =
    let a = c.deref.ensures.value ∙ (c.in-Ok-edges_into.ensures ∙ ap (at_ports (edge_to c.args.edges.now c.args.number)) c.inputs.ensures) in
    (c.requires.there.0, λ w i. c.requires.there.1 w (subst (λ (ws : List ℕ). IsIn w ws) a i))

pub take_outs-outs-requires-clause-there : goal.take_outs-outs-requires-clause-there
take_outs-outs-requires-clause-there g c =
    let b = c.deref-2.ensures.value ∙ (c.in-Ok-edges_out_of.ensures ∙ ap (at_ports (edge_from c.args.edges.now c.args.number)) c.outputs.ensures) in
    (c.requires.there.0, λ w i. c.requires.there.2 w (subst (λ (ws : List ℕ). IsIn w ws) b i))

pub returns-clause-linked : goal.returns-clause-linked
returns-clause-linked g c =
    let view = g.M.Machine.view in
    let edges = c.args.edges.now in
    let number = c.args.number in
    let machine = c.args.machine in
    let ins = c.in-Ok-edges_into.in_wires.items in
    let outs = c.in-Ok-edges_out_of.out_wires.items in
    let a : ins ≡ in_edges view edges number machine = c.in-Ok-edges_into.ensures ∙ ap (at_ports (edge_to edges number)) c.inputs.ensures in
    let b : outs ≡ out_edges view edges number machine = c.in-Ok-edges_out_of.ensures ∙ ap (at_ports (edge_from edges number)) c.outputs.ensures in
    let before : Linked g.row.M.Denot → Type 0 = λ l. (new : NewLinks) → new.lanes ≡ lanes_of c.in-Ok.wires → FitsWires view new.lanes ins outs machine → AreNewIns new ins c.take_ins-ins.result.items → AreNewOuts new outs c.take_outs-outs.result.items → IsLinked view new ins outs machine l in
    let after : Linked g.row.M.Denot → Type 0 = λ l. (new : NewLinks) → new.lanes ≡ edge_lanes edges → HaveNewReceivers new c.args.tables.now.receivers.items (in_edges view edges number machine) → HaveNewSenders new c.args.tables.now.senders.items (out_edges view edges number machine)
    → IsLinked view new (in_edges view edges number machine) (out_edges view edges number machine) machine l in
    IfOk-weaker c.at_ends.result before after
    (λ l h new lanes has_in has_out.
    let fits : FitsWires view new.lanes ins outs machine =
    subst (λ (ls : List Lane). FitsWires view ls ins outs machine) (sym lanes) (subst (λ (ws : List ℕ). FitsWires view (edge_lanes edges) ws outs machine) (sym a) (subst (λ (ws : List ℕ). FitsWires view (edge_lanes edges) (in_edges view edges number machine) ws machine) (sym b) c.requires.fits)) in
    let new_ins : AreNewIns new ins c.take_ins-ins.result.items =
    subst (λ (ws : List ℕ). AreNewIns new ws c.take_ins-ins.result.items) c.deref.ensures.value (c.take_ins-ins.ensures.ends new (λ w i. has_in w (subst (λ (ws : List ℕ). IsIn w ws) (c.deref.ensures.value ∙ a) i))) in
    let new_outs : AreNewOuts new outs c.take_outs-outs.result.items =
    subst (λ (ws : List ℕ). AreNewOuts new ws c.take_outs-outs.result.items) c.deref-2.ensures.value (c.take_outs-outs.ensures.ends new (λ w i. has_out w (subst (λ (ws : List ℕ). IsIn w ws) (c.deref-2.ensures.value ∙ b) i))) in
    subst (λ (ws : List ℕ). IsLinked view new (in_edges view edges number machine) ws machine l) b (subst (λ (ws : List ℕ). IsLinked view new ws outs machine l) a (h new (lanes ∙ sym c.in-Ok.ensures.lanes) fits new_ins new_outs)))
    c.at_ends.ensures.linked
