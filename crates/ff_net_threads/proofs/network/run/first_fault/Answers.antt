use Rattle.std.proofs.Common.{rules, slice_index_or, sym, ap, ◌∙◌, subst}
use Rattle.ff_net.specs.declared.node.Node.{Node}
use Rattle.ff_net.specs.laws.Nodes.{IsSound}
use Rattle.ff_net_threads.specs.declared.links.linked.Linked.{Linked}
use Rattle.ff_net_threads.specs.laws.links.Nodes.{node_of}
use Rattle.ff_net_threads.specs.laws.links.Settling.{nodes_of}
use Rattle.ff_net_threads.proofs.NetworkLemmas.Each.{each_next}
use Rattle.ff_net_threads.proofs.NetworkLemmas.Runs.{nodes_at}
use Rattle.ff_net_threads.proofs.network.run.first_fault.Goals as goal

pub loop-k-preserved : goal.loop-k-preserved
loop-k-preserved g c =
    let view = g.M.Machine.view in
    let k = c.loop-k.k in
    let nodes = c.args.nodes.now in
    let here : IsSound view (node_of c.index-nodes-k.result) = c.fault.ensures.sound (search rules) in
    let at : (d : Node g.row.M.Denot) → IsSound view (slice_index_or (nodes_of nodes) k d) = λ d.
    subst (λ (n : Node g.row.M.Denot). IsSound view n) (sym (nodes_at nodes k d c.index-nodes-k.result (search rules) ∙ ap (λ (l : Linked g.row.M.Denot). node_of l) (sym c.index-nodes-k.is))) here in
    record { before = λ j d lt. each_next (λ n. IsSound view (slice_index_or (nodes_of nodes) n d)) k (λ i l. c.loop-k.invariant.before i d l) (at d) j lt }
