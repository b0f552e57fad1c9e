use Rattle.std.proofs.Common.{◌≡◌, ◌≤◌, ◌<◌, ◌^◌, ℕ, List, Vec, Global, Option, IfSome, length, true, sym, ap, ◌∙◌, subst, arith}
use Rattle.std.proofs.lemmas.List.{length-map}
use Rattle.ff_stream.specs.declared.edges.edge.Edge.{Edge}
use Rattle.ff_net.specs.laws.Laws.{Laws}
use Rattle.ff_net.specs.Nets.{solve}
use Rattle.ff_net.specs.laws.Nodes.{machine_of}
use Rattle.ff_net.specs.Pasts.{Task}
use Rattle.ff_net_threads.specs.declared.links.linked.Linked.{Linked}
use Rattle.ff_net_threads.specs.laws.links.Nodes.{node_of}
use Rattle.ff_net_threads.specs.declared.network.run.NodeFault.{NodeFault}
use Rattle.ff_net_threads.specs.network.Fits.{edge_lanes, network, ins_at, outs_at}
use Rattle.ff_net_threads.specs.laws.network.Networks.{AllStart, ports_of}
use Rattle.ff_net_threads.specs.laws.network.Runs.{AllKept, TellsFault, MeetsNetwork, ReadsSuffice}
use Rattle.ff_net_threads.specs.laws.network.Scheduling.{Scheduled}
use Rattle.ff_net_threads.proofs.NetworkLemmas.Scheduling.{of_cell, all_shares, scheduled, some_weaker}
use Rattle.ff_net_threads.proofs.NetworkLemmas.WiredUp.{meets_wired, logged_wired, suffice_wired, all_of}
use Rattle.ff_net_threads.proofs.network.run.run_network.Goals as goal

pub run_net-requires-clause-cell : goal.run_net-requires-clause-cell
run_net-requires-clause-cell g c κs within =
    all_of g.M.Machine.view g.C.Claims.claims c.args.size c.args.edges.now c.args.machines.items c.in-Ok-wire_up.nodes.items c.in-Ok-wire_up.ensures.wired
    c.in-Ok-new.cell c.args.routes c.wire_up.new.rest c.in-Ok-wire_up.ensures.seated c.in-Ok-new.ensures.0 c.requires.sources

pub closed-requires : goal.closed-requires
closed-requires g c =
    let cell = c.in-Ok-new.cell in
    let nodes = c.in-Ok-wire_up.nodes.items in
    let rest = c.wire_up.new.rest in
    let passes = c.in-Ok-run_net.ended.passes.items in
    let seated = c.in-Ok-wire_up.ensures.seated in
    let passed = c.in-Ok-run_net.ensures.passes in
    let count : length nodes ≡ length c.args.machines.items = sym (length-map nodes (λ (l : Linked g.row.M.Denot). machine_of (node_of l))) ∙ ap (λ (ms : List g.row.M.Denot). length ms) c.in-Ok-wire_up.ensures.wired.machines_are in
    let few : length nodes < 2 ^ 16 = (let less = c.requires.few in omega (arith, less, count)) in record {
      cell = of_cell cell nodes rest passes seated passed;
      shares = all_shares cell nodes rest passes seated passed few;
      room = c.in-Ok-run_net.ensures.room;
    }

pub returns-in-Ok-run_net-clause-kept : goal.returns-in-Ok-run_net-clause-kept
returns-in-Ok-run_net-clause-kept g c =
    let view = g.M.Machine.view in
    subst (λ (ms : Vec g.row.M.Denot Global). AllKept view c.args.machines.items ms.items) (sym c.closed.ensures.machines)
    (subst (λ (ms : List g.row.M.Denot). AllKept view ms c.in-Ok-run_net.ended.machines.items) c.in-Ok-wire_up.ensures.wired.machines_are c.in-Ok-run_net.ensures.kept)

pub returns-in-Ok-run_net-clause-fault : goal.returns-in-Ok-run_net-clause-fault
returns-in-Ok-run_net-clause-fault g c =
    let view = g.M.Machine.view in
    subst (λ (ms : Vec g.row.M.Denot Global). TellsFault view ms.items c.closed.result.fault) (sym c.closed.ensures.machines)
    (subst (λ (f : Option NodeFault). TellsFault view c.in-Ok-run_net.ended.machines.items f) (sym c.closed.ensures.fault) c.in-Ok-run_net.ensures.fault)

pub returns-in-Ok-run_net-clause-solved : goal.returns-in-Ok-run_net-clause-solved
returns-in-Ok-run_net-clause-solved g c vouched tasks all =
    let view = g.M.Machine.view in
    let edges = c.args.edges.now in
    let machines = c.args.machines.items in
    let up = c.in-Ok-wire_up.ensures.wired in
    let nodes = c.in-Ok-wire_up.nodes.items in
    let ended = c.in-Ok-run_net.ended in
    let net = network tasks (ports_of view machines) edges (length machines) in
    let few : length (edge_lanes edges) ≤ length edges = (let same : length (edge_lanes edges) ≡ length edges = length-map edges (λ (e : Edge). e.lane) in omega (arith, same)) in
    let count : length ended.machines.items ≡ length nodes = c.in-Ok-run_net.ensures.kept.count ∙ length-map nodes (λ (l : Linked g.row.M.Denot). machine_of (node_of l)) in
    subst (λ (ms : Vec g.row.M.Denot Global). MeetsNetwork view tasks net (ins_at (ports_of view machines) edges) (outs_at (ports_of view machines) edges) ms.items c.closed.result.fault) (sym c.closed.ensures.machines)
    (subst (λ (f : Option NodeFault). MeetsNetwork view tasks net (ins_at (ports_of view machines) edges) (outs_at (ports_of view machines) edges) ended.machines.items f) (sym c.closed.ensures.fault)
    (meets_wired view g.C.Claims.claims c.args.size edges machines nodes up tasks ended.machines.items ended.fault count c.in-Ok-run_net.ensures.fault.there
    (c.in-Ok-run_net.ensures.solved tasks (edge_lanes edges) (up.begins vouched tasks all) few)))

pub returns-in-Ok-run_net-clause-suffice : goal.returns-in-Ok-run_net-clause-suffice
returns-in-Ok-run_net-clause-suffice g c vouched tasks all =
    let view = g.M.Machine.view in
    let edges = c.args.edges.now in
    let machines = c.args.machines.items in
    let up = c.in-Ok-wire_up.ensures.wired in
    let nodes = c.in-Ok-wire_up.nodes.items in
    let ended = c.in-Ok-run_net.ended in
    let net = network tasks (ports_of view machines) edges (length machines) in
    let ins = ins_at (ports_of view machines) edges in
    let outs = outs_at (ports_of view machines) edges in
    let few : length (edge_lanes edges) ≤ length edges = (let same : length (edge_lanes edges) ≡ length edges = length-map edges (λ (e : Edge). e.lane) in omega
    (arith, same)) in
    let count : length ended.machines.items ≡ length nodes = c.in-Ok-run_net.ensures.kept.count
    ∙ length-map nodes (λ (l : Linked g.row.M.Denot). machine_of (node_of l)) in
    subst (λ (ms : Vec g.row.M.Denot Global). ReadsSuffice view net ins outs ms.items c.closed.result.fault) (sym c.closed.ensures.machines)
    (subst (λ (f : Option NodeFault). ReadsSuffice view net ins outs ended.machines.items f) (sym c.closed.ensures.fault)
    (suffice_wired view g.C.Claims.claims c.args.size edges machines nodes up tasks ended.machines.items ended.fault count
    (c.in-Ok-run_net.ensures.suffice tasks (edge_lanes edges) (up.begins vouched tasks all) few)))

pub returns-in-Ok-run_net-clause-scheduled : goal.returns-in-Ok-run_net-clause-scheduled
returns-in-Ok-run_net-clause-scheduled g c =
    let view = g.M.Machine.view in
    let met = g.met.M.Machine g.world.𝓛 g.world.𝓜 g.world.𝓡 ((λ s x. x), (λ x. x), (λ x. x), λ x. x) in
    let laws : (m : g.row.M.Denot) → Laws (view m) = met.laws in
    let edges = c.args.edges.now in
    let machines = c.args.machines.items in
    let up = c.in-Ok-wire_up.ensures.wired in
    let nodes = c.in-Ok-wire_up.nodes.items in
    let ended = c.in-Ok-run_net.ended in
    let cell = c.in-Ok-new.cell in
    let ports = ports_of view machines in
    let known : (ℕ → Task) → Type 0 = λ tasks. (g.C.Claims.claims ≡ true) × AllStart view tasks machines in
    let few : length (edge_lanes edges) ≤ length edges = (let same : length (edge_lanes edges) ≡ length edges = length-map edges (λ (e : Edge). e.lane) in omega (arith, same)) in
    let count : length ended.machines.items ≡ length nodes = c.in-Ok-run_net.ensures.kept.count ∙ length-map nodes (λ (l : Linked g.row.M.Denot). machine_of (node_of l)) in
    subst (λ (ms : Vec g.row.M.Denot Global). IfSome c.closed.result.history (λ events. Scheduled view c.args.routes c.args.state known (λ tasks. solve (network tasks ports edges (length machines))) (ins_at ports edges) (outs_at ports edges) ms.items c.closed.result.fault events)) (sym c.closed.ensures.machines)
    (subst (λ (f : Option NodeFault). IfSome c.closed.result.history (λ events. Scheduled view c.args.routes c.args.state known (λ tasks. solve (network tasks ports edges (length machines))) (ins_at ports edges) (outs_at ports edges) ended.machines.items f events)) (sym c.closed.ensures.fault)
    (some_weaker c.closed.result.history _ _
    (λ events h.
    scheduled cell nodes c.wire_up.new.rest ended.passes.items c.in-Ok-wire_up.ensures.seated c.in-Ok-run_net.ensures.passes view c.args.routes c.args.state known
    (λ tasks. solve (network tasks ports edges (length machines))) (ins_at ports edges)
    (outs_at ports edges) ended.machines.items ended.fault events laws c.in-Ok-new.ensures.0 c.in-Ok-new.ensures.1 count h
    (λ tasks k. logged_wired view g.C.Claims.claims c.args.size edges machines nodes up tasks ended.machines.items ended.fault _ count (c.in-Ok-run_net.ensures.logged tasks (edge_lanes edges) (up.begins k.0 tasks k.1) few)))
    c.closed.ensures.history))
