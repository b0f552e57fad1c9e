use Rattle.std.proofs.Common.{◌≡◌, ◌++◌, ◌-◌, ◌*◌, ◌^◌, ◌<◌, ℕ, List, length, refl, ap, sym, ◌∙◌, subst, arith, rules}
use Rattle.std.proofs.lemmas.Grind.{common_steps}
use Rattle.std.proofs.lemmas.List.{length-map}
use Rattle.std.specs.Vec.Iter.{into_iter_items}
use Rattle.ff_net.specs.laws.Nodes.{machine_of, pass_of}
use Rattle.ff_sched.specs.laws.Passing.{Passing}
use Rattle.ff_net.specs.Pasts.{IsIn}
use Rattle.ff_net_threads.specs.declared.links.linked.Linked.{Linked}
use Rattle.ff_net_threads.specs.laws.links.Nodes.{node_of}
use Rattle.ff_net_threads.specs.network.Fits.{ins_at, outs_at}
use Rattle.ff_net_threads.specs.laws.network.Networks.{machines_in, ports_of}
use Rattle.ff_net_threads.specs.laws.network.Nodes.{IsLinked}
use Rattle.ff_net_threads.specs.laws.network.Scheduling.{new_pass, node_share}
use Rattle.ff_net_threads.proofs.NetworkLemmas.Each.{one_pushed}
use Rattle.ff_net_threads.proofs.NetworkLemmas.Fitting.{ins_there, outs_there}
use Rattle.ff_net_threads.proofs.NetworkLemmas.WiredUp.{new_links, new_sender_there, new_receiver_there, next_there, next_ins, next_outs, next_fits, next_linked, next_parts, later_in, later_out, wired_up, none_left, no_length, all_done}
use Rattle.ff_net_threads.proofs.NetworkLemmas.Scheduling.{split_new}
use Rattle.ff_net_threads.proofs.network.wiring.wire_up.Goals.{else-loop-number-test, then-loop-number-test+in_default-next}
use Rattle.ff_net_threads.proofs.network.wiring.wire_up.Goals as goal

pub loop-number-init : goal.loop-number-init
loop-number-init g c =
    let view = g.M.Machine.view in
    let edges = c.args.edges.now in
    let all = c.args.machines.items in
    let senders = c.in-Ok.tables.senders.items in
    let receivers = c.in-Ok.tables.receivers.items in
    let claims = g.C.Claims.claims in record {
      count = search rules;
      room = search rules;
      parts = ap (λ (ls : List (Linked g.row.M.Denot)). machines_in ls ++ into_iter_items c.into_iter-left.result) c.in-Ok-with_capacity.ensures.items ∙ c.into_iter-left.ensures.rest;
      nodes = λ k d lt. absurd (omega (arith, lt));
      seated = λ k d lt. absurd (omega (arith, lt));
      rest = c.requires.first;
      receivers = λ k w le lt i. new_receiver_there claims c.args.size edges senders receivers c.in-Ok.ensures w (ins_there (ports_of view all) (length all) edges c.requires.fits k w lt i);
      senders = λ k w le lt i. new_sender_there claims c.args.size edges senders receivers c.in-Ok.ensures w (outs_there (ports_of view all) (length all) edges c.requires.fits k w lt i);
    }

pub wire_node-requires-clause-fits : goal.wire_node-requires-clause-fits
wire_node-requires-clause-fits g c =
    let was = c.loop-number.invariant in
    let ls = c.loop-number.nodes.items in
    let m = c.in-Some.machine in
    let ys = into_iter_items c.next.new.self in
    let all = c.args.machines.items in
    let parts = ap (λ (zs : List g.row.M.Denot). machines_in ls ++ zs) (sym c.in-Some.ensures.items) ∙ was.parts in
    let long : length (machines_in ls) ≡ c.loop-number.number = length-map ls (λ (l : Linked g.row.M.Denot). machine_of (node_of l)) ∙ (sym c.loop-number.nodes.ok.0 ∙ was.count) in
    next_fits g.M.Machine.view c.args.edges.now all (machines_in ls) ys m c.loop-number.number parts long c.requires.fits

pub wire_node-requires-clause-there : goal.wire_node-requires-clause-there
wire_node-requires-clause-there g c =
    let view = g.M.Machine.view in
    let edges = c.args.edges.now in
    let was = c.loop-number.invariant in
    let ls = c.loop-number.nodes.items in
    let n = c.loop-number.number in
    let m = c.in-Some.machine in
    let ys = into_iter_items c.next.new.self in
    let all = c.args.machines.items in
    let parts = ap (λ (zs : List g.row.M.Denot). machines_in ls ++ zs) (sym c.in-Some.ensures.items) ∙ was.parts in
    let long : length (machines_in ls) ≡ n = length-map ls (λ (l : Linked g.row.M.Denot). machine_of (node_of l)) ∙ (sym c.loop-number.nodes.ok.0 ∙ was.count) in
    let there : n < length all = next_there view edges all (machines_in ls) ys m n parts long in (
      new_links g.C.Claims.claims c.args.size edges c.in-Ok.tables.senders.items c.in-Ok.tables.receivers.items c.in-Ok.ensures,
      λ w i. was.receivers n w (omega arith) there (subst (λ (ws : List ℕ). IsIn w ws) (sym (next_ins view edges all (machines_in ls) ys m n parts long)) i),
      λ w i. was.senders n w (omega arith) there (subst (λ (ws : List ℕ). IsIn w ws) (sym (next_outs view edges all (machines_in ls) ys m n parts long)) i),
    )

pub loop-number-preserved : goal.loop-number-preserved
loop-number-preserved g c =
    let view = g.M.Machine.view in
    let edges = c.args.edges.now in
    let was = c.loop-number.invariant in
    let ls = c.loop-number.nodes.items in
    let n = c.loop-number.number in
    let m = c.in-Some.machine in
    let l = c.in-Ok-wire_node.node in
    let ys = into_iter_items c.next.new.self in
    let all = c.args.machines.items in
    let parts = ap (λ (zs : List g.row.M.Denot). machines_in ls ++ zs) (sym c.in-Some.ensures.items) ∙ was.parts in
    let count : length ls ≡ n = sym c.loop-number.nodes.ok.0 ∙ was.count in
    let long : length (machines_in ls) ≡ n = length-map ls (λ (l : Linked g.row.M.Denot). machine_of (node_of l)) ∙ count in
    let there : n < length all = next_there view edges all (machines_in ls) ys m n parts long in
    let new = new_links g.C.Claims.claims c.args.size edges c.in-Ok.tables.senders.items c.in-Ok.tables.receivers.items c.in-Ok.ensures in
    let made = c.in-Ok-wire_node.ensures.linked new refl
    (λ w i. was.receivers n w (omega arith) there (subst (λ (ws : List ℕ). IsIn w ws) (sym (next_ins view edges all (machines_in ls) ys m n parts long)) i))
    (λ w i. was.senders n w (omega arith) there (subst (λ (ws : List ℕ). IsIn w ws) (sym (next_outs view edges all (machines_in ls) ys m n parts long)) i)) in
    let more = c.push_reserved.ensures.items in
    let cell = c.args.cell.now in
    let parts_of_rest = split_new cell (2 ^ 62 - n * node_share) node_share c.loop-number.rest c.split.new.pass c.in-Ok-split.pass was.rest c.in-Ok-split.ensures.ok in record {
      count = (let len = c.push_reserved.ensures.len in let e = was.count in omega arith);
      room = grind (arith, common_steps);
      parts = next_parts view edges all (machines_in ls) ys m n parts long ls c.push_reserved.new.self.items l refl more made.machine_is;
      nodes = λ k d lt. one_pushed (λ j x. IsLinked view new (ins_at (ports_of view all) edges j) (outs_at (ports_of view all) edges j) (machine_of (node_of x)) x) ls c.push_reserved.new.self.items l d n more count (λ j below. was.nodes j d below) (next_linked view edges all (machines_in ls) ys m n parts long new l made) k lt;
      seated = λ k d lt. one_pushed (λ j x. pass_of (node_of x) ≡ new_pass cell node_share) ls c.push_reserved.new.self.items l d n more count (λ j below. was.seated j d below) (c.in-Ok-wire_node.ensures.pass ∙ parts_of_rest.1) k lt;
      rest = parts_of_rest.0 ∙ ap (new_pass cell) (let few = c.requires.few in omega (arith, few, there));
      receivers = λ k w le lt i. c.wire_node.ensures.receivers new w (later_in view edges all (machines_in ls) ys m n parts long c.requires.fits k w (omega (arith, le)) lt i) (was.receivers k w (omega (arith, le)) lt i);
      senders = λ k w le lt i. c.wire_node.ensures.senders new w (later_out view edges all (machines_in ls) ys m n parts long c.requires.fits k w (omega (arith, le)) lt i) (was.senders k w (omega (arith, le)) lt i);
    }

pub returns-clause-wired : goal.returns-clause-wired
returns-clause-wired g c =
    let view = g.M.Machine.view in
    let edges = c.args.edges.now in
    let was = c.loop-number.invariant in
    let ls = c.loop-number.nodes.items in
    let all = c.args.machines.items in
    let count : length ls ≡ c.loop-number.number = sym c.loop-number.nodes.ok.0 ∙ was.count in
    let long : length (machines_in ls) ≡ c.loop-number.number = length-map ls (λ (l : Linked g.row.M.Denot). machine_of (node_of l)) ∙ count in
    let done : machines_in ls ≡ all = elim c.loop-number-test.branch [
      | else-loop-number-test w ↦ all_done (machines_in ls) (into_iter_items c.loop-number.left) all was.parts (let over = w.loop-number-test.false in let is = c.len-count.ensures in let ok = c.args.machines.ok.0 in omega (arith, over, is, ok, long))
      | then-loop-number-test+in_default-next w ↦ none_left (machines_in ls) (into_iter_items c.loop-number.left) all was.parts (no_length (into_iter_items c.loop-number.left) (let ok = c.loop-number.left.rest.ok.0 in let none = w.in_default-next.ensures.cases.0 in omega (arith, ok, none)))
    ] in
    let new = new_links g.C.Claims.claims c.args.size edges c.in-Ok.tables.senders.items c.in-Ok.tables.receivers.items c.in-Ok.ensures in
    wired_up view new edges all ls c.requires.fits refl done (λ k d lt. was.nodes k d (omega (arith, lt, count)))

pub split-requires : goal.split-requires
split-requires g c =
    let was = c.loop-number.invariant in
    let ls = c.loop-number.nodes.items in
    let n = c.loop-number.number in
    let ys = into_iter_items c.next.new.self in
    let all = c.args.machines.items in
    let parts = ap (λ (zs : List g.row.M.Denot). machines_in ls ++ zs) (sym c.in-Some.ensures.items) ∙ was.parts in
    let long : length (machines_in ls) ≡ n = length-map ls (λ (l : Linked g.row.M.Denot). machine_of (node_of l)) ∙ (sym c.loop-number.nodes.ok.0 ∙ was.count) in
    let there : n < length all = next_there g.M.Machine.view c.args.edges.now all (machines_in ls) ys c.in-Some.machine n parts long in
    let share = ap (λ (p : Passing). p.share) was.rest in
    let none = ap (λ (p : Passing). length p.log) was.rest in record {
      cell = ap (λ (p : Passing). p.cell) was.rest;
      share = (let few = c.requires.few in omega (arith, few, there, share, none));
    }

pub wire_node-requires-clause-log : goal.wire_node-requires-clause-log
wire_node-requires-clause-log g c =
    let was = c.loop-number.invariant in
    ap (λ (p : Passing). p.log) (split_new c.args.cell.now (2 ^ 62 - c.loop-number.number * node_share) node_share c.loop-number.rest c.split.new.pass c.in-Ok-split.pass was.rest c.in-Ok-split.ensures.ok).1

pub returns-clause-seated : goal.returns-clause-seated
returns-clause-seated g c =
    let was = c.loop-number.invariant in
    let count : length c.loop-number.nodes.items ≡ c.loop-number.number = sym c.loop-number.nodes.ok.0 ∙ was.count in record {
      each = λ k d lt. was.seated k d (omega (arith, lt, count));
      rest = was.rest ∙ ap (λ (n : ℕ). new_pass c.args.cell.now (2 ^ 62 - n * node_share)) (sym count);
    }
