use Rattle.std.proofs.Common.{ℕ, ◌≤◌, List, length, sym, subst}
use Rattle.ff_net_threads.specs.declared.links.linked.Linked.{Linked}
use Rattle.ff_net_threads.specs.laws.links.Rooms.{links_of}
use Rattle.ff_net_threads.specs.laws.links.Settling.{nodes_of}
use Rattle.ff_net_threads.proofs.LinksLemmas.After.{ended_after, linked_after}
use Rattle.ff_net_threads.specs.laws.network.Runs.{FirstFault}
use Rattle.ff_net_threads.proofs.NetworkLemmas.Runs.{all_kept, all_passed, tells_fault, ran_meets, ran_logged, ran_suffice}
use Rattle.ff_net_threads.proofs.network.run.run_net.Goals as goal

pub settle_all-ran-requires-clause-ended : goal.settle_all-ran-requires-clause-ended
settle_all-ran-requires-clause-ended g c = ended_after g.M.Machine.view c.args.nodes.items c.in-Ok-run_threads.done.items c.in-Ok-run_threads.ensures.ok

pub settle_all-ran-requires-clause-linked : goal.settle_all-ran-requires-clause-linked
settle_all-ran-requires-clause-linked g c = (c.requires.linked.0, linked_after g.M.Machine.view c.requires.linked.0 c.args.nodes.items c.in-Ok-run_threads.done.items c.requires.linked.1 c.in-Ok-run_threads.ensures.ok)

pub returns-in-Ok-run_threads-clause-kept : goal.returns-in-Ok-run_threads-clause-kept
returns-in-Ok-run_threads-clause-kept g c =
    let done = c.in-Ok-run_threads.done.items in
    let s = c.settle_all-ran in
    all_kept g.M.Machine.view c.args.nodes.items done c.in-Ok-run_threads.ensures.ok s.result.machines.items s.ensures.count s.ensures.machines

pub returns-in-Ok-run_threads-clause-fault : goal.returns-in-Ok-run_threads-clause-fault
returns-in-Ok-run_threads-clause-fault g c =
    let view = g.M.Machine.view in
    let done = c.in-Ok-run_threads.done.items in
    let s = c.settle_all-ran in
    let fault = c.first_fault-fault.result in
    let first : FirstFault view (nodes_of done) fault = subst (λ (xs : List (Linked g.row.M.Denot)). FirstFault view (nodes_of xs) fault) c.deref.ensures.value c.first_fault-fault.ensures in
    tells_fault view c.args.nodes.items done c.in-Ok-run_threads.ensures.ok s.result.machines.items s.ensures.count s.ensures.machines fault first

pub returns-in-Ok-run_threads-clause-solved : goal.returns-in-Ok-run_threads-clause-solved
returns-in-Ok-run_threads-clause-solved g c tasks lanes begin le =
    let view = g.M.Machine.view in
    let done = c.in-Ok-run_threads.done.items in
    let s = c.settle_all-ran in
    let fault = c.first_fault-fault.result in
    let first : FirstFault view (nodes_of done) fault = subst (λ (xs : List (Linked g.row.M.Denot)). FirstFault view (nodes_of xs) fault) c.deref.ensures.value c.first_fault-fault.ensures in
    let few : length lanes ≤ links_of c.in-Ok.room = subst (λ (n : ℕ). length lanes ≤ n) (sym c.in-Ok.ensures.links) le in
    ran_meets view c.args.nodes.items done c.in-Ok-run_threads.ensures.ok s.result.machines.items s.ensures.count s.ensures.machines tasks lanes begin (links_of c.in-Ok.room) s.ensures.solved few fault first

pub returns-in-Ok-run_threads-clause-suffice : goal.returns-in-Ok-run_threads-clause-suffice
returns-in-Ok-run_threads-clause-suffice g c tasks lanes begin le =
    let view = g.M.Machine.view in
    let done = c.in-Ok-run_threads.done.items in
    let s = c.settle_all-ran in
    let fault = c.first_fault-fault.result in
    let first : FirstFault view (nodes_of done) fault = subst (λ (xs : List (Linked g.row.M.Denot)). FirstFault view
    (nodes_of xs) fault) c.deref.ensures.value c.first_fault-fault.ensures in
    let few : length lanes ≤ links_of c.in-Ok.room = subst (λ (n : ℕ). length lanes ≤ n) (sym c.in-Ok.ensures.links) le in
    ran_suffice view c.args.nodes.items done c.in-Ok-run_threads.ensures.ok s.result.machines.items s.ensures.count s.ensures.machines tasks lanes begin
    (links_of c.in-Ok.room) s.ensures.solved few fault first

pub returns-in-Ok-run_threads-clause-passes : goal.returns-in-Ok-run_threads-clause-passes
returns-in-Ok-run_threads-clause-passes g c =
    let done = c.in-Ok-run_threads.done.items in
    let s = c.settle_all-ran in
    all_passed g.M.Machine.view c.args.nodes.items done c.in-Ok-run_threads.ensures.ok s.result.machines.items s.ensures.count s.ensures.machines s.result.passes.items s.ensures.passes

pub returns-in-Ok-run_threads-clause-logged : goal.returns-in-Ok-run_threads-clause-logged
returns-in-Ok-run_threads-clause-logged g c tasks lanes begin le =
    let view = g.M.Machine.view in
    let done = c.in-Ok-run_threads.done.items in
    let s = c.settle_all-ran in
    let fault = c.first_fault-fault.result in
    let first : FirstFault view (nodes_of done) fault = subst (λ (xs : List (Linked g.row.M.Denot)). FirstFault view (nodes_of xs) fault) c.deref.ensures.value c.first_fault-fault.ensures in
    let few : length lanes ≤ links_of c.in-Ok.room = subst (λ (n : ℕ). length lanes ≤ n) (sym c.in-Ok.ensures.links) le in
    ran_logged view c.args.nodes.items done c.in-Ok-run_threads.ensures.ok s.result.machines.items s.ensures.count s.ensures.machines tasks lanes begin (links_of c.in-Ok.room) s.ensures.solved few fault first s.result.passes.items s.ensures.passes
