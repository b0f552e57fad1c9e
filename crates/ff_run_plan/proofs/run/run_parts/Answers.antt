use Rattle.std.proofs.Common.{◌≡◌, true, None, List, length, Option, sym, ap, ◌∙◌, subst}
use Rattle.std.specs.declared.alloc.Global.{Global}
use Rattle.std.specs.declared.vec.Vec.{Vec}
use Rattle.ff_net_threads.specs.declared.network.run.NodeFault.{NodeFault}
use Rattle.ff_net_threads.specs.network.Fits.{network, ins_at, outs_at}
use Rattle.ff_net_threads.specs.laws.network.Networks.{AllStart, ports_of}
use Rattle.ff_net_threads.specs.laws.network.Runs.{MeetsNetwork}
use Rattle.ff_net.specs.Nets.{solve}
use Rattle.ff_net_threads.specs.laws.network.Scheduling.{Scheduled}
use Rattle.ff_run_plan.specs.Openings.{unstarted}
use Rattle.ff_run_plan.specs.laws.Runs.{TellsRun}
use Rattle.ff_run_plan.proofs.Histories.{none_known, of_log, or_memory_none, or_memory_told, some_told, with_history}
use Rattle.ff_run_plan.proofs.Networks.{told_tells, told_meets, unstarted_meets}
use Rattle.ff_run_plan.proofs.run.run_parts.Goals as goal

pub returns-in-Ok-clause-tells : goal.returns-in-Ok-clause-tells
returns-in-Ok-clause-tells g c =
    let ran = c.in-Ok.field-0 in
    subst (λ (f : Option NodeFault). TellsRun g.M.Machine.view ran.machines.items f) (sym c.fault_or_memory.ensures) (told_tells g.M.Machine.view ran.machines.items ran.fault _ c.in-Ok.ensures.fault)

pub returns-in-Ok-clause-solved : goal.returns-in-Ok-clause-solved
returns-in-Ok-clause-solved g c = λ vouched tasks all.
    let view = g.M.Machine.view in
    let parts = c.args.parts.items in
    let edges = c.args.edges.now in
    let ran = c.in-Ok.field-0 in
    let whole = network tasks (ports_of view parts) edges (length parts) in
    let ins = ins_at (ports_of view parts) edges in
    let outs = outs_at (ports_of view parts) edges in
    subst (λ (f : Option NodeFault). MeetsNetwork view tasks whole ins outs ran.machines.items f) (sym c.fault_or_memory.ensures)
    (told_meets view tasks whole ins outs ran.machines.items ran.fault _ (c.in-Ok.ensures.solved vouched tasks all))

pub returns-in-Err-clause-solved : goal.returns-in-Err-clause-solved
returns-in-Err-clause-solved g c = λ vouched tasks all.
    unstarted_meets g.M.Machine.view tasks _ _ _ c.unstarted.result.machines.items c.unstarted.result.fault c.unstarted.ensures.fault
    (subst (λ (ms : List g.row.M.Denot). AllStart g.M.Machine.view tasks ms) (sym (ap (λ (v : Vec g.row.M.Denot Global). v.items) c.unstarted.ensures.machines ∙ c.in-Err.ensures.back)) all)

pub returns-in-Ok-clause-told : goal.returns-in-Ok-clause-told
returns-in-Ok-clause-told g c = λ none.
    let ran = c.in-Ok.field-0 in
    some_told c.logged-log.result (sym c.is_some.ensures ∙ or_memory_told ran.fault c.is_some.result (sym c.fault_or_memory.ensures ∙ none))

pub returns-in-Ok-clause-scheduled : goal.returns-in-Ok-clause-scheduled
returns-in-Ok-clause-scheduled g c =
    let view = g.M.Machine.view in
    let parts = c.args.parts.items in
    let edges = c.args.edges.now in
    let opening = c.args.opening in
    let ran = c.in-Ok.field-0 in
    with_history
    (λ fault log. Scheduled view opening.routes opening.state (λ tasks. (g.C.Claims.claims ≡ true) × AllStart view tasks parts)
    (λ tasks. solve (network tasks (ports_of view parts) edges (length parts))) (ins_at (ports_of view parts) edges) (outs_at (ports_of view parts) edges) ran.machines.items fault log.history)
    c.logged-log.result ran.fault c.fault_or_memory.result c.is_some.result c.is_some.ensures c.fault_or_memory.ensures
    (of_log
    (λ events. Scheduled view opening.routes opening.state (λ tasks. (g.C.Claims.claims ≡ true) × AllStart view tasks parts)
    (λ tasks. solve (network tasks (ports_of view parts) edges (length parts))) (ins_at (ports_of view parts) edges) (outs_at (ports_of view parts) edges) ran.machines.items ran.fault events)
    ran.history c.logged-log.result c.logged-log.ensures.history c.in-Ok.ensures.scheduled)

pub returns-in-Ok-clause-suffice : goal.returns-in-Ok-clause-suffice
returns-in-Ok-clause-suffice g c = λ vouched tasks all none.
    let ran = c.in-Ok.field-0 in
    c.in-Ok.ensures.suffice vouched tasks all (or_memory_none ran.fault c.is_some.result (sym c.fault_or_memory.ensures ∙ none))

pub returns-in-Err-clause-suffice : goal.returns-in-Err-clause-suffice
returns-in-Err-clause-suffice g c = λ vouched tasks all none. absurd (let both : None ≡ unstarted = sym none ∙ c.unstarted.ensures.fault in cc)

pub returns-in-Err-clause-scheduled : goal.returns-in-Err-clause-scheduled
returns-in-Err-clause-scheduled g c = none_known _ c.unstarted.result.log c.unstarted.ensures.log

pub returns-in-Err-clause-reads : goal.returns-in-Err-clause-reads
returns-in-Err-clause-reads g c = none_known _ c.unstarted.result.log c.unstarted.ensures.log
