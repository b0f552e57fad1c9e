use Rattle.std.proofs.Common.{◌≡◌, List, length, sym, ◌∙◌, subst}
use Rattle.ff_net_threads.specs.declared.links.worker.Worker.{Worker}
use Rattle.ff_net_threads.specs.laws.links.Workers.{AllServe}
use Rattle.ff_net_threads.proofs.LinksLemmas.Served.{written_back}
use Rattle.ff_net_threads.proofs.links.threads.run_in.Goals as goal

pub rounds-requires : goal.rounds-requires
rounds-requires g c =
    let view = g.M.Machine.view in
    (c.args.nodes.items, subst (λ (ws : List (Worker g.row.M.Denot)). AllServe view c.args.nodes.items ws) (sym c.as_mut_slice.ensures.value) c.start_all-workers.ensures, c.requires.cell)

pub finish_all-requires-clause-serve : goal.finish_all-requires-clause-serve
finish_all-requires-clause-serve g c =
    let view = g.M.Machine.view in
    let All : List (Worker g.row.M.Denot) → Type 0 = λ ws. AllServe view c.args.nodes.items ws in
    let after : All c.rounds.new.workers = c.rounds.ensures c.args.nodes.items (subst All (sym c.as_mut_slice.ensures.value) c.start_all-workers.ensures) in
    let same : length c.rounds.new.workers ≡ length c.start_all-workers.result.items = after.0 ∙ sym c.start_all-workers.ensures.0 in
    (c.args.nodes.items, subst All (sym (written_back c.rounds.new.workers c.start_all-workers.result.items _ c.start_all-workers.result.ok.0 same)) after, c.requires.cell)

pub returns : goal.returns
returns g c =
    let view = g.M.Machine.view in
    let All : List (Worker g.row.M.Denot) → Type 0 = λ ws. AllServe view c.args.nodes.items ws in
    let after : All c.rounds.new.workers = c.rounds.ensures c.args.nodes.items (subst All (sym c.as_mut_slice.ensures.value) c.start_all-workers.ensures) in
    let same : length c.rounds.new.workers ≡ length c.start_all-workers.result.items = after.0 ∙ sym c.start_all-workers.ensures.0 in
    c.finish_all.ensures c.args.nodes.items (subst All (sym (written_back c.rounds.new.workers c.start_all-workers.result.items _ c.start_all-workers.result.ok.0 same)) after)
