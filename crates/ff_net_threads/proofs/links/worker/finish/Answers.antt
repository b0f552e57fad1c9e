use Rattle.std.proofs.Common.{◌≡◌, subst}
use Rattle.ff_net_threads.specs.declared.links.linked.Linked.{Linked}
use Rattle.ff_net_threads.specs.declared.links.worker.Worker.{Worker}
use Rattle.ff_net_threads.specs.laws.links.Runs.{Came}
use Rattle.ff_net_threads.specs.laws.links.Workers.{Serves}
use Rattle.ff_net_threads.proofs.LinksLemmas.Linking.{of_after}
use Rattle.ff_net_threads.proofs.links.worker.finish.Goals as goal

pub returns-in-Runs : goal.returns-in-Runs
returns-in-Runs g c n s =
    let view = g.M.Machine.view in
    let same : c.in-Runs.handle.promise.0.value ≡ n = subst (λ (w : Worker g.row.M.Denot). Serves view n w) c.in-Runs.is s in
    c.finish_back.ensures n (subst (λ (x : Linked g.row.M.Denot). Came view x c.join.result) same c.join.ensures)

pub returns-in-Here : goal.returns-in-Here
returns-in-Here g c n s =
    let view = g.M.Machine.view in
    c.finish_back-in-Here.ensures n (subst (λ (w : Worker g.row.M.Denot). Serves view n w) c.in-Here.is s)

pub finish_back-requires : goal.finish_back-requires
finish_back-requires g c =
    let view = g.M.Machine.view in
    let n = c.requires.0 in
    let same : c.in-Runs.handle.promise.0.value ≡ n = subst (λ (w : Worker g.row.M.Denot). Serves view n w) c.in-Runs.is c.requires.1 in
    let came = subst (λ (x : Linked g.row.M.Denot). Came view x c.join.result) same c.join.ensures in
    record { lawful = came.1; cell = of_after view c.args.cell.now n _ came.0 c.requires.2 }

pub finish_back-requires-in-Here : goal.finish_back-requires-in-Here
finish_back-requires-in-Here g c =
    let view = g.M.Machine.view in
    let n = c.requires.0 in
    let came = subst (λ (w : Worker g.row.M.Denot). Serves view n w) c.in-Here.is c.requires.1 in
    record { lawful = came.1; cell = of_after view c.args.cell.now n _ came.0 c.requires.2 }
