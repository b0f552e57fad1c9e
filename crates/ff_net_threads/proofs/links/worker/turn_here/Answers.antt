use Rattle.std.proofs.Common.{subst}
use Rattle.ff_net_threads.specs.declared.links.worker.Worker.{Worker}
use Rattle.ff_net_threads.specs.laws.links.Workers.{Serves}
use Rattle.ff_net_threads.proofs.LinksLemmas.Linking.{of_after}
use Rattle.ff_net_threads.proofs.links.worker.turn_here.Goals as goal

pub returns-in-Here : goal.returns-in-Here
returns-in-Here g c =
    let view = g.M.Machine.view in record {
      keeps = λ n s. c.turn_back.ensures n (subst (λ (w : Worker g.row.M.Denot). Serves view n w) c.in-Here.is s);
    }

pub turn_back-requires-clause-lawful : goal.turn_back-requires-clause-lawful
turn_back-requires-clause-lawful g c = let view = g.M.Machine.view in (subst (λ (w : Worker g.row.M.Denot). Serves view c.requires.0 w) c.in-Here.is c.requires.1).1

pub turn_back-requires-clause-cell : goal.turn_back-requires-clause-cell
turn_back-requires-clause-cell g c =
    let view = g.M.Machine.view in
    of_after view c.args.cell.now c.requires.0 _ (subst (λ (w : Worker g.row.M.Denot). Serves view c.requires.0 w) c.in-Here.is c.requires.1).0 c.requires.2
