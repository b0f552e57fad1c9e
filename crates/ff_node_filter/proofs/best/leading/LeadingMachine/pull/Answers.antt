use Rattle.std.proofs.Common.{refl}
use Rattle.ff_net.specs.Pasts.{gave_item}
use Rattle.ff_node_filter.specs.laws.best.Views.{quiet}
use Rattle.ff_node_filter.proofs.BestLemmas.Moving.{moves}
use Rattle.ff_node_filter.proofs.best.leading.LeadingMachine.pull.Goals as goal

pub returns-clause-gives : goal.returns-clause-gives
returns-clause-gives g c = λ x e past s on.
    let h = c.pull.ensures.gives x e (quiet past) s.inner on in (
      moves (g.M.Machine.view c.args.self.now.machine) (g.M.Machine.view c.pull.new.self) c.args.self.now.lead past (gave_item past c.args.port x)
          c.pull.ensures.shape refl refl refl s (h.0),
      h.1,
      h.2,
    )
