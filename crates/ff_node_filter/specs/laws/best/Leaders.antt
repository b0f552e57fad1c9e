-- What a machine that tells its best input shows.
use Rattle.ff_net.specs.laws.Views.{View}
use Rattle.ff_net.specs.declared.machine.Machine.{Ghosts as MachineGhosts}
use Rattle.ff_node_filter.specs.declared.best.leading.Leading.{Leading}
use Rattle.ff_node_filter.specs.laws.best.Views.{leading_view}

module _ {M : Type 0} {G : MachineGhosts M} where
  abbrev pub leading_shown : Leading M G → View
  leading_shown m = leading_view (G.view m.machine) m.lead
