-- What a machine in the middle of a plan shows.
use Rattle.ff_net.specs.laws.Views.{View}
use Rattle.ff_net.specs.declared.machine.Machine.{Ghosts as MachineGhosts}
use Rattle.ff_run.specs.declared.build.through.Through.{Through}

module _ {M : Type 0} {G : MachineGhosts M} where
  abbrev pub through_shown : Through M G → View
  through_shown m = G.view m.machine
