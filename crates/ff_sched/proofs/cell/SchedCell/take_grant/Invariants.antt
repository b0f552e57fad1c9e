use Rattle.ff_frame.specs.declared.event.Event.TheVariants.{Grant}
use Rattle.ff_sched.proofs.cell.SchedCell.take_grant.Given as goal

abbrev pub ghosts-grant_as : goal.ghosts-grant_as
ghosts-grant_as g a = record { event = Grant a.source }
