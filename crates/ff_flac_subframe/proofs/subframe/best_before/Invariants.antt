use Rattle.ff_flac_subframe.specs.laws.Leads.{so_far, Leads}
use Rattle.ff_flac_subframe.proofs.subframe.best_before.Given as goal

abbrev pub invariant-loop-order : goal.invariant-loop-order
invariant-loop-order l = Leads l.depth l.samples l.limit (so_far l.samples l.order) l.best
