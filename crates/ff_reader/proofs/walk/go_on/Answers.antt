use Rattle.std.proofs.Common.{sym, arith}
use Rattle.ff_reader.proofs.ReachLaws.{Reached-skip, Reached-decide, Reached-wait, Reached-end}
use Rattle.ff_reader.proofs.walk.go_on.Goals as goal

pub returns-in-Wait-clause-found : goal.returns-in-Wait-clause-found
returns-in-Wait-clause-found g c = λ h.
    sym (Reached-wait g.F.HeadFormat.grammar c.units.walk.at c.units.walk.state c.args.bytes.now (omega arith) (sym (rw c.from_place.ensures at c.in-Wait.ensures.value)) (c.units.invariant h))

pub returns-in-Decide-clause-found : goal.returns-in-Decide-clause-found
returns-in-Decide-clause-found g c = λ h.
    sym (Reached-decide g.F.HeadFormat.grammar c.units.walk.at c.units.walk.state c.args.bytes.now c.in-Decide.found (omega arith) (sym (rw c.from_place.ensures at c.in-Decide.ensures.value)) (c.units.invariant h))

pub units-preserved : goal.units-preserved
units-preserved g c = λ h.
    Reached-skip g.F.HeadFormat.grammar g.met.F.HeadFormat.lawful c.units.walk.at c.in-Skip.size c.units.walk.state c.in-Skip.next c.args.bytes.now (omega arith) (sym (rw c.from_place.ensures at c.in-Skip.ensures.value)) (c.units.invariant h)

pub returns-clause-found : goal.returns-clause-found
returns-clause-found g c = λ h. sym (Reached-end g.F.HeadFormat.grammar c.units.walk.at c.units.walk.state c.args.bytes.now (omega arith) (c.units.invariant h))
