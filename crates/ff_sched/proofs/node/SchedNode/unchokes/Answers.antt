use Rattle.std.proofs.Common.{sym, subst}
use Rattle.ff_sched.specs.State.{State}
use Rattle.ff_sched.specs.Unchoked.{Unchokes}
use Rattle.ff_sched.specs.laws.Plain.{Plain, held_by}
use Rattle.ff_sched.proofs.node.SchedNode.unchokes.Goals as goal

pub returns-clause-yes : goal.returns-clause-yes
returns-clause-yes c = λ e. subst (λ (n : Plain). Unchokes n.routes (held_by n) c.args.source) c.self.view_is (subst (λ (s : State). Unchokes c.self.inside.routes s c.args.source) c.self.invariant.folded (c.unchokes.ensures.yes e))

pub returns-clause-no : goal.returns-clause-no
returns-clause-no c = λ e u. c.unchokes.ensures.no e (subst (λ (s : State). Unchokes c.self.inside.routes s c.args.source) (sym c.self.invariant.folded) (subst (λ (n : Plain). Unchokes n.routes (held_by n) c.args.source) (sym c.self.view_is) u))
