use Rattle.std.proofs.Common.{sym, ap, ◌∙◌}
use Rattle.ff_sched.specs.State.{State, exited_at}
use Rattle.ff_sched.proofs.Steps.{exited_is}
use Rattle.ff_sched.proofs.state.SchedState.exited.Goals as goal

pub returns : goal.returns
returns c = sym (exited_is c.self.inside.words c.args.source c.requires) ∙ ap (λ (s : State). exited_at s c.args.source) c.self.view_is
