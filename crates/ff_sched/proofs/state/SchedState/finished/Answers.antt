use Rattle.std.proofs.Common.{sym, ap, ◌∙◌}
use Rattle.ff_sched.specs.State.{State, finished_at}
use Rattle.ff_sched.proofs.Steps.{finished_is}
use Rattle.ff_sched.proofs.state.SchedState.finished.Goals as goal

pub returns : goal.returns
returns c = sym (finished_is c.self.inside.words c.args.stream c.requires) ∙ ap (λ (s : State). finished_at s c.args.stream) c.self.view_is
