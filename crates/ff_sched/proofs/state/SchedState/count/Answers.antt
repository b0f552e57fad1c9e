use Rattle.std.proofs.Common.{sym, ap, ◌∙◌}
use Rattle.ff_sched.specs.State.{State}
use Rattle.ff_sched.proofs.Steps.{count_is}
use Rattle.ff_sched.proofs.state.SchedState.count.Goals as goal

pub returns : goal.returns
returns c = sym (count_is c.self.inside.words) ∙ ap (λ (s : State). s.count) c.self.view_is
