use Rattle.std.proofs.Common.{◌≡◌, rules, length, sym, ap, ◌∙◌}
use Rattle.ff_sched.specs.State.{State, last_at}
use Rattle.ff_sched.proofs.Steps.{last_is, none_sent, some_sent}
use Rattle.ff_sched.proofs.state.SchedState.last.Goals as goal

pub returns-then-time : goal.returns-then-time
returns-then-time c = let long : length c.self.inside.words ≡ 20 = c.self.told in sym (none_sent _ c.if-time.true) ∙ sym (last_is c.self.inside.words c.args.stream long c.requires) ∙ ap (λ (s : State). last_at s c.args.stream) c.self.view_is

pub returns-else-time : goal.returns-else-time
returns-else-time c = let long : length c.self.inside.words ≡ 20 = search rules in sym (some_sent _ c.if-time.false) ∙ sym (last_is c.self.inside.words c.args.stream long c.requires) ∙ ap (λ (s : State). last_at s c.args.stream) c.self.view_is
