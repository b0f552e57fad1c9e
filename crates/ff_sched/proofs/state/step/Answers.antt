use Rattle.std.proofs.Common.{◌≡◌, sym, ap, ◌∙◌, slice_index, arith}
use Rattle.ff_sched.specs.State.{State}
use Rattle.ff_sched.proofs.Steps.{count_is}
use Rattle.ff_sched.proofs.state.step.Goals as goal

pub stepped-state-inside-requires-clause-count : goal.stepped-state-inside-requires-clause-count
stepped-state-inside-requires-clause-count c =
    let e : slice_index c.state.inside.words 18 ≡ c.args.state.now.count = sym (count_is c.state.inside.words) ∙ ap (λ (s : State). s.count) c.state.view_is in let small = c.requires.count in omega arith
