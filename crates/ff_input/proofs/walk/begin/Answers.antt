use Rattle.std.proofs.Common.{sym, subst}
use Rattle.ff_input.specs.declared.walk.InputWalk.{InputWalk}
use Rattle.ff_input.specs.laws.Places.{IsReached}
use Rattle.ff_input.proofs.Walking.{named_reached, other_reached}
use Rattle.ff_input.proofs.walk.begin.Goals as goal

pub returns-in-Named-clause-reached : goal.returns-in-Named-clause-reached
returns-in-Named-clause-reached c = λ given h.
    let start = subst (λ (w : InputWalk). IsReached w given c.args.bytes.now) c.in-Start.is h in
    named_reached c.start_of.result given c.args.bytes.now c.in-Named.format (sym c.in-Named.ensures) c.start_of.ensures start

pub returns-in-Other-clause-reached : goal.returns-in-Other-clause-reached
returns-in-Other-clause-reached c = λ given h.
    let start = subst (λ (w : InputWalk). IsReached w given c.args.bytes.now) c.in-Start.is h in
    other_reached given c.args.bytes.now (sym c.in-Other.ensures) start
