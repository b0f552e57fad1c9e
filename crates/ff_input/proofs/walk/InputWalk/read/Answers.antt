use Rattle.std.proofs.Common.{subst}
use Rattle.ff_input.specs.declared.walk.InputWalk.{InputWalk}
use Rattle.ff_input.specs.Formats.{any_head}
use Rattle.ff_input.specs.laws.Places.{IsReached}
use Rattle.ff_input.proofs.Walking.{start_told, start_on, other_told, format_told, format_on, behind_at, behind_here}
use Rattle.ff_input.proofs.walk.InputWalk.read.Goals as goal

pub returns-in-Start-clause-answers : goal.returns-in-Start-clause-answers
returns-in-Start-clause-answers c = λ given h.
    let r = subst (λ (w : InputWalk). IsReached w given c.args.bytes.now) c.in-Start.is (c.begin.ensures.reached given h) in
    start_told given c.args.whole c.args.bytes.now c.untold.result r (c.begin.ensures.open c.in-Start.is) c.untold.ensures

pub returns-in-Start-clause-goes_on : goal.returns-in-Start-clause-goes_on
returns-in-Start-clause-goes_on c = λ given h e.
    let r = subst (λ (w : InputWalk). IsReached w given c.args.bytes.now) c.in-Start.is (c.begin.ensures.reached given h) in
    rw c.in-Start.is (start_on given c.args.whole c.args.bytes.now c.untold.result r (c.begin.ensures.open c.in-Start.is))

pub returns-in-Other-clause-answers : goal.returns-in-Other-clause-answers
returns-in-Other-clause-answers c = λ given h.
    let r = subst (λ (w : InputWalk). IsReached w given c.args.bytes.now) c.in-Other.is (c.begin.ensures.reached given h) in
    other_told given c.args.whole c.args.bytes.now r

pub returns-in-In-clause-answers : goal.returns-in-In-clause-answers
returns-in-In-clause-answers c = λ given h.
    let r = subst (λ (w : InputWalk). IsReached w given c.args.bytes.now) c.in-In.is (c.begin.ensures.reached given h) in
    format_told given c.args.whole c.args.bytes.now c.read.result (any_head c.in-In.walk) (r.0, r.1, r.2, r.3.0)
    (c.read.ensures.answers (behind_at r.0 r.1 c.args.bytes.now r.2 r.3.1))

pub returns-in-In-clause-goes_on : goal.returns-in-In-clause-goes_on
returns-in-In-clause-goes_on c = λ given h e.
    let bs = c.args.bytes.now in
    let r = subst (λ (w : InputWalk). IsReached w given bs) c.in-In.is (c.begin.ensures.reached given h) in
    let on = c.read.ensures.goes_on (behind_at r.0 r.1 bs r.2 r.3.1) e in
    (on.0, (format_on given bs (any_head c.in-In.walk) (any_head c.read.new.self) c.read.ensures.same (r.0, r.1, r.2, r.3.0), behind_here bs on.1))
