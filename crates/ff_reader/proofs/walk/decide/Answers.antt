use Rattle.std.proofs.Common.{◌∙◌, ◌≤◌, ◌<◌, sym, subst, arith, length, Some, None}
use Rattle.std.proofs.lemmas.List.{take_all, length-take}
use Rattle.ff_reader.specs.Walks.{head_limit, Reached}
use Rattle.ff_reader.proofs.ReadingLaws.{reading_else, reading_is, within_over, within_short}
use Rattle.ff_reader.proofs.ReachLaws.{Reached-near}
use Rattle.ff_reader.proofs.walk.decide.Goals as goal

pub returns-then-not-agree-clause-value : goal.returns-then-not-agree-clause-value
returns-then-not-agree-clause-value g c = λ h.
    sym (reading_else g.F.HeadFormat.grammar head_limit c.args.bytes.now (sym (rw c.magic.ensures at c.agree.ensures) ∙ c.if-not-agree.true))

pub go_on-requires : goal.go_on-requires
go_on-requires g c = rw c.front.ensures (omega (arith, length-take head_limit c.args.bytes.now))

pub returns-in-Some-clause-value : goal.returns-in-Some-clause-value
returns-in-Some-clause-value g c = λ h.
    let G = g.F.HeadFormat.grammar in
    let near = Reached-near G c.args.walk.now.at c.args.walk.now.state c.args.bytes.now h in
    let found = rw c.front.ensures at c.in-Some.ensures.found in
    sym (reading_is G head_limit c.args.bytes.now (Some c.in-Some.found) (sym (rw c.magic.ensures at c.agree.ensures) ∙ c.if-not-agree.false) (found near))

pub returns-then-bytes-lt-LIMIT-clause-value : goal.returns-then-bytes-lt-LIMIT-clause-value
returns-then-bytes-lt-LIMIT-clause-value g c = λ h.
    let G = g.F.HeadFormat.grammar in
    let near = Reached-near G c.args.walk.now.at c.args.walk.now.state c.args.bytes.now h in
    let none = rw c.front.ensures at c.in_default.ensures.found in
    let is = reading_is G head_limit c.args.bytes.now None (sym (rw c.magic.ensures at c.agree.ensures) ∙ c.if-not-agree.false) (none near) in
    sym (is ∙ within_short head_limit c.args.bytes.now c.if-bytes-lt-LIMIT.true)

pub returns-then-bytes-lt-LIMIT-clause-goes_on : goal.returns-then-bytes-lt-LIMIT-clause-goes_on
returns-then-bytes-lt-LIMIT-clause-goes_on g c = λ h n.
    let G = g.F.HeadFormat.grammar in
    let near = Reached-near G c.args.walk.now.at c.args.walk.now.state c.args.bytes.now h in
    let reached = rw c.front.ensures at c.go_on.ensures.reached in
    let lt : length c.args.bytes.now < head_limit = c.if-bytes-lt-LIMIT.true in
    let short : length c.args.bytes.now ≤ head_limit = omega (arith, lt) in
    (short, subst (λ xs. Reached G c.go_on.new.walk.at c.go_on.new.walk.state xs) (take_all head_limit c.args.bytes.now short) (reached near))

pub returns-clause-value : goal.returns-clause-value
returns-clause-value g c = λ h.
    let G = g.F.HeadFormat.grammar in
    let near = Reached-near G c.args.walk.now.at c.args.walk.now.state c.args.bytes.now h in
    let none = rw c.front.ensures at c.in_default.ensures.found in
    let is = reading_is G head_limit c.args.bytes.now None (sym (rw c.magic.ensures at c.agree.ensures) ∙ c.if-not-agree.false) (none near) in
    let over : head_limit ≤ length c.args.bytes.now = omega (arith, c.if-bytes-lt-LIMIT.false) in
    sym (is ∙ within_over head_limit c.args.bytes.now over)
