use Rattle.std.proofs.Common.{◌∙◌, ap}
use Rattle.ff_reader.proofs.AnswerLaws.{answer_is, answer_not_yet, answer_decided, answer_stays, answered_sound}
use Rattle.ff_y4m.specs.Heads.{reading, early, answer}
use Rattle.ff_y4m.specs.Packets.{IsHead}
use Rattle.ff_y4m.proofs.HeadLaws.{reading-append, is_open}
use Rattle.ff_y4m.proofs.read.read_head.Goals as goal

pub returns-clause-not_yet : goal.returns-clause-not_yet
returns-clause-not_yet c =
    let is = c.answer_to.ensures ∙ answer_is reading early c.args.whole c.args.bytes.now c.decide.result c.decide.ensures.value in
    rw is (answer_not_yet reading early reading-append is_open c.args.whole c.args.bytes.now)

pub returns-clause-decided : goal.returns-clause-decided
returns-clause-decided c =
    let is = c.answer_to.ensures ∙ answer_is reading early c.args.whole c.args.bytes.now c.decide.result c.decide.ensures.value in
    rw is (answer_decided reading early c.args.whole c.args.bytes.now)

pub returns-clause-stays : goal.returns-clause-stays
returns-clause-stays c =
    let is = c.answer_to.ensures ∙ answer_is reading early c.args.whole c.args.bytes.now c.decide.result c.decide.ensures.value in
    λ n w. answer_stays reading early reading-append c.args.bytes.now (λ e. n (is ∙ (ap (λ b. answer b c.args.bytes.now) w ∙ e)))

pub returns-clause-sound : goal.returns-clause-sound
returns-clause-sound c = rw c.answer_to.ensures (answered_sound IsHead c.decide.result 10 c.args.whole c.args.bytes.now c.decide.ensures.sound)
