use Rattle.ff_y4m.proofs.ReadLaws.{good_step}
use Rattle.ff_y4m.proofs.read.step.Goals as goal

pub returns-in-Ok-clause-goes_on : goal.returns-in-Ok-clause-goes_on
returns-in-Ok-clause-goes_on c =
    good_step c.args.line.now c.from_place-rest.result.now c.front.result.now c.args.at c.word_length-length.result c.args.so_far c.in-Ok.next c.requires.there c.if-line-at-eq32.false
    c.from_place-rest.ensures c.word_length-length.ensures.value c.front.ensures c.in-Ok.ensures.value
