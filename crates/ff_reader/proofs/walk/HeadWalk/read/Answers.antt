use Rattle.std.proofs.Common.{◌∙◌, length}
use Rattle.ff_reader.specs.Heads.{early}
use Rattle.ff_reader.specs.Walks.{reading, head_limit}
use Rattle.ff_reader.proofs.AnswerLaws.{answer_is}
use Rattle.ff_reader.proofs.walk.HeadWalk.read.Goals as goal

pub returns-clause-exact : goal.returns-clause-exact
returns-clause-exact g c = λ h.
    let G = g.F.HeadFormat.grammar in
    rw c.magic.ensures at c.answer_in.ensures
    ∙ answer_is (reading G head_limit) (early (length G.magic)) c.args.whole c.args.bytes.now c.decide-found.result (c.decide-found.ensures.value h)
