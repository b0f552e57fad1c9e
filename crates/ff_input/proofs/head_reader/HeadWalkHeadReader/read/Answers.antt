use Rattle.std.proofs.Common.{subst, sym}
use Rattle.ff_reader.specs.Walks.{head_by}
use Rattle.ff_input.specs.Answers.{Answers}
use Rattle.ff_input.proofs.Told.{answers_by}
use Rattle.ff_input.proofs.head_reader.HeadWalkHeadReader.read.Goals as goal

pub returns-clause-answers : goal.returns-clause-answers
returns-clause-answers g c = λ h.
    let F = g.F.HeadFormat in
    let laws = g.met.F.HeadFormat in
    subst (λ r. Answers (head_by F.grammar) F.is_sound c.args.whole c.args.bytes.now r) (sym (c.read.ensures.exact (h.0, h.1, h.2, h.3.0, h.3.1)))
    (answers_by F.grammar F.is_known F.is_sound laws.lawful laws.begins laws.keeps c.args.whole c.args.bytes.now)
