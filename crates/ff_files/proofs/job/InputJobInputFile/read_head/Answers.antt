use Rattle.ff_input.specs.Formats.{input_head}
use Rattle.ff_files.proofs.AnswerLaws.{answers_of}
use Rattle.ff_files.proofs.job.InputJobInputFile.read_head.Goals as goal

pub returns-clause-answers : goal.returns-clause-answers
returns-clause-answers c =
    let a = c.read.ensures.answers c.args.self.now.format c.requires in
    answers_of (input_head c.args.self.now.format) c.args.whole c.args.bytes.now c.read.result (λ open_yet. (a.not_yet.0 open_yet).0) a.decided a.stays

pub returns-clause-sound : goal.returns-clause-sound
returns-clause-sound c = (c.read.ensures.answers c.args.self.now.format c.requires).sound
