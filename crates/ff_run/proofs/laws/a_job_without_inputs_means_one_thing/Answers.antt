use Rattle.ff_run.specs.Meaning.{job_means}
use Rattle.ff_command.proofs.Answers.{alone_means}
use Rattle.ff_run.proofs.laws.a_job_without_inputs_means_one_thing.Goals as goal

pub returns : goal.returns
returns c = λ job none files output. alone_means job_means job none files output
