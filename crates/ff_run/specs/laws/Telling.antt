-- What the history of a run that did all has in it, whatever the job.
use Rattle.std.specs.Prelude.{ℕ, ◌<◌, List, [], length, Some}
use Rattle.ff_host.specs.Files.{Files}
use Rattle.ff_words.specs.declared.job.Job.{Job}
use Rattle.ff_command.specs.Command.{Ask, ReportsHistory}
use Rattle.ff_run.specs.Meaning.{job_means, IsJobHistory}

-- where the files are told, a history without events is reported of no job that has an output
abbrev pub NoneIsEmpty : Type 0
NoneIsEmpty = (words : List (List ℕ)) (files : Files) → ((job : Job) → Ask words job → 0 < length job.outputs)
    → ReportsHistory job_means IsJobHistory words (Some files) [] → ⊥
