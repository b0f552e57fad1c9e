-- What words ask for has inputs and outputs that plans are made for.
use Rattle.std.proofs.Common.{List}
use Rattle.ff_input.specs.Formats.{InputHead}
use Rattle.ff_words.specs.declared.job.Job.{Job}
use Rattle.ff_run.specs.build.Parts.{all_kinds}
use Rattle.ff_command.specs.Steps.{AreAllHeads}
use Rattle.ff_run_plan.specs.laws.Accepting.{IsAccepted}

pub accepted : (job : Job) (heads : List InputHead) → AreAllHeads job heads → IsAccepted all_kinds job heads
accepted job heads all = record {
  count = all.as_many;
  sound = all.heads_are;
  few_inputs = all.bounded.few_inputs;
  some_outputs = all.bounded.some_outputs;
  few_outputs = all.bounded.few_outputs;
  few_maps = all.bounded.few_maps;
  queue = (all.bounded.some_queue, all.bounded.short_queue);
}
