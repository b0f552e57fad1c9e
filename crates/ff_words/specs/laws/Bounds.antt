-- What holds of every job that words ask for.
use Rattle.std.specs.Prelude.{◌≡◌, ◌≤◌, false, length}
use Rattle.std.specs.List.{AllByRecursion}
use Rattle.ff_words.specs.declared.job.OutputJob.{OutputJob}
use Rattle.ff_words.specs.declared.job.Job.{Job}
use Rattle.ff_words.specs.Names.{stdin}
use Rattle.ff_words.specs.Words.{is_twice, lacks_input, read_names, same_name}

-- an output has at most 16 maps
abbrev pub HasFewMaps : OutputJob → Type 0
HasFewMaps out = length out.maps ≤ 16

-- The size of the queues is 1 to 1,024, there are one to sixteen outputs, at most sixteen inputs, graphs and maps of an output, and an
-- input or a graph that makes a stream. No written name stands twice or is that of an input,
-- and standard input is one input at most.
pub record IsBounded (job : Job) : Type 0 where
  pub some_queue : 1 ≤ job.queue
  pub short_queue : job.queue ≤ 1024
  pub few_graphs : length job.graphs ≤ 16
  pub some_inputs : lacks_input job.inputs job.graphs ≡ false
  pub few_inputs : length job.inputs ≤ 16
  pub some_outputs : 1 ≤ length job.outputs
  pub few_outputs : length job.outputs ≤ 16
  pub few_maps : AllByRecursion HasFewMaps job.outputs
  pub names : same_name job ≡ false
  pub one_stdin : is_twice stdin (read_names job) ≡ false
