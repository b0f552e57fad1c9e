-- What a job means: which bytes each of its outputs holds, and what of its inputs' heads and bytes keeps it from that.
--
-- The heads of the inputs give a plan (`planned` of ff_plan): nodes with numbers, each a Demux, a Gen, a Dec, a Graph, a Shortest,
-- an Enc or a Mux, and edges between their ports. Each node is there for a function on whole streams (`all_kinds` of ff_run), node after node from
-- number 0 up they give the stream on each edge (`solve` of ff_net), and an output's file is what its format makes of the stream
-- at its Mux. No queue, no thread, no order of turns and no piece of a file is in it.
use Rattle.std.specs.Prelude.{ℕ, List, Option}
use Rattle.ff_frame.specs.declared.event.Event.{Event}
use Rattle.ff_input.specs.Formats.{InputHead}
use Rattle.ff_plan_layout.specs.declared.error.PlanError.{PlanError}
use Rattle.ff_words.specs.declared.job.Job.{Job}
use Rattle.ff_files.specs.Works.{Meaning}
use Rattle.ff_run_plan.specs.declared.fault.RunFault.{RunFault}
use Rattle.ff_run_plan.specs.Histories.{IsHistoryFor}
use Rattle.ff_run_plan.specs.Meaning.{means}
use Rattle.ff_run_plan.specs.Reads.{AreReadsFor}
use Rattle.ff_run.specs.build.Parts.{all_kinds}

-- what the plan of a job, by its nodes' tasks, makes of the inputs
abbrev pub job_means : Job → Meaning InputHead PlanError RunFault
job_means job = means all_kinds job

-- The history of a run of a job's plan over inputs with these heads: each grant stands where the events before it, from the state
-- before the run on, unchoke its source. Where the bytes of the inputs are told: of each output stream it is told when each of its
-- packets is decoded, in order, and then that it has finished, and nothing else; each source that is read, an input or a source filter, has
-- exited, once, and behind all its grants.
abbrev pub IsJobHistory : Job → List InputHead → Option (List (List ℕ)) → List Event → Type 0
IsJobHistory job heads bytes events = IsHistoryFor all_kinds job heads bytes events

-- The reads of that run: for each source, the inputs and then the source filters, the places in the history of the grants under which it
-- tried a packet or a frame, or found the end. They are the first grants of the source, in order, and none where no node reads it. Where the
-- bytes of the inputs are told: of each source one more at most than it has packets or frames, and enough, so that what comes of those
-- alone is at each output the whole stream already.
abbrev pub AreJobReads : Job → List InputHead → Option (List (List ℕ)) → List Event → List (List ℕ) → Type 0
AreJobReads job heads bytes events reads = AreReadsFor all_kinds job heads bytes events reads
