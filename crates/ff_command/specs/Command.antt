-- What a command means, when each of its answers comes, and what stands then. `before` and `after` are the files that the host
-- tells, before and after the call; `ins` and `outs` are its counts of faults of reading and of writing by name, at both moments.
-- Where the files aren't told, a conclusion on them claims nothing, and a premise on them isn't met.
use Rattle.std.specs.Prelude.{◌≡◌, ◌≢◌, ◌⊎◌, ⊤, ℕ, ◌<◌, ◌≤◌, false, IsTrue, List, [], length, map, slice_index_or, Option, Some, None, IsSome, IfSome, unwrap_or, Ok, Err}
use Rattle.ff_host.specs.Causes.{Rose, SameCounts}
use Rattle.ff_host.specs.Files.{Files, KeepsFiles}
use Rattle.ff_reader.specs.declared.fault.HeadFault.{HeadFault}
use Rattle.ff_reader.specs.declared.fault.HeadFault.TheVariants as fault
use Rattle.ff_frame.specs.declared.event.Event.{Event}
use Rattle.ff_sched.specs.Printing.{printed}
use Rattle.ff_words.specs.declared.job.InputJob.{InputJob}
use Rattle.ff_words.specs.declared.job.OutputJob.{OutputJob}
use Rattle.ff_words.specs.declared.job.Job.{Job}
use Rattle.ff_words.specs.declared.job.Command.TheVariants as asked
use Rattle.ff_words.specs.declared.job.Solo.{Solo}
use Rattle.ff_words.specs.declared.job.Solo.TheVariants.{Help, Version, SelfRun}
use Rattle.ff_words.specs.declared.error.Fault.{Fault}
use Rattle.ff_words.specs.Words.{IsAnswer, output_file, written}
use Rattle.ff_input.specs.Formats.{InputHead, input_head}
use Rattle.ff_plan_layout.specs.declared.error.PlanError.{PlanError}
use Rattle.ff_plan_layout.specs.declared.error.PlanError.TheVariants as why
use Rattle.ff_run_plan.specs.declared.fault.RunFault.{RunFault}
use Rattle.ff_run_plan.specs.declared.fault.RunFault.TheVariants as run_fault
use Rattle.ff_files.specs.Names.{Name, name_at, names_of, files_of, KeepsAllBut}
use Rattle.ff_files.specs.There.{AreFree, IsFirstThere}
use Rattle.ff_files.specs.Counts.{Counts, Faulted, KeepsCounts}
use Rattle.ff_files.specs.Heads.{HaveHeads, IsRefused}
use Rattle.ff_files.specs.Works.{Meaning, Command, AreHeadsIn, HoldMeaning, HoldWritten, told_bytes, file_of, meaning}
use Rattle.ff_files.specs.Ends.{IsPlanned, IsPlanRefused, IsBroken, IsFirstRefused, HasNoPlan, CanBeDone}
use Rattle.ff_command.specs.declared.report.FileRef.{FileRef}
use Rattle.ff_command.specs.declared.report.FileRef.TheVariants.{Input, Output, Trace}
use Rattle.ff_command.specs.declared.report.Status.{Status}
use Rattle.ff_command.specs.declared.report.Status.TheVariants as status
use Rattle.ff_selfrun.specs.SelfRun.{IsOwnJob, own_files, own_line}
use Rattle.ff_command.specs.Help.{help_text, version_text}
use Rattle.ff_command.specs.Texts.{fault_text}

-- ---- what words ask for

-- the words ask for this job
abbrev pub Ask : List (List ℕ) → Job → Type 0
Ask words job = IsAnswer words (Ok (asked.Run job))

-- they ask for what an option says that stands alone
abbrev pub AskSolo : List (List ℕ) → Solo → Type 0
AskSolo words solo = IsAnswer words (Ok (asked.Solo solo))

abbrev pub AsksAlone : List (List ℕ) → Type 0
AsksAlone words = (solo : Solo) × AskSolo words solo

-- it says that a text is asked for, and no run
abbrev pub IsText : Solo → Type 0
IsText Help = Unit {0}
IsText Version = Unit {0}
IsText (SelfRun seconds) = ⊥

-- they ask for such a text alone
abbrev pub AsksText : List (List ℕ) → Type 0
AsksText words = (solo : Solo) × AskSolo words solo × IsText solo

-- they ask for the run over generated input, of so many seconds
abbrev pub AskGenerated : List (List ℕ) → ℕ → Type 0
AskGenerated words seconds = AskSolo words (SelfRun seconds)

abbrev pub AsksGenerated : List (List ℕ) → Type 0
AsksGenerated words = (seconds : ℕ) × AskGenerated words seconds

-- this is so of the one job of that run, and of its files
abbrev pub OfGenerated : ℕ → (Job → Files → Type 0) → Type 0
OfGenerated seconds Is = (job : Job) × IsOwnJob job × Is job (own_files seconds)

-- they ask for a job, of which this is so
abbrev pub AskFor : List (List ℕ) → (Job → Type 0) → Type 0
AskFor words Is = (job : Job) × Ask words job × Is job

-- this is so of what they ask for, which is one job at most
abbrev pub IfAsked : List (List ℕ) → (Job → Type 0) → Type 0
IfAsked words Is = (job : Job) → Ask words job → Is job

-- they ask for nothing, and this is what is wrong first
abbrev pub AreWrong : List (List ℕ) → Fault → Type 0
AreWrong words f = IsAnswer words (Err f)

-- ---- the files of a job, by number: an output that goes nowhere has a number, and no file

abbrev pub input_names : Job → List Name
input_names job = names_of (λ (i : InputJob). i.name) job.inputs

-- an output that goes nowhere has none
abbrev pub output_names : Job → List Name
output_names job = files_of output_file job.outputs

-- the job has such a file
abbrev pub HasFile : Job → FileRef → Type 0
HasFile job (Input i) = i < length job.inputs
HasFile job (Output o) = o < length job.outputs
HasFile job Trace = IsSome job.trace

-- its name, as the words have it
abbrev pub file_name : Job → FileRef → List ℕ
file_name job (Input i) = slice_index_or (map (λ (input : InputJob). input.name) job.inputs) i []
file_name job (Output o) = slice_index_or (map (λ (out : OutputJob). out.name) job.outputs) o []
file_name job Trace = unwrap_or job.trace []

-- where the status is a device's fault, this is the name of the file of the job that the words ask for
abbrev pub IsNamed : List (List ℕ) → Status → List ℕ → Type 0
IsNamed words (status.Device file) name = AskFor words (λ job. HasFile job file × (name ≡ file_name job file))
IsNamed words _ name = ⊤

-- ---- what is there, and is kept

-- the job keeps what is there, and of what it writes this is the first that is there: the outputs by number, then the trace
abbrev pub IsKept : Job → Option Files → FileRef → Type 0
IsKept job before (Input i) = ⊥
IsKept job before (Output o) = IsTrue job.keeps × (o < length job.outputs) × IsFirstThere before (written job) o
IsKept job before Trace = IsTrue job.keeps × IsFirstThere before (written job) (length job.outputs)

-- the same of files that are told
abbrev pub IsToldKept : Job → Option Files → FileRef → Type 0
IsToldKept job None file = ⊥
IsToldKept job (Some before) file = IsKept job (Some before) file

-- the job may replace what is there, or the files are told and nothing that it writes is there
abbrev pub MayWrite : Job → Option Files → Type 0
MayWrite job None = job.keeps ≡ false
MayWrite job (Some before) = (job.keeps ≡ false) ⊎ AreFree (Some before) (written job) (length (written job))

-- of the words' job this file is kept, of files that are told
abbrev pub KeepsThere : List (List ℕ) → Option Files → FileRef → Type 0
KeepsThere words before file = AskFor words (λ job. IsToldKept job before file)

-- ---- what stands, whatever a job means

-- every file that is neither that of an output of the job nor its trace is as it was, and every file where the words ask for none
abbrev pub KeepsOtherFiles : List (List ℕ) → Option Files → Option Files → Type 0
KeepsOtherFiles words before after = KeepsFiles before after ⊎ AskFor words (λ job. KeepsAllBut before after (written job) (length (written job)))

-- the trace of the job, if it has one, holds the printed history
abbrev pub HoldsPrinted : Job → Option Files → Option Files → List Event → Type 0
HoldsPrinted job (Some before) (Some after) history = IfSome job.trace (λ name. after name ≡ Some (printed history))
HoldsPrinted job before after history = ⊤

-- and so does the one that the words ask for
abbrev pub HoldsTrace : List (List ℕ) → Option Files → Option Files → List Event → Type 0
HoldsTrace words before after history = AskFor words (λ job. HoldsPrinted job before after history)

-- the status comes before any output is created
abbrev pub ComesBeforeOutputs : Status → Type 0
ComesBeforeOutputs (status.Words word kind) = Unit {0}
ComesBeforeOutputs (status.Plan why) = Unit {0}
ComesBeforeOutputs (status.Unsupported input offset) = Unit {0}
ComesBeforeOutputs _ = ⊥

-- no count of reading has risen under the names of the inputs up to this number
abbrev pub AreSoundTo : Counts → Job → ℕ → Type 0
AreSoundTo ins job k = (i : ℕ) → i ≤ k → Faulted ins (input_names job) i → ⊥

-- no count of reading has risen under the name of an input
abbrev pub InputsAreSound : Counts → Job → Type 0
InputsAreSound ins job = (i : ℕ) → Faulted ins (input_names job) i → ⊥

-- no count of writing has risen under the name of an output's file or of the trace
abbrev pub OutputsAreSound : Counts → Job → Type 0
OutputsAreSound outs job = (o : ℕ) → Faulted outs (written job) o → ⊥

-- the status of an input whose head is refused so
abbrev pub refused_head : ℕ → HeadFault → Status
refused_head k (fault.Damaged offset) = status.Damaged k offset
refused_head k (fault.Unsupported offset) = status.Unsupported k offset

-- the status of a plan that is refused so
abbrev pub refused_plan : PlanError → Status
refused_plan why.NoMemory = status.NoMemory
refused_plan why = status.Plan why

-- ---- what is told of a run

-- it is told of the heads of the inputs, which are those of the files where these are told, and of the bytes of these files
abbrev pub IsReported : {I R F L : Type 0} → Command I InputHead R F → (List InputHead → Option (List (List ℕ)) → L → Type 0)
    → Option Files → L → Type 0
IsReported command tells before log =
    (heads : List InputHead) × AreHeadsIn command before heads × tells heads (told_bytes command before) log

-- ---- what jobs mean: of what is done between opening and closing, a worker says what it means for each job

module _ (means : Job → Meaning InputHead PlanError RunFault) where
  -- the job over its files: their names, the heads of the inputs, each in the format that was given or that its bytes tell, and
  -- what is done with them
  abbrev pub over : Job → Command InputJob InputHead PlanError RunFault
  over job = record {
    name = λ (i : InputJob). i.name;
    head = λ (i : InputJob). input_head i.format;
    inputs = job.inputs;
    outputs = written job;
    count = length job.outputs;
    means = means job;
  }

  -- ---- the text that is logged

  -- the one output of the run over generated input holds some bytes by what its job means, and this is the line that tells of them
  abbrev pub IsGeneratedText : ℕ → List ℕ → Type 0
  IsGeneratedText seconds text = OfGenerated seconds (λ job files. (bytes : List ℕ) × (meaning (over job) files 0 ≡ Some bytes) × (text ≡ own_line seconds bytes))

  -- the text of an option that stands alone
  abbrev pub IsSoloText : Solo → List ℕ → Type 0
  IsSoloText Help text = text ≡ help_text
  IsSoloText Version text = text ≡ version_text
  IsSoloText (SelfRun seconds) text = IsGeneratedText seconds text

  -- they ask for this text
  abbrev pub IsTold : List (List ℕ) → List ℕ → Type 0
  IsTold words text = (solo : Solo) × AskSolo words solo × IsSoloText solo text

  -- the text that is due: that of an option that stands alone, or the line of a fault
  abbrev pub IsDue : List (List ℕ) → Status → List ℕ → Type 0
  IsDue words answer text =
      ((answer ≡ status.Fine) × IsTold words text)
      ⊎ ((answer ≢ status.Fine) × ((name : List ℕ) × IsNamed words answer name × (text ≡ fault_text answer name)))

  -- ---- what stands

  -- the words ask for a job that means some bytes for each of its outputs, and each that is a file holds these
  abbrev pub HoldsMeaning : List (List ℕ) → Option Files → Option Files → Type 0
  HoldsMeaning words before after = AskFor words (λ job. HoldMeaning (over job) before after)

  -- what an output of a job holds that names no input: no file is in it
  abbrev pub made_alone : Job → ℕ → Option (List ℕ)
  made_alone job o = file_of (means job) (Ok []) [] o

  -- each output of the job has these bytes, and where it is a file it holds them
  abbrev pub HoldMade : Job → Option Files → Option Files → Type 0
  HoldMade job (Some before) (Some after) = (o : ℕ) → o < length job.outputs
      → IsSome (made_alone job o) × IfSome (name_at (written job) o) (λ name. after name ≡ made_alone job o)
  HoldMade job before after = ⊤

  -- where the words' job names no input, the words alone say what its outputs hold
  abbrev pub HoldsMade : List (List ℕ) → Option Files → Option Files → Type 0
  HoldsMade words before after = IfAsked words (λ job. job.inputs ≡ [] → HoldMade job before after)

  -- each output that is a file is as it was, or holds a front of what is written to it, or all that it is meant to hold
  abbrev pub HoldsFront : List (List ℕ) → Option Files → Option Files → Type 0
  HoldsFront words before after = IfAsked words (λ job. HoldWritten (over job) before after)

  -- This is told of the history and the heads and bytes of the inputs of the words' job, which are those of the files where these are
  -- told.
  abbrev pub ReportsHistory : {L : Type 0} → (Job → List InputHead → Option (List (List ℕ)) → L → Type 0) → List (List ℕ) → Option Files → L → Type 0
  ReportsHistory tells words before history = AskFor words (λ job. IsReported (over job) (tells job) before history)

  -- And this of the reads, by the history.
  abbrev pub ReportsReads : (Job → List InputHead → Option (List (List ℕ)) → List Event → List (List ℕ) → Type 0)
      → List (List ℕ) → Option Files → List Event → List (List ℕ) → Type 0
  ReportsReads are words before history reads = AskFor words (λ job. IsReported (over job) (λ heads bytes rs. are job heads bytes history rs) before reads)

  -- ---- when each answer comes

  -- the head of this input is the first that is refused, and it is refused so
  abbrev pub IsHeadRefused : Job → Option Files → ℕ → HeadFault → Type 0
  IsHeadRefused job before k why = (k < length job.inputs) × IsRefused (over job).name (over job).head before job.inputs k why

  -- the head of this input is damaged, and no file was changed; or what follows a head is damaged
  abbrev pub IsDamaged : Job → Option Files → Option Files → ℕ → ℕ → Type 0
  IsDamaged job before after k offset =
      (IsHeadRefused job before k (fault.Damaged offset) × KeepsFiles before after) ⊎ IsBroken (over job) before (run_fault.Damaged k offset)

  -- the stream of this node is too long, behind nodes that read so many inputs
  abbrev pub IsTooLong : Job → Option Files → ℕ → Type 0
  IsTooLong job before node = (count : ℕ) × IsBroken (over job) before (run_fault.TooLong node count)

  -- reading this input failed, behind inputs that all have heads; or writing this output or the trace, of a job that has a plan; or
  -- it is there, and the job keeps it
  abbrev pub HasFailed : Job → Option Files → Counts → Counts → FileRef → Type 0
  HasFailed job before ins outs (Input i) = Faulted ins (input_names job) i × HaveHeads (over job).name (over job).head before job.inputs i
  HasFailed job before ins outs (Output o) = IsKept job before (Output o) ⊎ (Faulted outs (output_names job) o × IsPlanned (over job) before)
  HasFailed job before ins outs Trace =
      IsKept job before Trace ⊎ (Rose (outs.before (file_name job Trace)) (outs.after (file_name job Trace)) × IsPlanned (over job) before)

  -- Of the words' job, which may write, files that are told have a head that is refused so, and no input up to it has failed.
  abbrev pub GivesNoHead : List (List ℕ) → Option Files → Counts → ℕ → HeadFault → Type 0
  GivesNoHead words before ins k why = AskFor words (λ job. MayWrite job before × IsFirstRefused (over job) before k why × AreSoundTo ins job k)

  -- Of the words' job, which may write, files that are told have heads and no plan, for this reason, and no input has failed.
  abbrev pub GivesNoPlan : List (List ℕ) → Option Files → Counts → PlanError → Type 0
  GivesNoPlan words before ins why = AskFor words (λ job. MayWrite job before × HasNoPlan (over job) before why × InputsAreSound ins job)

  -- Of the words' job, which may write, files that are told have heads and a plan and nothing that breaks the run, and no file has
  -- failed.
  abbrev pub GivesAll : List (List ℕ) → Option Files → Counts → Counts → Type 0
  GivesAll words before ins outs = AskFor words (λ job. MayWrite job before × CanBeDone (over job) before × InputsAreSound ins job × OutputsAreSound outs job)

  -- ---- which counts of faults are what they were

  -- How many inputs come before the end: those in front of one that failed or, where the run breaks, of what breaks it.
  abbrev pub KeepsInputs : Job → Option Files → Counts → Status → Type 0
  KeepsInputs job before ins status.Fine = SameCounts ins.before ins.after
  KeepsInputs job before ins (status.Words word kind) = SameCounts ins.before ins.after
  KeepsInputs job before ins (status.Plan why) = SameCounts ins.before ins.after
  KeepsInputs job before ins (status.Unsupported k offset) = SameCounts ins.before ins.after
  KeepsInputs job before ins (status.Device (Input i)) = KeepsCounts ins.before ins.after (input_names job) i
  KeepsInputs job before ins (status.Device (Output o)) = SameCounts ins.before ins.after
  KeepsInputs job before ins (status.Device Trace) = SameCounts ins.before ins.after
  KeepsInputs job before ins (status.Damaged k offset) =
      SameCounts ins.before ins.after
      ⊎ (IsBroken (over job) before (run_fault.Damaged k offset)
      × KeepsCounts ins.before ins.after (input_names job) ((means job).comes_after (run_fault.Damaged k offset)))
  KeepsInputs job before ins (status.TooLong node) =
      (count : ℕ) × IsBroken (over job) before (run_fault.TooLong node count)
      × KeepsCounts ins.before ins.after (input_names job) ((means job).comes_after (run_fault.TooLong node count))
  KeepsInputs job before ins (status.TooLarge o) = KeepsCounts ins.before ins.after (input_names job) ((means job).comes_after (run_fault.TooLarge o))
  KeepsInputs job before ins status.NoMemory = KeepsCounts ins.before ins.after (input_names job) 1

  -- the counts under names that are neither an output's nor the trace's, and under all where none was written or each was
  abbrev pub KeepsOutputs : Job → Option Files → Counts → Status → Type 0
  KeepsOutputs job before outs status.Fine = SameCounts outs.before outs.after
  KeepsOutputs job before outs (status.Words word kind) = SameCounts outs.before outs.after
  KeepsOutputs job before outs (status.Plan why) = SameCounts outs.before outs.after
  KeepsOutputs job before outs (status.Unsupported k offset) = SameCounts outs.before outs.after
  KeepsOutputs job before outs (status.Damaged k offset) =
      SameCounts outs.before outs.after
      ⊎ (IsBroken (over job) before (run_fault.Damaged k offset) × KeepsCounts outs.before outs.after (written job) 0)
  KeepsOutputs job before outs _ = KeepsCounts outs.before outs.after (written job) 0

  -- the same by the words: where they ask for nothing, no count has risen
  abbrev pub KeepsInputCounts : List (List ℕ) → Option Files → Counts → Status → Type 0
  KeepsInputCounts words before ins status = SameCounts ins.before ins.after ⊎ AskFor words (λ job. KeepsInputs job before ins status)

  abbrev pub KeepsOutputCounts : List (List ℕ) → Option Files → Counts → Status → Type 0
  KeepsOutputCounts words before outs status = SameCounts outs.before outs.after ⊎ AskFor words (λ job. KeepsOutputs job before outs status)

  -- ---- the run over generated input

  -- When the job over these files comes to each answer: they tell what they hold, nothing of them fails, and the words of the job are right.
  abbrev pub ComesOf : Job → Files → Status → Type 0
  ComesOf job files status.Fine = IsSome (meaning (over job) files 0)
  ComesOf job files (status.Words word kind) = ⊥
  ComesOf job files (status.Plan refusal) = (refusal ≢ why.NoMemory) × IsPlanRefused (over job) (Some files) refusal
  ComesOf job files (status.Device file) = ⊥
  ComesOf job files (status.Damaged k offset) =
      IsHeadRefused job (Some files) k (fault.Damaged offset) ⊎ IsBroken (over job) (Some files) (run_fault.Damaged k offset)
  ComesOf job files (status.TooLong node) = IsTooLong job (Some files) node
  ComesOf job files (status.TooLarge output) = IsBroken (over job) (Some files) (run_fault.TooLarge output)
  ComesOf job files (status.Unsupported k offset) = IsHeadRefused job (Some files) k (fault.Unsupported offset)
  ComesOf job files status.NoMemory = Unit {0}

  -- The run over generated input of so many seconds answers so: each answer comes where the job over its files comes to it, and where the
  -- heads are refused, or the plan, or all can be done, it is that answer, unless memory ran out.
  pub record IsOwnAnswer (seconds : ℕ) (answer : Status) : Type 0 where
    pub comes : OfGenerated seconds (λ job files. ComesOf job files answer)
    pub refused : (k : ℕ) (why : HeadFault) → OfGenerated seconds (λ job files. IsFirstRefused (over job) (Some files) k why)
        → (answer ≡ refused_head k why) ⊎ (answer ≡ status.NoMemory)
    pub no_plan : (why : PlanError) → OfGenerated seconds (λ job files. HasNoPlan (over job) (Some files) why)
        → (answer ≡ refused_plan why) ⊎ (answer ≡ status.NoMemory)
    pub complete : OfGenerated seconds (λ job files. CanBeDone (over job) (Some files)) → (answer ≡ status.Fine) ⊎ (answer ≡ status.NoMemory)

  -- This is told of the history of that run, and of its reads by the history.
  abbrev pub ReportsOwn : {L : Type 0} → (Job → List InputHead → Option (List (List ℕ)) → L → Type 0) → ℕ → L → Type 0
  ReportsOwn tells seconds history = OfGenerated seconds (λ job files. IsReported (over job) (tells job) (Some files) history)

  abbrev pub ReportsOwnReads : (Job → List InputHead → Option (List (List ℕ)) → List Event → List (List ℕ) → Type 0)
      → ℕ → List Event → List (List ℕ) → Type 0
  ReportsOwnReads are seconds history reads =
      OfGenerated seconds (λ job files. IsReported (over job) (λ heads bytes rs. are job heads bytes history rs) (Some files) reads)
