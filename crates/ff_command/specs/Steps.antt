-- What a job's run leaves, and what the words' run does, each as one record.
use Rattle.std.specs.Prelude.{◌≡◌, ◌≢◌, ◌⊎◌, ℕ, false, List, length, Option, Some, None, nat_lt, if◌then◌else◌}
use Rattle.std.specs.List.{All}
use Rattle.std.specs.Prelude.{Vec}
use Rattle.std.specs.Global.{Global}
use Rattle.ff_host.specs.Causes.{SameCounts}
use Rattle.ff_host.specs.Files.{Files, KeepsFiles}
use Rattle.ff_host.specs.declared.host.HostError.{HostError}
use Rattle.ff_reader.specs.declared.fault.HeadFault.{HeadFault}
use Rattle.ff_reader.specs.declared.fault.HeadFault.TheVariants as fault
use Rattle.ff_words.specs.declared.job.Job.{Job}
use Rattle.ff_words.specs.declared.error.Fault.{Fault}
use Rattle.ff_words.specs.declared.error.WordError.{WordError}
use Rattle.ff_words.specs.declared.error.WordError.TheVariants.{At, NoMemory}
use Rattle.ff_words.specs.laws.Bounds.{IsBounded}
use Rattle.ff_words.specs.Words.{fault as wrong_at, written}
use Rattle.ff_input.specs.Formats.{InputHead, IsHead}
use Rattle.ff_plan_layout.specs.declared.error.PlanError.{PlanError}
use Rattle.ff_plan_layout.specs.declared.error.PlanError.TheVariants as why
use Rattle.ff_run_plan.specs.declared.fault.RunFault.{RunFault}
use Rattle.ff_run_plan.specs.declared.fault.RunFault.TheVariants as run_fault
use Rattle.ff_files.specs.Names.{KeepsAllBut}
use Rattle.ff_files.specs.There.{AreFree}
use Rattle.ff_files.specs.Counts.{Counts}
use Rattle.ff_files.specs.Outputs.{CreatesOutputs}
use Rattle.ff_files.specs.Works.{Meaning, HoldMeaning, HoldWritten}
use Rattle.ff_files.specs.Ends.{end_of_output, IsPlanRefused, IsBroken, IsFirstRefused, HasNoPlan, CanBeDone}
use Rattle.ff_files.specs.declared.end.RunEnd.{RunEnd}
use Rattle.ff_files.specs.declared.end.RunEnd.TheVariants as run_end
use Rattle.ff_command.specs.declared.report.FileRef.{FileRef}
use Rattle.ff_command.specs.declared.report.FileRef.TheVariants.{Input, Output, Trace}
use Rattle.ff_command.specs.declared.report.Status.{Status}
use Rattle.ff_command.specs.declared.report.Status.TheVariants as status
use Rattle.ff_command.specs.Texts.{fault_text}
use Rattle.ff_command.specs.Command.{AskFor, AsksAlone, AsksText, AsksGenerated, AreWrong, KeepsOtherFiles, ComesBeforeOutputs, AreSoundTo}
use Rattle.ff_command.specs.Command.{InputsAreSound, OutputsAreSound, MayWrite, IsToldKept, KeepsThere, refused_head, refused_plan}
use Rattle.ff_command.specs.Command.{over, HoldsMeaning, HoldsFront, IsHeadRefused}
use Rattle.ff_command.specs.Command.{IsDamaged, IsTooLong, HasFailed, HasFile, GivesNoHead, GivesNoPlan, GivesAll, KeepsInputs, KeepsOutputs}
use Rattle.ff_command.specs.Command.{KeepsInputCounts, KeepsOutputCounts}

-- the heads of all inputs of a job that words may ask for
pub record AreAllHeads (job : Job) (heads : List InputHead) : Type 0 where
  pub as_many : length heads ≡ length job.inputs
  pub heads_are : All IsHead heads
  pub bounded : IsBounded job

-- the status of words that ask for nothing
abbrev pub wrong_words : WordError → Status
wrong_words (At word kind) = status.Words word kind
wrong_words NoMemory = status.NoMemory

-- the status of a run that something of the inputs' bytes ended
abbrev pub broken_run : RunFault → Status
broken_run (run_fault.Damaged input offset) = status.Damaged input offset
broken_run (run_fault.TooLong node count) = status.TooLong node
broken_run (run_fault.TooLarge output) = status.TooLarge output

-- the file of this number among those that are written, of which the first so many are the outputs
abbrev pub written_file : ℕ → ℕ → FileRef
written_file count k = if nat_lt k count then Output k else Trace

-- the status of a job of so many outputs over its files
abbrev pub status_of : ℕ → RunEnd PlanError RunFault → Status
status_of count run_end.Fine = status.Fine
status_of count (run_end.InputFailed input) = status.Device (Input input)
status_of count (run_end.OutputFailed output) = status.Device (written_file count output)
status_of count (run_end.Damaged input offset) = status.Damaged input offset
status_of count (run_end.Unsupported input offset) = status.Unsupported input offset
status_of count (run_end.Refused why) = refused_plan why
status_of count (run_end.Broken why) = broken_run why
status_of count run_end.NoMemory = status.NoMemory

-- which files of the job were created; where one couldn't be, that is the status
abbrev pub CreatesWritten : Job → (List ℕ → Type 0) → Option Files → Option Files → Counts → Status → Type 0
CreatesWritten job created before after outs answer =
    CreatesOutputs created before after outs (written job) (λ k why. answer ≡ status_of (length job.outputs) (end_of_output k why))

-- and of the job that the words ask for, if they ask for one
abbrev pub CreatesAsked : List (List ℕ) → (List ℕ → Type 0) → Option Files → Option Files → Counts → Status → Type 0
CreatesAsked words created before after outs answer =
    (KeepsFiles before after × SameCounts outs.before outs.after) ⊎ AskFor words (λ job. CreatesWritten job created before after outs answer)

-- the text that ends a run that isn't silent: what is told, or else the line of its fault
abbrev pub IsEndText : Option (Vec ℕ Global) → Status → List ℕ → List ℕ → Type 0
IsEndText (Some told) answer name text = text ≡ told.items
IsEndText None answer name text = (answer ≢ status.Fine) × (text ≡ fault_text answer name)

-- the file is one of this job
abbrev pub IsOfJob : Option Job → FileRef → Type 0
IsOfJob None file = ⊥
IsOfJob (Some job) file = HasFile job file

-- the job may replace what is there, or nothing that it writes is there, where that is told
abbrev pub IsFree : Job → Option Files → Type 0
IsFree job before = (job.keeps ≡ false) ⊎ AreFree before (written job) (length (written job))

module _ (means : Job → Meaning InputHead PlanError RunFault) where
  -- when each status of a job comes
  abbrev pub Comes : Job → Option Files → Option Files → Counts → Counts → Status → Type 0
  Comes job before after ins outs status.Fine = Unit {0}
  Comes job before after ins outs (status.Words place kind) = ⊥
  Comes job before after ins outs (status.Plan why) = IsPlanRefused (over means job) before why
  Comes job before after ins outs (status.Device file) = HasFile job file × HasFailed means job before ins outs file
  Comes job before after ins outs (status.Damaged k offset) = IsDamaged means job before after k offset
  Comes job before after ins outs (status.TooLong node) = IsTooLong means job before node
  Comes job before after ins outs (status.Unsupported k offset) = IsHeadRefused means job before k (fault.Unsupported offset)
  Comes job before after ins outs (status.TooLarge output) = IsBroken (over means job) before (run_fault.TooLarge output)
  Comes job before after ins outs status.NoMemory = Unit {0}

  -- a job was run over its files
  pub record Ran (job : Job) (before after : Option Files) (ins outs : Counts) (answer : Status) : Type 0 where
    pub bytes : answer ≡ status.Fine → HoldMeaning (over means job) before after
    pub front : HoldWritten (over means job) before after
    pub others : KeepsAllBut before after (written job) (length (written job))
    pub untouched : ComesBeforeOutputs answer → KeepsFiles before after
    pub comes : Comes job before after ins outs answer
    pub plan_memory : answer ≢ status.Plan why.NoMemory
    pub kept : (file : FileRef) → IsToldKept job before file → KeepsFiles before after × ((answer ≡ status.Device file) ⊎ (answer ≡ status.NoMemory))
    pub no_head : MayWrite job before → (k : ℕ) (why : HeadFault) → IsFirstRefused (over means job) before k why → AreSoundTo ins job k
        → (answer ≡ refused_head k why) ⊎ (answer ≡ status.NoMemory)
    pub no_plan : MayWrite job before → (why : PlanError) → HasNoPlan (over means job) before why → InputsAreSound ins job
        → (answer ≡ refused_plan why) ⊎ (answer ≡ status.NoMemory)
    pub complete : MayWrite job before → CanBeDone (over means job) before → InputsAreSound ins job → OutputsAreSound outs job
        → (answer ≡ status.Fine) ⊎ (answer ≡ status.NoMemory)
    pub in_counts : KeepsInputs means job before ins answer
    pub out_counts : KeepsOutputs means job before outs answer

  -- words were run
  pub record Answered (words : List (List ℕ)) (before after : Option Files) (ins outs : Counts) (answer : Status) : Type 0 where
    pub bytes : answer ≡ status.Fine → AsksAlone words ⊎ HoldsMeaning means words before after
    pub text : AsksText words → (answer ≡ status.Fine) ⊎ (answer ≡ status.NoMemory)
    pub front : HoldsFront means words before after
    pub others : KeepsOtherFiles words before after
    pub untouched : ComesBeforeOutputs answer → KeepsFiles before after
    pub words_at : (place : ℕ) (kind : _) → answer ≡ status.Words place kind → AreWrong words (wrong_at place kind)
    pub wrong : (f : Fault) → AreWrong words f → (answer ≡ status.Words f.word f.kind) ⊎ (answer ≡ status.NoMemory)
    pub plan : (why : PlanError) → answer ≡ status.Plan why
        → AsksGenerated words ⊎ AskFor words (λ job. IsPlanRefused (over means job) before why)
    pub plan_memory : answer ≢ status.Plan why.NoMemory
    pub unsupported : (k offset : ℕ) → answer ≡ status.Unsupported k offset
        → AsksGenerated words ⊎ AskFor words (λ job. IsHeadRefused means job before k (fault.Unsupported offset))
    pub damaged : (k offset : ℕ) → answer ≡ status.Damaged k offset
        → AsksGenerated words ⊎ AskFor words (λ job. IsDamaged means job before after k offset)
    pub too_long : (node : ℕ) → answer ≡ status.TooLong node
        → AsksGenerated words ⊎ AskFor words (λ job. IsTooLong means job before node)
    pub too_large : (output : ℕ) → answer ≡ status.TooLarge output
        → AsksGenerated words ⊎ AskFor words (λ job. IsBroken (over means job) before (run_fault.TooLarge output))
    pub kept : (file : FileRef) → KeepsThere words before file → KeepsFiles before after × ((answer ≡ status.Device file) ⊎ (answer ≡ status.NoMemory))
    pub device : (file : FileRef) → answer ≡ status.Device file → AskFor words (λ job. HasFailed means job before ins outs file)
    pub no_head : (k : ℕ) (why : HeadFault) → GivesNoHead means words before ins k why → (answer ≡ refused_head k why) ⊎ (answer ≡ status.NoMemory)
    pub no_plan : (why : PlanError) → GivesNoPlan means words before ins why → (answer ≡ refused_plan why) ⊎ (answer ≡ status.NoMemory)
    pub complete : GivesAll means words before ins outs → (answer ≡ status.Fine) ⊎ (answer ≡ status.NoMemory)
    pub in_counts : KeepsInputCounts means words before ins answer
    pub out_counts : KeepsOutputCounts means words before outs answer
