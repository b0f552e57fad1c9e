-- How a command over files ends, and when each end comes. Where the files aren't told, a conclusion on them claims nothing, and
-- a premise on them isn't met.
use Rattle.std.specs.Prelude.{◌≡◌, ⊤, ℕ, ◌<◌, List, length, Option, Some, None, Ok}
use Rattle.ff_host.specs.Files.{Files}
use Rattle.ff_host.specs.declared.host.HostError.{HostError}
use Rattle.ff_host.specs.declared.host.HostError.TheVariants as host_error
use Rattle.ff_reader.specs.declared.fault.HeadFault.{HeadFault}
use Rattle.ff_reader.specs.declared.fault.HeadFault.TheVariants as fault
use Rattle.ff_files.specs.Names.{names_of}
use Rattle.ff_files.specs.Counts.{Counts, Faulted}
use Rattle.ff_files.specs.Heads.{HaveHeads, IsRefused}
use Rattle.ff_files.specs.Works.{Command, all_heads, all_bytes}
use Rattle.ff_files.specs.declared.head.InputEnd.{InputEnd}
use Rattle.ff_files.specs.declared.head.InputEnd.TheVariants as input_end
use Rattle.ff_files.specs.declared.work.WorkEnd.{WorkEnd}
use Rattle.ff_files.specs.declared.work.WorkEnd.TheVariants as work_end
use Rattle.ff_files.specs.declared.work.PlanEnd.{PlanEnd}
use Rattle.ff_files.specs.declared.work.PlanEnd.TheVariants as plan_end
use Rattle.ff_files.specs.declared.end.RunEnd.{RunEnd}
use Rattle.ff_files.specs.declared.end.RunEnd.TheVariants as run_end

-- the end comes before any output is created
abbrev pub ComesBeforeOutputs : {R F : Type 0} → RunEnd R F → Type 0
ComesBeforeOutputs (run_end.Damaged input offset) = Unit {0}
ComesBeforeOutputs (run_end.Unsupported input offset) = Unit {0}
ComesBeforeOutputs (run_end.Refused refusal) = Unit {0}
ComesBeforeOutputs _ = ⊥

-- the end of an input without a head
abbrev pub end_of_input : {R F : Type 0} → ℕ → InputEnd → RunEnd R F
end_of_input k input_end.NoMemory = run_end.NoMemory
end_of_input k input_end.Failed = run_end.InputFailed k
end_of_input k (input_end.Damaged offset) = run_end.Damaged k offset
end_of_input k (input_end.Unsupported offset) = run_end.Unsupported k offset

-- the end where there is no plan
abbrev pub end_of_plan : {R F : Type 0} → PlanEnd R → RunEnd R F
end_of_plan (plan_end.Refused refusal) = run_end.Refused refusal
end_of_plan plan_end.NoMemory = run_end.NoMemory

-- the end where an output wasn't created
abbrev pub end_of_output : {R F : Type 0} → ℕ → HostError → RunEnd R F
end_of_output k host_error.NoMemory = run_end.NoMemory
end_of_output k host_error.Failed = run_end.OutputFailed k

-- the end of a run: its own, or that of the first sink whose closing failed
abbrev pub end_after : {R F : Type 0} → WorkEnd F → Option ℕ → RunEnd R F
end_after work_end.Fine None = run_end.Fine
end_after work_end.Fine (Some k) = run_end.OutputFailed k
end_after (work_end.Input k) unclosed = run_end.InputFailed k
end_after (work_end.Output k) unclosed = run_end.OutputFailed k
end_after (work_end.Broken fault) unclosed = run_end.Broken fault
end_after work_end.NoMemory unclosed = run_end.NoMemory

-- the end of an input whose head is refused so
abbrev pub refusal : {R F : Type 0} → ℕ → HeadFault → RunEnd R F
refusal k (fault.Damaged offset) = run_end.Damaged k offset
refusal k (fault.Unsupported offset) = run_end.Unsupported k offset

module _ {I H R F : Type 0} (command : Command I H R F) where
  -- each input has a head, and these heads give a plan
  abbrev pub IsPlanned : Option Files → Type 0
  IsPlanned None = ⊤
  IsPlanned (Some before) = (heads : List H) × (all_heads command before ≡ Ok heads) × (command.means.refusal heads ≡ None)

  -- each input has a head, and these heads give no plan, for this reason
  abbrev pub IsPlanRefused : Option Files → R → Type 0
  IsPlanRefused None why = ⊤
  IsPlanRefused (Some before) why = (heads : List H) × (all_heads command before ≡ Ok heads) × (command.means.refusal heads ≡ Some why)

  -- the inputs have heads and a plan, and break so
  abbrev pub IsBroken : Option Files → F → Type 0
  IsBroken None why = ⊤
  IsBroken (Some before) why = (heads : List H) × (all_heads command before ≡ Ok heads) × (command.means.refusal heads ≡ None)
      × command.means.Breaks heads (all_bytes command before) why

  -- When each end comes: a fault of a device only where the count of that one's name rose, and of an input only where all
  -- before it have heads; a refusal of a head or of the plan, and a fault of the run, only where the bytes are so.
  abbrev pub Ends : Option Files → Counts → Counts → RunEnd R F → Type 0
  Ends before ins outs run_end.Fine = IsPlanned before
  Ends before ins outs run_end.NoMemory = ⊤
  Ends before ins outs (run_end.InputFailed k) =
      Faulted ins (names_of command.name command.inputs) k × HaveHeads command.name command.head before command.inputs k
  Ends before ins outs (run_end.OutputFailed k) = Faulted outs command.outputs k × IsPlanned before
  Ends before ins outs (run_end.Damaged k offset) =
      (k < length command.inputs) × IsRefused command.name command.head before command.inputs k (fault.Damaged offset)
  Ends before ins outs (run_end.Unsupported k offset) =
      (k < length command.inputs) × IsRefused command.name command.head before command.inputs k (fault.Unsupported offset)
  Ends before ins outs (run_end.Refused why) = IsPlanRefused before why
  Ends before ins outs (run_end.Broken why) = IsBroken before why

  -- how many of the inputs in front didn't fail. Where an input's reading fails, it is the end, unless a fault came before it.
  abbrev pub sound_inputs : RunEnd R F → ℕ
  sound_inputs run_end.Fine = length command.inputs
  sound_inputs run_end.NoMemory = 1
  sound_inputs (run_end.InputFailed k) = k
  sound_inputs (run_end.OutputFailed k) = length command.inputs
  sound_inputs (run_end.Damaged k offset) = length command.inputs
  sound_inputs (run_end.Unsupported k offset) = length command.inputs
  sound_inputs (run_end.Refused why) = length command.inputs
  sound_inputs (run_end.Broken why) = command.means.comes_after why

  -- how many of the outputs in front didn't fail
  abbrev pub sound_outputs : RunEnd R F → ℕ
  sound_outputs run_end.Fine = length command.outputs
  sound_outputs run_end.NoMemory = 0
  sound_outputs (run_end.InputFailed k) = 0
  sound_outputs (run_end.OutputFailed k) = 0
  sound_outputs (run_end.Damaged k offset) = length command.outputs
  sound_outputs (run_end.Unsupported k offset) = length command.outputs
  sound_outputs (run_end.Refused why) = length command.outputs
  sound_outputs (run_end.Broken why) = 0

  -- this input is the first whose head is refused, with files that are told
  abbrev pub IsFirstRefused : Option Files → ℕ → HeadFault → Type 0
  IsFirstRefused None k why = ⊥
  IsFirstRefused (Some before) k why = IsRefused command.name command.head (Some before) command.inputs k why

  -- each input has a head, and these heads give no plan, for this reason, with files that are told
  abbrev pub HasNoPlan : Option Files → R → Type 0
  HasNoPlan None why = ⊥
  HasNoPlan (Some before) why = IsPlanRefused (Some before) why

  -- each input has a head, these heads give a plan, and nothing of the heads and the bytes breaks the run, with files that are told
  abbrev pub CanBeDone : Option Files → Type 0
  CanBeDone None = ⊥
  CanBeDone (Some before) = IsPlanned (Some before) × ((why : F) → IsBroken (Some before) why → ⊥)
