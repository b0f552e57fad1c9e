-- The inputs of a run: opened, each with its head.
use Rattle.std.specs.Prelude.{◌≡◌, ◌⊎◌, ⊤, ℕ, ◌<◌, ◌≤◌, List, length, slice_index_or, Option, Some, None, Result, Ok, Err, IfSome}
use Rattle.std.specs.Io.KnownBytes.{prepend_known}
use Rattle.ff_host.specs.laws.Begun.{still_in}
use Rattle.ff_host.specs.Causes.{Rose}
use Rattle.ff_host.specs.Files.{Files, bytes_at, GivesFile}
use Rattle.ff_host.specs.declared.begun.Begun.{Begun}
use Rattle.ff_reader.specs.declared.fault.HeadFault.TheVariants as fault
use Rattle.ff_reader.specs.Heads.{Found}
use Rattle.ff_files.specs.Names.{Name, name_at}
use Rattle.ff_files.specs.Counts.{RoseUnder}
use Rattle.ff_files.specs.Heads.{IsRefused, heads_of, HaveHeads}
use Rattle.ff_files.specs.declared.head.InputEnd.{InputEnd}
use Rattle.ff_files.specs.declared.head.InputEnd.TheVariants as input_end
use Rattle.ff_files.specs.declared.inputs.InputRefusal.{InputRefusal}

-- why what a source has left gives no head: memory, a fault of reading, or the bytes
abbrev pub EndsHead : {H : Type 0} → (List ℕ → Found H) → InputEnd → ℕ → ℕ → Option (List ℕ) → Type 0
EndsHead head input_end.NoMemory before after left = after ≡ before
EndsHead head input_end.Failed before after left = Rose before after
EndsHead head (input_end.Damaged offset) before after left = (after ≡ before) × IfSome left (λ all. head all ≡ Err (fault.Damaged offset))
EndsHead head (input_end.Unsupported offset) before after left = (after ≡ before) × IfSome left (λ all. head all ≡ Err (fault.Unsupported offset))

-- what a source tells of which some bytes were read already, its name and its failures
abbrev pub begun_left : {S : Type 0} → (S → Option (List ℕ)) → Begun S → Option (List ℕ)
begun_left left b = prepend_known (still_in b.bytes.items b.at) (left b.src)

abbrev pub begun_name : {S : Type 0} → (S → Option (List ℕ)) → Begun S → Option (List ℕ)
begun_name name b = name b.src

abbrev pub begun_faults : {S : Type 0} → (S → ℕ) → Begun S → ℕ
begun_faults faults b = faults b.src

-- the head of a file, where the files are told
abbrev pub IsFound : {H : Type 0} → (List ℕ → Found H) → Option Files → List ℕ → Found H → Type 0
IsFound head None name found = ⊤
IsFound head (Some files) name found = head (bytes_at files name) ≡ found

-- why an opened input has no head, with the failures of its source
abbrev pub IsHeadless : {H : Type 0} → (List ℕ → Found H) → InputEnd → ℕ → Option Files → List ℕ → Type 0
IsHeadless head input_end.NoMemory faults files name = faults ≡ 0
IsHeadless head input_end.Failed faults files name = 1 ≤ faults
IsHeadless head (input_end.Damaged offset) faults files name = (faults ≡ 0) × IsFound head files name (Err (fault.Damaged offset))
IsHeadless head (input_end.Unsupported offset) faults files name = (faults ≡ 0) × IsFound head files name (Err (fault.Unsupported offset))

-- what was read of an opened input: its head, with a source that hasn't failed and gives the file from its first byte on, or why not
abbrev pub IsRead : {H : Type 0} → (List ℕ → Found H) → (H → Type 0) → Result H InputEnd → ℕ → Option (List ℕ) → Option Files → List ℕ → Type 0
IsRead head sound (Ok h) faults left files name = sound h × (faults ≡ 0) × IsFound head files name (Ok h) × GivesFile files name left
IsRead head sound (Err end) faults left files name = IsHeadless head end faults files name

-- why an input wasn't opened: memory, or a fault that was counted under its name
abbrev pub IsUnopened : InputEnd → ℕ → ℕ → Type 0
IsUnopened input_end.NoMemory before now = now ≡ before
IsUnopened input_end.Failed before now = Rose before now
IsUnopened (input_end.Damaged offset) before now = ⊥
IsUnopened (input_end.Unsupported offset) before now = ⊥

-- how many of the inputs in front didn't fail
abbrev pub sound_before : InputEnd → ℕ → ℕ → ℕ
sound_before input_end.Failed k all = k
sound_before input_end.NoMemory k all = all
sound_before (input_end.Damaged offset) k all = all
sound_before (input_end.Unsupported offset) k all = all

abbrev pub sound_inputs : Result Unit InputRefusal → ℕ → ℕ
sound_inputs (Ok done) all = all
sound_inputs (Err refusal) all = sound_before refusal.end refusal.input all

-- the fault of an input was counted under its name, or will be with that of its source
abbrev pub HasFailed : {E : Type 0} → (E → ℕ) → (List ℕ → ℕ) → (List ℕ → ℕ) → List Name → List E → ℕ → Type 0
HasFailed {E} faults before now names srcs k =
    RoseUnder before now (name_at names k) ⊎ ((k < length srcs) × ((d : E) → 1 ≤ faults (slice_index_or srcs k d)))

module _ {I H : Type 0} (name : I → List ℕ) (head : I → List ℕ → Found H) where
  -- each input was opened and has its head
  pub record AreBegun {E : Type 0} (left : E → Option (List ℕ)) (files : Option Files) (inputs : List I) (srcs : List E) (heads : List H) : Type 0 where
    pub as_many : length srcs ≡ length inputs
    pub told_heads : (told : Files) → files ≡ Some told → heads_of name head told inputs ≡ Ok heads
    pub told_bytes : (told : Files) → files ≡ Some told
        → (k : ℕ) (i : I) (d : E) → k < length srcs → left (slice_index_or srcs k d) ≡ Some (bytes_at told (name (slice_index_or inputs k i)))

  -- why not all inputs have heads
  abbrev pub EndsInputs : {E : Type 0} → (E → ℕ) → Option Files → (List ℕ → ℕ) → (List ℕ → ℕ) → List Name → List I → List E → ℕ → InputEnd → Type 0
  EndsInputs faults files before now names inputs srcs k input_end.NoMemory = k < length inputs
  EndsInputs faults files before now names inputs srcs k input_end.Failed =
      (k < length inputs) × HasFailed faults before now names srcs k × HaveHeads name head files inputs k
  EndsInputs faults files before now names inputs srcs k (input_end.Damaged offset) =
      (k < length inputs) × IsRefused name head files inputs k (fault.Damaged offset)
  EndsInputs faults files before now names inputs srcs k (input_end.Unsupported offset) =
      (k < length inputs) × IsRefused name head files inputs k (fault.Unsupported offset)
