-- What is done between the opening and the closing, and what an output holds by it.
use Rattle.std.specs.Prelude.{◌≡◌, ◌⊎◌, ⊤, ℕ, ◌<◌, ◌≤◌, List, [], ◌++◌, length, map, slice_index_or, Option, Some, None, IsSome, IfSome, Ok, Err}
use Rattle.std.specs.Io.KnownBytes.{Appends}
use Rattle.ff_host.specs.Causes.{Rose}
use Rattle.ff_host.specs.Files.{Files, bytes_at}
use Rattle.ff_reader.specs.Heads.{Found}
use Rattle.ff_files.specs.Names.{Name, name_at, files_of}
use Rattle.ff_files.specs.Heads.{Heads, heads_of}
use Rattle.ff_files.specs.declared.work.WorkEnd.{WorkEnd}
use Rattle.ff_files.specs.declared.work.WorkEnd.TheVariants as work_end

-- All that contracts see of a work, as functions of the heads of all inputs, by their numbers, and of their bytes: heads H,
-- refusals of a plan R, faults F of a run that are neither a device's nor memory's.
pub record Meaning (H R F : Type 0) : Type 1 where
  -- why these heads give no plan, if they give none
  pub refusal : List H → Option R
  -- what each output holds, by its number, once all is done; None where the run breaks off
  pub file : List H → List (List ℕ) → ℕ → Option (List ℕ)
  -- the text of which each output holds a front until then
  pub text : List H → List (List ℕ) → ℕ → List ℕ
  -- the faults that come of these heads and bytes
  pub Breaks : List H → List (List ℕ) → F → Type 0
  -- inputs below this number come before the fault: a failure of theirs is the end, and not this
  pub comes_after : F → ℕ

-- a command over files: its inputs, each with its name and what its head is, the names of what it writes, of which the first so many
-- are its outputs, where these are files, and one more may be its trace, and the work between
pub record Command (I H R F : Type 0) : Type 1 where
  pub name : I → List ℕ
  pub head : I → List ℕ → Found H
  pub inputs : List I
  pub outputs : List Name
  pub count : ℕ
  pub means : Meaning H R F

-- the command over these inputs and these files to write
abbrev pub command_of : {I N H R F : Type 0} → (I → List ℕ) → (I → List ℕ → Found H) → (N → Name) → List I → List N → ℕ → Meaning H R F → Command I H R F
command_of name head name_out inputs outputs count means =
    record { name = name; head = head; inputs = inputs; outputs = files_of name_out outputs; count = count; means = means }

-- each source tells that these bytes are left, and each sink that it holds nothing
pub record AreTold {S K : Type 0} (left : S → Option (List ℕ)) (holds : K → Option (List ℕ)) (srcs : List S) (snks : List K) (bytes : List (List ℕ)) : Type 0 where
  pub as_many : length bytes ≡ length srcs
  pub left_is : (i : ℕ) (d : S) → i < length srcs → left (slice_index_or srcs i d) ≡ Some (slice_index_or bytes i [])
  pub empty : (j : ℕ) (d : K) → j < length snks → holds (slice_index_or snks j d) ≡ Some []

-- each sink holds its file, and there is one
abbrev pub HoldFiles : {K : Type 0} → (K → Option (List ℕ)) → (ℕ → Option (List ℕ)) → List K → Type 0
HoldFiles {K} holds file snks = (j : ℕ) (d : K) → j < length snks → IsSome (file j) × (holds (slice_index_or snks j d) ≡ file j)

-- a front of this text is held, or the finished file
abbrev pub HoldsPart : Option (List ℕ) → List ℕ → Option (List ℕ) → Type 0
HoldsPart held text file =
    ((front rest : List ℕ) × (held ≡ Some front) × (text ≡ front ++ rest)) ⊎ (IsSome file × (held ≡ file))

-- each sink holds a front of its text, or its finished file
abbrev pub HoldParts : {K : Type 0} → (K → Option (List ℕ)) → (ℕ → List ℕ) → (ℕ → Option (List ℕ)) → List K → Type 0
HoldParts {K} holds text file snks = (j : ℕ) (d : K) → j < length snks → HoldsPart (holds (slice_index_or snks j d)) (text j) (file j)

-- each of the first so many sinks holds its file, and there is one
abbrev pub HoldFirstFiles : {K : Type 0} → ℕ → (K → Option (List ℕ)) → (ℕ → Option (List ℕ)) → List K → Type 0
HoldFirstFiles {K} count holds file snks = (j : ℕ) (d : K) → j < count → j < length snks → IsSome (file j) × (holds (slice_index_or snks j d) ≡ file j)

-- each of the first so many sinks holds a front of its text, or its finished file
abbrev pub HoldFirstParts : {K : Type 0} → ℕ → (K → Option (List ℕ)) → (ℕ → List ℕ) → (ℕ → Option (List ℕ)) → List K → Type 0
HoldFirstParts {K} count holds text file snks =
    (j : ℕ) (d : K) → j < count → j < length snks → HoldsPart (holds (slice_index_or snks j d)) (text j) (file j)

-- each sink behind the first so many has gained this text
abbrev pub GainTexts : {K : Type 0} → ℕ → (K → Option (List ℕ)) → List ℕ → List K → List K → Type 0
GainTexts {K} count holds text old new =
    (j : ℕ) (d : K) → count ≤ j → j < length old → Appends (holds (slice_index_or old j d)) (holds (slice_index_or new j d)) text

-- there is a log, and this is so of it
abbrev pub HasLog : {L : Type 0} → (L → Type 0) → Option L → Type 0
HasLog Is None = ⊥
HasLog Is (Some log) = Is log

-- each keeps its number and its name
pub record KeepEnds {E : Type 0} (named : E → Option (List ℕ)) (old new : List E) : Type 0 where
  pub as_many : length new ≡ length old
  pub same_name : (k : ℕ) (d : E) → k < length old → named (slice_index_or new k d) ≡ named (slice_index_or old k d)

-- those below this number have failed no more than before
abbrev pub FailNoMore : {E : Type 0} → (E → ℕ) → List E → List E → ℕ → Type 0
FailNoMore {E} faults old new count =
    (k : ℕ) (d : E) → k < length old → k < count → faults (slice_index_or new k d) ≡ faults (slice_index_or old k d)

-- those from this number on have failed no more than before
abbrev pub FailNoMoreFrom : {E : Type 0} → (E → ℕ) → List E → List E → ℕ → Type 0
FailNoMoreFrom {E} faults old new count =
    (k : ℕ) (d : E) → count ≤ k → k < length old → faults (slice_index_or new k d) ≡ faults (slice_index_or old k d)

module _ {H R F : Type 0} (means : Meaning H R F) where
  -- how many of the inputs in front didn't fail: where one does, it is the end, unless a fault came before it
  abbrev pub sound_sources : WorkEnd F → ℕ → ℕ
  sound_sources work_end.Fine all = all
  sound_sources (work_end.Input i) all = i
  sound_sources (work_end.Output j) all = all
  sound_sources (work_end.Broken fault) all = means.comes_after fault
  sound_sources work_end.NoMemory all = 1

  -- how many of the outputs in front didn't fail
  abbrev pub sound_sinks : WorkEnd F → ℕ → ℕ
  sound_sinks work_end.Fine all = all
  sound_sinks (work_end.Input i) all = 0
  sound_sinks (work_end.Output j) all = j
  sound_sinks (work_end.Broken fault) all = 0
  sound_sinks work_end.NoMemory all = 0

  -- a fault of a device came only where that failed, and another only of the heads and the bytes, where these are told
  abbrev pub EndsWork : {S K : Type 0} → (S → ℕ) → (K → ℕ) → List S → List K → List S → List K → List H → (List (List ℕ) → Type 0) → WorkEnd F → Type 0
  EndsWork ins outs srcs snks srcs' snks' heads told work_end.Fine = ⊤
  EndsWork ins outs srcs snks srcs' snks' heads told work_end.NoMemory = ⊤
  EndsWork {S} {K} ins outs srcs snks srcs' snks' heads told (work_end.Input i) =
      (i < length srcs) × ((d : S) → Rose (ins (slice_index_or srcs i d)) (ins (slice_index_or srcs' i d)))
  EndsWork {S} {K} ins outs srcs snks srcs' snks' heads told (work_end.Output j) =
      (j < length snks) × ((d : K) → Rose (outs (slice_index_or snks j d)) (outs (slice_index_or snks' j d)))
  EndsWork ins outs srcs snks srcs' snks' heads told (work_end.Broken fault) = (bytes : List (List ℕ)) → told bytes → means.Breaks heads bytes fault

  -- what an output holds by these heads, or none without a plan
  abbrev pub file_with : List H → Option R → List (List ℕ) → ℕ → Option (List ℕ)
  file_with heads None bytes j = means.file heads bytes j
  file_with heads (Some refusal) bytes j = None

  abbrev pub text_with : List H → Option R → List (List ℕ) → ℕ → Option (List ℕ)
  text_with heads None bytes j = Some (means.text heads bytes j)
  text_with heads (Some refusal) bytes j = None

  abbrev pub file_of : Heads H → List (List ℕ) → ℕ → Option (List ℕ)
  file_of (Ok heads) bytes j = file_with heads (means.refusal heads) bytes j
  file_of (Err refusal) bytes j = None

  abbrev pub text_of : Heads H → List (List ℕ) → ℕ → Option (List ℕ)
  text_of (Ok heads) bytes j = text_with heads (means.refusal heads) bytes j
  text_of (Err refusal) bytes j = None

module _ {I H R F : Type 0} (command : Command I H R F) where
  -- the heads of the inputs, or the first that is refused
  abbrev pub all_heads : Files → Heads H
  all_heads files = heads_of command.name command.head files command.inputs

  -- the bytes of the inputs, by number; a name that isn't there stands for an empty file
  abbrev pub all_bytes : Files → List (List ℕ)
  all_bytes files = map (λ (input : I). bytes_at files (command.name input)) command.inputs

  -- the bytes of an output, by its number; None where an input has no head, there is no plan, or the run breaks off
  abbrev pub meaning : Files → ℕ → Option (List ℕ)
  meaning files j = file_of command.means (all_heads files) (all_bytes files) j

  -- the text of which an output holds a front until it is done
  abbrev pub written : Files → ℕ → Option (List ℕ)
  written files j = text_of command.means (all_heads files) (all_bytes files) j

  -- each output has its bytes, and where it is a file it holds these
  abbrev pub HoldMeaning : Option Files → Option Files → Type 0
  HoldMeaning (Some before) (Some after) = (j : ℕ) → j < command.count
      → IsSome (meaning before j) × IfSome (name_at command.outputs j) (λ name. after name ≡ meaning before j)
  HoldMeaning before after = ⊤

  -- this file, of this output, is as it was, or holds a front of what is written to it, or its bytes
  abbrev pub HoldsWritten : Files → Files → ℕ → List ℕ → Type 0
  HoldsWritten before after j name =
      (after name ≡ before name)
      ⊎ ((front rest : List ℕ) × (after name ≡ Some front) × (written before j ≡ Some (front ++ rest)))
      ⊎ (IsSome (meaning before j) × (after name ≡ meaning before j))

  -- each output that is a file does so
  abbrev pub HoldWritten : Option Files → Option Files → Type 0
  HoldWritten (Some before) (Some after) = (j : ℕ) → j < command.count → IfSome (name_at command.outputs j) (HoldsWritten before after j)
  HoldWritten before after = ⊤

  -- these are the heads of all inputs, where the files are told
  abbrev pub AreHeadsIn : Option Files → List H → Type 0
  AreHeadsIn None heads = ⊤
  AreHeadsIn (Some files) heads = all_heads files ≡ Ok heads

  -- the bytes of the inputs, where the files are told
  abbrev pub told_bytes : Option Files → Option (List (List ℕ))
  told_bytes None = None
  told_bytes (Some files) = Some (all_bytes files)

  -- each file behind the outputs holds this text
  abbrev pub HoldTrace : List ℕ → Option Files → Option Files → Type 0
  HoldTrace text (Some before) (Some after) = (j : ℕ) → command.count ≤ j → j < length command.outputs
      → IfSome (name_at command.outputs j) (λ name. after name ≡ Some text)
  HoldTrace text before after = ⊤
