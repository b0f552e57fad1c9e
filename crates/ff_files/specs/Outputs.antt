-- The outputs of a run: created, and closed.
use Rattle.std.specs.Prelude.{◌≡◌, ◌⊎◌, ⊤, ℕ, ◌<◌, ◌≤◌, List, length, slice_index_or, Option, Some, None, Bool, if◌then◌else◌, Result, Ok, Err, IfSome}
use Rattle.ff_host.specs.Causes.{SameCounts}
use Rattle.ff_host.specs.Files.{Files, KeepsFiles, HoldsNothing}
use Rattle.ff_host.specs.declared.host.HostError.{HostError}
use Rattle.ff_host.specs.declared.host.HostError.TheVariants as host_error
use Rattle.ff_files.specs.Names.{Name, name_at, KeepsAllBut, HoldsUnder}
use Rattle.ff_files.specs.Counts.{Counts, RoseUnder, SameUnder}
use Rattle.ff_files.specs.declared.outputs.OutputRefusal.{OutputRefusal}

-- each sink holds nothing
abbrev pub AreEmpty : {K : Type 0} → (K → Option (List ℕ)) → Option Files → List K → Type 0
AreEmpty {K} holds files snks = (k : ℕ) (d : K) → k < length snks → HoldsNothing files (holds (slice_index_or snks k d))

-- why not all outputs were created: memory, which is no fault, or a fault that was counted under the name
abbrev pub EndsOutputs : (List ℕ → ℕ) → (List ℕ → ℕ) → List Name → ℕ → HostError → Type 0
EndsOutputs before now names k host_error.NoMemory = (k < length names) × SameUnder before now (name_at names k)
EndsOutputs before now names k host_error.Failed = (k < length names) × RoseUnder before now (name_at names k)

-- the creation of this output was refused so: it and those behind it are as they were
pub record IsUncreated (before after : Option Files) (outs : Counts) (names : List Name) (k : ℕ) (why : HostError) : Type 0 where
  pub counted : EndsOutputs outs.before outs.after names k why
  pub untouched : KeepsAllBut before after names k

-- no output was created, and no count of theirs has risen; or each that is a file was created; or the creation of one was refused, and is the end
abbrev pub CreatesOutputs : (List ℕ → Type 0) → Option Files → Option Files → Counts → List Name → (ℕ → HostError → Type 0) → Type 0
CreatesOutputs created before after outs names IsEnd =
    (KeepsFiles before after × SameCounts outs.before outs.after)
    ⊎ ((k : ℕ) → k < length names → IfSome (name_at names k) created)
    ⊎ ((k : ℕ) × (why : HostError) × IsUncreated before after outs names k why × IsEnd k why)

-- how many of the outputs in front were created without a fault
abbrev pub sound_outputs : Result Unit OutputRefusal → ℕ → ℕ
sound_outputs (Ok done) all = all
sound_outputs (Err refusal) all = refusal.output

-- the files hold what these sinks held
abbrev pub ArePut : {K : Type 0} → (K → Option (List ℕ)) → Option Files → Option Files → List Name → List K → Type 0
ArePut {K} holds before now names snks = (k : ℕ) (d : K) → k < length snks → HoldsUnder before now (name_at names k) (holds (slice_index_or snks k d))

-- the first that failed, if one did, is one of these, and its fault was counted under its name
abbrev pub FailsAt : (List ℕ → ℕ) → (List ℕ → ℕ) → List Name → ℕ → Option ℕ → Type 0
FailsAt before now names count None = ⊤
FailsAt before now names count (Some k) = (k < count) × RoseUnder before now (name_at names k)

-- each below this number was closed without a failure of the closing itself, where this is the first that failed
abbrev pub AreClosed : Option ℕ → ℕ → Type 0
AreClosed None count = ⊤
AreClosed (Some k) count = count ≤ k

-- the first number that failed
abbrev pub first_failed : Option ℕ → Bool → ℕ → Option ℕ
first_failed (Some j) failed k = Some j
first_failed None failed k = if failed then Some k else None
