-- What a run does over sources and sinks, of which the first so many are those of outputs, and one more may be that of the trace.
use Rattle.std.specs.Prelude.{◌≡◌, ◌⊎◌, ℕ, List, length, Option, IfSome}
use Rattle.std.specs.Io.KnownBytes.{Appends}
use Rattle.ff_host.specs.Causes.{Rose}
use Rattle.ff_files.specs.declared.work.WorkEnd.{WorkEnd}
use Rattle.ff_files.specs.declared.work.WorkEnd.TheVariants as work_end
use Rattle.ff_files.specs.Works.{Meaning, AreTold, HoldFiles, HoldParts, HoldFirstFiles, HoldFirstParts, GainTexts, HasLog, KeepEnds, FailNoMore, FailNoMoreFrom, EndsWork, sound_sources, sound_sinks}

-- How the end of a run goes on once its log was written to the sink of this number: only where all was done, and all is done then
-- only where the sink has gained the text of the log.
pub record GoesOn {F K L : Type 0} (printed : L → List ℕ) (holds called : K → Option (List ℕ)) (faulted : K → ℕ)
    (number : ℕ) (log : Option L) (old new : K) (end after : WorkEnd F) : Type 0 where
  pub name : called new ≡ called old
  pub kept : (end ≡ work_end.Fine → ⊥) → after ≡ end
  pub fine : after ≡ work_end.Fine → end ≡ work_end.Fine
  pub ended : end ≡ work_end.Fine → (after ≡ work_end.Fine) ⊎ (after ≡ work_end.NoMemory) ⊎ ((after ≡ work_end.Output number) × Rose (faulted old) (faulted new))
  pub sound : after ≡ work_end.Fine → faulted new ≡ faulted old
  pub unfailed : after ≡ work_end.NoMemory → faulted new ≡ faulted old
  pub gained : after ≡ work_end.Fine → IfSome log (λ l. Appends (holds old) (holds new) (printed l))

module _ {H R F L S K : Type 0} (means : Meaning H R F) (left named : S → Option (List ℕ)) (failed : S → ℕ) (holds called : K → Option (List ℕ)) (faulted : K → ℕ)
    (tells : Option (List (List ℕ)) → L → Type 0) where
  -- what a run says of these sources and sinks, which are these afterwards: where all was done, each sink holds its file and the log tells
  -- of the run; each sink holds a front of its text, or its file; the end is the fault of the first that has one; those in front didn't fail
  pub record RunSays (heads : List H) (srcs : List S) (snks : List K) (end : WorkEnd F) (log : Option L) (srcs' : List S) (snks' : List K) : Type 0 where
    pub fine : end ≡ work_end.Fine → (bytes : List (List ℕ)) → AreTold left holds srcs snks bytes → HoldFiles holds (means.file heads bytes) snks'
    pub parts : (bytes : List (List ℕ)) → AreTold left holds srcs snks bytes → HoldParts holds (means.text heads bytes) (means.file heads bytes) snks'
    pub srcs_kept : KeepEnds named srcs srcs'
    pub snks_kept : KeepEnds called snks snks'
    pub ends : EndsWork means failed faulted srcs snks srcs' snks' heads (AreTold left holds srcs snks) end
    pub sound_srcs : FailNoMore failed srcs srcs' (sound_sources means end (length srcs))
    pub sound_snks : FailNoMore faulted snks snks' (sound_sinks means end (length snks))
    pub logged : end ≡ work_end.Fine → (bytes : Option (List (List ℕ))) → IfSome bytes (AreTold left holds srcs snks) → HasLog (tells bytes) log

module _ {H R F L S K : Type 0} (means : Meaning H R F) (left named : S → Option (List ℕ)) (failed : S → ℕ) (holds called : K → Option (List ℕ)) (faulted : K → ℕ)
    (tells : Option (List (List ℕ)) → L → Type 0) (printed : L → List ℕ) where
  -- over these sources and sinks, which are these afterwards
  pub record IsRun (count : ℕ) (heads : List H) (srcs : List S) (snks : List K) (end : WorkEnd F) (log : Option L) (srcs' : List S) (snks' : List K) : Type 0 where
    pub fine : end ≡ work_end.Fine → (bytes : List (List ℕ)) → AreTold left holds srcs snks bytes → HoldFirstFiles count holds (means.file heads bytes) snks'
    pub parts : (bytes : List (List ℕ)) → AreTold left holds srcs snks bytes → HoldFirstParts count holds (means.text heads bytes) (means.file heads bytes) snks'
    pub srcs_kept : KeepEnds named srcs srcs'
    pub snks_kept : KeepEnds called snks snks'
    pub ends : EndsWork means failed faulted srcs snks srcs' snks' heads (AreTold left holds srcs snks) end
    pub sound_srcs : FailNoMore failed srcs srcs' (sound_sources means end (length srcs))
    pub sound_snks : FailNoMore faulted snks snks' (sound_sinks means end (length snks))
    pub unfailed : end ≡ work_end.NoMemory → FailNoMoreFrom faulted snks snks' count
    pub logged : end ≡ work_end.Fine → (bytes : Option (List (List ℕ))) → IfSome bytes (AreTold left holds srcs snks) → HasLog (tells bytes) log
    pub traced : end ≡ work_end.Fine → IfSome log (λ l. GainTexts count holds (printed l) snks snks')
