-- A source and a sink whose calls fail where it is planned, as contracts see them.
use Rattle.std.specs.Prelude.{ℕ, List, [], Bool, false, true}
use Rattle.ff_host.specs.Causes.{added}

-- a source: the name that it was opened on, the bytes still to come, how often it was read, the numbers of the reads
-- that are planned to fail, how often it failed, and whether it did
pub record MemReading : Type 0 where
  pub name : List ℕ
  pub left : List ℕ
  pub reads : ℕ
  pub planned : List ℕ
  pub faults : ℕ
  pub failed : Bool

-- a source as it is opened
abbrev pub new_reading : List ℕ → List ℕ → List ℕ → MemReading
new_reading name left planned = record { name = name; left = left; reads = 0; planned = planned; faults = 0; failed = false }

-- what a failing read leaves: everything, but that it was a read and a fault
abbrev pub failed_read : MemReading → MemReading
failed_read s = record s { reads = added s.reads 1; faults = added s.faults 1; failed = true }

-- a sink: the name that it was created on, the bytes that it holds, how often it was appended to and patched, the
-- numbers of the appends and patches that are planned to fail, how often it failed, and whether it did
pub record MemWriting : Type 0 where
  pub name : List ℕ
  pub holds : List ℕ
  pub appends : ℕ
  pub patches : ℕ
  pub planned_appends : List ℕ
  pub planned_patches : List ℕ
  pub faults : ℕ
  pub failed : Bool

-- a sink as it is created
abbrev pub new_writing : List ℕ → List ℕ → List ℕ → MemWriting
new_writing name appends patches =
    record { name = name; holds = []; appends = 0; patches = 0; planned_appends = appends; planned_patches = patches; faults = 0; failed = false }

-- what a failing append leaves
abbrev pub failed_append : MemWriting → MemWriting
failed_append s = record s { appends = added s.appends 1; faults = added s.faults 1; failed = true }

-- what a failing patch leaves
abbrev pub failed_patch : MemWriting → MemWriting
failed_patch s = record s { patches = added s.patches 1; faults = added s.faults 1; failed = true }
