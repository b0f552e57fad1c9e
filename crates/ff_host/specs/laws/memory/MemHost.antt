-- What the host in memory holds, and what its calls note under a name.
use Rattle.std.specs.Prelude.{◌≡◌, ◌≢◌, ◌⊎◌, ℕ, List, None, true, IsTrue, IsSome}
use Rattle.ff_host.specs.Causes.{added}
use Rattle.ff_host.specs.Files.{Files, bytes_at}
use Rattle.ff_host.specs.laws.memory.MemEnds.{MemReading, MemWriting, new_reading, new_writing}
use Rattle.ff_host.specs.laws.memory.Plan.{IsPlannedNext, numbers_of}
use Rattle.ff_host.specs.laws.memory.QuietHost.{quiet_files, quiet_sources, quiet_sinks}
use Rattle.ff_host.specs.laws.Tally.{marks_at}
use Rattle.ff_host.specs.declared.memory.mem_host.MemHost.{MemHost}
use Rattle.ff_host.specs.declared.memory.plan.FailAt.{FailAt}
use Rattle.ff_host.specs.declared.memory.plan.HostCall.TheVariants.{OpenSource, Read, Create, Append, Patch, CloseSink}
use Rattle.ff_host.specs.declared.tally.Marks.{Marks}

-- its files, by name
abbrev pub files_of : MemHost → Files
files_of host = quiet_files host.inner

-- the calls that are planned to fail
abbrev pub plan_of : MemHost → List FailAt
plan_of host = host.plan.items

-- what is noted under a name: its faults, the calls so far, and whether it was opened and created
abbrev pub marks_in : MemHost → List ℕ → Marks
marks_in host name = marks_at host.table name

abbrev pub in_faults_of : MemHost → List ℕ → ℕ
in_faults_of host name = (marks_in host name).in_faults

abbrev pub out_faults_of : MemHost → List ℕ → ℕ
out_faults_of host name = (marks_in host name).out_faults

-- how many of the sources that it opened were not given back
abbrev pub open_sources_of : MemHost → ℕ
open_sources_of host = quiet_sources host.inner

-- how many of the sinks that it created were not given back
abbrev pub open_sinks_of : MemHost → ℕ
open_sinks_of host = quiet_sinks host.inner

-- a source was opened on this name
abbrev pub HasOpened : MemHost → List ℕ → Type 0
HasOpened host name = IsTrue (marks_in host name).opened

-- a sink was created on this name, and its file is there
abbrev pub HasCreated : MemHost → List ℕ → Type 0
HasCreated host name = IsTrue (marks_in host name).created × IsSome (files_of host name)

-- opening this name fails: it is not there, or the call is planned to fail
abbrev pub OpenFails : MemHost → List ℕ → Type 0
OpenFails host name = (files_of host name ≡ None) ⊎ IsPlannedNext (plan_of host) name OpenSource (marks_in host name).opens

-- creating this name is planned to fail
abbrev pub CreateFails : MemHost → List ℕ → Type 0
CreateFails host name = IsPlannedNext (plan_of host) name Create (marks_in host name).creates

-- closing a sink of this name is planned to fail
abbrev pub CloseFails : MemHost → List ℕ → Type 0
CloseFails host name = IsPlannedNext (plan_of host) name CloseSink (marks_in host name).closes

-- a source of this name as it is opened: with the file left, and the reads that are planned to fail
abbrev pub new_source : MemHost → List ℕ → MemReading
new_source host name = new_reading name (bytes_at (files_of host) name) (numbers_of (plan_of host) name Read)

-- a sink of this name as it is created: with nothing, and the appends and patches that are planned to fail
abbrev pub new_sink : MemHost → List ℕ → MemWriting
new_sink host name = new_writing name (numbers_of (plan_of host) name Append) (numbers_of (plan_of host) name Patch)

-- what is noted under the name changes so, nothing is noted under another, and the plan stays
pub record Notes (old new : MemHost) (name : List ℕ) (change : Marks → Marks) : Type 0 where
  pub here : marks_in new name ≡ change (marks_in old name)
  pub others : (other : List ℕ) → other ≢ name → marks_in new other ≡ marks_in old other
  pub plan : plan_of new ≡ plan_of old

-- where there was no memory
abbrev pub no_change : Marks → Marks
no_change m = m

-- where a source was opened
abbrev pub one_opened : Marks → Marks
one_opened m = record m { opened = true; opens = added m.opens 1 }

-- where opening failed
abbrev pub one_open_failed : Marks → Marks
one_open_failed m = record m { in_faults = added m.in_faults 1; opens = added m.opens 1 }

-- where a sink was created
abbrev pub one_created : Marks → Marks
one_created m = record m { created = true; creates = added m.creates 1 }

-- where creating failed
abbrev pub one_create_failed : Marks → Marks
one_create_failed m = record m { out_faults = added m.out_faults 1; creates = added m.creates 1 }

-- where a source with so many faults was closed
abbrev pub source_closed : ℕ → Marks → Marks
source_closed faults m = record m { in_faults = added m.in_faults faults }

-- where a sink with so many faults was closed
abbrev pub sink_closed : ℕ → Marks → Marks
sink_closed faults m = record m { out_faults = added m.out_faults faults; closes = added m.closes 1 }

-- where closing a sink with so many faults failed: one more
abbrev pub close_failed : ℕ → Marks → Marks
close_failed faults m = record m { out_faults = added (added m.out_faults faults) 1; closes = added m.closes 1 }
