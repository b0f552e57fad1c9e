-- What the host whose sources meet holds, and what its calls note under a name.
use Rattle.std.specs.Prelude.{◌≡◌, ◌≢◌, ℕ, List, true, IsTrue}
use Rattle.ff_host.specs.Files.{Files, bytes_at}
use Rattle.ff_host.specs.laws.memory.MeetEnds.{MeetReading, new_meeting}
use Rattle.ff_host.specs.laws.memory.QuietHost.{quiet_files, quiet_sources, quiet_sinks}
use Rattle.ff_host.specs.laws.Tally.{marks_at}
use Rattle.ff_host.specs.declared.memory.meet_host.MeetHost.{MeetHost}
use Rattle.ff_host.specs.declared.tally.Marks.{Marks}

-- its files, by name
abbrev pub meet_files : MeetHost → Files
meet_files host = quiet_files host.inner

-- what is noted under a name: the faults of the closed sources, and whether one was opened
abbrev pub meet_marks : MeetHost → List ℕ → Marks
meet_marks host name = marks_at host.table name

abbrev pub meet_in_faults : MeetHost → List ℕ → ℕ
meet_in_faults host name = (meet_marks host name).in_faults

-- from which place on its sources wait
abbrev pub meet_offset : MeetHost → ℕ
meet_offset host = host.offset

-- how many of the sources that it opened were not given back
abbrev pub meet_sources : MeetHost → ℕ
meet_sources host = quiet_sources host.inner

-- how many of the sinks that it created were not given back
abbrev pub meet_sinks : MeetHost → ℕ
meet_sinks host = quiet_sinks host.inner

-- a source was opened on this name
abbrev pub MeetOpened : MeetHost → List ℕ → Type 0
MeetOpened host name = IsTrue (meet_marks host name).opened

-- a source of this name as it is opened: with the file left, or nothing where the name is not there
abbrev pub new_meet_source : MeetHost → List ℕ → MeetReading
new_meet_source host name = new_meeting name (bytes_at (meet_files host) name) (meet_offset host)

-- what is noted under the name changes so, nothing is noted under another, and the offset stays
pub record MeetNotes (old new : MeetHost) (name : List ℕ) (change : Marks → Marks) : Type 0 where
  pub here : meet_marks new name ≡ change (meet_marks old name)
  pub others : (other : List ℕ) → other ≢ name → meet_marks new other ≡ meet_marks old other
  pub offset : meet_offset new ≡ meet_offset old

-- nothing is noted anew, and the offset stays
pub record MeetSame (old new : MeetHost) : Type 0 where
  pub marks : (name : List ℕ) → meet_marks new name ≡ meet_marks old name
  pub offset : meet_offset new ≡ meet_offset old

-- where a source was opened
abbrev pub now_opened : Marks → Marks
now_opened m = record m { opened = true }
