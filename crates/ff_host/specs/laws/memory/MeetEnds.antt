-- A source that waits for another one, as contracts see it.
use Rattle.std.specs.Prelude.{◌<◌, ◌⊎◌, ℕ, List, Bool, false, true, IsTrue, drop}
use Rattle.ff_host.specs.Causes.{added}

-- a source: the name that it was opened on, the bytes still to come, how many it gave, from which place on a read waits
-- for the other source, whether it has met that, how many turns it waited, how often it failed, and whether it did
pub record MeetReading : Type 0 where
  pub name : List ℕ
  pub left : List ℕ
  pub at : ℕ
  pub offset : ℕ
  pub met : Bool
  pub turns : ℕ
  pub faults : ℕ
  pub failed : Bool

-- a source as it is opened
abbrev pub new_meeting : List ℕ → List ℕ → ℕ → MeetReading
new_meeting name left offset =
    record { name = name; left = left; at = 0; offset = offset; met = false; turns = 0; faults = 0; failed = false }

-- how many turns a read waits at most
abbrev pub most_turns : ℕ
most_turns = 10000000

-- its next read needs no meeting: it begins before the offset, or the two have met
abbrev pub GoesOn : MeetReading → Type 0
GoesOn s = (s.at < s.offset) ⊎ IsTrue s.met

-- what a read of so many bytes leaves, after it met the other source or not, in so many turns
abbrev pub gave : ℕ → Bool → ℕ → MeetReading → MeetReading
gave n met turns s = record s { left = drop n s.left; at = added s.at n; met = met; turns = turns }

-- what a failing read leaves after so many turns: everything, but that it was a fault
abbrev pub failed_alone : ℕ → MeetReading → MeetReading
failed_alone turns s = record s { turns = turns; faults = added s.faults 1; failed = true }
