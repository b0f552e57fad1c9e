-- The laws of a machine, and their words.
use Rattle.std.specs.Prelude.{◌≡◌, ◌≢◌, ℕ, ◌<◌, ◌≤◌, ◌⊎◌, ◌+◌, ◌-◌, ◌^◌, min, List, [], map, length, take, Option, None, Some, is_some, IsSome}
use mathlib.Core.List.{IsPrefix}
use Rattle.ff_stream.specs.declared.item.Lane.{Lane}
use Rattle.ff_stream.specs.Stream.{still_open}
use Rattle.ff_stream.specs.Ports.{stream_at, AllBelow, AllUnbroken, IsMonotone, IsCalm, IsClosed}
use Rattle.ff_net.specs.declared.fault.Fault.{Fault}
use Rattle.ff_net.specs.declared.fault.Fault.TheVariants.{Device, Damaged, TooLong, TooLarge, NoMemory}
use Rattle.ff_net.specs.Ways.{Flow, AreValid}
use Rattle.ff_net.specs.Pasts.{Past, Units, IsIn, no_events, due, due_by}
use Rattle.ff_net.specs.laws.Views.{View}

-- a count that has come from before to now has risen, or stands at its last value
abbrev pub Rose : ℕ → ℕ → Type 0
Rose before now = min (before + 1) (2 ^ 64 - 1) ≤ now

-- From one call to the next: the same source or sink; its count of failures never falls; a fault that is there stays;
-- and the fault of a device comes only where that count rose. That count changes only where the fault of a device is
-- there afterwards: it is there from the first call on the source or sink that failed. Behind a fault, of whatever kind,
-- neither fails any more.
pub record FaultStep (old new : View) : Type 0 where
  pub device_same : new.device ≡ old.device
  pub later : old.failures ≤ new.failures
  pub stays : (c : Fault) → old.fault ≡ Some c → new.fault ≡ Some c
  pub failed : old.fault ≡ None → new.fault ≡ Some Device → Rose old.failures new.failures
  pub unfailed : new.fault ≢ Some Device → new.failures ≡ old.failures
  pub behind : (c : Fault) → old.fault ≡ Some c → new.failures ≡ old.failures

-- a fault that a machine makes of its inputs, and not of a device or for want of memory
abbrev pub IsOfInputs : Fault → Type 0
IsOfInputs Device = ⊥
IsOfInputs (Damaged offset) = Unit {0}
IsOfInputs TooLong = Unit {0}
IsOfInputs TooLarge = Unit {0}
IsOfInputs NoMemory = ⊥

-- no device failed, and no memory was refused for good
abbrev pub GoesOn : Option Fault → Type 0
GoesOn None = Unit {0}
GoesOn (Some Device) = ⊥
GoesOn (Some (Damaged offset)) = Unit {0}
GoesOn (Some TooLong) = Unit {0}
GoesOn (Some TooLarge) = Unit {0}
GoesOn (Some NoMemory) = ⊥

-- a fault of the inputs of valid streams is the fault of all streams further on
abbrev pub CauseStays : List Lane → (List Flow → Option Fault) → Type 0
CauseStays lanes cause = (rs ss : List Flow) (c : Fault) → AreValid lanes rs → AreValid lanes ss → AllBelow rs ss → cause rs ≡ Some c → cause ss ≡ Some c

-- each output that wasn't stopped is closed by what was fed
abbrev pub OutputsClose : ℕ → Past → Type 0
OutputsClose outputs past = (q : ℕ) → q < outputs → (IsIn q past.stopped → ⊥) → IsClosed (stream_at (past.task.means past.got) q)

-- whatever still comes on this input, each output that wasn't stopped gets the same
abbrev pub NoMatter : List Lane → ℕ → Past → ℕ → Type 0
NoMatter lanes outputs past p = (ss ts : List Flow) → AreValid lanes ss → AreValid lanes ts → AllBelow past.got ss → AllBelow past.got ts → ((i : ℕ) → i ≢ p → stream_at ss i ≡ stream_at ts i)
    → (q : ℕ) → q < outputs → (IsIn q past.stopped → ⊥) → stream_at (past.task.means ss) q ≡ stream_at (past.task.means ts) q

-- an input has closed, or there are outputs and nothing more of it matters
abbrev pub MaySpend : List Lane → ℕ → Past → ℕ → Type 0
MaySpend lanes outputs past p = IsClosed (stream_at past.got p) ⊎ ((0 < outputs) × NoMatter lanes outputs past p)

-- closed inputs close each output
abbrev pub Settles : List Lane → ℕ → (List Flow → List Flow) → Type 0
Settles lanes outputs means = (ss : List Flow) → AreValid lanes ss → ((p : ℕ) → p < length lanes → IsClosed (stream_at ss p)) → (q : ℕ) → q < outputs → IsClosed (stream_at (means ss) q)

-- an output that wasn't stopped, and on which no closing item was given
pub record IsPending (outputs : ℕ) (past : Past) (q : ℕ) : Type 0 where
  pub there : q < outputs
  pub goes_on : IsIn q past.stopped → ⊥
  pub unclosed : (stream_at past.gave q).mark ≡ still_open

-- a source without a fault, of which an output goes on: it is no event yet that it has ended
pub record IsReading (v : View) (past : Past) : Type 0 where
  pub is_source : IsSome v.source
  pub sound : v.fault ≡ None
  pub port : ℕ
  pub pending : IsPending (length v.out_lanes) past port

-- it has no event to tell, and told none
abbrev pub IsSilent : Past → Type 0
IsSilent past = (past.task.tells ≡ no_events) × (past.told ≡ [])

-- each pending output had nothing to give
abbrev pub AllAsked : ℕ → Past → Type 0
AllAsked outputs past = (q : ℕ) → IsPending outputs past q → IsIn q past.asked

-- the places of the tickets under which a source has tried a unit: a front of those that it was allowed
abbrev pub reads_of : View → Past → List ℕ
reads_of v past = take v.tried (map (λ t. t.place) past.allowed)

-- what each machine owes, by its view: for each past that can be behind it
pub record Laws (v : View) : Type 0 where
  -- a source's past is a source's
  pub is_source : (past : Past) → v.stands past → is_some past.task.source ≡ is_some v.source
  -- its units are of what it means
  pub units_below : (past : Past) → v.stands past → (units : Units) → past.task.source ≡ Some units → (n : ℕ) → AllBelow (units.upto n) (past.task.means past.got)
  -- what was fed is valid for the lanes of the inputs
  pub valid : (past : Past) → v.stands past → AreValid v.in_lanes past.got
  -- valid inputs give valid outputs
  pub keeps : (past : Past) → v.stands past → (ss : List Flow) → AreValid v.in_lanes ss → AreValid v.out_lanes (past.task.means ss)
  -- streams further on give streams further on
  pub monotone : (past : Past) → v.stands past → IsMonotone (AreValid v.in_lanes) past.task.means
  -- a fault of the inputs stays their fault
  pub cause_stays : (past : Past) → v.stands past → CauseStays v.in_lanes past.task.cause
  -- whoever isn't told of the breaks in the inputs gets no less
  pub calm : (past : Past) → v.stands past → IsCalm (AreValid v.in_lanes) past.task.means
  -- it gave no more than is due
  pub given : (past : Past) → v.stands past → AllBelow past.gave (due past)
  -- a break without a break in the inputs comes with a fault
  pub unbroken : (past : Past) → v.stands past → v.fault ≡ None → AllUnbroken past.got → AllUnbroken past.gave
  -- damage, length and size are faults only as the inputs' cause
  pub caused : (past : Past) (c : Fault) → v.stands past → v.fault ≡ Some c → IsOfInputs c → past.task.cause past.got ≡ Some c
  -- an input is spent only where it has closed, or where there are outputs and nothing that may still come on it changes
  -- what an output that wasn't stopped gets
  pub spent_only : (past : Past) (p : ℕ) → v.stands past → v.spent p → MaySpend v.in_lanes (length v.out_lanes) past p
  -- an input that has closed is spent
  pub closed_spent : (past : Past) (p : ℕ) → v.stands past → p < length v.in_lanes → IsClosed (stream_at past.got p) → v.spent p
  -- where there are outputs, and each that wasn't stopped is closed, every input is spent once each such output had
  -- nothing more to give
  pub done_spent : (past : Past) (p : ℕ) → v.stands past → p < length v.in_lanes → 0 < length v.out_lanes → OutputsClose (length v.out_lanes) past → AllAsked (length v.out_lanes) past → v.spent p
  -- of a machine that is no source, closed inputs close each output
  pub settles : (past : Past) → v.stands past → v.source ≡ None → Settles v.in_lanes (length v.out_lanes) past.task.means
  -- it told no event but those that are due, in their order
  pub told : (past : Past) → v.stands past → IsPrefix past.told (past.task.tells past.feeds)
  -- a source without a fault that has a pending output holds no ticket once each had nothing to give
  pub ticket_used : (past : Past) (q : ℕ) → v.stands past → IsSome v.source → v.fault ≡ None → IsPending (length v.out_lanes) past q → AllAsked (length v.out_lanes) past → v.holds → ⊥
  -- it tried a unit under no more tickets than it was allowed
  pub tried_allowed : (past : Past) → v.stands past → v.tried ≤ length past.allowed
  -- and a source gave no more than the units that it tried, or the end that it found in place of one
  pub tried_units : (past : Past) → v.stands past → IsSome v.source → AllBelow past.gave (due_by past.task.source v.tried (past.task.means past.got))
