-- Counts of faults: those of what is open, and those that a host keeps by name.
use Rattle.std.specs.Prelude.{◌≡◌, ◌≢◌, ⊤, ℕ, ◌<◌, ◌≤◌, List, length, slice_index_or, Some, None}
use Rattle.ff_host.specs.Causes.{Rose, SameCounts, SameElsewhere}
use Rattle.ff_files.specs.Names.{Name, name_at}

-- counts by name, at two moments
pub record Counts : Type 0 where
  pub before : List ℕ → ℕ
  pub after : List ℕ → ℕ

-- those that a host keeps, from one state of it to another
abbrev pub counted : {H : Type 0} → (H → List ℕ → ℕ) → H → H → Counts
counted faults old new = record { before = faults old; after = faults new }

-- there is a file, and the count under its name has risen
abbrev pub RoseUnder : (List ℕ → ℕ) → (List ℕ → ℕ) → Name → Type 0
RoseUnder before now None = ⊥
RoseUnder before now (Some name) = Rose (before name) (now name)

-- the count under this name is what it was
abbrev pub SameUnder : (List ℕ → ℕ) → (List ℕ → ℕ) → Name → Type 0
SameUnder before now None = ⊤
SameUnder before now (Some name) = now name ≡ before name

-- no count has changed but that under this name
abbrev pub SameBeside : Name → (List ℕ → ℕ) → (List ℕ → ℕ) → Type 0
SameBeside None before now = SameCounts before now
SameBeside (Some name) before now = SameElsewhere name before now

-- it is one of these files, and the count under its name has risen
abbrev pub Faulted : Counts → List Name → ℕ → Type 0
Faulted counts names k = (k < length names) × RoseUnder counts.before counts.after (name_at names k)

-- each number under which the name stands is below this one; also where it stands under none
abbrev pub StandsBelow : List Name → ℕ → List ℕ → Type 0
StandsBelow names count name = (k : ℕ) → k < length names → name_at names k ≡ Some name → k < count

-- The counts of names that stand below this number alone, or nowhere, are what they were. At 0 these are the names that are
-- none of these, and at their number all names.
abbrev pub KeepsCounts : (List ℕ → ℕ) → (List ℕ → ℕ) → List Name → ℕ → Type 0
KeepsCounts before now names count = (name : List ℕ) → StandsBelow names count name → now name ≡ before name

-- no count has changed but those of the first so many of these names
abbrev pub KeepsCountsBut : (List ℕ → ℕ) → (List ℕ → ℕ) → List Name → ℕ → Type 0
KeepsCountsBut before now names count = (other : List ℕ) → ((k : ℕ) → k < count → name_at names k ≢ Some other) → now other ≡ before other

-- of the sources, or of the sinks, those below this number have not failed
abbrev pub AreUnfailed : {E : Type 0} → (E → ℕ) → List E → ℕ → Type 0
AreUnfailed {E} faults ends count = (k : ℕ) (d : E) → k < length ends → k < count → faults (slice_index_or ends k d) ≡ 0

-- counts by name have risen for each of these that has failed
abbrev pub CountsFaults : {E : Type 0} → (E → ℕ) → (List ℕ → ℕ) → (List ℕ → ℕ) → List Name → List E → Type 0
CountsFaults {E} faults before now names ends =
    (k : ℕ) (d : E) → k < length ends → 1 ≤ faults (slice_index_or ends k d) → RoseUnder before now (name_at names k)
