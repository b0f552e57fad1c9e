-- Which calls are planned to fail.
use Rattle.std.specs.Prelude.{ℕ, ◌==◌, ◌&&◌, ◌⊎◌, Bool, List, map, filter, string_bytes, IsTrue, Contains}
use Rattle.std.specs.Str.{bytes_eq}
use Rattle.ff_host.specs.Causes.{added}
use Rattle.ff_host.specs.declared.memory.plan.FailAt.{FailAt}
use Rattle.ff_host.specs.declared.memory.plan.HostCall.{HostCall}
use Rattle.ff_host.specs.declared.memory.plan.HostCall.TheVariants.{OpenSource, Read, Create, Append, Patch, CloseSink}

-- a kind's place among the kinds, by which they are compared
abbrev pub place_of : HostCall → ℕ
place_of OpenSource = 0
place_of Read = 1
place_of Create = 2
place_of Append = 3
place_of Patch = 4
place_of CloseSink = 5

-- it plans a call of this kind under this name
abbrev pub plans : List ℕ → HostCall → FailAt → Bool
plans name call f = bytes_eq (string_bytes f.name) name && (place_of f.call == place_of call)

-- the numbers of the calls of this kind under this name that are planned to fail
abbrev pub numbers_of : List FailAt → List ℕ → HostCall → List ℕ
numbers_of plan name call = map (λ f. f.number) (filter (plans name call) plan)

-- the next call after so many of this kind under this name is planned to fail
abbrev pub IsPlannedNext : List FailAt → List ℕ → HostCall → ℕ → Type 0
IsPlannedNext plan name call calls = Contains (numbers_of plan name call) (added calls 1)

-- the next call on an object after so many of its kind fails: it has failed before, or this one is planned to
abbrev pub FailsNext : Bool → List ℕ → ℕ → Type 0
FailsNext failed planned calls = IsTrue failed ⊎ Contains planned (added calls 1)
