-- What code may refuse.
use Rattle.std.specs.Prelude.{◌≡◌, ◌⊎◌, Option, Some, Err}
use Rattle.ff_plan_layout.specs.declared.error.PlanError.{PlanError}
use Rattle.ff_plan_layout.specs.declared.error.PlanError.TheVariants as fault
use Rattle.ff_plan_layout.specs.Rules.{Planned}

-- the refusal that is wanted, or want of memory
abbrev pub IsRefused : {X : Type 0} → Planned X → PlanError → Type 0
IsRefused wanted e = (e ≡ fault.NoMemory) ⊎ (wanted ≡ Err e)

-- the same, where it is wanted by itself
abbrev pub IsFault : Option PlanError → PlanError → Type 0
IsFault wanted e = (e ≡ fault.NoMemory) ⊎ (wanted ≡ Some e)
