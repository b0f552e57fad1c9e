-- Results that are no refusal.
use Rattle.std.proofs.Common.{◌≡◌, Bool, true, false, Option, Some, None, refl, ap, subst}
use Rattle.std.specs.Prelude.{Ok, Err}
use Rattle.ff_plan_layout.specs.declared.error.PlanError.{PlanError}
use Rattle.ff_plan_layout.specs.Rules.{Planned, behind, unless, where_so}

abbrev IsErr : {X : Type 0} → Planned X → Type 0
IsErr (Ok x) = ⊥
IsErr (Err e) = Unit {0}

pub not_ok : {X : Type 0} (e : PlanError) (x : X) → Err e ≡ Ok x → ⊥
not_ok {X} e x h = subst (λ (r : Planned X). IsErr r) h tt

abbrev ok_or : {X : Type 0} → X → Planned X → X
ok_or d (Ok x) = x
ok_or d (Err e) = d

pub same_ok : {X : Type 0} (x y : X) → ◌≡◌ {A = Planned X} (Ok x) (Ok y) → x ≡ y
same_ok {X} x y h = ap (λ (r : Planned X). ok_or x r) h

pub behind_ok : {X Y : Type 0} (r : Planned X) (f : X → Planned Y) (y : Y) → behind r f ≡ Ok y → (x : X) × (r ≡ Ok x) × (f x ≡ Ok y)
behind_ok (Ok x) f y h = (x, refl, h)
behind_ok (Err e) f y h = absurd (not_ok e y h)

pub unless_ok : {Y : Type 0} (o : Option PlanError) (r : Planned Y) (y : Y) → unless o r ≡ Ok y → r ≡ Ok y
unless_ok None r y h = h
unless_ok (Some e) r y h = absurd (not_ok e y h)

pub unless_none : {Y : Type 0} (o : Option PlanError) (r : Planned Y) (y : Y) → unless o r ≡ Ok y → o ≡ None
unless_none None r y h = refl
unless_none (Some e) r y h = absurd (not_ok e y h)

abbrev IsFault : Option PlanError → Type 0
IsFault None = ⊥
IsFault (Some e) = Unit {0}

pub not_so : (b : Bool) (e : PlanError) → where_so b e ≡ None → b ≡ false
not_so true e h = absurd (subst (λ (o : Option PlanError). IsFault o) h tt)
not_so false e h = refl
