-- What loops over maps, streams and outputs keep.
use Rattle.std.proofs.Common.{◌≡◌, inl, inr, ℕ, zero, suc, ◌+◌, ◌<◌, List, [], ◌∷◌, ◌++◌, drop, length, get_or, refl, sym, ap, ◌∙◌, arith, append_assoc}
use Rattle.std.specs.Prelude.{Ok, Err}
use Rattle.std.specs.List.{AllByRecursion}
use Rattle.ff_plan_layout.specs.declared.error.PlanError.{PlanError}
use Rattle.ff_plan_layout.specs.laws.Refusals.{IsRefused}
use Rattle.ff_plan_layout.specs.Rules.{Planned, behind}
use Rattle.ff_plan_layout.specs.Streams.{front_with}

pub drop_next : {A : Type 0} (xs : List A) (n : ℕ) (d : A) → n < length xs → drop n xs ≡ get_or xs n d ∷ drop (n + 1) xs
drop_next [] n d lt = absurd (omega (arith, lt))
drop_next (x ∷ xs) zero d lt = refl
drop_next {A} (x ∷ xs) (suc n) d lt =
    (let one : suc (n + 1) ≡ suc n + 1 = omega arith in drop_next xs n d (omega (arith, lt)) ∙ ap (λ (k : ℕ). get_or xs n d ∷ drop k (x ∷ xs)) one)

pub all_more : {A : Type 0} (P : A → Type 0) (xs : List A) (y : A) → AllByRecursion P xs → P y → AllByRecursion P (xs ++ y ∷ [])
all_more P [] y all h = (h, tt)
all_more P (x ∷ xs) y all h = (all.0, all_more P xs y all.1 h)

-- ---- fronts of results

abbrev pub fine : {X : Type 0} → X → Planned X
fine x = Ok x

pub front_front : {X : Type 0} (xs ys : List X) (r : Planned (List X)) → front_with xs (front_with ys r) ≡ front_with (xs ++ ys) r
front_front {X} xs ys (Ok zs) = ap (λ (l : List X). fine l) (sym (append_assoc xs ys zs))
front_front xs ys (Err e) = refl

pub refused_behind : {X Y : Type 0} (r : Planned X) (f : X → Planned Y) (e : PlanError) → IsRefused r e → IsRefused (behind r f) e
refused_behind r f e (inl h) = inl h
refused_behind {X} r f e (inr h) = inr (ap (λ (q : Planned X). behind q f) h)
