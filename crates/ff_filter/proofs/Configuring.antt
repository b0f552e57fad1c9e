-- A filter is configured.
use Rattle.std.proofs.Common.{◌≡◌, List, [], ◌∷◌, Result, Ok, Err, IfOk, Bool, refl, sym, subst, ◌∙◌}
use Rattle.ff_frame.specs.declared.config.ConfigError.{ConfigError}
use Rattle.ff_frame.specs.declared.head.StreamHead.{StreamHead}
use Rattle.ff_lang.specs.declared.graph.Arg.{Arg}
use Rattle.ff_filter.specs.Views.{View}
use Rattle.ff_filter.specs.Options.{Manual, AreSet, AfterSet, IsConfigured, IsMade}

-- by a head and settings it is m
pub configured : {S X : Type 0} (wanted : StreamHead → Bool) (manual : Manual S) (s : S) (makes : StreamHead → S → Result X ConfigError → Type 0) (args : List Arg) (heads : List StreamHead) (q : Result (StreamHead × S) ConfigError) (head : StreamHead) (t : S) (r : Result X ConfigError)
    → AreSet wanted manual s args heads q → q ≡ Ok (head, t) → makes head t r → IsConfigured wanted manual s makes args heads r
configured wanted manual s makes args heads q head t r set is made = (q, set, subst (λ x. AfterSet makes x r) (sym is) made)

-- the machine is seen as m's function, and has its head
pub made_of_both : {X A : Type 0} (made : Result X ConfigError → Type 0) (shown : X → View) (head : X → StreamHead) (m : X) (r : Result A ConfigError) (view : A → View) (items : A → List StreamHead)
    → made (Ok m) → IfOk r (λ a. view a ≡ shown m) → IfOk r (λ a. items a ≡ head m ∷ []) → IfOk r (λ a. IsMade made shown head (view a) (items a))
made_of_both made shown head m (Ok a) view items k v h = (m, k, v, h)
made_of_both made shown head m (Err e) view items k v h = tt

pub refused : {S X : Type 0} (wanted : StreamHead → Bool) (manual : Manual S) (s : S) (makes : StreamHead → S → Result X ConfigError → Type 0) (args : List Arg) (heads : List StreamHead) (q : Result (StreamHead × S) ConfigError) (e : ConfigError)
    → AreSet wanted manual s args heads q → q ≡ Err e → IsConfigured wanted manual s makes args heads (Err e)
refused wanted manual s makes args heads q e set is = (q, set, subst (λ x. AfterSet makes x (Err e)) (sym is) refl)

pub seen_as : {A : Type 0} (r : Result A ConfigError) (view : A → View) (v w : View) → v ≡ w → IfOk r (λ a. view a ≡ v) → IfOk r (λ a. view a ≡ w)
seen_as (Ok a) view v w e h = h ∙ e
seen_as (Err e) view v w is h = tt
