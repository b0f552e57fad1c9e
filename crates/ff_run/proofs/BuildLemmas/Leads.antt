-- What a machine that tells its best input shows, and heads by open output pads.
use Rattle.std.proofs.Common.{◌≡◌, List, [], ◌∷◌, map, refl, ap, subst, sym}
use Rattle.ff_net.specs.laws.Views.{View}
use Rattle.ff_net.specs.declared.machine.Machine.{Ghosts as MachineGhosts}
use Rattle.ff_node_filter.specs.declared.best.leading.Leading.{Leading}
use Rattle.ff_node_filter.specs.laws.best.Leaders.{leading_shown}

-- the same machine shows the same
pub shown_as : {M : Type 0} {G : MachineGhosts M} (l k : Leading M G) → l ≡ k → (P : View → Type 0) → P (leading_shown k) → P (leading_shown l)
shown_as {M} {G} l k e P p = subst (λ (x : Leading M G). P (leading_shown x)) (sym e) p

pub two_steps : {A B C : Type 0} (f : A → B) (h : B → C) (xs : List A) → map (λ x. h (f x)) xs ≡ map h (map f xs)
two_steps f h [] = refl
two_steps {A} {B} {C} f h (x ∷ xs) = ap (λ (ys : List C). h (f x) ∷ ys) (two_steps f h xs)
