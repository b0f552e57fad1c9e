-- The input of a number, and what stays where one is replaced.
use Rattle.std.proofs.Common.{◌≡◌, ◌≢◌, ℕ, zero, suc, ◌<◌, Bool, true, false, cond, Option, None, Some, List, [], ◌∷◌, ◌++◌, ◌+◌, length, take, refl, ap, sym, ◌∙◌, arith, get_or, set}
use Rattle.ff_time.specs.Fraction.{Fraction}
use Rattle.ff_node_filter.specs.declared.best.input.Input.{Input}
use Rattle.std.proofs.Math.Seq.{take-suc}
use Rattle.std.proofs.lemmas.List.{map-append}
use Rattle.ff_frame.specs.declared.head.StreamHead.{StreamHead}
use Rattle.ff_frame.specs.Heads.{base_of_head}
use Rattle.ff_node_filter.specs.best.Bests.{base_at, is_earlier}
use Rattle.ff_node_filter.specs.best.Inputs.{bases_of, bases_of_heads, end_at, closed_at, kept_of, Keeps}

pub base_there : (is : List Input) (p : ℕ) (i : Input) → p < length is → i ≡ get_or is p i → base_at (bases_of is) p ≡ i.tb
base_there [] p i lt e = absurd (omega (arith, lt))
base_there (j ∷ is) zero i lt e = ap (λ (x : Input). x.tb) (sym e)
base_there (j ∷ is) (suc p) i lt e = base_there is p i (omega (arith, lt)) e

pub end_there : (is : List Input) (p : ℕ) (i : Input) → p < length is → i ≡ get_or is p i → end_at is p ≡ i.end
end_there [] p i lt e = absurd (omega (arith, lt))
end_there (j ∷ is) zero i lt e = ap (λ (x : Input). x.end) (sym e)
end_there (j ∷ is) (suc p) i lt e = end_there is p i (omega (arith, lt)) e

pub closed_there : (is : List Input) (p : ℕ) (i : Input) → p < length is → i ≡ get_or is p i → closed_at is p ≡ i.closed
closed_there [] p i lt e = absurd (omega (arith, lt))
closed_there (j ∷ is) zero i lt e = ap (λ (x : Input). x.closed) (sym e)
closed_there (j ∷ is) (suc p) i lt e = closed_there is p i (omega (arith, lt)) e

pub set_end_here : (is : List Input) (p : ℕ) (i : Input) → p < length is → end_at (set is p i) p ≡ i.end
set_end_here [] p i lt = absurd (omega (arith, lt))
set_end_here (j ∷ is) zero i lt = refl
set_end_here (j ∷ is) (suc p) i lt = set_end_here is p i (omega (arith, lt))

pub set_end_others : (is : List Input) (p q : ℕ) (i : Input) → q ≢ p → end_at (set is p i) q ≡ end_at is q
set_end_others [] p q i n = refl
set_end_others (j ∷ is) zero zero i n = absurd (n refl)
set_end_others (j ∷ is) zero (suc q) i n = refl
set_end_others (j ∷ is) (suc p) zero i n = refl
set_end_others (j ∷ is) (suc p) (suc q) i n = set_end_others is p q i (λ e. n (ap suc e))

pub set_closed_here : (is : List Input) (p : ℕ) (i : Input) → p < length is → closed_at (set is p i) p ≡ i.closed
set_closed_here [] p i lt = absurd (omega (arith, lt))
set_closed_here (j ∷ is) zero i lt = refl
set_closed_here (j ∷ is) (suc p) i lt = set_closed_here is p i (omega (arith, lt))

pub set_closed_others : (is : List Input) (p q : ℕ) (i : Input) → q ≢ p → closed_at (set is p i) q ≡ closed_at is q
set_closed_others [] p q i n = refl
set_closed_others (j ∷ is) zero zero i n = absurd (n refl)
set_closed_others (j ∷ is) zero (suc q) i n = refl
set_closed_others (j ∷ is) (suc p) zero i n = refl
set_closed_others (j ∷ is) (suc p) (suc q) i n = set_closed_others is p q i (λ e. n (ap suc e))

pub set_bases : (is : List Input) (p : ℕ) (i j : Input) → j ≡ get_or is p j → i.tb ≡ j.tb → bases_of (set is p i) ≡ bases_of is
set_bases [] p i j e t = refl
set_bases (k ∷ is) zero i j e t = ap (λ (b : Fraction). b ∷ bases_of is) (t ∙ ap (λ (x : Input). x.tb) e)
set_bases (k ∷ is) (suc p) i j e t = ap (λ (bs : List Fraction). k.tb ∷ bs) (set_bases is p i j e t)

pub bases_long : (is : List Input) → length (bases_of is) ≡ length is
bases_long [] = refl
bases_long (i ∷ is) = let e = bases_long is in omega (arith, e)

-- an input that has closed is passed over
pub better_skips : (is : List Input) (p : ℕ) (best : Option ℕ) (x : Input) → p < length is → x ≡ get_or is p x → x.closed ≡ true
    → best ≡ cond (closed_at is p) best (Some (kept_of is best p))
better_skips is p best x lt e c = let k : closed_at is p ≡ true = closed_there is p x lt e ∙ c in rw k refl

-- the first that hasn't is the best so far
pub better_first : (is : List Input) (p : ℕ) (best : Option ℕ) (x : Input) → p < length is → x ≡ get_or is p x → x.closed ≡ false → best ≡ None
    → Some p ≡ cond (closed_at is p) best (Some (kept_of is best p))
better_first is p best x lt e c n = let k : closed_at is p ≡ false = closed_there is p x lt e ∙ c in rw (k, n) refl

-- of two, the one whose last item ends earlier
pub better_picks : (is : List Input) (p i : ℕ) (best : Option ℕ) (x y : Input) (r : Bool) → p < length is → i < length is → x ≡ get_or is p x → y ≡ get_or is i y → x.closed ≡ false → best ≡ Some i
    → r ≡ is_earlier x.end x.tb y.end y.tb → Some (cond r p i) ≡ cond (closed_at is p) best (Some (kept_of is best p))
better_picks is p i best x y r lt li ex ey c b h =
    let k : closed_at is p ≡ false = closed_there is p x lt ex ∙ c in
    let same : is_earlier (end_at is p) (base_at (bases_of is) p) (end_at is i) (base_at (bases_of is) i) ≡ r =
    rw (end_there is p x lt ex, base_there is p x lt ex, end_there is i y li ey, base_there is i y li ey) (sym h) in
    rw (k, b) (ap (λ (t : Bool). Some (cond t p i)) (sym same))

-- one input more, of which nothing came
pub inputs_more : (is : List Input) (hs : List StreamHead) (p : ℕ) (i : Input) (h : StreamHead) → p < length hs → h ≡ get_or hs p h → i.tb ≡ base_of_head h
    → bases_of is ≡ bases_of_heads (take p hs) → bases_of (is ++ i ∷ []) ≡ bases_of_heads (take (p + 1) hs)
inputs_more is hs p i h lt e t b =
    let n : p + 1 ≡ suc p = omega arith in
    let one : take (p + 1) hs ≡ take p hs ++ h ∷ [] = ap (λ k. take k hs) n ∙ (take-suc hs p h lt ∙ ap (λ (g : StreamHead). take p hs ++ g ∷ []) (sym e)) in
    map-append (λ (x : Input). x.tb) is (i ∷ []) ∙ (ap (λ (bs : List Fraction). bs ++ i.tb ∷ []) b
    ∙ (ap (λ (f : Fraction). bases_of_heads (take p hs) ++ f ∷ []) t ∙ (sym (map-append base_of_head (take p hs) (h ∷ [])) ∙ ap bases_of_heads (sym one))))

ends_more : (is : List Input) (i : Input) → i.end ≡ None → ((q : ℕ) → end_at is q ≡ None) → (q : ℕ) → end_at (is ++ i ∷ []) q ≡ None
ends_more [] i e h zero = e
ends_more [] i e h (suc q) = refl
ends_more (j ∷ is) i e h zero = h zero
ends_more (j ∷ is) i e h (suc q) = ends_more is i e (λ r. h (suc r)) q

closeds_more : (is : List Input) (i : Input) → i.closed ≡ false → ((q : ℕ) → closed_at is q ≡ false) → (q : ℕ) → closed_at (is ++ i ∷ []) q ≡ false
closeds_more [] i e h zero = e
closeds_more [] i e h (suc q) = refl
closeds_more (j ∷ is) i e h zero = h zero
closeds_more (j ∷ is) i e h (suc q) = closeds_more is i e (λ r. h (suc r)) q

pub keeps_more : (is : List Input) (i : Input) → i.end ≡ None → i.closed ≡ false → Keeps is [] → Keeps (is ++ i ∷ []) []
keeps_more is i e c k = record { ends = ends_more is i e k.ends; closed = closeds_more is i c k.closed }
