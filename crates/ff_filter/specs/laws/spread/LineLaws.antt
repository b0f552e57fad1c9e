-- One output changes, and the others stay.
use Rattle.std.specs.Prelude.{◌≡◌, ◌≢◌, ℕ, zero, suc, ◌<◌, ◌⊎◌, Bool, true, false, ◌&&◌, List, [], ◌∷◌, ◌++◌, length, slice_index_or, slice_set, refl}
use Rattle.std.proofs.Common.{inl, inr, ap, sym, ◌∙◌, arith}
use Rattle.ff_filter.specs.declared.outlet.Outlet.{Outlet}
use Rattle.ff_filter.specs.Views.{none_closes}
use Rattle.ff_filter.specs.laws.spread.Lines.{fresh, line_of, lines, is_done, all_done}

pub lines_set : (os : List Outlet) (p : ℕ) (o : Outlet) → p < length os → lines (slice_set os p o) p ≡ line_of o
lines_set [] p o lt = absurd (omega arith)
lines_set (x ∷ os) zero o lt = refl
lines_set (x ∷ os) (suc p) o lt = lines_set os p o (omega arith)

pub lines_other : (os : List Outlet) (p q : ℕ) (o : Outlet) → q ≢ p → lines (slice_set os p o) q ≡ lines os q
lines_other [] p q o n = refl
lines_other (x ∷ os) zero zero o n = absurd (n refl)
lines_other (x ∷ os) zero (suc q) o n = refl
lines_other (x ∷ os) (suc p) zero o n = refl
lines_other (x ∷ os) (suc p) (suc q) o n = lines_other os p q o (λ e. n (ap suc e))

pub lines_read : (os : List Outlet) (p : ℕ) (d o : Outlet) → p < length os → o ≡ slice_index_or os p d → lines os p ≡ line_of o
lines_read [] p d o lt e = absurd (omega arith)
lines_read (x ∷ os) zero d o lt e = ap line_of (sym e)
lines_read (x ∷ os) (suc p) d o lt e = lines_read os p d o (omega arith) e

pub lines_last : (os : List Outlet) (o : Outlet) → line_of o ≡ fresh → ((q : ℕ) → lines os q ≡ fresh) → (q : ℕ) → lines (os ++ o ∷ []) q ≡ fresh
lines_last [] o e h zero = e
lines_last [] o e h (suc q) = refl
lines_last (x ∷ os) o e h zero = h zero
lines_last (x ∷ os) o e h (suc q) = lines_last os o e (λ k. h (suc k)) q

-- no item that waits closes anything
pub lines_open : (os : List Outlet) (q : ℕ) → none_closes (lines os q).queue ≡ true
lines_open [] q = refl
lines_open (o ∷ os) zero = o.unclosed
lines_open (o ∷ os) (suc q) = lines_open os q

both : (a b : Bool) → (a && b) ≡ true → (a ≡ true) × (b ≡ true)
both true b e = (refl, e)
both false b e = cc

pub done_at : (os : List Outlet) (q : ℕ) → q < length os → all_done os ≡ true → is_done (lines os q) ≡ true
done_at [] q lt e = absurd (omega arith)
done_at (o ∷ os) zero lt e = (both (is_done (line_of o)) (all_done os) e).0
done_at (o ∷ os) (suc q) lt e = done_at os q (omega arith) (both (is_done (line_of o)) (all_done os) e).1

and_both : (a b : Bool) → a ≡ true → b ≡ true → (a && b) ≡ true
and_both true b e f = f
and_both false b e f = cc

pub all_of : (os : List Outlet) → ((q : ℕ) → q < length os → is_done (lines os q) ≡ true) → all_done os ≡ true
all_of [] h = refl
all_of (o ∷ os) h = and_both (is_done (line_of o)) (all_done os) (h zero (omega arith)) (all_of os (λ q lt. h (suc q) (omega arith)))

true_or_false : (b : Bool) → (b ≡ true) ⊎ (b ≡ false)
true_or_false true = inl refl
true_or_false false = inr refl

pub none_of : (os : List Outlet) (q : ℕ) → q < length os → is_done (lines os q) ≡ false → all_done os ≡ false
none_of os q lt e = elim (true_or_false (all_done os)) as (λ _. all_done os ≡ false) [
  | inl t ↦ (let d = done_at os q lt t in let clash : true ≡ false = sym d ∙ e in cc)
  | inr f ↦ f
]

-- nothing more is to be put on any, or some output goes on
pub all_or_one : (os : List Outlet) → (all_done os ≡ true) ⊎ ((q : ℕ) × (q < length os) × (is_done (lines os q) ≡ false))
all_or_one [] = inl refl
all_or_one (o ∷ os) = elim (true_or_false (is_done (line_of o)))
    as (λ _. (all_done (o ∷ os) ≡ true) ⊎ ((q : ℕ) × (q < length (o ∷ os)) × (is_done (lines (o ∷ os) q) ≡ false))) [
      | inr f ↦ inr (zero, omega arith, f)
      | inl t ↦ elim (all_or_one os) as (λ _. (all_done (o ∷ os) ≡ true) ⊎ ((q : ℕ) × (q < length (o ∷ os)) × (is_done (lines (o ∷ os) q) ≡ false))) [
        | inl a ↦ inl (and_both (is_done (line_of o)) (all_done os) t a)
        | inr s ↦ (let lt : s.0 < length os = s.1 in inr (suc s.0, omega (arith, lt), s.2))
      ]
    ]
