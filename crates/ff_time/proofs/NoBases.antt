-- Numbers of which no time base is made have none.
use Rattle.std.proofs.Common.{◌≡◌, ℕ, ◌<◌, ◌⊎◌, inl, inr, ℤ, pos, ◌<ℤ◌, Result, Err, sym, subst, arith}
use Rattle.std.specs.Prelude.{◌↔◌, IsErrOf}
use Rattle.ff_time.specs.Fraction.{Fraction, IsBase, IsLowestOf, IsBelowOne, IsTooBig}
use Rattle.ff_time.specs.declared.error.TimeError.{TimeError}
use Rattle.ff_time.specs.declared.error.TimeError.TheVariants.{NotPositive, TooBig}
use Rattle.ff_time.proofs.Lowest.{IsLowestOf-small}

below_one : (n : ℕ) (z : ℤ) → z ≡ pos n → 0 < n → z <ℤ pos 1 → ⊥
below_one n z e p h = let less : pos n <ℤ pos 1 = subst (λ (y : ℤ). y <ℤ pos 1) e h in clash n p less
  where
    clash : (n : ℕ) → 0 < n → pos n <ℤ pos 1 → ⊥
    clash n p h = grind (arith)

-- where no time base is answered, there is none
no_base : (num den : ℤ) (r : Result Fraction TimeError) (e : TimeError) → r ≡ Err e → (IsErrOf r NotPositive ↔ IsBelowOne num den) → (IsErrOf r TooBig ↔ ((f : Fraction) × IsLowestOf num den f × IsTooBig f)) → (e ≡ NotPositive) ⊎ (e ≡ TooBig)
    → (b : Fraction) → IsLowestOf num den b → IsBase b → ⊥
no_base num den r e is below big (inl k) b h i =
    elim (below.0 (cc (is, k))) as (λ _. ⊥) [ inl l ↦ below_one h.n num h.num_is h.num_positive l | inr l ↦ below_one h.d den h.den_is h.den_positive l ]
no_base num den r e is below big (inr k) b h i =
    let f = big.0 (cc (is, k)) in
    IsLowestOf-small num den b f.0 h f.1 i.num_small i.den_small f.2

-- the same, as numbers are stored
pub no_base_stored : (num den x y : ℤ) → x ≡ num → y ≡ den → (r : Result Fraction TimeError) (e : TimeError) → r ≡ Err e → (IsErrOf r NotPositive ↔ IsBelowOne x y) → (IsErrOf r TooBig ↔ ((f : Fraction) × IsLowestOf x y f × IsTooBig f)) → (e ≡ NotPositive) ⊎ (e ≡ TooBig)
    → (b : Fraction) → IsLowestOf num den b → IsBase b → ⊥
no_base_stored num den x y ex ey r e is below big k b h i =
    no_base x y r e is below big k b (subst (λ (z : ℤ). IsLowestOf z y b) (sym ex) (subst (λ (z : ℤ). IsLowestOf num z b) (sym ey) h)) i
