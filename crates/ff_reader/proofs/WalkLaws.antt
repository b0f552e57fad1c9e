-- The walk over the units of a head.
use Rattle.std.proofs.Common.{◌≡◌, ℕ, zero, suc, ◌+◌, ◌<◌, ◌≤◌, ◌⊎◌, inl, inr, List, [], ◌∷◌, ◌++◌, drop, length, Option, Some, None, Ok, Err, refl, sym, ap, ◌∙◌, subst, arith, add-zero}
use Rattle.ff_reader.specs.declared.fault.HeadFault.TheVariants.{Damaged}
use Rattle.ff_reader.specs.declared.step.Step.{Step}
use Rattle.ff_reader.specs.declared.step.Step.TheVariants.{Wait, Decide, Skip}
use Rattle.ff_reader.specs.Heads.{Found}
use Rattle.ff_reader.specs.Walks.{Reading, walk, head_limit, Settles, DamagesBefore, IsKept, Keeps}

-- what follows a step
abbrev pub stepped : {H S : Type 0} → Reading H S → Step H S → ℕ → List ℕ → Option (Found H)
stepped unit x at bs = elim x [ Wait ↦ None | Decide found ↦ Some found | Skip size next ↦ walk unit size next (at + 1) bs ]

pub walk-drop : {H S : Type 0} (unit : Reading H S) (bs : List ℕ) (k : ℕ) (s : S) (at : ℕ) → walk unit k s at bs ≡ walk unit 0 s (at + k) (drop k bs)
walk-drop unit [] zero s at = refl
walk-drop unit [] (suc k) s at = refl
walk-drop unit (b ∷ bs) zero s at = ap (λ n. walk unit 0 s n (b ∷ bs)) (sym (add-zero at))
walk-drop unit (b ∷ bs) (suc k) s at =
    let e : at + 1 + k ≡ at + suc k = omega arith in
    walk-drop unit bs k s (at + 1) ∙ ap (λ n. walk unit 0 s n (drop k bs)) e

pub walk_long : {H S : Type 0} (unit : Reading H S) (bs : List ℕ) (k : ℕ) (s : S) (at : ℕ) (r : Found H) → walk unit k s at bs ≡ Some r → k ≤ length bs
walk_long unit [] k s at r e = cc
walk_long unit (b ∷ bs) zero s at r e = omega arith
walk_long unit (b ∷ bs) (suc k) s at r e = let h = walk_long unit bs k s (at + 1) r e in omega (arith, h)

-- ---- what is decided

step_append : {H S : Type 0} (unit : Reading H S) (x y : Step H S) (at : ℕ) (bs more : List ℕ) (r : Found H) → (x ≡ Wait) ⊎ (x ≡ y)
    → ((k : ℕ) (s : S) → walk unit k s (at + 1) bs ≡ Some r → walk unit k s (at + 1) (bs ++ more) ≡ Some r)
    → stepped unit x at bs ≡ Some r → stepped unit y at (bs ++ more) ≡ Some r
step_append unit Wait y at bs more r h go e = cc
step_append unit (Decide found) y at bs more r (inl w) go e = cc
step_append unit (Decide found) y at bs more r (inr w) go e = subst (λ x. stepped unit x at (bs ++ more) ≡ Some r) w e
step_append unit (Skip size next) y at bs more r (inl w) go e = cc
step_append unit (Skip size next) y at bs more r (inr w) go e = subst (λ x. stepped unit x at (bs ++ more) ≡ Some r) w (go _ _ e)

pub walk-append : {H S : Type 0} (unit : Reading H S) → Settles unit → (bs more : List ℕ) (k : ℕ) (s : S) (at : ℕ) (r : Found H) → walk unit k s at bs ≡ Some r
    → walk unit k s at (bs ++ more) ≡ Some r
walk-append unit settles [] more k s at r e = cc
walk-append unit settles (b ∷ bs) more (suc k) s at r e = walk-append unit settles bs more k s (at + 1) r e
walk-append unit settles (b ∷ bs) more zero s at r e =
    step_append unit (unit s at (b ∷ bs)) (unit s at (b ∷ bs ++ more)) at bs more r (settles s at (b ∷ bs) more) (λ k t. walk-append unit settles bs more k t (at + 1) r) e

-- ---- what is damaged

step_damaged : {H S : Type 0} (unit : Reading H S) → DamagesBefore unit → (x : Step H S) (s : S) (at : ℕ) (bs : List ℕ) (p n : ℕ) → unit s at (bs ++ 0 ∷ []) ≡ x → n ≡ at + length bs
    → (rest : List ℕ) → ((k : ℕ) (t : S) → walk unit k t (at + 1) rest ≡ Some (Err (Damaged p)) → p < n)
    → stepped unit x at rest ≡ Some (Err (Damaged p)) → p < n
step_damaged unit damages Wait s at bs p n c long rest go e = cc
step_damaged unit damages (Decide found) s at bs p n c long rest go e =
    let is : found ≡ Err (Damaged p) = cc in
    let lt = damages s at p bs (c ∙ ap Decide is) in
    omega (arith, lt, long)
step_damaged unit damages (Skip size next) s at bs p n c long rest go e = go _ _ e

pub walk_damaged : {H S : Type 0} (unit : Reading H S) → DamagesBefore unit → (bs : List ℕ) (k : ℕ) (s : S) (at p : ℕ) → walk unit k s at (bs ++ 0 ∷ []) ≡ Some (Err (Damaged p))
    → p < at + length bs
walk_damaged unit damages [] (suc k) s at p e = cc
walk_damaged unit damages [] zero s at p e = step_damaged unit damages (unit s at (0 ∷ [])) s at [] p (at + 0) refl refl [] (λ k t i. cc) e
walk_damaged unit damages (b ∷ bs) (suc k) s at p e = let r = walk_damaged unit damages bs k s (at + 1) p e in omega (arith, r)
walk_damaged unit damages (b ∷ bs) zero s at p e =
    step_damaged unit damages (unit s at (b ∷ bs ++ 0 ∷ [])) s at (b ∷ bs) p (at + length (b ∷ bs)) refl refl (bs ++ 0 ∷ [])
    (λ k t i. let r = walk_damaged unit damages bs k t (at + 1) p i in omega (arith, r)) e

-- ---- what is sound

step_sound : {H S : Type 0} (unit : Reading H S) (is_known : S → Type 0) (is_sound : H → Type 0) (x : Step H S) (at : ℕ) (bs : List ℕ) (h : H) → IsKept is_known is_sound x
    → ((k : ℕ) (s : S) → is_known s → walk unit k s (at + 1) bs ≡ Some (Ok h) → is_sound h)
    → stepped unit x at bs ≡ Some (Ok h) → is_sound h
step_sound unit is_known is_sound Wait at bs h kept go e = cc
step_sound unit is_known is_sound (Decide (Ok x)) at bs h kept go e = let same : x ≡ h = cc in subst is_sound same kept
step_sound unit is_known is_sound (Decide (Err x)) at bs h kept go e = cc
step_sound unit is_known is_sound (Skip size next) at bs h kept go e = go size next kept e

pub walk_sound : {H S : Type 0} (unit : Reading H S) (is_known : S → Type 0) (is_sound : H → Type 0) → Keeps is_known is_sound unit
    → (bs : List ℕ) (k : ℕ) (s : S) (at : ℕ) (h : H) → is_known s → at + length bs ≤ head_limit → walk unit k s at bs ≡ Some (Ok h) → is_sound h
walk_sound unit is_known is_sound keeps [] k s at h known le e = cc
walk_sound unit is_known is_sound keeps (b ∷ bs) (suc k) s at h known le e = walk_sound unit is_known is_sound keeps bs k s (at + 1) h known (omega (arith, le)) e
walk_sound unit is_known is_sound keeps (b ∷ bs) zero s at h known le e =
    step_sound unit is_known is_sound (unit s at (b ∷ bs)) at bs h (keeps s at (b ∷ bs) known le)
    (λ k t q. walk_sound unit is_known is_sound keeps bs k t (at + 1) h q (omega (arith, le))) e
