-- What happens at the times of a stretch at which something holds, in order.
use Rattle.std.specs.Prelude.{◌≡◌, ℕ, zero, suc, ◌+◌, ◌<◌, ◌≤◌, Bool, true, false, List, [], ◌∷◌, ◌++◌, length, refl}
use Rattle.std.proofs.Common.{inl, inr, ap, sym, subst, arith}
use Rattle.std.proofs.lemmas.Bool.{cases_Bool, cases_order}
use mathlib.Core.List.{IsPrefix}

abbrev pub put_if : {B : Type 0} → Bool → B → List B → List B
put_if true x xs = x ∷ xs
put_if false x xs = xs

-- what f says of each time that p picks, of so many from lo on
abbrev pub events : {B : Type 0} → (ℕ → Bool) → (ℕ → B) → ℕ → ℕ → List B
events p f lo zero = []
events p f lo (suc k) = put_if (p lo) (f lo) (events p f (suc lo) k)

module _ {B : Type 0} where
  pub events_none : (p : ℕ → Bool) (f : ℕ → B) (lo k : ℕ) → ((t : ℕ) → lo ≤ t → p t ≡ false) → events p f lo k ≡ []
  events_none p f lo zero none = refl
  events_none p f lo (suc k) none = rw (none lo (omega arith)) (events_none p f (suc lo) k (λ t le. none t (omega arith)))

  pub events_same : (p q : ℕ → Bool) (f g : ℕ → B) (lo k : ℕ) → ((t : ℕ) → lo ≤ t → p t ≡ q t) → ((t : ℕ) → lo ≤ t → p t ≡ true → f t ≡ g t) → events p f lo k ≡ events q g lo k
  events_same p q f g lo zero same says = refl
  events_same p q f g lo (suc k) same says =
      let others = events_same p q f g (suc lo) k (λ t le. same t (omega arith)) (λ t le e. says t (omega arith) e) in
      rw (← (same lo (omega arith)), ← others) (at (p lo) refl)
    where
      at : (b : Bool) → p lo ≡ b → put_if b (f lo) (events p f (suc lo) k) ≡ put_if b (g lo) (events p f (suc lo) k)
      at true e = ap (λ (x : B). x ∷ events p f (suc lo) k) (says lo (omega arith) e)
      at false e = refl

  -- beyond what p picks there is nothing more
  pub events_enough : (p : ℕ → Bool) (f : ℕ → B) (lo k l : ℕ) → k ≤ l → ((t : ℕ) → lo ≤ t → p t ≡ true → t < lo + k) → events p f lo l ≡ events p f lo k
  events_enough p f lo zero l le below = events_none p f lo l (λ t le. elim (cases_Bool (p t)) [ inl e ↦ absurd (let lt = below t le e in omega (arith, lt)) | inr e ↦ e ])
  events_enough p f lo (suc k) zero le below = absurd (omega arith)
  events_enough p f lo (suc k) (suc l) le below = ap (λ (xs : List B). put_if (p lo) (f lo) xs) (events_enough p f (suc lo) k l (omega arith) (λ t le e. let lt = below t (omega arith) e in omega (arith, lt)))

  -- the first of them
  pub events_first : (p : ℕ → Bool) (f : ℕ → B) (lo k t : ℕ) → lo ≤ t → t < lo + k → ((u : ℕ) → lo ≤ u → u < t → p u ≡ false) → p t ≡ true
      → (j : ℕ) × (suc t + j ≡ lo + k) × (events p f lo k ≡ f t ∷ events p f (suc t) j)
  events_first p f lo zero t le lt none e = absurd (omega arith)
  events_first p f lo (suc k) t le lt none e = elim (cases_order lo t) as (λ _. (j : ℕ) × (suc t + j ≡ lo + suc k) × (events p f lo (suc k) ≡ f t ∷ events p f (suc t) j)) [
    | inl same ↦ (
      k,
      omega arith,
      let here : p lo ≡ true = subst (λ u. p u ≡ true) (sym same) e in
          rw here (ap (λ u. f u ∷ events p f (suc u) k) same),
    )
    | inr (inl less) ↦ (let r = events_first p f (suc lo) k t (omega arith) (omega arith) (λ u a b. none u (omega arith) b) e in
        (r.0, omega (arith, r.1), rw (none lo (omega arith) less) r.2))
    | inr (inr more) ↦ absurd (omega arith)
  ]

  -- where q picks what p does and no time before one of these, they are the first ones
  pub events_prefix : (p q : ℕ → Bool) (f g : ℕ → B) (lo k : ℕ) → ((t : ℕ) → p t ≡ true → (q t ≡ true) × (f t ≡ g t))
      → ((t u : ℕ) → q t ≡ true → p t ≡ false → t < u → p u ≡ false) → IsPrefix (events p f lo k) (events q g lo k)
  events_prefix p q f g lo zero sub down = ([], refl)
  events_prefix p q f g lo (suc k) sub down = at (p lo) (q lo) refl refl (events_prefix p q f g (suc lo) k sub down)
    where
      at : (a b : Bool) → p lo ≡ a → q lo ≡ b → IsPrefix (events p f (suc lo) k) (events q g (suc lo) k) → IsPrefix (put_if a (f lo) (events p f (suc lo) k)) (put_if b (g lo) (events q g (suc lo) k))
      at true true e h r = (r.0, let x = (sub lo e).1 in let y : events p f (suc lo) k ++ r.0 ≡ events q g (suc lo) k = r.1 in cc (x, y))
      at true false e h r = let x = (sub lo e).0 in cc
      at false true e h r = rw (events_none p f (suc lo) k (λ t le. down lo t h e (omega arith))) (g lo ∷ events q g (suc lo) k, refl)
      at false false e h r = r

  pub events_no_longer : (p q : ℕ → Bool) (f g : ℕ → B) (lo k : ℕ) → ((t : ℕ) → p t ≡ true → q t ≡ true) → length (events p f lo k) ≤ length (events q g lo k)
  events_no_longer p q f g lo zero sub = omega arith
  events_no_longer p q f g lo (suc k) sub = at (p lo) (q lo) refl refl (events_no_longer p q f g (suc lo) k sub)
    where
      at : (a b : Bool) → p lo ≡ a → q lo ≡ b → length (events p f (suc lo) k) ≤ length (events q g (suc lo) k) → length (put_if a (f lo) (events p f (suc lo) k)) ≤ length (put_if b (g lo) (events q g (suc lo) k))
      at true true e h le = omega (arith, le)
      at true false e h le = let x = sub lo e in cc
      at false true e h le = omega (arith, le)
      at false false e h le = le

  -- a further time makes it longer
  pub events_longer : (p q : ℕ → Bool) (f g : ℕ → B) (lo k : ℕ) → ((t : ℕ) → p t ≡ true → q t ≡ true) → (t : ℕ) → lo ≤ t → t < lo + k → q t ≡ true → p t ≡ false
      → length (events p f lo k) < length (events q g lo k)
  events_longer p q f g lo zero sub t le lt e n = absurd (omega arith)
  events_longer p q f g lo (suc k) sub t le lt e n = elim (cases_order lo t) as (λ _. length (events p f lo (suc k)) < length (events q g lo (suc k))) [
    | inl same ↦ (
        let here : q lo ≡ true = subst (λ u. q u ≡ true) (sym same) e in
        let there : p lo ≡ false = subst (λ u. p u ≡ false) (sym same) n in
        rw (here, there) (let le = events_no_longer p q f g (suc lo) k sub in omega (arith, le)))
    | inr (inl less) ↦ at (p lo) (q lo) refl refl (events_longer p q f g (suc lo) k sub t (omega arith) (omega arith) e n)
    | inr (inr more) ↦ absurd (omega arith)
  ]
    where
      at : (a b : Bool) → p lo ≡ a → q lo ≡ b → length (events p f (suc lo) k) < length (events q g (suc lo) k) → length (put_if a (f lo) (events p f (suc lo) k)) < length (put_if b (g lo) (events q g (suc lo) k))
      at true true e h le = omega (arith, le)
      at true false e h le = let x = sub lo e in cc
      at false true e h le = omega (arith, le)
      at false false e h le = le

-- the first of so many times from lo on that p picks is there
pub events_some : (p : ℕ → Bool) (lo k t : ℕ) → lo ≤ t → t < lo + k → p t ≡ true → 0 < length (events p (λ u. u) lo k)
events_some p lo k t le lt e = let l = events_longer (λ u. false) p (λ u. u) (λ u. u) lo k (λ u c. cc) t le lt e refl in omega (arith, l)

-- and where some time is picked there is one
pub events_found : (p : ℕ → Bool) (lo k : ℕ) → 0 < length (events p (λ u. u) lo k) → (t : ℕ) × (t < lo + k) × (p t ≡ true)
events_found p lo zero some = absurd (omega (arith, some))
events_found p lo (suc k) some = at (p lo) refl some (λ h. events_found p (suc lo) k h)
  where
    at : (b : Bool) → p lo ≡ b → 0 < length (put_if b lo (events p (λ u. u) (suc lo) k)) → (0 < length (events p (λ u. u) (suc lo) k) → (t : ℕ) × (t < suc lo + k) × (p t ≡ true)) → (t : ℕ) × (t < lo + suc k) × (p t ≡ true)
    at true e some more = (lo, omega arith, e)
    at false e some more = let r = more some in (r.0, omega (arith, r.1), r.2)
