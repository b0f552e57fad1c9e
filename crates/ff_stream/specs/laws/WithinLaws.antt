-- Cutting at the limits keeps the order of streams, and makes what is in shape valid.
use Rattle.std.specs.Prelude.{◌≡◌, ℕ, zero, suc, ◌+◌, ◌*◌, ◌^◌, ◌≤◌, Bool, true, false, ◌||◌, cond, nat_lt, List, [], ◌∷◌, ◌++◌, length, All, refl}
use Rattle.std.proofs.Common.{inl, inr, ap, sym, ◌∙◌, subst, arith}
use Rattle.std.proofs.lemmas.Bool.Decides.{nat_tests}
use mathlib.Core.List.{IsPrefix}
use Rattle.ff_stream.specs.declared.item.Item.{Item}
use Rattle.ff_stream.specs.declared.item.Lane.{Lane}
use Rattle.ff_stream.specs.Stream.{Stream, Mark, still_open, broken, LiesBelow, opened, opened_mark}
use Rattle.ff_stream.specs.laws.Order.{prefix_self, same_stream}
use Rattle.ff_stream.specs.Lanes.{AreInShape, IsValid, EndsInTime, base_of}
use Rattle.ff_stream.specs.laws.LaneLaws.{shape_front}
use Rattle.ff_stream.specs.Times.{ticks, end_of}
use Rattle.ff_stream.specs.Within.{some_pass, before_pass, within, passes_limits}

module _ {A : Type 0} (passes : ℕ → A → Bool) where
  -- where one passes, what comes behind doesn't matter
  front_some : (n : ℕ) (xs ys : List A) → some_pass passes n xs ≡ true → (before_pass passes n (xs ++ ys) ≡ before_pass passes n xs) × (some_pass passes n (xs ++ ys) ≡ true)
  front_some n [] ys e = cc
  front_some n (x ∷ xs) ys e = pick (passes n x) e (λ r. front_some (n + 1) xs ys r)
    where
      pick : (b : Bool) → cond b true (some_pass passes (n + 1) xs) ≡ true → (some_pass passes (n + 1) xs ≡ true → (before_pass passes (n + 1) (xs ++ ys) ≡ before_pass passes (n + 1) xs) × (some_pass passes (n + 1) (xs ++ ys) ≡ true))
          → (cond b [] (x ∷ before_pass passes (n + 1) (xs ++ ys)) ≡ cond b [] (x ∷ before_pass passes (n + 1) xs)) × (cond b true (some_pass passes (n + 1) (xs ++ ys)) ≡ true)
      pick true e rest = (refl, refl)
      pick false e rest = let r = rest e in (ap (λ (zs : List A). x ∷ zs) r.0, r.1)

  -- where none passes, all stay
  front_none : (n : ℕ) (xs ys : List A) → some_pass passes n xs ≡ false → (before_pass passes n xs ≡ xs) × IsPrefix xs (before_pass passes n (xs ++ ys))
  front_none n [] ys e = (refl, (before_pass passes n ys, refl))
  front_none n (x ∷ xs) ys e = pick (passes n x) e (λ r. front_none (n + 1) xs ys r)
    where
      pick : (b : Bool) → cond b true (some_pass passes (n + 1) xs) ≡ false → (some_pass passes (n + 1) xs ≡ false → (before_pass passes (n + 1) xs ≡ xs) × IsPrefix xs (before_pass passes (n + 1) (xs ++ ys)))
          → (cond b [] (x ∷ before_pass passes (n + 1) xs) ≡ x ∷ xs) × IsPrefix (x ∷ xs) (cond b [] (x ∷ before_pass passes (n + 1) (xs ++ ys)))
      pick true e rest = cc
      pick false e rest = let r = rest e in (ap (λ (zs : List A). x ∷ zs) r.0, (r.1.0, ap (λ (zs : List A). x ∷ zs) r.1.1))

  pub before_pass-prefix : (n : ℕ) (xs : List A) → IsPrefix (before_pass passes n xs) xs
  before_pass-prefix n [] = ([], refl)
  before_pass-prefix n (x ∷ xs) = pick (passes n x) (before_pass-prefix (n + 1) xs)
    where
      pick : (b : Bool) → IsPrefix (before_pass passes (n + 1) xs) xs → IsPrefix (cond b [] (x ∷ before_pass passes (n + 1) xs)) (x ∷ xs)
      pick true p = (x ∷ xs, refl)
      pick false p = (p.0, ap (λ (zs : List A). x ∷ zs) p.1)

  cut_below : (r s : Stream A) (zs : List A) (b : Bool) → some_pass passes 0 r.items ≡ b → r.mark ≡ still_open → r.items ++ zs ≡ s.items → LiesBelow (within passes r) (within passes s)
  cut_below r s zs true e o p =
      let f = front_some 0 r.items zs e in
      let items : before_pass passes 0 r.items ≡ before_pass passes 0 s.items = sym f.0 ∙ ap (λ (xs : List A). before_pass passes 0 xs) p in
      let some : some_pass passes 0 s.items ≡ true = ap (λ (xs : List A). some_pass passes 0 xs) (sym p) ∙ f.1 in
      let left : cond (some_pass passes 0 r.items) broken r.mark ≡ broken = ap (λ (b : Bool). cond b broken r.mark) e in
      let right : cond (some_pass passes 0 s.items) broken s.mark ≡ broken = ap (λ (b : Bool). cond b broken s.mark) some in
      inl (same_stream (within passes r) (within passes s) items (left ∙ sym right))
  cut_below r s zs false e o p =
      let f = front_none 0 r.items zs e in
      let left : cond (some_pass passes 0 r.items) broken r.mark ≡ still_open = ap (λ (b : Bool). cond b broken r.mark) e ∙ o in
      inr (left, subst (λ (xs : List A). IsPrefix xs (before_pass passes 0 s.items)) (sym f.0) (subst (λ (xs : List A). IsPrefix r.items (before_pass passes 0 xs)) p f.1))

  pub within_monotone : (r s : Stream A) → LiesBelow r s → LiesBelow (within passes r) (within passes s)
  within_monotone r s (inl e) = inl (ap (λ (x : Stream A). within passes x) e)
  within_monotone r s (inr p) = cut_below r s p.1.0 (some_pass passes 0 r.items) refl p.0 p.1.1

  calm_at : (xs : List A) (b : Bool) (m : Mark) → LiesBelow (record { items = xs; mark = opened_mark (cond b broken m) }) (record { items = xs; mark = cond b broken (opened_mark m) })
  calm_at xs true m = inr (refl, prefix_self xs)
  calm_at xs false m = inl refl

  pub within_calm : (s : Stream A) → LiesBelow (opened (within passes s)) (within passes (opened s))
  within_calm s = calm_at (before_pass passes 0 s.items) (some_pass passes 0 s.items) s.mark

  -- a stream of which no item passes a limit stays
  pub within_same : (s : Stream A) → some_pass passes 0 s.items ≡ false → within passes s ≡ s
  within_same s e =
      let f = front_none 0 s.items [] e in
      same_stream (within passes s) s f.0 (ap (λ (b : Bool). cond b broken s.mark) e)

  kept_few : (limit : ℕ) → ((n : ℕ) (x : A) → passes n x ≡ false → n + 1 ≤ limit) → (n : ℕ) (xs : List A) → n ≤ limit → n + length (before_pass passes n xs) ≤ limit
  kept_few limit h n [] le = omega arith
  kept_few limit h n (x ∷ xs) le = pick (passes n x) refl (λ l. kept_few limit h (n + 1) xs l)
    where
      pick : (b : Bool) → passes n x ≡ b → (n + 1 ≤ limit → (n + 1) + length (before_pass passes (n + 1) xs) ≤ limit) → n + length (cond b [] (x ∷ before_pass passes (n + 1) xs)) ≤ limit
      pick true e rest = omega arith
      pick false e rest = let l = rest (h n x e) in omega (arith, l)

  kept_all : (P : A → Type 0) → ((n : ℕ) (x : A) → passes n x ≡ false → P x) → (n : ℕ) (xs : List A) → All P (before_pass passes n xs)
  kept_all P h n [] = λ k d lt. absurd (omega arith)
  kept_all P h n (x ∷ xs) = pick (passes n x) refl (kept_all P h (n + 1) xs)
    where
      pick : (b : Bool) → passes n x ≡ b → All P (before_pass passes (n + 1) xs) → All P (cond b [] (x ∷ before_pass passes (n + 1) xs))
      pick true e rest k d lt = absurd (omega arith)
      pick false e rest zero d lt = h n x e
      pick false e rest (suc k) d lt = rest k d (omega arith)

  none_pass : (limit : ℕ) (P : A → Type 0) → ((n : ℕ) (x : A) → n + 1 ≤ limit → P x → passes n x ≡ false) → (n : ℕ) (xs : List A) → n + length xs ≤ limit → All P xs → some_pass passes n xs ≡ false
  none_pass limit P h n [] le a = refl
  none_pass limit P h n (x ∷ xs) le a =
      let here : passes n x ≡ false = h n x (omega arith) (a zero x (omega arith)) in
      ap (λ (b : Bool). cond b true (some_pass passes (n + 1) xs)) here ∙ none_pass limit P h (n + 1) xs (omega arith) (λ k d lt. a (suc k) d (omega arith))

tests_false : (a b c d : ℕ) → (nat_lt a b || nat_lt c d) ≡ false → (b ≤ a) × (d ≤ c)
tests_false a b c d e = (grind (arith, nat_tests), grind (arith, nat_tests))

false_tests : (a b c d : ℕ) → b ≤ a → d ≤ c → (nat_lt a b || nat_lt c d) ≡ false
false_tests a b c d p q = grind (arith, nat_tests)

-- what is in shape becomes valid
pub within_valid : (lane : Lane) (s : Stream Item) → AreInShape lane s.items → IsValid lane (within (passes_limits lane) s)
within_valid lane s shape = record {
  shape = shape_front lane (before_pass (passes_limits lane) 0 s.items) s.items (before_pass-prefix (passes_limits lane) 0 s.items) shape;
  few = few_of (length (before_pass (passes_limits lane) 0 s.items)) (2 ^ 40) (kept_few (passes_limits lane) (2 ^ 40) (λ n x e. (tests_false (2 ^ 40) (n + 1) (1000000000 * (base_of lane).den) (ticks (end_of x) * (base_of lane).num) e).0) 0 s.items (omega arith));
  in_time = kept_all (passes_limits lane) (EndsInTime lane) (λ n x e. (tests_false (2 ^ 40) (n + 1) (1000000000 * (base_of lane).den) (ticks (end_of x) * (base_of lane).num) e).1) 0 s.items;
}
  where
    few_of : (a b : ℕ) → 0 + a ≤ b → a ≤ b
    few_of a b h = omega arith

-- what is valid stays
pub valid_within : (lane : Lane) (s : Stream Item) → IsValid lane s → within (passes_limits lane) s ≡ s
valid_within lane s v =
    within_same (passes_limits lane) s (none_pass (passes_limits lane) (2 ^ 40) (EndsInTime lane)
    (λ n x le t. false_tests (2 ^ 40) (n + 1) (1000000000 * (base_of lane).den) (ticks (end_of x) * (base_of lane).num) le t)
    0 s.items (from_0 (length s.items) (2 ^ 40) v.few) v.in_time)
  where
    from_0 : (a b : ℕ) → a ≤ b → 0 + a ≤ b
    from_0 a b h = omega arith
