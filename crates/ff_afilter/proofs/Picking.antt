-- The samples of one channel.
use Rattle.std.proofs.Common.{◌≡◌, ◌≢◌, ℕ, zero, suc, ℤ, pos, ◌+◌, ◌*◌, ◌/◌, ◌<◌, ◌≤◌, ◌⊎◌, inl, inr, List, [], ◌∷◌, subst, length, take, slice_index_or, slice_set, arith, refl, sym, ap, ◌∙◌, get_or-set_same, get_or-set_other}
use Rattle.std.proofs.lemmas.Nat.{mul-add-lt}
use Rattle.std.proofs.Math.Nat.{div-mul-le_self}
use Rattle.std.proofs.lemmas.List.{length-take-le}
use Rattle.std.proofs.lemmas.List.FromFn.{fill_by_all}
use Rattle.ff_afilter.specs.Channels.{channel_of}

same_or_not : (p q : ℕ) → (p ≡ q) ⊎ (p ≢ q)
same_or_not zero zero = inl refl
same_or_not zero (suc q) = inr (λ e. omega (arith, e))
same_or_not (suc p) zero = inr (λ e. omega (arith, e))
same_or_not (suc p) (suc q) = elim (same_or_not p q) as (λ _. (suc p ≡ suc q) ⊎ (suc p ≢ suc q)) [ inl e ↦ inl (ap suc e) | inr n ↦ inr (λ e. n (omega (arith, e))) ]

-- the sample of this channel is there
pub sample_there : (k size channels channel : ℕ) → channel < channels → k < size / channels → k * channels + channel < size
sample_there k size channels channel lt less =
    let here : k * channels + channel < channels * (size / channels) = mul-add-lt k channels channel (size / channels) less lt in
    let le : size / channels * channels ≤ size = div-mul-le_self size channels in
    omega (arith, here, le)

value_at : (k channels channel : ℕ) → channel < channels → k ≤ k * channels + channel
value_at zero channels channel lt = omega arith
value_at (suc k) channels channel lt = let e : suc k * channels ≡ channels + k * channels = omega arith in let h = value_at k channels channel lt in omega (arith, e, h, lt)

module _ (xs ys : List ℤ) (k channels channel : ℕ) (lt : channel < channels) (less : k < length xs / channels) (size : length ys ≡ length xs) (y : ℤ)
    (is : y ≡ slice_index_or ys (k * channels + channel) y)
    (done : (j : ℕ) → j < k → slice_index_or ys j (pos 0) ≡ slice_index_or xs (j * channels + channel) (pos 0))
    (left : (j : ℕ) → k ≤ j → slice_index_or ys j (pos 0) ≡ slice_index_or xs j (pos 0)) where
  there : k * channels + channel < length xs
  there = sample_there k (length xs) channels channel lt less

  k_there : k < length ys
  k_there = let le = value_at k channels channel lt in omega (arith, le, there, size)

  value : y ≡ slice_index_or xs (k * channels + channel) (pos 0)
  value = is ∙ (read ys (k * channels + channel) y (pos 0) (omega (arith, there, size)) ∙ left (k * channels + channel) (value_at k channels channel lt))
    where
      read : (zs : List ℤ) (i : ℕ) (d e : ℤ) → i < length zs → slice_index_or zs i d ≡ slice_index_or zs i e
      read [] i d e l = absurd (omega arith)
      read (z ∷ zs) zero d e l = refl
      read (z ∷ zs) (suc i) d e l = read zs i d e (omega arith)

  -- one more sample stands at the front
  pub kept_more : (j : ℕ) → j < k + 1 → slice_index_or (slice_set ys k y) j (pos 0) ≡ slice_index_or xs (j * channels + channel) (pos 0)
  kept_more j l = at (same_or_not j k)
    where
      at : (j ≡ k) ⊎ (j ≢ k) → slice_index_or (slice_set ys k y) j (pos 0) ≡ slice_index_or xs (j * channels + channel) (pos 0)
      at (inl e) = subst (λ (i : ℕ). slice_index_or (slice_set ys k y) i (pos 0) ≡ slice_index_or xs (i * channels + channel) (pos 0)) (sym e) (get_or-set_same ys k y (pos 0) k_there ∙ value)
      at (inr n) = get_or-set_other ys k j y (pos 0) n ∙ done j (omega (arith, l, n))

  -- those behind stay
  pub kept_left : (j : ℕ) → k + 1 ≤ j → slice_index_or (slice_set ys k y) j (pos 0) ≡ slice_index_or xs j (pos 0)
  kept_left j le = get_or-set_other ys k j y (pos 0) (λ e. omega (arith, e, le)) ∙ left j (omega (arith, le))

take_at : (ys : List ℤ) (n j : ℕ) → j < n → n ≤ length ys → slice_index_or (take n ys) j (pos 0) ≡ slice_index_or ys j (pos 0)
take_at [] n j l m = absurd (omega arith)
take_at (y ∷ ys) zero j l m = absurd (omega arith)
take_at (y ∷ ys) (suc n) zero l m = refl
take_at (y ∷ ys) (suc n) (suc j) l m = take_at ys n j (omega arith) (omega arith)

-- all samples of the channel are at the front
pub kept_all : (xs ys : List ℤ) (n channels channel : ℕ) → n ≤ length ys → ((j : ℕ) → j < n → slice_index_or ys j (pos 0) ≡ slice_index_or xs (j * channels + channel) (pos 0)) → take n ys ≡ channel_of channel channels n xs
kept_all xs ys n channels channel le done =
    fill_by_all (λ k. slice_index_or xs (k * channels + channel) (pos 0)) (take n ys) n (pos 0) (length-take-le n ys le) (λ j l. take_at ys n j l le ∙ done j l)

pub few_enough : (size channels channel n : ℕ) → channel < channels → n ≡ size / channels → n ≤ size
few_enough size channels channel n lt is =
    let le : size / channels * channels ≤ size = div-mul-le_self size channels in
    let less : n ≤ n * channels = at n channels (omega (arith, lt)) in
    let same : n * channels ≡ size / channels * channels = ap (λ (k : ℕ). k * channels) is in
    omega (arith, le, less, same)
  where
    at : (n c : ℕ) → 1 ≤ c → n ≤ n * c
    at zero c l = omega arith
    at (suc n) c l = let e : suc n * c ≡ c + n * c = omega arith in let h = at n c l in omega (arith, e, h, l)
