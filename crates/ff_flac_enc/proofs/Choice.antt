use Rattle.std.proofs.Common.{◌≡◌, ℕ, ℤ, pos, negsuc, ◌*◌, ◌-◌, ◌^◌, zero, suc, get_or, set, take, ◌+◌, ◌<◌, ◌≤◌, Bool, List, [], ◌∷◌, ◌++◌, length, map, Some, refl, sym, ap, ◌∙◌, subst, arith}
use Rattle.std.specs.Option.{option_map}
use Rattle.std.specs.List.{flat_map, All, AllByRecursion}
use Rattle.std.proofs.lemmas.List.{length-append, append-nil, append_assoc, take_all, take_more_set}
use Rattle.std.proofs.lemmas.Bool.Decides.{nat_tests}
use Rattle.ff_flac_subframe.specs.rice.Least.{choose, least}
use Rattle.ff_frame.specs.Audio.{FitsBits}
use Rattle.ff_flac_subframe.specs.Subframe.{Spelling, subframe_bits, candidates, magnitude}
use Rattle.ff_flac_subframe.specs.laws.Plan.{size}
use Rattle.ff_flac_enc.specs.laws.Signal.{CanWrite}
use Rattle.ff_flac_subframe.proofs.Plans.{first_small}
use Rattle.std.proofs.Math.Nat.{pow-suc}
use Rattle.ff_flac_subframe.proofs.RiceLemmas.LeastLemmas.{least-append, least-map, least-same, least-shift, least-shift_right, least-flat_map}
use Rattle.ff_flac_dec.specs.Channels.{both}
use Rattle.ff_flac_enc.specs.Layout.{Signal, forms, signals, products, bodies, Layout, layouts, layouts_with, body, layout_size, half, mid_of, side_of, signal}
use Rattle.std.specs.Prelude.{◌+ℤ◌, ◌-ℤ◌, ◌<ℤ◌, ◌≤ℤ◌, neg_ℤ}
use Rattle.std.proofs.lemmas.Int.{ints}
use Rattle.std.proofs.lemmas.List.Elements.{All-same, All-from_recursion, recursion_from_All}
use Rattle.ff_flac_subframe.proofs.Predict.{magnitude_of, fits_of, step_small, above, from_below, between}

-- each signal is best written so
abbrev pub AreBest : List Signal → List Spelling → Type 0
AreBest [] [] = Unit {0}
AreBest [] (s ∷ ss) = ⊥
AreBest (x ∷ xs) [] = ⊥
AreBest (x ∷ xs) (s ∷ ss) = (least (size x.depth x.samples) (candidates x.samples) ≡ Some s) × AreBest xs ss

bodies-cons : (x : Signal) (xs : List Signal) (s : Spelling) (ss : List Spelling) → length (bodies (x ∷ xs) (s ∷ ss)) ≡ size x.depth x.samples s + length (bodies xs ss)
unfolding bodies
bodies-cons x xs s ss = length-append (subframe_bits x.depth x.samples s) (bodies xs ss)

products-cons : (x : Signal) (xs : List Signal) → products (x ∷ xs) ≡ flat_map (λ s. map (λ rest. s ∷ rest) (products xs)) (candidates x.samples)
unfolding products
products-cons x xs = refl

products-none : (cost : List Spelling → ℕ) → least cost (products []) ≡ Some []
unfolding products least
products-none cost = refl

-- the best of the products is the product of the best
pub least-products : (xs : List Signal) (ss : List Spelling) → AreBest xs ss → least (λ rs. length (bodies xs rs)) (products xs) ≡ Some ss
least-products [] [] h = products-none (λ rs. length (bodies [] rs))
least-products [] (s ∷ ss) h = absurd h
least-products (x ∷ xs) [] h = absurd h
least-products (x ∷ xs) (s ∷ ss) h =
    let cost : List Spelling → ℕ = λ rs. length (bodies (x ∷ xs) rs) in
    let P : List (List Spelling) = products xs in
    ap (least cost) (products-cons x xs)
    ∙ least-flat_map cost (λ r. map (λ rest. r ∷ rest) P) (λ r. r ∷ ss) (candidates x.samples)
    (λ r. least-map cost (λ rest. r ∷ rest) P
    ∙ ap (option_map (λ rest. r ∷ rest))
    (least-same (λ rs. cost (r ∷ rs)) (λ rs. size x.depth x.samples r + length (bodies xs rs)) P (λ rs. bodies-cons x xs r rs)
    ∙ least-shift (size x.depth x.samples r) (λ rs. length (bodies xs rs)) P
    ∙ least-products xs ss h.1))
    ∙ ap (option_map (λ r. r ∷ ss))
    (least-same (λ r. cost (r ∷ ss)) (λ r. size x.depth x.samples r + length (bodies xs ss)) (candidates x.samples) (λ r. bodies-cons x xs r ss)
    ∙ least-shift_right (length (bodies xs ss)) (size x.depth x.samples) (candidates x.samples)
    ∙ h.0)

pub least-layouts_with : (bits : ℕ) (channels : List (List ℤ)) (form : ℕ) (ss : List Spelling) → AreBest (signals bits channels form) ss
    → least (layout_size bits channels) (layouts_with bits channels form) ≡ Some (record { form = form; spellings = ss })
unfolding layouts_with body
least-layouts_with bits channels form ss h =
    least-map (layout_size bits channels) (λ rs. record { form = form; spellings = rs }) (products (signals bits channels form))
    ∙ ap (option_map (λ rs. record { form = form; spellings = rs })) (least-products (signals bits channels form) ss h)

pub size_of_two : (a b : Signal) (s t : Spelling) → length (bodies (a ∷ b ∷ []) (s ∷ t ∷ [])) ≡ size a.depth a.samples s + size b.depth b.samples t
unfolding bodies
size_of_two a b s t =
    length-append (subframe_bits a.depth a.samples s) (subframe_bits b.depth b.samples t ++ [])
    ∙ ap (λ l. size a.depth a.samples s + length l) (append-nil (subframe_bits b.depth b.samples t))

-- the four forms, one after another
pub least-of_four : (bits : ℕ) (left right : List ℤ) (a b c d : Layout)
    → least (layout_size bits (left ∷ right ∷ [])) (layouts_with bits (left ∷ right ∷ []) 1) ≡ Some a → least (layout_size bits (left ∷ right ∷ [])) (layouts_with bits (left ∷ right ∷ []) 8) ≡ Some b
    → least (layout_size bits (left ∷ right ∷ [])) (layouts_with bits (left ∷ right ∷ []) 9) ≡ Some c → least (layout_size bits (left ∷ right ∷ [])) (layouts_with bits (left ∷ right ∷ []) 10) ≡ Some d
    → least (layout_size bits (left ∷ right ∷ [])) (layouts bits (left ∷ right ∷ []))
    ≡ choose (layout_size bits (left ∷ right ∷ [])) (Some a) (choose (layout_size bits (left ∷ right ∷ [])) (Some b) (choose (layout_size bits (left ∷ right ∷ [])) (Some c) (Some d)))
unfolding layouts forms
least-of_four bits left right a b c d ea eb ec ed =
    let f : Layout → ℕ = layout_size bits (left ∷ right ∷ []) in
    let L : ℕ → List Layout = layouts_with bits (left ∷ right ∷ []) in
    least-append f (L 1) (L 8 ++ (L 9 ++ (L 10 ++ [])))
    ∙ ap (λ o. choose f o (least f (L 8 ++ (L 9 ++ (L 10 ++ []))))) ea
    ∙ ap (choose f (Some a))
    (least-append f (L 8) (L 9 ++ (L 10 ++ []))
    ∙ ap (λ o. choose f o (least f (L 9 ++ (L 10 ++ [])))) eb
    ∙ ap (choose f (Some b))
    (least-append f (L 9) (L 10 ++ [])
    ∙ ap (λ o. choose f o (least f (L 10 ++ []))) ec
    ∙ ap (choose f (Some c)) (ap (least f) (append-nil (L 10)) ∙ ed)))

-- which of four is chosen
pub chain_1 : {A : Type 0} (f : A → ℕ) (a b c d : A) → f a ≤ f b → f a ≤ f c → f a ≤ f d → choose f (Some a) (choose f (Some b) (choose f (Some c) (Some d))) ≡ Some a
chain_1 f a b c d p q r = grind (arith, nat_tests)

pub chain_2 : {A : Type 0} (f : A → ℕ) (a b c d : A) → f b < f a → f b ≤ f c → f b ≤ f d → choose f (Some a) (choose f (Some b) (choose f (Some c) (Some d))) ≡ Some b
chain_2 f a b c d p q r = grind (arith, nat_tests)

pub chain_3 : {A : Type 0} (f : A → ℕ) (a b c d : A) → f c < f a → f c < f b → f c ≤ f d → choose f (Some a) (choose f (Some b) (choose f (Some c) (Some d))) ≡ Some c
chain_3 f a b c d p q r = grind (arith, nat_tests)

pub chain_4 : {A : Type 0} (f : A → ℕ) (a b c d : A) → f d < f a → f d < f b → f d < f c → choose f (Some a) (choose f (Some b) (choose f (Some c) (Some d))) ≡ Some d
chain_4 f a b c d p q r = grind (arith, nat_tests)

-- ---- two channels as one, a sample more
both_suc : (f : ℤ → ℤ → ℤ) (xs ys : List ℤ) (i : ℕ) → i < length xs → i < length ys
    → both f (take (suc i) xs) (take (suc i) ys) ≡ both f (take i xs) (take i ys) ++ (f (get_or xs i (pos 0)) (get_or ys i (pos 0)) ∷ [])
both_suc f [] ys i h g = absurd (omega arith)
both_suc f (x ∷ xs) [] i h g = absurd (omega arith)
both_suc f (x ∷ xs) (y ∷ ys) zero h g = refl
both_suc f (x ∷ xs) (y ∷ ys) (suc i) h g = ap (λ l. f x y ∷ l) (both_suc f xs ys i (omega arith) (omega arith))

both_more : (f : ℤ → ℤ → ℤ) (xs ys : List ℤ) (i : ℕ) → i < length xs → i < length ys
    → both f (take (i + 1) xs) (take (i + 1) ys) ≡ both f (take i xs) (take i ys) ++ (f (get_or xs i (pos 0)) (get_or ys i (pos 0)) ∷ [])
both_more f xs ys i h g =
    let e : i + 1 ≡ suc i = omega arith in
    ap (λ n. both f (take n xs) (take n ys)) e ∙ both_suc f xs ys i h g

pub both_next : (f : ℤ → ℤ → ℤ) (zs xs ys : List ℤ) (i : ℕ) (z : ℤ) → i < length zs → i < length xs → i < length ys → z ≡ f (get_or xs i (pos 0)) (get_or ys i (pos 0))
    → take i zs ≡ both f (take i xs) (take i ys) → take (i + 1) (set zs i z) ≡ both f (take (i + 1) xs) (take (i + 1) ys)
both_next f zs xs ys i z k h g e is =
    take_more_set zs i z k ∙ ap (λ a. take i zs ++ (a ∷ [])) e ∙ ap (λ l. l ++ (f (get_or xs i (pos 0)) (get_or ys i (pos 0)) ∷ [])) is ∙ sym (both_more f xs ys i h g)

pub both_end : (f : ℤ → ℤ → ℤ) (zs xs ys : List ℤ) (i : ℕ) → length zs ≤ i → length xs ≤ i → length ys ≤ i
    → take i zs ≡ both f (take i xs) (take i ys) → zs ≡ both f xs ys
both_end f zs xs ys i k h g is = sym (take_all i zs k) ∙ is ∙ ap (λ l. both f l (take i ys)) (take_all i xs h) ∙ ap (both f xs) (take_all i ys g)

-- ---- the samples of the middle and the difference

half_small : (m : ℕ) (z : ℤ) → magnitude z < 2 * m → magnitude (half z) < m
half_small m (pos n) h = omega arith
half_small m (negsuc n) h = omega arith

sum_small : (m : ℕ) (x y : ℤ) → magnitude x < m → magnitude y < m → magnitude (x +ℤ y) < 2 * m
sum_small m x y h g =
    let a : x <ℤ pos m = above m x h in
    let b : y <ℤ pos m = above m y g in
    let c : neg_ℤ (pos m) ≤ℤ x = from_below m x h in
    let d : neg_ℤ (pos m) ≤ℤ y = from_below m y g in
    between (2 * m) (x +ℤ y) (omega (arith, ints)) (omega (arith, ints))

zip_small : (P Q R : ℤ → Type 0) (f : ℤ → ℤ → ℤ) → ((x y : ℤ) → P x → Q y → R (f x y)) → (xs ys : List ℤ) → AllByRecursion P xs → AllByRecursion Q ys → AllByRecursion R (both f xs ys)
zip_small P Q R f k [] ys h g = tt
zip_small P Q R f k (x ∷ xs) [] h g = tt
zip_small P Q R f k (x ∷ xs) (y ∷ ys) h g = (k x y h.0 g.0, zip_small P Q R f k xs ys h.1 g.1)

zip_all : (P R : ℤ → Type 0) (f : ℤ → ℤ → ℤ) → ((x y : ℤ) → P x → P y → R (f x y)) → (xs ys : List ℤ) → All P xs → All P ys → All R (both f xs ys)
zip_all P R f k xs ys h g = All-from_recursion R (both f xs ys) (zip_small P P R f k xs ys (recursion_from_All P xs h) (recursion_from_All P ys g))

pub length-both : (f : ℤ → ℤ → ℤ) (xs ys : List ℤ) → length xs ≡ length ys → length (both f xs ys) ≡ length xs
length-both f [] ys e = refl
length-both f (x ∷ xs) [] e = absurd (omega arith)
length-both f (x ∷ xs) (y ∷ ys) e = ap suc (length-both f xs ys (omega arith))

pub mid_small : (bits : ℕ) (xs ys mids : List ℤ) → mids ≡ mid_of xs ys → All (FitsBits bits) xs → All (FitsBits bits) ys → All (FitsBits bits) mids
unfolding mid_of
mid_small bits xs ys mids e h g =
    let m : ℕ = 2 ^ (bits - 1) in
    All-same (FitsBits bits) mids (mid_of xs ys) e
    (zip_all (FitsBits bits) (FitsBits bits) (λ x y. half (x +ℤ y)) (λ x y a b. fits_of bits (half (x +ℤ y)) (half_small m (x +ℤ y) (sum_small m x y (magnitude_of bits x a) (magnitude_of bits y b)))) xs ys h g)

pub side_small : (bits : ℕ) (xs ys sides : List ℤ) → 0 < bits → sides ≡ side_of xs ys → All (FitsBits bits) xs → All (FitsBits bits) ys → All (FitsBits (bits + 1)) sides
unfolding side_of
side_small bits xs ys sides some e h g =
    let m : ℕ = 2 ^ (bits - 1) in
    let b : suc (bits - 1) ≡ bits + 1 - 1 = omega (arith, some) in
    let p : 2 * m ≡ 2 ^ (bits + 1 - 1) = omega (arith, pow-suc 2 (bits - 1)) ∙ ap (λ k. 2 ^ k) b in
    All-same (FitsBits (bits + 1)) sides (side_of xs ys) e
    (zip_all (FitsBits bits) (FitsBits (bits + 1)) (λ x y. x -ℤ y)
    (λ x y a b. fits_of (bits + 1) (x -ℤ y) (subst (λ (k : ℕ). magnitude (x -ℤ y) < k) p (step_small m y x (magnitude_of bits y b) (magnitude_of bits x a)))) xs ys h g)

pub length_mid : (xs ys mids : List ℤ) → mids ≡ mid_of xs ys → length xs ≡ length ys → length mids ≡ length xs
unfolding mid_of
length_mid xs ys mids e h = ap length e ∙ length-both _ xs ys h

pub length_side : (xs ys sides : List ℤ) → sides ≡ side_of xs ys → length xs ≡ length ys → length sides ≡ length xs
unfolding side_of
length_side xs ys sides e h = ap length e ∙ length-both _ xs ys h

pub two_bodies : (out a b : List Bool) (d e : ℕ) (xs ys : List ℤ) (s t : Spelling) → a ≡ out ++ subframe_bits d xs s → b ≡ a ++ subframe_bits e ys t
    → b ≡ out ++ bodies (signal d xs ∷ signal e ys ∷ []) (s ∷ t ∷ [])
unfolding bodies
two_bodies out a b d e xs ys s t ea eb =
    eb ∙ ap (λ l. l ++ subframe_bits e ys t) ea ∙ append_assoc out (subframe_bits d xs s) (subframe_bits e ys t)
    ∙ ap (λ l. out ++ (subframe_bits d xs s ++ l)) (sym (append-nil (subframe_bits e ys t)))

-- ---- what can be written

pub can_mid : (bits : ℕ) (xs ys mids : List ℤ) → CanWrite bits xs → CanWrite bits ys → length xs ≡ length ys → mids ≡ mid_of xs ys → CanWrite bits mids
can_mid bits xs ys mids h g l e =
    let n : length mids ≡ length xs = length_mid xs ys mids e l in
    record {
      some_samples = omega (arith, n, h.some_samples);
      len = omega (arith, n, h.len);
      positive = h.positive;
      within = h.within;
      fits = mid_small bits xs ys mids e h.fits g.fits;
    }

pub can_side : (bits : ℕ) (xs ys sides : List ℤ) → bits ≤ 24 → CanWrite bits xs → CanWrite bits ys → length xs ≡ length ys → sides ≡ side_of xs ys → CanWrite (bits + 1) sides
can_side bits xs ys sides w h g l e =
    let n : length sides ≡ length xs = length_side xs ys sides e l in
    record {
      some_samples = omega (arith, n, h.some_samples);
      len = omega (arith, n, h.len);
      positive = omega arith;
      within = omega (arith, w);
      fits = side_small bits xs ys sides h.positive e h.fits g.fits;
    }

pub small_channel : (bits : ℕ) (xs : List ℤ) → CanWrite bits xs → All (FitsBits 25) xs
small_channel bits xs h = first_small bits xs h.within h.fits

-- ---- what the four forms hold

pub signals_1 : (bits : ℕ) (l r : List ℤ) → signals bits (l ∷ r ∷ []) 1 ≡ signal bits l ∷ signal bits r ∷ []
unfolding signals
signals_1 bits l r = refl

pub signals_2 : (bits : ℕ) (l r : List ℤ) → signals bits (l ∷ r ∷ []) 8 ≡ signal bits l ∷ signal (bits + 1) (side_of l r) ∷ []
unfolding signals
signals_2 bits l r = refl

pub signals_3 : (bits : ℕ) (l r : List ℤ) → signals bits (l ∷ r ∷ []) 9 ≡ signal (bits + 1) (side_of l r) ∷ signal bits r ∷ []
unfolding signals
signals_3 bits l r = refl

pub signals_4 : (bits : ℕ) (l r : List ℤ) → signals bits (l ∷ r ∷ []) 10 ≡ signal bits (mid_of l r) ∷ signal (bits + 1) (side_of l r) ∷ []
unfolding signals
signals_4 bits l r = refl
