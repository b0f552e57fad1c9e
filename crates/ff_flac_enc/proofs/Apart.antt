-- Channels as subframes of their own.
use Rattle.std.proofs.Common.{◌≡◌, ℕ, zero, suc, ◌+◌, ◌-◌, ◌*◌, ◌/◌, ◌<◌, ◌≤◌, Bool, cond, ℤ, pos, List, [], ◌∷◌, ◌++◌, length, map, get_or, set, take, Some, refl, sym, ap, subst, ◌∙◌, arith}
use Rattle.std.specs.Option.{unwrap_or}
use Rattle.std.specs.List.{flat_map, range_with_len, All, AllByRecursion}
use Rattle.std.proofs.lemmas.Bool.{lt-ltb, ne_eqb}
use Rattle.std.specs.Prelude.{Result, Ok, Err, IfOk}
use Rattle.std.proofs.lemmas.List.{append-nil, append_assoc, length-map, take_all, take_more_set}
use Rattle.std.proofs.lemmas.List.FromFn.{map-range_with_len_more}
use Rattle.std.proofs.lemmas.List.Concat.{flat_map-append}
use Rattle.ff_flac_enc.specs.laws.Signal.{CanWrite}
use Rattle.std.proofs.lemmas.List.Elements.{All-get_or, All-same, All-from_recursion}
use Rattle.std.proofs.Math.Nat.{div-mul-le_self, mul-le-mul_right, le-div_iff_mul-le, div-le_of_le-mul}
use Rattle.ff_flac_subframe.specs.rice.Least.{least}
use Rattle.ff_flac_subframe.proofs.RiceLemmas.LeastLemmas.{pick_is, range_more}
use Rattle.ff_frame.specs.Audio.{FitsBits}
use Rattle.ff_flac_subframe.specs.Subframe.{Spelling, subframe_bits, candidates, fixed_of, predictors, all_are, first_or_zero}
use Rattle.ff_flac_subframe.specs.Subframe.Spelling.{constant, verbatim}
use Rattle.ff_flac_subframe.specs.laws.Plan.{size}
use Rattle.ff_flac_enc.specs.Layout.{signal, signals, joined, bodies, forms, layouts, layouts_with, layout_size, body, Layout}
use Rattle.ff_flac_enc.specs.declared.head.Head.{Head}
use Rattle.ff_flac_enc.specs.Head.{opened}
use Rattle.ff_flac_enc.specs.Channels.{channel_of, channels_in, best, best_bits}
use Rattle.ff_flac_enc.proofs.Choice.{AreBest, least-layouts_with}

ends_in : {A : Type 0} (xs : List A) (y : A) → (a : A) × (rest : List A) × (xs ++ (y ∷ []) ≡ a ∷ rest)
ends_in [] y = (y, [], refl)
ends_in (x ∷ xs) y = (x, xs ++ (y ∷ []), refl)

candidates-some : (xs : List ℤ) → (a : Spelling) × (rest : List Spelling) × (candidates xs ≡ a ∷ rest)
unfolding candidates
candidates-some xs = ends_in (cond (all_are (first_or_zero xs) xs) (constant ∷ []) [] ++ flat_map (fixed_of (length xs)) (predictors (length xs))) verbatim

pub best_is : (depth : ℕ) (xs : List ℤ) → least (size depth xs) (candidates xs) ≡ Some (best depth xs)
unfolding best
best_is depth xs =
    let c = candidates-some xs in
    pick_is (size depth xs) (candidates xs) c.0 c.1 verbatim c.2

pub best_found : (depth : ℕ) (xs : List ℤ) (s : Spelling) → least (size depth xs) (candidates xs) ≡ Some s → best depth xs ≡ s
unfolding best
best_found depth xs s h = ap (λ o. unwrap_or o verbatim) h

pub best_written : (depth : ℕ) (xs ys : List ℤ) (out next : List Bool) (s : Spelling) → xs ≡ ys → least (size depth xs) (candidates xs) ≡ Some s
    → next ≡ out ++ subframe_bits depth xs s → next ≡ out ++ best_bits depth ys
unfolding best_bits
best_written depth xs ys out next s e h w =
    w ∙ ap (λ t. out ++ subframe_bits depth xs t) (sym (best_found depth xs s h)) ∙ ap (λ l. out ++ subframe_bits depth l (best depth l)) e

are_best : (depth : ℕ) (channels : List (List ℤ)) → AreBest (map (signal depth) channels) (map (best depth) channels)
are_best depth [] = tt
are_best depth (xs ∷ channels) = (best_is depth xs, are_best depth channels)

apart_bits : (depth : ℕ) (channels : List (List ℤ)) → bodies (map (signal depth) channels) (map (best depth) channels) ≡ flat_map (best_bits depth) channels
unfolding bodies best_bits
apart_bits depth [] = refl
apart_bits depth (xs ∷ channels) = ap (λ (l : List Bool). best_bits depth xs ++ l) (apart_bits depth channels)

flat_map-map : {A B : Type 0} (f : B → List Bool) (g : A → B) (xs : List A) → flat_map f (map g xs) ≡ flat_map (λ x. f (g x)) xs
flat_map-map f g [] = refl
flat_map-map f g (x ∷ xs) = ap (λ l. f (g x) ++ l) (flat_map-map f g xs)

length-range : (a n : ℕ) → length (range_with_len a n) ≡ n
length-range a zero = refl
length-range a (suc n) = ap suc (length-range (a + 1) n)

pub length-channels_in : (n : ℕ) (samples : List ℤ) → length (channels_in n samples) ≡ n
unfolding channels_in
length-channels_in n samples = length-map (range_with_len 0 n) (channel_of n samples) ∙ length-range 0 n

apart : (depth : ℕ) (channels : List (List ℤ)) → Layout
apart depth channels = record { form = length channels - 1; spellings = map (best depth) channels }

pub signals_apart : (depth : ℕ) (channels : List (List ℤ)) (form : ℕ) → form < 8 → signals depth channels form ≡ map (signal depth) channels
unfolding signals
signals_apart depth channels form h = ap (λ b. cond b (map (signal depth) channels) (joined depth form channels)) (lt-ltb form 8 h)

layouts_apart : (bits : ℕ) (channels : List (List ℤ)) → (length channels ≡ 2 → ⊥) → layouts bits channels ≡ layouts_with bits channels (length channels - 1)
unfolding layouts forms
layouts_apart bits channels other =
    ap (λ b. flat_map (layouts_with bits channels) (cond b (1 ∷ 8 ∷ 9 ∷ 10 ∷ []) ((length channels - 1) ∷ []))) (ne_eqb (length channels) 2 other)
    ∙ append-nil (layouts_with bits channels (length channels - 1))

least_apart : (bits : ℕ) (channels : List (List ℤ)) → (length channels ≡ 2 → ⊥) → length channels ≤ 8 → 0 < length channels
    → least (layout_size bits channels) (layouts bits channels) ≡ Some (apart bits channels)
unfolding apart
least_apart bits channels other few some_channels =
    let form : ℕ = length channels - 1 in
    let small : form < 8 = omega arith in
    ap (least (layout_size bits channels)) (layouts_apart bits channels other)
    ∙ least-layouts_with bits channels form (map (best bits) channels)
    (subst (λ xs. AreBest xs (map (best bits) channels)) (sym (signals_apart bits channels form small)) (are_best bits channels))

body_apart : (bits : ℕ) (channels : List (List ℤ)) → length channels ≤ 8 → 0 < length channels → body bits channels (apart bits channels) ≡ flat_map (best_bits bits) channels
unfolding apart body
body_apart bits channels few some_channels =
    let form : ℕ = length channels - 1 in
    let small : form < 8 = omega arith in
    ap (λ xs. bodies xs (map (best bits) channels)) (signals_apart bits channels form small) ∙ apart_bits bits channels

pub apart_is : (bits n : ℕ) (samples : List ℤ) (head : Head) (code : ℕ) (first next : List Bool) → (n ≡ 2 → ⊥) → n ≤ 8 → 0 < n → code ≡ n - 1 → first ≡ opened head code
    → next ≡ first ++ flat_map (λ c. best_bits bits (channel_of n samples c)) (range_with_len 0 n)
    → (y : Layout) × (least (layout_size bits (channels_in n samples)) (layouts bits (channels_in n samples)) ≡ Some y) × (next ≡ opened head y.form ++ body bits (channels_in n samples) y)
unfolding apart channels_in
apart_is bits n samples head code first next other few some_channels form f w =
    let channels : List (List ℤ) = channels_in n samples in
    let l : length channels ≡ n = length-channels_in n samples in
    let same : code ≡ length channels - 1 = omega (arith, form, l) in
    let bodies_are : flat_map (λ c. best_bits bits (channel_of n samples c)) (range_with_len 0 n) ≡ body bits channels (apart bits channels) =
    sym (body_apart bits channels (omega (arith, l)) (omega (arith, l)) ∙ flat_map-map (best_bits bits) (channel_of n samples) (range_with_len 0 n)) in (
      apart bits channels,
      least_apart bits channels (λ e. other (sym l ∙ e)) (omega (arith, l)) (omega (arith, l)),
      w ∙ ap (λ o. o ++ flat_map (λ c. best_bits bits (channel_of n samples c)) (range_with_len 0 n)) (f ∙ ap (opened head) same) ∙ ap (λ b. opened head (length channels - 1) ++ b) bodies_are,
    )

-- ---- the samples of a channel

pub index_in : (len n t c : ℕ) → t < len / n → c < n → t * n + c < len
index_in len n t c h l =
    let all : len / n * n ≤ len = div-mul-le_self len n in
    let here : suc t * n ≤ len / n * n = mul-le-mul_right n (omega arith) in
    omega (arith, all, here, l)

abbrev pub sample_at : ℕ → List ℤ → ℕ → ℕ → ℤ
sample_at n samples c t = get_or samples (t * n + c) (pos 0)

pub next_sample : (n c : ℕ) (samples xs : List ℤ) (t : ℕ) (x : ℤ) → t < length xs → x ≡ sample_at n samples c t
    → take t xs ≡ map (sample_at n samples c) (range_with_len 0 t) → take (t + 1) (set xs t x) ≡ map (sample_at n samples c) (range_with_len 0 (t + 1))
next_sample n c samples xs t x h e is =
    take_more_set xs t x h
    ∙ ap (λ y. take t xs ++ (y ∷ [])) e
    ∙ ap (λ l. l ++ (sample_at n samples c t ∷ [])) is
    ∙ sym (map-range_with_len_more (sample_at n samples c) 0 t t (omega arith))

pub all_picked : (n c : ℕ) (samples xs : List ℤ) (t : ℕ) → length xs ≡ length samples / n → length xs ≡ t
    → take t xs ≡ map (sample_at n samples c) (range_with_len 0 t) → xs ≡ channel_of n samples c
unfolding channel_of
all_picked n c samples xs t l e is =
    sym (take_all t xs (omega (arith, e))) ∙ is ∙ ap (λ k. map (sample_at n samples c) (range_with_len 0 k)) (sym e ∙ l)

pub length-channel_of : (n c : ℕ) (samples : List ℤ) → length (channel_of n samples c) ≡ length samples / n
unfolding channel_of
length-channel_of n c samples = length-map (range_with_len 0 (length samples / n)) (sample_at n samples c) ∙ length-range 0 (length samples / n)

at_all : (P : ℤ → Type 0) (xs : List ℤ) → All P xs → (i : ℕ) → i < length xs → P (get_or xs i (pos 0))
at_all P xs h i l = All-get_or P xs i (pos 0) l h

pub all_range : (P : ℕ → Type 0) (a n : ℕ) → ((k : ℕ) → a ≤ k → k < a + n → P k) → AllByRecursion P (range_with_len a n)
all_range P a zero h = tt
all_range P a (suc n) h = (h a (omega arith) (omega arith), all_range P (a + 1) n (λ k g l. h k (omega arith) (omega arith)))

map_all : (P : ℤ → Type 0) (f : ℕ → ℤ) (ts : List ℕ) → AllByRecursion (λ t. P (f t)) ts → AllByRecursion P (map f ts)
map_all P f [] h = tt
map_all P f (t ∷ ts) h = (h.0, map_all P f ts h.1)

pub channel_all : (P : ℤ → Type 0) (n c : ℕ) (samples xs : List ℤ) → xs ≡ channel_of n samples c → c < n → All P samples → All P xs
unfolding channel_of
channel_all P n c samples xs e l h =
    All-same P xs (channel_of n samples c) e
    (All-from_recursion P (channel_of n samples c) (map_all P (sample_at n samples c) (range_with_len 0 (length samples / n))
    (all_range (λ t. P (sample_at n samples c t)) 0 (length samples / n) (λ t g u. at_all P samples h (t * n + c) (index_in (length samples) n t c (omega arith) l)))))

pub some_in_channel : (n c : ℕ) (samples xs : List ℤ) → xs ≡ channel_of n samples c → 0 < n → n ≤ length samples → 0 < length xs
some_in_channel n c samples xs e h l =
    let one : 1 * n ≤ length samples = omega arith in
    let q : 1 ≤ length samples / n = (le-div_iff_mul-le h).1 one in
    omega (arith, ap length e, length-channel_of n c samples, q)

pub few_in_channel : (n c : ℕ) (samples xs : List ℤ) → xs ≡ channel_of n samples c → length samples ≤ 4096 * n → length xs ≤ 4096
few_in_channel n c samples xs e l =
    let le : length samples ≤ n * 4096 = omega arith in
    let q : length samples / n ≤ 4096 = div-le_of_le-mul n le in
    omega (arith, ap length e, length-channel_of n c samples, q)

-- ---- the loops

pub flat_more : (f : ℕ → List Bool) (c : ℕ) (out next start : List Bool) → out ≡ start ++ flat_map f (range_with_len 0 c) → next ≡ out ++ f c
    → next ≡ start ++ flat_map f (range_with_len 0 (c + 1))
flat_more f c out next start h e =
    e ∙ ap (λ l. l ++ f c) h ∙ append_assoc start (flat_map f (range_with_len 0 c)) (f c)
    ∙ ap (λ l. start ++ (flat_map f (range_with_len 0 c) ++ l)) (sym (append-nil (f c)))
    ∙ ap (λ l. start ++ l) (sym (flat_map-append f (range_with_len 0 c) (c ∷ [])))
    ∙ ap (λ l. start ++ flat_map f l) (sym (range_more c))

pub two_is : (samples l r : List ℤ) → l ≡ channel_of 2 samples 0 → r ≡ channel_of 2 samples 1 → l ∷ r ∷ [] ≡ channels_in 2 samples
unfolding channels_in
two_is samples l r h g = ap (λ xs. xs ∷ r ∷ []) h ∙ ap (λ xs. channel_of 2 samples 0 ∷ xs ∷ []) g

pub can_write : (bits n c : ℕ) (samples xs : List ℤ) → xs ≡ channel_of n samples c → 0 < n → c < n → 0 < bits → bits ≤ 24 → n ≤ length samples → length samples ≤ 4096 * n
    → All (FitsBits bits) samples → CanWrite bits xs
can_write bits n c samples xs e h l b d m k f = record {
  some_samples = some_in_channel n c samples xs e h m;
  len = few_in_channel n c samples xs e k;
  positive = b;
  within = omega (arith, d);
  fits = channel_all (FitsBits bits) n c samples xs e l f;
}

pub if_ok : {A E : Type 0} (P Q : A → Type 0) (r : Result A E) → ((a : A) → P a → Q a) → IfOk r P → IfOk r Q
if_ok P Q (Ok a) f h = f a h
if_ok P Q (Err e) f h = h
