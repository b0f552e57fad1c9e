-- How long a frame can be: no longer than with every subframe verbatim.
use Rattle.std.proofs.Common.{◌≡◌, ℕ, ◌+◌, ◌-◌, ◌*◌, ◌^◌, ◌<◌, ◌≤◌, Bool, true, false, cond, eqb, ℤ, List, [], ◌∷◌, ◌++◌, length, map, replicate, Some, refl, sym, ap, ◌∙◌, subst, arith, inl, inr}
use Rattle.std.specs.Option.{IfSome}
use Rattle.std.specs.List.{flat_map, range_with_len, AllByRecursion}
use Rattle.std.proofs.lemmas.Bool.{cases_eq, ne_eqb}
use Rattle.std.proofs.lemmas.List.{append-nil, append_assoc, length-append, length-replicate, map-append}
use Rattle.std.proofs.lemmas.List.Concat.{flat_map-append}
use Rattle.std.proofs.lemmas.Nat.{mul-le}
use Rattle.ff_frame.specs.declared.audio.AFrame.{AFrame}
use Rattle.ff_bits.specs.Bits.{bits_of, padding}
use Rattle.ff_bits.specs.Number.{shortest, first_byte, further_bytes}
use Rattle.ff_bits.specs.Crc.{crc8_of, crc16_of}
use Rattle.ff_bits.proofs.BitsLemmas.{length-bits_of, length-bits}
use Rattle.ff_bits.proofs.FirstByte.{length-first_byte}
use Rattle.ff_bits.proofs.LawLemmas.{shortest_is_code}
use Rattle.ff_flac_subframe.specs.rice.Least.{least}
use Rattle.ff_flac_subframe.proofs.RiceLemmas.LeastLemmas.{least_is_lowest}
use Rattle.ff_flac_subframe.specs.Subframe.{Spelling, subframe_bits, candidates, fixed_of, predictors, all_are, first_or_zero}
use Rattle.ff_flac_subframe.specs.Subframe.Spelling.{constant, verbatim}
use Rattle.ff_flac_subframe.proofs.Plans.{size-verbatim}
use Rattle.ff_flac_enc.specs.declared.head.Head.{Head}
use Rattle.ff_flac_enc.specs.Head.{header_bits, codes_bits, block_bits_by, block_code, opened, closed}
use Rattle.ff_flac_enc.specs.Layout.{Signal, signal, signals, products, bodies, forms, layouts, layouts_with, layout_size, body, Layout}
use Rattle.ff_flac_enc.specs.Channels.{channel_of, channels_in}
use Rattle.ff_flac_enc.specs.Frame.{IsBlock, IsLeast, spelled, head_of}
use Rattle.ff_flac_enc.specs.Frame.{candidates as frames}
use Rattle.ff_flac_enc.proofs.HeadLemmas.{length-codes_bits, length-further_bytes}
use Rattle.ff_flac_enc.proofs.Apart.{length-channels_in, signals_apart, few_in_channel}

-- one of some
record Among {A : Type 0} (x : A) (xs : List A) : Type 0 where
  pub before : List A
  pub after : List A
  pub is : xs ≡ before ++ x ∷ after

all_at : {A : Type 0} (P : A → Type 0) (before after : List A) (x : A) → AllByRecursion P (before ++ x ∷ after) → P x
all_at P [] after x h = h.0
all_at P (y ∷ before) after x h = all_at P before after x h.1

least_among : {A : Type 0} (f : A → ℕ) (xs : List A) (a x : A) → least f xs ≡ Some a → Among x xs → f a ≤ f x
least_among {A} f xs a x e h =
    let all : AllByRecursion (λ z. f a ≤ f z) xs = subst (λ o. IfSome o (λ b. AllByRecursion (λ z. f b ≤ f z) xs)) e (least_is_lowest f xs) in
    all_at (λ z. f a ≤ f z) h.before h.after x (subst (AllByRecursion (λ z. f a ≤ f z)) h.is all)

-- ---- verbatim throughout

verbatims : List Signal → List Spelling
verbatims [] = []
verbatims (x ∷ xs) = verbatim ∷ verbatims xs

candidates_end : (xs : List ℤ) → (front : List Spelling) × (candidates xs ≡ front ++ verbatim ∷ [])
unfolding candidates
candidates_end xs = (cond (all_are (first_or_zero xs) xs) (constant ∷ []) [] ++ flat_map (fixed_of (length xs)) (predictors (length xs)), refl)

products-cons : (x : Signal) (xs : List Signal) → products (x ∷ xs) ≡ flat_map (λ s. map (λ rest. s ∷ rest) (products xs)) (candidates x.samples)
unfolding products
products-cons x xs = refl

products-nil : products [] ≡ [] ∷ []
unfolding products
products-nil = refl

among_products : (xs : List Signal) → Among (verbatims xs) (products xs)
unfolding verbatims
among_products [] = record { before = []; after = []; is = products-nil }
among_products (x ∷ xs) =
    let F : Spelling → List (List Spelling) = λ s. map (λ rest. s ∷ rest) (products xs) in
    let put : List Spelling → List Spelling = λ rest. verbatim ∷ rest in
    let last = candidates_end x.samples in
    let inner = among_products xs in
    let v : List Spelling = verbatims xs in
    record {
      before = flat_map F last.0 ++ map put inner.before;
      after = map put inner.after;
      is = products-cons x xs ∙ ap (flat_map F) last.1 ∙ flat_map-append F last.0 (verbatim ∷ [])
          ∙ ap (λ l. flat_map F last.0 ++ l) (append-nil (F verbatim) ∙ ap (map put) inner.is ∙ map-append put inner.before (v ∷ inner.after))
          ∙ sym (append_assoc (flat_map F last.0) (map put inner.before) ((verbatim ∷ v) ∷ map put inner.after));
    }

forms_first : (n : ℕ) → (rest : List ℕ) × (forms n ≡ (n - 1) ∷ rest)
unfolding forms
forms_first n = elim (cases_eq n 2) [
  | inl e ↦ subst (λ m. (rest : List ℕ) × (cond (eqb m 2) (1 ∷ 8 ∷ 9 ∷ 10 ∷ []) ((m - 1) ∷ []) ≡ (m - 1) ∷ rest)) (sym e) (8 ∷ 9 ∷ 10 ∷ [], refl)
  | inr ne ↦ ([], ap (λ b. cond b (1 ∷ 8 ∷ 9 ∷ 10 ∷ []) ((n - 1) ∷ [])) (ne_eqb n 2 ne))
]

plain : ℕ → List (List ℤ) → Layout
plain depth channels = record { form = length channels - 1; spellings = verbatims (signals depth channels (length channels - 1)) }

among_layouts : (depth : ℕ) (channels : List (List ℤ)) → Among (plain depth channels) (layouts depth channels)
unfolding layouts layouts_with plain
among_layouts depth channels =
    let form : ℕ = length channels - 1 in
    let first = forms_first (length channels) in
    let inner = among_products (signals depth channels form) in
    let v : List Spelling = verbatims (signals depth channels form) in
    let make : List Spelling → Layout = λ ss. record { form = form; spellings = ss } in
    let rest : List Layout = flat_map (layouts_with depth channels) first.0 in
    record {
      before = map make inner.before;
      after = map make inner.after ++ rest;
      is = ap (flat_map (layouts_with depth channels)) first.1
          ∙ ap (λ l. l ++ rest) (ap (map make) inner.is ∙ map-append make inner.before (v ∷ inner.after))
          ∙ append_assoc (map make inner.before) (make v ∷ map make inner.after) rest;
    }

-- ---- its bits

bodies-cons : (x : Signal) (xs : List Signal) (s : Spelling) (ss : List Spelling) → bodies (x ∷ xs) (s ∷ ss) ≡ subframe_bits x.depth x.samples s ++ bodies xs ss
unfolding bodies
bodies-cons x xs s ss = refl

bodies-nil : length (bodies [] []) ≡ 0
unfolding bodies
bodies-nil = refl

few_bits : (depth : ℕ) (channels : List (List ℤ)) → depth ≤ 24 → AllByRecursion (λ xs. length xs ≤ 4096) channels
    → length (bodies (map (signal depth) channels) (verbatims (map (signal depth) channels))) ≤ length channels * 98312
unfolding verbatims
few_bits depth [] d h = omega (arith, bodies-nil)
few_bits depth (xs ∷ channels) d h =
    let some_bits : depth * length xs ≤ 24 * 4096 = mul-le depth (length xs) 24 4096 d h.0 in
    omega (
      arith,
      ap length (bodies-cons (signal depth xs) (map (signal depth) channels) verbatim (verbatims (map (signal depth) channels))),
      length-append (subframe_bits depth xs verbatim) (bodies (map (signal depth) channels) (verbatims (map (signal depth) channels))),
      size-verbatim depth xs,
      some_bits,
      few_bits depth channels d h.1,
    )

short_channels : (n : ℕ) (samples : List ℤ) (cs : List ℕ) → length samples ≤ 4096 * n → AllByRecursion (λ xs. length xs ≤ 4096) (map (channel_of n samples) cs)
short_channels n samples [] h = tt
short_channels n samples (c ∷ cs) h = (few_in_channel n c samples (channel_of n samples c) refl h, short_channels n samples cs h)

all_short : (n : ℕ) (samples : List ℤ) → length samples ≤ 4096 * n → AllByRecursion (λ xs. length xs ≤ 4096) (channels_in n samples)
unfolding channels_in
all_short n samples h = short_channels n samples (range_with_len 0 n) h

few_shortest : (v : ℕ) → v < 2 ^ 36 → length (shortest v) ≤ 56
few_shortest v h =
    let c = shortest_is_code v h in
    let n : length (shortest v) ≡ length (first_byte c.0 v) + length (further_bytes c.0 v) = ap length c.3 ∙ length-append (first_byte c.0 v) (further_bytes c.0 v) in
    omega (arith, n, length-first_byte c.0 v c.1, length-further_bytes c.0 v, c.1)

few_block_bits : (code n : ℕ) → length (block_bits_by code n) ≤ 16
unfolding block_bits_by
few_block_bits code n =
    elim (eqb code 6) as (λ b. length (cond b (bits_of 8 (n - 1)) (cond (eqb code 7) (bits_of 16 (n - 1)) [])) ≤ 16) [
      | true ↦ omega (arith, length-bits_of 8 (n - 1))
      | false ↦ elim (eqb code 7) as (λ b. length (cond b (bits_of 16 (n - 1)) []) ≤ 16) [
        | true ↦ omega (arith, length-bits_of 16 (n - 1))
        | false ↦ omega arith
      ]
    ]

few_header_bits : (h : Head) (form : ℕ) → h.number < 2 ^ 31 → length (opened h form) ≤ 112
unfolding header_bits
few_header_bits h form n =
    let a : List Bool = codes_bits h form in
    let b : List Bool = shortest h.number in
    let c : List Bool = block_bits_by (block_code h.block) h.block in
    let sum : List Bool = bits_of 8 (crc8_of (a ++ b ++ c)) in
    omega (
      arith,
      length-append (a ++ b ++ c) sum,
      length-append (a ++ b) c,
      length-append a b,
      length-codes_bits h form,
      few_shortest h.number (omega (arith, n)),
      few_block_bits (block_code h.block) h.block,
      length-bits_of 8 (crc8_of (a ++ b ++ c)),
    )

few_closed : (xs : List Bool) → length (closed xs) ≤ length xs + 23
few_closed xs =
    let pad : List Bool = replicate (padding (length xs)) false in
    let few : padding (length xs) ≤ 7 = omega arith in
    omega (arith, length-append (xs ++ pad) (bits_of 16 (crc16_of (xs ++ pad))), length-append xs pad, length-replicate (padding (length xs)) false, few, length-bits_of 16 (crc16_of (xs ++ pad)))

few_plain : (a : AFrame) → IsBlock a → layout_size a.bits (channels_in a.channels a.samples) (plain a.bits (channels_in a.channels a.samples)) ≤ 8 * 98312
unfolding body plain
few_plain a block =
    let depth : ℕ = a.bits in
    let channels : List (List ℤ) = channels_in a.channels a.samples in
    let form : ℕ = length channels - 1 in
    let count : length channels ≡ a.channels = length-channels_in a.channels a.samples in
    let is : signals depth channels form ≡ map (signal depth) channels = signals_apart depth channels form (omega (arith, count, block.sound.few_channels)) in
    let few : length (bodies (map (signal depth) channels) (verbatims (map (signal depth) channels))) ≤ length channels * 98312 =
    few_bits depth channels block.few_bits (all_short a.channels a.samples block.few_samples) in
    omega (arith, ap (λ xs. length (bodies xs (verbatims xs))) is, few, count, block.sound.few_channels)

pub frames_stay_short : (a : AFrame) (number : ℕ) (bytes : List ℕ) → IsBlock a → number < 2 ^ 31 → IsLeast a number bytes → length bytes < 2 ^ 24
unfolding frames spelled
frames_stay_short a number bytes block n least_one =
    let depth : ℕ = a.bits in
    let channels : List (List ℤ) = channels_in a.channels a.samples in
    let y : Layout = least_one.0 in
    let no_more : layout_size depth channels y ≤ layout_size depth channels (plain depth channels) =
    least_among (layout_size depth channels) (layouts depth channels) y (plain depth channels) least_one.1 (among_layouts depth channels) in
    let front : List Bool = opened (head_of a number) y.form in
    omega (
      arith,
      length-bits bytes,
      ap length least_one.2,
      few_closed (front ++ body depth channels y),
      length-append front (body depth channels y),
      few_header_bits (head_of a number) y.form n,
      no_more,
      few_plain a block,
    )
