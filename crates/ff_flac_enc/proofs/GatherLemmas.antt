-- What is gathered, and what is due of it.
use Rattle.std.proofs.Common.{◌≡◌, ◌≢◌, ℕ, zero, suc, ◌+◌, ◌-◌, ◌*◌, ◌/◌, ◌%◌, ◌<◌, ◌≤◌, inl, inr, ℤ, Bool, true, false, List, ◌++◌, length, take, drop, map, Option, Some, None, refl, sym, ap, ◌∙◌, subst, arith, length-append}
use Rattle.std.specs.Prelude.{slice_get, unwrap_or}
use Rattle.std.specs.List.{All, range_with_len}
use Rattle.std.proofs.lemmas.List.{length-take, length-drop, take_all, drop_all, drop-drop, nil_from_length}
use Rattle.std.proofs.lemmas.List.Elements.{All-append, All-take, All-drop}
use Rattle.std.proofs.lemmas.List.FromFn.{length-map-range_with_len}
use Rattle.std.proofs.lemmas.Nat.{le-div, div_below}
use Rattle.std.proofs.Math.Nat.{div-mul-le_self, mul-le-mul_right, add-mul-mod_self_right, mul-mod_left, div-add-mod'}
use Rattle.ff_frame.specs.Audio.{FitsBits, IsAudio}
use Rattle.ff_frame.specs.declared.audio.AFrame.{AFrame}
use Rattle.ff_flac_enc.specs.declared.format.Format.{Format}
use Rattle.ff_flac_enc.specs.Gathered.{format_of, full_size, count_due, block_at, blocks_from, IsDue, IsKept, Holds}
use Rattle.ff_flac_enc.specs.laws.Cuts.{IsLike}

-- ---- how many blocks are due

-- a block that is full is due
pub full_due : (size : ℕ) (ended : Bool) (len n : ℕ) → 0 < size → n * size + size ≤ len → n < count_due size ended len
full_due size true len n some le =
    let e : (n + 1) * size ≤ len + (size - 1) = omega (arith, le) in
    let h = le-div (n + 1) (len + (size - 1)) size some e in omega (arith, h)
full_due size false len n some le =
    let e : (n + 1) * size ≤ len = omega (arith, le) in
    let h = le-div (n + 1) len size some e in omega (arith, h)

-- what was given of an input that goes on lies within it
pub within_open : (size len n : ℕ) → n ≤ count_due size false len → n * size ≤ len
within_open size len n le =
    let a = mul-le-mul_right size le in
    let b = div-mul-le_self len size in omega (arith, a, b)

-- where it goes on and no full block waits, all were given
none_open : (size len n : ℕ) → 0 < size → n ≤ count_due size false len → len - n * size < size → count_due size false len ≡ n
none_open size len n some le lt =
    let w = within_open size len n le in
    let below : len < (n + 1) * size = omega (arith, w, lt) in
    let h = div_below len size (n + 1) some below in omega (arith, h, le)

-- where all came, the rest is one block more
rest_due : (size len n : ℕ) → 0 < size → n * size < len → n < count_due size true len
rest_due size len n some lt =
    let e : (n + 1) * size ≤ len + (size - 1) = omega (arith, lt, some) in
    let h = le-div (n + 1) (len + (size - 1)) size some e in omega (arith, h)

none_ended : (size len n : ℕ) → 0 < size → n ≤ count_due size true len → len ≤ n * size → count_due size true len ≡ n
none_ended size len n some le few =
    let below : len + (size - 1) < (n + 1) * size = omega (arith, few, some) in
    let h = div_below (len + (size - 1)) size (n + 1) some below in omega (arith, h, le)

-- ---- the next block

-- so many are due of what waits behind n blocks
pub record Takes (size : ℕ) (ended : Bool) (samples waiting : List ℤ) (n count : ℕ) : Type 0 where
  pub block : take count waiting ≡ take size (drop (n * size) samples)
  pub rest : drop count waiting ≡ drop ((n + 1) * size) samples
  pub due : n < count_due size ended (length samples)
  pub before : n * size < length samples

takes_full : (size : ℕ) (ended : Bool) (samples waiting : List ℤ) (n count : ℕ) → 0 < size → waiting ≡ drop (n * size) samples → size ≤ length waiting → count ≡ size → Takes size ended samples waiting n count
takes_full size ended samples waiting n count some kept le e =
    let long : length waiting ≡ length samples - n * size = ap length kept ∙ length-drop (n * size) samples in
    let next : n * size + size ≡ (n + 1) * size = omega arith in record {
      block = ap (λ k. take k waiting) e ∙ ap (take size) kept;
      rest = ap (λ k. drop k waiting) e ∙ (ap (drop size) kept ∙ (drop-drop size (n * size) samples ∙ ap (λ k. drop k samples) next));
      due = full_due size ended (length samples) n some (omega (arith, long, le, some));
      before = omega (arith, long, le, some);
    }

takes_rest : (size : ℕ) (samples waiting : List ℤ) (n count : ℕ) → 0 < size → waiting ≡ drop (n * size) samples → length waiting < size → count ≡ length waiting → count ≢ 0 → Takes size true samples waiting n count
takes_rest size samples waiting n count some kept lt e one =
    let long : length waiting ≡ length samples - n * size = ap length kept ∙ length-drop (n * size) samples in
    let past : length samples ≤ (n + 1) * size = omega (arith, long, lt) in
    let inside : n * size < length samples = omega (arith, long, e, one) in record {
      block = ap (λ k. take k waiting) e ∙ (take_all (length waiting) waiting (omega arith) ∙ (sym (take_all size waiting (omega (arith, lt))) ∙ ap (take size) kept));
      rest = ap (λ k. drop k waiting) e ∙ (drop_all (length waiting) waiting (omega arith) ∙ sym (drop_all ((n + 1) * size) samples past));
      due = rest_due size (length samples) n some inside;
      before = inside;
    }

pub takes : (size : ℕ) (ended : Bool) (samples waiting : List ℤ) (n count : ℕ) → 0 < size → waiting ≡ drop (n * size) samples → IsDue ended size (length waiting) count → count ≢ 0 → Takes size ended samples waiting n count
takes size ended samples waiting n count some kept (inl d) one = takes_full size ended samples waiting n count some kept d.0 d.1
takes size ended samples waiting n count some kept (inr (inl d)) one =
    subst (λ (b : Bool). Takes size b samples waiting n count) (sym d.1) (takes_rest size samples waiting n count some kept d.0 d.2 one)
takes size ended samples waiting n count some kept (inr (inr d)) one = absurd (one d.2)

pub none_with : (size : ℕ) (ended : Bool) (samples waiting : List ℤ) (n count : ℕ) → 0 < size → waiting ≡ drop (n * size) samples → n ≤ count_due size ended (length samples) → IsDue ended size (length waiting) count → count ≡ 0 → count_due size ended (length samples) ≡ n
none_with size ended samples waiting n count some kept le (inl d) none = absurd (omega (arith, some, d.1, none))
none_with size ended samples waiting n count some kept le (inr (inl d)) none =
    let long : length waiting ≡ length samples - n * size = ap length kept ∙ length-drop (n * size) samples in
    let few : length samples ≤ n * size = omega (arith, long, d.2, none) in
    let all : n ≤ count_due size true (length samples) = subst (λ (b : Bool). n ≤ count_due size b (length samples)) d.1 le in
    subst (λ (b : Bool). count_due size b (length samples) ≡ n) (sym d.1) (none_ended size (length samples) n some all few)
none_with size ended samples waiting n count some kept le (inr (inr d)) none =
    let long : length waiting ≡ length samples - n * size = ap length kept ∙ length-drop (n * size) samples in
    let lt : length samples - n * size < size = omega (arith, long, d.0) in
    let all : n ≤ count_due size false (length samples) = subst (λ (b : Bool). n ≤ count_due size b (length samples)) d.1 le in
    subst (λ (b : Bool). count_due size b (length samples) ≡ n) (sym d.1) (none_open size (length samples) n some all lt)

-- ---- the list of blocks

get_range : (f : ℕ → AFrame) (a c n : ℕ) → n < c → slice_get (map f (range_with_len a c)) n ≡ Some (f (a + n))
get_range f a zero n lt = absurd (omega arith)
get_range f a (suc c) zero lt = let e : a + 0 ≡ a = omega arith in rw e refl
get_range f a (suc c) (suc n) lt = let e : (a + 1) + n ≡ a + suc n = omega arith in get_range f (a + 1) c n (omega arith) ∙ ap (λ k. Some (f k)) e

pub get_block : (ended : Bool) (f : AFrame) (samples : List ℤ) (n : ℕ) → n < count_due (full_size f.channels) ended (length samples) → slice_get (blocks_from ended f samples) n ≡ Some (block_at f samples n)
get_block ended f samples n lt =
    let z : 0 + n ≡ n = omega arith in
    get_range (block_at f samples) 0 (count_due (full_size f.channels) ended (length samples)) n lt ∙ ap (λ k. Some (block_at f samples k)) z

pub count_blocks : (ended : Bool) (f : AFrame) (samples : List ℤ) → length (blocks_from ended f samples) ≡ count_due (full_size f.channels) ended (length samples)
count_blocks ended f samples = length-map-range_with_len (block_at f samples) 0 (count_due (full_size f.channels) ended (length samples))

-- ---- what is kept

-- a frame like those before it has their format
pub alike : (format : Format) (frame : AFrame) → IsLike (Some format) frame → format_of frame ≡ format
alike format frame (inl e) = let clash = e in cc
alike format frame (inr e) = ap (λ (o : Option Format). unwrap_or o format) (sym e)

pub kept_more : (old : Option Format) (frame : AFrame) (waiting new : List ℤ) → Holds old waiting → IsLike old frame → IsAudio frame.bits frame.channels frame.samples → new ≡ waiting ++ frame.samples → IsKept (format_of frame) new
kept_more None frame waiting new h like a e =
    let same : new ≡ frame.samples = e ∙ ap (λ (xs : List ℤ). xs ++ frame.samples) (nil_from_length waiting h) in record {
      some_channels = a.some_channels;
      few_channels = a.few_channels;
      some_bits = a.some_bits;
      few_bits = a.few_bits;
      whole = ap (λ (xs : List ℤ). length xs % frame.channels) same ∙ (ap (λ n. n % frame.channels) a.interleaved ∙ mul-mod_left a.sample_frames frame.channels);
      fit = subst (λ (xs : List ℤ). All (FitsBits frame.bits) xs) (sym same) a.within_bits;
    }
kept_more (Some format) frame waiting new h like a e =
    let here : IsKept (format_of frame) waiting = subst (λ (g : Format). IsKept g waiting) (sym (alike format frame like)) h in
    let long : length new ≡ length waiting + a.sample_frames * frame.channels = ap length e ∙ (length-append waiting frame.samples ∙ ap (λ n. length waiting + n) a.interleaved) in record {
      some_channels = a.some_channels;
      few_channels = a.few_channels;
      some_bits = a.some_bits;
      few_bits = a.few_bits;
      whole = ap (λ n. n % frame.channels) long ∙ (add-mul-mod_self_right (length waiting) a.sample_frames frame.channels ∙ here.whole);
      fit = subst (λ (xs : List ℤ). All (FitsBits frame.bits) xs) (sym e) (All-append (FitsBits frame.bits) waiting frame.samples here.fit a.within_bits);
    }

less_whole : (channels len count : ℕ) (ended : Bool) → len % channels ≡ 0 → IsDue ended (4096 * channels) len count → (len - count) % channels ≡ 0
less_whole channels len count ended whole (inl d) =
    let e : len ≡ (len - count) + 4096 * channels = omega (arith, d.0, d.1) in
    sym (add-mul-mod_self_right (len - count) 4096 channels) ∙ (ap (λ n. n % channels) (sym e) ∙ whole)
less_whole channels len count ended whole (inr (inl d)) = let e : len - count ≡ 0 * channels = omega (arith, d.2) in ap (λ n. n % channels) e ∙ mul-mod_left 0 channels
less_whole channels len count ended whole (inr (inr d)) = let e : len - count ≡ len = omega (arith, d.2) in ap (λ n. n % channels) e ∙ whole

pub kept_less : (format : Format) (waiting new : List ℤ) (count : ℕ) (ended : Bool) → IsKept format waiting → IsDue ended (full_size format.channels) (length waiting) count → new ≡ drop count waiting → IsKept format new
kept_less format waiting new count ended k d e = record {
  some_channels = k.some_channels;
  few_channels = k.few_channels;
  some_bits = k.some_bits;
  few_bits = k.few_bits;
  whole = ap (λ (xs : List ℤ). length xs % format.channels) e ∙ (ap (λ n. n % format.channels) (length-drop count waiting) ∙ less_whole format.channels (length waiting) count ended k.whole d);
  fit = subst (λ (xs : List ℤ). All (FitsBits format.bits) xs) (sym e) (All-drop (FitsBits format.bits) count waiting k.fit);
}

-- a block is sound
pub block_sound : (format : Format) (waiting : List ℤ) (count : ℕ) (ended : Bool) → IsKept format waiting → IsDue ended (full_size format.channels) (length waiting) count → count ≢ 0 → IsAudio format.bits format.channels (take count waiting)
block_sound format waiting count ended k (inl d) one =
    let long : length (take count waiting) ≡ 4096 * format.channels = length-take count waiting ∙ omega (arith, d.0, d.1) in record {
      some_bits = k.some_bits;
      few_bits = k.few_bits;
      some_channels = k.some_channels;
      few_channels = k.few_channels;
      sample_frames = 4096;
      interleaved = long;
      some_sample_frames = omega arith;
      few_sample_frames = omega arith;
      within_bits = All-take (FitsBits format.bits) count waiting k.fit;
    }
block_sound format waiting count ended k (inr (inl d)) one =
    let ch = format.channels in
    let q = length waiting / ch in
    let long : length (take count waiting) ≡ length waiting = length-take count waiting ∙ omega (arith, d.2) in
    let product : q * ch ≡ length waiting = let s = div-add-mod' (length waiting) ch in let w = k.whole in omega (arith, s, w) in
    let some : 0 < ch = let s = k.some_channels in omega (arith, s) in
    let few : q < 4096 = div_below (length waiting) ch 4096 some d.0 in record {
      some_bits = k.some_bits;
      few_bits = k.few_bits;
      some_channels = k.some_channels;
      few_channels = k.few_channels;
      sample_frames = q;
      interleaved = long ∙ sym product;
      some_sample_frames = at_least q ch (λ z. one (d.2 ∙ (sym product ∙ z)));
      few_sample_frames = omega (arith, few);
      within_bits = All-take (FitsBits format.bits) count waiting k.fit;
    }
  where
    at_least : (q ch : ℕ) → q * ch ≢ 0 → 1 ≤ q
    at_least zero ch h = absurd (h (omega arith))
    at_least (suc q) ch h = omega arith
block_sound format waiting count ended k (inr (inr d)) one = absurd (one d.2)
