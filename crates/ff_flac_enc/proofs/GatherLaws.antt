-- What the definitions of blocks keep.
use Rattle.std.proofs.Common.{◌≡◌, ℕ, zero, suc, ◌+◌, ◌-◌, ◌*◌, ◌/◌, ◌^◌, ◌<◌, ◌≤◌, inl, inr, ℤ, pos, negsuc, ◌+ℤ◌, ◌<ℤ◌, ◌≤ℤ◌, Bool, true, false, List, [], ◌∷◌, ◌++◌, length, take, drop, map, Some, refl, sym, ap, ◌∙◌, subst, arith, length-append, append-nil}
use Rattle.std.specs.Prelude.{slice_index_or}
use Rattle.std.specs.List.{All, range_with_len}
use Rattle.std.proofs.lemmas.Int.{ints}
use Rattle.std.proofs.lemmas.List.{map-append, take-map, drop-map, length-map, take_all, take-take, drop-take, take-append-drop, take-append-le, drop-append-le, drop-drop, length-drop}
use Rattle.std.proofs.lemmas.List.Concat.{flat_map-append}
use Rattle.std.proofs.lemmas.List.Elements.{All-head, All-tail}
use Rattle.std.proofs.lemmas.Nat.{le-div}
use Rattle.std.proofs.Math.Nat.{mul-le-mul_right, lt-div-mul-add, mul-add-div_right, mul-div_cancel, le-mul_of_pos_right}
use mathlib.Core.List.{IsPrefix}
use Rattle.ff_time.specs.Fraction.{IsBase}
use Rattle.ff_frame.specs.Audio.{IsAudio}
use Rattle.ff_frame.specs.Frame.{audio_frame}
use Rattle.ff_frame.specs.Heads.{base_of_head}
use Rattle.ff_stream.specs.Lanes.{IsItemFor, InOrder, IsValid, EndsInTime, FitsFrames}
use Rattle.ff_stream.specs.Stream.{Mark}
use Rattle.ff_stream.specs.Times.{end_of, ticks}
use Rattle.ff_frame.specs.declared.audio.AFrame.{AFrame}
use Rattle.ff_frame.specs.declared.head.StreamHead.{StreamHead}
use Rattle.ff_frame.specs.declared.head.StreamHead.TheVariants.{Audio as AudioHead, Video as VideoHead}
use Rattle.ff_stream.specs.declared.item.Item.{Item}
use Rattle.ff_stream.specs.declared.item.Item.TheVariants.{Audio}
use Rattle.ff_stream.specs.declared.item.Lane.TheVariants.{Frames}
use Rattle.ff_flac_enc.specs.declared.blocks.Blocks.{Blocks}
use Rattle.ff_flac_enc.specs.Gathered.{changed, format_of, full_size, all_samples, count_due, block_at, blocks_due, EndInTime}
use Rattle.ff_flac_enc.specs.laws.Cuts.{Cuts, IsLike}
use Rattle.ff_flac_enc.proofs.GatherLemmas.{within_open}
use Rattle.ff_flac_enc.proofs.GatherState.{block_is}

-- ---- all samples

take_parts : (a b : ℕ) (xs : List ℤ) → take a xs ++ take b (drop a xs) ≡ take (a + b) xs
take_parts a b xs =
    let front : take a (take (a + b) xs) ≡ take a xs = take-take a (a + b) xs (omega arith) in
    ap (λ (ys : List ℤ). ys ++ take b (drop a xs)) (sym front)
    ∙ (ap (λ (ys : List ℤ). take a (take (a + b) xs) ++ ys) (sym (drop-take a b xs)) ∙ take-append-drop a (take (a + b) xs))

-- so many blocks from block a on
pieces : (f : AFrame) (samples : List ℤ) (c a : ℕ) → all_samples (map (block_at f samples) (range_with_len a c)) ≡ take (c * full_size f.channels) (drop (a * full_size f.channels) samples)
pieces f samples zero a = let e : 0 * full_size f.channels ≡ 0 = omega arith in sym (ap (λ n. take n (drop (a * full_size f.channels) samples)) e)
pieces f samples (suc c) a =
    let size = full_size f.channels in
    let here : (block_at f samples a).samples ≡ take size (drop (a * size) samples) = ap (λ (b : AFrame). b.samples) (block_is f samples a) in
    let next : (a + 1) * size ≡ a * size + size = omega arith in
    let sum : size + c * size ≡ suc c * size = omega arith in
    let rest : drop ((a + 1) * size) samples ≡ drop size (drop (a * size) samples) = ap (λ n. drop n samples) next ∙ sym (drop-drop size (a * size) samples) in
    ap (λ (xs : List ℤ). xs ++ all_samples (map (block_at f samples) (range_with_len (a + 1) c))) here
    ∙ (ap (λ (xs : List ℤ). take size (drop (a * size) samples) ++ xs) (pieces f samples c (a + 1) ∙ ap (take (c * size)) rest)
    ∙ (take_parts size (c * size) (drop (a * size) samples) ∙ ap (λ n. take n (drop (a * size) samples)) sum))

pub all_there : (f : AFrame) (fs : List AFrame) → 1 ≤ f.channels → all_samples (blocks_due true (f ∷ fs)) ≡ all_samples (f ∷ fs)
all_there f fs some =
    let samples = all_samples (f ∷ fs) in
    let size = full_size f.channels in
    let count = count_due size true (length samples) in
    let positive : 0 < size = omega (arith, some) in
    let far = lt-div-mul-add {a = length samples + (size - 1)} {b = size} positive in
    let none : 0 * size ≡ 0 = omega arith in
    pieces f samples count 0 ∙ (ap (λ n. take (count * size) (drop n samples)) none ∙ take_all (count * size) samples (omega (arith, far, positive)))

-- ---- what is due stays

same_block : (f : AFrame) (xs ys : List ℤ) (n : ℕ) → n * full_size f.channels + full_size f.channels ≤ length xs → block_at f (xs ++ ys) n ≡ block_at f xs n
same_block f xs ys n le =
    let size = full_size f.channels in
    let inside : n * size ≤ length xs = omega (arith, le) in
    let long : length (drop (n * size) xs) ≡ length xs - n * size = length-drop (n * size) xs in
    let cut : take size (drop (n * size) (xs ++ ys)) ≡ take size (drop (n * size) xs) = ap (take size) (drop-append-le (n * size) xs ys inside) ∙ take-append-le size (drop (n * size) xs) ys (omega (arith, long, le)) in
    block_is f (xs ++ ys) n ∙ (ap (λ (zs : List ℤ). audio_frame (f.pts +ℤ pos (4096 * n)) f.rate f.bits f.channels zs) cut ∙ sym (block_is f xs n))

same_blocks : (f : AFrame) (xs ys : List ℤ) (a c : ℕ) → (a + c) * full_size f.channels ≤ length xs → map (block_at f (xs ++ ys)) (range_with_len a c) ≡ map (block_at f xs) (range_with_len a c)
same_blocks f xs ys a zero le = refl
same_blocks f xs ys a (suc c) le =
    let size = full_size f.channels in
    let first : a * size + size ≤ (a + suc c) * size = let e : a + 1 ≤ a + suc c = omega arith in let m = mul-le-mul_right size e in omega (arith, m) in
    let next : (a + 1) + c ≡ a + suc c = omega arith in
    ap (λ (b : AFrame). b ∷ map (block_at f (xs ++ ys)) (range_with_len (a + 1) c)) (same_block f xs ys a (omega (arith, first, le)))
    ∙ ap (λ (bs : List AFrame). block_at f xs a ∷ bs) (same_blocks f xs ys (a + 1) c (subst (λ n. n * size ≤ length xs) (sym next) le))

split_range : (g : ℕ → AFrame) (a c d : ℕ) → map g (range_with_len a (c + d)) ≡ map g (range_with_len a c) ++ map g (range_with_len (a + c) d)
split_range g a zero d =
    let e : zero + d ≡ d = omega arith in
    let z : a + zero ≡ a = omega arith in
    ap (λ n. map g (range_with_len a n)) e ∙ sym (ap (λ n. map g (range_with_len n d)) z)
split_range g a (suc c) d =
    let e : suc c + d ≡ suc (c + d) = omega arith in
    let z : (a + 1) + c ≡ a + suc c = omega arith in
    ap (λ n. map g (range_with_len a n)) e
    ∙ (ap (λ (bs : List AFrame). g a ∷ bs) (split_range g (a + 1) c d) ∙ ap (λ n. g a ∷ (map g (range_with_len (a + 1) c) ++ map g (range_with_len n d))) z)

more_due : (size : ℕ) (ended : Bool) (a b : ℕ) → 0 < size → a ≤ b → count_due size false a ≤ count_due size ended b
more_due size true a b some le = let w = within_open size a (count_due size false a) (omega arith) in le-div (count_due size false a) (b + (size - 1)) size some (omega (arith, w, le))
more_due size false a b some le = let w = within_open size a (count_due size false a) (omega arith) in le-div (count_due size false a) b size some (omega (arith, w, le))

pub stays : (f : AFrame) (fs more : List AFrame) (ended : Bool) → 1 ≤ f.channels → IsPrefix (blocks_due false (f ∷ fs)) (blocks_due ended ((f ∷ fs) ++ more))
stays f fs more ended some =
    let size = full_size f.channels in
    let xs = all_samples (f ∷ fs) in
    let ys = all_samples more in
    let positive : 0 < size = omega (arith, some) in
    let c = count_due size false (length xs) in
    let all = count_due size ended (length (xs ++ ys)) in
    let longer : length xs ≤ length (xs ++ ys) = omega (arith, length-append xs ys) in
    let le : c ≤ all = more_due size ended (length xs) (length (xs ++ ys)) positive longer in
    let sum : c + (all - c) ≡ all = omega (arith, le) in
    let within : (0 + c) * size ≤ length xs = let w = within_open size (length xs) c (omega arith) in let z : 0 + c ≡ c = omega arith in subst (λ n. n * size ≤ length xs) (sym z) w in
    let whole : all_samples ((f ∷ fs) ++ more) ≡ xs ++ ys = flat_map-append (λ (g : AFrame). g.samples) (f ∷ fs) more in
    let rest = map (block_at f (xs ++ ys)) (range_with_len (0 + c) (all - c)) in (
      rest,
      ap (λ (bs : List AFrame). bs ++ rest) (sym (same_blocks f xs ys 0 c within))
          ∙ (sym (split_range (block_at f (xs ++ ys)) 0 c (all - c))
          ∙ (ap (λ n. map (block_at f (xs ++ ys)) (range_with_len 0 n)) sum
          ∙ sym (ap (λ (zs : List ℤ). map (block_at f zs) (range_with_len 0 (count_due size ended (length zs)))) whole))),
    )

-- ---- frames of a valid stream

-- the last of some items
all_end : (P : Item → Type 0) (xs : List AFrame) (y : AFrame) → All P (map Audio (xs ++ y ∷ [])) → P (Audio y)
all_end P [] y h = All-head P (Audio y) [] h
all_end P (x ∷ xs) y h = all_end P xs y (All-tail P (Audio x) (map Audio (xs ++ y ∷ [])) h)

sound_of : (head : StreamHead) (f : AFrame) → FitsFrames head (Audio f) → IsAudio f.bits f.channels f.samples
sound_of (AudioHead tb rate bits channels codec) f h = h.audio
sound_of (VideoHead tb format width height sar_num sar_den) f h = absurd h

alike_of : (head : StreamHead) (f g : AFrame) → FitsFrames head (Audio f) → FitsFrames head (Audio g) → format_of f ≡ format_of g
alike_of (AudioHead tb rate bits channels codec) f g h k =
    ap (λ n. record { rate = n; bits = f.bits; channels = f.channels }) (h.rate_is ∙ sym k.rate_is)
    ∙ (ap (λ n. record { rate = g.rate; bits = n; channels = f.channels }) (h.bits_are ∙ sym k.bits_are)
    ∙ ap (λ n. record { rate = g.rate; bits = g.bits; channels = n }) (h.channels_are ∙ sym k.channels_are))
alike_of (VideoHead tb format width height sar_num sar_den) f g h k = absurd h

apart_of : (head : StreamHead) (f g : AFrame) (gs : List AFrame) → FitsFrames head (Audio f) → InOrder (Frames head) (map Audio (f ∷ g ∷ gs)) → (f.pts +ℤ pos (length f.samples / f.channels)) ≤ℤ g.pts
apart_of (AudioHead tb rate bits channels codec) f g gs h o = o.0.apart tt
apart_of (VideoHead tb format width height sar_num sar_den) f g gs h o = absurd h

-- the samples of frames in order end no later than the last frame
ends_by : (head : StreamHead) (limit : ℤ) (f : AFrame) (fs : List AFrame) → All (IsItemFor (Frames head)) (map Audio (f ∷ fs)) → InOrder (Frames head) (map Audio (f ∷ fs)) → All (λ (x : Item). end_of x <ℤ limit) (map Audio (f ∷ fs))
    → (f.pts +ℤ pos (length (all_samples (f ∷ fs)) / f.channels)) <ℤ limit
ends_by head limit f [] each order ends =
    subst (λ (xs : List ℤ). (f.pts +ℤ pos (length xs / f.channels)) <ℤ limit) (sym (append-nil f.samples)) (All-head (λ (x : Item). end_of x <ℤ limit) (Audio f) [] ends)
ends_by head limit f (g ∷ gs) each order ends =
    let tail : All (IsItemFor (Frames head)) (map Audio (g ∷ gs)) = All-tail (IsItemFor (Frames head)) (Audio f) (map Audio (g ∷ gs)) each in
    let fits_f = (All-head (IsItemFor (Frames head)) (Audio f) (map Audio (g ∷ gs)) each).fits in
    let fits_g = (All-head (IsItemFor (Frames head)) (Audio g) (map Audio gs) tail).fits in
    let a = sound_of head f fits_f in
    let some : 0 < f.channels = let s = a.some_channels in omega (arith, s) in
    let rest = all_samples (g ∷ gs) in
    let later = ends_by head limit g gs tail order.1 (All-tail (λ (x : Item). end_of x <ℤ limit) (Audio f) (map Audio (g ∷ gs)) ends) in
    let channels : g.channels ≡ f.channels = ap (λ (x : _). x.channels) (sym (alike_of head f g fits_f fits_g)) in
    let later_f : (g.pts +ℤ pos (length rest / f.channels)) <ℤ limit = subst (λ n. (g.pts +ℤ pos (length rest / n)) <ℤ limit) channels later in
    let apart = apart_of head f g gs fits_f order in
    let own : length f.samples / f.channels ≡ a.sample_frames = ap (λ n. n / f.channels) a.interleaved ∙ mul-div_cancel a.sample_frames some in
    let total : length (all_samples (f ∷ g ∷ gs)) ≡ a.sample_frames * f.channels + length rest = length-append f.samples rest ∙ ap (λ n. n + length rest) a.interleaved in
    let sum : length (all_samples (f ∷ g ∷ gs)) / f.channels ≡ a.sample_frames + length rest / f.channels = ap (λ n. n / f.channels) total ∙ mul-add-div_right some a.sample_frames (length rest) in
    omega (arith, ints, later_f, apart, own, sum)

below : (num den : ℕ) (z : ℤ) → 0 < num → den < 2 ^ 31 → ticks z * num ≤ 1000000000 * den → z <ℤ pos (2 ^ 62)
below num den (pos n) some small le = let m = le-mul_of_pos_right {m = num} n some in omega (arith, ints, m, small, le)
below num den (negsuc n) some small le = omega (arith, ints)

all_below : (head : StreamHead) (xs : List Item) → IsBase (base_of_head head) → All (EndsInTime (Frames head)) xs → All (λ (x : Item). end_of x <ℤ pos (2 ^ 62)) xs
all_below head xs base h k d lt = below (base_of_head head).num (base_of_head head).den (end_of (slice_index_or xs k d)) base.num_positive base.den_small (h k d lt)

in_time : (head : StreamHead) (mark : Mark) (fs : List AFrame) → IsBase (base_of_head head) → IsValid (Frames head) (record { items = map Audio fs; mark = mark }) → EndInTime fs
in_time head mark [] base v = tt
in_time head mark (f ∷ fs) base v = ends_by head (pos (2 ^ 62)) f fs v.shape.each v.shape.in_order (all_below head (map Audio (f ∷ fs)) base v.in_time)

like_of : (head : StreamHead) (blocks : Blocks) (fed : List AFrame) (n : ℕ) (frame : AFrame) → Cuts blocks fed n → All (IsItemFor (Frames head)) (map Audio (fed ++ frame ∷ [])) → IsLike blocks.format frame
like_of head blocks [] n frame c each = inl c.goes.0
like_of head blocks (f ∷ fs) n frame c each =
    let first = (All-head (IsItemFor (Frames head)) (Audio f) (map Audio (fs ++ frame ∷ [])) each).fits in
    let last = (all_end (IsItemFor (Frames head)) (f ∷ fs) frame each).fits in
    inr (c.goes.format_is ∙ ap Some (alike_of head f frame first last))

pub can_be_fed : (blocks : Blocks) (fed : List AFrame) (n : ℕ) (frame : AFrame) (head : StreamHead) (mark : Mark) → Cuts blocks fed n → IsBase (base_of_head head) → IsValid (Frames head) (record { items = map Audio (fed ++ frame ∷ []); mark = mark })
    → IsAudio frame.bits frame.channels frame.samples × IsLike blocks.format frame × EndInTime (fed ++ frame ∷ [])
can_be_fed blocks fed n frame head mark c base v =
    (sound_of head frame (all_end (IsItemFor (Frames head)) fed frame v.shape.each).fits, like_of head blocks fed n frame c v.shape.each, in_time head mark (fed ++ frame ∷ []) base v)

-- ---- frames whose samples were changed

changed_samples : (bits : ℕ) (h : ℤ → ℤ) (fs : List AFrame) → all_samples (map (changed bits h) fs) ≡ map h (all_samples fs)
changed_samples bits h [] = refl
changed_samples bits h (f ∷ fs) = ap (λ (xs : List ℤ). map h f.samples ++ xs) (changed_samples bits h fs) ∙ sym (map-append h f.samples (all_samples fs))

changed_block : (bits : ℕ) (h : ℤ → ℤ) (f : AFrame) (samples : List ℤ) (k : ℕ) → block_at (changed bits h f) (map h samples) k ≡ changed bits h (block_at f samples k)
changed_block bits h f samples k =
    let size = full_size f.channels in
    let cut : take size (drop (k * size) (map h samples)) ≡ map h (take size (drop (k * size) samples)) = ap (take size) (drop-map h (k * size) samples) ∙ take-map h size (drop (k * size) samples) in
    block_is (changed bits h f) (map h samples) k
    ∙ (ap (λ (xs : List ℤ). audio_frame (f.pts +ℤ pos (4096 * k)) f.rate bits f.channels xs) cut ∙ sym (ap (changed bits h) (block_is f samples k)))

changed_blocks : (bits : ℕ) (h : ℤ → ℤ) (f : AFrame) (samples : List ℤ) (a c : ℕ) → map (block_at (changed bits h f) (map h samples)) (range_with_len a c) ≡ map (changed bits h) (map (block_at f samples) (range_with_len a c))
changed_blocks bits h f samples a zero = refl
changed_blocks bits h f samples a (suc c) =
    ap (λ (b : AFrame). b ∷ map (block_at (changed bits h f) (map h samples)) (range_with_len (a + 1) c)) (changed_block bits h f samples a)
    ∙ ap (λ (bs : List AFrame). changed bits h (block_at f samples a) ∷ bs) (changed_blocks bits h f samples (a + 1) c)

pub changed_due : (bits : ℕ) (h : ℤ → ℤ) (ended : Bool) (fed : List AFrame) → blocks_due ended (map (changed bits h) fed) ≡ map (changed bits h) (blocks_due ended fed)
changed_due bits h ended [] = refl
changed_due bits h ended (f ∷ fs) =
    let size = full_size f.channels in
    let samples = all_samples (f ∷ fs) in
    ap (λ (xs : List ℤ). map (block_at (changed bits h f) xs) (range_with_len 0 (count_due size ended (length xs)))) (changed_samples bits h (f ∷ fs))
    ∙ (ap (λ n. map (block_at (changed bits h f) (map h samples)) (range_with_len 0 (count_due size ended n))) (length-map samples h)
    ∙ changed_blocks bits h f samples 0 (count_due size ended (length samples)))
