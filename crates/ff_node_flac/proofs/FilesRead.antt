-- The FLAC file of an audio stream, read again.
use Rattle.std.proofs.Common.{◌≡◌, ℕ, zero, suc, ◌+◌, ◌-◌, ◌*◌, ◌/◌, ◌%◌, ◌^◌, ◌≤◌, Bool, true, false, cond, List, [], ◌∷◌, ◌++◌, take, drop, length, map, Some, refl, sym, ap, ◌∙◌, subst, arith, length-append}
use Rattle.std.specs.Prelude.{ℤ, ◌==◌, ◌&&◌, ◌||◌, nat_le, nat_lt, replicate}
use Rattle.std.specs.List.{All, flat_map}
use Rattle.std.proofs.lemmas.Bool.Decides.{nat_tests}
use Rattle.std.proofs.lemmas.List.{length-drop, length-replicate, length-take, nil_from_length, take-append-drop}
use Rattle.std.proofs.lemmas.List.Elements.{All-cons, All-head, All-nil, All-tail}
use Rattle.md5.proofs.StandardFacts.{length-md5}
use Rattle.ff_time.specs.Fraction.{Fraction}
use Rattle.ff_bits.specs.Bits.{bits, bits_of, padding, value_of}
use Rattle.ff_bits.specs.Crc.{crc16_of}
use Rattle.ff_bits.proofs.BitsLemmas.{length-bits_of}
use Rattle.ff_bits.proofs.BitsOf.{bits_of-value_of}
use Rattle.ff_frame.specs.Heads.{IsFrameOf}
use Rattle.ff_frame.specs.declared.audio.AFrame.{AFrame}
use Rattle.ff_frame.specs.declared.head.Codec.{Codec}
use Rattle.ff_frame.specs.declared.head.StreamHead.TheVariants.{Audio as AudioHead, Video as VideoHead}
use Rattle.ff_frame.specs.declared.packet.Pkt.{Pkt}
use Rattle.ff_frame.specs.declared.totals.Totals.{Totals}
use Rattle.ff_stream.specs.declared.item.Item.{Item}
use Rattle.ff_stream.specs.declared.item.Item.TheVariants.{Audio, Video, Packet, Trailer, End, Broken}
use Rattle.ff_stream.specs.declared.item.Lane.TheVariants.{Frames}
use Rattle.ff_stream.specs.Lanes.{IsItemFor}
use Rattle.ff_stream.specs.Within.{some_pass}
use Rattle.ff_stream.specs.laws.WithinLaws.{within_same}
use Rattle.ff_stream.specs.Stream.{is_whole}
use Rattle.ff_pcm.proofs.DepthLaws.{shifted_audio}
use Rattle.ff_flac_subframe.specs.Subframe.{Spelling, candidates as spellings}
use Rattle.ff_flac_subframe.specs.rice.Least.{least}
use Rattle.ff_flac_subframe.proofs.RiceLemmas.LeastLemmas.{least-nil, least_exists}
use Rattle.ff_flac_subframe.specs.laws.Plan.{size}
use Rattle.ff_flac_enc.specs.Frame.{IsLeast, candidates, head_of, spelled, subframe_bits_of}
use Rattle.ff_flac_enc.specs.Head.{closed, opened}
use Rattle.ff_flac_enc.specs.Channels.{channels_in}
use Rattle.ff_flac_enc.specs.Gathered.{blocks_due}
use Rattle.ff_flac_enc.specs.Layout.{Layout, Signal, body, forms, layouts, layouts_with, products, signals}
use Rattle.ff_flac_enc.specs.Totals.{totals_of}
use Rattle.ff_flac_enc.proofs.Apart.{best_is}
use Rattle.ff_mux.specs.FlacHead.{CanHold}
use Rattle.ff_mux.specs.laws.writers.FlacWritten.{AreFramesOf, HoldBlocks}
use Rattle.ff_mux.proofs.FlacFiles.{files}
use Rattle.ff_node_flac.specs.Packets.{added_from, at_coded, block_bytes, coded_bits, octets, packet_of, packets_from, spelled_bytes, trailer_of, whole_bytes}
use Rattle.ff_node_flac.specs.Coding.{all_coded, blocks_in, coded_head, passes_in_flac, sounds}
use Rattle.ff_node_flac.specs.laws.FilesRead.{numbered, StreamsAreRead}

-- ---- each block has a frame

-- there is a first one
abbrev HasFirst : {A : Type 0} → List A → Type 0
HasFirst {A} xs = (x : A) × (rest : List A) × (xs ≡ x ∷ rest)

first_is : {A : Type 0} (x : A) (xs : List A) → HasFirst (x ∷ xs)
first_is x xs = (x, xs, refl)

first-append : {A : Type 0} (xs ys : List A) → HasFirst xs → HasFirst (xs ++ ys)
first-append xs ys h = (h.0, h.1 ++ ys, ap (λ zs. zs ++ ys) h.2)

first-map : {A B : Type 0} (f : A → B) (xs : List A) → HasFirst xs → HasFirst (map f xs)
first-map f xs h = (f h.0, map f h.1, ap (map f) h.2)

first-flat_map : {A B : Type 0} (f : A → List B) (xs : List A) → HasFirst xs → ((x : A) → HasFirst (f x)) → HasFirst (flat_map f xs)
first-flat_map {A} {B} f xs h each =
    subst (λ (zs : List A). HasFirst (flat_map f zs)) (sym h.2) (first-append (f h.0) (flat_map f h.1) (each h.0))

some_spelling : (x : Signal) → HasFirst (spellings x.samples)
some_spelling x = by (spellings x.samples) refl
  where
    by : (ss : List Spelling) → spellings x.samples ≡ ss → HasFirst ss
    by [] e = let clash = sym (best_is x.depth x.samples) ∙ (ap (least (size x.depth x.samples)) e ∙ least-nil (size x.depth x.samples)) in cc
    by (s ∷ ss) e = first_is s ss

some_product : (xs : List Signal) → HasFirst (products xs)
unfolding products
some_product [] = first_is [] []
some_product (x ∷ xs) = first-flat_map (λ s. map (λ rest. s ∷ rest) (products xs)) (spellings x.samples) (some_spelling x)
    (λ s. first-map (λ rest. s ∷ rest) (products xs) (some_product xs))

some_form : (channels : ℕ) → HasFirst (forms channels)
unfolding forms
some_form channels = by (channels == 2)
  where
    by : (b : Bool) → HasFirst (cond b (1 ∷ 8 ∷ 9 ∷ 10 ∷ []) ((channels - 1) ∷ []))
    by true = first_is 1 (8 ∷ 9 ∷ 10 ∷ [])
    by false = first_is (channels - 1) []

some_layout : (bits : ℕ) (channels : List (List ℤ)) → HasFirst (layouts bits channels)
unfolding layouts layouts_with
some_layout bits channels = first-flat_map (layouts_with bits channels) (forms (length channels)) (some_form (length channels))
    (λ form. first-map (λ ss. record { form = form; spellings = ss }) (products (signals bits channels form)) (some_product (signals bits channels form)))

some_least : (a : AFrame) → (y : Layout) × (least (subframe_bits_of a) (candidates a) ≡ Some y)
unfolding candidates
some_least a =
    let h = some_layout a.bits (channels_in a.channels a.samples) in
    let e = least_exists (subframe_bits_of a) h.0 h.1 in
    (e.0, ap (least (subframe_bits_of a)) h.2 ∙ e.1)

bits_of_octets : (n : ℕ) (xs : List Bool) → length xs ≡ 8 * n → bits (octets n xs) ≡ xs
unfolding octets bits
bits_of_octets zero xs h = sym (nil_from_length xs (omega arith))
bits_of_octets (suc n) xs h =
    let first : bits_of 8 (value_of (take 8 xs)) ≡ take 8 xs = bits_of-value_of 8 (take 8 xs) (omega (arith, length-take 8 xs)) in
    let rest : bits (octets n (drop 8 xs)) ≡ drop 8 xs = bits_of_octets n (drop 8 xs) (omega (arith, length-drop 8 xs)) in
    ap (λ (m : List Bool). m ++ bits (octets n (drop 8 xs))) first ∙ (ap (λ (m : List Bool). take 8 xs ++ m) rest ∙ take-append-drop 8 xs)

bits_back : (xs : List Bool) → length xs % 8 ≡ 0 → bits (whole_bytes xs) ≡ xs
bits_back xs even = bits_of_octets (length xs / 8) xs (omega (arith, even))

-- what closes a frame fills its last byte
closed_whole : (xs : List Bool) → length (closed xs) % 8 ≡ 0
closed_whole xs =
    let pad : List Bool = replicate (padding (length xs)) false in
    omega (arith, length-append (xs ++ pad) (bits_of 16 (crc16_of (xs ++ pad))), length-append xs pad, length-replicate (padding (length xs)) false, length-bits_of 16 (crc16_of (xs ++ pad)))

spelled_whole : (a : AFrame) (number : ℕ) (y : Layout) → length (spelled a number y) % 8 ≡ 0
unfolding spelled
spelled_whole a number y = closed_whole (opened (head_of a number) y.form ++ body a.bits (channels_in a.channels a.samples) y)

-- the bytes of a block are its frame
is_least : (a : AFrame) (number : ℕ) → IsLeast a number (block_bytes a number)
unfolding block_bytes
is_least a number =
    let h = some_least a in
    (h.0, h.1, ap (λ o. bits (spelled_bytes a number o)) h.1 ∙ bits_back (spelled a number h.0) (spelled_whole a number h.0))

-- ---- the packets of a stream

packets_of : ℕ → List AFrame → List Pkt
packets_of number [] = []
packets_of number (b ∷ bs) = packet_of b number ∷ packets_of (number + 1) bs

items_are : (number : ℕ) (blocks : List AFrame) → packets_from number blocks ≡ map Packet (packets_of number blocks)
unfolding packets_of
items_are number [] = refl
items_are number (b ∷ bs) = ap (λ (xs : List Item). Packet (packet_of b number) ∷ xs) (items_are (number + 1) bs)

hold_blocks : (number : ℕ) (blocks : List AFrame) → HoldBlocks number blocks (numbered (packets_of number blocks))
unfolding packets_of
hold_blocks number [] = tt
hold_blocks number (b ∷ bs) = (is_least b number, hold_blocks (number + 1) bs)

few_test : (n size : ℕ) → (nat_lt (2 ^ 31) (n + 1) || nat_le (2 ^ 24) size) ≡ false → n + 1 ≤ 2 ^ 31
few_test n size e = grind (arith, nat_tests)

few_packets : (number : ℕ) (blocks : List AFrame) (tail : List Item) → some_pass passes_in_flac number (packets_from number blocks ++ tail) ≡ false → number ≤ 2 ^ 31
    → number + length (packets_of number blocks) ≤ 2 ^ 31
unfolding packets_of
few_packets number [] tail none le = omega (arith, le)
few_packets number (b ∷ bs) tail none le = pick (passes_in_flac number (Packet (packet_of b number))) refl none (few_packets (number + 1) bs tail)
  where
    rest : Bool
    rest = some_pass passes_in_flac (number + 1) (packets_from (number + 1) bs ++ tail)

    pick : (t : Bool) → passes_in_flac number (Packet (packet_of b number)) ≡ t → cond t true rest ≡ false
        → (rest ≡ false → number + 1 ≤ 2 ^ 31 → (number + 1) + length (packets_of (number + 1) bs) ≤ 2 ^ 31)
        → number + suc (length (packets_of (number + 1) bs)) ≤ 2 ^ 31
    pick true e none more = cc
    pick false e none more = let l = more none (few_test number (length (block_bytes b number)) e) in omega (arith, l)

-- packets and then totals are these packets and these totals
same_items : (ps qs : List Pkt) (t u : Totals) → map Packet ps ++ Trailer t ∷ [] ≡ map Packet qs ++ Trailer u ∷ [] → (ps ≡ qs) × (t ≡ u)
same_items [] [] t u e = (refl, cc)
same_items [] (q ∷ qs) t u e = absurd cc
same_items (p ∷ ps) [] t u e = absurd cc
same_items (p ∷ ps) (q ∷ qs) t u e =
    let tail : map Packet ps ++ Trailer t ∷ [] ≡ map Packet qs ++ Trailer u ∷ [] = cc in
    let r = same_items ps qs t u tail in
    let first : p ≡ q = cc in
    let others : ps ≡ qs = r.0 in
    (cc, r.1)

-- ---- the frames at the depth that is coded

coded_range : (bits : ℕ) → (4 ≤ coded_bits bits) × (coded_bits bits ≤ 24)
coded_range bits = pick (nat_le 4 bits && nat_le bits 24) refl
  where
    pick : (t : Bool) → (nat_le 4 bits && nat_le bits 24) ≡ t → (4 ≤ cond t bits 24) × (cond t bits 24 ≤ 24)
    pick true e = (grind (arith, nat_tests), grind (arith, nat_tests))
    pick false e = (omega arith, omega arith)

module _ (tb : Fraction) (rate depth channels : ℕ) (codec : Codec) where
  one_coded : (f : AFrame) → IsFrameOf rate depth channels f → IsFrameOf rate (coded_bits depth) channels (at_coded f)
  one_coded f h =
      let r = coded_range f.bits in
      record {
        rate_is = h.rate_is;
        bits_are = ap coded_bits h.bits_are;
        channels_are = h.channels_are;
        audio = shifted_audio f.bits (coded_bits f.bits) f.channels f.samples h.audio r.0 (let few = r.1 in omega (arith, few));
      }

  all_frames : (xs : List Item) → All (IsItemFor (Frames (AudioHead tb rate depth channels codec))) xs → All (IsFrameOf rate (coded_bits depth) channels) (sounds xs)
  all_frames [] each = All-nil (IsFrameOf rate (coded_bits depth) channels)
  all_frames (x ∷ xs) each =
      let P : Item → Type 0 = IsItemFor (Frames (AudioHead tb rate depth channels codec)) in
      of x (All-head P x xs each) (all_frames xs (All-tail P x xs each))
    where
      of : (y : Item) → IsItemFor (Frames (AudioHead tb rate depth channels codec)) y → All (IsFrameOf rate (coded_bits depth) channels) (sounds xs)
          → All (IsFrameOf rate (coded_bits depth) channels) (sounds (y ∷ xs))
      of (Audio f) i r = All-cons (IsFrameOf rate (coded_bits depth) channels) (at_coded f) (sounds xs) (one_coded f i.fits) r
      of (Video f) i r = absurd i.fits
      of (Packet p) i r = absurd i.fits
      of (Trailer t) i r = absurd i.fits
      of End i r = absurd i.fits
      of Broken i r = absurd i.fits

count_numbered : (ps : List Pkt) → length (numbered ps) ≡ length ps
count_numbered [] = refl
count_numbered (p ∷ ps) = ap suc (count_numbered ps)

-- totals have a digest of 16 bytes
sixteen : (all : List _) → length (totals_of all).md5 ≡ 16
unfolding totals_of
sixteen all = length-md5 _

pub streams : StreamsAreRead
streams (VideoHead tb format width height sar_num sar_den) s packets totals file can some is valid ends long e finish = absurd can
streams (AudioHead tb rate depth channels codec) s packets totals file can some is valid ends long e finish =
    let blocks = blocks_in s in
    let r = coded_range depth in
    let room : CanHold (coded_head (AudioHead tb rate depth channels codec)) =
    (tt, record { small_rate = let small = can.1 in omega (arith, small); some_bits = r.0; few_bits = r.1; some_channels = is.0; few_channels = is.1 }) in
    let all_items : (all_coded s).items ≡ map Packet (packets_of 0 blocks) ++ Trailer (totals_of (added_from 0 blocks)) ∷ [] =
    ap (λ (m : _). packets_from 0 blocks ++ trailer_of (is_whole m) blocks) ends ∙ ap (λ (xs : List Item). xs ++ Trailer (totals_of (added_from 0 blocks)) ∷ []) (items_are 0 blocks) in
    let same = same_items packets (packets_of 0 blocks) totals (totals_of (added_from 0 blocks))
    (sym e ∙ (ap (λ (x : _). x.items) (within_same passes_in_flac (all_coded s) long) ∙ all_items)) in
    let frames : AreFramesOf (coded_head (AudioHead tb rate depth channels codec)) (sounds s.items) = all_frames tb rate depth channels codec s.items valid.shape.each in
    let due : blocks ≡ blocks_due true (sounds s.items) = ap (λ (m : _). blocks_due (is_whole m) (sounds s.items)) ends in
    let hold : HoldBlocks 0 (blocks_due true (sounds s.items)) (numbered packets) =
    subst (λ (ps : List Pkt). HoldBlocks 0 (blocks_due true (sounds s.items)) (numbered ps)) (sym same.0)
    (subst (λ (bs : List AFrame). HoldBlocks 0 bs (numbered (packets_of 0 blocks))) due (hold_blocks 0 blocks)) in
    let few : 0 + length (packets_of 0 blocks) ≤ 2 ^ 31 = few_packets 0 blocks (trailer_of (is_whole s.mark) blocks) long (omega arith) in
    let count : length (numbered packets) ≤ 2 ^ 31 = omega (arith, count_numbered packets, ap length same.0, few) in
    files (coded_head (AudioHead tb rate depth channels codec)) (Some totals) (sounds s.items) (numbered packets) file room some
    (ap (λ (t : Totals). length t.md5) same.1 ∙ sixteen (added_from 0 blocks)) frames hold count finish
