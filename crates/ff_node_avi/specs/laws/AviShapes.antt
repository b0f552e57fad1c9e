-- The packets of each port of an AVI's demuxer are valid for its stream.
use Rattle.std.specs.Prelude.{◌≡◌, ◌≢◌, ℕ, zero, suc, ◌+◌, ◌*◌, ◌^◌, ◌≤◌, ◌<◌, ◌≤ℤ◌, ◌⊎◌, ◌==◌, ◌||◌, nat_lt, Bool, true, false, cond, pos, List, [], ◌∷◌, map, length, slice_get, All, Option, Some, None, IsSome, IfSome, refl}
use Rattle.std.proofs.Common.{sym, subst, ap, inl, inr, ◌∙◌, arith}
use Rattle.std.specs.List.{list_any}
use Rattle.std.proofs.lemmas.Int.{ints}
use Rattle.std.proofs.lemmas.Bool.Decides.{nat_tests}
use Rattle.std.proofs.lemmas.List.Elements.{All-nil}
use Rattle.ff_frame.specs.declared.packet.Pkt.{Pkt}
use Rattle.ff_frame.specs.declared.head.StreamHead.{StreamHead}
use Rattle.ff_frame.specs.declared.head.StreamHead.TheVariants.{Audio as AudioHead, Video as VideoHead}
use Rattle.ff_frame.specs.Codecs.{IsPcmCodec, sample_bytes}
use Rattle.ff_frame.specs.Heads.{base_of_head}
use Rattle.ff_frame.specs.Video.{frame_size, chroma_width, chroma_height}
use Rattle.ff_frame.specs.laws.PcmLaws.{packet_pcm}
use Rattle.ff_pcm.specs.body.Packets.{block_of}
use Rattle.ff_pcm.proofs.BodyLemmas.BodyLaws.{some_block}
use Rattle.ff_stream.specs.declared.item.Item.{Item}
use Rattle.ff_stream.specs.declared.item.Item.TheVariants.{Packet}
use Rattle.ff_stream.specs.declared.item.Lane.TheVariants.{Packets}
use Rattle.ff_stream.specs.Times.{start_of, end_of, ticks}
use Rattle.ff_stream.specs.Lanes.{FitsPackets, IsItemFor, InOrder, StartsAfter, Follows, AreInShape, EndsInTime, IsValid}
use Rattle.ff_stream.specs.Within.{before_pass}
use Rattle.ff_stream.specs.laws.LaneLaws.{shape_front}
use Rattle.ff_stream.specs.laws.WithinLaws.{before_pass-prefix}
use Rattle.ff_avi.specs.declared.head.AviHead.{AviHead}
use Rattle.ff_avi.specs.declared.lane.Lane.{Lane}
use Rattle.ff_avi.specs.declared.lane.Lanes.{Lanes}
use Rattle.ff_avi.specs.Lanes.{picture_size, size_of, lane_with, lanes_of}
use Rattle.ff_avi.specs.Sound.{IsHead, IsStream, AreApart, streams_with, streams_of}
use Rattle.ff_avi.specs.laws.Shaped.{IsPicture, IsSound, AreShaped}
use Rattle.ff_avi.proofs.ShapedLaws.{packets_are_shaped}
use Rattle.ff_avi.specs.Chains.{packets_in}
use Rattle.ff_input.specs.laws.Shapes.{all_first}
use Rattle.ff_node_demux.specs.Demuxing.{passes_in_demux, last_byte}
use Rattle.ff_node_avi.specs.declared.ports.AviPorts.{AviPorts}
use Rattle.ff_node_avi.specs.Reading.{body}
use Rattle.ff_node_avi.specs.Ported.{items_at, all_at}
use Rattle.ff_node_avi.specs.Demuxing.{AreUsed, ports_of, heads_of, port_of, placed, chain_of, all_units, passes_at, units_of_file, mark_of}
use Rattle.ff_node_avi.specs.laws.PortedLaws.{items_front}

-- ---- packets one behind another

-- a packet at this time or later, which lasts
record IsTimed (head : StreamHead) (from : ℕ) (x : Item) : Type 0 where
  packet : Pkt
  is : x ≡ Packet packet
  time : ℕ
  count : ℕ
  late : from ≤ time
  some : 1 ≤ count
  starts : packet.pts ≡ pos time
  lasts : packet.duration ≡ pos count
  fits : FitsPackets head (Packet packet)

AreTimed : StreamHead → ℕ → List Item → Type 0
AreTimed head from [] = Unit {0}
AreTimed head from (x ∷ xs) = (one : IsTimed head from x) × AreTimed head (one.time + one.count) xs

earlier : (head : StreamHead) (from since : ℕ) (x : Item) → from ≤ since → IsTimed head since x → IsTimed head from x
earlier head from since x le t =
    let late = t.late in
    record { packet = t.packet; is = t.is; time = t.time; count = t.count; late = omega (arith, le, late); some = t.some; starts = t.starts; lasts = t.lasts; fits = t.fits }

are_earlier : (head : StreamHead) (from since : ℕ) (xs : List Item) → from ≤ since → AreTimed head since xs → AreTimed head from xs
unfolding AreTimed earlier
are_earlier head from since [] le t = tt
are_earlier head from since (x ∷ xs) le t = (earlier head from since x le t.0, t.1)

timed_item : (head : StreamHead) (from : ℕ) (x : Item) → IsTimed head from x → IsItemFor (Packets head) x
timed_item head from x t = subst (λ (y : Item). IsItemFor (Packets head) y) (sym t.is) (record {
  fits = t.fits;
  not_negative = (let a = t.starts in omega (arith, ints, a));
  lasts = λ h. (let a = t.starts in let b = t.lasts in let c = t.some in omega (arith, ints, a, b, c));
})

timed_follows : (head : StreamHead) (from : ℕ) (x y : Item) (t : IsTimed head from x) → IsTimed head (t.time + t.count) y → Follows (Packets head) x y
timed_follows head from x y t u =
    let a = t.starts in
    let b = t.lasts in
    let c = t.some in
    let d = u.starts in
    let e = u.lasts in
    let f = u.some in
    let g = u.late in
    subst (λ (z : Item). Follows (Packets head) z y) (sym t.is) (subst (λ (z : Item). Follows (Packets head) (Packet t.packet) z) (sym u.is) (record {
      timed = tt;
      starts = λ h. omega (arith, ints, a, b, c, d, g);
      ends = λ h. omega (arith, ints, a, b, c, d, e, f, g);
      apart = λ h. apart_of head (omega (arith, ints, a, b, d, g));
    }))
  where
    apart_of : (k : StreamHead) → end_of (Packet t.packet) ≤ℤ start_of (Packet u.packet) → StartsAfter k (Packet t.packet) (Packet u.packet)
    apart_of (AudioHead tb rate bits channels codec) le = le
    apart_of (VideoHead tb format width height sar_num sar_den) le = tt

each_timed : (head : StreamHead) (from : ℕ) (xs : List Item) → AreTimed head from xs → All (IsItemFor (Packets head)) xs
unfolding AreTimed
each_timed head from [] t = All-nil (IsItemFor (Packets head))
each_timed head from (x ∷ xs) t = all_first (IsItemFor (Packets head)) x xs (timed_item head from x t.0) (each_timed head (t.0.time + t.0.count) xs t.1)

order_timed : (head : StreamHead) (from : ℕ) (xs : List Item) → AreTimed head from xs → InOrder (Packets head) xs
unfolding AreTimed
order_timed head from [] t = tt
order_timed head from (x ∷ []) t = tt
order_timed head from (x ∷ y ∷ xs) t = (timed_follows head from x y t.0 t.1.0, order_timed head (t.0.time + t.0.count) (y ∷ xs) t.1)

in_shape : (head : StreamHead) (from : ℕ) (xs : List Item) → AreTimed head from xs → AreInShape (Packets head) xs
in_shape head from xs t = record { each = each_timed head from xs t; in_order = order_timed head from xs t }

-- ---- the packets of one stream

-- a stream of pictures, or of sound, whose pictures or sample frames have this size
ArePicturesOf : ℕ → StreamHead → Type 0
ArePicturesOf size (AudioHead tb rate bits channels codec) = ⊥
ArePicturesOf size (VideoHead tb format width height sar_num sar_den) = size ≡ frame_size format width height

IsSoundOf : ℕ → StreamHead → Type 0
IsSoundOf size (AudioHead tb rate bits channels codec) = IsPcmCodec codec × (size ≡ channels * sample_bytes codec)
IsSoundOf size (VideoHead tb format width height sar_num sar_den) = ⊥

from_of : ℕ → ℕ → StreamHead → ℕ
from_of pictures samples (AudioHead tb rate bits channels codec) = samples
from_of pictures samples (VideoHead tb format width height sar_num sar_den) = pictures

-- what a port's stream has to do with the streams of the data
record IsPortOf (lanes : Lanes) (ports : AviPorts) (p : ℕ) (head : StreamHead) : Type 0 where
  pictures : port_of ports lanes.pictures.stream ≡ p → ArePicturesOf lanes.pictures.size head
  sound : port_of ports lanes.sound.stream ≡ p → IsSoundOf lanes.sound.size head

with_picture : (lane : Lane) (from samples stream : ℕ) (q : Pkt) (xs : List Item) (head : StreamHead) → ArePicturesOf lane.size head → (one : IsPicture lane from stream q)
    → AreTimed head (from_of (one.time + 1) samples head) xs → AreTimed head (from_of from samples head) (Packet q ∷ xs)
unfolding ArePicturesOf from_of AreTimed
with_picture lane from samples stream q xs (AudioHead tb rate bits channels codec) a one rest = absurd a
with_picture lane from samples stream q xs (VideoHead tb format width height sar_num sar_den) a one rest =
    let head = VideoHead tb format width height sar_num sar_den in (
      record {
        packet = q;
        is = refl;
        time = one.time;
        count = 1;
        late = one.late;
        some = omega arith;
        starts = ap (λ (r : Pkt). r.pts) one.times;
        lasts = ap (λ (r : Pkt). r.duration) one.times;
        fits = (ap (λ (r : Pkt). r.dts) one.times ∙ sym (ap (λ (r : Pkt). r.pts) one.times), one.samples ∙ a);
      },
      rest,
    )

with_sound : (lane : Lane) (from pictures stream : ℕ) (q : Pkt) (xs : List Item) (head : StreamHead) → IsSoundOf lane.size head → (one : IsSound lane from stream q)
    → AreTimed head (from_of pictures (one.time + one.count) head) xs → AreTimed head (from_of pictures from head) (Packet q ∷ xs)
unfolding IsSoundOf from_of AreTimed
with_sound lane from pictures stream q xs (VideoHead tb format width height sar_num sar_den) a one rest = absurd a
with_sound lane from pictures stream q xs (AudioHead tb rate bits channels codec) a one rest =
    let few = one.few in (
      record {
        packet = q;
        is = refl;
        time = one.time;
        count = one.count;
        late = one.late;
        some = one.some;
        starts = ap (λ (r : Pkt). r.pts) one.times;
        lasts = ap (λ (r : Pkt). r.duration) one.times;
        fits = (
          ap (λ (r : Pkt). r.dts) one.times ∙ sym (ap (λ (r : Pkt). r.pts) one.times),
          packet_pcm codec channels q a.0 (record {
            blocks = one.count;
            some_blocks = one.some;
            few_blocks = omega (arith, few);
            whole_blocks = one.samples ∙ ap (λ (n : ℕ). one.count * n) a.1;
            lasts = ap (λ (r : Pkt). r.duration) one.times;
          }),
        );
      },
      rest,
    )

from_later : (head : StreamHead) (pictures samples pictures' samples' : ℕ) → pictures ≤ pictures' → samples ≤ samples' → from_of pictures samples head ≤ from_of pictures' samples' head
unfolding from_of
from_later (AudioHead tb rate bits channels codec) pictures samples pictures' samples' a b = b
from_later (VideoHead tb format width height sar_num sar_den) pictures samples pictures' samples' a b = a

same_number : (a b : ℕ) → (a == b) ≡ true → a ≡ b
same_number a b e = grind (arith, nat_tests)

module _ (lanes : Lanes) (ports : AviPorts) (p : ℕ) (head : StreamHead) (k : IsPortOf lanes ports p head) where
  rest_of : List (ℕ × Pkt) → List Item
  rest_of xs = items_at p (map (placed ports) xs)

  with_some_picture : (pictures samples : ℕ) (x : ℕ × Pkt) (xs : List (ℕ × Pkt)) (one : IsPicture lanes.pictures pictures x.0 x.1) (b : Bool) → (port_of ports x.0 == p) ≡ b
      → AreTimed head (from_of (one.time + 1) samples head) (rest_of xs) → AreTimed head (from_of pictures samples head) (cond b (Packet x.1 ∷ rest_of xs) (rest_of xs))
  with_some_picture pictures samples x xs one true e rest =
      let at : port_of ports lanes.pictures.stream ≡ p = ap (λ (n : ℕ). port_of ports n) (sym one.of_stream) ∙ same_number (port_of ports x.0) p e in
      with_picture lanes.pictures pictures samples x.0 x.1 (rest_of xs) head (k.pictures at) one rest
  with_some_picture pictures samples x xs one false e rest =
      let late = one.late in
      are_earlier head (from_of pictures samples head) (from_of (one.time + 1) samples head) (rest_of xs)
      (from_later head pictures samples (one.time + 1) samples (omega (arith, late)) (omega arith)) rest

  with_some_sound : (pictures samples : ℕ) (x : ℕ × Pkt) (xs : List (ℕ × Pkt)) (one : IsSound lanes.sound samples x.0 x.1) (b : Bool) → (port_of ports x.0 == p) ≡ b
      → AreTimed head (from_of pictures (one.time + one.count) head) (rest_of xs) → AreTimed head (from_of pictures samples head) (cond b (Packet x.1 ∷ rest_of xs) (rest_of xs))
  with_some_sound pictures samples x xs one true e rest =
      let at : port_of ports lanes.sound.stream ≡ p = ap (λ (n : ℕ). port_of ports n) (sym one.of_stream) ∙ same_number (port_of ports x.0) p e in
      with_sound lanes.sound samples pictures x.0 x.1 (rest_of xs) head (k.sound at) one rest
  with_some_sound pictures samples x xs one false e rest =
      let late = one.late in
      are_earlier head (from_of pictures samples head) (from_of pictures (one.time + one.count) head) (rest_of xs)
      (from_later head pictures samples pictures (one.time + one.count) (omega arith) (omega (arith, late))) rest

  -- the units of a port are packets of its stream
  port_timed : (pictures samples : ℕ) (xs : List (ℕ × Pkt)) → AreShaped lanes pictures samples xs → AreTimed head (from_of pictures samples head) (rest_of xs)
  unfolding AreTimed rest_of
  port_timed pictures samples [] s = tt
  port_timed pictures samples (x ∷ xs) (inl s) =
      with_some_picture pictures samples x xs s.0 (port_of ports x.0 == p) refl (port_timed (s.0.time + 1) samples xs s.1)
  port_timed pictures samples (x ∷ xs) (inr s) =
      with_some_sound pictures samples x xs s.0 (port_of ports x.0 == p) refl (port_timed pictures (s.0.time + s.0.count) xs s.1)

-- ---- which stream a port has

some_side : (w h c : ℕ) → 1 ≤ w → 1 ≤ h → 0 < w * h + c
some_side zero h c a b = absurd (omega (arith, a))
some_side (suc w) zero c a b = absurd (omega (arith, b))
some_side (suc w) (suc h) c a b = omega arith

stream_few : (c : Bool) (x y : Lane) → x.stream ≤ 1 → y.stream ≤ 1 → (cond c x y).stream ≤ 1
stream_few true x y a b = a
stream_few false x y a b = b

lane_few : (a b : ℕ) (used : List ℕ) → (lane_with a b used).stream ≤ 1
lane_few a b used =
    stream_few (nat_lt 0 a) (record { stream = 0; size = a; is_used = list_any (λ k. k == 0) used }) (record { stream = 1; size = b; is_used = list_any (λ k. k == 1) used }) (omega arith) (omega arith)

-- where the first has a size, the lane is its
lane_first : (a b : ℕ) (used : List ℕ) → 0 < a → ((lane_with a b used).stream ≡ 0) × ((lane_with a b used).size ≡ a)
lane_first a b used lt = let t : nat_lt 0 a ≡ true = grind (arith, nat_tests) in rw t (refl, refl)

-- what a stream of this number has to do with the streams of the data
record IsNumbered (lanes : Lanes) (stream : ℕ) (head : StreamHead) : Type 0 where
  pictures : lanes.pictures.stream ≡ stream → ArePicturesOf lanes.pictures.size head
  sound : lanes.sound.stream ≡ stream → IsSoundOf lanes.sound.size head

some_same : {A : Type 0} (a b : A) → Some a ≡ Some b → a ≡ b
some_same a b e = cc

first_stream : (a : StreamHead) (o : Option StreamHead) → slice_get (streams_with a o) 0 ≡ Some a
first_stream a None = refl
first_stream a (Some b) = refl

module _ (used : List ℕ) where
  lanes_with : StreamHead → Option StreamHead → Lanes
  lanes_with first second = record { pictures = lane_with (picture_size first) (size_of picture_size second) used; sound = lane_with (block_of first) (size_of block_of second) used }

  numbered : (first : StreamHead) (second : Option StreamHead) → IsStream first → IfSome second IsStream → AreApart (Some first) second
      → (stream : ℕ) (h : StreamHead) → slice_get (streams_with first second) stream ≡ Some h → IsNumbered (lanes_with first second) stream h
  unfolding lanes_with ArePicturesOf IsSoundOf
  numbered (VideoHead tb format width height sar_num sar_den) second a b apart zero h e =
      let first = VideoHead tb format width height sar_num sar_den in
      let same : first ≡ h = some_same first h (sym (first_stream first second) ∙ e) in
      let l = lane_first (frame_size format width height) (size_of picture_size second) used (some_side width height (2 * (chroma_width format width * chroma_height format height)) a.columns.0 a.rows.0) in
      subst (λ (k : StreamHead). IsNumbered (lanes_with first second) 0 k) same (record { pictures = λ n. l.1; sound = λ n. cc })
  numbered (VideoHead tb format width height sar_num sar_den) None a b apart (suc n) h e = cc
  numbered (VideoHead tb format width height sar_num sar_den) (Some (VideoHead tb' format' width' height' sar_num' sar_den')) a b apart (suc n) h e = cc
  numbered (VideoHead tb format width height sar_num sar_den) (Some (AudioHead tb' rate bits channels codec)) a b apart (suc (suc n)) h e = cc
  numbered (VideoHead tb format width height sar_num sar_den) (Some (AudioHead tb' rate bits channels codec)) a b apart (suc zero) h e =
      let first = VideoHead tb format width height sar_num sar_den in
      let second = AudioHead tb' rate bits channels codec in
      let same : second ≡ h = cc in
      let l = lane_first (frame_size format width height) (size_of picture_size (Some second)) used (some_side width height (2 * (chroma_width format width * chroma_height format height)) a.columns.0 a.rows.0) in
      subst (λ (k : StreamHead). IsNumbered (lanes_with first (Some second)) 1 k) same (record { pictures = λ n. (let z = l.0 in cc); sound = λ n. (b.coded, refl) })
  numbered (AudioHead tb rate bits channels codec) second a b apart zero h e =
      let first = AudioHead tb rate bits channels codec in
      let same : first ≡ h = some_same first h (sym (first_stream first second) ∙ e) in
      let l = lane_first (channels * sample_bytes codec) (size_of block_of second) used (some_block first a) in
      subst (λ (k : StreamHead). IsNumbered (lanes_with first second) 0 k) same (record { pictures = λ n. cc; sound = λ n. (a.coded, l.1) })
  numbered (AudioHead tb rate bits channels codec) None a b apart (suc n) h e = cc
  numbered (AudioHead tb rate bits channels codec) (Some (AudioHead tb' rate' bits' channels' codec')) a b apart (suc n) h e = cc
  numbered (AudioHead tb rate bits channels codec) (Some (VideoHead tb' format width height sar_num sar_den)) a b apart (suc (suc n)) h e = cc
  numbered (AudioHead tb rate bits channels codec) (Some (VideoHead tb' format width height sar_num sar_den)) a b apart (suc zero) h e =
      let first = AudioHead tb rate bits channels codec in
      let second = VideoHead tb' format width height sar_num sar_den in
      let same : second ≡ h = cc in
      let l = lane_first (channels * sample_bytes codec) (size_of block_of (Some second)) used (some_block first a) in
      subst (λ (k : StreamHead). IsNumbered (lanes_with first (Some second)) 1 k) same (record { pictures = λ n. refl; sound = λ n. (let z = l.0 in cc) })

-- a stream at a port is that of the port
IsAtPort : AviHead → List ℕ → Type 0
IsAtPort head used = (p : ℕ) (h : StreamHead) (stream : ℕ) → slice_get (heads_of (ports_of head used)) p ≡ Some h → port_of (ports_of head used) stream ≡ p → stream ≤ 1
    → slice_get (streams_of head) stream ≡ Some h

port_number : (n stream : ℕ) → ◌≡◌ {A = ℕ} (cond (stream == n) 0 1) 0 → stream ≡ n
port_number n stream e = pick (stream == n) refl e
  where
    pick : (b : Bool) → (stream == n) ≡ b → ◌≡◌ {A = ℕ} (cond b 0 1) 0 → stream ≡ n
    pick true t e = grind (arith, nat_tests)
    pick false t e = cc

port_other : (n stream : ℕ) → ◌≡◌ {A = ℕ} (cond (stream == n) 0 1) 1 → stream ≢ n
port_other n stream e = λ same. (let t : (stream == n) ≡ true = grind (arith, nat_tests) in let z : ◌≡◌ {A = ℕ} (cond (stream == n) 0 1) 0 = ap (λ (b : Bool). cond b 0 1) t in cc (z, e))

one_of_two : (stream : ℕ) → stream ≤ 1 → stream ≢ 0 → stream ≡ 1
one_of_two zero le n = absurd (n refl)
one_of_two (suc zero) le n = refl
one_of_two (suc (suc stream)) le n = absurd (omega (arith, le))

first_alone : (head : AviHead) → IsAtPort head (0 ∷ [])
unfolding IsAtPort
first_alone head (suc p) h stream e port few = cc
first_alone head zero h stream e port few =
    subst (λ (k : ℕ). slice_get (streams_of head) k ≡ Some h) (sym (port_number 0 stream port)) (first_stream head.first head.second ∙ e)

second_alone : (first second : StreamHead) (start : ℕ) → IsAtPort (record { first = first; second = Some second; start = start }) (1 ∷ [])
unfolding IsAtPort
second_alone first second start (suc p) h stream e port few = cc
second_alone first second start zero h stream e port few =
    subst (λ (k : ℕ). slice_get (streams_with first (Some second)) k ≡ Some h) (sym (port_number 1 stream port)) e

both_streams : (first second : StreamHead) (start : ℕ) → IsAtPort (record { first = first; second = Some second; start = start }) (0 ∷ 1 ∷ [])
unfolding IsAtPort
both_streams first second start (suc (suc p)) h stream e port few = cc
both_streams first second start zero h stream e port few =
    subst (λ (k : ℕ). slice_get (streams_with first (Some second)) k ≡ Some h) (sym (port_number 0 stream port)) e
both_streams first second start (suc zero) h stream e port few =
    subst (λ (k : ℕ). slice_get (streams_with first (Some second)) k ≡ Some h) (sym (one_of_two stream few (port_other 0 stream port))) e

second_streams : (first : StreamHead) (second : Option StreamHead) (start : ℕ) → IsSome second → (used : List ℕ) → (used ≡ 1 ∷ []) ⊎ (used ≡ 0 ∷ 1 ∷ [])
    → IsAtPort (record { first = first; second = second; start = start }) used
second_streams first None start some used e = cc
second_streams first (Some second) start some used (inl e) = subst (λ (us : List ℕ). IsAtPort (record { first = first; second = Some second; start = start }) us) (sym e) (second_alone first second start)
second_streams first (Some second) start some used (inr e) = subst (λ (us : List ℕ). IsAtPort (record { first = first; second = Some second; start = start }) us) (sym e) (both_streams first second start)

at_port : (head : AviHead) (used : List ℕ) → AreUsed head used → IsAtPort head used
at_port head used (inl e) = subst (λ (us : List ℕ). IsAtPort head us) (sym e) (first_alone head)
at_port head used (inr e) = second_streams head.first head.second head.start e.0 used e.1

port_is : (head : AviHead) (used : List ℕ) → IsHead head → AreUsed head used → (p : ℕ) (h : StreamHead) → slice_get (heads_of (ports_of head used)) p ≡ Some h
    → IsPortOf (lanes_of head used) (ports_of head used) p h
unfolding IsAtPort lanes_with
port_is head used good are p h e =
    let lanes = lanes_of head used in
    let stream_of_port = at_port head used are p h in
    record {
      pictures = λ at. (numbered used head.first head.second good.first good.second good.apart lanes.pictures.stream h
          (stream_of_port lanes.pictures.stream e at (lane_few (picture_size head.first) (size_of picture_size head.second) used))).pictures refl;
      sound = λ at. (numbered used head.first head.second good.first good.second good.apart lanes.sound.stream h
          (stream_of_port lanes.sound.stream e at (lane_few (block_of head.first) (size_of block_of head.second) used))).sound refl;
    }

-- ---- the limits

tests : (a b c d e f : ℕ) → ((nat_lt a b || nat_lt c d) || nat_lt e f) ≡ false → (b ≤ a) × (d ≤ c)
tests a b c d e f h = (grind (arith, nat_tests), grind (arith, nat_tests))

one_test : (a b : ℕ) → nat_lt a b ≡ false → b ≤ a
one_test a b e = grind (arith, nat_tests)

-- a unit within the limits is one of the first 2^40
pub few_units : (ports : AviPorts) (n q : ℕ) (x : Pkt) → passes_at ports n (q, Packet x) ≡ false → n + 1 ≤ 2 ^ 40
few_units ports n q x e = pick (slice_get (heads_of ports) q) e
  where
    pick : (o : Option StreamHead) → elim o [ None ↦ nat_lt (2 ^ 40) (n + 1) | Some k ↦ passes_in_demux (Packets k) n (Packet x) ] ≡ false → n + 1 ≤ 2 ^ 40
    pick None e = one_test (2 ^ 40) (n + 1) e
    pick (Some k) e = (tests (2 ^ 40) (n + 1) (1000000000 * (base_of_head k).den) (ticks (end_of (Packet x)) * (base_of_head k).num) last_byte (x.pos + length x.bytes) e).0

module _ (ports : AviPorts) (p : ℕ) (h : StreamHead) (at : slice_get (heads_of ports) p ≡ Some h) where
  -- a packet of this port within the limits
  within : (n : ℕ) (q : ℕ) (x : Pkt) → q ≡ p → passes_at ports n (q, Packet x) ≡ false → (n + 1 ≤ 2 ^ 40) × EndsInTime (Packets h) (Packet x)
  within n q x e f =
      let here : slice_get (heads_of ports) q ≡ Some h = ap (λ (k : ℕ). slice_get (heads_of ports) k) e ∙ at in
      let t : passes_in_demux (Packets h) n (Packet x) ≡ false =
      sym (ap (λ (o : Option StreamHead). elim o [ None ↦ nat_lt (2 ^ 40) (n + 1) | Some k ↦ passes_in_demux (Packets k) n (Packet x) ]) here) ∙ f in
      tests (2 ^ 40) (n + 1) (1000000000 * (base_of_head h).den) (ticks (end_of (Packet x)) * (base_of_head h).num) last_byte (x.pos + length x.bytes) t

  left_at : ℕ → List (ℕ × Pkt) → List Item
  left_at k xs = items_at p (before_pass (passes_at ports) k (map (placed ports) xs))

  few_step : (n k : ℕ) (x : ℕ × Pkt) (xs : List (ℕ × Pkt)) → n ≤ k → n ≤ 2 ^ 40 → ((j : ℕ) → j ≤ k + 1 → j ≤ 2 ^ 40 → j + length (left_at (k + 1) xs) ≤ 2 ^ 40)
      → (b : Bool) → passes_at ports k (placed ports x) ≡ b → (c : Bool) → (port_of ports x.0 == p) ≡ c
      → n + length (items_at p (cond b [] (placed ports x ∷ before_pass (passes_at ports) (k + 1) (map (placed ports) xs)))) ≤ 2 ^ 40
  unfolding left_at
  few_step n k x xs le few rest true e c f = omega (arith, few)
  few_step n k x xs le few rest false e true f =
      let w = (within k (port_of ports x.0) x.1 (same_number (port_of ports x.0) p f) e).0 in
      let r = rest (n + 1) (omega (arith, le)) (omega (arith, le, w)) in
      rw f (omega (arith, r))
  few_step n k x xs le few rest false e false f = rw f (rest n (omega (arith, le)) few)

  few_at : (n k : ℕ) (xs : List (ℕ × Pkt)) → n ≤ k → n ≤ 2 ^ 40 → n + length (left_at k xs) ≤ 2 ^ 40
  unfolding left_at
  few_at n k [] le few = omega (arith, few)
  few_at n k (x ∷ xs) le few = few_step n k x xs le few (λ j a b. few_at j (k + 1) xs a b) (passes_at ports k (placed ports x)) refl (port_of ports x.0 == p) refl

  time_step : (k : ℕ) (x : ℕ × Pkt) (xs : List (ℕ × Pkt)) → All (EndsInTime (Packets h)) (left_at (k + 1) xs)
      → (b : Bool) → passes_at ports k (placed ports x) ≡ b → (c : Bool) → (port_of ports x.0 == p) ≡ c
      → All (EndsInTime (Packets h)) (items_at p (cond b [] (placed ports x ∷ before_pass (passes_at ports) (k + 1) (map (placed ports) xs))))
  unfolding left_at
  time_step k x xs rest true e c f = All-nil (EndsInTime (Packets h))
  time_step k x xs rest false e true f =
      rw f (all_first (EndsInTime (Packets h)) (Packet x.1) (left_at (k + 1) xs) (within k (port_of ports x.0) x.1 (same_number (port_of ports x.0) p f) e).1 rest)
  time_step k x xs rest false e false f = rw f rest

  in_time : (k : ℕ) (xs : List (ℕ × Pkt)) → All (EndsInTime (Packets h)) (left_at k xs)
  unfolding left_at
  in_time k [] = All-nil (EndsInTime (Packets h))
  in_time k (x ∷ xs) = time_step k x xs (in_time (k + 1) xs) (passes_at ports k (placed ports x)) refl (port_of ports x.0 == p) refl

pub port_valid : (head : AviHead) (used file : List ℕ) → IsHead head → AreUsed head used → (p : ℕ) (h : StreamHead) → slice_get (heads_of (ports_of head used)) p ≡ Some h
    → IsValid (Packets h) (all_at (units_of_file head used file) (mark_of head used file) p)
unfolding units_of_file rest_of left_at
port_valid head used file good are p h e =
    let ports = ports_of head used in
    let chain = packets_in (chain_of head used file) in
    let all = all_units head used file in
    let timed = port_timed (lanes_of head used) ports p h (port_is head used good are p h e) 0 0 chain (packets_are_shaped head used (body head file)) in
    let few = few_at ports p h e 0 0 chain (omega arith) (omega arith) in
    record {
      shape = shape_front (Packets h) (items_at p (before_pass (passes_at ports) 0 all)) (items_at p all) (items_front p (before_pass (passes_at ports) 0 all) all (before_pass-prefix (passes_at ports) 0 all))
          (in_shape h (from_of 0 0 h) (items_at p all) timed);
      few = omega (arith, few);
      in_time = in_time ports p h e 0 chain;
    }
