-- What FLAC makes of what a lane carries.
use Rattle.std.specs.Prelude.{◌≡◌, ◌↔◌, ℕ, zero, suc, ◌-◌, ◌*◌, ◌/◌, ◌^◌, ◌≤◌, ◌&&◌, Bool, true, false, ℤ, pos, negsuc, ◌+ℤ◌, List, [], ◌∷◌, drop, length, Option, Some, None, IfSome, refl}
use Rattle.std.proofs.Common.{sym, ap, ◌∙◌, subst, arith, append-nil, ltb-true, lt-ltb, eqb-true, eq-eqb, length-drop}
use Rattle.std.proofs.lemmas.Bool.{and_parts, and_from}
use Rattle.std.proofs.lemmas.List.{drop_all}
use Rattle.ff_bits.specs.Bits.{bits}
use Rattle.ff_bits.specs.Reading.{Answer, Done, More, Bad}
use Rattle.ff_bits.proofs.BitsLemmas.{length-bits}
use Rattle.ff_frame.specs.Audio.{FitsBits}
use Rattle.ff_frame.specs.Heads.{IsFrameOf}
use Rattle.ff_frame.specs.declared.audio.AFrame.{AFrame}
use Rattle.ff_frame.specs.declared.packet.Pkt.{Pkt}
use Rattle.ff_frame.specs.declared.head.StreamHead.{StreamHead}
use Rattle.ff_frame.specs.declared.head.StreamHead.TheVariants.{Audio as AudioHead, Video as VideoHead}
use Rattle.ff_stream.specs.declared.item.Item.TheVariants.{Audio, Packet}
use Rattle.ff_stream.specs.declared.item.Lane.TheVariants.{Frames}
use Rattle.ff_stream.specs.Lanes.{FitsFrames, FitsPackets}
use Rattle.ff_flac_frame.specs.declared.stream.FlacStream.{FlacStream}
use Rattle.ff_flac_frame.specs.declared.frame.FlacFrame.{FlacFrame}
use Rattle.ff_flac_frame.specs.Codes.{depths}
use Rattle.ff_flac_frame.specs.Frame.{Part, Frame, IsStream, frame, Begins, IsNever}
use Rattle.ff_flac_frame.specs.laws.Parts.{frame_of}
use Rattle.ff_flac_frame.proofs.FrameSound.{IsSound-frame}
use Rattle.ff_flac_dec.specs.Channels.{AllCoded, AllChannels, IsWithinDepths, channels_of, decoded}
use Rattle.ff_flac_dec.specs.Streams.{stream_of}
use Rattle.ff_flac_frame.specs.Prediction.{AllInDepth}
use Rattle.ff_flac_dec.specs.Values.{coded_samples}
use Rattle.ff_flac_dec.proofs.FrameLemmas.{is_audio}
use Rattle.ff_node_codec.specs.laws.codecs.Made.{IsMadeOf, IsDecoded}
use Rattle.ff_node_codec.specs.codecs.Decoding.{is_in_depth, all_in_depth, all_coded, all_channels, within_depths, IsFlacPacket, lasts, sound_if, frame_read, flac_frame}

-- ---- the tests of depth

depth_one : (depth : ℕ) (x : ℤ) → is_in_depth depth x ≡ true → FitsBits depth x
depth_one depth (pos n) e = ltb-true n (2 ^ (depth - 1)) e
depth_one depth (negsuc n) e = ltb-true n (2 ^ (depth - 1)) e

one_depth : (depth : ℕ) (x : ℤ) → FitsBits depth x → is_in_depth depth x ≡ true
one_depth depth (pos n) h = lt-ltb n (2 ^ (depth - 1)) h
one_depth depth (negsuc n) h = lt-ltb n (2 ^ (depth - 1)) h

depth_all : (depth : ℕ) (xs : List ℤ) → all_in_depth depth xs ≡ true → AllInDepth depth xs
depth_all depth [] e k lt = absurd (omega arith)
depth_all depth (x ∷ xs) e zero lt = depth_one depth x (and_parts (is_in_depth depth x) (all_in_depth depth xs) e).0
depth_all depth (x ∷ xs) e (suc k) lt = depth_all depth xs (and_parts (is_in_depth depth x) (all_in_depth depth xs) e).1 k (omega arith)

all_depth : (depth : ℕ) (xs : List ℤ) → AllInDepth depth xs → all_in_depth depth xs ≡ true
all_depth depth [] h = refl
all_depth depth (x ∷ xs) h =
    and_from (is_in_depth depth x) (all_in_depth depth xs)
    (one_depth depth x (h zero (omega arith)))
    (all_depth depth xs (λ k lt. h (suc k) (omega (arith, lt))))

coded_all : (block : ℕ) (ds : List ℕ) (parts : List Part) → all_coded block ds parts ≡ true → AllCoded block ds parts
coded_all block [] parts e = tt
coded_all block (d ∷ ds) [] e = tt
coded_all block (d ∷ ds) (p ∷ parts) e =
    let both = and_parts (all_in_depth (d - p.wasted) (coded_samples block p)) (all_coded block ds parts) e in
    (depth_all (d - p.wasted) (coded_samples block p) both.0, coded_all block ds parts both.1)

all_coded_of : (block : ℕ) (ds : List ℕ) (parts : List Part) → AllCoded block ds parts → all_coded block ds parts ≡ true
all_coded_of block [] parts h = refl
all_coded_of block (d ∷ ds) [] h = refl
all_coded_of block (d ∷ ds) (p ∷ parts) h =
    and_from (all_in_depth (d - p.wasted) (coded_samples block p)) (all_coded block ds parts)
    (all_depth (d - p.wasted) (coded_samples block p) h.0)
    (all_coded_of block ds parts h.1)

channels_all : (depth : ℕ) (channels : List (List ℤ)) → all_channels depth channels ≡ true → AllChannels depth channels
channels_all depth [] e = tt
channels_all depth (xs ∷ channels) e =
    let both = and_parts (all_in_depth depth xs) (all_channels depth channels) e in
    (depth_all depth xs both.0, channels_all depth channels both.1)

all_channels_of : (depth : ℕ) (channels : List (List ℤ)) → AllChannels depth channels → all_channels depth channels ≡ true
all_channels_of depth [] h = refl
all_channels_of depth (xs ∷ channels) h =
    and_from (all_in_depth depth xs) (all_channels depth channels) (all_depth depth xs h.0) (all_channels_of depth channels h.1)

-- the test is the condition
pub within_depths-is : (s : FlacStream) (f : Frame) → (within_depths s f ≡ true) ↔ IsWithinDepths s f
unfolding within_depths
within_depths-is s f =
    let coded = all_coded f.header.block (depths f.header.form s.channels s.bits) f.parts in
    let within = all_channels s.bits (channels_of f) in (
      λ e. let both = and_parts coded within e in
          record {
            coded = coded_all f.header.block (depths f.header.form s.channels s.bits) f.parts both.0;
            stream = channels_all s.bits (channels_of f) both.1;
          },
      λ h. and_from coded within
          (all_coded_of f.header.block (depths f.header.form s.channels s.bits) f.parts h.coded)
          (all_channels_of s.bits (channels_of f) h.stream),
    )

-- the packet lasts as many ticks as the sound has sample frames
abbrev pub LastsAs : Pkt → AFrame → Type 0
LastsAs p a = p.duration ≡ pos (length a.samples / a.channels)

lasts_so : (z : ℤ) (a : AFrame) → lasts z a ≡ true → z ≡ pos (length a.samples / a.channels)
lasts_so (pos n) a e = ap pos (eqb-true n (length a.samples / a.channels) e)
lasts_so (negsuc n) a e = absurd cc

so_lasts : (z : ℤ) (a : AFrame) → z ≡ pos (length a.samples / a.channels) → lasts z a ≡ true
so_lasts z a e = ap (λ (y : ℤ). lasts y a) e ∙ eq-eqb (length a.samples / a.channels) (length a.samples / a.channels) refl

-- ---- the packets that have a frame

-- the bytes are one frame of the grammar and nothing more, with as many sample frames as the packet lasts ticks, and each sample
-- is within its subframe's depth and the stream's
pub record HoldsSound (head : StreamHead) (packet : Pkt) (sound : AFrame) : Type 0 where
  pub whole : Frame
  pub read : IsFlacPacket head packet whole
  pub within : IsWithinDepths (stream_of head) whole
  pub is : sound ≡ decoded (stream_of head) packet.pts whole
  pub long : LastsAs packet sound

some_same : (a b : AFrame) → Some (Audio a) ≡ Some (Audio b) → a ≡ b
some_same a b e = cc

module _ (head : StreamHead) (p : Pkt) where
  abbrev s : FlacStream
  s = stream_of head

  abbrev sound : Frame → AFrame
  sound f = decoded s p.pts f

  abbrev is_sound : Frame → Bool
  is_sound f = lasts p.duration (sound f) && within_depths s f

  -- of a frame that is all of the packet
  pub held : (f : Frame) → IsFlacPacket head p f → flac_frame head p ≡ sound_if (is_sound f) (sound f)
  unfolding flac_frame
  held f e = ap (frame_read s p) e

  pub held_sound : (f : Frame) → IsFlacPacket head p f → IsWithinDepths s f → LastsAs p (sound f) → flac_frame head p ≡ Some (Audio (sound f))
  held_sound f e w l =
      held f e ∙ ap (λ b. sound_if b (sound f))
      (and_from (lasts p.duration (sound f)) (within_depths s f) (so_lasts p.duration (sound f) l) ((within_depths-is s f).1 w))

  pub held_other : (f : Frame) → IsFlacPacket head p f → (LastsAs p (sound f) → IsWithinDepths s f → ⊥) → flac_frame head p ≡ None
  held_other f e away = held f e ∙ ap (λ b. sound_if b (sound f)) (fails (lasts p.duration (sound f)) (within_depths s f) refl refl)
    where
      fails : (l w : Bool) → lasts p.duration (sound f) ≡ l → within_depths s f ≡ w → (l && w) ≡ false
      fails true true a b = absurd (away (lasts_so p.duration (sound f) a) ((within_depths-is s f).0 b))
      fails true false a b = refl
      fails false w a b = refl

  -- bytes behind a frame
  pub held_more : (f : Frame) (len : ℕ) → Begins s p.bytes f len → (len ≡ length p.bytes → ⊥) → flac_frame head p ≡ None
  unfolding flac_frame
  held_more f len b more = ap (frame_read s p) b.1 ∙ behind (bits (drop len p.bytes)) (length-bits (drop len p.bytes))
    where
      behind : (rest : List Bool) → length rest ≡ 8 * length (drop len p.bytes) → frame_read s p (Done f rest) ≡ None
      behind [] e = absurd (let all : length p.bytes ≤ len = omega (arith, e, length-drop len p.bytes) in more (omega (arith, all, b.0)))
      behind (x ∷ rest) e = refl

  pub begins_whole : (f : Frame) → IsFlacPacket head p f → Begins s p.bytes f (length p.bytes)
  unfolding bits
  begins_whole f e = (omega arith, e ∙ ap (λ (xs : List ℕ). Done f (bits xs)) (sym (drop_all (length p.bytes) p.bytes (omega arith))))

  pub whole_begins : (f : Frame) (len : ℕ) → Begins s p.bytes f len → len ≡ length p.bytes → IsFlacPacket head p f
  unfolding bits
  whole_begins f len b e = b.1 ∙ ap (λ (xs : List ℕ). Done f (bits xs)) (drop_all len p.bytes (omega (arith, e)))

  -- no frame
  pub none_begins : ((f : Frame) (len : ℕ) → Begins s p.bytes f len → ⊥) → flac_frame head p ≡ None
  unfolding flac_frame
  none_begins away = by_answer (frame s (bits p.bytes)) refl
    where
      by_answer : (a : Answer Frame) → frame s (bits p.bytes) ≡ a → frame_read s p a ≡ None
      by_answer (Done f []) e = absurd (away f (length p.bytes) (begins_whole f e))
      by_answer (Done f (b ∷ rest)) e = refl
      by_answer More e = refl
      by_answer Bad e = refl

  pub none_ever : IsNever s p.bytes → flac_frame head p ≡ None
  none_ever never = none_begins (λ f len b. never [] f len (subst (λ (xs : List ℕ). Begins s xs f len) (sym (append-nil p.bytes)) b))

  -- the packets that have a frame
  pub sounds_are : (a : AFrame) → flac_frame head p ≡ Some (Audio a) ↔ HoldsSound head p a
  unfolding flac_frame
  sounds_are a = (
    λ e. by_answer (frame s (bits p.bytes)) refl e,
    λ h. subst (λ (x : AFrame). flac_frame head p ≡ Some (Audio x)) (sym h.is)
        (held_sound h.whole h.read h.within (subst (LastsAs p) h.is h.long)),
  )
    where
      tested : (f : Frame) (l w : Bool) → frame s (bits p.bytes) ≡ Done f [] → lasts p.duration (sound f) ≡ l → within_depths s f ≡ w
          → sound_if (l && w) (sound f) ≡ Some (Audio a) → HoldsSound head p a
      tested f true true r l w e =
          let same : a ≡ sound f = sym (some_same (sound f) a e) in
          record {
            whole = f;
            read = r;
            within = (within_depths-is s f).0 w;
            is = same;
            long = subst (LastsAs p) (sym same) (lasts_so p.duration (sound f) l);
          }
      tested f true false r l w e = absurd cc
      tested f false w r l x e = absurd cc

      by_answer : (answer : Answer Frame) → frame s (bits p.bytes) ≡ answer → frame_read s p answer ≡ Some (Audio a) → HoldsSound head p a
      by_answer (Done f []) r e = tested f (lasts p.duration (sound f)) (within_depths s f) r refl refl e
      by_answer (Done f (b ∷ rest)) r e = absurd cc
      by_answer More r e = absurd cc
      by_answer Bad r e = absurd cc

-- what the search for a packet's frame finds
abbrev pub IsFoundIn : StreamHead → Pkt → Option FlacFrame → Type 0
IsFoundIn head p (Some f) = (number : ℕ) × IsFlacPacket head p (frame_of number f)
IsFoundIn head p None = flac_frame head p ≡ None

-- the coded number is no matter
pub decoded_again : (s : FlacStream) (pts : ℤ) (number : ℕ) (f : FlacFrame) → decoded s pts (frame_of 0 f) ≡ decoded s pts (frame_of number f)
unfolding decoded channels_of
decoded_again s pts number f = refl

pub within_again : (s : FlacStream) (n m : ℕ) (f : FlacFrame) → IsWithinDepths s (frame_of n f) → IsWithinDepths s (frame_of m f)
unfolding channels_of
within_again s n m f w = record { coded = w.coded; stream = w.stream }

-- ---- as a lane carries them

-- a frame of sound with the stream's rate, bits and channels fits the lane
fits_frames : (head : StreamHead) (a : AFrame) → IsStream (stream_of head)
    → IsFrameOf (stream_of head).rate (stream_of head).bits (stream_of head).channels a → FitsFrames head (Audio a)
fits_frames (AudioHead tb rate bits_of channels codec) a i h = h
fits_frames (VideoHead tb format width height sar_num sar_den) a i h = absurd (let low : 4 ≤ 0 = i.depth_low in omega (arith, low))

module _ (head : StreamHead) (p : Pkt) (i : IsStream (stream_of head)) where
  abbrev stream : FlacStream
  stream = stream_of head

  abbrev own_sound : Frame → AFrame
  own_sound f = decoded stream p.pts f

  sound_made : (f : Frame) → IsFlacPacket head p f → IsWithinDepths stream f → LastsAs p (own_sound f)
      → IsMadeOf (Frames head) (Packet p) (Audio (own_sound f))
  unfolding decoded
  sound_made f e w long =
      let shape = (IsSound-frame stream i).gives (bits p.bytes) f [] e in
      record {
        fits = fits_frames head (own_sound f) i
            (record { rate_is = refl; bits_are = refl; channels_are = refl; audio = is_audio stream f i shape w });
        timed = tt;
        starts = refl;
        ends = ap (λ (z : ℤ). p.pts +ℤ z) (sym long);
      }

  tested_made : (f : Frame) (l w : Bool) → IsFlacPacket head p f → lasts p.duration (own_sound f) ≡ l → within_depths stream f ≡ w
      → IfSome (sound_if (l && w) (own_sound f)) (IsMadeOf (Frames head) (Packet p))
  tested_made f true true e l w = sound_made f e ((within_depths-is stream f).0 w) (lasts_so p.duration (own_sound f) l)
  tested_made f true false e l w = tt
  tested_made f false w e l x = tt

  read_made : (answer : Answer Frame) → frame stream (bits p.bytes) ≡ answer → IfSome (frame_read stream p answer) (IsMadeOf (Frames head) (Packet p))
  read_made (Done f []) e = tested_made f (lasts p.duration (own_sound f)) (within_depths stream f) e refl refl
  read_made (Done f (b ∷ rest)) e = tt
  read_made More e = tt
  read_made Bad e = tt

  frame_made : IfSome (flac_frame head p) (IsMadeOf (Frames head) (Packet p))
  unfolding flac_frame
  frame_made = read_made (frame stream (bits p.bytes)) refl

-- the frame of a packet fits the lane, and starts and ends when the packet does
pub flac_decoded : (head : StreamHead) (p : Pkt) → IsStream (stream_of head) → FitsPackets head (Packet p)
    → IsDecoded head p (Unit {0}) (flac_frame head p)
flac_decoded head p i fits = record { taken = tt; made = frame_made head p i }
