-- Cuts of valid streams are valid.
use Rattle.std.proofs.Common.{◌≡◌, ◌≢◌, ℕ, zero, suc, ◌+◌, ◌-◌, ◌*◌, ◌/◌, ◌<◌, ◌≤◌, ◌⊎◌, inl, inr, ℤ, pos, negsuc, ◌+ℤ◌, ◌≤ℤ◌, Bool, true, false, cond, Option, Some, None, List, [], ◌∷◌, ◌++◌, map, drop, take, length, All, refl, sym, subst, arith}
use Rattle.std.specs.Prelude.{nat_lt, nat_le}
use Rattle.std.proofs.lemmas.Bool.Decides.{nat_tests}
use Rattle.std.proofs.lemmas.List.{length-take, length-map, length-append}
use Rattle.std.proofs.lemmas.List.Elements.{All-take}
use Rattle.std.proofs.Math.Nat.{mul-le-mul_right, mul_comm, div-le_of_le-mul}
use Rattle.ff_time.specs.Fraction.{Fraction}
use Rattle.ff_time.specs.declared.cut.TimeCut.{TimeCut}
use Rattle.ff_frame.specs.declared.audio.AFrame.{AFrame}
use Rattle.ff_frame.specs.declared.head.Codec.{Codec}
use Rattle.ff_frame.specs.declared.head.StreamHead.{StreamHead}
use Rattle.ff_frame.specs.declared.head.StreamHead.TheVariants.{Audio as AudioHead, Video as VideoHead}
use Rattle.ff_frame.specs.Audio.{kept_samples}
use Rattle.ff_frame.specs.Heads.{base_of_head}
use Rattle.ff_stream.specs.declared.item.Item.{Item}
use Rattle.ff_stream.specs.declared.item.Item.TheVariants.{Audio, Video, Packet, Trailer, End, Broken}
use Rattle.ff_stream.specs.declared.item.Lane.{Lane}
use Rattle.ff_stream.specs.declared.item.Lane.TheVariants.{Frames}
use Rattle.ff_stream.specs.Stream.{Mark, whole, broken, whole_stream}
use Rattle.ff_stream.specs.Ports.{IsUnbroken}
use Rattle.ff_stream.specs.Times.{start_of, end_of, ticks}
use Rattle.ff_stream.specs.Lanes.{base_of, IsItemFor, EndsInTime, InOrder, IsValid}
use Rattle.ff_filter.specs.declared.range.Range.{Range}
use Rattle.ff_filter.specs.Joins.{Flow}
use Rattle.ff_filter.specs.Ranges.{is_past}
use Rattle.ff_filter.specs.Shifts.{earlier, start_ticks, shifted}
use Rattle.ff_vfilter.specs.Trims.{trimmed, from_start, before_stop, reaches}
use Rattle.ff_vfilter.proofs.TrimSound.{trim_sound}
use Rattle.ff_afilter.specs.Trims.{count_of, before_stop as samples_before, part, kept as kept_of, kept_all, ends_past, reaches as sound_reaches, sound_trimmed}
use Rattle.ff_afilter.proofs.TrimSound.{sound_trim_sound}
use Rattle.ff_filter.specs.laws.spread.Valid.{GivesValid}
use Rattle.ff_trim.specs.Cuts.{is_uncut, is_empty, range_in, from_range, cut, counted}
use Rattle.ff_trim.proofs.EarlierShape.{StartsFrom, shape_earlier}

-- each of these items is so
abbrev pub Each : (Item → Type 0) → List Item → Type 0
Each P [] = Unit {0}
Each P (x ∷ xs) = P x × Each P xs

pub each_of : (P : Item → Type 0) (xs : List Item) → All P xs → Each P xs
each_of P [] a = tt
each_of P (x ∷ xs) a = (a zero x (omega arith), each_of P xs (λ k d lt. a (suc k) d (omega (arith, lt))))

all_of : (P : Item → Type 0) (xs : List Item) → Each P xs → All P xs
all_of P [] e k d lt = absurd (omega (arith, lt))
all_of P (x ∷ xs) e zero d lt = e.0
all_of P (x ∷ xs) e (suc k) d lt = all_of P xs e.1 k d (omega (arith, lt))

each_both : (P : Item → Type 0) (xs ys : List Item) → Each P xs → Each P ys → Each P (xs ++ ys)
each_both P [] ys e f = f
each_both P (x ∷ xs) ys e f = (e.0, each_both P xs ys e.1 f)

later : (a b : ℤ) → a ≤ℤ b → ticks a ≤ ticks b
later (pos a) (pos b) h = grind (arith)
later (pos a) (negsuc b) h = grind (arith)
later (negsuc a) b h = omega arith

-- what ends no later ends in time as well
in_time_so : (lane : Lane) (x y : Item) → end_of y ≤ℤ end_of x → EndsInTime lane x → EndsInTime lane y
in_time_so lane x y le h =
    let less : ticks (end_of y) * (base_of lane).num ≤ ticks (end_of x) * (base_of lane).num = mul-le-mul_right (base_of lane).num (later (end_of y) (end_of x) le) in
    omega (arith, less, h)

-- ---- earlier

end_earlier : (t : ℕ) (x : Item) → pos 0 ≤ℤ start_of x → end_of (earlier t x) ≤ℤ end_of x
end_earlier t (Audio f) n = lower f.pts t (pos (length f.samples / f.channels)) n
  where
    lower : (z : ℤ) (t : ℕ) (d : ℤ) → pos 0 ≤ℤ z → (pos (ticks z - t) +ℤ d) ≤ℤ (z +ℤ d)
    lower (pos p) t d n = let le : p - t ≤ p = omega arith in grind (arith)
    lower (negsuc p) t d n = grind (arith)
end_earlier t (Video f) n = lower f.pts t f.duration n
  where
    lower : (z : ℤ) (t : ℕ) (d : ℤ) → pos 0 ≤ℤ z → (pos (ticks z - t) +ℤ d) ≤ℤ (z +ℤ d)
    lower (pos p) t d n = let le : p - t ≤ p = omega arith in grind (arith)
    lower (negsuc p) t d n = grind (arith)
end_earlier t (Packet p) n = let z : ℤ = end_of (Packet p) in self z
  where
    self : (z : ℤ) → z ≤ℤ z
    self z = grind (arith)
end_earlier t (Trailer p) n = grind (arith)
end_earlier t End n = grind (arith)
end_earlier t Broken n = grind (arith)

each_earlier : (lane : Lane) (t : ℕ) (xs : List Item) → Each (IsItemFor lane) xs → Each (EndsInTime lane) xs → Each (EndsInTime lane) (map (earlier t) xs)
each_earlier lane t [] i e = tt
each_earlier lane t (x ∷ xs) i e = (in_time_so lane x (earlier t x) (end_earlier t x i.0.not_negative) e.0, each_earlier lane t xs i.1 e.1)

pub earlier_valid : (head : StreamHead) (t : ℕ) (s : Flow) → StartsFrom t s.items → IsValid (Frames head) s → IsValid (Frames head) (shifted (Some t) s)
earlier_valid head t s from v = record {
  shape = shape_earlier head t s.items from v.shape;
  few = let e = length-map s.items (earlier t) in let f = v.few in omega (arith, e, f);
  in_time = all_of (EndsInTime (Frames head)) (map (earlier t) s.items)
      (each_earlier (Frames head) t s.items (each_of (IsItemFor (Frames head)) s.items v.shape.each) (each_of (EndsInTime (Frames head)) s.items v.in_time));
}

-- ---- pictures

from_few : (start : ℕ) (xs : List Item) → length (from_start start xs) ≤ length xs
from_few start [] = omega arith
from_few start (x ∷ xs) = at (nat_le start (start_ticks x)) (from_few start xs)
  where
    at : (b : Bool) → length (from_start start xs) ≤ length xs → length (cond b (x ∷ from_start start xs) (from_start start xs)) ≤ suc (length xs)
    at true h = omega (arith, h)
    at false h = omega (arith, h)

stop_few : (stop : Option ℕ) (xs : List Item) → length (before_stop stop xs) ≤ length xs
stop_few stop [] = omega arith
stop_few stop (x ∷ xs) = at (is_past stop (start_ticks x)) (stop_few stop xs)
  where
    at : (b : Bool) → length (before_stop stop xs) ≤ length xs → length (cond b [] (x ∷ before_stop stop xs)) ≤ suc (length xs)
    at true h = omega arith
    at false h = omega (arith, h)

from_each : (P : Item → Type 0) (start : ℕ) (xs : List Item) → Each P xs → Each P (from_start start xs)
from_each P start [] e = tt
from_each P start (x ∷ xs) e = at (nat_le start (start_ticks x)) (from_each P start xs e.1)
  where
    at : (b : Bool) → Each P (from_start start xs) → Each P (cond b (x ∷ from_start start xs) (from_start start xs))
    at true h = (e.0, h)
    at false h = h

stop_each : (P : Item → Type 0) (stop : Option ℕ) (xs : List Item) → Each P xs → Each P (before_stop stop xs)
stop_each P stop [] e = tt
stop_each P stop (x ∷ xs) e = at (is_past stop (start_ticks x)) (stop_each P stop xs e.1)
  where
    at : (b : Bool) → Each P (before_stop stop xs) → Each P (cond b [] (x ∷ before_stop stop xs))
    at true h = tt
    at false h = (e.0, h)

from_starts : (start : ℕ) (xs : List Item) → StartsFrom start (from_start start xs)
from_starts start [] = tt
from_starts start (x ∷ xs) = at (nat_le start (start_ticks x)) refl (from_starts start xs)
  where
    at : (b : Bool) → nat_le start (start_ticks x) ≡ b → StartsFrom start (from_start start xs) → StartsFrom start (cond b (x ∷ from_start start xs) (from_start start xs))
    at true e h = grind (arith, nat_tests)
    at false e h = h

pictures_valid : (lane : Lane) (range : Range) (s : Flow) → IsValid lane s → IsValid lane (trimmed range s)
pictures_valid lane range s v = record {
  shape = (trim_sound lane range).shape s v;
  few = let a = from_few range.start (before_stop range.stop s.items) in let b = stop_few range.stop s.items in let c = v.few in omega (arith, a, b, c);
  in_time = all_of (EndsInTime lane) (from_start range.start (before_stop range.stop s.items))
      (from_each (EndsInTime lane) range.start (before_stop range.stop s.items) (stop_each (EndsInTime lane) range.stop s.items (each_of (EndsInTime lane) s.items v.in_time)));
}

-- ---- sound

kept_few : (range : Range) (x : Item) → length (kept_of range x) ≤ 1
kept_few range (Audio f) = at (nat_lt (range.start - ticks f.pts) (samples_before range.stop (ticks f.pts) (count_of f)))
  where
    at : (b : Bool) → length (cond b (Audio (record f { pts = pos (ticks f.pts + (range.start - ticks f.pts)); samples = kept_samples f.channels (range.start - ticks f.pts) (samples_before range.stop (ticks f.pts) (count_of f) - (range.start - ticks f.pts)) f.samples }) ∷ []) []) ≤ 1
    at true = omega arith
    at false = omega arith
kept_few range (Video f) = omega arith
kept_few range (Packet p) = omega arith
kept_few range (Trailer t) = omega arith
kept_few range End = omega arith
kept_few range Broken = omega arith

all_few : (range : Range) (xs : List Item) → length (kept_all range xs) ≤ length xs
all_few range [] = omega arith
all_few range (x ∷ xs) =
    let one = kept_few range x in
    let both = length-append (kept_of range x) (cond (ends_past range x) [] (kept_all range xs)) in
    let rest = at (ends_past range x) (all_few range xs) in
    omega (arith, one, both, rest)
  where
    at : (b : Bool) → length (kept_all range xs) ≤ length xs → length (cond b [] (kept_all range xs)) ≤ length xs
    at true h = omega arith
    at false h = h

stop_below : (stop : Option ℕ) (start count : ℕ) → samples_before stop start count ≤ count
stop_below None start count = omega arith
stop_below (Some s) start count = omega arith

size_few : (channels skip count : ℕ) (xs : List ℤ) → length (kept_samples channels skip count xs) / channels ≤ count
size_few channels skip count xs =
    let e = length-take (count * channels) (drop (skip * channels) xs) in
    let c = mul_comm count channels in
    div-le_of_le-mul channels (omega (arith, e, c))

ends_by : (t skip m count : ℕ) → skip + m ≤ count → (pos (t + skip) +ℤ pos m) ≤ℤ (pos t +ℤ pos count)
ends_by t skip m count h = grind (arith)

ticks_is : (z : ℤ) → pos 0 ≤ℤ z → pos (ticks z) ≡ z
ticks_is (pos p) n = refl
ticks_is (negsuc p) n = grind (arith)

pub below_by : (a b : ℕ) → nat_lt a b ≡ true → a < b
below_by a b e = grind (arith, nat_tests)

-- what is kept of a frame ends no later, and starts no earlier than the range
part_in_time : (lane : Lane) (f : AFrame) (skip until : ℕ) → pos 0 ≤ℤ f.pts → until ≤ count_of f → EndsInTime lane (Audio f) → Each (EndsInTime lane) (part f skip until)
part_in_time lane f skip until n few e = at (nat_lt skip until) refl
  where
    at : (b : Bool) → nat_lt skip until ≡ b
        → Each (EndsInTime lane) (cond b (Audio (record f { pts = pos (ticks f.pts + skip); samples = kept_samples f.channels skip (until - skip) f.samples }) ∷ []) [])
    at true h =
        let y : Item = Audio (record f { pts = pos (ticks f.pts + skip); samples = kept_samples f.channels skip (until - skip) f.samples }) in
        let less : skip < until = below_by skip until h in
        let m : length (kept_samples f.channels skip (until - skip) f.samples) / f.channels ≤ until - skip = size_few f.channels skip (until - skip) f.samples in
        let le : end_of y ≤ℤ end_of (Audio f) = subst (λ (z : ℤ). (pos (ticks f.pts + skip) +ℤ pos (length (kept_samples f.channels skip (until - skip) f.samples) / f.channels)) ≤ℤ (z +ℤ pos (count_of f)))
        (ticks_is f.pts n) (ends_by (ticks f.pts) skip (length (kept_samples f.channels skip (until - skip) f.samples) / f.channels) (count_of f) (omega (arith, less, m, few))) in
        (in_time_so lane (Audio f) y le e, tt)
    at false h = tt

kept_in_time : (lane : Lane) (range : Range) (x : Item) → pos 0 ≤ℤ start_of x → EndsInTime lane x → Each (EndsInTime lane) (kept_of range x)
kept_in_time lane range (Audio f) n e = part_in_time lane f (range.start - ticks f.pts) (samples_before range.stop (ticks f.pts) (count_of f)) n (stop_below range.stop (ticks f.pts) (count_of f)) e
kept_in_time lane range (Video f) n e = (e, tt)
kept_in_time lane range (Packet p) n e = (e, tt)
kept_in_time lane range (Trailer t) n e = (e, tt)
kept_in_time lane range End n e = tt
kept_in_time lane range Broken n e = tt

all_in_time : (lane : Lane) (range : Range) (xs : List Item) → Each (IsItemFor lane) xs → Each (EndsInTime lane) xs → Each (EndsInTime lane) (kept_all range xs)
all_in_time lane range [] i e = tt
all_in_time lane range (x ∷ xs) i e = each_both (EndsInTime lane) (kept_of range x) (cond (ends_past range x) [] (kept_all range xs)) (kept_in_time lane range x i.0.not_negative e.0)
    (at (ends_past range x) (all_in_time lane range xs i.1 e.1))
  where
    at : (b : Bool) → Each (EndsInTime lane) (kept_all range xs) → Each (EndsInTime lane) (cond b [] (kept_all range xs))
    at true h = tt
    at false h = h

module _ (tb : Fraction) (rate bits channels : ℕ) (codec : Codec) where
  -- what is kept of an item starts at or after the start of the range; so does what is kept of all
  front_from : (start : ℕ) (ys zs : List Item) → (ys ≡ []) ⊎ StartsFrom start (ys ++ zs) → StartsFrom start zs → StartsFrom start (ys ++ zs)
  front_from start ys zs (inl e) h = subst (λ (xs : List Item). StartsFrom start (xs ++ zs)) (sym e) h
  front_from start ys zs (inr k) h = k

  kept_from : (range : Range) (x : Item) (zs : List Item) → IsItemFor (Frames (AudioHead tb rate bits channels codec)) x
      → (kept_of range x ≡ []) ⊎ StartsFrom range.start (kept_of range x ++ zs)
  kept_from range (Audio f) zs i = at (nat_lt (range.start - ticks f.pts) (samples_before range.stop (ticks f.pts) (count_of f)))
    where
      at : (b : Bool) → (cond b (Audio (record f { pts = pos (ticks f.pts + (range.start - ticks f.pts)); samples = kept_samples f.channels (range.start - ticks f.pts) (samples_before range.stop (ticks f.pts) (count_of f) - (range.start - ticks f.pts)) f.samples }) ∷ []) [] ≡ [])
          ⊎ StartsFrom range.start (cond b (Audio (record f { pts = pos (ticks f.pts + (range.start - ticks f.pts)); samples = kept_samples f.channels (range.start - ticks f.pts) (samples_before range.stop (ticks f.pts) (count_of f) - (range.start - ticks f.pts)) f.samples }) ∷ []) [] ++ zs)
      at true = inr (omega arith)
      at false = inl refl
  kept_from range (Video f) zs i = absurd i.fits
  kept_from range (Packet p) zs i = absurd i.fits
  kept_from range (Trailer t) zs i = absurd i.fits
  kept_from range End zs i = absurd i.fits
  kept_from range Broken zs i = absurd i.fits

  all_from : (range : Range) (xs : List Item) → Each (IsItemFor (Frames (AudioHead tb rate bits channels codec))) xs → StartsFrom range.start (kept_all range xs)
  all_from range [] i = tt
  all_from range (x ∷ xs) i = front_from range.start (kept_of range x) (cond (ends_past range x) [] (kept_all range xs)) (kept_from range x (cond (ends_past range x) [] (kept_all range xs)) i.0)
      (at (ends_past range x) (all_from range xs i.1))
    where
      at : (b : Bool) → StartsFrom range.start (kept_all range xs) → StartsFrom range.start (cond b [] (kept_all range xs))
      at true h = tt
      at false h = h

  sound_valid : (range : Range) (s : Flow) → IsValid (Frames (AudioHead tb rate bits channels codec)) s → IsValid (Frames (AudioHead tb rate bits channels codec)) (sound_trimmed range s)
  sound_valid range s v = record {
    shape = (sound_trim_sound tb rate bits channels codec range).shape s v;
    few = let a = all_few range s.items in let b = v.few in omega (arith, a, b);
    in_time = all_of (EndsInTime (Frames (AudioHead tb rate bits channels codec))) (kept_all range s.items)
        (all_in_time (Frames (AudioHead tb rate bits channels codec)) range s.items (each_of (IsItemFor (Frames (AudioHead tb rate bits channels codec))) s.items v.shape.each)
        (each_of (EndsInTime (Frames (AudioHead tb rate bits channels codec))) s.items v.in_time));
  }

-- ---- cuts

range_valid : (head : StreamHead) (range : Range) (s : Flow) → IsValid (Frames head) s → IsValid (Frames head) (from_range head range s)
range_valid (AudioHead tb rate bits channels codec) range s v = earlier_valid (AudioHead tb rate bits channels codec) range.start (sound_trimmed range s)
    (all_from tb rate bits channels codec range s.items (each_of (IsItemFor (Frames (AudioHead tb rate bits channels codec))) s.items v.shape.each)) (sound_valid tb rate bits channels codec range s v)
range_valid (VideoHead tb format width height sar_num sar_den) range s v = earlier_valid (VideoHead tb format width height sar_num sar_den) range.start (trimmed range s)
    (from_starts range.start (before_stop range.stop s.items)) (pictures_valid (Frames (VideoHead tb format width height sar_num sar_den)) range s v)

unbroken_mark : (b : Bool) (m : Mark) → m ≢ broken → cond b whole m ≢ broken
unbroken_mark true m n = λ e. cc
unbroken_mark false m n = n

range_unbroken : (head : StreamHead) (range : Range) (s : Flow) → IsUnbroken s → IsUnbroken (from_range head range s)
range_unbroken (AudioHead tb rate bits channels codec) range s u = unbroken_mark (sound_reaches range s.items) s.mark u
range_unbroken (VideoHead tb format width height sar_num sar_den) range s u = unbroken_mark (reaches range.stop s.items) s.mark u

nothing_valid : (lane : Lane) (m : Mark) → IsValid lane (record { items = []; mark = m })
nothing_valid lane m = record {
  shape = record { each = λ k d lt. absurd (omega (arith, lt)); in_order = tt };
  few = omega arith;
  in_time = λ k d lt. absurd (omega (arith, lt));
}

-- one of three streams: whichever it is, it is so
one_of : (P : Flow → Type 0) (a b : Bool) (r s t : Flow) → P r → P s → P t → P (cond a r (cond b s t))
one_of P true b r s t h i j = h
one_of P false true r s t h i j = i
one_of P false false r s t h i j = j

pub cut_valid : (head : StreamHead) (c : TimeCut) → GivesValid (Frames head) (Frames head) (λ s. cut head c s)
cut_valid head c = record {
  valid = λ s v. one_of (IsValid (Frames head)) (is_empty c.length) (is_uncut c) (whole_stream []) s (from_range head (range_in (base_of_head head) c) s)
      (nothing_valid (Frames head) whole) v (range_valid head (range_in (base_of_head head) c) s v);
  unbroken = λ s v u. one_of IsUnbroken (is_empty c.length) (is_uncut c) (whole_stream []) s (from_range head (range_in (base_of_head head) c) s)
      (λ e. cc) u (range_unbroken head (range_in (base_of_head head) c) s u);
}

-- ---- by number

take_few : (n : ℕ) (xs : List Item) → length (take n xs) ≤ length xs
take_few n xs = let e = length-take n xs in omega (arith, e)

take_in_order : (lane : Lane) (n : ℕ) (xs : List Item) → InOrder lane xs → InOrder lane (take n xs)
take_in_order lane zero xs o = tt
take_in_order lane (suc n) [] o = tt
take_in_order lane (suc zero) (x ∷ []) o = tt
take_in_order lane (suc zero) (x ∷ y ∷ xs) o = tt
take_in_order lane (suc (suc n)) (x ∷ []) o = tt
take_in_order lane (suc (suc n)) (x ∷ y ∷ xs) o = (o.0, take_in_order lane (suc n) (y ∷ xs) o.1)

-- the first items of a valid stream are those of one
pub counted_valid : (lane : Lane) (o : Option ℕ) (s : Flow) → IsValid lane s → IsValid lane (counted o s)
counted_valid lane None s v = v
counted_valid lane (Some n) s v = record {
  shape = record { each = All-take (IsItemFor lane) n s.items v.shape.each; in_order = take_in_order lane n s.items v.shape.in_order };
  few = let e = take_few n s.items in let f = v.few in omega (arith, e, f);
  in_time = All-take (EndsInTime lane) n s.items v.in_time;
}

pub counted_unbroken : (o : Option ℕ) (s : Flow) → IsUnbroken s → IsUnbroken (counted o s)
counted_unbroken None s u = u
counted_unbroken (Some n) s u = unbroken_mark (nat_le n (length s.items)) s.mark u
