-- A stream with times from the start of its first item on is valid.
use Rattle.std.proofs.Common.{◌≡◌, ℕ, zero, suc, ◌+◌, ◌-◌, ◌/◌, ◌≤◌, ℤ, pos, negsuc, ◌+ℤ◌, ◌<ℤ◌, ◌≤ℤ◌, None, List, [], ◌∷◌, map, length, All, refl, sym, subst, arith}
use Rattle.ff_frame.specs.declared.head.StreamHead.{StreamHead}
use Rattle.ff_frame.specs.declared.head.StreamHead.TheVariants.{Audio as AudioHead, Video as VideoHead}
use Rattle.ff_stream.specs.declared.item.Item.{Item}
use Rattle.ff_stream.specs.declared.item.Item.TheVariants.{Audio, Video, Packet, Trailer, End, Broken}
use Rattle.ff_stream.specs.declared.item.Lane.TheVariants.{Frames}
use Rattle.ff_stream.specs.Times.{HasTime, start_of, end_of, ticks}
use Rattle.ff_stream.specs.Lanes.{FitsFrames, StartsAfter, Follows, InOrder, IsItemFor, AreInShape}
use Rattle.ff_filter.specs.Shifts.{earlier, start_ticks, from_first, shifted}
use Rattle.ff_filter.specs.laws.Sound.{IsSound}

abbrev len_of : Item → ℤ
len_of (Audio f) = pos (length f.samples / f.channels)
len_of (Video f) = f.duration
len_of (Packet p) = p.duration
len_of (Trailer t) = pos 0
len_of End = pos 0
len_of Broken = pos 0

abbrev IsFrame : Item → Type 0
IsFrame (Audio f) = Unit {0}
IsFrame (Video f) = Unit {0}
IsFrame (Packet p) = ⊥
IsFrame (Trailer t) = ⊥
IsFrame End = ⊥
IsFrame Broken = ⊥

frame_of : (head : StreamHead) (x : Item) → FitsFrames head x → IsFrame x
frame_of (AudioHead tb rate bits channels codec) (Audio f) h = tt
frame_of (AudioHead tb rate bits channels codec) (Video f) h = tt
frame_of (AudioHead tb rate bits channels codec) (Packet p) h = h
frame_of (AudioHead tb rate bits channels codec) (Trailer t) h = h
frame_of (AudioHead tb rate bits channels codec) End h = h
frame_of (AudioHead tb rate bits channels codec) Broken h = h
frame_of (VideoHead tb format width height sar_num sar_den) (Audio f) h = tt
frame_of (VideoHead tb format width height sar_num sar_den) (Video f) h = tt
frame_of (VideoHead tb format width height sar_num sar_den) (Packet p) h = h
frame_of (VideoHead tb format width height sar_num sar_den) (Trailer t) h = h
frame_of (VideoHead tb format width height sar_num sar_den) End h = h
frame_of (VideoHead tb format width height sar_num sar_den) Broken h = h

fits_shift : (head : StreamHead) (t : ℕ) (x : Item) → FitsFrames head x → FitsFrames head (earlier t x)
fits_shift (AudioHead tb rate bits channels codec) t (Audio f) h = record { rate_is = h.rate_is; bits_are = h.bits_are; channels_are = h.channels_are; audio = h.audio }
fits_shift (AudioHead tb rate bits channels codec) t (Video f) h = h
fits_shift (AudioHead tb rate bits channels codec) t (Packet p) h = h
fits_shift (AudioHead tb rate bits channels codec) t (Trailer p) h = h
fits_shift (AudioHead tb rate bits channels codec) t End h = h
fits_shift (AudioHead tb rate bits channels codec) t Broken h = h
fits_shift (VideoHead tb format width height sar_num sar_den) t (Audio f) h = h
fits_shift (VideoHead tb format width height sar_num sar_den) t (Video f) h = record { format_is = h.format_is; columns_are = h.columns_are; rows_are = h.rows_are; video = h.video }
fits_shift (VideoHead tb format width height sar_num sar_den) t (Packet p) h = h
fits_shift (VideoHead tb format width height sar_num sar_den) t (Trailer p) h = h
fits_shift (VideoHead tb format width height sar_num sar_den) t End h = h
fits_shift (VideoHead tb format width height sar_num sar_den) t Broken h = h

time_of : (x : Item) → IsFrame x → HasTime x
time_of (Audio f) h = tt
time_of (Video f) h = tt
time_of (Packet p) h = tt
time_of (Trailer t) h = h
time_of End h = h
time_of Broken h = h

timed_frame : (t : ℕ) (x : Item) → HasTime (earlier t x) → HasTime x
timed_frame t (Audio f) h = tt
timed_frame t (Video f) h = tt
timed_frame t (Packet p) h = tt
timed_frame t (Trailer p) h = h
timed_frame t End h = h
timed_frame t Broken h = h

start_shift : (t : ℕ) (x : Item) → IsFrame x → start_of (earlier t x) ≡ pos (ticks (start_of x) - t)
start_shift t (Audio f) h = refl
start_shift t (Video f) h = refl
start_shift t (Packet p) h = absurd h
start_shift t (Trailer p) h = absurd h
start_shift t End h = absurd h
start_shift t Broken h = absurd h

end_shift : (t : ℕ) (x : Item) → IsFrame x → end_of (earlier t x) ≡ pos (ticks (start_of x) - t) +ℤ len_of x
end_shift t (Audio f) h = refl
end_shift t (Video f) h = refl
end_shift t (Packet p) h = absurd h
end_shift t (Trailer p) h = absurd h
end_shift t End h = absurd h
end_shift t Broken h = absurd h

end_len : (x : Item) → IsFrame x → end_of x ≡ start_of x +ℤ len_of x
end_len (Audio f) h = refl
end_len (Video f) h = refl
end_len (Packet p) h = absurd h
end_len (Trailer p) h = absurd h
end_len End h = absurd h
end_len Broken h = absurd h

-- a time of at least 0 is so many ticks
ticks_is : (z : ℤ) → pos 0 ≤ℤ z → pos (ticks z) ≡ z
ticks_is (pos p) n = refl
ticks_is (negsuc p) n = grind (arith)

lowered : (z : ℤ) (t : ℕ) → pos 0 ≤ℤ z → t ≤ ticks z → (pos (ticks z - t) +ℤ pos t) ≡ z
lowered (pos p) t n le = let e : (p - t) + t ≡ p = omega (arith, le) in grind (arith)
lowered (negsuc p) t n le = grind (arith)

less_more : (a b c d : ℤ) → (a +ℤ c) ≡ b → b <ℤ (b +ℤ d) → a <ℤ (a +ℤ d)
less_more a b c d e h = grind (arith)

less_less : (a b c y z : ℤ) → (a +ℤ c) ≡ y → (b +ℤ c) ≡ z → y <ℤ z → a <ℤ b
less_less a b c y z e f h = grind (arith)

not_below : (k : ℕ) → pos 0 ≤ℤ pos k
not_below k = grind (arith)

ends_both : (p q t : ℕ) (d k : ℤ) → (pos (p + t) +ℤ d) ≤ℤ (pos (q + t) +ℤ k) → (pos p +ℤ d) ≤ℤ (pos q +ℤ k)
ends_both p q t d k h = grind (arith)

apart_both : (p q t : ℕ) (d : ℤ) → (pos (p + t) +ℤ d) ≤ℤ pos (q + t) → (pos p +ℤ d) ≤ℤ pos q
apart_both p q t d h = grind (arith)

ends_so : (p q t : ℕ) (d k y z : ℤ) → pos (p + t) ≡ y → pos (q + t) ≡ z → (y +ℤ d) ≤ℤ (z +ℤ k) → (pos p +ℤ d) ≤ℤ (pos q +ℤ k)
ends_so p q t d k y z e f h = ends_both p q t d k (subst (λ (w : ℤ). (w +ℤ d) ≤ℤ (pos (q + t) +ℤ k)) (sym e) (subst (λ (w : ℤ). (y +ℤ d) ≤ℤ (w +ℤ k)) (sym f) h))

apart_so : (p q t : ℕ) (d y z : ℤ) → pos (p + t) ≡ y → pos (q + t) ≡ z → (y +ℤ d) ≤ℤ z → (pos p +ℤ d) ≤ℤ pos q
apart_so p q t d y z e f h = apart_both p q t d (subst (λ (w : ℤ). (w +ℤ d) ≤ℤ pos (q + t)) (sym e) (subst (λ (w : ℤ). (y +ℤ d) ≤ℤ w) (sym f) h))

later_ticks : (t : ℕ) (y z : ℤ) → pos 0 ≤ℤ y → y <ℤ z → t ≤ ticks y → t ≤ ticks z
later_ticks t (pos y) (pos z) n h le = grind (arith)
later_ticks t (pos y) (negsuc z) n h le = grind (arith)
later_ticks t (negsuc y) z n h le = grind (arith)

module _ (head : StreamHead) (t : ℕ) where
  item_shift : (x : Item) → t ≤ start_ticks x → IsItemFor (Frames head) x → IsItemFor (Frames head) (earlier t x)
  item_shift x le i =
      let frame = frame_of head x i.fits in
      record {
        fits = fits_shift head t x i.fits;
        not_negative = subst (λ (z : ℤ). pos 0 ≤ℤ z) (sym (start_shift t x frame)) (not_below (ticks (start_of x) - t));
        lasts = λ h. subst (λ (z : ℤ). z <ℤ end_of (earlier t x)) (sym (start_shift t x frame)) (subst (λ (z : ℤ). pos (ticks (start_of x) - t) <ℤ z) (sym (end_shift t x frame))
            (less_more (pos (ticks (start_of x) - t)) (start_of x) (pos t) (len_of x) (lowered (start_of x) t i.not_negative le) (subst (λ (z : ℤ). start_of x <ℤ z) (end_len x frame) (i.lasts (time_of x frame)))));
      }

  apart_shift : (x y : Item) → IsItemFor (Frames head) x → IsItemFor (Frames head) y → t ≤ start_ticks x → t ≤ start_ticks y → StartsAfter head x y → StartsAfter head (earlier t x) (earlier t y)
  apart_shift x y i j a b h = at head x y (frame_of head x i.fits) (frame_of head y j.fits) i.not_negative j.not_negative a b h
    where
      at : (head : StreamHead) (x y : Item) → IsFrame x → IsFrame y → pos 0 ≤ℤ start_of x → pos 0 ≤ℤ start_of y → t ≤ start_ticks x → t ≤ start_ticks y → StartsAfter head x y → StartsAfter head (earlier t x) (earlier t y)
      at (AudioHead tb rate bits channels codec) x y f g m n a b h = subst (λ (z : ℤ). z ≤ℤ start_of (earlier t y)) (sym (end_shift t x f)) (subst (λ (z : ℤ). (pos (ticks (start_of x) - t) +ℤ len_of x) ≤ℤ z) (sym (start_shift t y g))
          (apart_so (ticks (start_of x) - t) (ticks (start_of y) - t) t (len_of x) (start_of x) (start_of y) (lowered (start_of x) t m a) (lowered (start_of y) t n b) (subst (λ (z : ℤ). z ≤ℤ start_of y) (end_len x f) h)))
      at (VideoHead tb format width height sar_num sar_den) x y f g m n a b h = tt

  follows_shift : (x y : Item) → IsItemFor (Frames head) x → IsItemFor (Frames head) y → t ≤ start_ticks x → t ≤ start_ticks y → Follows (Frames head) x y → Follows (Frames head) (earlier t x) (earlier t y)
  follows_shift x y i j a b h =
      let f = frame_of head x i.fits in
      let g = frame_of head y j.fits in
      let low = lowered (start_of x) t i.not_negative a in
      let high = lowered (start_of y) t j.not_negative b in
      record {
        timed = time_shift x f;
        starts = λ k. subst (λ (z : ℤ). z <ℤ start_of (earlier t y)) (sym (start_shift t x f)) (subst (λ (z : ℤ). pos (ticks (start_of x) - t) <ℤ z) (sym (start_shift t y g))
            (less_less (pos (ticks (start_of x) - t)) (pos (ticks (start_of y) - t)) (pos t) (start_of x) (start_of y) low high (h.starts (time_of y g))));
        ends = λ k. subst (λ (z : ℤ). z ≤ℤ end_of (earlier t y)) (sym (end_shift t x f)) (subst (λ (z : ℤ). (pos (ticks (start_of x) - t) +ℤ len_of x) ≤ℤ z) (sym (end_shift t y g))
            (ends_so (ticks (start_of x) - t) (ticks (start_of y) - t) t (len_of x) (len_of y) (start_of x) (start_of y) low high
            (subst (λ (z : ℤ). z ≤ℤ (start_of y +ℤ len_of y)) (end_len x f) (subst (λ (z : ℤ). end_of x ≤ℤ z) (end_len y g) (h.ends (time_of y g))))));
        apart = λ k. apart_shift x y i j a b (h.apart (time_of y g));
      }
    where
      time_shift : (x : Item) → IsFrame x → HasTime (earlier t x)
      time_shift (Audio f) h = tt
      time_shift (Video f) h = tt
      time_shift (Packet p) h = tt
      time_shift (Trailer p) h = h
      time_shift End h = h
      time_shift Broken h = h

  order_shift : (x : Item) (xs : List Item) → t ≤ start_ticks x → All (IsItemFor (Frames head)) (x ∷ xs) → InOrder (Frames head) (x ∷ xs) → InOrder (Frames head) (map (earlier t) (x ∷ xs))
  order_shift x [] le a o = tt
  order_shift x (y ∷ ys) le a o =
      let i = a zero x (omega arith) in
      let j = a (suc zero) x (omega arith) in
      let next : t ≤ start_ticks y = later_ticks t (start_of x) (start_of y) i.not_negative (o.0.starts (time_of y (frame_of head y j.fits))) le in
      (follows_shift x y i j le next o.0, order_shift y ys next (λ k d lt. a (suc k) d (omega arith)) o.1)

  each_shift : (x : Item) (xs : List Item) → t ≤ start_ticks x → All (IsItemFor (Frames head)) (x ∷ xs) → InOrder (Frames head) (x ∷ xs) → All (IsItemFor (Frames head)) (map (earlier t) (x ∷ xs))
  each_shift x xs le a o zero d lt = item_shift x le (a zero x (omega arith))
  each_shift x [] le a o (suc k) d lt = absurd (omega arith)
  each_shift x (y ∷ ys) le a o (suc k) d lt =
      let i = a zero x (omega arith) in
      let j = a (suc zero) x (omega arith) in
      let next : t ≤ start_ticks y = later_ticks t (start_of x) (start_of y) i.not_negative (o.0.starts (time_of y (frame_of head y j.fits))) le in
      each_shift y ys next (λ k d lt. a (suc k) d (omega arith)) o.1 k d (omega arith)

shape_shift : (head : StreamHead) (xs : List Item) → AreInShape (Frames head) xs → AreInShape (Frames head) (from_first None xs)
shape_shift head [] s = s
shape_shift head (x ∷ xs) s = record {
  each = each_shift head (start_ticks x) x xs (omega arith) s.each s.in_order;
  in_order = order_shift head (start_ticks x) x xs (omega arith) s.each s.in_order;
}

pub shift_sound : (head : StreamHead) → IsSound (Frames head) (Frames head) (λ s. shifted None s)
shift_sound head = record { shape = λ s v. shape_shift head s.items v.shape; unbroken = λ s v u. u }
