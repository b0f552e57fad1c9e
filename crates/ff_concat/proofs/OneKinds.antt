-- With one stream a segment follows the end of the one before.
use Rattle.std.proofs.Common.{◌≡◌, ℕ, zero, suc, ◌+◌, ◌*◌, ◌/◌, ◌%◌, ◌<◌, ◌≤◌, ◌^◌, ◌⊎◌, min, max, ℤ, pos, negsuc, ◌+ℤ◌, ◌≤ℤ◌, ◌<ℤ◌, Bool, true, false, cond, nat_lt, List, [], ◌∷◌, ◌++◌, map, length, All, refl, inl, inr, ap, sym, ◌∙◌, subst, arith}
use Rattle.std.specs.Prelude.{◌==◌, ◌&&◌}
use Rattle.std.specs.Int.{div_ceil}
use Rattle.std.proofs.Math.Nat.{mul-div_cancel, mul-mod_left, mul-le-mul_left}
use Rattle.std.proofs.lemmas.Bool.{cases_lt, or_right}
use Rattle.std.proofs.lemmas.Bool.Decides.{nat_tests}
use Rattle.std.proofs.lemmas.Int.{ints}
use Rattle.std.proofs.lemmas.List.Elements.{All-head, All-tail}
use Rattle.ff_time.specs.Fraction.{IsBase}
use Rattle.ff_frame.specs.declared.head.StreamHead.{StreamHead}
use Rattle.ff_frame.specs.declared.head.StreamHead.TheVariants.{Audio as AudioHead, Video as VideoHead}
use Rattle.ff_frame.specs.Heads.{base_of_head}
use Rattle.ff_stream.specs.declared.item.Item.{Item}
use Rattle.ff_stream.specs.declared.item.Item.TheVariants.{Audio, Video, Packet, Trailer, End, Broken}
use Rattle.ff_stream.specs.declared.item.Lane.TheVariants.{Frames}
use Rattle.ff_stream.specs.Stream.{Mark, still_open, whole, broken, map_stream}
use Rattle.ff_stream.specs.Times.{ticks, end_ticks}
use Rattle.ff_stream.specs.Lanes.{FitsFrames, IsItemFor, IsValid}
use Rattle.ff_stream.specs.Within.{some_pass, before_pass, within, passes_limits}
use Rattle.ff_filter.specs.Joins.{Flow, Ports}
use Rattle.ff_filter.specs.Options.{is_video}
use Rattle.ff_concat.specs.Following.{followed_at, followed, led_by}
use Rattle.ff_concat.specs.Silences.{filled}
use Rattle.ff_concat.specs.Tails.{Tail, tail_of, last_end, together, latest}
use Rattle.ff_concat.specs.Concats.{time_later, moved, later, begin_in, in_order, is_lost, let_through, concatenated}
use Rattle.ff_concat.specs.laws.OneKind.{one_by_one}
use Rattle.ff_concat.specs.laws.Tracks.{output_of}
use Rattle.ff_concat.proofs.Zeros.{frames_none}

-- a time of whole ticks is that many
begin_whole : (tick e : ℕ) → 0 < tick → begin_in tick (e * tick) ≡ min e 9223372036854775807
begin_whole tick e some =
    let d : e * tick / tick ≡ e = mul-div_cancel e some in
    let m : e * tick % tick ≡ 0 = mul-mod_left e tick in
    let c : div_ceil (e * tick) tick ≡ e = omega (arith, d, m) in
    ap (λ (k : ℕ). min k 9223372036854775807) c

-- later by so many ticks, or by the last time
time_cut : (e : ℕ) (t : ℤ) → time_later (min e 9223372036854775807) t ≡ time_later e t
time_cut e t = ap (λ (n : ℕ). pos n) (cut (ticks t))
  where
    cut : (k : ℕ) → min (k + min e 9223372036854775807) 9223372036854775807 ≡ min (k + e) 9223372036854775807
    cut k = omega arith

moved_cut : (e : ℕ) (x : Item) → moved (min e 9223372036854775807) x ≡ moved e x
moved_cut e (Audio f) = ap (λ (t : ℤ). Audio (record f { pts = t })) (time_cut e f.pts)
moved_cut e (Video f) = ap (λ (t : ℤ). Video (record f { pts = t })) (time_cut e f.pts)
moved_cut e (Packet p) = refl
moved_cut e (Trailer p) = refl
moved_cut e End = refl
moved_cut e Broken = refl

later_some : (n : ℕ) (x : Item) → 0 < n → later n x ≡ moved n x
later_some n x lt = at (n == 0) (grind (arith, nat_tests))
  where
    at : (b : Bool) → b ≡ false → cond b x (moved n x) ≡ moved n x
    at true f = cc
    at false f = refl

later_cut : (e : ℕ) (x : Item) → later (min e 9223372036854775807) x ≡ later e x
later_cut zero x = refl
later_cut (suc e) x = later_some (min (suc e) 9223372036854775807) x (omega arith) ∙ (moved_cut (suc e) x ∙ sym (later_some (suc e) x (omega arith)))

pub map_same : (f g : Item → Item) → ((x : Item) → f x ≡ g x) → (xs : List Item) → map f xs ≡ map g xs
map_same f g h [] = refl
map_same f g h (x ∷ xs) = ap (λ (y : Item). y ∷ map f xs) (h x) ∙ ap (λ (ys : List Item). g x ∷ ys) (map_same f g h xs)

-- ends ----------------------------------------------------------------------------------------------------------------------

-- past the last time of 64 bits an item passes the limit of time
far_long : (num den l : ℕ) → 0 < num → den < 2 ^ 31 → nat_lt (1000000000 * den) ((9223372036854775807 + l) * num) ≡ true
far_long num den l some small =
    let k : (9223372036854775807 + l) * 1 ≤ (9223372036854775807 + l) * num = mul-le-mul_left (9223372036854775807 + l) (let m : 1 ≤ num = omega (arith, some) in m) in
    let lt : 1000000000 * den < (9223372036854775807 + l) * num = omega (arith, k, small) in
    grind (arith, nat_tests)

end_up : (a b : ℕ) → ticks (pos a +ℤ pos b) ≡ a + b
end_up a b = refl

module _ (h : StreamHead) (base : IsBase (base_of_head h)) where
  -- an item moved so far ends so much later, or passes the limit of time
  abbrev Ends : ℕ → Item → Type 0
  Ends e x = (end_ticks (later e x) ≡ e + end_ticks x)
      ⊎ (nat_lt (1000000000 * (base_of_head h).den) (end_ticks (later e x) * (base_of_head h).num) ≡ true)

  -- the end of an item that starts at p and lasts so long, so many ticks later
  moved_end : (e p l : ℕ) → (min (p + e) 9223372036854775807 + l ≡ e + (p + l))
      ⊎ (nat_lt (1000000000 * (base_of_head h).den) ((min (p + e) 9223372036854775807 + l) * (base_of_head h).num) ≡ true)
  moved_end e p l = elim (cases_lt (p + e) 9223372036854775807) as (λ _. (min (p + e) 9223372036854775807 + l ≡ e + (p + l))
      ⊎ (nat_lt (1000000000 * (base_of_head h).den) ((min (p + e) 9223372036854775807 + l) * (base_of_head h).num) ≡ true)) [
        | inl less ↦ inl (omega (arith, less))
        | inr more ↦ inr (
            let s : min (p + e) 9223372036854775807 ≡ 9223372036854775807 = omega (arith, more) in
            ap (λ (k : ℕ). nat_lt (1000000000 * (base_of_head h).den) ((k + l) * (base_of_head h).num)) s ∙ far_long (base_of_head h).num (base_of_head h).den l base.num_positive base.den_small
            )
      ]

  ends_moved : (e : ℕ) (x : Item) → 0 < e → IsItemFor (Frames h) x → Ends e x
  ends_moved e (Audio f) lt it = subst (λ (y : Item). (end_ticks y ≡ e + end_ticks (Audio f))
      ⊎ (nat_lt (1000000000 * (base_of_head h).den) (end_ticks y * (base_of_head h).num) ≡ true)) (sym (later_some e (Audio f) lt)) (at f.pts refl it.not_negative)
    where
      at : (s : ℤ) → f.pts ≡ s → pos 0 ≤ℤ s → (end_ticks (moved e (Audio f)) ≡ e + end_ticks (Audio f))
          ⊎ (nat_lt (1000000000 * (base_of_head h).den) (end_ticks (moved e (Audio f)) * (base_of_head h).num) ≡ true)
      at (pos p) g z =
          let l = length f.samples / f.channels in
          subst (λ (u : ℤ). (ticks (time_later e u +ℤ pos l) ≡ e + ticks (u +ℤ pos l))
          ⊎ (nat_lt (1000000000 * (base_of_head h).den) (ticks (time_later e u +ℤ pos l) * (base_of_head h).num) ≡ true)) (sym g) (moved_end e p l)
      at (negsuc p) g z = absurd (omega (arith, ints, z))
  ends_moved e (Video f) lt it = subst (λ (y : Item). (end_ticks y ≡ e + end_ticks (Video f))
      ⊎ (nat_lt (1000000000 * (base_of_head h).den) (end_ticks y * (base_of_head h).num) ≡ true)) (sym (later_some e (Video f) lt)) (at f.pts f.duration refl refl it.not_negative (it.lasts tt))
    where
      at : (s d : ℤ) → f.pts ≡ s → f.duration ≡ d → pos 0 ≤ℤ f.pts → f.pts <ℤ (f.pts +ℤ f.duration) → (end_ticks (moved e (Video f)) ≡ e + end_ticks (Video f))
          ⊎ (nat_lt (1000000000 * (base_of_head h).den) (end_ticks (moved e (Video f)) * (base_of_head h).num) ≡ true)
      at (pos p) (pos l) g k z i =
          subst (λ (u : ℤ). (ticks (time_later e u +ℤ f.duration) ≡ e + ticks (u +ℤ f.duration))
          ⊎ (nat_lt (1000000000 * (base_of_head h).den) (ticks (time_later e u +ℤ f.duration) * (base_of_head h).num) ≡ true)) (sym g)
          (subst (λ (u : ℤ). (ticks (time_later e (pos p) +ℤ u) ≡ e + ticks (pos p +ℤ u))
          ⊎ (nat_lt (1000000000 * (base_of_head h).den) (ticks (time_later e (pos p) +ℤ u) * (base_of_head h).num) ≡ true)) (sym k) (moved_end e p l))
      at (negsuc p) d g k z i = absurd (let y : pos 0 ≤ℤ negsuc p = subst (λ (u : ℤ). pos 0 ≤ℤ u) g z in omega (arith, ints, y))
      at (pos p) (negsuc l) g k z i = absurd (let y : f.pts <ℤ (f.pts +ℤ negsuc l) = subst (λ (u : ℤ). f.pts <ℤ (f.pts +ℤ u)) k i in omega (arith, ints, y))
  ends_moved e (Packet p) lt it = absurd (not_packet h it.fits)
    where
      not_packet : (g : StreamHead) → FitsFrames g (Packet p) → ⊥
      not_packet (AudioHead tb rate bits channels codec) f = f
      not_packet (VideoHead tb format width height sar_num sar_den) f = f
  ends_moved e (Trailer p) lt it = absurd (not_trailer h it.fits)
    where
      not_trailer : (g : StreamHead) → FitsFrames g (Trailer p) → ⊥
      not_trailer (AudioHead tb rate bits channels codec) f = f
      not_trailer (VideoHead tb format width height sar_num sar_den) f = f
  ends_moved e End lt it = absurd (not_end h it.fits)
    where
      not_end : (g : StreamHead) → FitsFrames g End → ⊥
      not_end (AudioHead tb rate bits channels codec) f = f
      not_end (VideoHead tb format width height sar_num sar_den) f = f
  ends_moved e Broken lt it = absurd (not_broken h it.fits)
    where
      not_broken : (g : StreamHead) → FitsFrames g Broken → ⊥
      not_broken (AudioHead tb rate bits channels codec) f = f
      not_broken (VideoHead tb format width height sar_num sar_den) f = f

  ends_later : (e : ℕ) (x : Item) → IsItemFor (Frames h) x → Ends e x
  ends_later zero x it = inl (omega arith)
  ends_later (suc e) x it = ends_moved (suc e) x (omega arith) it

  -- the last end so much later, or an item passes a limit
  pub last_or : (e b : ℕ) (xs : List Item) → All (IsItemFor (Frames h)) xs
      → (last_end e (map (later e) xs) ≡ e + last_end 0 xs) ⊎ (some_pass (passes_limits (Frames h)) b (map (later e) xs) ≡ true)
  last_or e b [] all = inl (omega arith)
  last_or e b (x ∷ []) all = elim (ends_later e x (All-head (IsItemFor (Frames h)) x [] all))
      as (λ _. (end_ticks (later e x) ≡ e + end_ticks x) ⊎ (some_pass (passes_limits (Frames h)) b (later e x ∷ []) ≡ true)) [
        | inl same ↦ inl same
        | inr long ↦ inr (first (passes_limits (Frames h) b (later e x)) false (or_right (nat_lt (2 ^ 40) (b + 1))
            (nat_lt (1000000000 * (base_of_head h).den) (end_ticks (later e x) * (base_of_head h).num)) long))
      ]
    where
      first : (p s : Bool) → p ≡ true → cond p true s ≡ true
      first true s f = refl
      first false s f = cc
  last_or e b (x ∷ y ∷ ys) all = elim (last_or e (b + 1) (y ∷ ys) (All-tail (IsItemFor (Frames h)) x (y ∷ ys) all))
      as (λ _. (last_end e (map (later e) (x ∷ y ∷ ys)) ≡ e + last_end 0 (x ∷ y ∷ ys)) ⊎ (some_pass (passes_limits (Frames h)) b (map (later e) (x ∷ y ∷ ys)) ≡ true)) [
        | inl same ↦ inl same
        | inr long ↦ inr (rest (passes_limits (Frames h) b (later e x)) (some_pass (passes_limits (Frames h)) (b + 1) (map (later e) (y ∷ ys))) long)
      ]
    where
      rest : (p s : Bool) → s ≡ true → cond p true s ≡ true
      rest true s f = refl
      rest false s f = f

-- limits --------------------------------------------------------------------------------------------------------------------

-- the stream within its limits, from the item of this number on
abbrev pub within_from : (ℕ → Item → Bool) → ℕ → Flow → Flow
within_from passes b s = record { items = before_pass passes b s.items; mark = cond (some_pass passes b s.items) broken s.mark }

module _ (passes : ℕ → Item → Bool) where
  one_more : (p : Bool) (y : Item) (xs zs : List Item) (s u : Bool) (m n : Mark)
      → (p ≡ false → (let r : Flow = record { items = xs; mark = cond s broken m } in r) ≡ record { items = zs; mark = cond u broken n })
      → (let r : Flow = record { items = cond p [] (y ∷ xs); mark = cond (cond p true s) broken m } in r) ≡ record { items = cond p [] (y ∷ zs); mark = cond (cond p true u) broken n }
  one_more true y xs zs s u m n h = refl
  one_more false y xs zs s u m n h = ap (λ (r : Flow). let q : Flow = record { items = y ∷ r.items; mark = r.mark } in q) (h refl)

  -- behind these items the same comes within the limits, or one of them passes a limit
  whole_same : (b : ℕ) (ys : List Item) (r s : Flow) → (some_pass passes b ys ≡ true) ⊎ (within_from passes (b + length ys) r ≡ within_from passes (b + length ys) s)
      → within_from passes b (followed_at ys whole r) ≡ within_from passes b (followed_at ys whole s)
  whole_same b [] r s (inl e) = cc
  whole_same b [] r s (inr e) = let z : b + 0 ≡ b = omega arith in subst (λ (k : ℕ). within_from passes k r ≡ within_from passes k s) z e
  whole_same b (y ∷ ys) r s h =
      one_more (passes b y) y (before_pass passes (b + 1) (ys ++ r.items)) (before_pass passes (b + 1) (ys ++ s.items)) (some_pass passes (b + 1) (ys ++ r.items))
      (some_pass passes (b + 1) (ys ++ s.items)) r.mark s.mark
      (λ f. whole_same (b + 1) ys r s (elim h as (λ _. (some_pass passes (b + 1) ys ≡ true) ⊎ (within_from passes (b + 1 + length ys) r ≡ within_from passes (b + 1 + length ys) s)) [
        | inl e ↦ inl (later_pass (passes b y) (some_pass passes (b + 1) ys) f e)
        | inr e ↦ inr (let z : b + length (y ∷ ys) ≡ b + 1 + length ys = omega arith in subst (λ (k : ℕ). within_from passes k r ≡ within_from passes k s) z e)
      ]))
    where
      later_pass : (p s : Bool) → p ≡ false → cond p true s ≡ true → s ≡ true
      later_pass true s f e = cc
      later_pass false s f e = e

  follow_same : (b : ℕ) (ys : List Item) (m : Mark) (r s : Flow) → (some_pass passes b ys ≡ true) ⊎ (within_from passes (b + length ys) r ≡ within_from passes (b + length ys) s)
      → within_from passes b (followed_at ys m r) ≡ within_from passes b (followed_at ys m s)
  follow_same b ys still_open r s h = refl
  follow_same b ys broken r s h = refl
  follow_same b ys whole r s h = whole_same b ys r s h

-- a stream goes on where it is whole, as its segment does
through_own : (ys : List Item) (m t : Mark) (v : Bool) (next : Flow) → t ≡ m → followed_at ys m (let_through t v next) ≡ followed_at ys m next
through_own ys still_open t v next e = refl
through_own ys broken t v next e = refl
through_own ys whole t v next e = ap (λ (k : Mark). followed_at ys whole (let_through k v next)) e

no_zeros : (h : StreamHead) (a b : ℕ) → b ≤ a → filled h a b ≡ []
no_zeros (AudioHead tb rate bits channels codec) a b le = frames_none rate bits channels a b le
no_zeros (VideoHead tb format width height sar_num sar_den) a b le = refl

module _ (h : StreamHead) (base : IsBase (base_of_head h)) (tick : ℕ) (some : 0 < tick) (ss : Ports) (all : ℕ) (valid : (p : ℕ) → p < all → IsValid (Frames h) (ss p)) where
  -- the segments of one stream from segment k on, which begins e ticks on
  pub one_same : (n k e end b : ℕ) → k + n ≤ all → min e 9223372036854775807 ≤ end
      → within_from (passes_limits (Frames h)) b (in_order (tick ∷ []) (output_of h tick 0) n k (e * tick) end (λ j. ss (j * 1 + 0)) (λ p. tail_of (ss p)))
      ≡ within_from (passes_limits (Frames h)) b (one_by_one n k e ss)
  one_same zero k e end b le from = refl
  one_same (suc n) k e end b le from =
      let out = output_of h tick 0 in
      let passes = passes_limits (Frames h) in
      let own : ℕ → Flow = λ j. ss (j * 1 + 0) in
      let tails : ℕ → Tail = λ p. tail_of (ss p) in
      let c = begin_in tick (e * tick) in
      let cut : c ≡ min e 9223372036854775807 = begin_whole tick e some in
      let port : k * 1 + 0 ≡ k = omega arith in
      let here : own k ≡ ss k = ap ss port in
      let xs = (ss k).items in
      let m = (ss k).mark in
      let last = last_end 0 (own k).items in
      let t = together 1 (k * 1) tails in
      let v = is_video h && is_lost 1 n (k + 1) own tails in
      let time = e * tick + latest (tick ∷ []) 1 (k * 1) tails in
      let next = in_order (tick ∷ []) out n (k + 1) time (c + last) own tails in
      let after = one_by_one n (k + 1) (last_end e (map (later e) xs)) ss in
      let none : filled h end c ≡ [] = no_zeros h end c (let g : c ≤ end = omega (arith, cut, from) in g) in
      let ends : last ≡ last_end 0 xs = ap (λ (s : Flow). last_end 0 s.items) here in
      let sum : e * tick + max 0 (last * tick) ≡ (e + last) * tick = omega arith in
      let long : time ≡ (e + last_end 0 xs) * tick = sum ∙ ap (λ (l : ℕ). (e + l) * tick) ends in
      let first : in_order (tick ∷ []) out (suc n) k (e * tick) end own tails ≡ followed_at (map (later e) xs) m next =
      ap (λ (zs : List Item). led_by zs (followed (map_stream (later c) (own k)) (let_through t v next))) none
      ∙ (ap (λ (s : Flow). followed (map_stream (later c) s) (let_through t v next)) here
      ∙ (ap (λ (ys : List Item). followed_at ys m (let_through t v next)) (map_same (later c) (later e) (λ x. ap (λ (j : ℕ). later j x) cut ∙ later_cut e x) xs)
      ∙ through_own (map (later e) xs) m t v next (ap (λ (s : Flow). s.mark) here))) in
      let there : k < all = omega (arith, le) in
      let count = b + length (map (later e) xs) in
      ap (λ (s : Flow). within_from passes b s) first
      ∙ follow_same passes b (map (later e) xs) m next after
      (elim (last_or h base e b xs (valid k there).shape.each)
      as (λ _. (some_pass passes b (map (later e) xs) ≡ true) ⊎ (within_from passes count next ≡ within_from passes count after)) [
        | inr past ↦ inl past
        | inl same ↦ inr (
            ap (λ (x : ℕ). within_from passes count (in_order (tick ∷ []) out n (k + 1) x (c + last) own tails)) long
            ∙ (one_same n (k + 1) (e + last_end 0 xs) (c + last) count (omega (arith, le)) (omega (arith, cut, ends))
            ∙ ap (λ (x : ℕ). within_from passes count (one_by_one n (k + 1) x ss)) (sym same))
            )
      ])

-- With one stream the segments are those of it, one by one.
pub one_kind : (h : StreamHead) (n : ℕ) (ss : Ports) → IsBase (base_of_head h) → ((p : ℕ) → p < n → IsValid (Frames h) (ss p))
    → within (passes_limits (Frames h)) (concatenated (h ∷ []) h 0 n ss) ≡ within (passes_limits (Frames h)) (one_by_one n 0 0 ss)
one_kind h n ss base valid =
    let tick = (base_of_head h).num * (1 * 1) in
    let some : 0 < tick = (let p = base.num_positive in omega (arith, p)) in
    let zero_time : 0 * tick ≡ 0 = omega arith in
    subst (λ (x : ℕ). within_from (passes_limits (Frames h)) 0 (in_order (tick ∷ []) (output_of h tick 0) n 0 x 0 (λ j. ss (j * 1 + 0)) (λ p. tail_of (ss p)))
    ≡ within_from (passes_limits (Frames h)) 0 (one_by_one n 0 0 ss)) zero_time
    (one_same h base tick some ss n valid n 0 0 0 0 (omega arith) (omega arith))
