-- Of valid segments, one after another within the limits, the items are in shape.
use Rattle.std.proofs.Common.{◌≡◌, ℕ, zero, suc, ◌+◌, ◌*◌, ◌^◌, ◌<◌, ◌≤◌, min, Bool, true, false, cond, List, [], ◌∷◌, length, All}
use Rattle.std.proofs.Common.{refl, ap, subst, ◌∙◌, arith}
use Rattle.std.specs.Prelude.{◌&&◌, slice_index}
use Rattle.ff_frame.specs.declared.head.StreamHead.{StreamHead}
use Rattle.ff_stream.specs.declared.item.Item.{Item}
use Rattle.ff_stream.specs.declared.item.Lane.TheVariants.{Frames}
use Rattle.ff_stream.specs.Stream.{Mark, still_open, whole, broken}
use Rattle.ff_stream.specs.Lanes.{AreInShape, IsValid, EndsInTime}
use Rattle.ff_stream.specs.Within.{some_pass, before_pass, within, passes_limits}
use Rattle.ff_stream.specs.laws.WithinLaws.{within_valid}
use Rattle.ff_filter.specs.Joins.{Flow}
use Rattle.ff_filter.specs.Options.{is_video}
use Rattle.ff_concat.specs.Following.{followed_at}
use Rattle.ff_concat.specs.Silences.{filled}
use Rattle.ff_concat.specs.Tails.{Tail, last_end, together, latest}
use Rattle.ff_concat.specs.Concats.{begin_in, is_lost, let_through, in_order}
use Rattle.ff_concat.specs.laws.Fed.{CanFollow}
use Rattle.ff_concat.specs.laws.Tracks.{output_of}
use Rattle.ff_concat.proofs.Begins.{ends_before, none_later}
use Rattle.ff_concat.proofs.LaterShapes.{shifted, later_fine, last_early, last_later}
use Rattle.ff_concat.proofs.Shapes.{IsFine, none_fine, fine_from, append_fine}
use Rattle.ff_concat.proofs.SilenceShapes.{filled_fine, filled_end}

module _ (h : StreamHead) (can : CanFollow h) where
  abbrev passes : ℕ → Item → Bool
  passes = passes_limits (Frames h)

  -- what comes behind the items of a segment
  through_fine : (m : Mark) (lost : Bool) (e g : ℕ) (next : Flow) → IsFine h e (before_pass passes g next.items)
      → IsFine h e (before_pass passes g (let_through m lost next).items)
  through_fine whole lost e g next f = f
  through_fine broken lost e g next f = none_fine h e
  through_fine still_open true e g next f = none_fine h e
  through_fine still_open false e g next f = none_fine h e

  behind_fine : (c g : ℕ) (xs : List Item) (m : Mark) (next : Flow) → AreInShape (Frames h) xs
      → (some_pass passes g (shifted c xs) ≡ false → IsFine h (last_end c (shifted c xs)) (before_pass passes (g + length (shifted c xs)) next.items))
      → IsFine h c (before_pass passes g (followed_at (shifted c xs) m next).items)
  behind_fine c g xs still_open next s more = later_fine h can.base c g xs s.each s.in_order
  behind_fine c g xs broken next s more = later_fine h can.base c g xs s.each s.in_order
  behind_fine c g xs whole next s more = append_fine h passes c g (shifted c xs) next.items (later_fine h can.base c g xs s.each s.in_order) more

  module _ (tick_list : List ℕ) (q : ℕ) (there : q < length tick_list) (some : 0 < slice_index tick_list q) (own : ℕ → Flow) (ts : ℕ → Tail) (all : ℕ)
      (valid : (k : ℕ) → k < all → IsValid (Frames h) (own k)) (ends : (k : ℕ) → k < all → (ts (k * length tick_list + q)).end ≡ last_end 0 (own k).items) where
    abbrev tick : ℕ
    tick = slice_index tick_list q

    -- where no item of a segment passes a limit, it ends before the next begins
    next_begins : (k time g : ℕ) → k < all → some_pass passes g (shifted (begin_in tick time) (own k).items) ≡ false
        → begin_in tick time + (ts (k * length tick_list + q)).end ≤ begin_in tick (time + latest tick_list (length tick_list) (k * length tick_list) ts)
    next_begins k time g lt none =
        let c = begin_in tick time in
        let p = k * length tick_list in
        let small : c ≤ 9223372036854775807 = omega arith in
        let early = last_early h can.base c g (shifted c (own k).items) small none in
        let is = last_later h can.base c g (own k).items (valid k lt).shape.each none in
        let end = ends k lt in
        let less = ends_before tick time (latest tick_list (length tick_list) p ts) (ts (p + q)).end some (none_later tick_list (length tick_list) p ts q there) in
        capped (c + (ts (p + q)).end) (begin_in tick (time + latest tick_list (length tick_list) p ts)) (omega (arith, early, is, end)) less
      where
        capped : (a b : ℕ) → a ≤ 9223372036854775807 → min a 9223372036854775807 ≤ b → a ≤ b
        capped a b early le = omega (arith, early, le)

    pub segments_fine : (n k time end g : ℕ) → k + n ≤ all → end ≤ begin_in tick time
        → IsFine h end (before_pass passes g (in_order tick_list (output_of h tick q) n k time end own ts).items)
    segments_fine zero k time end g le from = none_fine h end
    segments_fine (suc n) k time end g le from =
        let w = length tick_list in
        let out = output_of h tick q in
        let c = begin_in tick time in
        let p = k * w in
        let xs = (own k).items in
        let zs = filled h end c in
        let lost = is_video h && is_lost w n (k + 1) own ts in
        let next = in_order tick_list out n (k + 1) (time + latest tick_list w p ts) (c + (ts (p + q)).end) own ts in
        let rest = let_through (together w p ts) lost next in
        let lt : k < all = omega (arith, le) in
        let s = (valid k lt).shape in
        append_fine h passes end g zs (followed_at (shifted c xs) (own k).mark rest).items (filled_fine h passes end c g can.zeros)
        (λ none.
        fine_from h (last_end end zs) c (before_pass passes (g + length zs) (followed_at (shifted c xs) (own k).mark rest).items) (filled_end h end c can.zeros from)
        (behind_fine c (g + length zs) xs (own k).mark rest s
        (λ early.
        let l = last_later h can.base c (g + length zs) xs s.each early in
        let same : c + (ts (p + q)).end ≡ last_end c (shifted c xs) = (let e = ends k lt in omega (arith, e, l)) in
        subst (λ (e : ℕ). IsFine h e (before_pass passes (g + length zs + length (shifted c xs)) rest.items)) same
        (through_fine (together w p ts) lost (c + (ts (p + q)).end) (g + length zs + length (shifted c xs)) next
        (segments_fine n (k + 1) (time + latest tick_list w p ts) (c + (ts (p + q)).end) (g + length zs + length (shifted c xs)) (omega (arith, le))
        (next_begins k time (g + length zs) lt early))))))

  -- what is in shape up to the limits is valid up to there ---------------------------------------------------------------------

  -- what passes no limit stays
  again : (g : ℕ) (xs : List Item) → before_pass passes g (before_pass passes g xs) ≡ before_pass passes g xs
  again g [] = refl
  again g (x ∷ xs) = at (passes g x) refl (again (g + 1) xs)
    where
      at : (b : Bool) → passes g x ≡ b → before_pass passes (g + 1) (before_pass passes (g + 1) xs) ≡ before_pass passes (g + 1) xs
          → before_pass passes g (cond b [] (x ∷ before_pass passes (g + 1) xs)) ≡ cond b [] (x ∷ before_pass passes (g + 1) xs)
      at true e more = refl
      at false e more = ap (λ (b : Bool). cond b [] (x ∷ before_pass passes (g + 1) (before_pass passes (g + 1) xs))) e ∙ ap (λ (ys : List Item). x ∷ ys) more

  pub fine_valid : (s : Flow) (e : ℕ) → IsFine h e (before_pass passes 0 s.items) → IsValid (Frames h) (within passes s)
  fine_valid s e f =
      let cut : Flow = within passes s in
      let twice = within_valid (Frames h) cut (record { each = f.each; in_order = f.order }) in
      let same = again 0 s.items in
      record {
        shape = subst (λ (xs : List Item). AreInShape (Frames h) xs) same twice.shape;
        few = subst (λ (xs : List Item). length xs ≤ 2 ^ 40) same twice.few;
        in_time = subst (λ (xs : List Item). All (EndsInTime (Frames h)) xs) same twice.in_time;
      }
