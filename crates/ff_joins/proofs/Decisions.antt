-- What comes next of streams of sound side by side.
use Rattle.std.proofs.Common.{◌≡◌, ℕ, suc, ℤ, ◌+◌, ◌<◌, ◌≤◌, ◌⊎◌, inl, inr, Bool, true, false, Option, Some, None, List, [], ◌∷◌}
use Rattle.std.proofs.Common.{length, take, refl, ap, sym, ◌∙◌, arith}
use Rattle.std.proofs.lemmas.Bool.{cases_lt}
use Rattle.ff_frame.specs.declared.head.StreamHead.{StreamHead}
use Rattle.ff_stream.specs.declared.item.Item.{Item}
use Rattle.ff_stream.specs.declared.item.Item.TheVariants.{Audio, Video, Packet, Trailer, End, Broken}
use Rattle.ff_stream.specs.declared.item.Lane.{Lane}
use Rattle.ff_stream.specs.declared.item.Lane.TheVariants.{Frames}
use Rattle.ff_stream.specs.Ports.{nothing}
use Rattle.ff_stream.specs.Stream.{Mark, still_open, whole, broken, Stream}
use Rattle.ff_stream.specs.Within.{passes_limits}
use Rattle.ff_filter.specs.declared.after.After.{After}
use Rattle.ff_filter.specs.declared.after.After.TheVariants.{More, Whole, Broke}
use Rattle.ff_filter.specs.Joins.{Flow, Ports, silence, one, before}
use Rattle.ff_filter.specs.laws.Limits.{limited}
use Rattle.ff_filter.specs.Made.{behind, is_over, left}
use Rattle.ff_filter.specs.Views.{Gave, Waits, closes}
use Rattle.ff_joins.specs.declared.join.Join.{Join}
use Rattle.ff_joins.specs.Joined.{Row, row_stream, rows_to, rows_in, join_mark, frames_in, frames_to, joined_rows, flattened, sound_frame}
use Rattle.ff_joins.specs.JoinOptions.{rate_of, bits_of, channels_of}
use Rattle.ff_joins.specs.laws.JoinedLaws.{rows_few, rows_many}
use Rattle.ff_joins.specs.laws.JoinBreaks.{EndsAt, LostAt, mark_whole, mark_lost, whole_by, lost_by}
use Rattle.ff_joins.specs.laws.Lots.{Lot, lots, rows_kept, row_then, all_come, start_after, frame_on, still_joined, lots_view, last_port, skipped, no_rows, has_started}
use Rattle.ff_joins.specs.laws.JoinSeen.{join_seen}
use Rattle.ff_joins.specs.laws.JoinDrawing.{due, frame_with, made_on, kept_rows, HaveAll, IsNextFrame, StandsSo, IsLast}
use Rattle.ff_joins.proofs.Settling.{long_first, short_first}
use Rattle.ff_joins.proofs.Framing.{rows_long}
use Rattle.ff_joins.proofs.FrameSteps.{dropped_rows, joined_same, whole_first, few_open, last_one, none_left, take_all, come_skipped, come_many, come_closed}
use Rattle.ff_joins.proofs.FrameSteps.{come_silent, first_kept}

-- the start of the first item is known where a row of it waits
start_known : (first : Option ℤ) (l : Lot) → has_started first l ≡ true → 0 < l.count → (t : Flow) → start_after first t ≡ start_after first nothing
start_known (Some z) l s some t = refl
start_known None l s some t = at (rows_kept l) s (rows_long l)
  where
    at : (rows : List Row) → no_rows rows ≡ true → length rows ≡ l.count → start_after None t ≡ start_after None nothing
    at [] e n = absurd (omega (arith, n, some))
    at (r ∷ rs) e n = cc

pub due_is : (m : Join) (count : ℕ) → due m count ≡ frame_with m (flattened (take count (rows_to (last_port m.inlets.items) (kept_rows (lots m.inlets.items)))))
due_is m count =
    let xs = flattened (take count (rows_to (last_port m.inlets.items) (kept_rows (lots m.inlets.items)))) in
    let e : m.given + 0 ≡ m.given = omega arith in
    ap (λ (g : ℕ). sound_frame (start_after m.first nothing) (rate_of m.head) (bits_of m.head) (channels_of m.head) g (take count (rows_to (last_port m.inlets.items)
    (kept_rows (lots m.inlets.items))))) e

next_number : (head : StreamHead) (given : ℕ) (z : ℤ) → (λ (i : ℕ) (rows : List Row). frame_on head given z (suc i) rows) ≡ frame_on head (given + 1) z
next_number head given z j i rows = sound_frame z (rate_of head) (bits_of head) (channels_of head) (e j) rows
  where
    e : given + suc i ≡ given + 1 + i
    e = omega arith

-- a mark as it stands behind what came
mark_there : (rows : List Row) (s : Stream Row) (a : After) → a ≡ Whole → (row_then rows a s).mark ≡ whole
mark_there rows s a e = ap (λ (b : After). (row_then rows b s).mark) e

mark_gone : (rows : List Row) (s : Stream Row) (a : After) → a ≡ Broke → (row_then rows a s).mark ≡ broken
mark_gone rows s a e = ap (λ (b : After). (row_then rows b s).mark) e

silent_whole : (rows : List Row) (c : ℕ) (a : After) → (row_then rows a (row_stream c nothing)).mark ≡ whole → a ≡ Whole
silent_whole rows c More e = cc
silent_whole rows c Whole e = refl
silent_whole rows c Broke e = cc

silent_broken : (rows : List Row) (c : ℕ) (a : After) → (row_then rows a (row_stream c nothing)).mark ≡ broken → a ≡ More → ⊥
silent_broken rows c More e f = cc
silent_broken rows c Whole e f = cc
silent_broken rows c Broke e f = cc

only_broke : (a : After) → (a ≡ Whole → ⊥) → (a ≡ More → ⊥) → a ≡ Broke
only_broke More w o = absurd (o refl)
only_broke Whole w o = absurd (w refl)
only_broke Broke w o = refl

abbrev framed : (ℕ → List Row → Item) → List Row → Mark → Flow
framed make rows k = record { items = frames_to make rows (frames_in k (length rows)); mark = k }

module _ (m : Join) where
  abbrev n : ℕ
  n = last_port m.inlets.items

  abbrev ls : ℕ → Lot
  ls = lots m.inlets.items

  there : (p : ℕ) → p < suc n → p < length m.inlets.items
  there p lt = let t = m.there in omega (arith, lt, t)

  back : (p : ℕ) → p < length m.inlets.items → p < suc n
  back p lt = let t = m.there in omega (arith, lt, t)

  abbrev make : Ports → ℕ → List Row → Item
  make ext = frame_on m.head m.given (start_after m.first (ext 0))

  first_same : (count : ℕ) → HaveAll m count → 0 < count → (ext : Ports) → start_after m.first (ext 0) ≡ start_after m.first nothing
  first_same count all some ext = let s = m.started in let a = all 0 m.there in start_known m.first (ls 0) s (omega (arith, some, a)) (ext 0)

  due_first : (count : ℕ) → HaveAll m count → 0 < count → (ext : Ports) → make ext 0 (take count (rows_to n (all_come ls ext))) ≡ due m count
  due_first count all some ext =
      ap (λ (rs : List Row). make ext 0 rs) (first_kept ls n count ext (λ p lt. all p (there p lt)))
      ∙ ap (λ (z : ℤ). frame_on m.head m.given z 0 (take count (rows_to n (kept_rows ls)))) (first_same count all some ext)

  pub next_whole : HaveAll m 1024 → IsNextFrame m 1024 More
  next_whole all ext =
      let ss = all_come ls ext in
      let make' : ℕ → List Row → Item = λ i. make ext (suc i) in
      let made : Item → Flow → Flow = λ x r. record { items = x ∷ r.items; mark = r.mark } in
      whole_first n (make ext) ss (λ p lt. let a = all p (there p lt) in let c = come_many ls ext p in omega (arith, a, c))
      ∙ (ap (λ (x : Item). made x (joined_rows n make' (dropped_rows 1024 ss))) (due_first 1024 all (omega arith) ext)
      ∙ (ap (λ (f : ℕ → List Row → Item). made (due m 1024) (joined_rows n f (dropped_rows 1024 ss))) (next_number m.head m.given (start_after m.first (ext 0)))
      ∙ ap (λ (r : Flow). made (due m 1024) r) (sym (joined_same n (frame_on m.head (m.given + 1) (start_after m.first (ext 0))) (all_come (λ p. skipped 1024
      (ls p)) ext) (dropped_rows 1024 ss)
      (λ p lt. come_skipped ls 1024 ext p (all p (there p lt)))))))

  module _ (count : ℕ) (all : HaveAll m count) where
    ends_there : StandsSo m count Whole → (ext : Ports) → (p : ℕ) × EndsAt n (all_come ls ext) p
    ends_there s ext = (
      s.0,
      record {
        there = back s.0 s.1;
        is = mark_there (rows_kept (ls s.0)) (row_stream (ls s.0).channels (ext s.0)) (ls s.0).after s.3;
        fewest = λ q lt.
            let a = come_closed ls ext s.0 (inl s.3) in
            let b = come_many ls ext q in
            let d = all q (there q lt) in
            let e = s.2 in
            omega (arith, a, b, d, e);
      },
    )

    pub so_whole : StandsSo m count Whole → (ext : Ports) → join_mark n (all_come ls ext) ≡ whole
    so_whole s ext = let e = ends_there s ext in mark_whole n (all_come ls ext) e.0 e.1

    so_long : StandsSo m count Whole → (ext : Ports) → length (rows_to n (all_come ls ext)) ≡ count
    so_long s ext =
        let a = come_closed ls ext s.0 (inl s.3) in
        let e = s.2 in
        let few = rows_few n (all_come ls ext) s.0 (back s.0 s.1) in
        let many = rows_many n (all_come ls ext) count (λ p lt. let b = come_many ls ext p in let d = all p (there p lt) in omega (arith, b, d)) in
        omega (arith, a, e, few, many)

    whole_made : StandsSo m count Whole → (ext : Ports) → made_on m m.given ls ext ≡ framed (make ext) (rows_to n (all_come ls ext)) whole
    whole_made s ext = ap (λ (k : Mark). framed (make ext) (rows_to n (all_come ls ext)) k) (so_whole s ext)

    pub next_last : StandsSo m count Whole → 0 < count → count < 1024 → IsNextFrame m count Whole
    next_last s some few ext =
        let rows = rows_to n (all_come ls ext) in
        let long : length rows ≡ count = so_long s ext in
        let made : List Item → Flow = λ xs. record { items = xs; mark = whole } in
        whole_made s ext
        ∙ (ap made (last_one (make ext) rows (omega (arith, long, some)) (omega (arith, long, few)))
        ∙ (ap (λ (rs : List Row). made (make ext 0 rs ∷ [])) (take_all rows 1024 (omega (arith, long, few)) ∙ sym (take_all rows count (omega (arith, long))))
        ∙ ap (λ (x : Item). made (x ∷ [])) (due_first count all some ext)))

    pub next_end : StandsSo m count Whole → count ≡ 0 → (ext : Ports) → made_on m m.given ls ext ≡ one End
    next_end s zero_long ext =
        let rows = rows_to n (all_come ls ext) in
        let long : length rows ≡ count = so_long s ext in
        let made : List Item → Flow = λ xs. record { items = xs; mark = whole } in
        whole_made s ext ∙ ap made (none_left (make ext) rows (omega (arith, long, zero_long)))

    module _ (at_least : (p : ℕ) × (p < length m.inlets.items) × ((lots m.inlets.items p).count ≡ count)) where
      so_broke : StandsSo m count Broke → (q : ℕ) → q < length m.inlets.items → (ls q).count ≡ count → (ls q).after ≡ Broke
      so_broke s q lt e = only_broke (ls q).after (s.0 q lt e) (s.1 q lt e)

      lost_there : StandsSo m count Broke → (ext : Ports) → LostAt n (all_come ls ext) at_least.0
      lost_there s ext =
          let p = at_least.0 in
          let mine = so_broke s p at_least.1 at_least.2 in
          record {
            there = back p at_least.1;
            is = mark_gone (rows_kept (ls p)) (row_stream (ls p).channels (ext p)) (ls p).after mine;
            fewest = λ q lt.
                let a = come_closed ls ext p (inr mine) in
                let b = come_many ls ext q in
                let d = all q (there q lt) in
                let e = at_least.2 in
                elim (cases_lt count (ls q).count) as (λ _. (rows_in (all_come ls ext) p < rows_in (all_come ls ext) q) ⊎ (((all_come ls ext q).mark ≡ broken) ×
                (rows_in (all_come ls ext) p ≤ rows_in (all_come ls ext) q))) [
                  | inl less ↦ inl (omega (arith, a, b, e, less))
                  | inr le ↦ inr (
                    mark_gone (rows_kept (ls q)) (row_stream (ls q).channels (ext q)) (ls q).after (so_broke s q (there q lt) (omega (arith, d, le))),
                    omega (arith, a, b, d, e),
                  )
                ];
          }

      pub so_lost : StandsSo m count Broke → (ext : Ports) → join_mark n (all_come ls ext) ≡ broken
      so_lost s ext = mark_lost n (all_come ls ext) at_least.0 (lost_there s ext)

      pub next_lost : StandsSo m count Broke → count < 1024 → (ext : Ports) → made_on m m.given ls ext ≡ one Broken
      next_lost s few ext =
          let rows = rows_to n (all_come ls ext) in
          let mine = so_broke s at_least.0 at_least.1 at_least.2 in
          let a = come_closed ls ext at_least.0 (inr mine) in
          let e = at_least.2 in
          let short = rows_few n (all_come ls ext) at_least.0 (back at_least.0 at_least.1) in
          let made : List Item → Flow = λ xs. record { items = xs; mark = broken } in
          ap (λ (k : Mark). framed (make ext) rows k) (so_lost s ext)
          ∙ ap made (few_open broken (make ext) rows (λ z. cc) (omega (arith, a, e, short, few)))

    pub so_open : StandsSo m count More → join_mark n (all_come ls silence) ≡ still_open
    so_open s = at (join_mark n (all_come ls silence)) refl
      where
        at : (k : Mark) → join_mark n (all_come ls silence) ≡ k → join_mark n (all_come ls silence) ≡ still_open
        at still_open e = e
        at whole e =
            let h = whole_by n (all_come ls silence) e in
            let p = h.0 in
            let f = h.1.fewest s.0.0 (back s.0.0 s.0.1) in
            let a = come_silent ls p in
            let b = come_silent ls s.0.0 in
            let d = all p (there p h.1.there) in
            let g = s.0.2 in
            absurd (s.1 p (there p h.1.there) (omega (arith, f, a, b, d, g)) (silent_whole (rows_kept (ls p)) (ls p).channels (ls p).after h.1.is))
        at broken e =
            let h = lost_by n (all_come ls silence) e in
            let p = h.0 in
            let a = come_silent ls p in
            let b = come_silent ls s.0.0 in
            let d = all p (there p h.1.there) in
            let g = s.0.2 in
            elim (h.1.fewest s.0.0 (back s.0.0 s.0.1)) as (λ _. join_mark n (all_come ls silence) ≡ still_open) [
              | inl less ↦ absurd (omega (arith, less, a, b, d, g))
              | inr both ↦ absurd (silent_broken (rows_kept (ls s.0.0)) (ls s.0.0).channels (ls s.0.0).after both.0 s.0.3)
            ]

    pub next_none : StandsSo m count More → count < 1024 → made_on m m.given ls silence ≡ nothing
    next_none s few =
        let rows = rows_to n (all_come ls silence) in
        let short = rows_few n (all_come ls silence) s.0.0 (back s.0.0 s.0.1) in
        let b = come_silent ls s.0.0 in
        let g = s.0.2 in
        let made : List Item → Flow = λ xs. record { items = xs; mark = still_open } in
        ap (λ (k : Mark). framed (make silence) rows k) (so_open s)
        ∙ ap made (few_open still_open (make silence) rows (λ z. cc) (omega (arith, b, g, short, few)))

-- in the view ------------------------------------------------------------------------------------------------------------

limited_behind : (passes : ℕ → Item → Bool) (k : ℕ) (a : After) (t : Flow) → limited passes k (behind a t) ≡ behind a (limited passes k t)
limited_behind passes k More t = refl
limited_behind passes k Whole t = refl
limited_behind passes k Broke t = refl

module _ (m : Join) (more : m.after ≡ More) (going : m.ended ≡ false) where
  rest_is : (ext : Ports) → (join_seen m).rest ext 0 ≡ limited (passes_limits (Frames m.head)) m.given (made_on m m.given (lots m.inlets.items) ext)
  rest_is ext =
      let s = still_joined m.head (last_port m.inlets.items) m.first m.given (lots m.inlets.items) ext in
      ap (λ (b : Bool). left [] b m.after s) going ∙ ap (λ (a : After). left [] false a s) more

  pub rest_end : ((ext : Ports) → made_on m m.given (lots m.inlets.items) ext ≡ one End) → IsLast m End
  rest_end h = (refl, λ ext. rest_is ext ∙ ap (λ (r : Flow). limited (passes_limits (Frames m.head)) m.given r) (h ext))

  pub rest_lost : ((ext : Ports) → made_on m m.given (lots m.inlets.items) ext ≡ one Broken) → IsLast m Broken
  rest_lost h = (refl, λ ext. rest_is ext ∙ ap (λ (r : Flow). limited (passes_limits (Frames m.head)) m.given r) (h ext))

  pub rest_none : made_on m m.given (lots m.inlets.items) silence ≡ nothing → (join_seen m).rest silence 0 ≡ nothing
  rest_none h = rest_is silence ∙ ap (λ (r : Flow). limited (passes_limits (Frames m.head)) m.given r) h

  module _ (count : ℕ) (after : After) (next : IsNextFrame m count after) where
    pub rest_cut : passes_limits (Frames m.head) m.given (due m count) ≡ true → IsLast m Broken
    rest_cut long = (
      refl,
      λ ext. rest_is ext
          ∙ (ap (λ (r : Flow). limited (passes_limits (Frames m.head)) m.given r) (next ext)
          ∙ long_first (passes_limits (Frames m.head)) m.given (due m count)
          (behind after (made_on m (m.given + 1) (λ p. skipped count (lots m.inlets.items p)) ext)) refl long),
    )

    pub rest_frame : passes_limits (Frames m.head) m.given (due m count) ≡ false → (ext : Ports) → (join_seen m).rest ext 0
        ≡ before (due m count) (left [] false after (limited (passes_limits (Frames m.head)) (m.given + 1) (made_on m (m.given + 1) (λ p. skipped count
        (lots m.inlets.items p)) ext)))
    rest_frame short ext =
        let passes = passes_limits (Frames m.head) in
        let t = made_on m (m.given + 1) (λ p. skipped count (lots m.inlets.items p)) ext in
        rest_is ext
        ∙ (ap (λ (r : Flow). limited passes m.given r) (next ext)
        ∙ (short_first passes m.given (due m count) (behind after t) refl short
        ∙ ap (λ (r : Flow). before (due m count) r) (limited_behind passes (m.given + 1) after t)))

pub waits_there : (m : Join) → m.after ≡ More → m.ended ≡ false → made_on m m.given (lots m.inlets.items) silence ≡ nothing → Waits (join_seen m) (join_seen m) 0
waits_there m more going h = record {
  same = record { ports = record { ins = refl; outs = refl }; rest = λ ext q on. refl; shut = λ p. refl; ended = λ q. refl; stopped = λ q. refl };
  nothing_left = rest_none m more going h;
}

-- the closing item is given
pub gave_last : (m : Join) (x : Item) → IsLast m x → m.ended ≡ false
    → Gave (join_seen m) (lots_view (join_seen m).ins m.head (last_port m.inlets.items) m.first m.given (lots m.inlets.items) true m.stopped m.after) 0 x
gave_last m x last going = record {
  ports = record { ins = refl; outs = refl };
  open_before = going;
  rest_here = λ ext. last.1 ext ∙ sym (alone x last.0);
  rest_others = λ ext o lt no. absurd (no (omega (arith, lt)));
  shut = λ p. refl;
  ended_here = sym last.0;
  ended_others = λ o lt no. absurd (no (omega (arith, lt)));
  stopped = λ o. refl;
}
  where
    alone : (y : Item) → closes y ≡ true → before y nothing ≡ one y
    alone (Audio f) e = cc
    alone (Video f) e = cc
    alone (Packet f) e = cc
    alone (Trailer f) e = cc
    alone End e = refl
    alone Broken e = refl

-- a frame is given
pub gave_frame : (m : Join) (count : ℕ) (after : After) (lanes : List Lane) (k : ℕ) (ls : ℕ → Lot) (going : m.ended ≡ false)
    → ((ext : Ports) → (join_seen m).rest ext 0
    ≡ before (due m count) (left [] false after (limited (passes_limits (Frames m.head)) (m.given + 1) (made_on m (m.given + 1) (λ p. skipped count
    (lots m.inlets.items p)) ext))))
    → lanes ≡ (join_seen m).ins → k ≡ last_port m.inlets.items → ((p : ℕ) → ls p ≡ skipped count (lots m.inlets.items p))
    → Gave (join_seen m) (lots_view lanes m.head k m.first (m.given + 1) ls m.ended m.stopped after) 0 (due m count)
gave_frame m count after lanes k ls going h lane last same = record {
  ports = record { ins = lane; outs = refl };
  open_before = going;
  rest_here = λ ext. h ext ∙ ap (λ (r : Flow). before (due m count) r) (sym (
      ap (λ (b : Bool). left [] b after (still_joined m.head k m.first (m.given + 1) ls ext)) going
      ∙ (ap (λ (j : ℕ). left [] false after (still_joined m.head j m.first (m.given + 1) ls ext)) last
      ∙ ap (λ (ks : ℕ → Lot). left [] false after (still_joined m.head (last_port m.inlets.items) m.first (m.given + 1) ks ext)) (λ i p. same p i))));
  rest_others = λ ext o lt no. absurd (no (omega (arith, lt)));
  shut = λ p. ap (λ (l : Lot). is_over l.after) (same p);
  ended_here = going;
  ended_others = λ o lt no. absurd (no (omega (arith, lt)));
  stopped = λ o. refl;
}
