-- Streams of sound side by side keep the broken rule.
use Rattle.std.specs.Prelude.{◌≡◌, ◌≢◌, ℕ, zero, suc, ◌/◌, ◌+◌, ◌<◌, ◌≤◌, ◌⊎◌, Bool, true, false, ◌&&◌, nat_lt, nat_le, ℤ, List, [], ◌∷◌, ◌++◌}
use Rattle.std.specs.Prelude.{map, length, refl}
use Rattle.std.proofs.Common.{inl, inr, ap, sym, ◌∙◌, subst, arith, append_assoc}
use Rattle.std.proofs.lemmas.Bool.{or_parts, le-leb}
use Rattle.std.proofs.lemmas.Bool.Decides.{nat_tests}
use mathlib.Core.List.{IsPrefix}
use Rattle.ff_stream.specs.declared.item.Item.{Item}
use Rattle.ff_stream.specs.Stream.{Mark, still_open, whole, broken, Stream, LiesBelow, opened, opened_mark, is_broken}
use Rattle.ff_stream.specs.Ports.{stream_at, AllBelow}
use Rattle.ff_stream.specs.laws.Order.{prefix_self, below_items, stream_at-opened}
use Rattle.ff_stream.specs.laws.Breaks.{KeepsBrokenRule}
use Rattle.ff_filter.specs.Joins.{Flow, Ports}
use Rattle.ff_joins.specs.Tests.{all_to, not_all, least_at}
use Rattle.ff_joins.specs.Joined.{Row, rows_of, all_rows_of, row_stream, side_by_side, rows_to, rows_in}
use Rattle.ff_joins.specs.Joined.{join_mark, frames_in, frames_to, joined_rows, first_start, sound_frame, side_to_side}
use Rattle.ff_joins.specs.laws.JoinedLaws.{rows_few}
use Rattle.ff_joins.specs.laws.JoinBreaks.{lasts, mark_whole, whole_by, lost_by, lost_here, joined-keeps, closed_stays}

-- whoever isn't told of a break ------------------------------------------------------------------------------------------

abbrev pub opened_rows : (ℕ → Stream Row) → ℕ → Stream Row
opened_rows ss p = opened (ss p)

rows_blind : (n : ℕ) (ss : ℕ → Stream Row) → rows_to n (opened_rows ss) ≡ rows_to n ss
rows_blind zero ss = refl
rows_blind (suc n) ss = ap (λ (rows : List Row). side_by_side rows (ss (suc n)).items) (rows_blind n ss)

opened_whole : (m : Mark) → opened_mark m ≡ whole → m ≡ whole
opened_whole still_open e = cc
opened_whole whole e = refl
opened_whole broken e = cc

pub told : (n : ℕ) (ss : ℕ → Stream Row) → join_mark n (opened_rows ss) ≡ whole → join_mark n ss ≡ whole
told n ss e = let h = whole_by n (opened_rows ss) e in mark_whole n ss h.0
    (record { there = h.1.there; is = opened_whole (ss h.0).mark h.1.is; fewest = h.1.fewest })

pub untold : (n : ℕ) (ss : ℕ → Stream Row) → join_mark n ss ≡ whole → join_mark n (opened_rows ss) ≡ whole
untold n ss e = let h = whole_by n ss e in mark_whole n (opened_rows ss) h.0 (record { there = h.1.there; is = ap opened_mark h.1.is; fewest = h.1.fewest })

floor_of : (m : Mark) (k : ℕ) → m ≢ whole → frames_in m k ≡ k / 1024
floor_of still_open k n = refl
floor_of whole k n = absurd (n refl)
floor_of broken k n = refl

frames_blind : (n : ℕ) (ss : ℕ → Stream Row) (k : ℕ) → frames_in (join_mark n (opened_rows ss)) k ≡ frames_in (join_mark n ss) k
frames_blind n ss k = at (join_mark n ss) refl
  where
    at : (m : Mark) → join_mark n ss ≡ m → frames_in (join_mark n (opened_rows ss)) k ≡ frames_in (join_mark n ss) k
    at still_open e = floor_of (join_mark n (opened_rows ss)) k (λ w. let c : still_open ≡ whole = sym e ∙ told n ss w in cc)
        ∙ sym (floor_of (join_mark n ss) k (λ w. let c : still_open ≡ whole = sym e ∙ w in cc))
    at whole e = ap (λ (m : Mark). frames_in m k) (untold n ss e ∙ sym e)
    at broken e = floor_of (join_mark n (opened_rows ss)) k (λ w. let c : broken ≡ whole = sym e ∙ told n ss w in cc)
        ∙ sym (floor_of (join_mark n ss) k (λ w. let c : broken ≡ whole = sym e ∙ w in cc))

pub items_blind : (n : ℕ) (make : ℕ → List Row → Item) (ss : ℕ → Stream Row) → (joined_rows n make (opened_rows ss)).items ≡ (joined_rows n make ss).items
items_blind n make ss =
    ap (λ (rows : List Row). frames_to make rows (frames_in (join_mark n (opened_rows ss)) (length rows))) (rows_blind n ss)
    ∙ ap (λ k. frames_to make (rows_to n ss) k) (frames_blind n ss (length (rows_to n ss)))

-- an open output may still become whole -------------------------------------------------------------------------------------

pub record MayEnd (n : ℕ) (ss : ℕ → Stream Row) : Type 0 where
  pub port : ℕ
  pub there : port < suc n
  pub is_open : (ss port).mark ≡ still_open
  pub ends : (ts : ℕ → Stream Row) → (ts port).mark ≡ whole → ((q : ℕ) → rows_in ts q ≡ rows_in ss q) → join_mark n ts ≡ whole

fewest_ends : (n : ℕ) (ss : ℕ → Stream Row) (p : ℕ) → p < suc n → ((q : ℕ) → q < suc n → rows_in ss p ≤ rows_in ss q) → (ss p).mark ≡ still_open
    → MayEnd n ss
fewest_ends n ss p lt few o = record {
  port = p;
  there = lt;
  is_open = o;
  ends = λ ts w same. mark_whole n ts p
      (record { there = lt; is = w; fewest = λ q l. let a = same p in let b = same q in let f = few q l in omega (arith, a, b, f) });
}

not_lost : (b : Bool) (c : Bool) → (b && c) ≡ false → c ≡ true → b ≡ false
not_lost true true e f = cc
not_lost true false e f = cc
not_lost false c e f = refl

pub may_end : (n : ℕ) (ss : ℕ → Stream Row) → join_mark n ss ≡ still_open → MayEnd n ss
may_end n ss e = at (ss least.0).mark refl
  where
    least : (p : ℕ) × (p < suc n) × ((q : ℕ) → q < suc n → rows_in ss p ≤ rows_in ss q)
    least = least_at n (rows_in ss)

    not_ended : (p : ℕ) → p < suc n → ((q : ℕ) → q < suc n → rows_in ss p ≤ rows_in ss q) → (ss p).mark ≡ whole → MayEnd n ss
    not_ended p lt few w = let c : still_open ≡ whole = sym e ∙ mark_whole n ss p (record { there = lt; is = w; fewest = few }) in cc

    other : (q : ℕ) → q < suc n → ((r : ℕ) → r < suc n → rows_in ss q ≤ rows_in ss r) → (m : Mark) → (ss q).mark ≡ m → is_broken m ≡ false
        → MayEnd n ss
    other q lt few still_open is b = fewest_ends n ss q lt few is
    other q lt few whole is b = not_ended q lt few is
    other q lt few broken is b = cc

    by_lost : (p : ℕ) → p < suc n → ((q : ℕ) → q < suc n → rows_in ss p ≤ rows_in ss q) → (ss p).mark ≡ broken → (b : Bool)
        → all_to (suc n) (lasts ss p) ≡ b → MayEnd n ss
    by_lost p lt few is true all = let c : still_open ≡ broken = sym e ∙ lost_here n ss p lt is all in cc
    by_lost p lt few is false all =
        let a = not_all (suc n) (lasts ss p) all in
        let b = or_parts (nat_lt (rows_in ss p) (rows_in ss a.0)) (is_broken (ss a.0).mark && nat_le (rows_in ss p) (rows_in ss a.0)) a.2 in
        let le : rows_in ss a.0 ≤ rows_in ss p = not_less (rows_in ss p) (rows_in ss a.0) b.0 in
        other a.0 a.1 (λ r l. let f = few r l in omega (arith, f, le)) (ss a.0).mark refl
        (not_lost (is_broken (ss a.0).mark) (nat_le (rows_in ss p) (rows_in ss a.0)) b.1 (le-leb (rows_in ss p) (rows_in ss a.0) (few a.0 a.1)))
      where
        not_less : (m k : ℕ) → nat_lt m k ≡ false → k ≤ m
        not_less m k h = grind (arith, nat_tests)

    at : (m : Mark) → (ss least.0).mark ≡ m → MayEnd n ss
    at still_open is = fewest_ends n ss least.0 least.1 least.2 is
    at whole is = not_ended least.0 least.1 least.2 is
    at broken is = by_lost least.0 least.1 least.2 is (all_to (suc n) (lasts ss least.0)) refl

-- of items ------------------------------------------------------------------------------------------------------------------

rows_append : (c : ℕ) (xs ys : List Item) → all_rows_of c (xs ++ ys) ≡ all_rows_of c xs ++ all_rows_of c ys
rows_append c [] ys = refl
rows_append c (x ∷ xs) ys = ap (λ (rs : List Row). rows_of c x ++ rs) (rows_append c xs ys) ∙ sym (append_assoc (rows_of c x) (all_rows_of c xs) (all_rows_of c ys))

pub rows_below : (c : ℕ) (s t : Flow) → LiesBelow s t → LiesBelow (row_stream c s) (row_stream c t)
rows_below c s t (inl e) = inl (ap (λ (r : Flow). row_stream c r) e)
rows_below c s t (inr h) = inr (h.0, (all_rows_of c h.1.0, sym (rows_append c s.items h.1.0) ∙ ap (λ (xs : List Item). all_rows_of c xs) h.1.1))

pub start_same : (xs ys : List Item) → IsPrefix xs ys → (xs ≡ []) ⊎ (first_start ys ≡ first_start xs)
start_same [] ys p = inl refl
start_same (x ∷ xs) ys p = inr (ap first_start (sym p.1))

pub none_framed : (m : Mark) (make : ℕ → List Row → Item) (rows : List Row) → length rows ≡ 0 → frames_to make rows (frames_in m (length rows)) ≡ []
none_framed still_open make rows e = ap (λ k. frames_to make rows (k / 1024)) e
none_framed whole make rows e = ap (λ k. frames_to make rows ((k + 1023) / 1024)) e
none_framed broken make rows e = ap (λ k. frames_to make rows (k / 1024)) e

module _ (n : ℕ) (channels : ℕ → ℕ) (rate bits all : ℕ) where
  abbrev rows_on : Ports → ℕ → Stream Row
  rows_on ss p = row_stream (channels p) (ss p)

  -- the start of the first item matters only where there is one
  start_kept : (ss : Ports) (a b : ℤ) → ((ss 0).items ≡ []) ⊎ (a ≡ b)
      → joined_rows n (sound_frame a rate bits all) (rows_on ss) ≡ joined_rows n (sound_frame b rate bits all) (rows_on ss)
  start_kept ss a b (inr e) = ap (λ (z : ℤ). joined_rows n (sound_frame z rate bits all) (rows_on ss)) e
  start_kept ss a b (inl e) =
      let few : length (rows_to n (rows_on ss)) ≤ rows_in (rows_on ss) 0 = rows_few n (rows_on ss) 0 (omega arith) in
      let none : rows_in (rows_on ss) 0 ≡ 0 = ap (λ (xs : List Item). length (all_rows_of (channels 0) xs)) e in
      let zero_long : length (rows_to n (rows_on ss)) ≡ 0 = omega (arith, few, none) in
      ap (λ (xs : List Item). let r : Flow = record { items = xs; mark = join_mark n (rows_on ss) } in r)
      (none_framed (join_mark n (rows_on ss)) (sound_frame a rate bits all) (rows_to n (rows_on ss)) zero_long
      ∙ sym (none_framed (join_mark n (rows_on ss)) (sound_frame b rate bits all) (rows_to n (rows_on ss)) zero_long))

  module _ (ss ts : Ports) (above : (p : ℕ) → LiesBelow (ss p) (ts p)) where
    later_start : joined_rows n (sound_frame (first_start (ts 0).items) rate bits all) (rows_on ss) ≡ side_to_side n channels rate bits all ss
    later_start = start_kept ss (first_start (ts 0).items) (first_start (ss 0).items) (start_same (ss 0).items (ts 0).items (below_items (ss 0) (ts 0) (above 0)))

    -- streams further on give streams further on
    pub side-keeps : LiesBelow (side_to_side n channels rate bits all ss) (side_to_side n channels rate bits all ts)
    side-keeps = subst (λ (r : Flow). LiesBelow r (side_to_side n channels rate bits all ts)) later_start
        (joined-keeps n (rows_on ss) (rows_on ts) (λ p. rows_below (channels p) (ss p) (ts p) (above p)) (sound_frame (first_start (ts 0).items) rate bits all))

    side_closed : (side_to_side n channels rate bits all ss).mark ≢ still_open
        → side_to_side n channels rate bits all ts ≡ side_to_side n channels rate bits all ss
    side_closed c = closed_stays n (rows_on ss) (rows_on ts) (λ p. rows_below (channels p) (ss p) (ts p) (above p))
        (sound_frame (first_start (ts 0).items) rate bits all) c ∙ later_start

  abbrev pub joined_list : List Flow → Flow
  joined_list ss = side_to_side n channels rate bits all (stream_at ss)

  abbrev pub AreMany : List Flow → Type 0
  AreMany ss = length ss ≡ suc n

  opened_is : (ss : List Flow) → stream_at (map opened ss) ≡ (λ p. opened (stream_at ss p))
  opened_is ss i p = stream_at-opened ss p i

  mark_blind : (ss : List Flow) → (joined_list (map opened ss)).mark ≡ join_mark n (opened_rows (rows_on (stream_at ss)))
  mark_blind ss = ap (λ (ps : Ports). join_mark n (rows_on ps)) (opened_is ss)

  abbrev ended : List Flow → ℕ → List Flow
  ended [] p = []
  ended (s ∷ ss) zero = record { items = s.items; mark = whole } ∷ ss
  ended (s ∷ ss) (suc p) = s ∷ ended ss p

  ended_here : (ss : List Flow) (p : ℕ) → p < length ss → (stream_at (ended ss p) p).mark ≡ whole
  ended_here [] p lt = absurd (omega arith)
  ended_here (s ∷ ss) zero lt = refl
  ended_here (s ∷ ss) (suc p) lt = ended_here ss p (omega arith)

  ended_items : (ss : List Flow) (p q : ℕ) → (stream_at (ended ss p) q).items ≡ (stream_at ss q).items
  ended_items [] p q = refl
  ended_items (s ∷ ss) zero zero = refl
  ended_items (s ∷ ss) zero (suc q) = refl
  ended_items (s ∷ ss) (suc p) zero = refl
  ended_items (s ∷ ss) (suc p) (suc q) = ended_items ss p q

  ended_long : (ss : List Flow) (p : ℕ) → length (ended ss p) ≡ length ss
  ended_long [] p = refl
  ended_long (s ∷ ss) zero = refl
  ended_long (s ∷ ss) (suc p) = let e = ended_long ss p in omega (arith, e)

  ended_above : (ss : List Flow) (p : ℕ) → (stream_at ss p).mark ≡ still_open → AllBelow ss (ended ss p)
  ended_above [] p o q = inl refl
  ended_above (s ∷ ss) zero o zero = inr (o, prefix_self s.items)
  ended_above (s ∷ ss) zero o (suc q) = inl refl
  ended_above (s ∷ ss) (suc p) o zero = inl refl
  ended_above (s ∷ ss) (suc p) o (suc q) = ended_above ss p o q

  no_other : (m : Mark) → m ≢ whole → m ≢ still_open → m ≡ broken
  no_other still_open w o = absurd (o refl)
  no_other whole w o = absurd (w refl)
  no_other broken w o = refl

  -- The broken rule, of so many streams of any items: a broken input counts as open without a further item, and the output is
  -- broken exactly where an input is, it isn't whole, and however the inputs go on it gets no further item and isn't made whole.
  pub side-breaks : KeepsBrokenRule AreMany joined_list
  side-breaks = record {
    items = λ ss long.
        sym (items_blind n (sound_frame (first_start (stream_at ss 0).items) rate bits all) (rows_on (stream_at ss)))
        ∙ ap (λ (ps : Ports). (side_to_side n channels rate bits all ps).items) (sym (opened_is ss));
    wholeness = λ ss long. (λ e. mark_blind ss ∙ untold n (rows_on (stream_at ss)) e, λ e. told n (rows_on (stream_at ss)) (sym (mark_blind ss) ∙ e));
    breaks = λ ss long. (
      λ b. (
          let h = lost_by n (rows_on (stream_at ss)) b in
          record {
            input = (h.0, h.1.is);
            not_whole = λ w. let c : whole ≡ broken = sym w ∙ b in cc;
            no_further = λ ts tl above.
                let same = side_closed (stream_at ss) (stream_at ts) above (λ o. let c : still_open ≡ broken = sym o ∙ b in cc) in
                (ap (λ (r : Flow). r.items) same, λ w. let c : whole ≡ broken = sym w ∙ (ap (λ (r : Flow). r.mark) same ∙ b) in cc);
          }
          ),
      λ off. no_other (joined_list ss).mark off.not_whole (λ o.
          let m = may_end n (rows_on (stream_at ss)) o in
          let ts = ended ss m.port in
          (off.no_further ts (ended_long ss m.port ∙ long) (ended_above ss m.port m.is_open)).1
          (m.ends (rows_on (stream_at ts)) (ended_here ss m.port (let t = m.there in omega (arith, t, long)))
          (λ q. ap (λ (xs : List Item). length (all_rows_of (channels q) xs)) (ended_items ss m.port q)))),
    );
  }
