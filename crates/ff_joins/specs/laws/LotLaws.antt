-- The laws of the machine of streams side by side.
use Rattle.std.specs.Prelude.{◌≡◌, ◌≢◌, ℕ, ◌<◌, ◌≤◌, ◌⊎◌, Bool, true, ℤ, Option, Some, None, List, [], ◌∷◌, ◌++◌, length, refl}
use Rattle.std.proofs.Common.{inl, inr, ap, sym, ◌∙◌, subst, arith, append_assoc}
use mathlib.Core.List.{IsPrefix}
use Rattle.ff_frame.specs.declared.head.StreamHead.{StreamHead}
use Rattle.ff_stream.specs.declared.item.Item.{Item}
use Rattle.ff_stream.specs.declared.item.Lane.{Lane}
use Rattle.ff_stream.specs.declared.item.Lane.TheVariants.{Frames}
use Rattle.ff_stream.specs.Ports.{nothing}
use Rattle.ff_stream.specs.Stream.{Mark, still_open, whole, broken, Stream, LiesBelow, opened, opened_mark}
use Rattle.ff_stream.specs.laws.Order.{prefix_self, below_trans, below_items}
use Rattle.ff_stream.specs.Within.{passes_limits}
use Rattle.ff_filter.specs.declared.after.After.{After}
use Rattle.ff_filter.specs.declared.after.After.TheVariants.{More, Whole, Broke}
use Rattle.ff_filter.specs.Joins.{Flow, Ports, all_opened, Grows, HidesBreaks}
use Rattle.ff_filter.specs.laws.Limits.{limited, limit_step}
use Rattle.ff_filter.specs.Made.{is_over}
use Rattle.ff_filter.specs.laws.Runs.{no_more, run_below, run_calm, run_settles}
use Rattle.ff_filter.specs.laws.StepperLaws.{left_keeps, left_calm, left_closed, stepper-quiet}
use Rattle.ff_filter.specs.Views.{View, Settles}
use Rattle.ff_joins.specs.Joined.{Row, all_rows_of, row_stream, rows_to, rows_in, join_mark, joined_rows, first_start}
use Rattle.ff_joins.specs.laws.JoinedLaws.{rows_few}
use Rattle.ff_joins.specs.laws.JoinBreaks.{joined-keeps}
use Rattle.ff_joins.specs.laws.JoinRule.{opened_rows, items_blind, untold, may_end, rows_below, start_same, none_framed}
use Rattle.ff_joins.specs.laws.Lots.{Lot, rows_kept, row_then, comes, all_come, start_after, frame_on, still_joined, lots_view, no_rows, has_started}

-- the rows of one input ---------------------------------------------------------------------------------------------------

then_keeps : (rows : List Row) (a : After) (s t : Stream Row) → LiesBelow s t → LiesBelow (row_then rows a s) (row_then rows a t)
then_keeps rows More s t (inl e) = inl (ap (λ (r : Stream Row). row_then rows More r) e)
then_keeps rows More s t (inr p) = inr (p.0, (p.1.0, append_assoc rows s.items p.1.0 ∙ ap (λ (zs : List Row). rows ++ zs) p.1.1))
then_keeps rows Whole s t h = inl refl
then_keeps rows Broke s t h = inl refl

then_calm : (rows : List Row) (a : After) (s : Stream Row) → LiesBelow (opened (row_then rows a s)) (row_then rows a (opened s))
then_calm rows More s = inl refl
then_calm rows Whole s = inl refl
then_calm rows Broke s = inr (refl, prefix_self rows)

then_closed : (rows : List Row) (a : After) (s : Stream Row) → (is_over a ≡ true) ⊎ (s.mark ≢ still_open) → (row_then rows a s).mark ≢ still_open
then_closed rows More s (inl e) = cc
then_closed rows More s (inr c) = c
then_closed rows Whole s h = λ e. cc
then_closed rows Broke s h = λ e. cc

module _ (ls : ℕ → Lot) where
  come_keeps : (rs ss : Ports) → ((q : ℕ) → LiesBelow (rs q) (ss q)) → (p : ℕ) → LiesBelow (all_come ls rs p) (all_come ls ss p)
  come_keeps rs ss h p = then_keeps (rows_kept (ls p)) (ls p).after (row_stream (ls p).channels (rs p)) (row_stream (ls p).channels (ss p))
      (rows_below (ls p).channels (rs p) (ss p) (h p))

  come_calm : (rs : Ports) (p : ℕ) → LiesBelow (opened_rows (all_come ls rs) p) (all_come ls (all_opened rs) p)
  come_calm rs p = then_calm (rows_kept (ls p)) (ls p).after (row_stream (ls p).channels (rs p))

-- all of them -----------------------------------------------------------------------------------------------------------

-- told of a break or not, it gives the same items
blind : (n : ℕ) (make : ℕ → List Row → Item) (ss : ℕ → Stream Row) → LiesBelow (opened (joined_rows n make ss)) (joined_rows n make (opened_rows ss))
blind n make ss = at (join_mark n ss) refl
  where
    same : (joined_rows n make (opened_rows ss)).items ≡ (joined_rows n make ss).items
    same = items_blind n make ss

    at : (m : Mark) → join_mark n ss ≡ m → LiesBelow (opened (joined_rows n make ss)) (joined_rows n make (opened_rows ss))
    at still_open e = inr (ap opened_mark e, subst (λ (xs : List Item). IsPrefix (joined_rows n make ss).items xs) (sym same) (prefix_self (joined_rows n make ss).items))
    at broken e = inr (ap opened_mark e, subst (λ (xs : List Item). IsPrefix (joined_rows n make ss).items xs) (sym same) (prefix_self (joined_rows n make ss).items))
    at whole e =
        let made : List Item → Mark → Flow = λ xs k. record { items = xs; mark = k } in
        inl (ap (λ (k : Mark). made (joined_rows n make ss).items (opened_mark k)) e
        ∙ (ap (λ (xs : List Item). made xs whole) (sym same) ∙ ap (λ (k : Mark). made (joined_rows n make (opened_rows ss)).items k) (sym (untold n ss e))))

-- the start of the first item matters only where there is a row of it
any_start : (head : StreamHead) (n given : ℕ) (ss : ℕ → Stream Row) (a b : ℤ) → ((ss 0).items ≡ []) ⊎ (a ≡ b)
    → joined_rows n (frame_on head given a) ss ≡ joined_rows n (frame_on head given b) ss
any_start head n given ss a b (inr e) = ap (λ (z : ℤ). joined_rows n (frame_on head given z) ss) e
any_start head n given ss a b (inl e) =
    let few : length (rows_to n ss) ≤ rows_in ss 0 = rows_few n ss 0 (omega arith) in
    let none : rows_in ss 0 ≡ 0 = ap (λ (xs : List Row). length xs) e in
    let zero_long : length (rows_to n ss) ≡ 0 = omega (arith, few, none) in
    ap (λ (xs : List Item). let r : Flow = record { items = xs; mark = join_mark n ss } in r)
    (none_framed (join_mark n ss) (frame_on head given a) (rows_to n ss) zero_long ∙ sym (none_framed (join_mark n ss) (frame_on head given b) (rows_to n ss) zero_long))

none_kept : (rows : List Row) → no_rows rows ≡ true → rows ≡ []
none_kept [] e = refl
none_kept (r ∷ rs) e = cc

-- where nothing came on it, no row came
none_there : (l : Lot) (t : Flow) → rows_kept l ≡ [] → t.items ≡ [] → (comes l t).items ≡ []
none_there l t e f = at l.after
  where
    at : (a : After) → (row_then (rows_kept l) a (row_stream l.channels t)).items ≡ []
    at More = ap (λ (rs : List Row). rs ++ all_rows_of l.channels t.items) e ∙ ap (λ (xs : List Item). all_rows_of l.channels xs) f
    at Whole = e
    at Broke = e

start_kept : (head : StreamHead) (n given : ℕ) (first : Option ℤ) (ls : ℕ → Lot) → has_started first (ls 0) ≡ true → (rs ss : Ports) → LiesBelow (rs 0) (ss 0)
    → joined_rows n (frame_on head given (start_after first (ss 0))) (all_come ls rs) ≡ joined_rows n (frame_on head given (start_after first (rs 0))) (all_come ls rs)
start_kept head n given (Some z) ls s rs ss h = refl
start_kept head n given None ls s rs ss h = any_start head n given (all_come ls rs) (first_start (ss 0).items) (first_start (rs 0).items)
    (at (start_same (rs 0).items (ss 0).items (below_items (rs 0) (ss 0) h)))
  where
    at : ((rs 0).items ≡ []) ⊎ (first_start (ss 0).items ≡ first_start (rs 0).items) → ((all_come ls rs 0).items ≡ []) ⊎ (first_start (ss 0).items ≡ first_start
        (rs 0).items)
    at (inl e) = inl (none_there (ls 0) (rs 0) (none_kept (rows_kept (ls 0)) s) e)
    at (inr e) = inr e

opened_start : (first : Option ℤ) (t : Flow) → start_after first (opened t) ≡ start_after first t
opened_start None t = refl
opened_start (Some z) t = refl

module _ (lanes : List Lane) (head : StreamHead) (n : ℕ) (first : Option ℤ) (given : ℕ) (ls : ℕ → Lot) (ended stopped : Bool) (after : After)
    (started : has_started first (ls 0) ≡ true) where
  abbrev v : View
  v = lots_view lanes head n first given ls ended stopped after

  abbrev all_made : Ports → Flow
  all_made ext = joined_rows n (frame_on head given (start_after first (ext 0))) (all_come ls ext)

  made_keeps : (rs ss : Ports) → ((q : ℕ) → LiesBelow (rs q) (ss q)) → LiesBelow (all_made rs) (all_made ss)
  made_keeps rs ss h = subst (λ (r : Flow). LiesBelow r (all_made ss)) (start_kept head n given first ls started rs ss (h 0))
      (joined-keeps n (all_come ls rs) (all_come ls ss) (come_keeps ls rs ss h) (frame_on head given (start_after first (ss 0))))

  made_calm : (rs : Ports) → LiesBelow (opened (all_made rs)) (all_made (all_opened rs))
  made_calm rs =
      let make = frame_on head given (start_after first (rs 0)) in
      let below : LiesBelow (opened (all_made rs)) (joined_rows n make (all_come ls (all_opened rs))) =
      below_trans (opened (all_made rs)) (joined_rows n make (opened_rows (all_come ls rs))) (joined_rows n make (all_come ls (all_opened rs)))
      (blind n make (all_come ls rs)) (joined-keeps n (opened_rows (all_come ls rs)) (all_come ls (all_opened rs)) (come_calm ls rs) make) in
      subst (λ (z : ℤ). LiesBelow (opened (all_made rs)) (joined_rows n (frame_on head given z) (all_come ls (all_opened rs)))) (sym (opened_start first (rs 0))) below

  pub lots-grows : Grows v.rest
  lots-grows rs ss h q = left_keeps [] ended after (still_joined head n first given ls rs) (still_joined head n first given ls ss)
      (run_below (limit_step (passes_limits (Frames head))) no_more given (all_made rs) (all_made ss) (made_keeps rs ss h))

  pub lots-hides : HidesBreaks v.rest
  lots-hides rs q =
      let passes = passes_limits (Frames head) in
      left_calm [] ended after (still_joined head n first given ls rs) (still_joined head n first given ls (all_opened rs))
      (below_trans (opened (limited passes given (all_made rs))) (limited passes given (opened (all_made rs))) (limited passes given (all_made (all_opened rs)))
      (run_calm (limit_step passes) no_more given (all_made rs)) (run_below (limit_step passes) no_more given (opened (all_made rs)) (all_made (all_opened rs))
      (made_calm rs)))

  pub lots-settles : n < length lanes → Settles v
  lots-settles lt ext h q l on =
      left_closed [] ended after (still_joined head n first given ls ext)
      (inr (run_settles (limit_step (passes_limits (Frames head))) no_more given (all_made ext) (λ o.
      let m = may_end n (all_come ls ext) o in
      then_closed (rows_kept (ls m.port)) (ls m.port).after (row_stream (ls m.port).channels (ext m.port))
      (h m.port (let t = m.there in omega (arith, t, lt))) m.is_open)))

  pub lots-quiet : ended ≡ true → (ext : Ports) → v.rest ext 0 ≡ nothing
  lots-quiet e ext = stepper-quiet (λ s. still_joined head n first given ls ext) [] ended after e ext
