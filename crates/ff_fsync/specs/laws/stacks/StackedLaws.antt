-- The laws of the machine of a stack.
use Rattle.std.specs.Prelude.{◌≡◌, ℕ, ◌+◌, ◌⊎◌, Bool, true, false, cond, List, [], ◌∷◌, map, refl}
use Rattle.std.proofs.Common.{inl, inr, ap, sym, ◌∙◌, arith}
use Rattle.std.proofs.lemmas.Bool.{cases_Bool, or_cases, or_left, or_right}
use Rattle.std.proofs.lemmas.List.{map-append}
use mathlib.Core.List.{IsPrefix}
use Rattle.ff_stream.specs.declared.item.Item.{Item}
use Rattle.ff_stream.specs.declared.item.Lane.TheVariants.{Frames}
use Rattle.ff_stream.specs.Stream.{Mark, still_open, whole, broken, LiesBelow}
use Rattle.ff_stream.specs.Ports.{nothing, IsClosed}
use Rattle.ff_stream.specs.Within.{some_pass, passes_limits}
use Rattle.ff_filter.specs.Joins.{Flow, Ports, silence, joined, Grows, HidesBreaks, grows_after, hides_after}
use Rattle.ff_filter.specs.laws.Limits.{limited, limit_step}
use Rattle.ff_filter.specs.Made.{is_over}
use Rattle.ff_filter.specs.laws.Runs.{run_at, no_more}
use Rattle.ff_filter.specs.Views.{Settles, IsSpent, IsOver, AllDone}
use Rattle.ff_fsync.specs.laws.SideLaws.{sync-grows, sync-hides, sync-settles, sync-quiet, sync-spent_only, sync-spent_if, sync-done_spent}
use Rattle.ff_fsync.specs.Sides.{side_at, left_to_show, sync_view}
use Rattle.ff_fsync.specs.laws.Syncs.{sides_of, sides_sound}
use Rattle.ff_fsync.specs.declared.stacks.stacked.Stacked.{Stacked}
use Rattle.ff_fsync.specs.stacks.Bases.{item_in, told_in, units_at, all_told}
use Rattle.ff_fsync.specs.laws.stacks.Limits.{limits-spent}
use Rattle.ff_fsync.specs.laws.stacks.Stacked.{shows, sync_seen, seen, is_cut, stack_spent}

told_prefix : (n : ℕ) (xs ys : List Item) → IsPrefix xs ys → IsPrefix (map (item_in n) xs) (map (item_in n) ys)
told_prefix n xs ys p = (map (item_in n) p.0, sym (map-append (item_in n) xs p.0) ∙ ap (λ (zs : List Item). map (item_in n) zs) p.1)

told_below : (n : ℕ) (r s : Flow) → LiesBelow r s → LiesBelow (told_in n r) (told_in n s)
told_below n r s (inl e) = inl (ap (λ (t : Flow). told_in n t) e)
told_below n r s (inr h) = inr (h.0, told_prefix n r.items s.items h.1)

pub told-grows : (us : List ℕ) → Grows (all_told us)
told-grows us rs ss h p = told_below (units_at us p) (rs p) (ss p) (h p)

pub told-hides : (us : List ℕ) → HidesBreaks (all_told us)
told-hides us rs p = inl refl

pub sync_grows : (m : Stacked) → Grows (sync_seen m).rest
sync_grows m =
    let v = sync_view (shows m) m.sync.shortest (Frames m.sync.head) m.sync.from (sides_of m.sync.inputs.items) m.sync.ended m.sync.stopped in
    grows_after (all_told m.units.items) v.rest (told-grows m.units.items)
    (sync-grows (shows m) m.sync.shortest (Frames m.sync.head) m.sync.from (sides_of m.sync.inputs.items)
    (sides_sound (Frames m.sync.head) m.sync.inputs.items) m.sync.ended m.sync.stopped)

pub sync_hides : (m : Stacked) → HidesBreaks (sync_seen m).rest
sync_hides m =
    let v = sync_view (shows m) m.sync.shortest (Frames m.sync.head) m.sync.from (sides_of m.sync.inputs.items) m.sync.ended m.sync.stopped in
    hides_after (all_told m.units.items) v.rest (told-hides m.units.items)
    (sync-hides (shows m) m.sync.shortest (Frames m.sync.head) m.sync.from (sides_of m.sync.inputs.items)
    (sides_sound (Frames m.sync.head) m.sync.inputs.items) m.sync.ended m.sync.stopped)
    (sync-grows (shows m) m.sync.shortest (Frames m.sync.head) m.sync.from (sides_of m.sync.inputs.items)
    (sides_sound (Frames m.sync.head) m.sync.inputs.items) m.sync.ended m.sync.stopped)

pub sync_settles : (m : Stacked) → Settles (sync_seen m)
sync_settles m ext h q lt on =
    sync-settles (shows m) m.sync.shortest (Frames m.sync.head) m.sync.from (sides_of m.sync.inputs.items)
    (sides_sound (Frames m.sync.head) m.sync.inputs.items) m.sync.ended m.sync.stopped (all_told m.units.items ext) h q lt on

pub sync_quiet : (m : Stacked) (q : ℕ) → m.sync.ended ≡ true → (ext : Ports) → (sync_seen m).rest ext q ≡ nothing
sync_quiet m q e ext =
    sync-quiet (shows m) m.sync.shortest (Frames m.sync.head) m.sync.from (sides_of m.sync.inputs.items)
    (sides_sound (Frames m.sync.head) m.sync.inputs.items) m.sync.ended m.sync.stopped q e (all_told m.units.items ext)

-- within limits a stream is broken where an item passes one; else it stands as it stood
mark_at : (passes : ℕ → Item → Bool) (n : ℕ) (xs : List Item) (m : Mark)
    → (run_at (limit_step passes) no_more n xs m).mark ≡ cond (some_pass passes n xs) broken m
mark_at passes n [] still_open = refl
mark_at passes n [] whole = refl
mark_at passes n [] broken = refl
mark_at passes n (x ∷ xs) m = pick (passes n x) (mark_at passes (n + 1) xs m)
  where
    pick : (b : Bool) → (run_at (limit_step passes) no_more (n + 1) xs m).mark ≡ cond (some_pass passes (n + 1) xs) broken m
        → (joined (cond b (record { items = []; mark = broken }) (record { items = x ∷ []; mark = still_open }))
        (run_at (limit_step passes) no_more (n + 1) xs m)).mark
        ≡ cond (cond b true (some_pass passes (n + 1) xs)) broken m
    pick true e = refl
    pick false e = e

cut_closed : (b : Bool) (m n : Mark) → n ≡ cond b broken m → b ≡ true → n ≡ broken
cut_closed true m n e t = e
cut_closed false m n e t = cc

closed_cut : (b : Bool) (m n : Mark) → n ≡ cond b broken m → (n ≡ still_open → ⊥) → (b ≡ true) ⊎ (m ≡ still_open → ⊥)
closed_cut true m n e c = inl refl
closed_cut false m n e c = inr (λ o. c (e ∙ o))

pub cut_closes : (passes : ℕ → Item → Bool) (n : ℕ) (s : Flow) → some_pass passes n s.items ≡ true → IsClosed (limited passes n s)
cut_closes passes n s e =
    let b : (limited passes n s).mark ≡ broken =
    cut_closed (some_pass passes n s.items) s.mark (limited passes n s).mark (mark_at passes n s.items s.mark) e in
    λ o. (let clash : broken ≡ still_open = sym b ∙ o in cc)

pub closed_by : (passes : ℕ → Item → Bool) (n : ℕ) (s : Flow) → IsClosed (limited passes n s)
    → (some_pass passes n s.items ≡ true) ⊎ IsClosed s
closed_by passes n s c = closed_cut (some_pass passes n s.items) s.mark (limited passes n s).mark (mark_at passes n s.items s.mark) c

module _ (m : Stacked) (p : ℕ) where
  spent_if : IsSpent (sync_seen m) p → stack_spent m p ≡ true
  spent_if h = or_left _ (is_cut m) (sync-spent_if (shows m) m.sync.shortest (Frames m.sync.head) m.sync.from (sides_of m.sync.inputs.items)
      (sides_sound (Frames m.sync.head) m.sync.inputs.items) m.sync.ended m.sync.stopped p h)

  pub stacked-spent_only : stack_spent m p ≡ true → IsSpent (seen m) p
  stacked-spent_only e = elim (or_cases _ (is_cut m) e) as (λ _. IsSpent (seen m) p) [
    | inl s ↦ limits-spent (Frames m.sync.head) m.before (sync_seen m) p
        (sync-spent_only (shows m) m.sync.shortest (Frames m.sync.head) m.sync.from (sides_of m.sync.inputs.items)
        (sides_sound (Frames m.sync.head) m.sync.inputs.items) m.sync.ended m.sync.stopped p s)
    | inr c ↦ inr (omega arith, λ q lt on. at m.sync.ended c)
  ]
    where
      at : (b : Bool) → is_cut m ≡ true → (b ≡ true) ⊎ IsClosed (limited (passes_limits (Frames m.sync.head)) m.before (cond b nothing
          (left_to_show (shows m) m.sync.shortest (Frames m.sync.head) m.sync.from (sides_of m.sync.inputs.items) silence)))
      at true c = inl refl
      at false c = inr (cut_closes (passes_limits (Frames m.sync.head)) m.before
          (left_to_show (shows m) m.sync.shortest (Frames m.sync.head) m.sync.from (sides_of m.sync.inputs.items) silence) c)

  pub stacked-spent_if : IsSpent (seen m) p → stack_spent m p ≡ true
  stacked-spent_if (inl s) = spent_if (inl s)
  stacked-spent_if (inr o) = elim (cases_Bool m.sync.stopped) as (λ _. stack_spent m p ≡ true) [
    | inl s ↦ or_left _ (is_cut m) (or_left m.sync.stopped _ s)
    | inr f ↦ over (o.1 0 (omega arith) f)
  ]
    where
      cut_or : (b : Bool) → (some_pass (passes_limits (Frames m.sync.head)) m.before (cond b nothing
          (left_to_show (shows m) m.sync.shortest (Frames m.sync.head) m.sync.from (sides_of m.sync.inputs.items) silence)).items ≡ true)
          → is_cut m ≡ true
      cut_or true c = cc
      cut_or false c = c

      over : IsOver (seen m) 0 → stack_spent m p ≡ true
      over (inl e) = spent_if (inr (omega arith, λ q lt on. inl e))
      over (inr c) = elim (closed_by (passes_limits (Frames m.sync.head)) m.before ((sync_seen m).rest silence 0) c) as (λ _. stack_spent m p ≡ true) [
        | inl b ↦ or_right _ (is_cut m) (cut_or m.sync.ended b)
        | inr d ↦ spent_if (inr (omega arith, λ q lt on. inr d))
      ]

  pub stacked-shut_spent : is_over (side_at (Frames m.sync.head) (sides_of m.sync.inputs.items) p).after ≡ true → stack_spent m p ≡ true
  stacked-shut_spent s = spent_if (inl s)

  pub stacked-done_spent : AllDone (seen m) → stack_spent m p ≡ true
  stacked-done_spent d =
      or_left _ (is_cut m) (sync-done_spent (shows m) m.sync.shortest (Frames m.sync.head) m.sync.from (sides_of m.sync.inputs.items)
      (sides_sound (Frames m.sync.head) m.sync.inputs.items) m.sync.ended m.sync.stopped p d)
