-- Framesync as a function of streams: streams further on give streams further on, whoever isn't told of breaks gets no less,
-- and where each input closes, so does the output.
use Rattle.std.specs.Prelude.{◌≡◌, ◌≢◌, ℕ, ◌+◌, ◌<◌, ◌≤◌, Bool, true, false, ◌||◌, ◌&&◌, not, List, refl}
use Rattle.std.proofs.Common.{inl, inr, ap, sym, ◌∙◌, subst, arith}
use Rattle.std.proofs.lemmas.Bool.{cases_Bool, and_left, false_from_ne_true}
use mathlib.Core.List.{IsPrefix}
use Rattle.ff_stream.specs.Stream.{Mark, still_open, whole, broken, Stream, LiesBelow, opened, opened_mark, is_open, is_whole, is_broken}
use Rattle.ff_stream.specs.Ports.{IsClosed}
use Rattle.ff_fsync.specs.Events.{events, events_same, events_prefix}
use Rattle.ff_fsync.specs.Ranges.{all_to, any_to, any_at, any_from, not_any, none_from}
use Rattle.ff_fsync.specs.Synced.{is_empty, starts, begun, outlasts, ended_mark, all_ended, mark_by, Timing, is_shown, pictures, horizon, is_complete, may_come, goes_on, synced_mark, synced_from, reached}
use Rattle.ff_fsync.specs.laws.SyncLaws.{EachBelow, Risen, closed_is, clash, shown_stays, shown_in_order, shown_enough, complete_stays, complete_alike, complete_all, complete_closed, goes_on_for, goes_on_sooner, goes_on_cases}

abbrev pub opened_at : {A : Type 0} → (ℕ → Stream A) → ℕ → Stream A
opened_at ss p = opened (ss p)

module _ {A B : Type 0} (k : Timing A) (show : ℕ → List A → B) where
  abbrev says : (ℕ → Stream A) → ℕ → B
  says ss t = show t (pictures k ss t)

  -- the items of both, up to one bound
  items_at : (from j : ℕ) (ss : ℕ → Stream A) → horizon k ss ≤ j → (synced_from k show from ss).items ≡ events (is_shown k ss) (says ss) from j
  items_at from j ss le = shown_enough k (says ss) from j ss (omega (arith, le))

  pub items_below : (from : ℕ) (rs ss : ℕ → Stream A) → EachBelow rs ss → Risen k ss → IsPrefix (synced_from k show from rs).items (synced_from k show from ss).items
  items_below from rs ss h rising =
      let j = horizon k rs + horizon k ss in
      rw (items_at from j rs (omega arith), items_at from j ss (omega arith))
      (events_prefix (is_shown k rs) (is_shown k ss) (says rs) (says ss) from j
      (λ t e. let s = shown_stays k rs ss t h rising e in (s.0, ap (show t) s.1))
      (λ t u e n lt. shown_in_order k rs ss t u h rising e n lt))

  pub items_same : (from : ℕ) (rs ss : ℕ → Stream A) → EachBelow rs ss → Risen k ss → ((t : ℕ) → is_shown k rs t ≡ is_shown k ss t) → (synced_from k show from rs).items ≡ (synced_from k show from ss).items
  items_same from rs ss h rising same =
      let j = horizon k rs + horizon k ss in
      rw (items_at from j rs (omega arith), items_at from j ss (omega arith))
      (events_same (is_shown k rs) (is_shown k ss) (says rs) (says ss) from j (λ t le. same t) (λ t le e. ap (show t) ((shown_stays k rs ss t h rising e).1)))

  -- some input broke off
  abbrev lost : (ℕ → Stream A) → Bool
  lost ss = any_to k.inputs (λ p. is_broken (ss p).mark)

  lost_stays : (rs ss : ℕ → Stream A) → EachBelow rs ss → lost rs ≡ true → lost ss ≡ true
  lost_stays rs ss h e =
      let s = any_at k.inputs (λ p. is_broken (rs p).mark) e in
      any_from k.inputs (λ p. is_broken (ss p).mark) s.0 s.1 (at (rs s.0) (ss s.0) (h s.0) s.2)
    where
      at : (r s : Stream A) → LiesBelow r s → is_broken r.mark ≡ true → is_broken s.mark ≡ true
      at r s (inl same) b = subst (λ (t : Stream A). is_broken t.mark ≡ true) same b
      at r s (inr g) b = clash (is_broken r.mark) b (ap is_broken g.0)

  -- what is broken off stays as it is
  pub stuck_shown : (rs ss : ℕ → Stream A) → EachBelow rs ss → Risen k ss → lost rs ≡ true → goes_on k rs ≡ false → (t : ℕ) → is_shown k rs t ≡ is_shown k ss t
  stuck_shown rs ss h rising b g t =
      let s = any_at k.inputs (λ p. is_broken (rs p).mark) b in
      elim (cases_Bool (is_shown k rs t)) as (λ _. is_shown k rs t ≡ is_shown k ss t) [
        | inl e ↦ e ∙ sym ((shown_stays k rs ss t h rising e).0)
        | inr n ↦ n ∙ sym (false_from_ne_true (is_shown k ss t) (λ e. clash (goes_on k rs) (goes_on_for k rs ss h rising s.0 s.1 s.2 (inr (t, e, n))) g))
      ]

  pub stuck_incomplete : (rs ss : ℕ → Stream A) → EachBelow rs ss → Risen k ss → lost rs ≡ true → goes_on k rs ≡ false → is_complete k ss ≡ false
  stuck_incomplete rs ss h rising b g =
      let s = any_at k.inputs (λ p. is_broken (rs p).mark) b in
      false_from_ne_true (is_complete k ss) (λ e. clash (goes_on k rs) (goes_on_for k rs ss h rising s.0 s.1 s.2 (inl e)) g)

  stuck_goes_on : (rs ss : ℕ → Stream A) → EachBelow rs ss → Risen k ss → lost rs ≡ true → goes_on k rs ≡ false → goes_on k ss ≡ false
  stuck_goes_on rs ss h rising b g =
      let s = any_at k.inputs (λ p. is_broken (rs p).mark) b in
      false_from_ne_true (goes_on k ss) (λ e. clash (goes_on k rs) (goes_on_sooner k rs ss h rising s.0 s.1 s.2 e) g)

  by_marks : (xs ys : List B) (w b g w' b' g' : Bool) → IsPrefix xs ys → (w ≡ true → (w' ≡ true) × (xs ≡ ys)) → (b ≡ true → b' ≡ true)
      → (b ≡ true → g ≡ false → (xs ≡ ys) × (w' ≡ false) × (g' ≡ false))
      → LiesBelow (record { items = xs; mark = mark_by w b g }) (record { items = ys; mark = mark_by w' b' g' })
  by_marks xs ys true b g w' b' g' p stays lost stuck = rw ((stays refl).0) (inl (ap (λ (zs : List B). record { items = zs; mark = whole }) (stays refl).1))
  by_marks xs ys false false g w' b' g' p stays lost stuck = inr (refl, p)
  by_marks xs ys false true true w' b' g' p stays lost stuck = inr (refl, p)
  by_marks xs ys false true false w' b' g' p stays lost stuck =
      let s = stuck refl refl in rw (s.1, lost refl, s.2) (inl (ap (λ (zs : List B). record { items = zs; mark = broken }) (s.0)))

  -- the more comes in, the more goes out
  pub synced-below : (from : ℕ) (rs ss : ℕ → Stream A) → EachBelow rs ss → Risen k ss → LiesBelow (synced_from k show from rs) (synced_from k show from ss)
  synced-below from rs ss h rising =
      by_marks (synced_from k show from rs).items (synced_from k show from ss).items (is_complete k rs) (lost rs) (goes_on k rs) (is_complete k ss) (lost ss) (goes_on k ss)
      (items_below from rs ss h rising)
      (λ e. (complete_stays k rs ss h e, items_same from rs ss h rising (complete_alike k rs ss h rising e)))
      (lost_stays rs ss h)
      (λ b g. (items_same from rs ss h rising (stuck_shown rs ss h rising b g), stuck_incomplete rs ss h rising b g, stuck_goes_on rs ss h rising b g))

  -- a break is as if nothing more were known
  whole_opened : (m : Mark) → is_whole (opened_mark m) ≡ is_whole m
  whole_opened still_open = refl
  whole_opened whole = refl
  whole_opened broken = refl

  none_opened : (m : Mark) → is_broken (opened_mark m) ≡ false
  none_opened still_open = refl
  none_opened whole = refl
  none_opened broken = refl

  wholes_opened : (ss : ℕ → Stream A) (p : ℕ) → is_whole (opened_mark (ss p).mark) ≡ is_whole (ss p).mark
  wholes_opened ss p = whole_opened (ss p).mark

  complete_by : (ss : ℕ → Stream A) (f g : ℕ → Bool) → ((p : ℕ) → f p ≡ g p)
      → (all_to k.inputs f || any_to k.inputs (λ p. f p && ((k.shortest || is_empty (ss p).items) && all_to k.inputs (λ q. f q || outlasts k ss p q))))
      ≡ (all_to k.inputs g || any_to k.inputs (λ p. g p && ((k.shortest || is_empty (ss p).items) && all_to k.inputs (λ q. g q || outlasts k ss p q))))
  complete_by ss f g h =
      let same : f ≡ g = λ i p. h p i in
      ap (λ (w : ℕ → Bool). all_to k.inputs w || any_to k.inputs (λ p. w p && ((k.shortest || is_empty (ss p).items) && all_to k.inputs (λ q. w q || outlasts k ss p q)))) same

  pub complete_opened : (ss : ℕ → Stream A) → is_complete k (opened_at ss) ≡ is_complete k ss
  complete_opened ss = complete_by ss (λ p. is_whole (opened_mark (ss p).mark)) (λ p. is_whole (ss p).mark) (wholes_opened ss)

  shown_by : (ss : ℕ → Stream A) (t : ℕ) (f g : ℕ → Bool) → ((p : ℕ) → f p ≡ g p)
      → (any_to k.inputs (starts k ss t) && all_to k.inputs (λ p. begun k ss t p && (reached k ss t p || (f p && not k.shortest))))
      ≡ (any_to k.inputs (starts k ss t) && all_to k.inputs (λ p. begun k ss t p && (reached k ss t p || (g p && not k.shortest))))
  shown_by ss t f g h =
      let same : f ≡ g = λ i p. h p i in
      ap (λ (w : ℕ → Bool). any_to k.inputs (starts k ss t) && all_to k.inputs (λ p. begun k ss t p && (reached k ss t p || (w p && not k.shortest)))) same

  pub shown_opened : (ss : ℕ → Stream A) (t : ℕ) → is_shown k (opened_at ss) t ≡ is_shown k ss t
  shown_opened ss t = shown_by ss t (λ p. is_whole (opened_mark (ss p).mark)) (λ p. is_whole (ss p).mark) (wholes_opened ss)

  pub items_opened : (from : ℕ) (ss : ℕ → Stream A) → (synced_from k show from (opened_at ss)).items ≡ (synced_from k show from ss).items
  items_opened from ss =
      let j = horizon k (opened_at ss) + horizon k ss in
      rw (items_at from j (opened_at ss) (omega arith), items_at from j ss (omega arith))
      (events_same (is_shown k (opened_at ss)) (is_shown k ss) (says (opened_at ss)) (says ss) from j (λ t le. shown_opened ss t) (λ t le e. refl))

  pub mark_opened : (ss : ℕ → Stream A) → synced_mark k (opened_at ss) ≡ opened_mark (synced_mark k ss)
  mark_opened ss = rw (complete_opened ss, none_from k.inputs (λ p. is_broken (opened_mark (ss p).mark)) (λ p lt. none_opened (ss p).mark)) (at (is_complete k ss) (lost ss) (goes_on k ss))
    where
      at : (w b g : Bool) → mark_by w false (goes_on k (opened_at ss)) ≡ opened_mark (mark_by w b g)
      at true b g = refl
      at false true true = refl
      at false true false = refl
      at false false g = refl

  pub synced-opened : (from : ℕ) (ss : ℕ → Stream A) → opened (synced_from k show from ss) ≡ synced_from k show from (opened_at ss)
  synced-opened from ss =
      let with_items : List B → Stream B = λ xs. record { items = xs; mark = opened_mark (synced_mark k ss) } in
      let with_mark : Mark → Stream B = λ m. record { items = (synced_from k show from (opened_at ss)).items; mark = m } in
      ap with_items (sym (items_opened from ss)) ∙ ap with_mark (sym (mark_opened ss))

  -- where each input closes, so does the output
  pub synced-closes : (from : ℕ) (ss : ℕ → Stream A) → ((p : ℕ) → p < k.inputs → IsClosed (ss p)) → IsClosed (synced_from k show from ss)
  synced-closes from ss c = at (is_complete k ss) (lost ss) (goes_on k ss) refl refl refl
    where
      same_ended : (m : Mark) → m ≢ still_open → is_whole (ended_mark m) ≡ is_whole m
      same_ended still_open n = absurd (n refl)
      same_ended whole n = refl
      same_ended broken n = refl

      not_open : (m : Mark) → m ≢ still_open → is_open m ≡ false
      not_open still_open n = absurd (n refl)
      not_open whole n = refl
      not_open broken n = refl

      complete_ended : is_complete k (all_ended ss) ≡ true → is_complete k ss ≡ true
      complete_ended e = complete_closed k ss c e

      none_comes : (t : ℕ) → may_come k ss t ≡ false
      none_comes t = and_left _ _ (none_from k.inputs (λ p. is_open (ss p).mark && not (reached k ss t p)) (λ p lt. and_left _ _ (not_open (ss p).mark (c p lt))))

      at : (w b g : Bool) → is_complete k ss ≡ w → lost ss ≡ b → goes_on k ss ≡ g → mark_by w b g ≢ still_open
      at true b g we be ge = λ e. cc
      at false false g we be ge = absurd (clash (is_complete k ss) (complete_all k ss (λ p lt. ap is_whole (closed_is (ss p).mark (c p lt) (not_any k.inputs (λ q. is_broken (ss q).mark) be p lt)))) we)
      at false true true we be ge = absurd (elim (goes_on_cases k ss ge) as (λ _. ⊥) [
        | inl w ↦ clash (is_complete k ss) (complete_ended w) we
        | inr f ↦ clash (may_come k ss f.0) f.1 (none_comes f.0)
      ])
      at false true false we be ge = λ e. cc
