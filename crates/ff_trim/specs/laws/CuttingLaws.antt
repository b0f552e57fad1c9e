-- The laws of a filter with cuts behind its outputs, from those of the filter.
use Rattle.std.specs.Prelude.{◌≡◌, ℕ, zero, suc, ◌<◌, ◌⊎◌, Bool, true, false, ◌||◌, Option, Some, None, List, [], ◌∷◌, length, refl}
use Rattle.std.proofs.Common.{inl, inr, ap, ◌∙◌, arith}
use Rattle.ff_stream.specs.declared.item.Item.{Item}
use Rattle.ff_stream.specs.Stream.{LiesBelow, opened}
use Rattle.ff_stream.specs.Ports.{nothing, IsClosed}
use Rattle.ff_stream.specs.laws.Order.{below_trans}
use Rattle.ff_filter.specs.Joins.{Flow, Ports, silence, one, all_opened, Grows, HidesBreaks, joined_closed, opened_joined}
use Rattle.ff_filter.specs.Made.{is_over}
use Rattle.ff_filter.specs.Views.{View, Settles, IsSpent, AllDone}
use Rattle.ff_filter.specs.laws.Held.{after_held, held_keeps}
use Rattle.ff_filter.specs.laws.StepperLaws.{left_keeps, left_calm, left_closed, or_left, or_right}
use Rattle.ff_trim.specs.declared.tap.Tap.{Tap}
use Rattle.ff_trim.specs.laws.Taps.{Way, ways_of, way_at, still_cut, cutting_view, IsTied, Tied}
use Rattle.ff_trim.specs.laws.CountLaws.{first-below, first-calm, first-settles}

-- what the cut of an output owes
pub record IsRun (w : Way) : Type 0 where
  pub below : (r s : Flow) → LiesBelow r s → LiesBelow (w.runs r) (w.runs s)
  pub calm : (r : Flow) → LiesBelow (opened (w.runs r)) (w.runs (opened r))

pub each_run : (ts : List Tap) (q : ℕ) → IsRun (way_at (ways_of ts) q)
each_run [] q = record { below = λ r s h. inl refl; calm = λ r. inl refl }
each_run (t ∷ ts) zero = record { below = first-below t.cut; calm = first-calm t.cut }
each_run (t ∷ ts) (suc q) = each_run ts q

-- where its input closes, so does a cut that is there
each_settles : (ts : List Tap) (q : ℕ) → q < length (ways_of ts) → (r : Flow) → IsClosed r → IsClosed ((way_at (ways_of ts) q).runs r)
each_settles [] q lt r c = absurd (omega (arith, lt))
each_settles (t ∷ ts) zero lt r c = first-settles t.cut r c
each_settles (t ∷ ts) (suc q) lt r c = each_settles ts q (omega (arith, lt)) r c

held_calm : (held : Option Item) (r s : Flow) → LiesBelow (opened r) s → LiesBelow (opened (after_held held r)) (after_held held s)
held_calm None r s h = h
held_calm (Some x) r s h = opened_joined (one x) r s h

held_closed : (held : Option Item) (s : Flow) → IsClosed s → IsClosed (after_held held s)
held_closed None s c = c
held_closed (Some x) s c = joined_closed (one x) s c

still_below : (w : Way) → IsRun w → (r s : Flow) → LiesBelow r s → LiesBelow (still_cut w r) (still_cut w s)
still_below w i r s h = left_keeps [] w.ended w.after (w.runs (after_held w.held r)) (w.runs (after_held w.held s))
    (i.below (after_held w.held r) (after_held w.held s) (held_keeps w.held r s h))

still_calm : (w : Way) → IsRun w → (r s : Flow) → LiesBelow (opened r) s → LiesBelow (opened (still_cut w r)) (still_cut w s)
still_calm w i r s h = left_calm [] w.ended w.after (w.runs (after_held w.held r)) (w.runs (after_held w.held s))
    (below_trans (opened (w.runs (after_held w.held r))) (w.runs (opened (after_held w.held r))) (w.runs (after_held w.held s)) (i.calm (after_held w.held r))
    (i.below (opened (after_held w.held r)) (after_held w.held s) (held_calm w.held r s h)))

-- the output closes where what comes to its cut does
still_closed : (w : Way) → ((r : Flow) → IsClosed r → IsClosed (w.runs r)) → (s : Flow) → (is_over w.after ≡ true) ⊎ IsClosed s
    → (w.ended ≡ true) ⊎ IsClosed (still_cut w s)
still_closed w i s h = left_closed [] w.ended w.after (w.runs (after_held w.held s))
    (elim h as (λ _. (is_over w.after ≡ true) ⊎ IsClosed (w.runs (after_held w.held s))) [
      | inl e ↦ inl e
      | inr c ↦ inr (i (after_held w.held s) (held_closed w.held s c))
    ])

module _ (v : View) (ts : List Tap) where
  pub cutting-grows : Grows v.rest → Grows (cutting_view v (ways_of ts)).rest
  cutting-grows g rs ss h q = still_below (way_at (ways_of ts) q) (each_run ts q) (v.rest rs q) (v.rest ss q) (g rs ss h q)

  pub cutting-hides : HidesBreaks v.rest → HidesBreaks (cutting_view v (ways_of ts)).rest
  cutting-hides g rs q = still_calm (way_at (ways_of ts) q) (each_run ts q) (v.rest rs q) (v.rest (all_opened rs) q) (g rs q)

  pub cutting-quiet : (q : ℕ) → (way_at (ways_of ts) q).ended ≡ true → (ext : Ports) → still_cut (way_at (ways_of ts) q) (v.rest ext q) ≡ nothing
  cutting-quiet q e ext = rw e refl

  wanted : (w : Way) (q : ℕ) → IsTied v w q → w.stopped ≡ false → w.ended ≡ false → v.stopped q ≡ false
  wanted w q t on going = t.stops ∙ (ap (λ b. b || w.ended) on ∙ going)

  -- where the filter closes its output, or has closed it, so does the cut
  closes_so : (ext : Ports) (q : ℕ) (w : Way) → IsTied v w q → ((r : Flow) → IsClosed r → IsClosed (w.runs r)) → w.stopped ≡ false
      → (v.stopped q ≡ false → (v.ended q ≡ true) ⊎ IsClosed (v.rest ext q)) → (w.ended ≡ true) ⊎ IsClosed (still_cut w (v.rest ext q))
  closes_so ext q w t i on h = pick w.ended refl
    where
      pick : (b : Bool) → w.ended ≡ b → (w.ended ≡ true) ⊎ IsClosed (still_cut w (v.rest ext q))
      pick true e = inl e
      pick false e = still_closed w i (v.rest ext q)
          (elim (h (wanted w q t on e)) as (λ _. (is_over w.after ≡ true) ⊎ IsClosed (v.rest ext q)) [ inl o ↦ inl (t.over o) | inr c ↦ inr c ])

  pub cutting-settles : Tied v (ways_of ts) → Settles v → Settles (cutting_view v (ways_of ts))
  cutting-settles t s ext h q lt on = let long = t.long in
      closes_so ext q (way_at (ways_of ts) q) (t.each q (omega (arith, lt, long))) (each_settles ts q (omega (arith, lt, long))) on (λ z. s ext h q lt z)

  pub cutting-spent : Tied v (ways_of ts) → (p : ℕ) → IsSpent v p → IsSpent (cutting_view v (ways_of ts)) p
  cutting-spent t p (inl e) = inl e
  cutting-spent t p (inr h) = let long = t.long in
      inr (
        h.0,
        λ q lt on. let there : q < length (ways_of ts) = omega (arith, lt, long) in
            closes_so silence q (way_at (ways_of ts) q) (t.each q there) (each_settles ts q there) on (λ z. h.1 q lt z),
      )

  pub cutting-done : Tied v (ways_of ts) → AllDone (cutting_view v (ways_of ts)) → AllDone v
  cutting-done t d q lt =
      let long = t.long in
      let w = way_at (ways_of ts) q in
      let i = t.each q (omega (arith, lt, long)) in
      inr (i.stops ∙ elim (d q lt) as (λ _. (w.stopped || w.ended) ≡ true) [ inl e ↦ or_right w.stopped w.ended e | inr s ↦ or_left w.stopped w.ended s ])
