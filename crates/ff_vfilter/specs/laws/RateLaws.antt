-- The laws of the machine of an even rate.
use Rattle.std.specs.Prelude.{◌≡◌, ℕ, ◌⊎◌, Bool, true, false, cond, List, refl}
use Rattle.std.proofs.Common.{inl, inr, arith}
use Rattle.ff_frame.specs.declared.head.StreamHead.{StreamHead}
use Rattle.ff_stream.specs.declared.item.Item.{Item}
use Rattle.ff_stream.specs.declared.item.Item.TheVariants.{Video, End, Broken}
use Rattle.ff_stream.specs.declared.item.Lane.TheVariants.{Frames}
use Rattle.ff_stream.specs.Stream.{LiesBelow, opened}
use Rattle.ff_stream.specs.Ports.{nothing, IsClosed}
use Rattle.ff_stream.specs.Within.{passes_limits}
use Rattle.ff_stream.specs.laws.Order.{below_self, below_trans, nothing_below}
use Rattle.ff_filter.specs.declared.after.After.{After}
use Rattle.ff_filter.specs.Joins.{Flow, Ports, one, before_all-closed, joined_keeps, joined_closed, opened_joined, Grows, HidesBreaks}
use Rattle.ff_filter.specs.Views.{Settles}
use Rattle.ff_filter.specs.Made.{waiting}
use Rattle.ff_filter.specs.laws.Limits.{limited, limit_step}
use Rattle.ff_filter.specs.laws.Runs.{run_below, run_calm, run_settles, no_more}
use Rattle.ff_filter.specs.laws.StepperLaws.{left_keeps, left_calm, behind_closed}
use Rattle.ff_vfilter.specs.declared.scale.Scale.{Scale}
use Rattle.ff_vfilter.specs.declared.showing.Ahead.{Ahead}
use Rattle.ff_vfilter.specs.declared.showing.Ahead.TheVariants as ahead
use Rattle.ff_vfilter.specs.declared.showing.Showing.{Showing}
use Rattle.ff_vfilter.specs.laws.RateSteps.{Held, rate_step, shows_to_end, rated}
use Rattle.ff_vfilter.specs.laws.RateViews.{ahead_then, still_shown, rate_view}

ahead_below : (a : Ahead) (r s : Flow) → LiesBelow r s → LiesBelow (ahead_then a r) (ahead_then a s)
ahead_below ahead.Unknown r s h = h
ahead_below (ahead.Picture f) r s h = joined_keeps (one (Video f)) r s h
ahead_below ahead.Whole r s h = below_self (one End)
ahead_below ahead.Lost r s h = below_self (one Broken)

ahead_calm : (a : Ahead) (r s : Flow) → LiesBelow (opened r) s → LiesBelow (opened (ahead_then a r)) (ahead_then a s)
ahead_calm ahead.Unknown r s h = h
ahead_calm (ahead.Picture f) r s h = opened_joined (one (Video f)) r s h
ahead_calm ahead.Whole r s h = below_self (one End)
ahead_calm ahead.Lost r s h = nothing_below (one Broken)

ahead_closed : (a : Ahead) (t : Flow) → IsClosed t → IsClosed (ahead_then a t)
ahead_closed ahead.Unknown t c = c
ahead_closed (ahead.Picture f) t c = joined_closed (one (Video f)) t c
ahead_closed ahead.Whole t c = λ o. cc
ahead_closed ahead.Lost t c = λ o. cc

cond_below : (b : Bool) (r s : Flow) → LiesBelow r s → LiesBelow (cond b nothing r) (cond b nothing s)
cond_below true r s h = below_self nothing
cond_below false r s h = h

cond_calm : (b : Bool) (r s : Flow) → LiesBelow (opened r) s → LiesBelow (opened (cond b nothing r)) (cond b nothing s)
cond_calm true r s h = below_self nothing
cond_calm false r s h = h

cond_closed : (b : Bool) (r : Flow) → IsClosed r → (b ≡ true) ⊎ IsClosed (cond b nothing r)
cond_closed true r c = inl refl
cond_closed false r c = inr c

cond_quiet : (b : Bool) (s : Flow) → b ≡ true → cond b nothing s ≡ nothing
cond_quiet true s t = refl
cond_quiet false s t = cc

finish : Scale → Held → List Item
finish s g = shows_to_end s g.picture g.number

held : Showing → Held
held m = record { picture = m.picture; number = m.number }

shown_below : (given : StreamHead) (m : Showing) (r s : Flow) → LiesBelow r s
    → LiesBelow (limited (passes_limits (Frames given)) m.before (still_shown m r)) (limited (passes_limits (Frames given)) m.before (still_shown m s))
shown_below given m r s h = run_below (limit_step (passes_limits (Frames given))) no_more m.before (still_shown m r) (still_shown m s)
    (run_below (rate_step m.scale) (λ (g : Held). shows_to_end m.scale g.picture g.number) (record { picture = m.picture; number = m.number }) (ahead_then m.ahead r)
    (ahead_then m.ahead s) (ahead_below m.ahead r s h))

shown_calm : (given : StreamHead) (m : Showing) (r s : Flow) → LiesBelow (opened r) s
    → LiesBelow (opened (limited (passes_limits (Frames given)) m.before (still_shown m r))) (limited (passes_limits (Frames given)) m.before (still_shown m s))
shown_calm given m r s h =
    below_trans (opened (limited (passes_limits (Frames given)) m.before (still_shown m r))) (limited (passes_limits (Frames given)) m.before (opened (still_shown m r)))
    (limited (passes_limits (Frames given)) m.before (still_shown m s))
    (run_calm (limit_step (passes_limits (Frames given))) no_more m.before (still_shown m r))
    (run_below (limit_step (passes_limits (Frames given))) no_more m.before (opened (still_shown m r)) (still_shown m s)
    (below_trans (opened (still_shown m r)) (rated m.scale (record { picture = m.picture; number = m.number }) (opened (ahead_then m.ahead r))) (still_shown m s)
    (run_calm (rate_step m.scale) (λ (g : Held). shows_to_end m.scale g.picture g.number) (record { picture = m.picture; number = m.number }) (ahead_then m.ahead r))
    (run_below (rate_step m.scale) (λ (g : Held). shows_to_end m.scale g.picture g.number) (record { picture = m.picture; number = m.number })
    (opened (ahead_then m.ahead r)) (ahead_then m.ahead s) (ahead_calm m.ahead r s h))))

shown_closed : (given : StreamHead) (m : Showing) (t : Flow) → IsClosed t → IsClosed (limited (passes_limits (Frames given)) m.before (still_shown m t))
shown_closed given m t c = run_settles (limit_step (passes_limits (Frames given))) no_more m.before (still_shown m t)
    (run_settles (rate_step m.scale) (λ (g : Held). shows_to_end m.scale g.picture g.number) (record { picture = m.picture; number = m.number }) (ahead_then m.ahead t)
    (ahead_closed m.ahead t c))

module _ (head given : StreamHead) (m : Showing) (queue : List Item) (after : After) (ended stopped : Bool) where
  pub rate-grows : Grows (rate_view head given m queue after ended stopped).rest
  rate-grows rs ss h q = cond_below ended (limited (passes_limits (Frames given)) m.before (still_shown m (waiting queue after (rs 0))))
      (limited (passes_limits (Frames given)) m.before (still_shown m (waiting queue after (ss 0))))
      (shown_below given m (waiting queue after (rs 0)) (waiting queue after (ss 0)) (left_keeps queue false after (rs 0) (ss 0) (h 0)))

  pub rate-hides : HidesBreaks (rate_view head given m queue after ended stopped).rest
  rate-hides rs q = cond_calm ended (limited (passes_limits (Frames given)) m.before (still_shown m (waiting queue after (rs 0))))
      (limited (passes_limits (Frames given)) m.before (still_shown m (waiting queue after (opened (rs 0)))))
      (shown_calm given m (waiting queue after (rs 0)) (waiting queue after (opened (rs 0)))
      (left_calm queue false after (rs 0) (opened (rs 0)) (below_self (opened (rs 0)))))

  pub rate-settles : Settles (rate_view head given m queue after ended stopped)
  rate-settles ext h q lt on = cond_closed ended (limited (passes_limits (Frames given)) m.before (still_shown m (waiting queue after (ext 0))))
      (shown_closed given m (waiting queue after (ext 0)) (before_all-closed queue _ (behind_closed after (ext 0) (h 0 (omega arith)))))

  pub rate-quiet : (q : ℕ) → ended ≡ true → (ext : Ports) → (rate_view head given m queue after ended stopped).rest ext q ≡ nothing
  rate-quiet q e ext = cond_quiet ended (limited (passes_limits (Frames given)) m.before (still_shown m (waiting queue after (ext 0)))) e
