-- The laws of the machines that are alike for all functions of one stream, and for all ways to share items out.
use Rattle.std.specs.Prelude.{◌≡◌, ℕ, ◌<◌, Bool, true, length}
use Rattle.ff_stream.specs.declared.item.Lane.TheVariants.{Frames}
use Rattle.ff_stream.specs.Stream.{LiesBelow, opened}
use Rattle.ff_stream.specs.Ports.{nothing, IsClosed}
use Rattle.ff_stream.specs.Within.{passes_limits}
use Rattle.ff_filter.specs.declared.limited.Limited.{Limited}
use Rattle.ff_filter.specs.declared.step.Step.{Ghosts as StepGhosts}
use Rattle.ff_filter.specs.declared.stepper.Stepper.{Stepper}
use Rattle.ff_filter.specs.Joins.{Flow, Ports, Grows, HidesBreaks}
use Rattle.ff_filter.specs.laws.LimitLaws.{limited-below, limited-calm, limited-settles}
use Rattle.ff_filter.specs.laws.Limits.{limited}
use Rattle.ff_filter.specs.Made.{stepper_view, steps_spent}
use Rattle.ff_filter.specs.laws.StepperLaws.{stepper-grows, stepper-hides, stepper-settles, stepper-quiet, stepper-spent, stepper-shut, stepper-done}
use Rattle.ff_filter.specs.Views.{View, Settles, IsSpent, AllDone}
use Rattle.ff_filter.specs.declared.spread.share.Share.{Ghosts as ShareGhosts}
use Rattle.ff_filter.specs.declared.spread.spreader.Spreader.{Spreader}
use Rattle.ff_filter.specs.laws.spread.Lines.{lines}
use Rattle.ff_filter.specs.laws.spread.SpreadLaws.{spread-grows, spread-hides, spread-settles, spread-quiet, spread-spent_only, spread-shut_spent, spread-done_spent}
use Rattle.ff_filter.specs.spread.Spreads.{spread_view, spread_spent}

-- a function of one stream, of at most one item for each, within the limits of its output
module _ {A : Type 0} {G : StepGhosts A} where
  abbrev pub single_runs : Limited A G → Flow → Flow
  single_runs l s = limited (passes_limits (Frames l.head)) l.before (G.runs l.inner s)

  abbrev pub single_seen : Stepper (Limited A G) → View
  single_seen m = stepper_view (G.lane_in m.step.inner) (G.lane_out m.step.inner) (single_runs m.step) m.outlet.queue.items m.outlet.ended m.outlet.stopped m.after m.shut

  abbrev pub single_spends : Stepper (Limited A G) → Bool
  single_spends m = steps_spent m.after m.outlet.ended m.outlet.stopped

  pub single-grows : ((a : A) (r s : Flow) → LiesBelow r s → LiesBelow (G.runs a r) (G.runs a s)) → (m : Stepper (Limited A G)) → Grows (single_seen m).rest
  single-grows below m = stepper-grows (G.lane_in m.step.inner) (G.lane_out m.step.inner) (single_runs m.step) m.outlet.queue.items m.outlet.ended m.outlet.stopped m.after m.shut
      (limited-below (passes_limits (Frames m.step.head)) m.step.before (G.runs m.step.inner) (below m.step.inner))

  pub single-hides : ((a : A) (r : Flow) → LiesBelow (opened (G.runs a r)) (G.runs a (opened r))) → (m : Stepper (Limited A G)) → HidesBreaks (single_seen m).rest
  single-hides calm m = stepper-hides (G.lane_in m.step.inner) (G.lane_out m.step.inner) (single_runs m.step) m.outlet.queue.items m.outlet.ended m.outlet.stopped m.after m.shut
      (limited-calm (passes_limits (Frames m.step.head)) m.step.before (G.runs m.step.inner) (calm m.step.inner))

  pub single-settles : ((a : A) (r : Flow) → IsClosed r → IsClosed (G.runs a r)) → (m : Stepper (Limited A G)) → Settles (single_seen m)
  single-settles settles m = stepper-settles (G.lane_in m.step.inner) (G.lane_out m.step.inner) (single_runs m.step) m.outlet.queue.items m.outlet.ended m.outlet.stopped m.after m.shut
      m.closed (limited-settles (passes_limits (Frames m.step.head)) m.step.before (G.runs m.step.inner) (settles m.step.inner))

  pub single-quiet : (m : Stepper (Limited A G)) (q : ℕ) → (single_seen m).ended q ≡ true → (ext : Ports) → (single_seen m).rest ext q ≡ nothing
  single-quiet m q = stepper-quiet (single_runs m.step) m.outlet.queue.items m.outlet.ended m.after

  pub single-spent_only : (m : Stepper (Limited A G)) (p : ℕ) → p < length (single_seen m).ins → single_spends m ≡ true → IsSpent (single_seen m) p
  single-spent_only m p lt e = stepper-spent (G.lane_in m.step.inner) (G.lane_out m.step.inner) (single_runs m.step) m.outlet.queue.items m.outlet.ended m.outlet.stopped m.after m.shut p e

  pub single-shut_spent : (m : Stepper (Limited A G)) (p : ℕ) → p < length (single_seen m).ins → (single_seen m).shut p ≡ true → single_spends m ≡ true
  single-shut_spent m p lt e = stepper-shut m.after m.outlet.ended m.outlet.stopped m.shut m.closed e

  pub single-done_spent : (m : Stepper (Limited A G)) (p : ℕ) → p < length (single_seen m).ins → 0 < length (single_seen m).outs → AllDone (single_seen m) → single_spends m ≡ true
  single-done_spent m p lt z d = stepper-done (G.lane_in m.step.inner) (G.lane_out m.step.inner) (single_runs m.step) m.outlet.queue.items m.outlet.ended m.outlet.stopped m.after m.shut d

-- what each output gets of each item
module _ {S : Type 0} {G : ShareGhosts S} where
  abbrev pub shared_seen : Spreader S G → View
  shared_seen m = spread_view (G.lane_in m.share) (G.lanes_out m.share) (G.shared m.share) (lines m.outlets.items) m.after

  abbrev pub shared_spends : Spreader S G → Bool
  shared_spends m = spread_spent m.after m.outlets.items

  pub shared-grows : (m : Spreader S G) → Grows (shared_seen m).rest
  shared-grows m = spread-grows (G.lane_in m.share) (G.lanes_out m.share) (G.shared m.share) (lines m.outlets.items) m.after

  pub shared-hides : (m : Spreader S G) → HidesBreaks (shared_seen m).rest
  shared-hides m = spread-hides (G.lane_in m.share) (G.lanes_out m.share) (G.shared m.share) (lines m.outlets.items) m.after

  pub shared-settles : (m : Spreader S G) → Settles (shared_seen m)
  shared-settles m = spread-settles (G.lane_in m.share) (G.lanes_out m.share) (G.shared m.share) (lines m.outlets.items) m.after

  pub shared-quiet : (m : Spreader S G) (q : ℕ) → (shared_seen m).ended q ≡ true → (ext : Ports) → (shared_seen m).rest ext q ≡ nothing
  shared-quiet m q e ext = spread-quiet (G.lane_in m.share) (G.lanes_out m.share) (G.shared m.share) (lines m.outlets.items) m.after q e ext

  pub shared-spent_only : (m : Spreader S G) (p : ℕ) → p < length (shared_seen m).ins → shared_spends m ≡ true → IsSpent (shared_seen m) p
  shared-spent_only m p lt e = spread-spent_only (G.lane_in m.share) (G.lanes_out m.share) (G.shared m.share) m.outlets.items m.after m.count p e

  pub shared-shut_spent : (m : Spreader S G) (p : ℕ) → p < length (shared_seen m).ins → (shared_seen m).shut p ≡ true → shared_spends m ≡ true
  shared-shut_spent m p lt e = spread-shut_spent (G.lane_in m.share) (G.lanes_out m.share) (G.shared m.share) m.outlets.items m.after m.count e

  pub shared-done_spent : (m : Spreader S G) (p : ℕ) → p < length (shared_seen m).ins → 0 < length (shared_seen m).outs → AllDone (shared_seen m) → shared_spends m ≡ true
  shared-done_spent m p lt z d = spread-done_spent (G.lane_in m.share) (G.lanes_out m.share) (G.shared m.share) m.outlets.items m.after m.count z d
