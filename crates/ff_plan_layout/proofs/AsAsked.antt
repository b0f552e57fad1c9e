-- A stream that is as it is asked to be is what its graph made.
use Rattle.std.proofs.Common.{◌≡◌, ℕ, ◌∙◌}
use Rattle.std.specs.Prelude.{Ok, not}
use Rattle.ff_words.specs.declared.job.OutputJob.{OutputJob}
use Rattle.ff_plan_layout.specs.declared.error.PlanError.TheVariants as fault
use Rattle.ff_plan_layout.specs.declared.layout.Passed.{Passed}
use Rattle.ff_plan_layout.specs.Asking.{is_as_asked}
use Rattle.ff_plan_layout.specs.Rules.{Planned, behind, where_so}
use Rattle.ff_plan_layout.specs.Streams.{as_asked}
use Rattle.ff_plan_layout.proofs.Results.{behind_ok, unless_ok}

pub asked_ok : (out : OutputJob) (o n : ℕ) (r : Planned Passed) (p : Passed) → behind r (as_asked out o n) ≡ Ok p → r ≡ Ok p
asked_ok out o n r p h =
    let made = behind_ok r (as_asked out o n) p h in
    made.1 ∙ unless_ok (where_so (not (is_as_asked out.asked made.0.what.head)) (fault.Takes o n)) (Ok made.0) p made.2
