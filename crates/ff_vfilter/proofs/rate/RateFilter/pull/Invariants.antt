use Rattle.std.specs.Prelude.{◌≡◌, false}
use Rattle.ff_filter.specs.Views.{Same}
use Rattle.ff_vfilter.specs.laws.RateViews.{rate_view, work_left}
use Rattle.ff_vfilter.proofs.rate.RateFilter.pull.Given as goal

abbrev pub invariant-loop-error : goal.invariant-loop-error
invariant-loop-error l = record {
  same : Same (rate_view l.fn.self.head l.fn.self.given l.fn.self.showing l.fn.self.input.queue.items l.fn.self.input.after l.fn.self.ended l.fn.self.stopped)
      (rate_view l.self.head l.self.given l.self.showing l.self.input.queue.items l.self.input.after l.self.ended l.self.stopped);
  going : l.self.ended ≡ false;
}

abbrev pub decreases-loop-error : goal.decreases-loop-error
decreases-loop-error l = work_left l.self.input.queue.items l.self.showing.ahead
