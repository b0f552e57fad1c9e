use Rattle.std.proofs.Common.{◌≡◌, drop}
use Rattle.ff_vfilter.specs.laws.RateCuts.{span_of, span_ahead}
use Rattle.ff_vfilter.proofs.rate.Rate.span.Given as goal

abbrev pub invariant-items : goal.invariant-items
invariant-items l = span_of l.self.showing.scale (span_ahead l.self.showing) l.self.input.queue.items
    ≡ span_of l.self.showing.scale l.span (drop l.i l.self.input.queue.items)
