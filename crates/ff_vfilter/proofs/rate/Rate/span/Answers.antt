use Rattle.std.proofs.Common.{◌+◌, ◌<◌, ◌≤◌, ◌∙◌, sym, ap, arith, length, drop, Option}
use Rattle.ff_vfilter.specs.declared.span.Span.{Span}
use Rattle.ff_vfilter.specs.laws.RateCuts.{span_of, span_ahead}
use Rattle.ff_vfilter.proofs.Cutting.{span_more, span_last}
use Rattle.ff_vfilter.proofs.rate.Rate.span.Goals as goal

pub items-preserved : goal.items-preserved
items-preserved c =
    let m = c.args.self.now.showing in
    let q = c.args.self.now.input.queue in
    let lt : c.items.i < length q.items = omega (arith, c.items-test.true, c.len-i-end.ensures, q.ok.0) in
    span_more m.scale c.items.span (span_of m.scale (span_ahead m) q.items) q.items c.items.i c.index.result.now lt c.index.ensures c.items.invariant
    ∙ ap (λ (o : Option Span). span_of m.scale o (drop (c.items.i + 1) q.items)) (sym c.with_item-span.ensures)

pub returns : goal.returns
returns c =
    let m = c.args.self.now.showing in
    let q = c.args.self.now.input.queue in
    let le : length q.items ≤ c.items.i = omega (arith, c.items-test.false, c.len-i-end.ensures, q.ok.0) in
    span_last m.scale c.items.span (span_of m.scale (span_ahead m) q.items) q.items c.items.i le c.items.invariant
