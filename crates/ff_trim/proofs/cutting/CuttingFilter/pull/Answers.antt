use Rattle.std.proofs.Common.{◌≡◌, ◌<◌, ◌∙◌, Ok, length, arith, ap}
use Rattle.ff_filter.proofs.Moves.{same_self, same_gave}
use Rattle.ff_trim.specs.laws.Taps.{Way, ways_of, cut_view}
use Rattle.ff_trim.specs.declared.tap.Turn.TheVariants.{Gave as Turned}
use Rattle.ff_trim.proofs.Moving.{waits_closed}
use Rattle.ff_trim.proofs.Ways.{way_there, long_ways}
use Rattle.ff_trim.proofs.cutting.CuttingFilter.pull.Goals as goal

pub returns-then-index-clause-waits : goal.returns-then-index-clause-waits
returns-then-index-clause-waits g c e =
    let ts = c.args.self.now.taps.items in
    let also = long_ways ts in
    let long = c.args.self.now.tied.long in
    let lt : c.args.port < length ts = omega (arith, c.requires.there, long, also) in
    waits_closed (g.F.Filter.view c.args.self.now.filter) (ways_of ts) c.args.port (ap (λ (w : Way). w.ended) (way_there ts c.args.port c.index.result.now lt c.index.ensures) ∙ c.if-index.true)

pub loop-error-init : goal.loop-error-init
loop-error-init g c =
    let ts = c.args.self.now.taps.items in
    let also = long_ways ts in
    let long = c.args.self.now.tied.long in
    let lt : c.args.port < length ts = omega (arith, c.requires.there, long, also) in
    record {
      same = same_self (cut_view (g.F.Filter.view c.args.self.now.filter) ts);
      going = ap (λ (w : Way). w.ended) (way_there ts c.args.port c.index.result.now lt c.index.ensures) ∙ c.if-index.false;
      there = lt;
    }

pub returns-in-Ok-Gave-clause-gives : goal.returns-in-Ok-Gave-clause-gives
returns-in-Ok-Gave-clause-gives g c x e =
    let first = cut_view (g.F.Filter.view c.args.self.now.filter) c.args.self.now.taps.items in
    let old = cut_view (g.F.Filter.view c.loop-error.self.filter) c.loop-error.self.taps.items in
    let new = cut_view (g.F.Filter.view c.advance.new.self.filter) c.advance.new.self.taps.items in
    let gave : c.advance.result ≡ Ok (Turned x) = cc (e, c.in-Ok-Gave.is, c.in-Ok-Gave.field-0-is) in
    same_gave first old new c.args.port x c.requires.wanted c.loop-error.invariant.same (c.advance.ensures.gave x gave)
