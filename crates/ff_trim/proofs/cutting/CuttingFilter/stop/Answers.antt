use Rattle.std.proofs.Common.{◌<◌, length, arith, sym, subst, set}
use Rattle.ff_trim.specs.laws.Taps.{Way, way_of, ways_of, IsLeft}
use Rattle.ff_trim.proofs.Ways.{way_there, replaced, long_ways}
use Rattle.ff_trim.proofs.Moving.{left_tied, left_stopped}
use Rattle.ff_trim.proofs.cutting.CuttingFilter.stop.Goals as goal

pub invariant_of-self : goal.invariant_of-self
invariant_of-self g c =
    let ts = c.args.self.now.taps.items in
    let q = c.args.port in
    let n = c.stop-2.new.self in
    let j = c.index_mut.result.now in
    let also = long_ways ts in
    let long = c.args.self.now.tied.long in
    let lt : q < length ts = omega (arith, c.requires.there, long, also) in
    let there : q < length (ways_of ts) = omega (arith, lt, also) in
    record {
      tied = left_tied (g.F.Filter.view c.args.self.now.filter) (g.F.Filter.view c.stop.new.self) (ways_of ts) (ways_of (set ts q n)) q (way_of n) there c.stop.ensures.stopped
          (replaced ts q n lt) c.args.self.now.tied (subst (λ (w : Way). IsLeft w (way_of n)) (sym (way_there ts q j lt c.index_mut.ensures.value)) c.stop-2.ensures);
    }

pub returns : goal.returns
returns g c =
    let ts = c.args.self.now.taps.items in
    let q = c.args.port in
    let n = c.stop-2.new.self in
    let j = c.index_mut.result.now in
    let also = long_ways ts in
    let long = c.args.self.now.tied.long in
    let lt : q < length ts = omega (arith, c.requires.there, long, also) in
    let there : q < length (ways_of ts) = omega (arith, lt, also) in
    record {
      stopped = left_stopped (g.F.Filter.view c.args.self.now.filter) (g.F.Filter.view c.stop.new.self) (ways_of ts) (ways_of (set ts q n)) q (way_of n) there c.stop.ensures.stopped
          (replaced ts q n lt) c.args.self.now.tied (subst (λ (w : Way). IsLeft w (way_of n)) (sym (way_there ts q j lt c.index_mut.ensures.value)) c.stop-2.ensures);
    }
