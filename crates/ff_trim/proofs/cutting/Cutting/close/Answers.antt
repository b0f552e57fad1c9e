use Rattle.std.proofs.Common.{◌<◌, ◌∙◌, length, arith, ap, sym, subst, set}
use Rattle.ff_filter.specs.Made.{is_over}
use Rattle.ff_trim.specs.laws.Taps.{Way, way_of, ways_of, IsShut}
use Rattle.ff_trim.proofs.Ways.{way_there, replaced, long_ways}
use Rattle.ff_trim.proofs.Moving.{shut_tied, shut_gave}
use Rattle.ff_trim.proofs.cutting.Cutting.close.Goals as goal

pub close-requires-clause-going : goal.close-requires-clause-going
close-requires-clause-going g c = ap (λ (w : Way). w.ended) (sym (way_there c.args.self.now.taps.items c.args.q c.index_mut.result.now c.requires.there c.index_mut.ensures.value)) ∙ c.requires.going

pub close-requires-clause-over : goal.close-requires-clause-over
close-requires-clause-over g c = ap (λ (w : Way). is_over w.after) (sym (way_there c.args.self.now.taps.items c.args.q c.index_mut.result.now c.requires.there c.index_mut.ensures.value)) ∙ c.requires.over

pub invariant_of-self : goal.invariant_of-self
invariant_of-self g c =
    let ts = c.args.self.now.taps.items in
    let q = c.args.q in
    let n = c.close.new.self in
    let also = long_ways ts in
    let there : q < length (ways_of ts) = omega (arith, c.requires.there, also) in
    record {
      tied = shut_tied (g.F.Filter.view c.args.self.now.filter) (g.F.Filter.view c.stop.new.self) (ways_of ts) (ways_of (set ts q n)) q (way_of n) there c.stop.ensures.stopped
          (replaced ts q n c.requires.there) c.args.self.now.tied c.close.result
          (subst (λ (w : Way). IsShut w (way_of n) c.close.result) (sym (way_there ts q c.index_mut.result.now c.requires.there c.index_mut.ensures.value)) c.close.ensures);
    }

pub returns-clause-gave : goal.returns-clause-gave
returns-clause-gave g c =
    let ts = c.args.self.now.taps.items in
    let q = c.args.q in
    let n = c.close.new.self in
    let also = long_ways ts in
    let there : q < length (ways_of ts) = omega (arith, c.requires.there, also) in
    shut_gave (g.F.Filter.view c.args.self.now.filter) (g.F.Filter.view c.stop.new.self) (ways_of ts) (ways_of (set ts q n)) q (way_of n) there c.stop.ensures.stopped
    (replaced ts q n c.requires.there) c.args.self.now.tied c.close.result
    (subst (λ (w : Way). IsShut w (way_of n) c.close.result) (sym (way_there ts q c.index_mut.result.now c.requires.there c.index_mut.ensures.value)) c.close.ensures)
