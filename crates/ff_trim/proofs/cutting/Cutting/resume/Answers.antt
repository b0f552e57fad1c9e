use Rattle.std.proofs.Common.{◌<◌, ◌∙◌, Some, None, is_some, length, arith, ap, sym, subst, set, OnErr}
use Rattle.ff_filter.specs.Made.{is_over}
use Rattle.ff_trim.specs.laws.Taps.{Way, way_of, ways_of, IsResumed, IsKeptStill}
use Rattle.ff_trim.proofs.Ways.{way_there, replaced, long_ways}
use Rattle.ff_trim.proofs.Moving.{resumed_any, not_over}
use Rattle.ff_trim.proofs.Turns.{resumed_turn}
use Rattle.ff_trim.proofs.cutting.Cutting.resume.Goals as goal

pub resume-requires-clause-going : goal.resume-requires-clause-going
resume-requires-clause-going g c = ap (λ (w : Way). w.ended) (sym (way_there c.args.self.now.taps.items c.args.q c.index_mut.result.now c.requires.there c.index_mut.ensures.value)) ∙ c.requires.going

pub resume-requires-clause-more : goal.resume-requires-clause-more
resume-requires-clause-more g c = not_over c.index_mut.result.now.after
    (ap (λ (w : Way). is_over w.after) (sym (way_there c.args.self.now.taps.items c.args.q c.index_mut.result.now c.requires.there c.index_mut.ensures.value)) ∙ c.requires.more)

pub resume-requires-clause-held : goal.resume-requires-clause-held
resume-requires-clause-held g c = ap (λ (w : Way). is_some w.held) (sym (way_there c.args.self.now.taps.items c.args.q c.index_mut.result.now c.requires.there c.index_mut.ensures.value)) ∙ c.requires.held

pub invariant_of-self : goal.invariant_of-self
invariant_of-self g c =
    let ts = c.args.self.now.taps.items in
    let q = c.args.q in
    let n = c.resume.new.self in
    let v = g.F.Filter.view c.args.self.now.filter in
    let also = long_ways ts in
    let there : q < length (ways_of ts) = omega (arith, c.requires.there, also) in
    let is = way_there ts q c.index_mut.result.now c.requires.there c.index_mut.ensures.value in
    record {
      tied = resumed_any v (ways_of ts) (ways_of (set ts q n)) q (way_of n) there (replaced ts q n c.requires.there) c.args.self.now.tied c.resume.result
          (λ e. subst (λ (o : Way). IsResumed o (way_of n) None) (sym is) (c.resume.ensures.on e)) (λ y e. subst (λ (o : Way). IsResumed o (way_of n) (Some y)) (sym is) (c.resume.ensures.gave y e))
          c.resume.ensures.due (subst (λ (o : Way). OnErr c.resume.result (IsKeptStill o (way_of n))) (sym is) c.resume.ensures.kept);
    }

pub returns-clause-turn : goal.returns-clause-turn
returns-clause-turn g c =
    let ts = c.args.self.now.taps.items in
    let o = c.index_mut.result.now in
    resumed_turn (g.F.Filter.view c.args.self.now.filter) ts c.args.q o c.resume.new.self c.resume.result c.requires.there c.args.self.now.tied
    (way_there ts c.args.q o c.requires.there c.index_mut.ensures.value) c.requires.going c.resume.ensures.on c.resume.ensures.gave c.resume.ensures.due
    c.resume.ensures.kept
