use Rattle.std.proofs.Common.{◌≡◌, ◌<◌, ◌∙◌, Ok, Some, None, is_some, length, refl, arith, ap, sym, subst, set, OnErr}
use Rattle.ff_filter.specs.Made.{is_over}
use Rattle.ff_trim.specs.laws.Taps.{Way, way_of, ways_of, IsPut, IsKept}
use Rattle.ff_trim.proofs.Ways.{way_there, replaced, long_ways}
use Rattle.ff_trim.proofs.Moving.{put_any, waits_cut, same_cut, not_over, not_held}
use Rattle.ff_trim.proofs.Turns.{failed, waited, put_turn}
use Rattle.ff_trim.proofs.cutting.Cutting.draw.Goals as goal

pub put-requires-clause-going : goal.put-requires-clause-going
put-requires-clause-going g c = ap (λ (w : Way). w.ended) (sym (way_there c.args.self.now.taps.items c.args.q c.index_mut.result.now c.requires.there c.index_mut.ensures.value)) ∙ c.requires.going

pub put-requires-clause-more : goal.put-requires-clause-more
put-requires-clause-more g c = not_over c.index_mut.result.now.after
    (ap (λ (w : Way). is_over w.after) (sym (way_there c.args.self.now.taps.items c.args.q c.index_mut.result.now c.requires.there c.index_mut.ensures.value)) ∙ c.requires.more)

pub put-requires-clause-free : goal.put-requires-clause-free
put-requires-clause-free g c = not_held c.index_mut.result.now.held
    (ap (λ (w : Way). is_some w.held) (sym (way_there c.args.self.now.taps.items c.args.q c.index_mut.result.now c.requires.there c.index_mut.ensures.value)) ∙ c.requires.free)

pub invariant_of-self-in-Ok-Some : goal.invariant_of-self-in-Ok-Some
invariant_of-self-in-Ok-Some g c =
    let ts = c.args.self.now.taps.items in
    let q = c.args.q in
    let n = c.put.new.self in
    let x = c.in-Ok-Some.item in
    let v = g.F.Filter.view c.args.self.now.filter in
    let w = g.F.Filter.view c.pull.new.self in
    let also = long_ways ts in
    let there : q < length (ways_of ts) = omega (arith, c.requires.there, also) in
    let is = way_there ts q c.index_mut.result.now c.requires.there c.index_mut.ensures.value in
    let gives : c.pull.result ≡ Ok (Some x) = cc in
    let given = c.pull.ensures.gives x gives in
    record {
      tied = put_any v w (ways_of ts) (ways_of (set ts q n)) q (way_of n) x there given (replaced ts q n c.requires.there) c.args.self.now.tied c.put.result
          (λ e. subst (λ (o : Way). IsPut o (way_of n) x None) (sym is) (c.put.ensures.on e)) (λ y e. subst (λ (o : Way). IsPut o (way_of n) x (Some y)) (sym is) (c.put.ensures.gave y e))
          c.put.ensures.due (subst (λ (o : Way). OnErr c.put.result (IsKept o (way_of n) x)) (sym is) c.put.ensures.kept);
    }

pub returns-in-Err : goal.returns-in-Err
returns-in-Err g c =
    let v = g.F.Filter.view c.args.self.now.filter in
    let w = g.F.Filter.view c.pull.new.self in
    let ts = c.args.self.now.taps.items in
    failed v w ts ts c.args.q refl c.in-Err.error (same_cut v w (ways_of ts) c.args.self.now.tied c.in-Err.ensures.unchanged)

pub returns-in-Ok-None : goal.returns-in-Ok-None
returns-in-Ok-None g c =
    let none : c.pull.result ≡ Ok None = cc in
    let v = g.F.Filter.view c.args.self.now.filter in
    let w = g.F.Filter.view c.pull.new.self in
    let ts = c.args.self.now.taps.items in
    waited v w ts ts c.args.q refl (waits_cut v w ts c.args.q c.args.self.now.tied c.requires.going c.requires.more c.requires.free (c.pull.ensures.waits none))

pub returns-in-Ok-Some : goal.returns-in-Ok-Some
returns-in-Ok-Some g c =
    let ts = c.args.self.now.taps.items in
    let q = c.args.q in
    let o = c.index_mut.result.now in
    let x = c.in-Ok-Some.item in
    let gives : c.pull.result ≡ Ok (Some x) = cc in
    put_turn (g.F.Filter.view c.args.self.now.filter) (g.F.Filter.view c.pull.new.self) ts q o c.put.new.self x c.put.result c.requires.there
    (c.pull.ensures.gives x gives) c.args.self.now.tied (way_there ts q o c.requires.there c.index_mut.ensures.value) c.requires.going
    (g.met.F.Filter.quiet c.pull.new.self q) c.put.ensures.on c.put.ensures.gave c.put.ensures.due c.put.ensures.kept
