use Rattle.std.proofs.Common.{◌≡◌, ℕ, false, [], ◌∷◌, refl, sym, ◌∙◌, subst}
use Rattle.ff_net.specs.laws.Worlds.{IsEmpty, lanes_of}
use Rattle.ff_net.specs.Ways.{lane_at}
use Rattle.ff_net_threads.specs.laws.links.Ends.{InEndStands}
use Rattle.ff_net.specs.laws.Steps.{Course}
use Rattle.ff_net.proofs.Queues.{finished_of, in_queues}
use Rattle.ff_net_threads.proofs.LinksLemmas.Carrying.{renamed, on_wires_self}
use Rattle.ff_net.proofs.Changes.{true_not_false}
use Rattle.ff_net.proofs.Rounds.{or_true, or_false}
use Rattle.ff_net_threads.specs.declared.links.ends.InEnd.{InEnd}
use Rattle.ff_net_threads.specs.laws.links.Turns.{InRests, ended, link_shut, lying}
use Rattle.ff_net_threads.proofs.LinksLemmas.Turns.{shut_takes, draw_takes, draw_moves, draw_rests, in_rests_self, none_drawn}
use Rattle.ff_net_threads.proofs.links.ends.draw.Goals as goal

pub returns-then-is_finished-clause-stands : goal.returns-then-is_finished-clause-stands
returns-then-is_finished-clause-stands g c world past stand i =
    let queues = c.args.wires.now.queues.items in
    let w = c.args.end.now.wire in
    let finished = finished_of queues world w stand (in_queues queues w c.requires) (c.is_finished.ensures.finished c.if-is_finished.true) in
    on_wires_self [] (w ∷ []) c.args.wires.now world past _ w stand (c.shut.ensures.stands _ (world w) finished i)

pub returns-clause-stands : goal.returns-clause-stands
returns-clause-stands g c world past stand i =
    let end = c.args.end.now in
    let mid = c.fetch-fetched.new.end in
    let last = c.lay-laid.new.end in
    let lanes = lanes_of c.args.wires.now in
    let f = c.fetch-fetched.ensures in
    let goes : (world end.wire).finished ≡ false = c.is_finished.ensures.goes_on c.if-is_finished.false world stand in
    let fetched = f.stands (lane_at lanes end.wire) (world end.wire) goes i in
    let y = c.lay-laid.ensures.stands world past stand (subst (λ (w : ℕ). (world w).finished ≡ false) (sym f.wire) goes) (renamed (InEndStands mid) lanes lanes end.wire mid.wire world refl f.wire fetched) in record {
      now = y.now;
      stand = y.stand;
      fits = renamed (InEndStands last) lanes lanes mid.wire end.wire y.now refl (sym f.wire) y.fits;
      course = subst (λ (w : ℕ). Course [] (w ∷ []) world y.now past past) f.wire y.course;
    }

pub returns-then-is_finished-clause-takes : goal.returns-then-is_finished-clause-takes
returns-then-is_finished-clause-takes g c = shut_takes c.args.end.now _ c.shut.ensures.shut c.shut.ensures.taken

pub returns-clause-takes : goal.returns-clause-takes
returns-clause-takes g c = draw_takes c.args.end.now c.fetch-fetched.new.end c.lay-laid.new.end c.lay-laid.ensures.taking c.lay-laid.ensures.finished c.fetch-fetched.ensures.takes

pub returns-then-is_finished-clause-moved : goal.returns-then-is_finished-clause-moved
returns-then-is_finished-clause-moved g c t = ended (c.shut.ensures.moved t) c.shut.ensures.shut

pub returns-clause-moved : goal.returns-clause-moved
returns-clause-moved g c t =
    draw_moves c.args.end.now c.fetch-fetched.new.end c.lay-laid.new.end c.lay-laid.ensures.taking c.lay-laid.ensures.finished c.fetch-fetched.result c.lay-laid.result c.fetch-fetched.ensures.moved c.fetch-fetched.ensures.still c.lay-laid.ensures.moved (or_true c.fetch-fetched.result c.lay-laid.result t)

pub returns-then-is_finished-clause-still : goal.returns-then-is_finished-clause-still
returns-then-is_finished-clause-still g c n = (subst (λ (e : InEnd). InRests c.args.end.now e) (sym (c.shut.ensures.still n)) (in_rests_self c.args.end.now), refl)

pub returns-clause-still : goal.returns-clause-still
returns-clause-still g c n =
    let no = or_false c.fetch-fetched.result c.lay-laid.result n in
    let lays = c.lay-laid.ensures.still no.1 in
    (draw_rests c.args.end.now c.fetch-fetched.new.end c.lay-laid.new.end c.lay-laid.ensures.taking c.lay-laid.ensures.finished (c.fetch-fetched.ensures.still no.0) lays.0, lays.1)

pub returns-then-is_finished-clause-why : goal.returns-then-is_finished-clause-why
returns-then-is_finished-clause-why g c n = link_shut c.shut.ensures.shut

pub returns-then-not-is_empty-clause-why : goal.returns-then-not-is_empty-clause-why
returns-then-not-is_empty-clause-why g c n = lying (λ e. true_not_false (sym (c.is_empty.ensures.exact e) ∙ c.if-not-is_empty.true))

pub returns-clause-why : goal.returns-clause-why
returns-clause-why g c n =
    let nothing = or_false c.fetch-fetched.result c.lay-laid.result n in
    let mid = c.fetch-fetched.new.end in
    let wires = c.args.wires.now in
    let none = c.lay-laid.ensures.lays (subst (λ (w : ℕ). IsEmpty wires w) (sym c.fetch-fetched.ensures.wire) (c.is_empty.ensures.empty c.if-not-is_empty.false)) in
    none_drawn wires c.args.end.now mid c.lay-laid.new.end c.lay-laid.ensures.taking none (c.lay-laid.ensures.still nothing.1).0 (c.fetch-fetched.ensures.still nothing.0) (c.fetch-fetched.ensures.none nothing.0)
