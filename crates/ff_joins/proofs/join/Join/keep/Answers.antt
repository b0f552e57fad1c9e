use Rattle.std.proofs.Common.{rules, to_z, of_z, w64, ◌≡◌, ◌∙◌, ℤ, Option, map, set, subst, ap, sym}
use Rattle.ff_filter.specs.Views.{Fed}
use Rattle.ff_joins.specs.laws.JoinSeen.{join_seen}
use Rattle.ff_filter.specs.Joins.{before}
use Rattle.ff_filter.specs.Made.{is_over}
use Rattle.ff_stream.specs.Times.{start_of}
use Rattle.ff_joins.specs.laws.Lots.{Lot, lots, lane_of, last_port, lots_view, comes, has_started_by}
use Rattle.ff_joins.proofs.Framing.{lots_there}
use Rattle.ff_joins.proofs.Feeding.{fed_kept, same_kept}
use Rattle.ff_joins.proofs.join.Join.keep.Goals as goal

pub take_in-requires : goal.take_in-requires
take_in-requires c =
    let m = c.args.self.now in
    record {
      «open» = sym (ap (λ (l : Lot). is_over l.after)
          (lots_there m.inlets.items c.args.port c.index_mut.result.now c.requires.there c.index_mut.ensures.value)) ∙ c.requires.open;
    }

pub returns-in-Ok-clause-fed : goal.returns-in-Ok-clause-fed
returns-in-Ok-clause-fed c =
    let m = c.args.self.now in
    let i = c.take_in.new.self in
    let j = c.index_mut.result.now in
    let stored : to_z w64 (of_z w64 c.start_of.result) ≡ c.start_of.result = search rules in
    let first : c.first_with-first.result ≡ has_started_by m.first c.args.port (start_of c.args.item) = c.first_with-first.ensures ∙ ap (λ
    (z : ℤ). has_started_by m.first c.args.port z) (stored ∙ c.start_of.ensures) in
    let is = set m.inlets.items c.args.port i in
    subst (λ (f : Option ℤ). Fed (join_seen m) (lots_view (map lane_of is) m.head (last_port is) f m.given
    (lots is) m.ended m.stopped m.after) c.args.port c.args.item) (sym first) (
    fed_kept m c.args.port i j c.args.item c.requires.there c.index_mut.ensures.value c.take_in.ensures.head
    (λ t. c.in-Ok.ensures.taken t ∙ ap (λ (l : Lot). comes l (before c.args.item t)) (sym
    (lots_there m.inlets.items c.args.port j c.requires.there c.index_mut.ensures.value)))
    c.in-Ok.ensures.shut c.requires.open)

pub returns-in-Err-clause-unchanged : goal.returns-in-Err-clause-unchanged
returns-in-Err-clause-unchanged c =
    same_kept c.args.self.now c.args.port c.take_in.new.self c.index_mut.result.now c.args.item c.requires.there c.index_mut.ensures.value c.take_in.ensures.head
    c.in-Err.ensures.unchanged
