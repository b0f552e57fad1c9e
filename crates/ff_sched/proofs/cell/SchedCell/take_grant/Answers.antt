use Rattle.std.proofs.Common.{◌-◌, subst, refl, arith, vec_len, vec_capacity}
use Rattle.crossbeam_utils.specs.Seq.{cell_view}
use Rattle.ff_frame.specs.declared.event.Event.TheVariants.{Grant}
use Rattle.ff_sched.specs.laws.Passing.{Passing, Told, IsChoked}
use Rattle.ff_sched.proofs.Passings.{told_pass, choked_pass, seen_as}
use Rattle.ff_sched.proofs.cell.SchedCell.take_grant.Goals as goal

pub returns-in-Ok : goal.returns-in-Ok
returns-in-Ok g c =
    let p = c.pass.inside in let seat = c.grant_as.new.seat in let log = c.push_reserved.new.self in (
      refl,
      subst (λ (q : Passing). Told q (Grant c.args.source) c.in-Ok.place (seen_as (cell_view seat) seat.table_id p.share log.items (vec_capacity log - vec_len log))) c.pass.view_is
          (told_pass (cell_view p.seat) (cell_view seat) p.seat.table_id seat.table_id (Grant c.args.source) c.in-Ok.place p.share p.log.items log.items (vec_capacity p.log - vec_len p.log) (vec_capacity log - vec_len log)
          c.in-Ok.ensures.answer c.grant_as.ensures.cell c.push_reserved.ensures.items (let a = c.push_reserved.ensures.len in let b = c.push_reserved.ensures.capacity in omega arith)),
    )

pub returns-in-Err : goal.returns-in-Err
returns-in-Err g c =
    let p = c.pass.inside in let seat = c.grant_as.new.seat in
    subst (λ (q : Passing). IsChoked q c.args.source c.in-Err.state (seen_as (cell_view seat) seat.table_id p.share p.log.items (vec_capacity p.log - vec_len p.log))) c.pass.view_is
    (choked_pass (cell_view p.seat) (cell_view seat) p.seat.table_id seat.table_id c.args.source p.share c.in-Err.state p.log.items (vec_capacity p.log - vec_len p.log) c.in-Err.ensures.answer c.grant_as.ensures.cell)
