-- How a pass is seen.
use Rattle.std.specs.Prelude.{◌≡◌, ◌-◌, ◌≤◌, ◌^◌, true, length}
use Rattle.std.specs.Vec.{vec_len, vec_capacity}
use Rattle.crossbeam_utils.specs.Seq.{cell_view}
use Rattle.ff_sched.specs.declared.pass.Pass.TheInside.{Inside}
use Rattle.ff_sched.specs.laws.Passing.{Passing}
use Rattle.ff_sched.specs.Histories.{Rises}

pub record IsPass (p : Inside) : Type 0 where
  pub opened : (cell_view p.seat).opened ≡ true
  pub share : p.share ≡ (cell_view p.seat).share
  pub within : p.share ≤ 2 ^ 62
  pub mine : p.log.items ≡ (cell_view p.seat).mine
  pub spare : length p.log.items ≤ p.share
  pub rises : Rises (length (cell_view p.seat).seen) p.log.items

abbrev pub passing : Inside → Passing
passing p = record {
  cell = record { table = p.seat.table_id; routes = (cell_view p.seat).routes; opening = (cell_view p.seat).opening };
  share = p.share;
  seen = (cell_view p.seat).seen;
  log = p.log.items;
  spare = vec_capacity p.log - vec_len p.log;
}
