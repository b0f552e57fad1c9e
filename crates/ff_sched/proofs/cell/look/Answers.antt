use Rattle.std.proofs.Common.{rules, arith}
use Rattle.crossbeam_utils.specs.Seq.{cell_view}
use Rattle.ff_sched.proofs.Histories.{looks}
use Rattle.ff_sched.proofs.cell.look.Goals as goal

pub load_as-requires : goal.load_as-requires
load_as-requires g c = (search rules, (search rules, (c.requires.cell, looks _ (cell_view c.args.seat.now) c.requires.opened (let s = c.requires.share in omega arith))))
