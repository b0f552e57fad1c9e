use Rattle.std.proofs.Common.{length, ap, arith}
use Rattle.ff_node_mux.specs.laws.Mixing.{bases_long}
use Rattle.ff_node_mux.proofs.mux.merge_of.Goals as goal

pub new-requires : goal.new-requires
new-requires c = record { few = let e = bases_long c.args.heads.now in let h = c.requires in omega (arith, ap length c.in_ok-bases.ensures, e, h) }
