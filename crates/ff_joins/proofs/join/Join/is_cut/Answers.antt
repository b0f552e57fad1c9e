use Rattle.std.proofs.Common.{◌∙◌, sym, arith}
use Rattle.ff_joins.proofs.Cuts.{cut_of}
use Rattle.ff_joins.proofs.join.Join.is_cut.Goals as goal

pub returns : goal.returns
returns c = c.is_late.ensures ∙ sym (cut_of c.args.self.now c.args.frames (omega arith) c.requires)
