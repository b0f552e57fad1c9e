use Rattle.std.proofs.Common.{arith, inl, inr}
use Rattle.ff_avi.proofs.CutLaws.{stops_over, stops_within, stops_whole}
use Rattle.ff_avi.proofs.cut.AviCut.unfinished.Goals as goal
use Rattle.ff_avi.proofs.cut.AviCut.unfinished.Goals.{then-self-gt0-2-via-then-self-gt0-2, then-self-gt0-2-via-else-self-gt0-2+then-len-gt0}

pub returns-then-self-gt0 : goal.returns-then-self-gt0
returns-then-self-gt0 c = stops_over c.args.self.now c.requires.part c.if-not-self.false c.if-self-gt0.true

pub returns-then-self-gt0-2 : goal.returns-then-self-gt0-2
returns-then-self-gt0-2 c = stops_within c.args.self.now c.requires.part c.if-not-self.false (omega arith)
    (elim c.then-self-gt0-2.branch [
      | then-self-gt0-2-via-then-self-gt0-2 w ↦ inl (omega arith)
      | then-self-gt0-2-via-else-self-gt0-2+then-len-gt0 w ↦ inr (omega arith)
    ])

pub returns : goal.returns
returns c = stops_whole c.args.self.now c.if-not-self.false (omega arith) (omega arith) (omega arith)
