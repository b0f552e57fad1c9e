use Rattle.std.proofs.Common.{take, sym, subst, arith, get_or, ◌<◌, ◌^◌}
use Rattle.std.specs.Vec.{vec_len}
use Rattle.std.specs.declared.alloc.Global.{Global}
use Rattle.std.specs.declared.vec.Vec.{Vec}
use Rattle.std.proofs.lemmas.List.{take_all}
use Rattle.std.proofs.lemmas.List.Elements.{All-same, All-more, recursion_from_All}
use Rattle.ff_frame.specs.declared.head.StreamHead.{StreamHead}
use Rattle.ff_rows_calls.proofs.maps.are_few.Goals as goal

abbrev Few : Vec StreamHead Global → Type 0
Few v = vec_len v < 2 ^ 32

pub loop-streams-preserved : goal.loop-streams-preserved
loop-streams-preserved c =
    let small : Few c.streams-item.result = omega (arith, c.len.ensures, c.if-len-gt1024.false) in
    let there : Few (get_or c.args.heads.now c.loop-streams.streams-index c.streams-item.result) = subst Few c.streams-item.is small in
    All-more Few c.args.heads.now c.loop-streams.streams-index c.streams-item.result c.loop-streams-test.true c.loop-streams.invariant there

pub returns : goal.returns
returns c =
    λ t. recursion_from_All Few c.args.heads.now (All-same Few c.args.heads.now (take c.loop-streams.streams-index c.args.heads.now) (sym (take_all c.loop-streams.streams-index c.args.heads.now (omega arith))) c.loop-streams.invariant)
