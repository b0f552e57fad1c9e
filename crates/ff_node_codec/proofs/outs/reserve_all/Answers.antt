use Rattle.std.proofs.Common.{◌<◌, length, arith}
use Rattle.ff_node_codec.proofs.LineSteps.{same_set, same_then, room_more}
use Rattle.ff_node_codec.proofs.outs.reserve_all.Goals as goal

pub returns-in_err-reserve-clause-same : goal.returns-in_err-reserve-clause-same
returns-in_err-reserve-clause-same c =
    let rs = c.loop-q.outs.items in
    let lt : c.loop-q.q < length rs = omega (arith, c.loop-q.invariant.same.count) in
    same_then _ _ _ c.loop-q.invariant.same
    (same_set rs c.loop-q.q c.index_mut-out.result.now c.reserve.new.self lt c.index_mut-out.ensures.value c.reserve.ensures.same)

pub loop-q-preserved : goal.loop-q-preserved
loop-q-preserved c =
    let rs = c.loop-q.outs.items in
    let lt : c.loop-q.q < length rs = omega (arith, c.loop-q.invariant.same.count) in
    record {
      same =
          same_then _ _ _ c.loop-q.invariant.same
          (same_set rs c.loop-q.q c.index_mut-out.result.now c.reserve.new.self lt c.index_mut-out.ensures.value c.reserve.ensures.same);
      room = room_more rs c.loop-q.q c.reserve.new.self lt c.loop-q.invariant.room c.in_ok-reserve.ensures.room;
    }
