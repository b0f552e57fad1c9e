use Rattle.std.proofs.Common.{◌<◌, length, arith}
use Rattle.ff_node_codec.proofs.LineSteps.{same_set, same_then, room_set, room_is, next_more}
use Rattle.ff_node_codec.proofs.outs.copy_below.Goals as goal

pub returns-in_err-copy_next-clause-same : goal.returns-in_err-copy_next-clause-same
returns-in_err-copy_next-clause-same c =
    let rs = c.loop-q.outs.items in
    let lt : c.loop-q.q < length rs = omega (arith, c.loop-q.invariant.same.count, c.requires.end) in
    same_then _ _ _ c.loop-q.invariant.same
    (same_set rs c.loop-q.q c.index_mut-out.result.now c.copy_next.new.self lt c.index_mut-out.ensures.value c.copy_next.ensures.same)

pub returns-in_err-copy_next-clause-room : goal.returns-in_err-copy_next-clause-room
returns-in_err-copy_next-clause-room c =
    let rs = c.loop-q.outs.items in
    let lt : c.loop-q.q < length rs = omega (arith, c.loop-q.invariant.same.count, c.requires.end) in
    room_set rs c.loop-q.q c.copy_next.new.self lt c.loop-q.invariant.room
    (c.copy_next.ensures.room (room_is rs c.loop-q.q c.index_mut-out.result.now lt c.index_mut-out.ensures.value c.loop-q.invariant.room))

pub loop-q-preserved : goal.loop-q-preserved
loop-q-preserved c =
    let rs = c.loop-q.outs.items in
    let lt : c.loop-q.q < length rs = omega (arith, c.loop-q.invariant.same.count, c.requires.end) in
    record {
      same =
          same_then _ _ _ c.loop-q.invariant.same
          (same_set rs c.loop-q.q c.index_mut-out.result.now c.copy_next.new.self lt c.index_mut-out.ensures.value c.copy_next.ensures.same);
      room =
          room_set rs c.loop-q.q c.copy_next.new.self lt c.loop-q.invariant.room
          (c.copy_next.ensures.room (room_is rs c.loop-q.q c.index_mut-out.result.now lt c.index_mut-out.ensures.value c.loop-q.invariant.room));
      next =
          next_more c.args.made.now rs c.loop-q.q c.index_mut-out.result.now c.copy_next.new.self lt c.index_mut-out.ensures.value
          c.copy_next.ensures.same c.loop-q.invariant.next c.in_ok-copy_next.ensures.next;
    }
