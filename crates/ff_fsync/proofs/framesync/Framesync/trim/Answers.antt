use Rattle.std.proofs.Common.{arith}
use Rattle.ff_fsync.proofs.Taken.{led_more, begun_still}
use Rattle.ff_fsync.proofs.framesync.Framesync.trim.Goals as goal

pub trim-requires : goal.trim-requires
trim-requires g c =
    let s = c.args.self.now in
    let v = c.inputs.invariant in
    record { begun = begun_still s.head s.shortest s.inputs.items c.inputs.self.inputs.items s.from c.args.time c.inputs.p c.index_mut.result.now c.requires.due v.led (omega (arith, c.inputs-test.true, c.len-p-end.ensures, s.inputs.ok.0, v.led.long)) c.index_mut.ensures.value }

pub inputs-preserved : goal.inputs-preserved
inputs-preserved g c =
    let s = c.args.self.now in
    let v = c.inputs.invariant in
    record {
      led = led_more s.head s.inputs.items c.inputs.self.inputs.items c.args.time c.inputs.p c.trim.new.self c.index_mut.result.now v.led (omega (arith, c.inputs-test.true, c.len-p-end.ensures, s.inputs.ok.0, v.led.long)) c.index_mut.ensures.value c.trim.ensures.trims c.trim.ensures.last;
      stack = v.stack;
      head = v.head;
      shortest = v.shortest;
      from = v.from;
      ended = v.ended;
      stopped = v.stopped;
    }
