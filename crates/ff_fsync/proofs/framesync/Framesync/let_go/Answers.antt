use Rattle.std.proofs.Common.{◌≡◌, ◌≤◌, ℕ, [], length, arith, subst, sym}
use Rattle.ff_frame.specs.declared.head.StreamHead.{StreamHead}
use Rattle.ff_stream.specs.declared.item.Lane.TheVariants.{Frames}
use Rattle.ff_fsync.specs.Sides.{side_at}
use Rattle.ff_fsync.specs.laws.Syncs.{sides_of}
use Rattle.ff_fsync.proofs.Showing.{idle_same}
use Rattle.ff_fsync.proofs.Taken.{emptied_more, emptied_to, all_empty}
use Rattle.ff_fsync.proofs.framesync.Framesync.let_go.Goals as goal

pub inputs-preserved : goal.inputs-preserved
inputs-preserved g c =
    let s = c.args.self.now in
    let v = c.inputs.invariant in
    record {
      emptied = emptied_more s.head s.inputs.items c.inputs.self.inputs.items c.inputs.p c.clear.new.self c.index_mut.result.now v.emptied
          (omega (arith, c.inputs-test.true, c.len-p-end.ensures, s.inputs.ok.0, v.emptied.long)) c.index_mut.ensures.value c.clear.ensures.side;
      stack = v.stack;
      head = v.head;
      shortest = v.shortest;
      from = v.from;
      ended = v.ended;
      stopped = v.stopped;
    }

pub returns-clause-cleared : goal.returns-clause-cleared
returns-clause-cleared g c =
    let s = c.args.self.now in
    let v = c.inputs.invariant in
    let le : length c.inputs.self.inputs.items ≤ c.inputs.p = omega (arith, c.inputs-test.false, c.len-p-end.ensures, s.inputs.ok.0, v.emptied.long) in
    subst (λ (h : StreamHead). (p : ℕ) → (side_at (Frames h) (sides_of c.inputs.self.inputs.items) p).waits ≡ []) (sym v.head)
    (all_empty s.head s.inputs.items c.inputs.self.inputs.items c.inputs.p v.emptied le)

pub returns-clause-emptied : goal.returns-clause-emptied
returns-clause-emptied g c =
    let s = c.args.self.now in
    let v = c.inputs.invariant in
    let le : length s.inputs.items ≤ c.inputs.p = omega (arith, c.inputs-test.false, c.len-p-end.ensures, s.inputs.ok.0) in
    emptied_to s.head s.inputs.items c.inputs.self.inputs.items (length s.inputs.items) c.inputs.p v.emptied le

pub returns-clause-over : goal.returns-clause-over
returns-clause-over g c on =
    let s = c.args.self.now in
    let v = c.inputs.invariant in
    let t = c.inputs.self in
    rw (v.stack, v.head, v.shortest, v.from, v.ended, v.stopped)
    (idle_same (g.S.Stack.shows s.stack) s.shortest (Frames s.head) s.from (sides_of s.inputs.items) (sides_of t.inputs.items) v.emptied.lanes v.emptied.shut s.ended s.stopped on)
