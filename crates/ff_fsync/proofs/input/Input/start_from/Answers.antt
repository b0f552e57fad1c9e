use Rattle.std.proofs.Common.{sym, subst, arith}
use Rattle.ff_fsync.specs.laws.Inputs.{items_of, IsNextStart}
use Rattle.ff_fsync.proofs.Inputting.{next_start, none_more}
use Rattle.ff_fsync.proofs.input.Input.start_from.Goals as goal

pub returns-then-start-lo-clause-next : goal.returns-then-start-lo-clause-next
returns-then-start-lo-clause-next c =
    let s = c.args.self.now in
    subst (λ n. IsNextStart (items_of s.queue.items) c.args.lo n) (sym c.time_among-start.ensures.is)
    (next_start s.queue.items s.next c.pictures.i c.args.lo c.index.result.now s.filled (omega (arith, c.pictures-test.true, c.len-i-end.ensures, s.queue.ok.0)) c.index.ensures c.pictures.invariant
    (omega (arith, c.if-start-lo.true, c.time_among-start.ensures.is)))

pub pictures-preserved : goal.pictures-preserved
pictures-preserved c =
    let s = c.args.self.now in
    none_more s.queue.items c.pictures.i c.args.lo c.index.result.now (omega (arith, c.pictures-test.true, c.len-i-end.ensures, s.queue.ok.0)) c.index.ensures c.pictures.invariant
    (omega (arith, c.if-start-lo.false, c.time_among-start.ensures.is))
