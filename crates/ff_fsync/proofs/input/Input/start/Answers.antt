use Rattle.std.proofs.Common.{ap, ◌∙◌, sym, nat_le, arith, refl}
use Rattle.ff_fsync.proofs.Inputting.{front_begun}
use Rattle.ff_fsync.proofs.input.Input.start.Goals as goal

pub returns-in-Some-clause-begun : goal.returns-in-Some-clause-begun
returns-in-Some-clause-begun c u =
    let s = c.args.self.now in
    let some = c.in-Some.ensures.variant.0 refl in
    front_begun s.queue.items c.in-Some.frame.now s.next u (omega (arith, some, s.queue.ok.0)) c.in-Some.ensures.lookup s.filled ∙ ap (λ n. nat_le n u) (sym c.time_among.ensures.is)
