use Rattle.std.proofs.Common.{ℕ, Bool, ◌∙◌, sym, arith, length}
use Rattle.ff_fsync.specs.laws.Syncs.{standing_of}
use Rattle.ff_fsync.proofs.MarkLaws.{any_more, any_found, broken_at}
use Rattle.ff_fsync.proofs.framesync.Framesync.is_lost.Goals as goal
use Rattle.ff_stream.specs.Stream.{is_broken}

pub returns-then-is_broken : goal.returns-then-is_broken
returns-then-is_broken g c =
    let s = c.args.self.now in
    let f : ℕ → Bool = λ p. is_broken ((standing_of s.head s.inputs.items) p).mark in
    any_found f (length s.inputs.items) c.inputs.p c.is_broken.result (omega (arith, c.inputs-test.true, c.len-p-end.ensures, s.inputs.ok.0)) (broken_at s.head s.shortest s.inputs.items c.inputs.p c.index.result.now (omega (arith, c.inputs-test.true, c.len-p-end.ensures, s.inputs.ok.0)) c.index.ensures ∙ sym c.is_broken.ensures) c.if-is_broken.true

pub inputs-preserved : goal.inputs-preserved
inputs-preserved g c =
    let s = c.args.self.now in
    let f : ℕ → Bool = λ p. is_broken ((standing_of s.head s.inputs.items) p).mark in
    any_more f c.inputs.p c.is_broken.result c.inputs.invariant (broken_at s.head s.shortest s.inputs.items c.inputs.p c.index.result.now (omega (arith, c.inputs-test.true, c.len-p-end.ensures, s.inputs.ok.0)) c.index.ensures ∙ sym c.is_broken.ensures) c.if-is_broken.false
