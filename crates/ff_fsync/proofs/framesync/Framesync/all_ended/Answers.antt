use Rattle.std.proofs.Common.{ℕ, Bool, ◌∙◌, sym, arith, length}
use Rattle.ff_fsync.specs.laws.Syncs.{standing_of, ended_if}
use Rattle.ff_fsync.proofs.MarkLaws.{all_more, all_fails, whole_at}
use Rattle.ff_fsync.proofs.framesync.Framesync.all_ended.Goals as goal
use Rattle.ff_stream.specs.Stream.{is_whole}

pub returns-then-not-has_ended : goal.returns-then-not-has_ended
returns-then-not-has_ended g c =
    let s = c.args.self.now in
    let f : ℕ → Bool = λ p. is_whole (ended_if c.args.ended (standing_of s.head s.inputs.items) p).mark in
    all_fails f (length s.inputs.items) c.inputs.p c.has_ended.result (omega (arith, c.inputs-test.true, c.len-p-end.ensures, s.inputs.ok.0)) (whole_at s.head s.shortest s.inputs.items c.args.ended c.inputs.p c.index.result.now (omega (arith, c.inputs-test.true, c.len-p-end.ensures, s.inputs.ok.0)) c.index.ensures ∙ sym c.has_ended.ensures) c.if-not-has_ended.true

pub inputs-preserved : goal.inputs-preserved
inputs-preserved g c =
    let s = c.args.self.now in
    let f : ℕ → Bool = λ p. is_whole (ended_if c.args.ended (standing_of s.head s.inputs.items) p).mark in
    all_more f c.inputs.p c.has_ended.result c.inputs.invariant (whole_at s.head s.shortest s.inputs.items c.args.ended c.inputs.p c.index.result.now (omega (arith, c.inputs-test.true, c.len-p-end.ensures, s.inputs.ok.0)) c.index.ensures ∙ sym c.has_ended.ensures) c.if-not-has_ended.false
