use Rattle.std.proofs.Common.{◌||◌, ℕ, Bool, ◌∙◌, sym, arith, length}
use Rattle.ff_fsync.specs.Synced.{outlasts}
use Rattle.ff_fsync.specs.laws.Syncs.{standing_of, timing_of, ended_if}
use Rattle.ff_fsync.proofs.MarkLaws.{all_more, all_fails, outlast_at}
use Rattle.ff_fsync.proofs.framesync.Framesync.all_outlast.Goals as goal
use Rattle.ff_stream.specs.Stream.{is_whole}

pub returns-then-not-outlasts : goal.returns-then-not-outlasts
returns-then-not-outlasts g c =
    let s = c.args.self.now in
    let f : ℕ → Bool = λ q. is_whole (ended_if c.args.ended (standing_of s.head s.inputs.items) q).mark || outlasts (timing_of s.shortest s.inputs.items) (ended_if c.args.ended (standing_of s.head s.inputs.items)) c.args.port q in
    all_fails f (length s.inputs.items) c.inputs.q c.outlasts.result (omega (arith, c.inputs-test.true, c.len-q-end.ensures, s.inputs.ok.0)) (outlast_at s.head s.shortest s.inputs.items c.args.ended c.args.port c.inputs.q c.index.result.now c.index-in-inputs.result.now c.requires c.index.ensures (omega (arith, c.inputs-test.true, c.len-q-end.ensures, s.inputs.ok.0)) c.index-in-inputs.ensures ∙ sym c.outlasts.ensures) c.if-not-outlasts.true

pub inputs-preserved : goal.inputs-preserved
inputs-preserved g c =
    let s = c.args.self.now in
    let f : ℕ → Bool = λ q. is_whole (ended_if c.args.ended (standing_of s.head s.inputs.items) q).mark || outlasts (timing_of s.shortest s.inputs.items) (ended_if c.args.ended (standing_of s.head s.inputs.items)) c.args.port q in
    all_more f c.inputs.q c.outlasts.result c.inputs.invariant (outlast_at s.head s.shortest s.inputs.items c.args.ended c.args.port c.inputs.q c.index.result.now c.index-in-inputs.result.now c.requires c.index.ensures (omega (arith, c.inputs-test.true, c.len-q-end.ensures, s.inputs.ok.0)) c.index-in-inputs.ensures ∙ sym c.outlasts.ensures) c.if-not-outlasts.false
