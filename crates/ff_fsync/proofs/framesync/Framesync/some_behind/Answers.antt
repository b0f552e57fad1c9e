use Rattle.std.proofs.Common.{◌&&◌, not, ℕ, Bool, ◌∙◌, sym, arith, length}
use Rattle.ff_fsync.specs.Synced.{reached}
use Rattle.ff_fsync.specs.laws.Syncs.{standing_of, timing_of}
use Rattle.ff_fsync.proofs.MarkLaws.{any_more, any_found, behind_at}
use Rattle.ff_fsync.proofs.framesync.Framesync.some_behind.Goals as goal
use Rattle.ff_stream.specs.Stream.{is_open}

pub returns-then-is_behind : goal.returns-then-is_behind
returns-then-is_behind g c =
    let s = c.args.self.now in
    let f : ℕ → Bool = λ p. is_open ((standing_of s.head s.inputs.items) p).mark && not (reached (timing_of s.shortest s.inputs.items) (standing_of s.head s.inputs.items) c.args.time p) in
    any_found f (length s.inputs.items) c.inputs.p c.is_behind.result (omega (arith, c.inputs-test.true, c.len-p-end.ensures, s.inputs.ok.0)) (behind_at s.head s.shortest s.inputs.items c.args.time c.inputs.p c.index.result.now (omega (arith, c.inputs-test.true, c.len-p-end.ensures, s.inputs.ok.0)) c.index.ensures ∙ sym c.is_behind.ensures) c.if-is_behind.true

pub inputs-preserved : goal.inputs-preserved
inputs-preserved g c =
    let s = c.args.self.now in
    let f : ℕ → Bool = λ p. is_open ((standing_of s.head s.inputs.items) p).mark && not (reached (timing_of s.shortest s.inputs.items) (standing_of s.head s.inputs.items) c.args.time p) in
    any_more f c.inputs.p c.is_behind.result c.inputs.invariant (behind_at s.head s.shortest s.inputs.items c.args.time c.inputs.p c.index.result.now (omega (arith, c.inputs-test.true, c.len-p-end.ensures, s.inputs.ok.0)) c.index.ensures ∙ sym c.is_behind.ensures) c.if-is_behind.false
