use Rattle.std.proofs.Common.{ℕ, Bool, ◌∙◌, sym, arith, length}
use Rattle.ff_fsync.specs.Synced.{allows}
use Rattle.ff_fsync.specs.laws.Syncs.{standing_of, timing_of}
use Rattle.ff_fsync.proofs.MarkLaws.{all_more, all_fails, allows_there}
use Rattle.ff_fsync.proofs.framesync.Framesync.all_allow.Goals as goal

pub returns-then-not-allows : goal.returns-then-not-allows
returns-then-not-allows g c =
    let s = c.args.self.now in
    let f : ℕ → Bool = allows (timing_of s.shortest s.inputs.items) (standing_of s.head s.inputs.items) c.args.time in
    all_fails f (length s.inputs.items) c.inputs.p c.allows.result (omega (arith, c.inputs-test.true, c.len-p-end.ensures, s.inputs.ok.0)) (allows_there s.head s.shortest s.inputs.items c.args.time c.inputs.p c.index.result.now (omega (arith, c.inputs-test.true, c.len-p-end.ensures, s.inputs.ok.0)) c.index.ensures ∙ sym c.allows.ensures) c.if-not-allows.true

pub inputs-preserved : goal.inputs-preserved
inputs-preserved g c =
    let s = c.args.self.now in
    let f : ℕ → Bool = allows (timing_of s.shortest s.inputs.items) (standing_of s.head s.inputs.items) c.args.time in
    all_more f c.inputs.p c.allows.result c.inputs.invariant (allows_there s.head s.shortest s.inputs.items c.args.time c.inputs.p c.index.result.now (omega (arith, c.inputs-test.true, c.len-p-end.ensures, s.inputs.ok.0)) c.index.ensures ∙ sym c.allows.ensures) c.if-not-allows.false
