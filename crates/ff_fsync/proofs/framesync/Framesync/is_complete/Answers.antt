use Rattle.std.proofs.Common.{ℕ, Bool, ◌∙◌, sym, arith, refl, length}
use Rattle.ff_fsync.specs.Ranges.{any_to}
use Rattle.ff_fsync.specs.Synced.{ends_with}
use Rattle.ff_fsync.specs.laws.Syncs.{standing_of, timing_of, ended_if}
use Rattle.std.proofs.lemmas.Bool.{or_right}
use Rattle.ff_fsync.proofs.MarkLaws.{any_more, any_found, complete_there}
use Rattle.ff_fsync.proofs.framesync.Framesync.is_complete.Goals as goal

pub returns-then-ends_with : goal.returns-then-ends_with
returns-then-ends_with g c =
    let s = c.args.self.now in
    let f : ℕ → Bool = ends_with (timing_of s.shortest s.inputs.items) (ended_if c.args.ended (standing_of s.head s.inputs.items)) in
    let found = any_found f (length s.inputs.items) c.inputs.p c.ends_with.result (omega (arith, c.inputs-test.true, c.len-p-end.ensures, s.inputs.ok.0)) (refl ∙ sym c.ends_with.ensures) c.if-ends_with.true in
    sym (or_right c.all_ended.result (any_to (length s.inputs.items) f) (sym found)) ∙ complete_there s.head s.shortest s.inputs.items c.args.ended c.all_ended.result (any_to (length s.inputs.items) f) c.all_ended.ensures refl

pub inputs-preserved : goal.inputs-preserved
inputs-preserved g c =
    let s = c.args.self.now in
    let f : ℕ → Bool = ends_with (timing_of s.shortest s.inputs.items) (ended_if c.args.ended (standing_of s.head s.inputs.items)) in
    any_more f c.inputs.p c.ends_with.result c.inputs.invariant (refl ∙ sym c.ends_with.ensures) c.if-ends_with.false
