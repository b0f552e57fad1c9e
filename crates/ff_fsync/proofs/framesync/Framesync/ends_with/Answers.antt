use Rattle.std.proofs.Common.{◌||◌, ◌&&◌, Bool, ap, ◌∙◌, sym, refl, length}
use Rattle.ff_fsync.specs.Ranges.{all_to}
use Rattle.ff_fsync.specs.Synced.{outlasts}
use Rattle.ff_fsync.specs.laws.Syncs.{standing_of, timing_of, ended_if}
use Rattle.ff_fsync.proofs.MarkLaws.{ends_there}
use Rattle.ff_fsync.proofs.framesync.Framesync.ends_with.Goals as goal
use Rattle.ff_stream.specs.Stream.{is_whole}

pub returns-then-may_end : goal.returns-then-may_end
returns-then-may_end g c =
    let s = c.args.self.now in
    let r = c.all_outlast.result in
    let may = sym c.may_end.ensures ∙ c.if-may_end.true in
    sym (ap (λ b. b && r) may) ∙ ends_there s.head s.shortest s.inputs.items c.args.ended r c.args.port c.index.result.now c.requires c.index.ensures c.all_outlast.ensures

pub returns-else-may_end : goal.returns-else-may_end
returns-else-may_end g c =
    let s = c.args.self.now in
    let r : Bool = all_to (length s.inputs.items) (λ q. is_whole (ended_if c.args.ended (standing_of s.head s.inputs.items) q).mark || outlasts (timing_of s.shortest s.inputs.items) (ended_if c.args.ended (standing_of s.head s.inputs.items)) c.args.port q) in
    let may = sym c.may_end.ensures ∙ c.if-may_end.false in
    c.if-may_end.false ∙ (sym (ap (λ b. b && r) may) ∙ ends_there s.head s.shortest s.inputs.items c.args.ended r c.args.port c.index.result.now c.requires c.index.ensures refl)
