use Rattle.std.proofs.Common.{◌&&◌, Bool, ap, ◌∙◌, sym, arith, refl, ◌-◌, length}
use Rattle.ff_fsync.specs.Ranges.{all_to}
use Rattle.ff_fsync.specs.Synced.{allows}
use Rattle.ff_fsync.specs.laws.Syncs.{standing_of, timing_of}
use Rattle.ff_fsync.proofs.MarkLaws.{goes_on_free, goes_on_not}
use Rattle.ff_fsync.proofs.framesync.Framesync.goes_on.Goals as goal

pub returns-then-bound-eq0 : goal.returns-then-bound-eq0
returns-then-bound-eq0 g c =
    let s = c.args.self.now in
    goes_on_not s.head s.shortest s.inputs.items c.bound-bound.result c.requires.lost (sym c.is_complete.ensures ∙ c.if-is_complete.false) c.bound-bound.ensures c.if-bound-eq0.true

pub returns-then-some_behind : goal.returns-then-some_behind
returns-then-some_behind g c =
    let s = c.args.self.now in
    let y = c.all_allow.result in
    sym (ap (λ b. b && y) c.if-some_behind.true) ∙ goes_on_free s.head s.shortest s.inputs.items c.bound-bound.result c.some_behind.result y c.requires.lost (sym c.is_complete.ensures ∙ c.if-is_complete.false) c.bound-bound.ensures (omega (arith, c.if-bound-eq0.false)) (omega (arith, c.bound-bound.type_inv)) c.some_behind.ensures c.all_allow.ensures

pub returns-else-some_behind : goal.returns-else-some_behind
returns-else-some_behind g c =
    let s = c.args.self.now in
    let y : Bool = all_to (length s.inputs.items) (allows (timing_of s.shortest s.inputs.items) (standing_of s.head s.inputs.items) (c.bound-bound.result - 1)) in
    c.if-some_behind.false ∙ (sym (ap (λ b. b && y) c.if-some_behind.false) ∙ goes_on_free s.head s.shortest s.inputs.items c.bound-bound.result c.some_behind.result y c.requires.lost (sym c.is_complete.ensures ∙ c.if-is_complete.false) c.bound-bound.ensures (omega (arith, c.if-bound-eq0.false)) (omega (arith, c.bound-bound.type_inv)) c.some_behind.ensures refl)
