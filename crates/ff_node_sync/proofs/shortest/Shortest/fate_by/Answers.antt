use Rattle.std.proofs.Common.{◌≢◌, ◌∙◌, sym, ap, arith, cond, Bool}
use Rattle.ff_filter.specs.Made.{mark_after}
use Rattle.ff_node_sync.specs.Shortened.{Kept, Held}
use Rattle.ff_node_sync.proofs.Moving.{fate_there}
use Rattle.ff_node_sync.proofs.shortest.Shortest.fate_by.Goals as goal

pub returns-then-is_before : goal.returns-then-is_before
returns-then-is_before c x s =
    let ss = c.args.self.now.sides.items in
    let other = c.index-other.result.now in
    let apart : c.args.q ≢ c.args.p = λ e. omega (arith, c.if-q-p.false, e) in
    sym (ap (λ (b : Bool). cond b Kept (Held (mark_after other.after))) c.if-is_before.true)
    ∙ fate_there ss c.args.p c.args.q c.args.start c.index.result.now other x c.time_base-own.result c.time_base.result c.is_before.result c.requires.there
    c.requires.other_there c.index.ensures c.index-other.ensures apart s c.time_base-own.ensures c.time_base.ensures c.is_before.ensures

pub returns : goal.returns
returns c x s =
    let ss = c.args.self.now.sides.items in
    let other = c.index-other.result.now in
    let apart : c.args.q ≢ c.args.p = λ e. omega (arith, c.if-q-p.false, e) in
    sym (ap (λ (b : Bool). cond b Kept (Held (mark_after other.after))) c.if-is_before.false)
    ∙ fate_there ss c.args.p c.args.q c.args.start c.index.result.now other x c.time_base-own.result c.time_base.result c.is_before.result c.requires.there
    c.requires.other_there c.index.ensures c.index-other.ensures apart s c.time_base-own.ensures c.time_base.ensures c.is_before.ensures
