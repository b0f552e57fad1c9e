use Rattle.std.proofs.Common.{◌≡◌, ◌∙◌, sym, ap, subst, set, List, []}
use Rattle.ff_stream.specs.declared.item.Item.{Item}
use Rattle.ff_filter.specs.Made.{mark_after}
use Rattle.ff_node_sync.specs.Shortened.{Kept, Held}
use Rattle.ff_node_sync.specs.Lines.{Line, line_of, line_at, lines_of, lanes_of, next_fate}
use Rattle.ff_node_sync.specs.laws.Moves.{IsTaken}
use Rattle.ff_node_sync.proofs.Moving.{line_there, replaced, set_lanes, gave_kept}
use Rattle.ff_node_sync.proofs.shortest.Shortest.give.Goals as goal

pub returns-clause-gives : goal.returns-clause-gives
returns-clause-gives c x e =
    let ss = c.args.self.now.sides.items in
    let p = c.args.p in
    let n = c.give.new.self in
    let old = c.index_mut.result.now in
    let is = line_there ss p old c.requires.there c.index_mut.ensures.value in
    let taken : IsTaken (line_at (lines_of ss) p) (line_of n) x = subst (λ (l : Line). IsTaken l (line_of n) x) (sym is) (c.give.ensures.some x e) in
    let kept = ap (λ (xs : List Item). next_fate (lines_of ss) p xs) (sym taken.waits) ∙ c.requires.kept in
    gave_kept (lanes_of ss) (lanes_of (set ss p n)) (lines_of ss) (lines_of (set ss p n)) p (line_of n)
    (set_lanes ss p n old c.requires.there c.index_mut.ensures.value c.give.ensures.head) (replaced ss p n c.requires.there) x c.requires.going kept taken

pub returns-clause-some : goal.returns-clause-some
returns-clause-some c none =
    let ss = c.args.self.now.sides.items in
    let p = c.args.p in
    let old = c.index_mut.result.now in
    let is = line_there ss p old c.requires.there c.index_mut.ensures.value in
    let empty : (line_at (lines_of ss) p).waits ≡ [] = ap (λ (l : Line). l.waits) is ∙ c.give.ensures.none none in
    let clash : Held (mark_after (line_at (lines_of ss) p).after) ≡ Kept = ap (λ (xs : List Item). next_fate (lines_of ss) p xs) (sym empty) ∙ c.requires.kept in
    cc
