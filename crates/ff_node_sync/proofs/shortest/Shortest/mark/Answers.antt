use Rattle.std.proofs.Common.{◌≡◌, ◌<◌, ◌≤◌, ◌∙◌, sym, ap, subst, arith, length, List, get_or}
use Rattle.ff_stream.specs.declared.item.Item.{Item}
use Rattle.ff_filter.specs.Made.{mark_after}
use Rattle.ff_node_sync.specs.Lines.{Line, lines_of, line_at, fate_now, mark_now}
use Rattle.ff_node_sync.proofs.Moving.{line_there, mark_more, mark_held, mark_last}
use Rattle.ff_node_sync.proofs.shortest.Shortest.mark.Goals as goal

pub returns-in-Some : goal.returns-in-Some
returns-in-Some c =
    let ls = lines_of c.args.self.now.sides.items in
    let p = c.args.p in
    let q = c.index-side.result.now.queue in
    let is = line_there c.args.self.now.sides.items p c.index-side.result.now c.requires.there c.index-side.ensures in
    let w : (line_at ls p).waits ≡ q.items = ap (λ (l : Line). l.waits) is in
    let x = c.index.result.now in
    let lt : c.items.i < length (line_at ls p).waits = subst (λ (xs : List Item). c.items.i < length xs) (sym w)
    (omega (arith, c.items-test.true, c.len-i-end.ensures, q.ok.0)) in
    let at : x ≡ get_or (line_at ls p).waits c.items.i x = subst (λ (xs : List Item). x ≡ get_or xs c.items.i x) (sym w) c.index.ensures in
    mark_held (fate_now ls p) (line_at ls p).waits (mark_after (line_at ls p).after) (mark_now ls p) (mark_after c.in-Some.after) c.items.i x lt at
    (sym (c.in-Some.ensures x c.start_of_item.ensures)) c.items.invariant

pub items-preserved : goal.items-preserved
items-preserved c =
    let ls = lines_of c.args.self.now.sides.items in
    let p = c.args.p in
    let q = c.index-side.result.now.queue in
    let is = line_there c.args.self.now.sides.items p c.index-side.result.now c.requires.there c.index-side.ensures in
    let w : (line_at ls p).waits ≡ q.items = ap (λ (l : Line). l.waits) is in
    let x = c.index.result.now in
    let lt : c.items.i < length (line_at ls p).waits = subst (λ (xs : List Item). c.items.i < length xs) (sym w)
    (omega (arith, c.items-test.true, c.len-i-end.ensures, q.ok.0)) in
    let at : x ≡ get_or (line_at ls p).waits c.items.i x = subst (λ (xs : List Item). x ≡ get_or xs c.items.i x) (sym w) c.index.ensures in
    mark_more (fate_now ls p) (line_at ls p).waits (mark_after (line_at ls p).after) (mark_now ls p) c.items.i x lt at
    (sym (c.in_default.ensures x c.start_of_item.ensures)) c.items.invariant

pub returns : goal.returns
returns c =
    let ls = lines_of c.args.self.now.sides.items in
    let p = c.args.p in
    let q = c.index-side.result.now.queue in
    let is = line_there c.args.self.now.sides.items p c.index-side.result.now c.requires.there c.index-side.ensures in
    let w : (line_at ls p).waits ≡ q.items = ap (λ (l : Line). l.waits) is in
    let le : length (line_at ls p).waits ≤ c.items.i = subst (λ (xs : List Item). length xs ≤ c.items.i) (sym w)
    (omega (arith, c.items-test.false, c.len-i-end.ensures, q.ok.0)) in
    ap (λ (l : Line). mark_after l.after) (sym is) ∙ mark_last (fate_now ls p) (line_at ls p).waits (mark_after (line_at ls p).after) (mark_now ls p) c.items.i le
    c.items.invariant
