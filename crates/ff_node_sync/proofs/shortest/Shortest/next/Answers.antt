use Rattle.std.proofs.Common.{◌≡◌, ◌∙◌, sym, ap, refl, List, [], ◌∷◌}
use Rattle.ff_stream.specs.declared.item.Item.{Item}
use Rattle.ff_filter.specs.Made.{mark_after}
use Rattle.ff_node_sync.specs.Shortened.{Held}
use Rattle.ff_node_sync.specs.Lines.{Line, lines_of, line_at, next_fate}
use Rattle.ff_node_sync.proofs.Moving.{line_there}
use Rattle.ff_node_sync.proofs.shortest.Shortest.next.Goals as goal

pub returns-in-None : goal.returns-in-None
returns-in-None c =
    let ss = c.args.self.now.sides.items in
    let ls = lines_of ss in
    let p = c.args.p in
    let is = line_there ss p c.index.result.now c.requires.there c.index.ensures in
    let again = line_there ss p c.index-in-None.result.now c.requires.there c.index-in-None.ensures in
    let w : (line_at ls p).waits ≡ [] = ap (λ (l : Line). l.waits) is ∙ c.in-None.ensures.none refl in
    ap (λ (l : Line). Held (mark_after l.after)) (sym again) ∙ sym (ap (λ (xs : List Item). next_fate ls p xs) w)

pub returns-in-Some : goal.returns-in-Some
returns-in-Some c =
    let ss = c.args.self.now.sides.items in
    let ls = lines_of ss in
    let p = c.args.p in
    let is = line_there ss p c.index.result.now c.requires.there c.index.ensures in
    let s = c.in-Some.ensures.some in
    let w : (line_at ls p).waits ≡ s.0 ∷ s.1 = ap (λ (l : Line). l.waits) is ∙ s.2 in
    c.fate.ensures s.0 s.3 ∙ sym (ap (λ (xs : List Item). next_fate ls p xs) w)
