use Rattle.std.proofs.Common.{◌≡◌, List, ◌∷◌, [], ◌++◌, length, drop, refl, arith, ap, ◌∙◌, sym, option_to_list, Option}
use Rattle.ff_stream.specs.declared.item.Item.{Item}
use Rattle.ff_node_codec.specs.laws.Lines.{line_of}
use Rattle.ff_node_codec.specs.Spreads.{Line}
use Rattle.ff_node_codec.proofs.LineSteps.{line_is, line_set_same, line_set_other, set_count, same_set}
use Rattle.ff_node_codec.proofs.SpreadSteps.{gives_at, none_at, asked_at, same_stands}
use Rattle.ff_node_codec.proofs.spread.Spread.take.Goals as goal

none_left : (xs : List Item) → xs ≡ drop 1 xs → xs ≡ []
none_left [] e = refl
none_left (x ∷ xs) e = let l : length (x ∷ xs) ≡ length xs = ap (λ (ys : List Item). length ys) e in absurd (omega (arith, l))

pub returns-clause-gives : goal.returns-clause-gives
returns-clause-gives c lane_in lane_out f past x is s on =
    let m = c.args.self.now in
    let rs = m.outs.items in
    let p = c.args.port in
    let rest : List Item = c.pop_front.new.self.items in
    let line = line_is rs p c.index_mut-out.result.now c.requires c.index_mut-out.ensures.value in
    let front : c.index_mut-out.result.now.queue.items ≡ x ∷ rest =
    c.pop_front.ensures.items ∙ ap (λ (o : Option Item). option_to_list o ++ rest) is in
    gives_at lane_in lane_out f _ _ m.closed m.damage past s p x rest _ _ c.requires (ap (λ (l : Line). l.queue) line ∙ front) on (set_count rs p _)
    (line_set_same rs p _ c.requires ∙ ap (λ (l : Line). let k : Line = record { queue = rest; stopped = l.stopped } in k) (sym line)) (λ q n. line_set_other rs p q _ n)

pub returns-clause-waits : goal.returns-clause-waits
returns-clause-waits c lane_in lane_out f past is s =
    let m = c.args.self.now in
    let rs = m.outs.items in
    let p = c.args.port in
    let kept : c.index_mut-out.result.now.queue.items ≡ c.pop_front.new.self.items =
    c.pop_front.ensures.items ∙ ap (λ (o : Option Item). option_to_list o ++ c.pop_front.new.self.items) is in
    let line : record { queue = c.pop_front.new.self.items; stopped = c.index_mut-out.result.now.stopped } ≡ line_of c.index_mut-out.result.now =
    ap (λ (xs : List Item). let l : Line = record { queue = xs; stopped = c.index_mut-out.result.now.stopped } in l) (sym kept) in
    let same = same_set rs p c.index_mut-out.result.now _ c.requires c.index_mut-out.ensures.value line in
    asked_at lane_in lane_out f _ _ m.closed m.damage past (same_stands lane_in lane_out f _ _ m.closed m.damage past s _ _ same.count same.lines) p

pub returns-clause-none_due : goal.returns-clause-none_due
returns-clause-none_due c lane_in lane_out f past is s on =
    let m = c.args.self.now in
    let rs = m.outs.items in
    let p = c.args.port in
    let rest : List Item = c.pop_front.new.self.items in
    let line = line_is rs p c.index_mut-out.result.now c.requires c.index_mut-out.ensures.value in
    let kept : c.index_mut-out.result.now.queue.items ≡ rest = c.pop_front.ensures.items ∙ ap (λ (o : Option Item). option_to_list o ++ rest) is in
    let none : c.index_mut-out.result.now.queue.items ≡ [] = none_left c.index_mut-out.result.now.queue.items (kept ∙ c.pop_front.ensures.rest) in
    none_at lane_in lane_out f _ _ m.closed m.damage past s p c.requires (ap (λ (l : Line). l.queue) line ∙ none) on
