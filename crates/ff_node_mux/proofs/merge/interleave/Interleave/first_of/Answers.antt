use Rattle.std.proofs.Common.{◌≡◌, ◌∙◌, sym, ap, subst, arith, true, Option, ℕ}
use Rattle.ff_node_mux.specs.merge.Merges.{is_some}
use Rattle.ff_node_mux.specs.merge.Queues.{Waiting}
use Rattle.ff_node_mux.specs.laws.merge.Fronts.{waits_of, IsFirst}
use Rattle.ff_node_mux.proofs.MergeLemmas.Placing.{waiting_there, some_by, none_by, none_of, some_from, first_skip, first_alone, first_new, first_kept}
use Rattle.ff_node_mux.proofs.merge.interleave.Interleave.first_of.Goals as goal

pub returns-then-is_empty : goal.returns-then-is_empty
returns-then-is_empty c =
    let qs = c.args.self.now.queues.items in
    let next = c.index-next.result.now in
    first_skip qs c.args.p c.args.first
    (ap (λ (w : Waiting). w.packets) (waiting_there qs c.args.p next c.requires.there c.index-next.ensures)
    ∙ none_of next.queue.items (none_by (is_some next.queue.items) (sym c.is_empty.ensures ∙ c.if-is_empty.true)))
    c.requires.first

pub is_sooner-requires-clause-other_some : goal.is_sooner-requires-clause-other_some
is_sooner-requires-clause-other_some c =
    let qs = c.args.self.now.queues.items in
    let there = c.requires.there in
    let f = subst (λ (o : Option ℕ). IsFirst qs c.args.p o) c.in-Some.is c.requires.first in
    let below = f.below in
    let other = waiting_there qs c.in-Some.i c.index.result.now (omega (arith, below, there)) c.index.ensures in
    some_from c.index.result.now.queue.items f.packet f.others (ap (λ (w : Waiting). w.packets) (sym other) ∙ f.waits)

pub returns-in-None : goal.returns-in-None
returns-in-None c =
    let qs = c.args.self.now.queues.items in
    let next = c.index-next.result.now in
    let some : is_some (waits_of qs c.args.p) ≡ true = ap (λ (w : Waiting). is_some w.packets) (waiting_there qs c.args.p next c.requires.there c.index-next.ensures)
    ∙ some_by (is_some next.queue.items) (sym c.is_empty.ensures ∙ c.if-is_empty.false) in
    first_alone qs c.args.p some (subst (λ (o : Option ℕ). IsFirst qs c.args.p o) c.in-None.is c.requires.first)

pub returns-then-is_sooner : goal.returns-then-is_sooner
returns-then-is_sooner c =
    let qs = c.args.self.now.queues.items in
    let next = c.index-next.result.now in
    let some : is_some (waits_of qs c.args.p) ≡ true = ap (λ (w : Waiting). is_some w.packets) (waiting_there qs c.args.p next c.requires.there c.index-next.ensures)
    ∙ some_by (is_some next.queue.items) (sym c.is_empty.ensures ∙ c.if-is_empty.false) in
    first_new qs c.args.p c.in-Some.i next c.index.result.now c.is_sooner.result c.requires.there c.index-next.ensures c.index.ensures some c.is_sooner.ensures
    (subst (λ (o : Option ℕ). IsFirst qs c.args.p o) c.in-Some.is c.requires.first) c.if-is_sooner.true

pub returns-else-is_sooner : goal.returns-else-is_sooner
returns-else-is_sooner c =
    let qs = c.args.self.now.queues.items in
    let next = c.index-next.result.now in
    let some : is_some (waits_of qs c.args.p) ≡ true = ap (λ (w : Waiting). is_some w.packets) (waiting_there qs c.args.p next c.requires.there c.index-next.ensures)
    ∙ some_by (is_some next.queue.items) (sym c.is_empty.ensures ∙ c.if-is_empty.false) in
    first_kept qs c.args.p c.in-Some.i next c.index.result.now c.is_sooner.result c.requires.there c.index-next.ensures c.index.ensures some c.is_sooner.ensures
    (subst (λ (o : Option ℕ). IsFirst qs c.args.p o) c.in-Some.is c.requires.first) c.if-is_sooner.false
