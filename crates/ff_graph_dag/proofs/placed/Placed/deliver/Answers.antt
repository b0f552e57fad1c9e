use Rattle.std.proofs.Common.{◌≡◌, slice_set, Option, None, Some, is_some, ap, ◌∙◌}
use Rattle.ff_stream.specs.declared.item.Item.{Item}
use Rattle.ff_filter.proofs.Moves.{same_self}
use Rattle.ff_graph_dag.specs.laws.Dags.{spot_of, held_at}
use Rattle.ff_graph_dag.proofs.Edges.{held_is, held_set, held_kept, held_size, delivered, kept, kept_empty, put_back, let_go}
use Rattle.ff_graph_dag.proofs.placed.Placed.deliver.Goals as goal

pub feed-requires-clause-open_before : goal.feed-requires-clause-open_before
feed-requires-clause-open_before g c =
    let is : held_at c.args.self.now.held.items c.args.port ≡ c.index_mut.result.now = held_is c.args.self.now.held.items c.args.port _ c.index_mut.result.now
    c.requires.there c.index_mut.ensures.value in
    let some : c.index_mut.result.now ≡ Some c.in-Some.item = cc in
    c.requires.ready.unshut (ap (λ (m : Option Item). is_some m) (is ∙ some))

pub returns-in-None-clause-delivered : goal.returns-in-None-clause-delivered
returns-in-None-clause-delivered g c =
    let hs = c.args.self.now.held.items in
    let is : held_at hs c.args.port ≡ c.index_mut.result.now = held_is hs c.args.port _ c.index_mut.result.now c.requires.there c.index_mut.ensures.value in
    let none : c.index_mut.result.now ≡ None = cc in
    kept_empty (spot_of g.F.Filter.view c.args.self.now) _ c.args.port (is ∙ none)
    (kept (spot_of g.F.Filter.view c.args.self.now) (g.F.Filter.view c.args.self.now.filter) (slice_set hs c.args.port c.take.new.self) (same_self _)
    (held_size hs c.args.port c.take.new.self)
    (let_go hs c.args.port c.take.new.self c.requires.there (is ∙ none) c.take.ensures.after))

pub returns-in-Ok-clause-delivered : goal.returns-in-Ok-clause-delivered
returns-in-Ok-clause-delivered g c =
    let hs = c.args.self.now.held.items in
    let is : held_at hs c.args.port ≡ c.index_mut.result.now = held_is hs c.args.port _ c.index_mut.result.now c.requires.there c.index_mut.ensures.value in
    let some : c.index_mut.result.now ≡ Some c.in-Some.item = cc in
    delivered (spot_of g.F.Filter.view c.args.self.now) (g.F.Filter.view c.feed.new.self) (slice_set hs c.args.port c.take.new.self) c.args.port c.in-Some.item
    (is ∙ some)
    (c.requires.ready.unshut (ap (λ (m : Option Item). is_some m) (is ∙ some))) (held_set hs c.args.port c.take.new.self c.requires.there ∙ c.take.ensures.after)
    (held_size hs c.args.port c.take.new.self)
    (held_kept hs c.args.port c.take.new.self) c.in-Ok.ensures.fed

pub returns-in-Err-clause-unchanged : goal.returns-in-Err-clause-unchanged
returns-in-Err-clause-unchanged g c =
    let hs = c.args.self.now.held.items in
    let is : held_at hs c.args.port ≡ c.index_mut.result.now = held_is hs c.args.port _ c.index_mut.result.now c.requires.there c.index_mut.ensures.value in
    let some : c.index_mut.result.now ≡ Some c.in-Err.refused.item = cc (c.in-Err.ensures.refused) in
    let back = slice_set (slice_set hs c.args.port c.take.new.self) c.args.port (Some c.in-Err.refused.item) in
    kept (spot_of g.F.Filter.view c.args.self.now) (g.F.Filter.view c.feed.new.self) back c.in-Err.ensures.unchanged
    (held_size (slice_set hs c.args.port c.take.new.self) c.args.port (Some c.in-Err.refused.item) ∙ held_size hs c.args.port c.take.new.self)
    (put_back hs c.args.port c.take.new.self (Some c.in-Err.refused.item) c.requires.there (is ∙ some))
