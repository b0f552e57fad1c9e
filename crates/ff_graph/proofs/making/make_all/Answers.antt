use Rattle.std.proofs.Common.{◌≡◌, inl, inr, List, Err, sym, subst, slice_get, get_or}
use Rattle.std.specs.declared.alloc.Global.{Global}
use Rattle.std.specs.declared.vec.Vec.{Vec}
use Rattle.ff_frame.specs.declared.head.StreamHead.{StreamHead}
use Rattle.ff_filters.specs.contracts.any.AnyFilterFilter.TheImpl.{ghosts}
use Rattle.ff_graph_links.specs.pads.Links.{all_seen}
use Rattle.ff_graph.specs.declared.refusal.Refusal.{Refusal}
use Rattle.ff_graph.specs.Configured.{made_of, make_from, none_made}
use Rattle.ff_graph.specs.laws.Pads.{heads_in, made_by, IsRefusal}
use Rattle.ff_graph.proofs.Behind.{refused_there}
use Rattle.ff_graph.proofs.making.make_all.Goals as goal

pub returns-in-Err-clause-refused : goal.returns-in-Err-clause-refused
returns-in-Err-clause-refused c =
    let all = make_from (all_seen c.args.drawn.now) c.args.given.now (none_made (all_seen c.args.drawn.now)) c.args.order.now in
    elim c.in-Err.ensures.refused [
      | inl e ↦ subst (λ (x : Refusal). IsRefusal all x) (sym (c.refuse.ensures.memory e)) tt
      | inr e ↦ c.refuse.ensures.refused all
          (refused_there (all_seen c.args.drawn.now) c.args.given.now (made_by ghosts.view c.order.filters c.order.heads) c.args.order.now c.order.at c.in-Err.kind all
          c.order-test.true
          (subst (λ (hs : List (Vec StreamHead Global)). made_of (all_seen c.args.drawn.now) c.args.given.now (heads_in hs) (get_or c.args.order.now c.order.at 0)
          (slice_get (all_seen c.args.drawn.now) (get_or c.args.order.now c.order.at 0)) ≡ Err c.in-Err.kind) c.deref-in-order-3.ensures.value e)
          c.order.invariant.so_far)
    ]
