use Rattle.std.proofs.Common.{All, ◌≡◌, ◌∙◌, ℕ, ◌<◌, List, [], ◌∷◌, ◌++◌, length, slice_index_or, ap, refl, subst, sym}
use Rattle.std.proofs.lemmas.List.{map-append}
use Rattle.ff_stream.specs.declared.item.Lane.{Lane}
use Rattle.ff_net.specs.declared.wires.Queue.{Queue}
use Rattle.ff_net.specs.laws.Worlds.{QueueStands, fresh, lanes_in, sizes_in}
use Rattle.ff_net.proofs.Queues.{sizes_push, queue_fresh, each_push}
use Rattle.ff_net.proofs.wires.Wires.new.Goals as goal

pub loop-lane-preserved : goal.loop-lane-preserved
loop-lane-preserved c =
    let items = c.in_ok-push.ensures.items in record {
      lanes = ap lanes_in items ∙ (map-append (λ (q : Queue). q.lane) c.loop-lane.queues.items (_ ∷ []) ∙ ap (λ (ls : List Lane). ls ++ c.in-Some.lane ∷ []) c.loop-lane.invariant.lanes);
      sizes = subst (λ (qs : List Queue). All (λ n. n ≡ c.args.size) (sizes_in qs)) (sym items) (sizes_push c.args.size c.loop-lane.queues.items _ c.loop-lane.invariant.sizes refl);
      each = subst (λ (qs : List Queue). (w : ℕ) (d : Queue) → w < length qs → QueueStands (slice_index_or qs w d) fresh) (sym items)
          (each_push c.loop-lane.queues.items _ c.loop-lane.invariant.each (queue_fresh _ c.in_ok-with_capacity.ensures.items refl));
    }
