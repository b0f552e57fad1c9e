use Rattle.std.proofs.Common.{◌≡◌, ◌∙◌, sym, ap, List}
use Rattle.ff_frame.specs.declared.packet.Pkt.{Pkt}
use Rattle.ff_filter.specs.declared.after.After.{After}
use Rattle.ff_filter.specs.Made.{is_over}
use Rattle.ff_node_mux.specs.merge.Queues.{Waiting, waiting_of}
use Rattle.ff_node_mux.proofs.MergeLemmas.Placing.{waiting_there, stream_there}
use Rattle.ff_node_mux.proofs.MergeLemmas.Giving.{fed_in, same_as}
use Rattle.ff_node_mux.proofs.merge.interleave.Interleave.feed.Goals as goal

pub feed-requires : goal.feed-requires
feed-requires c =
    let qs = c.args.self.now.queues.items in
    record {
      going = ap (λ (w : Waiting). is_over w.after) (sym (waiting_there qs c.args.stream c.index_mut.result.now (stream_there qs c.args.stream c.requires.there)
          c.index_mut.ensures.value)) ∙ c.requires.open_before;
    }

pub returns-in-Ok-clause-fed : goal.returns-in-Ok-clause-fed
returns-in-Ok-clause-fed c =
    let qs = c.args.self.now.queues.items in
    fed_in qs c.args.stream c.feed.new.self c.index_mut.result.now c.args.item (stream_there qs c.args.stream c.requires.there) c.index_mut.ensures.value
    c.requires.open_before c.feed.ensures.tb c.in-Ok.ensures.shut c.in-Ok.ensures.taken

pub returns-in-Err-clause-unchanged : goal.returns-in-Err-clause-unchanged
returns-in-Err-clause-unchanged c =
    let qs = c.args.self.now.queues.items in
    let i = c.feed.new.self in
    let j = c.index_mut.result.now in
    let same : waiting_of i ≡ waiting_of j =
    ap (λ (ps : List Pkt). let w : Waiting = record { packets = ps; after = i.after } in w) c.in-Err.ensures.queue
    ∙ ap (λ (a : After). let w : Waiting = record { packets = j.queue.items; after = a } in w) c.in-Err.ensures.after in
    same_as qs c.args.stream i j (stream_there qs c.args.stream c.requires.there) c.index_mut.ensures.value c.feed.ensures.tb same
