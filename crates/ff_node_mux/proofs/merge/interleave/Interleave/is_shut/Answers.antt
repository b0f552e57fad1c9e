use Rattle.std.proofs.Common.{◌∙◌, sym, ap}
use Rattle.ff_filter.specs.Made.{is_over}
use Rattle.ff_node_mux.specs.merge.Queues.{Waiting}
use Rattle.ff_node_mux.proofs.MergeLemmas.Placing.{waiting_there, stream_there}
use Rattle.ff_node_mux.proofs.merge.interleave.Interleave.is_shut.Goals as goal

pub returns : goal.returns
returns c =
    let qs = c.args.self.now.queues.items in
    c.is_shut.ensures ∙ ap (λ (w : Waiting). is_over w.after)
    (sym (waiting_there qs c.args.stream c.index.result.now (stream_there qs c.args.stream c.requires.there) c.index.ensures))
