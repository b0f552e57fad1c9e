use Rattle.std.proofs.Common.{◌≡◌, ◌≤◌, List, length, None, false, ap, arith, sym, subst}
use Rattle.ff_frame.specs.declared.head.StreamHead.{StreamHead}
use Rattle.ff_node_mux.specs.merge.Queues.{merging, IsNew}
use Rattle.ff_net.specs.Pasts.{start}
use Rattle.ff_node_mux.specs.Muxing.{head_bases, mux_task, MuxStands}
use Rattle.ff_node_mux.specs.Telling.{mux_tells}
use Rattle.ff_node_mux.proofs.MuxSteps.{mux_begins}
use Rattle.ff_node_mux.proofs.mux.Mux.new.Goals as goal

pub returns-clause-fresh : goal.returns-clause-fresh
returns-clause-fresh g c = λ told.
    let holds = g.K.Sink.holds c.args.snk in
    let layout = g.W.Writer.layout c.args.writer in
    let counts = g.W.Writer.counts c.args.writer in
    let heads = c.args.heads.now in
    let kept = c.in-Ok-from_slice.kept.items in
    let e : kept ≡ heads = c.in-Ok-from_slice.ensures.items in
    let merge = merging c.in-Ok.merge.queues.items in
    let new : IsNew (head_bases kept) merge = subst (λ (hs : List StreamHead). IsNew (head_bases hs) merge) (sym e) c.in-Ok.ensures in
    let some : 1 ≤ length kept = subst (λ (hs : List StreamHead). 1 ≤ length hs) (sym e) c.requires.some in (
      subst (λ (hs : List StreamHead). MuxStands holds layout counts None kept c.len-unended.result false merge None (start (mux_task layout c.args.first (head_bases hs))))
          e (mux_begins holds layout counts kept c.len-unended.result merge c.args.first told c.requires.fresh some (omega (arith, c.len-unended.ensures, c.in-Ok-from_slice.kept.ok.0)) new),
      record { tells_is = ap (λ (hs : List StreamHead). mux_tells c.args.first (head_bases hs)) (sym e); all = c.new.ensures.items },
    )
