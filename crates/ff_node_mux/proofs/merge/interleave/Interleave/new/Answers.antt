use Rattle.std.proofs.Common.{◌≡◌, ◌+◌, ◌<◌, ◌∙◌, ◌++◌, ◌∷◌, [], suc, sym, ap, subst, arith, length, take, List}
use Rattle.std.proofs.Math.Seq.{take-suc}
use Rattle.ff_time.specs.Fraction.{Fraction}
use Rattle.ff_node_mux.specs.declared.merge.queue.PacketQueue.{PacketQueue}
use Rattle.ff_frame.specs.declared.packet.Pkt.{Pkt}
use Rattle.ff_filter.specs.declared.after.After.{After}
use Rattle.ff_node_mux.specs.merge.Queues.{Waiting, waiting_of, no_packets}
use Rattle.ff_node_mux.specs.laws.merge.Fronts.{AreNew}
use Rattle.ff_node_mux.proofs.MergeLemmas.Placing.{new_more}
use Rattle.ff_node_mux.proofs.merge.interleave.Interleave.new.Goals as goal

pub streams-preserved : goal.streams-preserved
streams-preserved c =
    let tbs = c.args.tbs in
    let p = c.streams.p in
    let lt : p < length tbs.items = omega (arith, c.streams-test.true, c.len-p-end.ensures, tbs.ok.0) in
    let n : p + 1 ≡ suc p = omega arith in
    let tb = c.index.result.now in
    let one : take (p + 1) tbs.items ≡ take p tbs.items ++ tb ∷ [] = ap (λ k. take k tbs.items) n ∙ (take-suc tbs.items p tb lt
    ∙ ap (λ (b : Fraction). take p tbs.items ++ b ∷ []) (sym c.index.ensures)) in
    let q = c.new.result in
    let bare : waiting_of q ≡ no_packets = ap (λ (ps : List Pkt). let w : Waiting = record { packets = ps; after = q.after } in w) c.new.ensures.queue
    ∙ ap (λ (a : After). let w : Waiting = record { packets = []; after = a } in w) c.new.ensures.after in
    subst (λ (qs : List PacketQueue). AreNew (take (p + 1) tbs.items) qs) (sym {A = List PacketQueue} c.in_ok-push.ensures.items)
    (new_more (take p tbs.items) (take (p + 1) tbs.items) c.streams.queues.items q tb one c.streams.invariant bare c.new.ensures.tb)
