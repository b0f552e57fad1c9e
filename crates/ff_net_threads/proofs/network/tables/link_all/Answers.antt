use Rattle.std.proofs.Common.{◌≡◌, Some, length, get_or, ◌∙◌, subst, arith}
use Rattle.std.proofs.lemmas.List.{get_or_default}
use Rattle.ff_stream.specs.declared.edges.edge.Edge.{Edge}
use Rattle.ff_net_threads.specs.laws.network.Tables.{AreEnds}
use Rattle.ff_net_threads.proofs.NetworkLemmas.Each.{two_pushed}
use Rattle.ff_net_threads.proofs.network.tables.link_all.Goals as goal

pub loop-edge-preserved : goal.loop-edge-preserved
loop-edge-preserved g c =
    let was = c.loop-edge.invariant in
    let n = c.loop-edge.edge-index in
    let claims = g.C.Claims.claims in
    let senders = c.loop-edge.senders in
    let receivers = c.loop-edge.receivers in
    let long_s : length senders.items ≡ n = (let count = was.count_senders in let ok = senders.ok.0 in omega arith) in
    let long_r : length receivers.items ≡ n = (let count = was.count_receivers in let ok = receivers.ok.0 in omega arith) in
    record {
      count_senders = (let count = was.count_senders in let len = c.in_ok-push.ensures.len in omega arith);
      count_receivers = (let count = was.count_receivers in let len = c.in_ok-push-2.ensures.len in omega arith);
      each = λ w d e f lt.
          let edge : c.edge-item.result ≡ get_or c.args.edges.now n d = c.edge-item.is ∙ get_or_default c.args.edges.now n c.edge-item.result d (let test = c.loop-edge-test.true in omega (arith, test)) in
          two_pushed (λ k s r. AreEnds claims c.args.size (get_or c.args.edges.now k d).lane s r) senders.items c.push.new.self.items (Some c.in_ok-sender.sender) receivers.items c.push-in-loop-edge.new.self.items (Some c.in_ok-sender.receiver) n
          c.in_ok-push.ensures.items c.in_ok-push-2.ensures.items long_s long_r (λ k s r l. was.each k d s r l)
          (subst (λ (x : Edge). AreEnds claims c.args.size x.lane (Some c.in_ok-sender.sender) (Some c.in_ok-sender.receiver)) edge c.in_ok-sender.ensures) w e f lt;
    }
