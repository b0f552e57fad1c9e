use Rattle.std.proofs.Common.{◌≡◌, ◌≤◌, ℕ, length, sym, subst}
use Rattle.ff_net_threads.specs.laws.links.Rooms.{links_of}
use Rattle.ff_test_machines.specs.Packets.{byte_lane}
use Rattle.ff_test_net.specs.net.Chains.{chain_tasks}
use Rattle.ff_net_threads.proofs.LinksLemmas.After.{ended_after}
use Rattle.ff_test_machines.specs.Plains.{plain_view}
use Rattle.ff_test_net.proofs.NetLemmas.Solved.{sink_was_fed}
use Rattle.ff_test_net.proofs.NetLemmas.Chains.{chain_lawful, chain_after}
use Rattle.ff_test_net.proofs.net.run.machines_of.Goals as goal

pub run_threads-requires-clause-lawful : goal.run_threads-requires-clause-lawful
run_threads-requires-clause-lawful g c κs within = chain_lawful (chain_tasks c.args.count c.args.limit) (byte_lane c.args.tb) c.in-Ok-chain.nodes.items c.in-Ok-chain.ensures.chain

pub settle_all-requires-clause-linked : goal.settle_all-requires-clause-linked
settle_all-requires-clause-linked g c = (let h = chain_after (chain_tasks c.args.count c.args.limit) (byte_lane c.args.tb) c.in-Ok-chain.nodes.items c.in-Ok-run_threads.done.items c.in-Ok-chain.ensures.chain c.in-Ok-run_threads.ensures.ok in (h.links, h.linked))

pub returns : goal.returns
returns g c = record {
  fed = λ sound.
      let olds = c.in-Ok-chain.nodes.items in
      let news = c.in-Ok-run_threads.done.items in
      let ran = c.in-Ok-run_threads.ensures.ok in
      let after = chain_after (chain_tasks c.args.count c.args.limit) (byte_lane c.args.tb) olds news c.in-Ok-chain.ensures.chain ran in
      let ended = ended_after plain_view olds news ran in
      let settled = c.settle_all.ensures in
      let links : links_of c.in-Ok-new.room ≡ 2 = c.in-Ok-new.ensures.links in
      sink_was_fed c.args.count c.args.limit (byte_lane c.args.tb) news c.settle_all.result.machines.items after ended (c.all_sound-sound.ensures sound)
      (λ tasks lanes begun behind meeting le. settled.solved tasks lanes begun behind meeting (subst (λ (n : ℕ). length lanes ≤ n) (sym links) le)) settled.machines;
}
