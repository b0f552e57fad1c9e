use Rattle.std.proofs.Common.{ℕ, subst, sym}
use Rattle.ff_net.proofs.Before.{meets_solution}
use Rattle.ff_net_threads.specs.laws.links.Rooms.{links_of}
use Rattle.ff_net_threads.specs.laws.links.Settling.{ComeAfter, ends_of, nodes_of}
use Rattle.ff_net_threads.proofs.LinksLemmas.Meeting.{moment_of_links, are_fed}
use Rattle.ff_net_threads.proofs.LinksLemmas.Senders.{come_after}
use Rattle.ff_net_threads.proofs.LinksLemmas.Tables.{no_sender, settled_fed}
use Rattle.ff_net_threads.proofs.links.settling.settle_all.Goals as goal

pub settle_in-machines-requires-clause-table : goal.settle_in-machines-requires-clause-table
settle_in-machines-requires-clause-table g c links = record { each = λ w d s lt e. absurd (no_sender _ s (c.into_lists-table.ensures.table c.requires.unused w d lt) e) }

pub returns-clause-settled : goal.returns-clause-settled
returns-clause-settled g c after = c.settle_in-machines.ensures.settled (subst (λ (n : ℕ). ComeAfter n c.args.nodes.items) (sym c.into_lists-table.ensures.links) after)

pub returns-clause-solved : goal.returns-clause-solved
returns-clause-solved g c tasks lanes begun bs meet few up fares =
    let view = g.M.Machine.view in
    let ls = c.args.nodes.items in
    let all = c.settle_in-machines.ensures.settled (subst (λ (n : ℕ). ComeAfter n ls) (sym c.into_lists-table.ensures.links) (come_after view (links_of c.args.room) lanes tasks ls bs meet few up)) in
    let net = moment_of_links view lanes tasks ls bs meet (are_fed ls ls (λ k p d lt plt. settled_fed (ends_of ls) c.settle_in-machines.result.2.items _ (all.each k p d lt plt))) in
    (net.0, net.1, meets_solution view g.met.M.Machine.laws begun (nodes_of ls) lanes net.0 tasks net.1 up fares)
