use Rattle.std.proofs.Common.{◌≡◌, subst, Some}
use Rattle.ff_link.specs.laws.Views.{Sending}
use Rattle.ff_net_threads.specs.laws.links.Settling.{IsSenderIn}
use Rattle.ff_net_threads.proofs.LinksLemmas.Senders.{sender_still, sender_stored}
use Rattle.ff_net_threads.proofs.LinksLemmas.Tables.{table_set}
use Rattle.ff_net_threads.proofs.links.settling.store_end.Goals as goal

pub returns-clause-table : goal.returns-clause-table
returns-clause-table c all links t sent link = table_set all links c.args.table.now.items c.args.end.wire (Some c.args.end.sender) (λ s e. let same : c.args.end.sender ≡ s = cc (e) in let on : c.args.end.sender.link ≡ links c.args.end.wire = cc (link) in subst (λ (z : Sending). IsSenderIn all c.args.end.wire z × (z.link ≡ links c.args.end.wire)) same (sent, on)) t

pub returns-clause-kept : goal.returns-clause-kept
returns-clause-kept c w h = sender_still c.args.table.now.items c.args.end.wire w c.args.end.sender h

pub returns-clause-stored : goal.returns-clause-stored
returns-clause-stored c lt = sender_stored c.args.table.now.items c.args.end.wire c.args.end.sender lt
