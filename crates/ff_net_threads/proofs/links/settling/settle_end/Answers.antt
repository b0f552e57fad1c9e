use Rattle.std.proofs.Common.{◌≡◌, ◌<◌, length, sym, ◌∙◌, arith, Some, slice_index_or}
use Rattle.ff_net_threads.proofs.LinksLemmas.Senders.{sender_there, sender_kept}
use Rattle.ff_net_threads.proofs.LinksLemmas.Tables.{table_set, no_sender, link_ended}
use Rattle.ff_net_threads.proofs.links.settling.settle_end.Goals as goal

pub settle-requires : goal.settle-requires
settle-requires c =
    let w = c.args.end.wire in
    let r = c.requires.linked in
    let there : w < length c.args.table.now.items = let no = c.if-wire-len.false in let ok = c.args.table.now.ok.0 in omega arith in
    let found : slice_index_or c.args.table.now.items w c.index_mut-slot.result.now ≡ Some c.in-Some.sender = sym c.index_mut-slot.ensures.value ∙ (sym c.take.ensures.value ∙ c.in-Some.is) in
    (r.2.each w c.index_mut-slot.result.now c.in-Some.sender there found).1 ∙ sym (link_ended c.args.end c.in-Some-finished.finished (r.1 w) c.requires.shut c.in-Some-finished.is r.3)

pub returns-clause-table : goal.returns-clause-table
returns-clause-table c all links t = table_set all links c.args.table.now.items c.args.end.wire c.take.new.self (λ s e. absurd (no_sender c.take.new.self s c.take.ensures.after e)) t

pub returns-clause-kept : goal.returns-clause-kept
returns-clause-kept c w n h = sender_kept c.args.table.now.items c.args.end.wire w c.take.new.self n h

pub returns-then-wire-len-clause-settled : goal.returns-then-wire-len-clause-settled
returns-then-wire-len-clause-settled c h =
    absurd (let there : c.args.end.wire < length c.args.table.now.items = sender_there c.args.table.now.items c.args.end.wire h in let no = c.if-wire-len.true in let ok = c.args.table.now.ok.0 in omega arith)
