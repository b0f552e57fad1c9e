use Rattle.std.proofs.Common.{◌∙◌, ap, sym}
use Rattle.ff_filter.specs.Made.{is_over}
use Rattle.ff_filter.proofs.Stepping.{closing-none, closing-some}
use Rattle.ff_joins.proofs.Feeding.{fed_over, fed_none}
use Rattle.ff_joins.proofs.join.Join.pass_over.Goals as goal

pub returns-in-None : goal.returns-in-None
returns-in-None c =
    fed_none c.args.self.now c.args.port c.args.item (closing-none c.args.item (sym c.closing_of.ensures ∙ c.in-None.is)) c.requires.open c.requires.done

pub returns-in-Some : goal.returns-in-Some
returns-in-Some c =
    let m = c.args.self.now in
    let i = c.close.new.self in
    let by = closing-some c.args.item c.in-Some.after (sym c.closing_of.ensures ∙ c.in-Some.is) in
    fed_over m c.args.port i c.index_mut.result.now c.args.item c.requires.there c.index_mut.ensures.value c.close.ensures.head
    (ap is_over c.close.ensures.after ∙ (by.1 ∙ sym by.0)) c.requires.open c.requires.done
