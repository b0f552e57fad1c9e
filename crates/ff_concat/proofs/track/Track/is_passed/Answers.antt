use Rattle.std.proofs.Common.{◌≡◌, ◌∙◌, true, false, sym, arith}
use Rattle.ff_concat.proofs.Lookups.{queue_read}
use Rattle.ff_concat.proofs.Standings.{not_passed}
use Rattle.ff_concat.proofs.track.Track.is_passed.Goals as goal

pub returns-then-not-is_empty-clause-not : goal.returns-then-not-is_empty-clause-not
returns-then-not-is_empty-clause-not c f lt p =
    let bs = c.args.self.now.backlogs.items in
    let clash : true ≡ false = sym (c.is_empty.ensures.some (sym (queue_read bs c.args.self.now.current c.index.result.now lt c.index.ensures) ∙ p.no_items)) ∙ c.if-not-is_empty.true in
    cc

pub returns-in-Whole-clause-passed : goal.returns-in-Whole-clause-passed
returns-in-Whole-clause-passed c e = record {
  no_zeros = c.is_silent.ensures.none c.if-is_silent.false;
  no_items = queue_read c.args.self.now.backlogs.items c.args.self.now.current c.index.result.now (let inside = c.args.self.now.there in omega (arith, inside)) c.index.ensures ∙ c.is_empty.ensures.empty c.if-not-is_empty.false;
  stands = c.in-Whole.ensures;
}

pub returns-in-More : goal.returns-in-More
returns-in-More c = record {
  there = λ e. cc;
  passed = λ e. cc;
  not = λ e lt p. not_passed c.args.self.now c.args.reaches.now c.args.width c.args.number c.standing.result c.in-More.is c.standing.ensures p.stands;
}
