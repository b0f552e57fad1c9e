use Rattle.std.proofs.Common.{◌≡◌, ◌∙◌, sym, arith}
use Rattle.std.specs.Prelude.{vec_len}
use Rattle.std.proofs.lemmas.Bool.{eqb-true, eqb-false}
use Rattle.ff_fsync.proofs.StacksLemmas.Lasting.{lasts_due, lasts_none, none_there}
use Rattle.ff_fsync.proofs.stacks.stacked.Stacked.lasts.Goals as goal

pub returns-then-is_empty-clause-is : goal.returns-then-is_empty-clause-is
returns-then-is_empty-clause-is c =
    let m = c.args.self.now in
    let none : vec_len m.sync.inputs ≡ 0 = eqb-true (vec_len m.sync.inputs) 0 (sym c.is_empty.ensures ∙ c.if-is_empty.true) in
    lasts_none m.sync.head m.sync.shortest m.sync.inputs.items c.args.from c.args.time c.requires.due
    (none_there m.sync.inputs.items (omega (arith, none, m.sync.inputs.ok.0)))

pub returns-clause-is : goal.returns-clause-is
returns-clause-is c =
    let m = c.args.self.now in
    let some = eqb-false (vec_len m.sync.inputs) 0 (sym c.is_empty.ensures ∙ c.if-is_empty.false) in
    c.lasts_by.ensures.is
    ∙ lasts_due m.sync.head m.sync.shortest m.sync.inputs.items c.args.from c.args.time c.index.result.now c.requires.due
    (omega (arith, some, m.sync.inputs.ok.0)) c.index.ensures
