use Rattle.std.proofs.Common.{◌<◌, ◌∙◌, sym, ap, arith, cond, Bool, Some, ℕ, Option}
use Rattle.std.proofs.Common.{subst}
use Rattle.std.specs.Prelude.{IfSome}
use Rattle.ff_node_filter.proofs.BestLemmas.Placing.{better_skips, better_first, better_picks}
use Rattle.ff_node_filter.proofs.best.choosing.better.Goals as goal

pub returns-then-input-clause-is : goal.returns-then-input-clause-is
returns-then-input-clause-is c = better_skips c.args.inputs.now c.args.p c.args.best c.index-inputs-p.result c.requires.there c.index-inputs-p.is c.if-input.true

pub returns-in_default-clause-is : goal.returns-in_default-clause-is
returns-in_default-clause-is c = better_first c.args.inputs.now c.args.p c.args.best c.index-inputs-p.result c.requires.there c.index-inputs-p.is c.if-input.false c.in_default.is

pub returns-then-is_earlier-clause-is : goal.returns-then-is_earlier-clause-is
returns-then-is_earlier-clause-is c =
    let lower : c.in-Some.i < c.args.p = subst (λ (o : Option ℕ). IfSome o (λ i. i < c.args.p)) c.in-Some.is c.requires.lower in
    ap (λ (b : Bool). Some (cond b c.args.p c.in-Some.i)) (sym c.if-is_earlier.true)
    ∙ better_picks c.args.inputs.now c.args.p c.in-Some.i c.args.best c.index-inputs-p.result c.index-inputs-i.result c.is_earlier.result c.requires.there
    (omega (arith, lower, c.requires.there)) c.index-inputs-p.is c.index-inputs-i.is c.if-input.false c.in-Some.is c.is_earlier.ensures

pub returns-else-is_earlier-clause-is : goal.returns-else-is_earlier-clause-is
returns-else-is_earlier-clause-is c =
    let lower : c.in-Some.i < c.args.p = subst (λ (o : Option ℕ). IfSome o (λ i. i < c.args.p)) c.in-Some.is c.requires.lower in
    ap (λ (b : Bool). Some (cond b c.args.p c.in-Some.i)) (sym c.if-is_earlier.false)
    ∙ better_picks c.args.inputs.now c.args.p c.in-Some.i c.args.best c.index-inputs-p.result c.index-inputs-i.result c.is_earlier.result c.requires.there
    (omega (arith, lower, c.requires.there)) c.index-inputs-p.is c.index-inputs-i.is c.if-input.false c.in-Some.is c.is_earlier.ensures
