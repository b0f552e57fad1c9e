use Rattle.std.proofs.Common.{◌≡◌, suc, ◌+◌, ap, sym, ◌∙◌, subst, arith, drop, true, ◌&&◌, length}
use Rattle.std.proofs.lemmas.Bool.{eqb-false}
use Rattle.ff_fsync.specs.stacks.Heads.{head_on_grid, all_on_grid}
use Rattle.ff_fsync.proofs.StacksLemmas.Gridding.{grid_step, grid_last}
use Rattle.ff_fsync.proofs.stacks.heads.are_on_grid.Goals as goal

pub heads-preserved : goal.heads-preserved
heads-preserved c =
    let d = c.args.direction in
    let hs = c.args.heads.now in
    let i = c.heads.i in
    let h = c.index-heads-i.result in
    let on : head_on_grid d h ≡ true = sym c.head_on_grid.ensures ∙ c.if-not-head_on_grid.false in
    let some = eqb-false (length hs) 0 (sym c.is_empty.ensures ∙ c.if-is_empty.false) in
    let next : suc i ≡ i + 1 = omega arith in
    let step : all_on_grid d (drop (suc i) hs) ≡ all_on_grid d hs =
    ap (λ b. b && all_on_grid d (drop (suc i) hs)) (sym on) ∙ (sym (grid_step d hs i h (omega (arith, some)) c.index-heads-i.is) ∙ c.heads.invariant) in
    subst (λ j. all_on_grid d (drop j hs) ≡ all_on_grid d hs) next step

pub returns : goal.returns
returns c =
    let d = c.args.direction in
    let hs = c.args.heads.now in
    let some = eqb-false (length hs) 0 (sym c.is_empty.ensures ∙ c.if-is_empty.false) in
    sym (grid_last d hs c.heads.i (omega (arith, some))) ∙ c.heads.invariant
