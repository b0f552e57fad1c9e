use Rattle.std.proofs.Common.{◌≡◌, ℕ, ◌<◌, ◌≤◌, ◌^◌, ℤ, pos, get_or, take, sym, ap, subst, ◌∙◌, arith, rules, w32}
use Rattle.std.specs.Prelude.{FitsSigned}
use Rattle.std.proofs.lemmas.Int.{to_z-of_z}
use Rattle.std.proofs.lemmas.List.{take_all}
use Rattle.std.proofs.lemmas.List.Elements.{All-more, All-weaker, All-same}
use Rattle.ff_flac_subframe.specs.rice.Rice.{zigzagged}
use Rattle.ff_flac_subframe.specs.Subframe.{magnitude}
use Rattle.ff_flac_subframe.proofs.Predict.{zigzag_small}
use Rattle.ff_flac_subframe.proofs.samples.greatest_zigzag.Goals as goal

pub zigzag_of-requires : goal.zigzag_of-requires
zigzag_of-requires c =
    let x : ℤ = get_or c.args.xs.now c.loop-x.x-index (pos 0) in
    let fits : FitsSigned w32 x = search rules in
    let small : magnitude x < 2 ^ 24 = c.requires c.loop-x.x-index (pos 0) (omega arith) in
    let below : zigzagged x < 2 ^ 31 = omega (arith, zigzag_small (2 ^ 24) x small) in
    subst (λ z. zigzagged z < 2 ^ 31) (sym (to_z-of_z w32 x fits)) below

pub loop-x-preserved : goal.loop-x-preserved
loop-x-preserved c =
    let m : ℕ = c.max-most.result in
    let x : ℤ = get_or c.args.xs.now c.loop-x.x-index (pos 0) in
    let fits : FitsSigned w32 x = search rules in
    let is : c.zigzag_of.result ≡ zigzagged x = c.zigzag_of.ensures ∙ ap zigzagged (to_z-of_z w32 x fits) in
    let small : magnitude x < 2 ^ 24 = c.requires c.loop-x.x-index (pos 0) (omega arith) in
    record {
      most =
          All-more (λ x. zigzagged x ≤ m) c.args.xs.now c.loop-x.x-index (pos 0) (omega arith)
          (All-weaker (λ x. zigzagged x ≤ c.loop-x.most) (λ x. zigzagged x ≤ m) (λ x h. omega (arith, h, c.max-most.ensures))
          (take c.loop-x.x-index c.args.xs.now) c.loop-x.invariant.most)
          (omega (arith, is, c.max-most.ensures));
      small = omega (arith, is, c.max-most.ensures, c.loop-x.invariant.small, zigzag_small (2 ^ 24) x small);
    }

pub returns-clause-most : goal.returns-clause-most
returns-clause-most c =
    All-same (λ x. zigzagged x ≤ c.loop-x.most) c.args.xs.now (take c.loop-x.x-index c.args.xs.now)
    (sym (take_all c.loop-x.x-index c.args.xs.now (omega arith))) c.loop-x.invariant.most
