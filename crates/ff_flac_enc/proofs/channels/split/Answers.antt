use Rattle.std.proofs.Common.{◌≡◌, ◌∙◌, ◌+◌, ◌*◌, ap, arith, rules, ℤ, List, pos, get_or, w32}
use Rattle.std.specs.Prelude.{FitsSigned}
use Rattle.std.proofs.lemmas.Int.{to_z-of_z}
use Rattle.std.proofs.lemmas.List.{length-set}
use Rattle.ff_flac_enc.proofs.Apart.{sample_at, next_sample, all_picked}
use Rattle.ff_flac_enc.proofs.channels.split.Goals as goal

pub loop-t-preserved : goal.loop-t-preserved
loop-t-preserved c =
    let t = c.loop-t.t in
    let all : List ℤ = c.args.samples.now in
    let x : ℤ = get_or c.args.samples.now (t * 2) (pos 0) in
    let y : ℤ = sample_at 2 c.args.samples.now 1 t in
    let fx : FitsSigned w32 x = search rules in
    let fy : FitsSigned w32 y = search rules in
    let here : t * 2 ≡ t * 2 + 0 = omega arith in
    record {
      left_len = length-set c.loop-t.left t _ ∙ c.loop-t.invariant.left_len;
      right_len = length-set c.loop-t.right t _ ∙ c.loop-t.invariant.right_len;
      left = next_sample 2 0 all c.loop-t.left t _ (omega arith) (to_z-of_z w32 x fx ∙ ap (λ i. get_or all i (pos 0)) here) c.loop-t.invariant.left;
      right = next_sample 2 1 all c.loop-t.right t _ (omega arith) (to_z-of_z w32 y fy) c.loop-t.invariant.right;
    }

pub returns-clause-left : goal.returns-clause-left
returns-clause-left c = all_picked 2 0 c.args.samples.now c.loop-t.left c.loop-t.t c.loop-t.invariant.left_len (omega arith) c.loop-t.invariant.left

pub returns-clause-right : goal.returns-clause-right
returns-clause-right c =
    all_picked 2 1 c.args.samples.now c.loop-t.right c.loop-t.t c.loop-t.invariant.right_len
    (omega (arith, c.loop-t.invariant.left_len, c.loop-t.invariant.right_len)) c.loop-t.invariant.right
