use Rattle.std.proofs.Common.{◌∙◌}
use Rattle.ff_flac_enc.proofs.Choice.{small_channel, can_mid, can_side}
use Rattle.ff_flac_enc.proofs.Forms.{same_samples}
use Rattle.ff_flac_enc.proofs.pair.write_pair.Goals as goal

pub mid_samples-requires-clause-left : goal.mid_samples-requires-clause-left
mid_samples-requires-clause-left c = small_channel c.args.bits c.args.left.now c.requires.left

pub mid_samples-requires-clause-right : goal.mid_samples-requires-clause-right
mid_samples-requires-clause-right c = small_channel c.args.bits c.args.right.now c.requires.right

pub side_samples-requires-clause-left : goal.side_samples-requires-clause-left
side_samples-requires-clause-left c = small_channel c.args.bits c.args.left.now c.requires.left

pub side_samples-requires-clause-right : goal.side_samples-requires-clause-right
side_samples-requires-clause-right c = small_channel c.args.bits c.args.right.now c.requires.right

pub write_alike-requires-clause-side : goal.write_alike-requires-clause-side
write_alike-requires-clause-side c =
    can_side c.args.bits c.args.left.now c.args.right.now c.deref.result.now c.requires.bits c.requires.left c.requires.right c.requires.same
    (c.deref.ensures.value ∙ c.in_ok-side.ensures)

pub write_alike-requires-clause-alike : goal.write_alike-requires-clause-alike
write_alike-requires-clause-alike c = same_samples c.args.left.now c.args.right.now c.eq.result c.eq.ensures c.if-eq.true

pub write_four-requires-clause-can : goal.write_four-requires-clause-can
write_four-requires-clause-can c =
    let l = c.args.left.now in
    let r = c.args.right.now in
    let mid = c.deref-2.ensures.value ∙ c.in_ok-mid.ensures in
    let side = c.deref-3.ensures.value ∙ c.in_ok-side.ensures in
    record {
      left = c.requires.left;
      right = c.requires.right;
      mid = can_mid c.args.bits l r c.deref-2.result.now c.requires.left c.requires.right c.requires.same mid;
      side = can_side c.args.bits l r c.deref-3.result.now c.requires.bits c.requires.left c.requires.right c.requires.same side;
    }
