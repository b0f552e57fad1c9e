use Rattle.std.proofs.Common.{◌≡◌, ◌++◌, ◌∙◌, sym, Some, subst, ap, arith, length}
use Rattle.ff_flac_subframe.specs.rice.Least.{least}
use Rattle.ff_flac_enc.specs.Head.{opened}
use Rattle.ff_flac_enc.specs.Layout.{Layout, layouts, layout_size, body}
use Rattle.ff_flac_enc.proofs.Apart.{can_write, two_is, length-channel_of}
use Rattle.ff_flac_enc.proofs.frame.write_two.Goals as goal

pub write_pair-requires-clause-left : goal.write_pair-requires-clause-left
write_pair-requires-clause-left c =
    can_write c.args.bits 2 0 c.args.samples.now c.deref.result.now (c.deref.ensures.value ∙ c.in_ok-two.ensures.left) (omega arith) (omega arith)
    c.requires.some_bits c.requires.few_bits c.requires.some_samples c.requires.few_samples c.requires.fits

pub write_pair-requires-clause-right : goal.write_pair-requires-clause-right
write_pair-requires-clause-right c =
    can_write c.args.bits 2 1 c.args.samples.now c.deref-2.result.now (c.deref-2.ensures.value ∙ c.in_ok-two.ensures.right) (omega arith) (omega arith)
    c.requires.some_bits c.requires.few_bits c.requires.some_samples c.requires.few_samples c.requires.fits

pub write_pair-requires-clause-same : goal.write_pair-requires-clause-same
write_pair-requires-clause-same c =
    ap length (c.deref.ensures.value ∙ c.in_ok-two.ensures.left) ∙ length-channel_of 2 0 c.args.samples.now
    ∙ sym (ap length (c.deref-2.ensures.value ∙ c.in_ok-two.ensures.right) ∙ length-channel_of 2 1 c.args.samples.now)

pub returns : goal.returns
returns c =
    subst (λ channels. (y : Layout) × (least (layout_size c.args.bits channels) (layouts c.args.bits channels) ≡ Some y) × (c.in_ok-out.out ≡ opened c.args.head.now y.form ++ body c.args.bits channels y))
    (two_is c.args.samples.now c.deref.result.now c.deref-2.result.now
    (c.deref.ensures.value ∙ c.in_ok-two.ensures.left) (c.deref-2.ensures.value ∙ c.in_ok-two.ensures.right)) c.in_ok-out.ensures
