use Rattle.std.proofs.Common.{◌≡◌, ◌∙◌, ℕ, ℤ, List, length, ap, subst, sym, arith}
use Rattle.std.specs.Prelude.{IfOk}
use Rattle.ff_flac_frame.specs.laws.Parts.{part_of}
use Rattle.ff_flac_frame.proofs.PredictionLemmas.{all_wider}
use Rattle.ff_flac_dec.specs.Values.{channel_samples}
use Rattle.ff_flac_dec.specs.Channels.{left_right, interleaved}
use Rattle.ff_flac_dec.proofs.ChannelLemmas.{length-channel}
use Rattle.ff_flac_dec.proofs.sound.joint.Goals as goal

pub left_and_right-requires-clause-same : goal.left_and_right-requires-clause-same
left_and_right-requires-clause-same c =
    let block = c.args.block in
    let one : length c.in-Some.one.now ≡ block = ap length (c.in-Some.ensures.samples block) ∙ length-channel block _ (part_of c.args.first.now) c.requires.first in
    let other : length c.in-Some-kept.other.now ≡ block = ap length (c.in-Some-kept.ensures.samples block) ∙ length-channel block _ (part_of c.args.second.now) c.requires.second in
    one ∙ sym other

pub left_and_right-requires-clause-first : goal.left_and_right-requires-clause-first
left_and_right-requires-clause-first c =
    all_wider c.first_depth_of.result 25 c.in-Some.one.now (omega (arith, c.first_depth_of.ensures.bound, c.requires.depth_high)) c.in-Some.ensures.within

pub left_and_right-requires-clause-second : goal.left_and_right-requires-clause-second
left_and_right-requires-clause-second c =
    all_wider c.second_depth_of.result 25 c.in-Some-kept.other.now (omega (arith, c.second_depth_of.ensures.bound, c.requires.depth_high)) c.in-Some-kept.ensures.within

pub returns-clause-ok : goal.returns-clause-ok
returns-clause-ok c =
    let block = c.args.block in
    let form = c.args.form in
    let xs : List ℤ = channel_samples block (part_of c.args.first.now) in
    let ys : List ℤ = channel_samples block (part_of c.args.second.now) in
    let xs_are : c.in-Some.one.now ≡ xs = c.in-Some.ensures.samples block in
    let ys_are : c.in-Some-kept.other.now ≡ ys = c.in-Some-kept.ensures.samples block in
    let len : length xs ≡ block = length-channel block _ (part_of c.args.first.now) c.requires.first in
    subst (λ (n : ℕ). IfOk c.left_and_right.result (λ v. v.items ≡ interleaved n (left_right form xs ys))) len
    (subst (λ (zs : List ℤ). IfOk c.left_and_right.result (λ v. v.items ≡ interleaved (length xs) (left_right form xs zs))) ys_are
    (subst (λ (zs : List ℤ). IfOk c.left_and_right.result (λ v. v.items ≡ interleaved (length zs) (left_right form zs c.in-Some-kept.other.now))) xs_are c.left_and_right.ensures.ok))
