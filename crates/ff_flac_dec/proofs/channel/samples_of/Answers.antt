use Rattle.std.proofs.Common.{◌≤◌, ◌-◌, ◌^◌, ◌∙◌, List, ℤ, pos, ◌*ℤ◌, map, sym, ap, subst, length, arith}
use Rattle.ff_flac_frame.specs.laws.Parts.{part_of}
use Rattle.ff_flac_frame.specs.Prediction.{AllInDepth}
use Rattle.ff_flac_frame.proofs.PredictionLemmas.{all_wider}
use Rattle.ff_flac_dec.proofs.ChannelLemmas.{raised_channel, raised_length}
use Rattle.ff_flac_dec.proofs.channel.samples_of.Goals as goal

pub with_wasted-requires-clause-within : goal.with_wasted-requires-clause-within
with_wasted-requires-clause-within c =
    let le : c.args.depth - c.args.subframe.now.wasted ≤ 25 - c.args.subframe.now.wasted = omega (arith, c.requires.depth) in
    all_wider (c.args.depth - c.args.subframe.now.wasted) (25 - c.args.subframe.now.wasted) c.in_ok-coded.coded.items le c.in_ok-coded.ensures.within

pub returns-clause-within : goal.returns-clause-within
returns-clause-within c =
    subst (λ (xs : List ℤ). AllInDepth c.args.depth xs) (sym (c.in_ok-samples.ensures.ok ∙ ap (λ (xs : List ℤ). map (λ x. x *ℤ pos (2 ^ c.args.subframe.now.wasted)) xs) c.in_ok-coded.ensures.ok))
    (raised_channel c.args.block c.args.depth (part_of c.args.subframe.now) c.requires.part (subst (λ (xs : List ℤ). AllInDepth (c.args.depth - c.args.subframe.now.wasted) xs) c.in_ok-coded.ensures.ok c.in_ok-coded.ensures.within))

pub returns-clause-len : goal.returns-clause-len
returns-clause-len c =
    ap length (c.in_ok-samples.ensures.ok ∙ ap (λ (xs : List ℤ). map (λ x. x *ℤ pos (2 ^ c.args.subframe.now.wasted)) xs) c.in_ok-coded.ensures.ok) ∙ raised_length c.args.block c.args.depth (part_of c.args.subframe.now) c.requires.part
