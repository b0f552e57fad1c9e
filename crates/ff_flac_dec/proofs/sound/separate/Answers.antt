use Rattle.std.proofs.Common.{◌≡◌, ◌∙◌, ℕ, ℤ, List, [], ◌∷◌, length, map, ap, subst, sym, arith}
use Rattle.std.specs.Prelude.{IfOk}
use Rattle.std.specs.List.{AllByRecursion}
use Rattle.std.proofs.lemmas.List.{length-map}
use Rattle.ff_flac_frame.specs.Frame.{Part}
use Rattle.ff_flac_frame.specs.laws.Facts.{IsPart}
use Rattle.ff_flac_frame.specs.laws.Parts.{part_of}
use Rattle.ff_flac_dec.specs.Values.{channel_samples}
use Rattle.ff_flac_dec.specs.Channels.{interleaved}
use Rattle.ff_flac_dec.proofs.ChannelLemmas.{length-channel}
use Rattle.ff_flac_dec.proofs.SoundLemmas.{interleaved_one}
use Rattle.ff_flac_dec.proofs.FrameLemmas.{only_part, pair_parts}
use Rattle.ff_flac_dec.proofs.sound.separate.Goals as goal

pub samples_of-requires-clause-part : goal.samples_of-requires-clause-part
samples_of-requires-clause-part c =
    let e = only_part c.args.subframes.now c.only-item.result (omega (arith, c.in-len1.len_at_least, c.in-len1.len_below)) c.only-item.is in
    (subst (λ (ps : List Part). AllByRecursion (IsPart c.args.block c.args.depth) ps) e c.requires.parts).0

pub returns-in-len1-clause-ok : goal.returns-in-len1-clause-ok
returns-in-len1-clause-ok c =
    let block = c.args.block in
    let e = only_part c.args.subframes.now c.only-item.result (omega (arith, c.in-len1.len_at_least, c.in-len1.len_below)) c.only-item.is in
    let parts = subst (λ (ps : List Part). AllByRecursion (IsPart block c.args.depth) ps) e c.requires.parts in
    let xs : List ℤ = channel_samples block (part_of c.only-item.result) in
    let alone : interleaved block (xs ∷ []) ≡ xs = interleaved_one block xs (length-channel block c.args.depth (part_of c.only-item.result) parts.0) in
    subst (λ (ps : List Part). IfOk c.samples_of.result (λ v. v.items ≡ interleaved block (map (channel_samples block) ps))) (sym e)
    (subst (λ (zs : List ℤ). IfOk c.samples_of.result (λ v. v.items ≡ zs)) (sym alone) c.samples_of.ensures.ok)

pub interleave_two-requires : goal.interleave_two-requires
interleave_two-requires c =
    let block = c.args.block in
    let two : length (map part_of c.args.subframes.now) ≡ 2 = omega (arith, length-map c.args.subframes.now part_of, c.in-len2.len_at_least, c.in-len2.len_below) in
    let e = pair_parts c.args.subframes.now c.first-item.result c.second-item.result two c.first-item.is c.second-item.is in
    let parts = subst (λ (ps : List Part). AllByRecursion (IsPart block c.args.depth) ps) e c.requires.parts in
    let one : length c.in-Some.one.now ≡ block = ap length (c.in-Some.ensures.samples block) ∙ length-channel block c.args.depth (part_of c.first-item.result) parts.0 in
    let other : length c.in-Some-kept.other.now ≡ block = ap length (c.in-Some-kept.ensures.samples block) ∙ length-channel block c.args.depth (part_of c.second-item.result) parts.1.0 in
    one ∙ sym other

pub returns-clause-ok : goal.returns-clause-ok
returns-clause-ok c =
    let block = c.args.block in
    let two : length (map part_of c.args.subframes.now) ≡ 2 = omega (arith, length-map c.args.subframes.now part_of, c.in-len2.len_at_least, c.in-len2.len_below) in
    let e = pair_parts c.args.subframes.now c.first-item.result c.second-item.result two c.first-item.is c.second-item.is in
    let parts = subst (λ (ps : List Part). AllByRecursion (IsPart block c.args.depth) ps) e c.requires.parts in
    let xs : List ℤ = channel_samples block (part_of c.first-item.result) in
    let ys : List ℤ = channel_samples block (part_of c.second-item.result) in
    let xs_are : c.in-Some.one.now ≡ xs = c.in-Some.ensures.samples block in
    let ys_are : c.in-Some-kept.other.now ≡ ys = c.in-Some-kept.ensures.samples block in
    let len : length xs ≡ block = length-channel block c.args.depth (part_of c.first-item.result) parts.0 in
    subst (λ (ps : List Part). IfOk c.interleave_two.result (λ v. v.items ≡ interleaved block (map (channel_samples block) ps))) (sym e)
    (subst (λ (n : ℕ). IfOk c.interleave_two.result (λ v. v.items ≡ interleaved n (xs ∷ ys ∷ []))) len
    (subst (λ (zs : List ℤ). IfOk c.interleave_two.result (λ v. v.items ≡ interleaved (length xs) (xs ∷ zs ∷ []))) ys_are
    (subst (λ (zs : List ℤ). IfOk c.interleave_two.result (λ v. v.items ≡ interleaved (length zs) (zs ∷ c.in-Some-kept.other.now ∷ []))) xs_are c.interleave_two.ensures.ok)))
