use Rattle.std.proofs.Common.{◌≡◌, ◌∙◌, ℤ, List, length, map, get_or, sym, ap, subst, arith}
use Rattle.std.specs.List.{AllByRecursion}
use Rattle.std.proofs.lemmas.Result.{err_from_is_err_and}
use Rattle.std.proofs.lemmas.List.{length-map}
use Rattle.ff_flac_frame.specs.declared.subframe.Subframe.{Subframe}
use Rattle.ff_flac_frame.specs.laws.Facts.{IsPart}
use Rattle.ff_flac_frame.specs.laws.Parts.{part_of, frame_of}
use Rattle.ff_flac_dec.specs.Values.{channel_samples}
use Rattle.ff_flac_dec.specs.Channels.{IsCoded, AllChannels, interleaved}
use Rattle.ff_flac_dec.proofs.FrameLemmas.{frame_alone, channels_alone, within_alone, alone_within, frame_two, pair_parts, frame_first, frame_second, channels_joint, within_joint, first_within, second_within, joint_within}
use Rattle.ff_flac_dec.proofs.sound.samples.Goals as goal

pub separate-requires-clause-parts : goal.separate-requires-clause-parts
separate-requires-clause-parts c =
    subst (λ (ss : List Subframe). AllByRecursion (IsPart c.args.frame.now.block c.args.stream.now.bits) (map part_of ss)) (sym c.as_slice-subframes.ensures) (frame_alone c.args.stream.now (frame_of 0 c.args.frame.now) c.requires.frame c.if-frame-lt8.true)

pub returns-in_err-alone-clause-out : goal.returns-in_err-alone-clause-out
returns-in_err-alone-clause-out c =
    let p = err_from_is_err_and c.from_residual.result c.from_residual.ensures.1 in
    rw (p.1, p.2) (λ k w. c.in_err-alone.ensures.out k
    (subst (λ (ss : List Subframe). AllByRecursion (IsCoded c.args.frame.now.block c.args.stream.now.bits) (map part_of ss)) (sym c.as_slice-subframes.ensures) (alone_within c.args.stream.now (frame_of 0 c.args.frame.now) c.requires.frame c.if-frame-lt8.true w)))

pub returns-then-frame-lt8-clause-ok : goal.returns-then-frame-lt8-clause-ok
returns-then-frame-lt8-clause-ok c =
    c.in_ok-alone.ensures.ok ∙ ap (λ (m : List (List ℤ)). interleaved c.args.frame.now.block m) (ap (λ (ss : List Subframe). map (channel_samples c.args.frame.now.block) (map part_of ss)) c.as_slice-subframes.ensures ∙ sym (channels_alone c.args.stream.now (frame_of 0 c.args.frame.now) c.requires.frame c.if-frame-lt8.true))

pub returns-then-frame-lt8-clause-within : goal.returns-then-frame-lt8-clause-within
returns-then-frame-lt8-clause-within c =
    within_alone c.args.stream.now (frame_of 0 c.args.frame.now) c.requires.frame c.if-frame-lt8.true
    (subst (λ (ss : List Subframe). AllByRecursion (IsCoded c.args.frame.now.block c.args.stream.now.bits) (map part_of ss)) c.as_slice-subframes.ensures c.in_ok-alone.ensures.coded)
    (subst (λ (ss : List Subframe). AllChannels c.args.stream.now.bits (map (channel_samples c.args.frame.now.block) (map part_of ss))) c.as_slice-subframes.ensures c.in_ok-alone.ensures.within)

pub bounds-subframes-0 : goal.bounds-subframes-0
bounds-subframes-0 c =
    let two : length (map part_of c.args.frame.now.subframes) ≡ 2 = frame_two c.args.stream.now (frame_of 0 c.args.frame.now) c.requires.frame c.if-frame-lt8.false in
    omega (arith, two, length-map c.args.frame.now.subframes part_of, ap length c.as_slice-subframes.ensures)

pub bounds-subframes-1 : goal.bounds-subframes-1
bounds-subframes-1 c =
    let two : length (map part_of c.args.frame.now.subframes) ≡ 2 = frame_two c.args.stream.now (frame_of 0 c.args.frame.now) c.requires.frame c.if-frame-lt8.false in
    omega (arith, two, length-map c.args.frame.now.subframes part_of, ap length c.as_slice-subframes.ensures)

pub joint-requires-clause-first : goal.joint-requires-clause-first
joint-requires-clause-first c =
    let h = c.requires.frame in
    let e = pair_parts c.args.frame.now.subframes c.index-subframes-0.result c.index-subframes-1.result (frame_two c.args.stream.now (frame_of 0 c.args.frame.now) h c.if-frame-lt8.false) (c.index-subframes-0.is ∙ ap (λ (ss : List Subframe). get_or ss 0 c.index-subframes-0.result) c.as_slice-subframes.ensures) (c.index-subframes-1.is ∙ ap (λ (ss : List Subframe). get_or ss 1 c.index-subframes-1.result) c.as_slice-subframes.ensures) in
    frame_first c.args.stream.now (frame_of 0 c.args.frame.now) h (part_of c.index-subframes-0.result) (part_of c.index-subframes-1.result) e c.if-frame-lt8.false

pub joint-requires-clause-second : goal.joint-requires-clause-second
joint-requires-clause-second c =
    let h = c.requires.frame in
    let e = pair_parts c.args.frame.now.subframes c.index-subframes-0.result c.index-subframes-1.result (frame_two c.args.stream.now (frame_of 0 c.args.frame.now) h c.if-frame-lt8.false) (c.index-subframes-0.is ∙ ap (λ (ss : List Subframe). get_or ss 0 c.index-subframes-0.result) c.as_slice-subframes.ensures) (c.index-subframes-1.is ∙ ap (λ (ss : List Subframe). get_or ss 1 c.index-subframes-1.result) c.as_slice-subframes.ensures) in
    frame_second c.args.stream.now (frame_of 0 c.args.frame.now) h (part_of c.index-subframes-0.result) (part_of c.index-subframes-1.result) e c.if-frame-lt8.false

pub returns-in_err-both-clause-out : goal.returns-in_err-both-clause-out
returns-in_err-both-clause-out c =
    let p = err_from_is_err_and c.from_residual-in_err-both.result c.from_residual-in_err-both.ensures.1 in
    let h = c.requires.frame in
    let e = pair_parts c.args.frame.now.subframes c.index-subframes-0.result c.index-subframes-1.result (frame_two c.args.stream.now (frame_of 0 c.args.frame.now) h c.if-frame-lt8.false) (c.index-subframes-0.is ∙ ap (λ (ss : List Subframe). get_or ss 0 c.index-subframes-0.result) c.as_slice-subframes.ensures) (c.index-subframes-1.is ∙ ap (λ (ss : List Subframe). get_or ss 1 c.index-subframes-1.result) c.as_slice-subframes.ensures) in
    rw (p.1, p.2) (λ k w. c.in_err-both.ensures.out k
    (first_within c.args.stream.now (frame_of 0 c.args.frame.now) h (part_of c.index-subframes-0.result) (part_of c.index-subframes-1.result) e c.if-frame-lt8.false w)
    (second_within c.args.stream.now (frame_of 0 c.args.frame.now) h (part_of c.index-subframes-0.result) (part_of c.index-subframes-1.result) e c.if-frame-lt8.false w)
    (joint_within c.args.stream.now (frame_of 0 c.args.frame.now) h (part_of c.index-subframes-0.result) (part_of c.index-subframes-1.result) e c.if-frame-lt8.false w))

pub returns-clause-ok : goal.returns-clause-ok
returns-clause-ok c =
    let h = c.requires.frame in
    let e = pair_parts c.args.frame.now.subframes c.index-subframes-0.result c.index-subframes-1.result (frame_two c.args.stream.now (frame_of 0 c.args.frame.now) h c.if-frame-lt8.false) (c.index-subframes-0.is ∙ ap (λ (ss : List Subframe). get_or ss 0 c.index-subframes-0.result) c.as_slice-subframes.ensures) (c.index-subframes-1.is ∙ ap (λ (ss : List Subframe). get_or ss 1 c.index-subframes-1.result) c.as_slice-subframes.ensures) in
    c.in_ok-both.ensures.ok ∙ ap (λ (m : List (List ℤ)). interleaved c.args.frame.now.block m) (sym (channels_joint c.args.stream.now (frame_of 0 c.args.frame.now) h (part_of c.index-subframes-0.result) (part_of c.index-subframes-1.result) e c.if-frame-lt8.false))

pub returns-clause-within : goal.returns-clause-within
returns-clause-within c =
    let h = c.requires.frame in
    let e = pair_parts c.args.frame.now.subframes c.index-subframes-0.result c.index-subframes-1.result (frame_two c.args.stream.now (frame_of 0 c.args.frame.now) h c.if-frame-lt8.false) (c.index-subframes-0.is ∙ ap (λ (ss : List Subframe). get_or ss 0 c.index-subframes-0.result) c.as_slice-subframes.ensures) (c.index-subframes-1.is ∙ ap (λ (ss : List Subframe). get_or ss 1 c.index-subframes-1.result) c.as_slice-subframes.ensures) in
    within_joint c.args.stream.now (frame_of 0 c.args.frame.now) h (part_of c.index-subframes-0.result) (part_of c.index-subframes-1.result) e c.if-frame-lt8.false c.in_ok-both.ensures.first c.in_ok-both.ensures.second c.in_ok-both.ensures.within
