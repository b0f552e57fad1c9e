use Rattle.std.proofs.Common.{rules, ◌≡◌, ◌*◌, ◌^◌, ◌+ℤ◌, ◌<ℤ◌, pos, ℤ, List, Option, refl, sym, ap, ◌∙◌, subst, take, FitsSigned, w64}
use Rattle.std.proofs.lemmas.Int.{to_z-of_z}
use Rattle.ff_frame.specs.declared.audio.AFrame.{AFrame}
use Rattle.ff_frame.specs.Audio.{IsAudio}
use Rattle.ff_frame.specs.Frame.{audio_frame}
use Rattle.ff_flac_enc.specs.declared.format.Format.{Format}
use Rattle.ff_flac_enc.specs.Gathered.{Holds, IsKept}
use Rattle.ff_flac_enc.proofs.GatherLemmas.{kept_less, block_sound}
use Rattle.ff_flac_enc.proofs.GatherState.{gives, none_due, some_due, due_as}
use Rattle.ff_flac_enc.proofs.blocks.Blocks.pull.Goals as goal

pub returns-then-count-eq0-clause-none : goal.returns-then-count-eq0-clause-none
returns-then-count-eq0-clause-none c = λ fed n cuts e.
    let due = due_as _ _ _ _ _ _ (ap (λ k. 4096 * k) c.from-full.ensures) c.len.ensures c.size_due-count.ensures.is in
    none_due c.args.self.now fed n c.size_due-count.result c.in-Some.format c.in-Some.is cuts due c.if-count-eq0.true

pub returns-in_err-next-clause-wanted : goal.returns-in_err-next-clause-wanted
returns-in_err-next-clause-wanted c = λ fed n cuts all.
    let due = due_as _ _ _ _ _ _ (ap (λ k. 4096 * k) c.from-full.ensures) c.len.ensures c.size_due-count.ensures.is in
    absurd (some_due c.args.self.now fed n c.size_due-count.result c.in-Some.format c.in-Some.is cuts due c.if-count-eq0.false all)

pub invariant_of-self : goal.invariant_of-self
invariant_of-self c = record {
  sound =
      let due = due_as _ _ _ _ _ _ (ap (λ k. 4096 * k) c.from-full.ensures) c.len.ensures c.size_due-count.ensures.is in
      let kept : IsKept c.in-Some.format c.args.self.now.waiting = subst (λ (o : Option Format). Holds o c.args.self.now.waiting) c.in-Some.is c.args.self.now.sound in
      subst (λ (o : Option Format). Holds o c.skip.new.self) (sym c.in-Some.is) (kept_less c.in-Some.format c.args.self.now.waiting c.skip.new.self c.size_due-count.result _ kept due c.skip.ensures);
}

pub returns-clause-gives : goal.returns-clause-gives
returns-clause-gives c = λ fed n cuts b e.
    let due = due_as _ _ _ _ _ _ (ap (λ k. 4096 * k) c.from-full.ensures) c.len.ensures c.size_due-count.ensures.is in
    let f : FitsSigned w64 c.later-self.result = search rules in
    let format = c.in-Some.format in
    let b_is : b ≡ audio_frame c.args.self.now.pts format.rate format.bits format.channels (take c.size_due-count.result c.args.self.now.waiting) =
    let same : b ≡ c.in_ok-next.next = cc in
    let at : FitsSigned w64 c.args.self.now.pts = search rules in
    same ∙ (c.in_ok-next.ensures ∙ (ap (λ (p : ℤ). audio_frame p format.rate format.bits format.channels c.front.result.now) (to_z-of_z w64 c.args.self.now.pts at)
    ∙ ap (λ (xs : List ℤ). audio_frame c.args.self.now.pts format.rate format.bits format.channels xs) c.front.ensures)) in
    gives c.args.self.now _ fed n c.size_due-count.result b format c.in-Some.is cuts due c.if-count-eq0.false refl refl c.skip.ensures
    (λ fits.
    let at : FitsSigned w64 c.args.self.now.pts = search rules in
    let same = to_z-of_z w64 c.args.self.now.pts at in
    to_z-of_z w64 c.later-self.result f ∙ (c.later-self.ensures (subst (λ (p : ℤ). (p +ℤ pos 4096) <ℤ pos (2 ^ 63)) (sym same) fits) ∙ ap (λ (p : ℤ). p +ℤ pos 4096) same)) b_is

pub returns-clause-wanted : goal.returns-clause-wanted
returns-clause-wanted c = λ fed n cuts all.
    let due = due_as _ _ _ _ _ _ (ap (λ k. 4096 * k) c.from-full.ensures) c.len.ensures c.size_due-count.ensures.is in
    absurd (some_due c.args.self.now fed n c.size_due-count.result c.in-Some.format c.in-Some.is cuts due c.if-count-eq0.false all)

pub returns-clause-sound : goal.returns-clause-sound
returns-clause-sound c = λ b e.
    let due = due_as _ _ _ _ _ _ (ap (λ k. 4096 * k) c.from-full.ensures) c.len.ensures c.size_due-count.ensures.is in
    let format = c.in-Some.format in
    let kept : IsKept format c.args.self.now.waiting = subst (λ (o : Option Format). Holds o c.args.self.now.waiting) c.in-Some.is c.args.self.now.sound in
    let b_is : b ≡ audio_frame c.args.self.now.pts format.rate format.bits format.channels (take c.size_due-count.result c.args.self.now.waiting) =
    let same : b ≡ c.in_ok-next.next = cc in
    let at : FitsSigned w64 c.args.self.now.pts = search rules in
    same ∙ (c.in_ok-next.ensures ∙ (ap (λ (p : ℤ). audio_frame p format.rate format.bits format.channels c.front.result.now) (to_z-of_z w64 c.args.self.now.pts at)
    ∙ ap (λ (xs : List ℤ). audio_frame c.args.self.now.pts format.rate format.bits format.channels xs) c.front.ensures)) in
    subst (λ (x : AFrame). IsAudio x.bits x.channels x.samples) (sym b_is) (block_sound format c.args.self.now.waiting c.size_due-count.result _ kept due c.if-count-eq0.false)
