use Rattle.std.proofs.Common.{◌≡◌, ◌∙◌, ◌+◌, ◌*◌, ℕ, sym, subst, length, inr, Option}
use Rattle.ff_pcm.specs.body.Packets.{body}
use Rattle.ff_pcm.specs.body.Cuts.{ReachesLen}
use Rattle.ff_pcm.proofs.BodyLemmas.CutLaws.{usable_is, reached_is, unreached_is}
use Rattle.ff_pcm.proofs.BodyLemmas.CutState.{goes_of, waiting_of, used_of}
use Rattle.ff_pcm.proofs.body.cut.PcmCut.look.Goals as goal

pub returns-then-self-clause-exact : goal.returns-then-self-clause-exact
returns-then-self-clause-exact c = λ head fed n cuts d.
    let cut = c.args.self.now in
    let w = c.len.ensures ∙ waiting_of cut head fed n cuts d in
    subst (λ (l : Option ℕ). cut.first * cut.block + c.within-usable.result.0 ≡ length (body l fed)) cuts.of_len
    (usable_is cut.len fed (cut.first * cut.block) c.len.result _ c.within-usable.result.1 c.within-usable.ensures.none c.within-usable.ensures.some w (goes_of cut head fed n cuts d).inside)

pub returns-else-self-clause-exact : goal.returns-else-self-clause-exact
returns-else-self-clause-exact c = λ head fed n cuts d.
    let cut = c.args.self.now in
    let w = c.len.ensures ∙ waiting_of cut head fed n cuts d in
    subst (λ (l : Option ℕ). cut.first * cut.block + c.within-usable.result.0 ≡ length (body l fed)) cuts.of_len
    (usable_is cut.len fed (cut.first * cut.block) c.len.result _ c.within-usable.result.1 c.within-usable.ensures.none c.within-usable.ensures.some w (goes_of cut head fed n cuts d).inside)

pub returns-else-self-clause-yes : goal.returns-else-self-clause-yes
returns-else-self-clause-yes c = λ head fed n cuts d t.
    let cut = c.args.self.now in
    let w = c.len.ensures ∙ waiting_of cut head fed n cuts d in
    inr (subst (λ (l : Option ℕ). ReachesLen l fed) cuts.of_len
    (reached_is cut.len fed (cut.first * cut.block) c.len.result c.within-usable.result.0 c.within-usable.result.1 c.within-usable.ensures.none c.within-usable.ensures.some w (used_of cut head fed n cuts d) t))

pub returns-else-self-clause-no : goal.returns-else-self-clause-no
returns-else-self-clause-no c = λ head fed n cuts d f.
    let cut = c.args.self.now in
    let w = c.len.ensures ∙ waiting_of cut head fed n cuts d in (
      c.if-self.false,
      λ r. unreached_is cut.len fed (cut.first * cut.block) c.len.result c.within-usable.result.0 c.within-usable.result.1 c.within-usable.ensures.none c.within-usable.ensures.some w f
          (subst (λ (l : Option ℕ). ReachesLen l fed) (sym cuts.of_len) r),
    )
