use Rattle.std.proofs.Common.{◌≡◌, ◌∙◌, ◌*◌, ◌/◌, ◌<◌, ap, take, refl, arith}
use Rattle.ff_pcm.proofs.BodyLemmas.CutLaws.{made}
use Rattle.ff_pcm.proofs.BodyLemmas.CutState.{whole_gives, short_gives, none_left, over_left, less_than_one, one_or_more, not_ended}
use Rattle.ff_pcm.proofs.body.cut.PcmCutPacketCut.pull.Goals as goal

pub returns-then-self-clause-ends : goal.returns-then-self-clause-ends
returns-then-self-clause-ends c = λ e head fed n cuts more rest. (over_left c.args.self.now head fed n cuts c.if-self.true more rest, refl)

pub returns-in_err-p-clause-wanted : goal.returns-in_err-p-clause-wanted
returns-in_err-p-clause-wanted c = λ head fed n cuts going more lt.
    absurd (one_or_more c.args.self.now head fed n c.look-usable.result.0 cuts c.if-self.false (c.look-usable.ensures.exact head fed n cuts c.if-self.false) c.if-usable-self.true lt)

pub returns-then-usable-self-clause-gives : goal.returns-then-usable-self-clause-gives
returns-then-usable-self-clause-gives c = λ p e head fed n cuts.
    let cut = c.args.self.now in
    let p_is : p ≡ made cut.head.start cut.block cut.first 1024 (take (1024 * cut.block) cut.held.bytes) =
    let same : p ≡ c.in_ok-p.p = cc in
    same ∙ (c.in_ok-p.ensures ∙ ap (λ xs. made cut.head.start cut.block cut.first 1024 (take (1024 * cut.block) xs)) c.as_slice.ensures) in
    whole_gives cut _ head fed n c.look-usable.result.0 p cuts c.if-self.false cut.some (c.look-usable.ensures.exact head fed n cuts c.if-self.false) c.if-usable-self.true
    refl refl refl refl refl c.skip.ensures.bytes p_is

pub returns-then-usable-self-clause-wanted : goal.returns-then-usable-self-clause-wanted
returns-then-usable-self-clause-wanted c = λ head fed n cuts going more lt.
    absurd (one_or_more c.args.self.now head fed n c.look-usable.result.0 cuts c.if-self.false (c.look-usable.ensures.exact head fed n cuts c.if-self.false) c.if-usable-self.true lt)

pub returns-then-not-body_ended-clause-undecided : goal.returns-then-not-body_ended-clause-undecided
returns-then-not-body_ended-clause-undecided c = λ head fed n cuts e.
    let rest = c.look-usable.ensures.no head fed n cuts c.if-self.false c.if-not-body_ended.true in
    (rest.1, less_than_one c.args.self.now head fed n c.look-usable.result.0 cuts c.if-self.false (c.look-usable.ensures.all c.if-not-body_ended.true).0 c.if-usable-self.false)

pub returns-then-count-eq0-clause-ends : goal.returns-then-count-eq0-clause-ends
returns-then-count-eq0-clause-ends c = λ e head fed n cuts more rest.
    let cut = c.args.self.now in
    let d = c.if-self.false in
    (none_left cut head fed n c.look-usable.result.0 cuts d cut.some (c.look-usable.ensures.exact head fed n cuts d) (c.look-usable.ensures.yes head fed n cuts d c.if-not-body_ended.false) c.if-count-eq0.true more rest, refl)

pub returns-then-count-eq0-clause-wanted : goal.returns-then-count-eq0-clause-wanted
returns-then-count-eq0-clause-wanted c = λ head fed n cuts going more lt.
    absurd (not_ended c.args.self.now head fed (c.look-usable.ensures.yes head fed n cuts c.if-self.false c.if-not-body_ended.false) going more)

pub returns-in_err-p-2-clause-wanted : goal.returns-in_err-p-2-clause-wanted
returns-in_err-p-2-clause-wanted c = λ head fed n cuts going more lt.
    absurd (not_ended c.args.self.now head fed (c.look-usable.ensures.yes head fed n cuts c.if-self.false c.if-not-body_ended.false) going more)

pub returns-clause-gives : goal.returns-clause-gives
returns-clause-gives c = λ p e head fed n cuts.
    let cut = c.args.self.now in
    let d = c.if-self.false in
    let usable = c.look-usable.result.0 in
    let size = usable / cut.block * cut.block in
    let p_is : p ≡ made cut.head.start cut.block cut.first (usable / cut.block) (take size cut.held.bytes) =
    let same : p ≡ c.in_ok-p-2.p = cc in
    same ∙ (c.in_ok-p-2.ensures ∙ ap (λ xs. made cut.head.start cut.block cut.first (usable / cut.block) (take size xs)) c.as_slice-2.ensures) in
    let some : 0 < usable / cut.block = omega (arith, c.if-count-eq0.false) in
    short_gives cut _ head fed n usable p cuts d cut.some (c.look-usable.ensures.exact head fed n cuts d) c.if-usable-self.false
    (c.look-usable.ensures.yes head fed n cuts d c.if-not-body_ended.false) some refl refl refl refl refl p_is

pub returns-clause-wanted : goal.returns-clause-wanted
returns-clause-wanted c = λ head fed n cuts going more lt.
    absurd (not_ended c.args.self.now head fed (c.look-usable.ensures.yes head fed n cuts c.if-self.false c.if-not-body_ended.false) going more)
