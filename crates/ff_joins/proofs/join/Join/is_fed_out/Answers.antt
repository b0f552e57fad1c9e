use Rattle.std.proofs.Common.{◌≡◌, ◌<◌, ◌≤◌, ◌∙◌, ℕ, List, length, sym, subst}
use Rattle.ff_joins.specs.declared.sound_inlet.SoundInlet.{SoundInlet}
use Rattle.ff_joins.specs.laws.Lots.{lots}
use Rattle.ff_joins.proofs.Cuts.{fed_over, fed_open, have_frames}
use Rattle.ff_joins.proofs.join.Join.is_fed_out.Goals as goal

pub returns-then-is_over : goal.returns-then-is_over
returns-then-is_over c =
    let count = c.fewest-count.result in
    fed_over c.args.self.now count
    (subst (λ (js : List SoundInlet). (p : ℕ) → p < length js → count ≤ (lots js p).count) c.as_slice.ensures.value c.fewest-count.ensures.least)
    (subst (λ (js : List SoundInlet). (p : ℕ) × (p < length js) × ((lots js p).count ≡ count)) c.as_slice.ensures.value c.fewest-count.ensures.there)
    c.standing-standing.result c.standing-standing.ensures (sym c.is_over.ensures ∙ c.if-is_over.true)

pub is_cut-requires : goal.is_cut-requires
is_cut-requires c =
    let count = c.fewest-count.result in
    have_frames c.args.self.now count
    (subst (λ (js : List SoundInlet). (p : ℕ) → p < length js → count ≤ (lots js p).count) c.as_slice.ensures.value c.fewest-count.ensures.least)
    (subst (λ (js : List SoundInlet). (p : ℕ) × (p < length js) × ((lots js p).count ≡ count)) c.as_slice.ensures.value c.fewest-count.ensures.there)

pub returns : goal.returns
returns c =
    let count = c.fewest-count.result in
    c.is_cut.ensures
    ∙ fed_open c.args.self.now count
    (subst (λ (js : List SoundInlet). (p : ℕ) → p < length js → count ≤ (lots js p).count) c.as_slice.ensures.value c.fewest-count.ensures.least)
    (subst (λ (js : List SoundInlet). (p : ℕ) × (p < length js) × ((lots js p).count ≡ count)) c.as_slice.ensures.value c.fewest-count.ensures.there)
    c.standing-standing.result c.standing-standing.ensures (sym c.is_over.ensures ∙ c.if-is_over.false)
