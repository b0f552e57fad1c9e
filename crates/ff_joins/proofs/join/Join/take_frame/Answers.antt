use Rattle.std.proofs.Common.{◌≡◌, ◌<◌, ◌≤◌, ℕ, List, length, arith, subst}
use Rattle.ff_filter.specs.declared.after.After.{After}
use Rattle.ff_joins.specs.declared.sound_inlet.SoundInlet.{SoundInlet}
use Rattle.ff_joins.specs.laws.Lots.{lots}
use Rattle.ff_joins.specs.laws.JoinDrawing.{StandsSo}
use Rattle.ff_joins.proofs.Decisions.{next_whole, next_last, next_end, next_lost, next_none, rest_end, rest_lost, waits_there}
use Rattle.ff_joins.proofs.join.Join.take_frame.Goals as goal

pub give-requires-clause-next : goal.give-requires-clause-next
give-requires-clause-next c =
    let count = c.fewest-count.result in
    let least = subst (λ (js : List SoundInlet). (p : ℕ) → p < length js → count ≤ (lots js p).count) c.as_slice.ensures.value c.fewest-count.ensures.least in
    next_whole c.args.self.now (λ p lt. let l = least p lt in omega (arith, l))

pub close-requires-clause-last : goal.close-requires-clause-last
close-requires-clause-last c =
    let m = c.args.self.now in
    let count = c.fewest-count.result in
    let least = subst (λ (js : List SoundInlet). (p : ℕ) → p < length js → count ≤ (lots js p).count) c.as_slice.ensures.value c.fewest-count.ensures.least in
    let there = subst (λ (js : List SoundInlet). (p : ℕ) × (p < length js) × ((lots js p).count ≡ count)) c.as_slice.ensures.value c.fewest-count.ensures.there in
    let so = subst (λ (a : After). StandsSo m count a) c.in-Broke.is c.standing.ensures in
    rest_lost m c.requires.more c.requires.open (next_lost m count least there so (omega arith))

pub close-requires-then-count-eq0-clause-last : goal.close-requires-then-count-eq0-clause-last
close-requires-then-count-eq0-clause-last c =
    let m = c.args.self.now in
    let count = c.fewest-count.result in
    let least = subst (λ (js : List SoundInlet). (p : ℕ) → p < length js → count ≤ (lots js p).count) c.as_slice.ensures.value c.fewest-count.ensures.least in
    let so = subst (λ (a : After). StandsSo m count a) c.in-Whole.is c.standing.ensures in
    rest_end m c.requires.more c.requires.open (next_end m count least so (omega arith))

pub give-requires-else-count-eq0-clause-next : goal.give-requires-else-count-eq0-clause-next
give-requires-else-count-eq0-clause-next c =
    let m = c.args.self.now in
    let count = c.fewest-count.result in
    let least = subst (λ (js : List SoundInlet). (p : ℕ) → p < length js → count ≤ (lots js p).count) c.as_slice.ensures.value c.fewest-count.ensures.least in
    let so = subst (λ (a : After). StandsSo m count a) c.in-Whole.is c.standing.ensures in
    next_last m count least so (omega arith) (omega arith)

pub returns-in-More-clause-waits : goal.returns-in-More-clause-waits
returns-in-More-clause-waits c e =
    let m = c.args.self.now in
    let count = c.fewest-count.result in
    let least = subst (λ (js : List SoundInlet). (p : ℕ) → p < length js → count ≤ (lots js p).count) c.as_slice.ensures.value c.fewest-count.ensures.least in
    let so = subst (λ (a : After). StandsSo m count a) c.in-More.is c.standing.ensures in
    waits_there m c.requires.more c.requires.open (next_none m count least so (omega arith))
