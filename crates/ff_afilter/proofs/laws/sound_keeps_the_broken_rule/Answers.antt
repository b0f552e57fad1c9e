use Rattle.std.proofs.Common.{List, None, false, map, refl}
use Rattle.ff_stream.specs.declared.item.Item.{Item}
use Rattle.ff_stream.specs.Lanes.{IsValid}
use Rattle.ff_stream.specs.Stream.{Mark}
use Rattle.ff_filter.specs.Joins.{Flow}
use Rattle.ff_filter.specs.lasting.Lastings.{lasting}
use Rattle.ff_filter.specs.Shifts.{from_first}
use Rattle.ff_filter.proofs.SpreadLemmas.OneRule.{one_keeps_rule, valid_ended}
use Rattle.ff_afilter.specs.Channels.{channel_item}
use Rattle.ff_afilter.specs.Trims.{kept_all, reaches, first_kept}
use Rattle.ff_afilter.proofs.laws.sound_keeps_the_broken_rule.Goals as goal

pub returns-clause-same : goal.returns-clause-same
returns-clause-same c lane = one_keeps_rule (λ (m : Mark) (xs : List Item). xs) (λ (xs : List Item). false) (λ m xs. refl) (λ (s : Flow). IsValid lane s) (valid_ended lane)

pub returns-clause-shifted : goal.returns-clause-shifted
returns-clause-shifted c lane = one_keeps_rule (λ (m : Mark) (xs : List Item). from_first None xs) (λ (xs : List Item). false) (λ m xs. refl) (λ (s : Flow). IsValid lane s) (valid_ended lane)

pub returns-clause-trimmed : goal.returns-clause-trimmed
returns-clause-trimmed c lane range = one_keeps_rule (λ (m : Mark) (xs : List Item). kept_all range xs) (λ (xs : List Item). reaches range xs) (λ m xs. refl) (λ (s : Flow). IsValid lane s) (valid_ended lane)

pub returns-clause-lasting : goal.returns-clause-lasting
returns-clause-lasting c lane range ticks =
    one_keeps_rule (λ (m : Mark) (xs : List Item). kept_all (lasting range ticks (first_kept range.start xs)) xs)
    (λ (xs : List Item). reaches (lasting range ticks (first_kept range.start xs)) xs) (λ m xs. refl) (λ (s : Flow). IsValid lane s) (valid_ended lane)

pub returns-clause-channel : goal.returns-clause-channel
returns-clause-channel c lane q = one_keeps_rule (λ (m : Mark) (xs : List Item). map (channel_item q) xs) (λ (xs : List Item). false) (λ m xs. refl) (λ (s : Flow). IsValid lane s) (valid_ended lane)
