use Rattle.std.proofs.Common.{List, None, false, map, refl}
use Rattle.ff_stream.specs.declared.item.Item.{Item}
use Rattle.ff_stream.specs.Lanes.{IsValid}
use Rattle.ff_stream.specs.Stream.{Mark}
use Rattle.ff_filter.specs.Joins.{Flow}
use Rattle.ff_filter.specs.lasting.Lastings.{stop_that_counts}
use Rattle.ff_filter.specs.Shifts.{from_first}
use Rattle.ff_filter.proofs.SpreadLemmas.OneRule.{one_keeps_rule, valid_ended}
use Rattle.ff_vfilter.specs.Pictures.{with_picture}
use Rattle.ff_vfilter.specs.Trims.{before_stop, reaches, from_start, first_kept}
use Rattle.ff_vfilter.specs.Rates.{evenly, pictures_of}
use Rattle.ff_vfilter.proofs.Evenly.{evenly_blind}
use Rattle.ff_vfilter.proofs.laws.pictures_keep_the_broken_rule.Goals as goal

pub returns-clause-same : goal.returns-clause-same
returns-clause-same c lane = one_keeps_rule (λ (m : Mark) (xs : List Item). xs) (λ (xs : List Item). false) (λ m xs. refl) (λ (s : Flow). IsValid lane s) (valid_ended lane)

pub returns-clause-shifted : goal.returns-clause-shifted
returns-clause-shifted c lane = one_keeps_rule (λ (m : Mark) (xs : List Item). from_first None xs) (λ (xs : List Item). false) (λ m xs. refl) (λ (s : Flow). IsValid lane s) (valid_ended lane)

pub returns-clause-trimmed : goal.returns-clause-trimmed
returns-clause-trimmed c lane range =
    one_keeps_rule (λ (m : Mark) (xs : List Item). from_start range.start (before_stop range.stop xs)) (λ (xs : List Item). reaches range.stop xs) (λ m xs. refl) (λ (s : Flow). IsValid lane s) (valid_ended lane)

pub returns-clause-lasting : goal.returns-clause-lasting
returns-clause-lasting c lane range ticks =
    one_keeps_rule (λ (m : Mark) (xs : List Item). from_start range.start (before_stop (stop_that_counts range.stop ticks (first_kept range.start xs)) xs))
    (λ (xs : List Item). reaches (stop_that_counts range.stop ticks (first_kept range.start xs)) xs) (λ m xs. refl) (λ (s : Flow). IsValid lane s) (valid_ended lane)

pub returns-clause-painted : goal.returns-clause-painted
returns-clause-painted c lane paint = one_keeps_rule (λ (m : Mark) (xs : List Item). map (with_picture paint) xs) (λ (xs : List Item). false) (λ m xs. refl) (λ (s : Flow). IsValid lane s) (valid_ended lane)

pub returns-clause-even : goal.returns-clause-even
returns-clause-even c lane scale =
    one_keeps_rule (λ (m : Mark) (xs : List Item). evenly scale (pictures_of xs) m) (λ (xs : List Item). false) (λ m xs. evenly_blind scale (pictures_of xs) m) (λ (s : Flow). IsValid lane s) (valid_ended lane)
