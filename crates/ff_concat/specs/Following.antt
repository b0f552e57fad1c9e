-- One stream and then another.
use Rattle.std.specs.Prelude.{List, ◌++◌}
use Rattle.ff_stream.specs.declared.item.Item.{Item}
use Rattle.ff_stream.specs.Stream.{Mark, still_open, whole, broken}
use Rattle.ff_filter.specs.Joins.{Flow}

-- s, and where it is whole, then t
abbrev pub followed_at : List Item → Mark → Flow → Flow
followed_at xs still_open t = record { items = xs; mark = still_open }
followed_at xs whole t = record { items = xs ++ t.items; mark = t.mark }
followed_at xs broken t = record { items = xs; mark = broken }

abbrev pub followed : Flow → Flow → Flow
followed s t = followed_at s.items s.mark t

-- these items, and then t
abbrev pub led_by : List Item → Flow → Flow
led_by xs t = followed_at xs whole t
