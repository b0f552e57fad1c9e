-- An item that was taken from one machine and isn't fed to the next yet.
use Rattle.std.specs.Prelude.{Bool, false, Option, Some, None}
use Rattle.ff_stream.specs.declared.item.Item.{Item}
use Rattle.ff_stream.specs.Stream.{LiesBelow}
use Rattle.ff_filter.specs.Joins.{Flow, one, before, joined_keeps}
use Rattle.ff_filter.specs.Views.{closes}

abbrev pub after_held : Option Item → Flow → Flow
after_held None s = s
after_held (Some x) s = before x s

abbrev pub held_closes : Option Item → Bool
held_closes None = false
held_closes (Some x) = closes x

pub held_keeps : (held : Option Item) (r s : Flow) → LiesBelow r s → LiesBelow (after_held held r) (after_held held s)
held_keeps None r s h = h
held_keeps (Some x) r s h = joined_keeps (one x) r s h
