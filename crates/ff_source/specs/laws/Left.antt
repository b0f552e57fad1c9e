-- The frames that a source filter has still to give.
use Rattle.std.specs.Prelude.{◌-◌, List}
use Rattle.ff_stream.specs.declared.item.Item.{Item}
use Rattle.ff_source.specs.declared.source.GenSource.{GenSource}
use Rattle.ff_source.specs.Numbered.{numbered}
use Rattle.ff_source.specs.Sources.{count_of, frame_of}

abbrev pub left : GenSource → List Item
left source = numbered (frame_of source.made) source.given (count_of source.made - source.given)
