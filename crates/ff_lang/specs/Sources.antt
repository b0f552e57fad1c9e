-- Source filters, which make their stream: a graph that has one needs no input.
use Rattle.std.specs.Prelude.{ℕ, Bool, Option, Some, None, List, if◌then◌else◌, codes, is_some}
use Rattle.std.specs.List.{list_any}
use Rattle.std.specs.Str.{bytes_eq}
use Rattle.ff_lang.specs.declared.graph.Chain.{Chain}
use Rattle.ff_lang.specs.declared.graph.Filter.{Filter}
use Rattle.ff_lang.specs.declared.graph.Graph.{Graph}
use Rattle.ff_lang.specs.declared.source.SourceName.{SourceName}
use Rattle.ff_lang.specs.declared.source.SourceName.TheVariants.{Color, ANullSrc}

abbrev pub source_named : List ℕ → Option SourceName
source_named name = if bytes_eq name (codes "color") then Some Color else (if bytes_eq name (codes "anullsrc") then Some ANullSrc else None)

abbrev pub is_source : Filter → Bool
is_source filter = is_some (source_named filter.name)

abbrev pub feeds_itself : Chain → Bool
feeds_itself chain = list_any is_source chain.filters

abbrev pub has_source : Graph → Bool
has_source graph = list_any feeds_itself graph.chains
