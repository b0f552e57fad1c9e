-- The first source filter of a graph whose arguments are refused.
use Rattle.std.specs.Prelude.{ℕ, ◌+◌, List, [], ◌∷◌, Option, None, Some, Result, Ok, Err}
use Rattle.ff_frame.specs.declared.config.ConfigError.{ConfigError}
use Rattle.ff_lang.specs.declared.graph.Graph.{Graph}
use Rattle.ff_source.specs.declared.made.Made.{Made}
use Rattle.ff_graph_links.specs.pads.Links.{Seen}
use Rattle.ff_graph.specs.Configured.{Refused}
use Rattle.ff_graph.specs.Drawings.{seen_graph}
use Rattle.ff_graph.specs.Sources.{made_in}

-- filter k, if it is refused; else what the others are
abbrev pub refused_or : ℕ → Result (Option Made) ConfigError → Option Refused → Option Refused
refused_or k (Err e) others = Some (record { filter = k; kind = e })
refused_or k (Ok made) others = others

-- of filters of which the first has number k
abbrev pub source_fault_from : ℕ → List Seen → Option Refused
source_fault_from k [] = None
source_fault_from k (d ∷ ds) = refused_or k (made_in d.filter) (source_fault_from (k + 1) ds)

-- the first source filter in the order of writing whose arguments are refused, and why
abbrev pub source_fault : Graph → Option Refused
source_fault g = source_fault_from 0 (seen_graph g)
