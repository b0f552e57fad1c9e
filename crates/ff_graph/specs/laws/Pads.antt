-- Open pads, filters and refusals as the code has them.
use Rattle.std.specs.Prelude.{◌≡◌, ◌≢◌, true, List, map, Option, Result, Err}
use Rattle.std.specs.declared.vec.Vec.{Vec}
use Rattle.ff_frame.specs.declared.config.ConfigError.TheVariants as fault
use Rattle.ff_frame.specs.declared.head.StreamHead.{StreamHead}
use Rattle.ff_filter.specs.Views.{View}
use Rattle.ff_filters.specs.Configured.{Filtered}
use Rattle.ff_lang.specs.declared.graph.Graph.{Graph}
use Rattle.ff_graph.specs.declared.opening.OpenInput.{OpenInput}
use Rattle.ff_graph.specs.declared.outputs.OpenOutput.{OpenOutput}
use Rattle.ff_graph.specs.declared.sources.SourceFault.{SourceFault}
use Rattle.ff_graph.specs.declared.refusal.Refusal.{Refusal}
use Rattle.ff_graph.specs.declared.refusal.Refusal.TheVariants.{Config, Loop, NoMemory}
use Rattle.ff_graph.specs.Opens.{OpenIn, loops}
use Rattle.ff_graph.specs.Configured.{Made, Refused, OpenOut, configured}

abbrev pub input_of : OpenInput → OpenIn
input_of i = record { label = i.label; sound = i.sound; source = i.source }

abbrev pub fault_of : SourceFault → Refused
fault_of f = record { filter = f.filter; kind = f.kind }

abbrev pub output_of : OpenOutput → OpenOut
output_of o = record { at = o.pad; label = o.label; head = o.head }

-- lists of heads
abbrev pub heads_in : {A : Type 0} → List (Vec StreamHead A) → List (List StreamHead)
heads_in vs = map (λ v. v.items) vs

-- a filter that is seen so, with these heads
abbrev pub filtered_by : {A : Type 0} → View → Vec StreamHead A → Filtered
filtered_by view heads = record { view = view; outs = heads.items }

-- filters in their order, and the heads of each by its number
abbrev pub made_by : {F A B C : Type 0} → (F → View) → Vec F A → Vec (Vec StreamHead B) C → Made
made_by view filters heads = record { views = map view filters.items; heads = heads_in heads.items }

-- There was no memory, or the filters are refused so; no filter is refused for want of memory.
abbrev pub IsRefusal : Result Made Refused → Refusal → Type 0
IsRefusal r (Config filter kind) = (kind ≢ fault.NoMemory) × (r ≡ Err (record { filter = filter; kind = kind }))
IsRefusal r Loop = ⊥
IsRefusal r NoMemory = Unit {0}

-- A graph can't be had where its open input pads have these heads: there was no memory, its filters feed one another in a loop, or one of
-- them is refused so.
abbrev pub IsRefused : Graph → List (Option StreamHead) → Refusal → Type 0
IsRefused g given (Config filter kind) = (kind ≢ fault.NoMemory) × (configured g given ≡ Err (record { filter = filter; kind = kind }))
IsRefused g given Loop = loops g ≡ true
IsRefused g given NoMemory = Unit {0}
