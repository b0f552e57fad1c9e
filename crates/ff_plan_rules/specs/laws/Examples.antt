-- Maps and a graph by example.
use Rattle.std.specs.Prelude.{ℕ, Bool, false, List, [], ◌∷◌}
use Rattle.ff_frame.specs.declared.head.StreamHead.{StreamHead}
use Rattle.ff_frame.specs.declared.head.StreamHead.TheVariants.{Video}
use Rattle.ff_frame.specs.declared.video.Format.TheVariants.{C420}
use Rattle.ff_lang.specs.declared.graph.Graph.{Graph}
use Rattle.ff_words.specs.declared.maps.map.MapFrom.TheVariants.{Input, Label}
use Rattle.ff_words.specs.declared.maps.map.MapSpec.{MapSpec}
use Rattle.ff_words.specs.declared.maps.map.Pick.{Pick}

abbrev pub of_input : ℕ → Pick → Bool → MapSpec
of_input file pick optional = record { from = Input file pick; optional = optional }

abbrev pub of_label : List ℕ → MapSpec
of_label label = record { from = Label label; optional = false }

-- pictures of so many columns, 25 a second
abbrev pub pictures : ℕ → StreamHead
pictures width = Video (record { num = 1; den = 25 }) C420 width 2 1 1

-- one filter of this name, without labels and arguments
abbrev pub alone : List ℕ → Graph
alone name = record { chains = record { filters = record { ins = []; name = name; args = []; outs = [] } ∷ [] } ∷ [] }
