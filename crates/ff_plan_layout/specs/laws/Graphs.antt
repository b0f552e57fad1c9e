-- What the laws of plans with graphs need of the rules of graphs.
use Rattle.std.specs.Prelude.{◌≡◌, ℕ, Bool, true, false, not, List, length, Option, Some, None, Ok, IsSome}
use Rattle.std.specs.List.{AllByRecursion, filter}
use Rattle.std.specs.Str.{bytes_eq}
use Rattle.ff_frame.specs.declared.head.StreamHead.{StreamHead}
use Rattle.ff_lang.specs.declared.graph.Graph.{Graph}
use Rattle.ff_stream.specs.edges.Ports.{tally}
use Rattle.ff_graph_links.specs.labels.Clear.{IsClear}
use Rattle.ff_graph_links.specs.labels.Labels.{is_one_of, taken_in, given_in}
use Rattle.ff_plan_layout.specs.Pads.{has_label}
use Rattle.ff_plan_layout.specs.Rules.{Rules, OpenIn, OpenOut}

-- the labels that a graph takes and no pad of its own gives, and those that it gives and no pad of its own takes
abbrev pub open_taken : Graph → List (List ℕ)
open_taken g = filter (λ l. not (is_one_of l (given_in g))) (taken_in g)

abbrev pub open_given : Graph → List (List ℕ)
open_given g = filter (λ l. not (is_one_of l (taken_in g))) (given_in g)

-- whether an open input pad has this label
abbrev pub asks : List ℕ → OpenIn → Bool
asks label i = label_is i.label where
  label_is : Option (List ℕ) → Bool
  label_is None = false
  label_is (Some l) = bytes_eq l label

-- the rules make these open output pads of a graph without a loop, with a head or none for each open input pad
abbrev pub IsHad : Rules → Graph → List (Option StreamHead) → List OpenOut → Type 0
IsHad rules g heads outs = (rules.loops g ≡ false) × (length heads ≡ length (rules.open_ins g)) × (rules.configured g heads ≡ Ok outs)

-- Where a graph can be had, each of its open input pads has a stream, and the labels that it takes and gives stand at its open
-- pads, each as often as it is written.
pub record AreRules (rules : Rules) : Type 0 where
  pub streams : (g : Graph) (heads : List (Option StreamHead)) (outs : List OpenOut) → IsHad rules g heads outs
      → AllByRecursion (λ (h : Option StreamHead). IsSome h) heads
  pub ins : (g : Graph) (heads : List (Option StreamHead)) (outs : List OpenOut) → IsHad rules g heads outs → IsClear g
      → (label : List ℕ) → tally (asks label) (rules.open_ins g) ≡ tally (bytes_eq label) (open_taken g)
  pub outs : (g : Graph) (heads : List (Option StreamHead)) (outs : List OpenOut) → IsHad rules g heads outs → IsClear g
      → (label : List ℕ) → tally (has_label label) outs ≡ tally (bytes_eq label) (open_given g)
