-- The sources of graphs, one graph after another.
use Rattle.std.proofs.Common.{◌≡◌, ℕ, ◌+◌, ◌<◌, List, ◌++◌, drop, length, get_or, sym, ap, ◌∙◌, append_assoc}
use Rattle.std.proofs.lemmas.List.Elements.{filter_map-append}
use Rattle.std.specs.List.{filter_map, flat_map}
use Rattle.ff_lang.specs.declared.graph.Graph.{Graph}
use Rattle.ff_source.specs.declared.made.Made.{Made}
use Rattle.ff_plan_layout.specs.Rules.{Rules, OpenIn}
use Rattle.ff_plan_layout.specs.Sources.{made_at_pad, sources_of}
use Rattle.ff_plan_layout.proofs.Fronts.{drop_next}

pub sources_next : (rules : Rules) (graphs : List Graph) (n : ℕ) (g : Graph) (pads : List OpenIn) (front here whole : List Made) → n < length graphs → g ≡ get_or graphs n g
    → pads ≡ rules.open_ins g → here ≡ front ++ filter_map made_at_pad pads → front ++ sources_of rules (drop n graphs) ≡ whole → here ++ sources_of rules (drop (n + 1) graphs) ≡ whole
sources_next rules graphs n g pads front here whole lt at opened is w =
    let rest = sources_of rules (drop (n + 1) graphs) in
    let same : rules.open_ins (get_or graphs n g) ≡ pads = ap (λ (x : Graph). rules.open_ins x) (sym at) ∙ sym opened in
    let split : sources_of rules (drop n graphs) ≡ filter_map made_at_pad pads ++ rest =
    ap (λ (gs : List Graph). sources_of rules gs) (drop_next graphs n g lt)
    ∙ (filter_map-append made_at_pad (rules.open_ins (get_or graphs n g)) (flat_map rules.open_ins (drop (n + 1) graphs))
    ∙ ap (λ (ps : List OpenIn). filter_map made_at_pad ps ++ rest) same) in
    ap (λ (l : List Made). l ++ rest) is ∙ (append_assoc front (filter_map made_at_pad pads) rest ∙ (ap (λ (l : List Made). front ++ l) (sym split) ∙ w))
