-- Filters as they are drawn, by the text of their graph.
use Rattle.std.proofs.Common.{◌≡◌, ℕ, zero, suc, ◌≤◌, Bool, true, false, List, [], ◌∷◌, ◌++◌, slice_get, Option, None, Some, refl, ap, sym, ◌∙◌, subst}
use Rattle.std.proofs.Common.{inl, inr}
use Rattle.std.proofs.lemmas.List.{map-append}
use Rattle.std.specs.List.{flat_map}
use Rattle.std.specs.Str.{bytes_eq}
use Rattle.ff_lang.specs.declared.graph.Chain.{Chain}
use Rattle.ff_lang.specs.declared.graph.Filter.{Filter}
use Rattle.ff_lang.specs.declared.graph.Graph.{Graph}
use Rattle.ff_stream.specs.edges.Ports.{tally}
use Rattle.ff_graph_links.specs.labels.Labels.{is_one_of, ins_of, outs_of}
use Rattle.ff_graph_links.specs.pads.Links.{Seen}
use Rattle.ff_filters.specs.declared.name.FilterName.{FilterName}
use Rattle.ff_filters.specs.Names.{filter_named}
use Rattle.ff_filters.specs.Pads.{inputs_of, outputs_of}
use Rattle.ff_graph.specs.Drawings.{seen_as, seen_chain, seen_chains, seen_graph}
use Rattle.ff_graph_links.specs.labels.Clear.{IsClear}
use Rattle.ff_graph.proofs.ComposedLemmas.Elements.{some_same, no_some, split}
use Rattle.ff_graph.proofs.ComposedLemmas.Feeding.{OnceTaken, StartsAnew}
use Rattle.ff_graph.proofs.ComposedLemmas.Clear.{filters_in, taken_once}

-- ---- each is drawn by its name

pub record IsDrawn (d : Seen) : Type 0 where
  pub filter : Filter
  pub follows : Bool
  pub is : d ≡ seen_as filter follows (filter_named filter.name)

in_chain : (follows : Bool) (fs : List Filter) (k : ℕ) (d : Seen) → slice_get (seen_chain follows fs) k ≡ Some d → IsDrawn d
in_chain follows [] k d e = no_some d e
in_chain follows (f ∷ fs) zero d e = record { filter = f; follows = follows; is = sym (some_same (seen_as f follows (filter_named f.name)) d e) }
in_chain follows (f ∷ fs) (suc k) d e = in_chain true fs k d e

in_chains : (cs : List Chain) (k : ℕ) (d : Seen) → slice_get (seen_chains cs) k ≡ Some d → IsDrawn d
in_chains [] k d e = no_some d e
in_chains (c ∷ cs) k d e = elim (split (seen_chain false c.filters) (seen_chains cs) k d e) as (λ _. IsDrawn d) [
  | inl h ↦ in_chain false c.filters k d h
  | inr h ↦ in_chains cs h.0 d h.2
]

filter_is : (f : Filter) (follows : Bool) (o : Option FilterName) → (seen_as f follows o).filter ≡ f
filter_is f follows None = refl
filter_is f follows (Some name) = refl

-- so many pads as its name and arguments say
pub record HasPads (d : Seen) (name : FilterName) : Type 0 where
  pub inputs : d.inputs ≡ inputs_of name d.filter.args
  pub outputs : d.outputs ≡ outputs_of name d.filter.args

has_pads : (d : Seen) (f : Filter) (follows : Bool) (o : Option FilterName) (name : FilterName) → d ≡ seen_as f follows o → o ≡ Some name → HasPads d name
has_pads d f follows None name e n = cc
has_pads d f follows (Some other) name e n =
    let own : (seen_as f follows (Some other)).filter ≡ f = refl in
    let same : other ≡ name = some_same other name n in
    subst (λ (x : Seen). HasPads x name) (sym e) (subst (λ (x : FilterName). HasPads (seen_as f follows (Some x)) name) (sym same) (record { inputs = refl; outputs = refl }))

pub pads_there : (g : Graph) (k : ℕ) (d : Seen) (name : FilterName) → slice_get (seen_graph g) k ≡ Some d → filter_named d.filter.name ≡ Some name → HasPads d name
pads_there g k d name e n =
    let i : IsDrawn d = in_chains g.chains k d e in
    let own : d.filter ≡ i.filter = ap (λ (x : Seen). x.filter) i.is ∙ filter_is i.filter i.follows (filter_named i.filter.name) in
    has_pads d i.filter i.follows (filter_named i.filter.name) name i.is (ap (λ (x : Filter). filter_named x.name) (sym own) ∙ n)

-- ---- the first one follows none

follows_is : (f : Filter) (follows : Bool) (o : Option FilterName) → (seen_as f follows o).follows ≡ follows
follows_is f follows None = refl
follows_is f follows (Some name) = refl

first_in : (fs : List Filter) (others : List Seen) → StartsAnew others → StartsAnew (seen_chain false fs ++ others)
first_in [] others anew d e = anew d e
first_in (f ∷ fs) others anew d e =
    ap (λ (x : Seen). x.follows) (sym (some_same (seen_as f false (filter_named f.name)) d e)) ∙ follows_is f false (filter_named f.name)

starts : (cs : List Chain) → StartsAnew (seen_chains cs)
starts [] d e = no_some d e
starts (c ∷ cs) d e = first_in c.filters (seen_chains cs) (starts cs) d e

pub starts_anew : (g : Graph) → StartsAnew (seen_graph g)
starts_anew g = starts g.chains

-- ---- the filters of the text

chain_filters : (follows : Bool) (fs : List Filter) → filters_in (seen_chain follows fs) ≡ fs
chain_filters follows [] = refl
chain_filters follows (f ∷ fs) =
    ap (λ (x : Filter). x ∷ filters_in (seen_chain true fs)) (filter_is f follows (filter_named f.name)) ∙ ap (λ (xs : List Filter). f ∷ xs) (chain_filters true fs)

chains_filters : (cs : List Chain) → filters_in (seen_chains cs) ≡ flat_map (λ c. c.filters) cs
chains_filters [] = refl
chains_filters (c ∷ cs) =
    map-append (λ (x : Seen). x.filter) (seen_chain false c.filters) (seen_chains cs)
    ∙ ap (λ (xs : List Filter). xs ++ filters_in (seen_chains cs)) (chain_filters false c.filters)
    ∙ ap (λ (xs : List Filter). c.filters ++ xs) (chains_filters cs)

pub labels_once : (g : Graph) → IsClear g → OnceTaken (seen_graph g)
labels_once g clear =
    taken_once (seen_graph g)
    (subst (λ (fs : List Filter). (label : List ℕ) → is_one_of label (outs_of fs) ≡ true → tally (bytes_eq label) (ins_of fs) ≤ 1) (sym (chains_filters g.chains))
    (λ label given. (clear label given).1))
