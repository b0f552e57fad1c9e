-- A graph that a word of a command can write has few open input pads.
use Rattle.std.proofs.Common.{◌≡◌, ℕ, zero, suc, ◌+◌, ◌*◌, ◌^◌, ◌≤◌, Bool, true, false, nat_le, ◌&&◌, ◌||◌, is_some, cond, List, [], ◌∷◌, length, Option, None, Some, refl, ap, arith, length-append}
use Rattle.std.specs.List.{AllByRecursion}
use Rattle.std.proofs.lemmas.List.{length-map}
use Rattle.ff_lang.specs.declared.graph.Chain.{Chain}
use Rattle.ff_lang.specs.declared.graph.Filter.{Filter}
use Rattle.ff_lang.specs.declared.graph.Graph.{Graph}
use Rattle.ff_graph_links.specs.labels.Labels.{filters_of}
use Rattle.ff_graph_links.specs.declared.pads.drawn.Pad.{Pad}
use Rattle.ff_graph_links.specs.pads.Links.{Seen, sources_up, sources_of, sources_from, opens_at, opens_from}
use Rattle.ff_filters.specs.declared.name.FilterName.{FilterName}
use Rattle.ff_filters.specs.Names.{filter_named}
use Rattle.ff_filters.proofs.Owed.{owed}
use Rattle.ff_graph.specs.Drawings.{seen_as, seen_chain, seen_chains, seen_graph}
use Rattle.ff_plan_rules.specs.Rules.{open_ins}
use Rattle.ff_plan_rules.proofs.Had.{graph_written, opens_size}
use Rattle.ff_plan_rules.proofs.Lists.{all_joined}

-- ---- of a graph

abbrev HasFew : Seen → Type 0
HasFew d = d.inputs ≤ 16

seen_few : (f : Filter) (follows : Bool) (o : Option FilterName) → HasFew (seen_as f follows o)
seen_few f follows None = omega arith
seen_few f follows (Some name) = (owed name).inputs f.args

chain_few : (follows : Bool) (fs : List Filter) → AllByRecursion HasFew (seen_chain follows fs)
chain_few follows [] = tt
chain_few follows (f ∷ fs) = (seen_few f follows (filter_named f.name), chain_few true fs)

chains_few : (cs : List Chain) → AllByRecursion HasFew (seen_chains cs)
chains_few [] = tt
chains_few (c ∷ cs) = all_joined HasFew (seen_chain false c.filters) (seen_chains cs) (chain_few false c.filters) (chains_few cs)

opens_at_few : (k i : ℕ) (ss : List (Option Pad)) → length (opens_at k i ss) ≤ length ss
opens_at_few k i [] = omega arith
opens_at_few k i (None ∷ ss) = (let few = opens_at_few k (suc i) ss in omega (arith, few))
opens_at_few k i (Some p ∷ ss) = (let few = opens_at_few k (suc i) ss in omega (arith, few))

sources_long : (ds : List Seen) (k : ℕ) (d : Seen) (i n : ℕ) → length (sources_up ds k d i n) ≡ n
sources_long ds k d i zero = refl
sources_long ds k d i (suc n) = ap (λ (m : ℕ). suc m) (sources_long ds k d (suc i) n)

opens_from_few : (ds : List Seen) (k : ℕ) (rest : List Seen) → AllByRecursion HasFew rest → length (opens_from k (sources_from ds k rest)) ≤ 16 * length rest
opens_from_few ds k [] all = omega arith
opens_from_few ds k (d ∷ rest) all =
    let joined = length-append (opens_at k 0 (sources_of ds k d)) (opens_from (suc k) (sources_from ds (suc k) rest)) in
    let own = opens_at_few k 0 (sources_of ds k d) in
    let size = sources_long ds k d 0 d.inputs in
    let few = all.0 in
    let others = opens_from_few ds (suc k) rest all.1 in
    omega (arith, joined, own, size, few, others)

pub pads_few : (g : Graph) → length (filters_of g) ≤ 65536 → length (open_ins g) ≤ 2 ^ 20
pads_few g few =
    let opens = opens_from_few (seen_graph g) 0 (seen_graph g) (chains_few g.chains) in
    let size = opens_size g in
    let same = ap (λ (fs : List Filter). length fs) (graph_written g) in
    let long = length-map (seen_graph g) (λ (d : Seen). d.filter) in
    omega (arith, opens, size, same, long, few)
