-- What a graph that can be had is made of.
use Rattle.std.proofs.Common.{◌≡◌, inl, inr, ℕ, zero, suc, ◌+◌, ◌<◌, ◌≤◌, ◌==◌, nat_lt, Bool, true, false, ◌||◌, List, [], ◌∷◌, ◌++◌, map, length, Option, None, Some, Result, Ok, Err, refl, sym, ap, subst, ◌∙◌, arith}
use Rattle.std.specs.Prelude.{slice_get, slice_index_or, if◌then◌else◌, ◌-◌}
use Rattle.std.specs.List.{AllByRecursion, flat_map}
use Rattle.std.proofs.lemmas.Bool.{cases_lt}
use Rattle.std.proofs.lemmas.Bool.Decides.{nat_tests}
use Rattle.std.proofs.lemmas.List.{length-map, length-replicate, map-append}
use Rattle.std.proofs.lemmas.Option.{slice_get_within}
use Rattle.ff_frame.specs.declared.config.ConfigError.TheVariants as fault
use Rattle.ff_frame.specs.declared.head.StreamHead.{StreamHead}
use Rattle.ff_lang.specs.declared.graph.Chain.{Chain}
use Rattle.ff_lang.specs.declared.graph.Filter.{Filter}
use Rattle.ff_lang.specs.declared.graph.Graph.{Graph}
use Rattle.ff_graph_links.specs.orders.Orders.{loops as is_looped}
use Rattle.ff_graph_links.specs.declared.pads.drawn.Pad.{Pad}
use Rattle.ff_graph_links.specs.pads.Links.{Seen, sources_from}
use Rattle.ff_graph_links.specs.labels.Labels.{filters_of}
use Rattle.ff_graph_dag.specs.wiring.Flows.{pad_place}
use Rattle.ff_filters.specs.declared.name.FilterName.{FilterName}
use Rattle.ff_filters.specs.Names.{filter_named}
use Rattle.ff_filters.specs.Pads.{outputs_of}
use Rattle.ff_filters.specs.Configured.{Filtered}
use Rattle.ff_graph.specs.Drawings.{seen_as, seen_chain, seen_chains, seen_graph}
use Rattle.ff_graph.specs.Opens as of_graph
use Rattle.ff_graph.specs.Opens.{feeders_in, filter_order, sources_in, open_pads, open_in, open_ins_at}
use Rattle.ff_graph.specs.Configured as of_graph_made
use Rattle.ff_graph.specs.Configured.{Made, heads_into, leaves_over, stands_at, is_fed_source, is_misfit, is_surplus, made_on, made_as, made_of, with_made, behind, make_from, none_made, make_all}
use Rattle.ff_graph.specs.Configured.{feeds_one, unless_fed, outs_at, outs_from, open_outs, outs_of as outs_by}
use Rattle.ff_plan_layout.specs.declared.open_pads.OpenOut.{OpenOut}
use Rattle.ff_plan_layout.specs.declared.open_pads.Refused.{Refused}
use Rattle.ff_plan_rules.specs.Rules.{input_as, output_as, refused_as, outputs_as, open_ins, is_empty, configured}
use Rattle.ff_plan_rules.proofs.Lists.{never, some_same, no_some, same_ok, no_ok, all_from, all_at, all_joined}
use Rattle.ff_plan_rules.proofs.OpenPads.{IsOpen, are_open, place_is, given_there}
use Rattle.ff_plan_rules.proofs.Given.{written, HasPads}
use Rattle.ff_plan_rules.proofs.Making.{IsMadeOf, made_parts, was_made, heads_stay, outputs_are, in_order}
use Rattle.ff_graph.proofs.ComposedLemmas.Counts.{labels_there}

-- ---- drawings

written_as : (f : Filter) (follows : Bool) (o : Option FilterName) → (seen_as f follows o).filter ≡ f
written_as f follows None = refl
written_as f follows (Some name) = refl

chain_written : (follows : Bool) (fs : List Filter) → written (seen_chain follows fs) ≡ fs
chain_written follows [] = refl
chain_written follows (f ∷ fs) =
    ap (λ (g : Filter). g ∷ written (seen_chain true fs)) (written_as f follows (filter_named f.name)) ∙ ap (λ (gs : List Filter). f ∷ gs) (chain_written true fs)

chains_written : (cs : List Chain) → written (seen_chains cs) ≡ flat_map (λ (c : Chain). c.filters) cs
chains_written [] = refl
chains_written (c ∷ cs) =
    map-append (λ (d : Seen). d.filter) (seen_chain false c.filters) (seen_chains cs)
    ∙ (ap (λ (fs : List Filter). fs ++ written (seen_chains cs)) (chain_written false c.filters) ∙ ap (λ (fs : List Filter). c.filters ++ fs) (chains_written cs))

pub graph_written : (g : Graph) → written (seen_graph g) ≡ filters_of g
graph_written g = chains_written g.chains

-- a filter has as many outputs as its name and arguments say
abbrev pub HasOutputs : Seen → Type 0
HasOutputs d = (name : FilterName) → filter_named d.filter.name ≡ Some name → d.outputs ≡ outputs_of name d.filter.args

seen_outputs : (f : Filter) (follows : Bool) (o : Option FilterName) → filter_named f.name ≡ o → HasOutputs (seen_as f follows o)
seen_outputs f follows None e = λ name h. absurd (no_some name (sym e ∙ h))
seen_outputs f follows (Some n) e = λ name h. ap (λ (m : FilterName). outputs_of m f.args) (some_same n name (sym e ∙ h))

chain_outputs : (follows : Bool) (fs : List Filter) → AllByRecursion HasOutputs (seen_chain follows fs)
chain_outputs follows [] = tt
chain_outputs follows (f ∷ fs) = (seen_outputs f follows (filter_named f.name) refl, chain_outputs true fs)

pub chains_outputs : (cs : List Chain) → AllByRecursion HasOutputs (seen_chains cs)
chains_outputs [] = tt
chains_outputs (c ∷ cs) = all_joined HasOutputs (seen_chain false c.filters) (seen_chains cs) (chain_outputs false c.filters) (chains_outputs cs)

-- ---- where a graph can be had

outs_ok : (ds : List Seen) (r : Result Made of_graph_made.Refused) (os : List of_graph_made.OpenOut) → outs_by ds r ≡ Ok os
    → (m : Made) × (r ≡ Ok m) × (os ≡ open_outs ds m.heads)
outs_ok ds (Err x) os e = absurd (no_ok x os e)
outs_ok ds (Ok m) os e = (m, refl, sym (same_ok (open_outs ds m.heads) os e))

as_ok : (r : Result (List of_graph_made.OpenOut) of_graph_made.Refused) (outs : List OpenOut) → outputs_as r ≡ Ok outs
    → (os : List of_graph_made.OpenOut) × (r ≡ Ok os) × (outs ≡ map output_as os)
as_ok (Err x) outs e = absurd (no_ok (refused_as x) outs e)
as_ok (Ok os) outs e = (os, refl, sym (same_ok (map output_as os) outs e))

pub as_err : (r : Result (List of_graph_made.OpenOut) of_graph_made.Refused) (x : Refused) → outputs_as r ≡ Err x
    → (y : of_graph_made.Refused) × (r ≡ Err y) × (y.filter ≡ x.filter) × (y.kind ≡ x.kind)
as_err (Ok os) x e = absurd cc
as_err (Err y) x e = (let same : refused_as y ≡ x = cc in (y, refl, ap (λ (z : Refused). z.filter) same, ap (λ (z : Refused). z.kind) same))

-- its filters were made, and its open output pads are theirs
pub record WasMade (g : Graph) (given : List (Option StreamHead)) (outs : List OpenOut) : Type 0 where
  pub made : Made
  pub is : make_all (seen_graph g) given ≡ Ok made
  pub open_ : outs ≡ map output_as (open_outs (seen_graph g) made.heads)

unlooped : (c : Bool) (r : Result (List OpenOut) Refused) (outs : List OpenOut) → (if c then Err (record { filter = 0; kind = fault.Pads }) else r) ≡ Ok outs → r ≡ Ok outs
unlooped true r outs e = absurd cc
unlooped false r outs e = e

pub was_had : (g : Graph) (given : List (Option StreamHead)) (outs : List OpenOut) → configured g given ≡ Ok outs → WasMade g given outs
was_had g given outs e =
    let a = as_ok (of_graph_made.configured g given) outs (unlooped (of_graph.loops g || is_empty g) (outputs_as (of_graph_made.configured g given)) outs e) in
    let b = outs_ok (seen_graph g) (make_all (seen_graph g) given) a.0 a.1 in
    record { made = b.0; is = b.1; open_ = a.2 ∙ ap (λ (os : List of_graph_made.OpenOut). map output_as os) b.2 }

-- each filter was
record WasOne (ds : List Seen) (given : List (Option StreamHead)) (k : ℕ) (d : Seen) : Type 0 where
  heads : List (List StreamHead)
  filtered : Filtered
  of_ : IsMadeOf ds given heads k d filtered

each_one : (ds : List Seen) (given : List (Option StreamHead)) (m : Made) → is_looped (feeders_in ds) ≡ false → make_all ds given ≡ Ok m → (k : ℕ) (d : Seen) → slice_get ds k ≡ Some d
    → WasOne ds given k d
each_one ds given m e h k d at =
    let j = in_order ds e k (slice_get_within ds k d at) in
    let w = was_made ds given (filter_order ds) (none_made ds) m h j.0 k j.1 in
    record {
      heads = w.0;
      filtered = w.1;
      of_ = made_parts ds given w.0 k d w.1 (subst (λ (o : Option Seen). made_of ds given w.0 k o ≡ Ok w.1) at w.2);
    }

or_false : (a b : Bool) → (a || b) ≡ false → (a ≡ false) × (b ≡ false)
or_false true b e = absurd (never e)
or_false false b e = (refl, e)

-- a filter that fits
record IsFit (ds : List Seen) (k : ℕ) (d : Seen) : Type 0 where
  pads : HasPads d
  sixteen : stands_at k (slice_get (open_pads ds) 16) ≡ false

has_fit : (ds : List Seen) (k : ℕ) (d : Seen) → is_misfit ds (open_pads ds) k d ≡ false → IsFit ds k d
has_fit ds k d e =
    let own = or_false ((nat_lt d.inputs (length d.filter.ins) || leaves_over d (slice_get ds (k - 1))) || (k == 64) || stands_at k (slice_get (open_pads ds) 16))
    (is_fed_source (sources_in ds) k d) e in
    let last = or_false ((nat_lt d.inputs (length d.filter.ins) || leaves_over d (slice_get ds (k - 1))) || (k == 64)) (stands_at k (slice_get (open_pads ds) 16)) own.0 in
    let front = or_false (nat_lt d.inputs (length d.filter.ins) || leaves_over d (slice_get ds (k - 1))) (k == 64) last.0 in
    let first = or_false (nat_lt d.inputs (length d.filter.ins)) (leaves_over d (slice_get ds (k - 1))) front.0 in
    let few : nat_lt d.inputs (length d.filter.ins) ≡ false = first.0 in
    record { pads = grind (arith, nat_tests); sixteen = last.1 }

sources_size : (ds : List Seen) (k : ℕ) (rest : List Seen) → length (sources_from ds k rest) ≡ length rest
sources_size ds k [] = refl
sources_size ds k (d ∷ rest) = ap (λ (n : ℕ). suc n) (sources_size ds (suc k) rest)

-- an open input pad is one of a filter
unfed_there : (sources : List (List (Option Pad))) (n i : ℕ) → slice_get (slice_index_or sources n []) i ≡ Some None → n < length sources
unfed_there [] n i e = absurd (no_some None e)
unfed_there (ss ∷ sources) zero i e = omega arith
unfed_there (ss ∷ sources) (suc n) i e = (let lt = unfed_there sources n i e in omega (arith, lt))

filter_there : (ds : List Seen) (p : Pad) → IsOpen 0 (sources_in ds) p → p.filter < length ds
filter_there ds p o =
    let lt = unfed_there (sources_in ds) o.number p.pad o.unfed in
    let size = sources_size ds 0 ds in
    let at = o.filter in
    omega (arith, lt, size, at)

there : {A : Type 0} (xs : List A) (k : ℕ) → k < length xs → (x : A) × (slice_get xs k ≡ Some x)
there [] k lt = absurd (omega (arith, lt))
there (x ∷ xs) zero lt = (x, refl)
there (x ∷ xs) (suc k) lt = there xs k (omega (arith, lt))

self_stands : (p : Pad) → stands_at p.filter (Some p) ≡ true
self_stands p = grind (arith, nat_tests)

-- of the filters of a drawing that can be had
module _ (ds : List Seen) (given : List (Option StreamHead)) (m : Made) (order : is_looped (feeders_in ds) ≡ false) (made : make_all ds given ≡ Ok m) where
  pub has_pads : AllByRecursion HasPads ds
  has_pads = all_from HasPads ds (λ k d at. let w = each_one ds given m order made k d at in (has_fit ds k d w.of_.fits).pads)

  pub opens_few : length (open_pads ds) ≤ 16
  opens_few = elim (cases_lt 16 (length (open_pads ds))) [
    | inl lt ↦
        (let p = there (open_pads ds) 16 lt in
        let o = all_at (IsOpen 0 (sources_in ds)) (open_pads ds) 16 p.0 (are_open 0 (sources_in ds)) p.1 in
        let d = there ds p.0.filter (filter_there ds p.0 o) in
        let w = each_one ds given m order made p.0.filter d.0 d.1 in
        let no : stands_at p.0.filter (Some p.0) ≡ false =
        subst (λ (x : Option Pad). stands_at p.0.filter x ≡ false) p.1 (has_fit ds p.0.filter d.0 w.of_.fits).sixteen in
        absurd (never (sym (self_stands p.0) ∙ no)))
    | inr le ↦ le
  ]

  -- each open input pad has a stream
  pub given_at : (j : ℕ) → j < length (open_pads ds) → (h : StreamHead) × (slice_index_or given j None ≡ Some h)
  given_at j lt =
      let p = there (open_pads ds) j lt in
      let o = all_at (IsOpen 0 (sources_in ds)) (open_pads ds) j p.0 (are_open 0 (sources_in ds)) p.1 in
      let d = there ds p.0.filter (filter_there ds p.0 o) in
      let w = each_one ds given m order made p.0.filter d.0 d.1 in
      let same : o.number ≡ p.0.filter = (let f = o.filter in omega (arith, f)) in
      let unfed : slice_get (slice_index_or (sources_in ds) p.0.filter []) p.0.pad ≡ Some None =
      subst (λ (n : ℕ). slice_get (slice_index_or (sources_in ds) n []) p.0.pad ≡ Some None) same o.unfed in
      let h = given_there (open_pads ds) given w.heads p.0.filter 0 p.0.pad (slice_index_or (sources_in ds) p.0.filter []) w.of_.into w.of_.fed unfed in
      let pad : 0 + p.0.pad ≡ p.0.pad = omega arith in
      let place : pad_place (open_pads ds) (record { filter = p.0.filter; pad = 0 + p.0.pad }) ≡ j =
      ap (λ (n : ℕ). pad_place (open_pads ds) (record { filter = p.0.filter; pad = n })) pad ∙ place_is (sources_in ds) j p.0 p.1 in
      (h.0, subst (λ (n : ℕ). slice_index_or given n None ≡ Some h.0) place h.1)

  -- each label at an output of a filter has a pad
  pub outputs_long : AllByRecursion HasOutputs ds → (k : ℕ) (d : Seen) → slice_get ds k ≡ Some d → length d.filter.outs ≤ length (slice_index_or m.heads k [])
  outputs_long named k d at =
      let lt = slice_get_within ds k d at in
      let j = in_order ds order k lt in
      let none : length (none_made ds).heads ≡ length ds = length-replicate (length ds) [] in
      outputs_are ds given (λ i hs. (x : Seen) → slice_get ds i ≡ Some x → length x.filter.outs ≤ length hs)
      (λ heads i f e x has.
      let w = made_parts ds given heads i x f (subst (λ (o : Option Seen). made_of ds given heads i o ≡ Ok f) has e) in
      labels_there w.name x w.into f (all_at HasOutputs ds i x named has w.name w.named) w.enough w.is)
      (filter_order ds) (none_made ds) m made j.0 k j.1 (omega (arith, lt, none)) d at

  pub heads_size : length m.heads ≡ length ds
  heads_size = (let a = heads_stay ds given (filter_order ds) (none_made ds) m made in let b : length (none_made ds).heads ≡ length ds = length-replicate (length ds) [] in omega (arith, a, b))

pub opens_size : (g : Graph) → length (open_ins g) ≡ length (open_pads (seen_graph g))
opens_size g =
    length-map (of_graph.open_ins g) input_as ∙ length-map (open_pads (seen_graph g)) (λ (p : Pad). open_in p (slice_get (seen_graph g) p.filter))
