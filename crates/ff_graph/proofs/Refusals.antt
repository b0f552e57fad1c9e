-- Which filter is refused, and how.
use Rattle.std.proofs.Common.{◌≡◌, ◌≢◌, ℕ, zero, suc, ◌+◌, ◌<◌, Bool, true, false, List, [], ◌∷◌, length, Option, None, Some, if◌then◌else◌, Result, Ok, Err}
use Rattle.std.proofs.Common.{replicate, slice_get, slice_index_or, slice_set, refl, ap, ◌∙◌, subst, arith}
use Rattle.std.proofs.lemmas.List.{length-replicate}
use Rattle.ff_frame.specs.declared.config.ConfigError.{ConfigError}
use Rattle.ff_frame.specs.declared.config.ConfigError.TheVariants as fault
use Rattle.ff_frame.specs.declared.head.StreamHead.{StreamHead}
use Rattle.ff_lang.specs.declared.graph.Graph.{Graph}
use Rattle.ff_graph_links.specs.orders.Orders.{is_ready, first_ready, next_ready, order_on}
use Rattle.ff_graph_links.proofs.OrdersLemmas.Stuck.{size_set}
use Rattle.ff_graph_links.specs.pads.Links.{Seen, feeders_from}
use Rattle.ff_filters.specs.declared.name.FilterName.{FilterName}
use Rattle.ff_filters.specs.Names.{filter_named}
use Rattle.ff_filters.specs.Configured.{Filtered}
use Rattle.ff_filters.specs.Makes.{configured_as}
use Rattle.ff_filters.proofs.Owed.{never_short}
use Rattle.ff_graph.specs.Configured.{Made, Refused, heads_into, is_misfit, is_surplus, made_as, made_of, behind, with_made, make_from, none_made, make_all, outs_of, configured}
use Rattle.ff_graph.specs.Drawings.{seen_graph}
use Rattle.ff_graph.specs.Opens.{feeders_in, filter_order, open_pads, sources_in}

-- ---- the filters of an order are there

first_below : (feeders : List (List ℕ)) (taken : List Bool) (k n i : ℕ) → first_ready feeders taken k n ≡ Some i → i < k + n
first_below feeders taken k zero i e = absurd cc
first_below feeders taken k (suc n) i e = at (is_ready feeders taken k) e (λ h. first_below feeders taken (suc k) n i h)
  where
    at : (b : Bool) → (if b then Some k else first_ready feeders taken (suc k) n) ≡ Some i → (first_ready feeders taken (suc k) n ≡ Some i → i < suc k + n)
        → i < k + suc n
    at true h on = (let same : k ≡ i = cc in omega arith)
    at false h on = (let less = on h in omega (arith, less))

-- each of these is one of the first n
abbrev pub AreThere : ℕ → List ℕ → Type 0
AreThere n [] = Unit {0}
AreThere n (k ∷ ks) = (k < n) × AreThere n ks

on_there : (feeders : List (List ℕ)) (taken : List Bool) (steps : ℕ) (o : Option ℕ) → next_ready feeders taken ≡ o
    → AreThere (length taken) (order_on feeders taken steps o)
on_there feeders taken steps None e = tt
on_there feeders taken zero (Some k) e = tt
on_there feeders taken (suc steps) (Some k) e = (
  (let less = first_below feeders taken 0 (length taken) k e in omega (arith, less)),
  subst (λ (n : ℕ). AreThere n (order_on feeders (slice_set taken k true) steps (next_ready feeders (slice_set taken k true)))) (size_set taken k true)
      (on_there feeders (slice_set taken k true) steps (next_ready feeders (slice_set taken k true)) refl),
)

pub feeders_size : (all : List Seen) (k : ℕ) (ds : List Seen) → length (feeders_from all k ds) ≡ length ds
feeders_size all k [] = refl
feeders_size all k (d ∷ ds) = ap (λ (n : ℕ). suc n) (feeders_size all (suc k) ds)

pub order_there : (ds : List Seen) → AreThere (length ds) (filter_order ds)
order_there ds =
    let n : ℕ = length (feeders_in ds) in
    let taken : List Bool = replicate n false in
    subst (λ (m : ℕ). AreThere m (filter_order ds)) (length-replicate n false ∙ feeders_size ds 0 ds)
    (on_there (feeders_in ds) taken n (next_ready (feeders_in ds) taken) refl)

-- ---- a refusal is that of one of them

refused_from : (ds : List Seen) (given : List (Option StreamHead)) (made : Made) (ks : List ℕ) (n : ℕ) (r : Refused) → AreThere n ks
    → make_from ds given made ks ≡ Err r → r.filter < n
refused_from ds given made [] n r there e = cc
refused_from ds given made (k ∷ ks) n r there e = at (made_of ds given made.heads k (slice_get ds k)) e (λ m h. refused_from ds given m ks n r there.1 h)
  where
    at : (q : Result Filtered ConfigError) → behind made k q (λ m. make_from ds given m ks) ≡ Err r
        → ((m : Made) → make_from ds given m ks ≡ Err r → r.filter < n) → r.filter < n
    at (Err why) h on =
        (let same : (let s : Refused = record { filter = k; kind = why } in s) ≡ r = cc in subst (λ (s : Refused). s.filter < n) same there.0)
    at (Ok f) h on = on (with_made made k f) h

was_refused : (ds : List Seen) (q : Result Made Refused) (r : Refused) → outs_of ds q ≡ Err r → q ≡ Err r
was_refused ds (Ok made) r e = cc
was_refused ds (Err s) r e = (let same : s ≡ r = cc in ap (λ (t : Refused). Err t) same)

pub refused_there : (g : Graph) (given : List (Option StreamHead)) (r : Refused) → configured g given ≡ Err r → r.filter < length (seen_graph g)
refused_there g given r e =
    refused_from (seen_graph g) given (none_made (seen_graph g)) (filter_order (seen_graph g)) (length (seen_graph g)) r (order_there (seen_graph g))
    (was_refused (seen_graph g) (make_all (seen_graph g) given) r e)

-- ---- no filter is refused for want of memory

on_heads : (name : FilterName) (d : Seen) (hs : List StreamHead) (b : Bool) → (if b then Err fault.Pads else configured_as name d.filter.args hs) ≢ Err fault.NoMemory
on_heads name d hs true e = cc
on_heads name d hs false e = never_short name d.filter.args hs e

one_needs : (o : Option FilterName) (misfit : Bool) (d : Seen) (hs : Option (List StreamHead)) → made_as o misfit d hs ≢ Err fault.NoMemory
one_needs None misfit d hs e = cc
one_needs (Some name) true d hs e = cc
one_needs (Some name) false d None e = cc
one_needs (Some name) false d (Some hs) e = on_heads name d hs (is_surplus name d hs) e

filter_needs : (ds : List Seen) (given : List (Option StreamHead)) (heads : List (List StreamHead)) (k : ℕ) (o : Option Seen)
    → made_of ds given heads k o ≢ Err fault.NoMemory
filter_needs ds given heads k None e = cc
filter_needs ds given heads k (Some d) e =
    one_needs (filter_named d.filter.name) (is_misfit ds (open_pads ds) k d) d
    (heads_into (open_pads ds) given heads k 0 (slice_index_or (sources_in ds) k [])) e

needs_from : (ds : List Seen) (given : List (Option StreamHead)) (made : Made) (ks : List ℕ) (r : Refused) → make_from ds given made ks ≡ Err r
    → r.kind ≢ fault.NoMemory
needs_from ds given made [] r e = cc
needs_from ds given made (k ∷ ks) r e =
    at (made_of ds given made.heads k (slice_get ds k)) (filter_needs ds given made.heads k (slice_get ds k)) e (λ m h. needs_from ds given m ks r h)
  where
    at : (q : Result Filtered ConfigError) → q ≢ Err fault.NoMemory → behind made k q (λ m. make_from ds given m ks) ≡ Err r
        → ((m : Made) → make_from ds given m ks ≡ Err r → r.kind ≢ fault.NoMemory) → r.kind ≢ fault.NoMemory
    at (Err why) other h on =
        (let same : (let s : Refused = record { filter = k; kind = why } in s) ≡ r = cc in
        λ short. other (ap (λ (e : ConfigError). Err e) (ap (λ (s : Refused). s.kind) same ∙ short)))
    at (Ok f) other h on = on (with_made made k f) h

pub never_for_memory : (g : Graph) (given : List (Option StreamHead)) (r : Refused) → configured g given ≡ Err r → r.kind ≢ fault.NoMemory
never_for_memory g given r e =
    needs_from (seen_graph g) given (none_made (seen_graph g)) (filter_order (seen_graph g)) r
    (was_refused (seen_graph g) (make_all (seen_graph g) given) r e)
