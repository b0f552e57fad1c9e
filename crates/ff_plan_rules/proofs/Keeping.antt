-- What the filters of a graph keep of heads, and why it is refused.
use Rattle.std.proofs.Common.{◌≡◌, ◌≢◌, ℕ, zero, suc, Bool, true, false, List, [], ◌∷◌, map, length, replicate, Option, None, Some, Ok, Err, refl, sym, subst, ◌∙◌, arith}
use Rattle.std.specs.Prelude.{slice_get, slice_index_or, ◌||◌, if◌then◌else◌}
use Rattle.std.specs.List.{AllByRecursion}
use Rattle.ff_frame.specs.declared.config.ConfigError.TheVariants as fault
use Rattle.ff_frame.specs.declared.head.StreamHead.{StreamHead}
use Rattle.ff_lang.specs.declared.graph.Graph.{Graph}
use Rattle.ff_graph_links.specs.declared.pads.drawn.Pad.{Pad}
use Rattle.ff_graph_links.specs.pads.Links.{Seen}
use Rattle.ff_graph_dag.specs.wiring.Flows.{pad_place}
use Rattle.ff_filters.specs.Configured.{Filtered}
use Rattle.ff_filters.proofs.Owing.{IsKept}
use Rattle.ff_filters.proofs.Owed.{kept_too}
use Rattle.ff_graph.proofs.Refusals.{never_for_memory}
use Rattle.ff_graph.specs.Drawings.{seen_graph}
use Rattle.ff_graph.specs.Opens as of_graph
use Rattle.ff_graph.specs.Opens.{feeders_in, filter_order, sources_in, open_pads, open_in, open_ins_at}
use Rattle.ff_graph.specs.Configured as of_graph_made
use Rattle.ff_graph.specs.Configured.{Made, heads_into, leaves_over, stands_at, is_misfit, is_surplus, made_on, made_as, made_of, with_made, behind, make_from, none_made, make_all}
use Rattle.ff_graph.specs.Configured.{feeds_one, unless_fed, outs_at, outs_from, open_outs, outs_of as outs_by}
use Rattle.ff_plan_layout.specs.Streams.{takes_head}
use Rattle.ff_plan_layout.specs.declared.open_pads.OpenOut.{OpenOut}
use Rattle.ff_plan_layout.specs.declared.open_pads.Refused.{Refused}
use Rattle.ff_plan_rules.specs.Kept.{IsFitHead, KeepHeads}
use Rattle.ff_plan_rules.specs.Rules.{output_as, outputs_as, is_empty, configured, graph_rules}
use Rattle.ff_plan_rules.proofs.Lists.{some_same, no_some, no_ok, all_at, all_joined}
use Rattle.ff_plan_rules.proofs.Making.{made_parts, heads_keep}
use Rattle.ff_plan_rules.proofs.KeptHeads.{fit_is_kept, taken_is_kept}
use Rattle.ff_plan_rules.proofs.Had.{as_err, was_had, opens_size, opens_few}

-- ---- heads that are kept

module _ (P : StreamHead → Type 0) (keeps : IsKept P) where
  abbrev Each : List StreamHead → Type 0
  Each hs = AllByRecursion P hs

  given_fit : (given : List StreamHead) (n : ℕ) (h : StreamHead) → Each given → slice_index_or (map (λ (x : StreamHead). Some x) given) n None ≡ Some h → P h
  given_fit [] n h all e = absurd (no_some h e)
  given_fit (x ∷ given) zero h all e = subst P (some_same x h e) all.0
  given_fit (x ∷ given) (suc n) h all e = given_fit given n h all.1 e

  own_fit : (heads : List (List StreamHead)) (k : ℕ) → AllByRecursion Each heads → Each (slice_index_or heads k [])
  own_fit [] k all = tt
  own_fit (hs ∷ heads) zero all = all.0
  own_fit (hs ∷ heads) (suc k) all = own_fit heads k all.1

  head_fit : (heads : List (List StreamHead)) (p : Pad) (h : StreamHead) → AllByRecursion Each heads → of_graph_made.head_at heads p ≡ Some h → P h
  head_fit heads p h all e = all_at P (slice_index_or heads p.filter []) p.pad h (own_fit heads p.filter all) e

  pub into_fit : (opens : List Pad) (given : List StreamHead) (heads : List (List StreamHead)) (k i : ℕ) (ss : List (Option Pad)) (xs : List StreamHead) → Each given
      → AllByRecursion Each heads → heads_into opens (map (λ (x : StreamHead). Some x) given) heads k i ss ≡ Some xs → Each xs
  into_fit opens given heads k i [] xs fit all e = subst Each (some_same [] xs e) tt
  into_fit opens given heads k i (s ∷ ss) xs fit all e =
      let both = and_parts (of_graph_made.head_into opens (map (λ (x : StreamHead). Some x) given) heads (record { filter = k; pad = i }) s)
      (heads_into opens (map (λ (x : StreamHead). Some x) given) heads k (suc i) ss) xs e in
      subst Each both.4 (one s both.0 both.2, into_fit opens given heads k (suc i) ss both.1 fit all both.3)
    where
      and_parts : (a : Option StreamHead) (b : Option (List StreamHead)) (xs : List StreamHead) → of_graph_made.and_head a b ≡ Some xs
          → (h : StreamHead) × (hs : List StreamHead) × (a ≡ Some h) × (b ≡ Some hs) × (h ∷ hs ≡ xs)
      and_parts None b xs e = absurd (no_some xs e)
      and_parts (Some h) None xs e = absurd (no_some xs e)
      and_parts (Some h) (Some hs) xs e = (h, hs, refl, refl, some_same (h ∷ hs) xs e)

      one : (s : Option Pad) (h : StreamHead) → of_graph_made.head_into opens (map (λ (x : StreamHead). Some x) given) heads (record { filter = k; pad = i }) s ≡ Some h → P h
      one None h f = given_fit given (pad_place opens (record { filter = k; pad = i })) h fit f
      one (Some p) h f = head_fit heads p h all f

  none_fit : (n : ℕ) → AllByRecursion Each (replicate n [])
  none_fit zero = tt
  none_fit (suc n) = (tt, none_fit n)

  no_filter : (ds : List Seen) (given : List (Option StreamHead)) (heads : List (List StreamHead)) (k : ℕ) (o : Option Seen) (f : Filtered) → made_of ds given heads k o ≡ Ok f
      → (d : Seen) × (o ≡ Some d)
  no_filter ds given heads k None f e = absurd (no_ok fault.UnknownFilter f e)
  no_filter ds given heads k (Some d) f e = (d, refl)

  made_fit : (ds : List Seen) (given : List StreamHead) (m : Made) → Each given → make_all ds (map (λ (x : StreamHead). Some x) given) ≡ Ok m → AllByRecursion Each m.heads
  made_fit ds given m fit e =
      heads_keep ds (map (λ (x : StreamHead). Some x) given) Each
      (λ heads k f all h.
      let d = no_filter ds (map (λ (x : StreamHead). Some x) given) heads k (slice_get ds k) f h in
      let w = made_parts ds (map (λ (x : StreamHead). Some x) given) heads k d.0 f
      (subst (λ (o : Option Seen). made_of ds (map (λ (x : StreamHead). Some x) given) heads k o ≡ Ok f) d.1 h) in
      kept_too P keeps w.name d.0.filter.args w.into f
      (into_fit (open_pads ds) given heads k 0 (slice_index_or (sources_in ds) k []) w.into fit all w.fed) w.is)
      (filter_order ds) (none_made ds) m e (none_fit (length ds))

  abbrev FitOut : of_graph_made.OpenOut → Type 0
  FitOut o = P o.head

  unless_fit : (fed : Bool) (out : of_graph_made.OpenOut) (others : List of_graph_made.OpenOut) → P out.head → AllByRecursion FitOut others
      → AllByRecursion FitOut (unless_fed fed out others)
  unless_fit true out others fit all = all
  unless_fit false out others fit all = (fit, all)

  at_fit : (sources : List (List (Option Pad))) (labels : List (List ℕ)) (k q : ℕ) (hs : List StreamHead) → Each hs → AllByRecursion FitOut (outs_at sources labels k q hs)
  at_fit sources labels k q [] fit = tt
  at_fit sources labels k q (h ∷ hs) fit =
      unless_fit (feeds_one sources (record { filter = k; pad = q })) (record { at = record { filter = k; pad = q }; label = slice_get labels q; head = h })
      (outs_at sources labels k (suc q) hs) fit.0 (at_fit sources labels k (suc q) hs fit.1)

  from_fit : (sources : List (List (Option Pad))) (k : ℕ) (ds : List Seen) (heads : List (List StreamHead)) → AllByRecursion Each heads
      → AllByRecursion FitOut (outs_from sources k ds heads)
  from_fit sources k [] heads all = tt
  from_fit sources k (d ∷ ds) [] all = tt
  from_fit sources k (d ∷ ds) (hs ∷ heads) all =
      all_joined FitOut (outs_at sources d.filter.outs k 0 hs) (outs_from sources (suc k) ds heads) (at_fit sources d.filter.outs k 0 hs all.0)
      (from_fit sources (suc k) ds heads all.1)

  heads_of_outs : (os : List of_graph_made.OpenOut) → AllByRecursion FitOut os → AllByRecursion (λ (out : OpenOut). P out.head) (map output_as os)
  heads_of_outs [] all = tt
  heads_of_outs (o ∷ os) all = (all.0, heads_of_outs os all.1)

  pub kept_by : (g : Graph) (heads : List StreamHead) (outs : List OpenOut) → configured g (map (λ (h : StreamHead). Some h) heads) ≡ Ok outs → Each heads
      → AllByRecursion (λ (out : OpenOut). P out.head) outs
  kept_by g heads outs e fit =
      let w = was_had g (map (λ (h : StreamHead). Some h) heads) outs e in
      let all = made_fit (seen_graph g) heads w.made fit w.is in
      subst (λ (os : List OpenOut). AllByRecursion (λ (out : OpenOut). P out.head) os) (sym w.open_)
      (heads_of_outs (open_outs (seen_graph g) w.made.heads) (from_fit (sources_in (seen_graph g)) 0 (seen_graph g) w.made.heads all))

-- ---- refusals

reason_so : (g : Graph) (heads : List (Option StreamHead)) (r : Refused) → configured g heads ≡ Err r → r.kind ≢ fault.NoMemory
reason_so g heads r e = step (of_graph.loops g || is_empty g) e where
  step : (c : Bool) → (if c then Err (record { filter = 0; kind = fault.Pads }) else outputs_as (of_graph_made.configured g heads)) ≡ Err r → r.kind ≢ fault.NoMemory
  step true f = (let same : fault.Pads ≡ r.kind = cc in λ none. cc)
  step false f = (let k = as_err (of_graph_made.configured g heads) r f in λ none. never_for_memory g heads k.0 k.1 (k.3 ∙ none))

pub keep_heads : KeepHeads graph_rules
keep_heads = record {
  few = λ g heads outs had.
      let w = was_had g heads outs had.2 in
      let few = opens_few (seen_graph g) heads w.made had.0 w.is in
      let size = opens_size g in
      omega (arith, few, size);
  kept = kept_by IsFitHead fit_is_kept;
  taken = λ out g head made e takes. (kept_by (λ h. takes_head out h ≡ true) (taken_is_kept out) g (head ∷ []) (made ∷ []) e (takes, tt)).0;
  reason = reason_so;
}
