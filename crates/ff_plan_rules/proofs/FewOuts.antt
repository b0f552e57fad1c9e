-- A graph that a word of a command can write gives few streams, and where a filter of it is refused, its number is small.
use Rattle.std.proofs.Common.{◌≡◌, ℕ, zero, suc, ◌*◌, ◌^◌, ◌<◌, ◌≤◌, Bool, true, false, List, [], ◌∷◌, map, length, replicate, Option, None, Some, Result, Ok, Err, refl, sym, ap, subst, ◌∙◌, arith, length-append}
use Rattle.std.specs.Prelude.{slice_get, slice_index_or, ◌||◌, if◌then◌else◌}
use Rattle.std.specs.List.{AllByRecursion}
use Rattle.std.proofs.lemmas.List.{length-map, length-replicate}
use Rattle.ff_frame.specs.declared.config.ConfigError.{ConfigError}
use Rattle.ff_frame.specs.declared.config.ConfigError.TheVariants as fault
use Rattle.ff_frame.specs.declared.head.StreamHead.{StreamHead}
use Rattle.ff_frame.specs.declared.head.StreamHead.TheVariants.{Audio, Video}
use Rattle.ff_lang.specs.declared.graph.Arg.{Arg}
use Rattle.ff_lang.specs.declared.graph.Filter.{Filter}
use Rattle.ff_lang.specs.declared.graph.Graph.{Graph}
use Rattle.ff_graph_links.specs.labels.Labels.{filters_of}
use Rattle.ff_afilter.specs.Channels.{channels_in}
use Rattle.ff_graph_links.specs.declared.pads.drawn.Pad.{Pad}
use Rattle.ff_graph_links.specs.pads.Links.{Seen}
use Rattle.ff_filters.specs.declared.name.FilterName.{FilterName}
use Rattle.ff_filters.specs.Configured.{Filtered}
use Rattle.ff_filters.specs.Makes.{configured_as}
use Rattle.ff_filters.specs.Pads.{is_apart, outputs_of}
use Rattle.ff_filters.proofs.Owing.{Counted, AreFew}
use Rattle.ff_filters.proofs.Owed.{owed, gives, kept_too}
use Rattle.ff_graph.specs.Drawings.{seen_graph}
use Rattle.ff_graph.specs.Opens as of_graph
use Rattle.ff_graph.specs.Opens.{filter_order, sources_in, open_pads}
use Rattle.ff_graph.specs.Configured as of_graph_made
use Rattle.ff_graph.specs.Configured.{Made, made_of, none_made, make_all, feeds_one, unless_fed, outs_at, outs_from, open_outs}
use Rattle.ff_graph.proofs.Refusals.{refused_there}
use Rattle.ff_plan_layout.specs.declared.open_pads.OpenOut.{OpenOut}
use Rattle.ff_plan_layout.specs.declared.open_pads.Refused.{Refused}
use Rattle.ff_plan_rules.specs.Kept.{IsFitHead, AreFitHeads}
use Rattle.ff_plan_rules.specs.Rules.{output_as, outputs_as, is_empty, configured}
use Rattle.ff_plan_rules.proofs.Lists.{no_ok, all_more}
use Rattle.ff_plan_rules.proofs.Making.{made_parts, heads_keep}
use Rattle.ff_plan_rules.proofs.KeptHeads.{fit_is_kept}
use Rattle.ff_plan_rules.proofs.Keeping.{into_fit}
use Rattle.ff_plan_rules.proofs.Had.{graph_written, as_err, was_had}

abbrev IsFew : List StreamHead → Type 0
IsFew hs = length hs ≤ 16

-- ---- of one filter

fit_few : (h : StreamHead) → IsFitHead h → channels_in h ≤ 16
fit_few (Audio tb rate bits channels codec) fit = (let few : channels ≤ 8 = fit.channels.1 in omega (arith, few))
fit_few (Video tb format width height sar_num sar_den) fit = omega arith

count_few : (apart : Bool) (first : StreamHead) (others : List StreamHead) (given said : ℕ) → Counted apart first others given said → AreFew apart said → IsFitHead first
    → given ≤ 16
count_few false first others given said c few fit = (let le = few.1 in omega (arith, c, le))
count_few true first others given said c few fit = (let le = fit_few first fit in let size = c.2 in omega (arith, le, size))

gives_few : (name : FilterName) (args : List Arg) (heads : List StreamHead) (f : Filtered) → AreFitHeads heads → configured_as name args heads ≡ Ok f → IsFew f.outs
gives_few name args heads f all e =
    let g = gives name args heads f e in
    count_few (is_apart name) g.first g.others (length f.outs) (outputs_of name args) g.count ((owed name).outputs args) (subst AreFitHeads g.fed all).0

-- ---- of a graph

abbrev AreFitFew : List StreamHead → Type 0
AreFitFew hs = AreFitHeads hs × IsFew hs

none_few : (n : ℕ) → AllByRecursion AreFitFew (replicate n [])
none_few zero = tt
none_few (suc n) = ((tt, omega arith), none_few n)

there_is : (ds : List Seen) (given : List (Option StreamHead)) (heads : List (List StreamHead)) (k : ℕ) (o : Option Seen) (f : Filtered) → made_of ds given heads k o ≡ Ok f
    → (d : Seen) × (o ≡ Some d)
there_is ds given heads k None f e = absurd (no_ok fault.UnknownFilter f e)
there_is ds given heads k (Some d) f e = (d, refl)

made_few : (ds : List Seen) (given : List StreamHead) (m : Made) → AreFitHeads given → make_all ds (map (λ (x : StreamHead). Some x) given) ≡ Ok m → AllByRecursion AreFitFew m.heads
made_few ds given m fit e =
    heads_keep ds (map (λ (x : StreamHead). Some x) given) AreFitFew
    (λ heads k f all h.
    let d = there_is ds (map (λ (x : StreamHead). Some x) given) heads k (slice_get ds k) f h in
    let w = made_parts ds (map (λ (x : StreamHead). Some x) given) heads k d.0 f
    (subst (λ (o : Option Seen). made_of ds (map (λ (x : StreamHead). Some x) given) heads k o ≡ Ok f) d.1 h) in
    let into = into_fit IsFitHead fit_is_kept (open_pads ds) given heads k 0 (slice_index_or (sources_in ds) k []) w.into fit
    (all_more AreFitFew AreFitHeads heads (λ hs b. b.0) all) w.fed in
    (kept_too IsFitHead fit_is_kept w.name d.0.filter.args w.into f into w.is, gives_few w.name d.0.filter.args w.into f into w.is))
    (filter_order ds) (none_made ds) m e (none_few (length ds))

unless_few : (fed : Bool) (out : of_graph_made.OpenOut) (others : List of_graph_made.OpenOut) → length (unless_fed fed out others) ≤ suc (length others)
unless_few true out others = omega arith
unless_few false out others = omega arith

at_few : (sources : List (List (Option Pad))) (labels : List (List ℕ)) (k q : ℕ) (hs : List StreamHead) → length (outs_at sources labels k q hs) ≤ length hs
at_few sources labels k q [] = omega arith
at_few sources labels k q (h ∷ hs) =
    let one = unless_few (feeds_one sources (record { filter = k; pad = q })) (record { at = record { filter = k; pad = q }; label = slice_get labels q; head = h })
    (outs_at sources labels k (suc q) hs) in
    let others = at_few sources labels k (suc q) hs in
    omega (arith, one, others)

from_few : (sources : List (List (Option Pad))) (k : ℕ) (ds : List Seen) (heads : List (List StreamHead)) → AllByRecursion AreFitFew heads
    → length (outs_from sources k ds heads) ≤ 16 * length ds
from_few sources k [] heads all = omega arith
from_few sources k (d ∷ ds) [] all = omega arith
from_few sources k (d ∷ ds) (hs ∷ heads) all =
    let joined = length-append (outs_at sources d.filter.outs k 0 hs) (outs_from sources (suc k) ds heads) in
    let own = at_few sources d.filter.outs k 0 hs in
    let few = all.0.1 in
    let others = from_few sources (suc k) ds heads all.1 in
    omega (arith, joined, own, few, others)

graph_size : (g : Graph) → length (seen_graph g) ≡ length (filters_of g)
graph_size g =
    sym (length-map (seen_graph g) (λ (d : Seen). d.filter)) ∙ ap (λ (fs : List Filter). length fs) (graph_written g)

pub outs_few : (g : Graph) (heads : List StreamHead) (outs : List OpenOut) → length (filters_of g) ≤ 65536 → AreFitHeads heads
    → configured g (map (λ (h : StreamHead). Some h) heads) ≡ Ok outs → length outs ≤ 2 ^ 20
outs_few g heads outs few fit e =
    let w = was_had g (map (λ (h : StreamHead). Some h) heads) outs e in
    let most = from_few (sources_in (seen_graph g)) 0 (seen_graph g) w.made.heads (made_few (seen_graph g) heads w.made fit w.is) in
    let same = ap (λ (os : List OpenOut). length os) w.open_ in
    let long = length-map (open_outs (seen_graph g) w.made.heads) output_as in
    let size = graph_size g in
    omega (arith, most, same, long, size, few)

-- ---- the number of a filter that is refused

pub number_small : (g : Graph) (heads : List (Option StreamHead)) (r : Refused) → length (filters_of g) ≤ 65536 → configured g heads ≡ Err r → r.filter < 65536
number_small g heads r few e = step (of_graph.loops g || is_empty g) e where
  step : (c : Bool) → (if c then Err (record { filter = 0; kind = fault.Pads }) else outputs_as (of_graph_made.configured g heads)) ≡ Err r → r.filter < 65536
  step true f =
      let first : (let z : Refused = record { filter = 0; kind = fault.Pads } in z) ≡ r = cc in
      let zero_ : 0 ≡ r.filter = ap (λ (z : Refused). z.filter) first in
      omega (arith, zero_)
  step false f =
      let k = as_err (of_graph_made.configured g heads) r f in
      let there = refused_there g heads k.0 k.1 in
      let same = k.2 in
      let size = graph_size g in
      omega (arith, there, same, size, few)
