-- What the filters of a graph that can be had were made of.
use Rattle.std.proofs.Common.{◌≡◌, ◌≢◌, ◌⊎◌, inl, inr, ℕ, zero, suc, ◌<◌, Bool, true, false, List, [], ◌∷◌, length, replicate, Option, None, Some, Result, Ok, Err, refl, sym, ap, subst, ◌∙◌, arith}
use Rattle.std.specs.Prelude.{slice_get, slice_index_or, slice_set, if◌then◌else◌}
use Rattle.std.specs.List.{AllByRecursion}
use Rattle.std.proofs.lemmas.Bool.{cases_lt}
use Rattle.std.proofs.lemmas.List.{get_or-set_same, get_or-set_other, length-set, length-replicate}
use Rattle.ff_frame.specs.declared.config.ConfigError.{ConfigError}
use Rattle.ff_frame.specs.declared.config.ConfigError.TheVariants as fault
use Rattle.ff_frame.specs.declared.head.StreamHead.{StreamHead}
use Rattle.ff_graph_links.specs.orders.Orders.{is_taken, IsLowestFrom, loops as is_looped}
use Rattle.ff_graph_links.proofs.OrdersLemmas.Lowest.{is_lowest}
use Rattle.ff_graph_links.proofs.OrdersLemmas.Stuck.{taken_at, size_set}
use Rattle.ff_graph_links.specs.pads.Links.{Seen, feeders_from}
use Rattle.ff_filters.specs.declared.name.FilterName.{FilterName}
use Rattle.ff_filters.specs.Names.{filter_named}
use Rattle.ff_filters.specs.Configured.{Filtered}
use Rattle.ff_filters.specs.Makes.{configured_as}
use Rattle.ff_graph.specs.Opens.{feeders_in, filter_order, sources_in, open_pads}
use Rattle.ff_graph.specs.Configured.{Made, Refused, heads_into, is_misfit, is_surplus, made_on, made_as, made_of, with_made, behind, make_from}
use Rattle.ff_plan_rules.proofs.Lists.{never, same_ok, no_ok}

-- ---- one filter

-- what a filter was made of
pub record IsMadeOf (ds : List Seen) (given : List (Option StreamHead)) (heads : List (List StreamHead)) (k : ℕ) (d : Seen) (f : Filtered) : Type 0 where
  pub name : FilterName
  pub named : filter_named d.filter.name ≡ Some name
  pub fits : is_misfit ds (open_pads ds) k d ≡ false
  pub into : List StreamHead
  pub fed : heads_into (open_pads ds) given heads k 0 (slice_index_or (sources_in ds) k []) ≡ Some into
  pub enough : is_surplus name d into ≡ false
  pub is : configured_as name d.filter.args into ≡ Ok f

unless_so : {X : Type 0} (c : Bool) (e : ConfigError) (r : Result X ConfigError) (x : X) → (if c then Err e else r) ≡ Ok x → (c ≡ false) × (r ≡ Ok x)
unless_so true e r x h = absurd (no_ok e x h)
unless_so false e r x h = (refl, h)

pub made_parts : (ds : List Seen) (given : List (Option StreamHead)) (heads : List (List StreamHead)) (k : ℕ) (d : Seen) (f : Filtered)
    → made_of ds given heads k (Some d) ≡ Ok f → IsMadeOf ds given heads k d f
made_parts ds given heads k d f e = by_name (filter_named d.filter.name) refl e where
  by_heads : (name : FilterName) → filter_named d.filter.name ≡ Some name → is_misfit ds (open_pads ds) k d ≡ false → (o : Option (List StreamHead))
      → heads_into (open_pads ds) given heads k 0 (slice_index_or (sources_in ds) k []) ≡ o → made_on name d o ≡ Ok f → IsMadeOf ds given heads k d f
  by_heads name n m None h g = absurd (no_ok fault.Pads f g)
  by_heads name n m (Some hs) h g =
      let u = unless_so (is_surplus name d hs) fault.Pads (configured_as name d.filter.args hs) f g in
      record { name = name; named = n; fits = m; into = hs; fed = h; enough = u.0; is = u.1 }

  by_fit : (name : FilterName) → filter_named d.filter.name ≡ Some name → (c : Bool) → is_misfit ds (open_pads ds) k d ≡ c
      → made_as (Some name) c d (heads_into (open_pads ds) given heads k 0 (slice_index_or (sources_in ds) k [])) ≡ Ok f → IsMadeOf ds given heads k d f
  by_fit name n true m g = absurd (no_ok fault.Pads f g)
  by_fit name n false m g = by_heads name n m (heads_into (open_pads ds) given heads k 0 (slice_index_or (sources_in ds) k [])) refl g

  by_name : (o : Option FilterName) → filter_named d.filter.name ≡ o
      → made_as o (is_misfit ds (open_pads ds) k d) d (heads_into (open_pads ds) given heads k 0 (slice_index_or (sources_in ds) k [])) ≡ Ok f → IsMadeOf ds given heads k d f
  by_name None n g = absurd (no_ok fault.UnknownFilter f g)
  by_name (Some name) n g = by_fit name n (is_misfit ds (open_pads ds) k d) refl g

-- ---- all filters

behind_ok : (made : Made) (k : ℕ) (r : Result Filtered ConfigError) (others : Made → Result Made Refused) (m : Made) → behind made k r others ≡ Ok m
    → (f : Filtered) × (r ≡ Ok f) × (others (with_made made k f) ≡ Ok m)
behind_ok made k (Err x) others m e = absurd (no_ok (record { filter = k; kind = x }) m e)
behind_ok made k (Ok f) others m e = (f, refl, e)

set_all : {A : Type 0} (P : A → Type 0) (xs : List A) (k : ℕ) (x : A) → AllByRecursion P xs → P x → AllByRecursion P (slice_set xs k x)
set_all P [] k x all p = tt
set_all P (y ∷ xs) zero x all p = (p, all.1)
set_all P (y ∷ xs) (suc k) x all p = (all.0, set_all P xs k x all.1 p)

same_or_other : (a b : ℕ) → (a ≡ b) ⊎ (b ≢ a)
same_or_other a b = elim (cases_lt a b) [
  | inl lt ↦ inr (λ e. absurd (omega (arith, lt, e)))
  | inr le ↦ elim (cases_lt b a) [ inl lt ↦ inr (λ e. absurd (omega (arith, lt, e))) | inr ge ↦ inl (omega (arith, le, ge)) ]
]

module _ (ds : List Seen) (given : List (Option StreamHead)) where
  -- a filter of the order was made
  pub was_made : (ks : List ℕ) (made m : Made) → make_from ds given made ks ≡ Ok m → (j k : ℕ) → slice_get ks j ≡ Some k
      → (heads : List (List StreamHead)) × (f : Filtered) × (made_of ds given heads k (slice_get ds k) ≡ Ok f)
  was_made [] made m e j k at = absurd cc
  was_made (i ∷ ks) made m e zero k at =
      let b = behind_ok made i (made_of ds given made.heads i (slice_get ds i)) (λ n. make_from ds given n ks) m e in
      let same : i ≡ k = cc in
      (made.heads, b.0, subst (λ (n : ℕ). made_of ds given made.heads n (slice_get ds n) ≡ Ok b.0) same b.1)
  was_made (i ∷ ks) made m e (suc j) k at =
      let b = behind_ok made i (made_of ds given made.heads i (slice_get ds i)) (λ n. make_from ds given n ks) m e in
      was_made ks (with_made made i b.0) m b.2 j k at

  -- what each filter keeps, all do
  pub heads_keep : (P : List StreamHead → Type 0)
      → ((heads : List (List StreamHead)) (k : ℕ) (f : Filtered) → AllByRecursion P heads → made_of ds given heads k (slice_get ds k) ≡ Ok f → P f.outs)
      → (ks : List ℕ) (made m : Made) → make_from ds given made ks ≡ Ok m → AllByRecursion P made.heads → AllByRecursion P m.heads
  heads_keep P each [] made m e all = subst (λ (n : Made). AllByRecursion P n.heads) (same_ok made m e) all
  heads_keep P each (i ∷ ks) made m e all =
      let b = behind_ok made i (made_of ds given made.heads i (slice_get ds i)) (λ n. make_from ds given n ks) m e in
      heads_keep P each ks (with_made made i b.0) m b.2 (set_all P made.heads i b.0.outs all (each made.heads i b.0 all b.1))

  pub heads_stay : (ks : List ℕ) (made m : Made) → make_from ds given made ks ≡ Ok m → length m.heads ≡ length made.heads
  heads_stay [] made m e = ap (λ (n : Made). length n.heads) (sym (same_ok made m e))
  heads_stay (i ∷ ks) made m e =
      let b = behind_ok made i (made_of ds given made.heads i (slice_get ds i)) (λ n. make_from ds given n ks) m e in
      heads_stay ks (with_made made i b.0) m b.2 ∙ length-set made.heads i b.0.outs

  -- what the outputs of a filter are when it is made, they are in the end
  module _ (Q : ℕ → List StreamHead → Type 0)
      (each : (heads : List (List StreamHead)) (k : ℕ) (f : Filtered) → made_of ds given heads k (slice_get ds k) ≡ Ok f → Q k f.outs) where
    stays : (ks : List ℕ) (made m : Made) → make_from ds given made ks ≡ Ok m → (k : ℕ) → k < length made.heads → Q k (slice_index_or made.heads k [])
        → Q k (slice_index_or m.heads k [])
    stays [] made m e k lt q = subst (λ (n : Made). Q k (slice_index_or n.heads k [])) (same_ok made m e) q
    stays (i ∷ ks) made m e k lt q =
        let b = behind_ok made i (made_of ds given made.heads i (slice_get ds i)) (λ n. make_from ds given n ks) m e in
        let size = length-set made.heads i b.0.outs in
        stays ks (with_made made i b.0) m b.2 k (omega (arith, size, lt)) (kept b.0 (each made.heads i b.0 b.1) (same_or_other i k))
      where
        kept : (f : Filtered) → Q i f.outs → (i ≡ k) ⊎ (k ≢ i) → Q k (slice_index_or (slice_set made.heads i f.outs) k [])
        kept f own (inl same) =
            subst (λ (n : ℕ). Q n (slice_index_or (slice_set made.heads i f.outs) n [])) same
            (subst (λ (hs : List StreamHead). Q i hs) (sym (get_or-set_same made.heads i f.outs [] (omega (arith, same, lt)))) own)
        kept f own (inr other) = subst (λ (hs : List StreamHead). Q k hs) (sym (get_or-set_other made.heads i k f.outs [] other)) q

    pub outputs_are : (ks : List ℕ) (made m : Made) → make_from ds given made ks ≡ Ok m → (j k : ℕ) → slice_get ks j ≡ Some k → k < length made.heads
        → Q k (slice_index_or m.heads k [])
    outputs_are [] made m e j k at lt = absurd cc
    outputs_are (i ∷ ks) made m e zero k at lt =
        let b = behind_ok made i (made_of ds given made.heads i (slice_get ds i)) (λ n. make_from ds given n ks) m e in
        let size = length-set made.heads i b.0.outs in
        let same : i ≡ k = cc in
        let own : Q i (slice_index_or (slice_set made.heads i b.0.outs) i []) =
        subst (λ (hs : List StreamHead). Q i hs) (sym (get_or-set_same made.heads i b.0.outs [] (omega (arith, same, lt)))) (each made.heads i b.0 b.1) in
        stays ks (with_made made i b.0) m b.2 k (omega (arith, size, lt)) (subst (λ (n : ℕ). Q n (slice_index_or (slice_set made.heads i b.0.outs) n [])) same own)
    outputs_are (i ∷ ks) made m e (suc j) k at lt =
        let b = behind_ok made i (made_of ds given made.heads i (slice_get ds i)) (λ n. make_from ds given n ks) m e in
        let size = length-set made.heads i b.0.outs in
        outputs_are ks (with_made made i b.0) m b.2 j k at (omega (arith, size, lt))

-- ---- each filter is in the order

reaches : (feeders : List (List ℕ)) (taken : List Bool) (ks : List ℕ) (k : ℕ) → IsLowestFrom feeders taken ks → k < length taken → is_taken taken k ≡ false
    → (j : ℕ) × (slice_get ks j ≡ Some k)
reaches feeders taken [] k all lt e = absurd (never (sym (taken_at taken k lt all) ∙ e))
reaches feeders taken (i ∷ ks) k h lt e = at (same_or_other i k) (reaches feeders (slice_set taken i true) ks k h.3) where
  at : (i ≡ k) ⊎ (k ≢ i) → (k < length (slice_set taken i true) → is_taken (slice_set taken i true) k ≡ false → (j : ℕ) × (slice_get ks j ≡ Some k))
      → (j : ℕ) × (slice_get (i ∷ ks) j ≡ Some k)
  at (inl same) more = (0, ap (λ (n : ℕ). Some n) same)
  at (inr other) more =
      let size = size_set taken i true in
      let r = more (omega (arith, size, lt)) (get_or-set_other taken i k true false other ∙ e) in
      (suc r.0, r.1)

none_yet : (n k : ℕ) → is_taken (replicate n false) k ≡ false
none_yet zero k = refl
none_yet (suc n) zero = refl
none_yet (suc n) (suc k) = none_yet n k

feeders_size : (ds : List Seen) (k : ℕ) (rest : List Seen) → length (feeders_from ds k rest) ≡ length rest
feeders_size ds k [] = refl
feeders_size ds k (d ∷ rest) = ap (λ (n : ℕ). suc n) (feeders_size ds (suc k) rest)

pub in_order : (ds : List Seen) → is_looped (feeders_in ds) ≡ false → (k : ℕ) → k < length ds → (j : ℕ) × (slice_get (filter_order ds) j ≡ Some k)
in_order ds e k lt =
    let size = feeders_size ds 0 ds in
    let none = length-replicate (length (feeders_in ds)) false in
    reaches (feeders_in ds) (replicate (length (feeders_in ds)) false) (filter_order ds) k (is_lowest (feeders_in ds) e) (omega (arith, size, none, lt))
    (none_yet (length (feeders_in ds)) k)
