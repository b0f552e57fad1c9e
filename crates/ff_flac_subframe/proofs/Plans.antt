use Rattle.std.proofs.Common.{◌≡◌, ℕ, suc, ◌+◌, ◌-◌, ◌*◌, ◌^◌, ◌<◌, ◌≤◌, min, Bool, true, false, ltb, leb, cond, ℤ, List, [], ◌∷◌, ◌++◌, length, get_or, map, take, Option, Some, None, refl, sym, ap, ◌∙◌, subst, arith, inl, inr}
use Rattle.std.specs.Option.{option_map, IfSome}
use Rattle.std.specs.List.{flat_map, filter, range_with_len, All, AllByRecursion}
use Rattle.std.proofs.lemmas.List.{length-append, length-take, length-map, append_assoc, append-nil, get_or_append_left, get_or_push}
use Rattle.std.proofs.lemmas.List.Concat.{flat_map-append}
use Rattle.std.proofs.lemmas.List.Elements.{filter-append, All-weaker, All-same}
use Rattle.std.proofs.Math.Nat.{pow-suc, pow-le-pow_right}
use Rattle.std.proofs.lemmas.Bool.{lt-ltb, le-ltb, cases_lt}
use Rattle.ff_bits.specs.Bits.{bits_of}
use Rattle.ff_bits.proofs.BitsLemmas.{length-bits_of}
use Rattle.ff_flac_subframe.specs.declared.subframe.Planned.{Planned}
use Rattle.ff_flac_subframe.specs.declared.subframe.Plan.TheVariants.{Verbatim}
use Rattle.ff_flac_subframe.specs.rice.Least.{choose, least}
use Rattle.ff_flac_subframe.specs.rice.Rice.{zigzagged, Coding, codings, residual_bits, best_at}
use Rattle.ff_frame.specs.Audio.{FitsBits}
use Rattle.ff_flac_subframe.specs.Subframe.{Spelling, magnitude, steps, subframe_bits, sample_bits, rest_of, fixed_of, predictors, candidates, all_are, first_or_zero}
use Rattle.ff_flac_subframe.specs.Subframe.Spelling.{constant, fixed, verbatim}
use Rattle.ff_flac_subframe.specs.laws.Plan.{spelling_of, size, IsBestPlan, PlanFits, constants}
use Rattle.ff_flac_subframe.specs.laws.Leads.{so_far, IsFloor, Leads}
use Rattle.ff_flac_subframe.proofs.RiceLemmas.LeastLemmas.{choose_first, choose_second, choose_assoc, least-append, least-map, least-same, least-shift, least_holds, least_one, least-nil, choose-map, range_more}
use Rattle.ff_flac_subframe.proofs.RiceLemmas.Levels.{coding_cost}
use Rattle.ff_flac_subframe.proofs.RiceLemmas.Orders.{filter_all, filter_none, range_between, range_split}
use Rattle.ff_flac_subframe.proofs.RiceLemmas.PartLemmas.{range_below}
use Rattle.ff_flac_subframe.proofs.Predict.{magnitude_of, fits_of, length-samples, length-sample_bits, length-rest_of, steps_small, steps_zigzags, rest_of-suc}

pow_two : (m n : ℕ) → n ≡ suc m → 2 ^ n ≡ 2 * 2 ^ m
pow_two m n e = ap (λ k. 2 ^ k) e ∙ omega (arith, pow-suc 2 m)

pow_le : (i j : ℕ) → i ≤ j → 2 ^ i ≤ 2 ^ j
pow_le i j h = pow-le-pow_right (omega arith) h

-- ---- sizes

pub size-constant : (depth : ℕ) (xs : List ℤ) → size depth xs constant ≡ 8 + depth
unfolding subframe_bits
size-constant depth xs =
    length-append (bits_of 8 0) (sample_bits depth (first_or_zero xs)) ∙ omega (arith, length-bits_of 8 0, length-sample_bits depth (first_or_zero xs))

pub size-verbatim : (depth : ℕ) (xs : List ℤ) → size depth xs verbatim ≡ 8 + depth * length xs
unfolding subframe_bits
size-verbatim depth xs =
    length-append (bits_of 8 2) (flat_map (sample_bits depth) xs) ∙ omega (arith, length-bits_of 8 2, length-samples depth xs)

pub size-fixed : (depth order : ℕ) (xs : List ℤ) (c : Coding) → order ≤ length xs
    → size depth xs (fixed order c) ≡ (8 + depth * order) + length (residual_bits order c (map zigzagged (rest_of order xs)))
unfolding subframe_bits
size-fixed depth order xs c h =
    let us : List ℕ = map zigzagged (rest_of order xs) in
    let warm : List Bool = flat_map (sample_bits depth) (take order xs) in
    let n : length (take order xs) ≡ order = omega (arith, length-take order xs, h) in
    length-append (bits_of 8 (16 + 2 * order) ++ warm) (residual_bits order c us)
    ∙ omega (arith, length-append (bits_of 8 (16 + 2 * order)) warm, length-bits_of 8 (16 + 2 * order), length-samples depth (take order xs), ap (λ m. depth * m) n)

-- ---- the best of one order

pub least-fixed_of : (depth order method partition_order : ℕ) (xs : List ℤ) (us : List ℕ) → order ≤ length xs → us ≡ map zigzagged (rest_of order xs)
    → least (coding_cost order us) (codings (length us + order) order) ≡ Some (best_at order method partition_order us)
    → least (size depth xs) (fixed_of (length xs) order) ≡ Some (fixed order (best_at order method partition_order (map zigzagged (rest_of order xs))))
unfolding fixed_of
least-fixed_of depth order method partition_order xs us h e b =
    let n : length us + order ≡ length xs = omega (arith, ap length e, length-map (rest_of order xs) zigzagged, length-rest_of order xs, h) in
    let vs : List ℕ = map zigzagged (rest_of order xs) in
    let b' : least (coding_cost order vs) (codings (length xs) order) ≡ Some (best_at order method partition_order vs) =
    sym (ap (λ m. least (coding_cost order vs) (codings m order)) n) ∙ sym (ap (λ l. least (coding_cost order l) (codings (length us + order) order)) e) ∙ b ∙ ap (λ l. Some (best_at order method partition_order l)) e in
    least-map (size depth xs) (fixed order) (codings (length xs) order)
    ∙ ap (option_map (fixed order))
    (least-same (λ c. size depth xs (fixed order c)) (λ c. (8 + depth * order) + coding_cost order vs c) (codings (length xs) order) (λ c. size-fixed depth order xs c h)
    ∙ least-shift (8 + depth * order) (coding_cost order vs) (codings (length xs) order)
    ∙ b')

pub cost-fixed : (depth order method partition_order cost : ℕ) (xs : List ℤ) (us : List ℕ) → order ≤ length xs → us ≡ map zigzagged (rest_of order xs)
    → cost ≡ length (residual_bits order (best_at order method partition_order us) us)
    → 8 + depth * order + cost ≡ size depth xs (fixed order (best_at order method partition_order (map zigzagged (rest_of order xs))))
cost-fixed depth order method partition_order cost xs us h e c =
    ap (λ n. 8 + depth * order + n) (c ∙ ap (λ l. length (residual_bits order (best_at order method partition_order l) l)) e)
    ∙ sym (size-fixed depth order xs (best_at order method partition_order (map zigzagged (rest_of order xs))) h)

-- ---- one candidate after another

choice_costs : (f : Planned → ℕ) (best : Option Planned) (new : Planned) → IfSome best (λ p. p.cost ≡ f p) → new.cost ≡ f new
    → choose f best (Some new) ≡ choose (λ p. p.cost) best (Some new)
choice_costs f None new h e = refl
choice_costs f (Some old) new h e =
    ap (λ n. cond (leb n (f new)) (Some old) (Some new)) (sym h) ∙ ap (λ n. cond (leb old.cost n) (Some old) (Some new)) (sym e)

chosen_holds : (P : Planned → Type 0) (best : Option Planned) (new : Planned) → IfSome best P → P new → IfSome (choose (λ p. p.cost) best (Some new)) P
chosen_holds P None new h e = e
chosen_holds P (Some old) new h e =
    elim (leb old.cost new.cost) as (λ t. IfSome (cond t (Some old) (Some new)) P) [ true ↦ h | false ↦ e ]

pub plan_next : (depth : ℕ) (xs : List ℤ) (cs ds : List Spelling) (best : Option Planned) (new result : Planned) → IsBestPlan depth xs cs best
    → least (size depth xs) ds ≡ Some (spelling_of xs new.plan) → new.cost ≡ size depth xs (spelling_of xs new.plan) → PlanFits xs new.plan
    → choose (λ p. p.cost) best (Some new) ≡ Some result → IsBestPlan depth xs (cs ++ ds) (Some result)
plan_next depth xs cs ds best new result h d c w r =
    let g : Planned → Spelling = λ p. spelling_of xs p.plan in
    let f : Planned → ℕ = λ p. size depth xs (g p) in
    record {
      chosen =
          least-append (size depth xs) cs ds
          ∙ ap (λ o. choose (size depth xs) o (least (size depth xs) ds)) h.chosen
          ∙ ap (choose (size depth xs) (option_map g best)) d
          ∙ choose-map (size depth xs) g best (Some new)
          ∙ ap (option_map g) (choice_costs f best new h.cost c ∙ r);
      cost = subst (λ o. IfSome o (λ p. p.cost ≡ f p)) r (chosen_holds (λ p. p.cost ≡ f p) best new h.cost c);
      fits = subst (λ o. IfSome o (λ p. PlanFits xs p.plan)) r (chosen_holds (λ p. PlanFits xs p.plan) best new h.fits w);
    }

stays : (f : Spelling → ℕ) (a : Spelling) (o : Option Spelling) → IfSome o (λ b. f a ≤ f b) → choose f (Some a) o ≡ Some a
stays f a None h = refl
stays f a (Some b) h = choose_first f a b h

-- none of the rest has fewer bits
pub plan_stays : (depth : ℕ) (xs : List ℤ) (cs ds : List Spelling) (best : Option Planned) (p : Planned) → best ≡ Some p
    → AllByRecursion (λ s. p.cost ≤ size depth xs s) ds → IsBestPlan depth xs cs best → IsBestPlan depth xs (cs ++ ds) best
plan_stays depth xs cs ds best p e low h =
    let g : Planned → Spelling = λ p. spelling_of xs p.plan in
    let cost : p.cost ≡ size depth xs (g p) = subst (λ o. IfSome o (λ p. p.cost ≡ size depth xs (g p))) e h.cost in
    let above : AllByRecursion (λ s. size depth xs (g p) ≤ size depth xs s) ds = subst (λ n. AllByRecursion (λ s. n ≤ size depth xs s) ds) cost low in
    record {
      chosen =
          least-append (size depth xs) cs ds
          ∙ ap (λ o. choose (size depth xs) o (least (size depth xs) ds)) (h.chosen ∙ ap (option_map g) e)
          ∙ stays (size depth xs) (g p) (least (size depth xs) ds) (least_holds (λ s. size depth xs (g p) ≤ size depth xs s) (size depth xs) ds above)
          ∙ sym (ap (option_map g) e);
      cost = h.cost;
      fits = h.fits;
    }

-- as the codings of an order cost, so do its spellings
all_fixed : (depth order low : ℕ) (xs : List ℤ) (cs : List Coding) → order ≤ length xs
    → AllByRecursion (λ c. low ≤ coding_cost order (map zigzagged (rest_of order xs)) c) cs → AllByRecursion (λ s. 8 + depth * order + low ≤ size depth xs s) (map (fixed order) cs)
all_fixed depth order low xs [] h all = tt
all_fixed depth order low xs (c ∷ cs) h all = (omega (arith, all.0, size-fixed depth order xs c h), all_fixed depth order low xs cs h all.1)

pub floor_is : (depth order floor : ℕ) (xs rest : List ℤ) → order ≤ length xs → rest ≡ rest_of order xs
    → AllByRecursion (λ c. floor ≤ length (residual_bits order c (map zigzagged rest))) (codings (length rest + order) order)
    → IsFloor depth xs order (8 + depth * order + floor)
unfolding fixed_of
floor_is depth order floor xs rest h e low =
    let n : length rest + order ≡ length xs = omega (arith, ap length e, length-rest_of order xs, h) in
    let all : AllByRecursion (λ c. floor ≤ coding_cost order (map zigzagged (rest_of order xs)) c) (codings (length xs) order) =
    subst (λ m. AllByRecursion (λ c. floor ≤ coding_cost order (map zigzagged (rest_of order xs)) c) (codings m order)) n
    (subst (λ l. AllByRecursion (λ c. floor ≤ coding_cost order (map zigzagged l) c) (codings (length rest + order) order)) e low) in
    all_fixed depth order floor xs (codings (length xs) order) h all

pub same_spellings : (depth : ℕ) (xs : List ℤ) (cs ds : List Spelling) (best : Option Planned) → cs ≡ ds → IsBestPlan depth xs cs best → IsBestPlan depth xs ds best
same_spellings depth xs cs ds best e h = subst (λ l. IsBestPlan depth xs l best) e h

-- ---- the orders

pub predictors-is : (n : ℕ) → predictors n ≡ range_with_len 0 (min n 5)
unfolding predictors
predictors-is n =
    let t : ℕ → Bool = λ order. ltb order n in
    let p : ℕ = min n 5 in
    let e : p + (5 - p) ≡ 5 = omega arith in
    let front : AllByRecursion (λ k. t k ≡ true) (range_with_len 0 p) = range_below (λ k. t k ≡ true) 0 p (λ k h. lt-ltb k n (omega arith)) in
    let back : AllByRecursion (λ k. t k ≡ false) (range_with_len (0 + p) (5 - p)) = range_between (λ k. t k ≡ false) (0 + p) (5 - p) (λ k g l. le-ltb k n (omega arith)) in
    ap (λ m. filter t (range_with_len 0 m)) (sym e)
    ∙ ap (filter t) (range_split 0 p (5 - p))
    ∙ filter-append t (range_with_len 0 p) (range_with_len (0 + p) (5 - p))
    ∙ ap (λ l. l ++ filter t (range_with_len (0 + p) (5 - p))) (filter_all t _ front)
    ∙ ap (λ l. range_with_len 0 p ++ l) (filter_none t _ back)
    ∙ append-nil (range_with_len 0 p)

pub so_far-none : (xs : List ℤ) → so_far xs 0 ≡ constants xs
so_far-none xs = append-nil (constants xs)

pub so_far-more : (xs : List ℤ) (order : ℕ) → so_far xs order ++ fixed_of (length xs) order ≡ so_far xs (order + 1)
so_far-more xs order =
    let F : ℕ → List Spelling = fixed_of (length xs) in
    append_assoc (constants xs) (flat_map F (range_with_len 0 order)) (F order)
    ∙ ap (λ l. constants xs ++ (flat_map F (range_with_len 0 order) ++ l)) (sym (append-nil (F order)))
    ∙ ap (λ l. constants xs ++ l) (sym (flat_map-append F (range_with_len 0 order) (order ∷ [])))
    ∙ ap (λ l. constants xs ++ flat_map F l) (sym (range_more order))

-- ---- where another order is known

higher : (f : Spelling → ℕ) (d : Spelling) (o : Option Spelling) → IfSome o (λ b. f d < f b) → choose f o (Some d) ≡ Some d
higher f d None h = refl
higher f d (Some b) h = choose_second f b d h

leads_start : (depth limit : ℕ) (xs : List ℤ) (cs : List Spelling) (best : Option Planned) → IsBestPlan depth xs cs best → Leads depth xs limit cs best
leads_start depth limit xs cs best h = record {
  leads = λ ds d e l. least-append (size depth xs) cs ds ∙ ap (λ o. choose (size depth xs) o (least (size depth xs) ds)) h.chosen
      ∙ ap (choose (size depth xs) (option_map (λ p. spelling_of xs p.plan) best)) e;
  cost = h.cost;
  fits = h.fits;
}

pub leads_none : (depth limit : ℕ) (xs : List ℤ) (best : Option Planned) → IsBestPlan depth xs (constants xs) best → Leads depth xs limit (so_far xs 0) best
leads_none depth limit xs best h = leads_start depth limit xs (so_far xs 0) best (subst (λ l. IsBestPlan depth xs l best) (sym (so_far-none xs)) h)

all_above : (depth floor : ℕ) (xs : List ℤ) (d : Spelling) (es : List Spelling) → size depth xs d < floor → AllByRecursion (λ s. floor ≤ size depth xs s) es → AllByRecursion (λ s. size depth xs d < size depth xs s) es
all_above depth floor xs d [] l h = tt
all_above depth floor xs d (e ∷ es) l h = (omega (arith, l, h.0), all_above depth floor xs d es l h.1)

-- an order all of whose spellings have more bits
leads_past : (depth limit floor : ℕ) (xs : List ℤ) (cs es : List Spelling) (best : Option Planned) → limit < floor → AllByRecursion (λ s. floor ≤ size depth xs s) es
    → Leads depth xs limit cs best → Leads depth xs limit (cs ++ es) best
leads_past depth limit floor xs cs es best l all h =
    let f : Spelling → ℕ = size depth xs in
    record {
      leads = λ ds d e few.
          let above : AllByRecursion (λ s. f d < f s) es = all_above depth floor xs d es (omega (arith, l, few)) all in
          let behind : least f (es ++ ds) ≡ Some d = least-append f es ds ∙ ap (choose f (least f es)) e ∙ higher f d (least f es) (least_holds (λ s. f d < f s) f es above) in
          ap (least f) (append_assoc cs es ds) ∙ h.leads (es ++ ds) d behind few;
      cost = h.cost;
      fits = h.fits;
    }

-- the least of two that the rest leaves
chosen_low : (f : Spelling → ℕ) (a d : Spelling) (limit : ℕ) → f d ≤ limit → (m : Spelling) × (choose f (Some a) (Some d) ≡ Some m) × (f m ≤ limit)
chosen_low f a d limit l = elim (cases_lt (f d) (f a)) [
  | inl lt ↦ (d, choose_second f a d lt, l)
  | inr ge ↦ (a, choose_first f a d ge, omega (arith, ge, l))
]

-- an order that is searched
leads_with : (depth limit : ℕ) (xs : List ℤ) (cs es : List Spelling) (best : Option Planned) (new result : Planned) → Leads depth xs limit cs best
    → least (size depth xs) es ≡ Some (spelling_of xs new.plan) → new.cost ≡ size depth xs (spelling_of xs new.plan) → PlanFits xs new.plan
    → choose (λ p. p.cost) best (Some new) ≡ Some result → Leads depth xs limit (cs ++ es) (Some result)
leads_with depth limit xs cs es best new result h d c w r =
    let g : Planned → Spelling = λ p. spelling_of xs p.plan in
    let f : Spelling → ℕ = size depth xs in
    let F : Planned → ℕ = λ p. f (g p) in
    let both : choose f (option_map g best) (Some (g new)) ≡ Some (g result) = choose-map f g best (Some new) ∙ ap (option_map g) (choice_costs F best new h.cost c ∙ r) in
    record {
      leads = λ ds e is few.
          let next = chosen_low f (g new) e limit few in
          let behind : least f (es ++ ds) ≡ Some next.0 = least-append f es ds ∙ ap (λ o. choose f o (least f ds)) d ∙ ap (choose f (Some (g new))) is ∙ next.1 in
          ap (least f) (append_assoc cs es ds) ∙ h.leads (es ++ ds) next.0 behind next.2
          ∙ ap (choose f (option_map g best)) (sym next.1) ∙ sym (choose_assoc f (option_map g best) (Some (g new)) (Some e)) ∙ ap (λ o. choose f o (Some e)) both;
      cost = subst (λ o. IfSome o (λ p. p.cost ≡ F p)) r (chosen_holds (λ p. p.cost ≡ F p) best new h.cost c);
      fits = subst (λ o. IfSome o (λ p. PlanFits xs p.plan)) r (chosen_holds (λ p. PlanFits xs p.plan) best new h.fits w);
    }

pub leads_more : (depth limit order : ℕ) (xs : List ℤ) (best : Option Planned) (new result : Planned) → Leads depth xs limit (so_far xs order) best
    → least (size depth xs) (fixed_of (length xs) order) ≡ Some (spelling_of xs new.plan) → new.cost ≡ size depth xs (spelling_of xs new.plan) → PlanFits xs new.plan
    → choose (λ p. p.cost) best (Some new) ≡ Some result → Leads depth xs limit (so_far xs (order + 1)) (Some result)
leads_more depth limit order xs best new result h d c w r =
    subst (λ l. Leads depth xs limit l (Some result)) (so_far-more xs order) (leads_with depth limit xs (so_far xs order) (fixed_of (length xs) order) best new result h d c w r)

pub leads_on : (depth limit order floor : ℕ) (xs : List ℤ) (best : Option Planned) → limit < floor → IsFloor depth xs order floor → Leads depth xs limit (so_far xs order) best
    → Leads depth xs limit (so_far xs (order + 1)) best
leads_on depth limit order floor xs best l all h =
    subst (λ l. Leads depth xs limit l best) (so_far-more xs order) (leads_past depth limit floor xs (so_far xs order) (fixed_of (length xs) order) best l all h)

lower_floor : (depth low floor : ℕ) (xs : List ℤ) (es : List Spelling) → low ≤ floor
    → AllByRecursion (λ s. floor ≤ size depth xs s) es → AllByRecursion (λ s. low ≤ size depth xs s) es
lower_floor depth low floor xs [] l h = tt
lower_floor depth low floor xs (e ∷ es) l h = (omega (arith, l, h.0), lower_floor depth low floor xs es l h.1)

-- one more floor
pub one_floor : (depth : ℕ) (xs : List ℤ) (order : ℕ) (floors more : List ℕ) (floor : ℕ) → length floors ≡ order → more ≡ floors ++ (floor ∷ [])
    → ((o : ℕ) → o < order → IsFloor depth xs o (get_or floors o 0)) → IsFloor depth xs order floor → (o : ℕ) → o < order + 1 → IsFloor depth xs o (get_or more o 0)
one_floor depth xs order floors more floor n e h new o l = elim (cases_lt o order) [
  | inl lt ↦
      let same : get_or more o 0 ≡ get_or floors o 0 = ap (λ (m : List ℕ). get_or m o 0) e ∙ get_or_append_left floors (floor ∷ []) 0 o (omega (arith, lt, n)) in
      subst (λ m. IsFloor depth xs o m) (sym same) (h o lt)
  | inr ge ↦
      let here : o ≡ length floors = omega (arith, ge, l, n) in
      let at : order ≡ o = omega (arith, ge, l) in
      let same : get_or more o 0 ≡ floor = ap (λ (m : List ℕ). get_or m o 0) e ∙ get_or_push floors floor 0 o (sym here) in
      subst (λ m. IsFloor depth xs o m) (sym same) (subst (λ k. IsFloor depth xs k floor) at new)
]

-- as floors of each order, what is no more than the new one and the old
pub each_floor : (depth : ℕ) (xs : List ℤ) (order least floor low : ℕ) → low ≤ least → low ≤ floor
    → ((o : ℕ) → o < order → IsFloor depth xs o least) → IsFloor depth xs order floor → (o : ℕ) → o < order + 1 → IsFloor depth xs o low
each_floor depth xs order least floor low a b h new o l = elim (cases_lt o order) [
  | inl lt ↦ lower_floor depth low least xs (fixed_of (length xs) o) a (h o lt)
  | inr ge ↦
      let at : order ≡ o = omega (arith, ge, l) in
      lower_floor depth low floor xs (fixed_of (length xs) o) b (subst (λ k. IsFloor depth xs k floor) at new)
]

-- behind the order that was known
pub known_next : (depth order : ℕ) (xs : List ℤ) (best : Option Planned) (new result : Planned) → Leads depth xs new.cost (so_far xs order) best
    → least (size depth xs) (fixed_of (length xs) order) ≡ Some (spelling_of xs new.plan) → new.cost ≡ size depth xs (spelling_of xs new.plan) → PlanFits xs new.plan
    → choose (λ p. p.cost) best (Some new) ≡ Some result → IsBestPlan depth xs (so_far xs (order + 1)) (Some result)
known_next depth order xs best new result h d c w r =
    let g : Planned → Spelling = λ p. spelling_of xs p.plan in
    let f : Spelling → ℕ = size depth xs in
    let F : Planned → ℕ = λ p. f (g p) in
    subst (λ l. IsBestPlan depth xs l (Some result)) (so_far-more xs order) (record {
      chosen = h.leads (fixed_of (length xs) order) (g new) d (omega (arith, c)) ∙ choose-map f g best (Some new) ∙ ap (option_map g) (choice_costs F best new h.cost c ∙ r);
      cost = subst (λ o. IfSome o (λ p. p.cost ≡ F p)) r (chosen_holds (λ p. p.cost ≡ F p) best new h.cost c);
      fits = subst (λ o. IfSome o (λ p. PlanFits xs p.plan)) r (chosen_holds (λ p. PlanFits xs p.plan) best new h.fits w);
    })

pub lower_floor_of : (depth order low floor : ℕ) (xs : List ℤ) → low ≤ floor → IsFloor depth xs order floor → IsFloor depth xs order low
lower_floor_of depth order low floor xs l h = lower_floor depth low floor xs (fixed_of (length xs) order) l h

-- where no coding of the residual has fewer bits than the warm-up leaves
pub floor_below : (depth order limit left : ℕ) (xs : List ℤ) (us : List ℕ) → order ≤ length xs → us ≡ map zigzagged (rest_of order xs) → left ≡ limit - (8 + depth * order)
    → AllByRecursion (λ c. left ≤ length (residual_bits order c us)) (codings (length us + order) order) → IsFloor depth xs order limit
floor_below depth order limit left xs us h e l all =
    let rest : List ℤ = rest_of order xs in
    let low : AllByRecursion (λ c. left ≤ coding_cost order (map zigzagged rest) c) (codings (length rest + order) order) =
    subst (λ n. AllByRecursion (λ c. left ≤ coding_cost order (map zigzagged rest) c) (codings (n + order) order)) (length-map rest zigzagged)
    (subst (λ vs. AllByRecursion (λ c. left ≤ coding_cost order vs c) (codings (length vs + order) order)) e all) in
    lower_floor_of depth order limit (8 + depth * order + left) xs (omega (arith, l)) (floor_is depth order left xs rest h refl low)

pub floor_stays : (depth order floor : ℕ) (xs : List ℤ) (p : Planned) → p.cost ≤ floor → IsFloor depth xs order floor
    → (cs : List Spelling) → IsBestPlan depth xs cs (Some p) → IsBestPlan depth xs (cs ++ fixed_of (length xs) order) (Some p)
floor_stays depth order floor xs p l all cs h = plan_stays depth xs cs (fixed_of (length xs) order) (Some p) p refl (lower_floor depth p.cost floor xs (fixed_of (length xs) order) l all) h

pub so_far-all : (xs : List ℤ) (order : ℕ) → order ≡ min (length xs) 5 → so_far xs order ++ (verbatim ∷ []) ≡ candidates xs
unfolding candidates
so_far-all xs order e =
    ap (λ l. (constants xs ++ flat_map (fixed_of (length xs)) l) ++ (verbatim ∷ [])) (ap (range_with_len 0) e ∙ sym (predictors-is (length xs)))

pub plan_constant : (depth : ℕ) (xs : List ℤ) (p : Planned) (t : Bool) → t ≡ true → t ≡ all_are (first_or_zero xs) xs
    → spelling_of xs p.plan ≡ constant → p.cost ≡ 8 + depth → PlanFits xs p.plan → IsBestPlan depth xs (constants xs) (Some p)
plan_constant depth xs p t e a s c w = record {
  chosen = ap (λ b. least (size depth xs) (cond b (constant ∷ []) [])) (sym a ∙ e) ∙ least_one (size depth xs) constant ∙ ap (λ z. Some z) (sym s);
  cost = c ∙ sym (ap (size depth xs) s ∙ size-constant depth xs);
  fits = w;
}

pub plan_none : (depth : ℕ) (xs : List ℤ) (t : Bool) → t ≡ false → t ≡ all_are (first_or_zero xs) xs → IsBestPlan depth xs (constants xs) None
plan_none depth xs t e a = record {
  chosen = ap (λ b. least (size depth xs) (cond b (constant ∷ []) [])) (sym a ∙ e) ∙ least-nil (size depth xs);
  cost = tt;
  fits = tt;
}

-- ---- residuals as they are computed

pub small_enough : (n order : ℕ) (xs : List ℤ) → order ≤ 5 → All (λ x. magnitude x < 2 ^ (24 + order)) xs → All (λ x. magnitude x < 2 ^ 30) xs
small_enough n order xs h a =
    All-weaker (λ x. magnitude x < 2 ^ (24 + order)) (λ x. magnitude x < 2 ^ 30) (λ x l. omega (arith, l, pow_le (24 + order) 30 (omega arith))) xs a

pub next_small : (order : ℕ) (xs ys : List ℤ) → ys ≡ steps xs → All (λ x. magnitude x < 2 ^ (24 + order)) xs → All (λ x. magnitude x < 2 ^ (24 + (order + 1))) ys
next_small order xs ys e h =
    let p : 2 * 2 ^ (24 + order) ≡ 2 ^ (24 + (order + 1)) = sym (pow_two (24 + order) (24 + (order + 1)) (omega arith)) in
    All-same (λ x. magnitude x < 2 ^ (24 + (order + 1))) ys (steps xs) e
    (subst (λ m. All (λ x. magnitude x < m) (steps xs)) p (steps_small (2 ^ (24 + order)) xs h))

pub next_rest : (order : ℕ) (xs rest next : List ℤ) → rest ≡ rest_of order xs → next ≡ steps rest → next ≡ rest_of (order + 1) xs
next_rest order xs rest next e h =
    let s : suc order ≡ order + 1 = omega arith in
    h ∙ ap steps e ∙ sym (rest_of-suc order xs) ∙ ap (λ m. rest_of m xs) s

pub twice_small : (m n k : ℕ) → k ≡ suc n → m < 2 ^ n → m * 2 < 2 ^ k
twice_small m n k e h = omega (arith, h, pow_two n k e)

pub next_zigzags : (m : ℕ) (xs ys : List ℤ) → ys ≡ steps xs → All (λ x. zigzagged x ≤ m) xs → All (λ x. zigzagged x ≤ m * 2) ys
next_zigzags m xs ys e h =
    All-same (λ x. zigzagged x ≤ m * 2) ys (steps xs) e
    (All-weaker (λ x. zigzagged x ≤ 2 * m) (λ x. zigzagged x ≤ m * 2) (λ x l. omega (arith, l)) (steps xs) (steps_zigzags m xs h))

pub first_small : (depth : ℕ) (xs : List ℤ) → depth ≤ 25 → All (FitsBits depth) xs → All (FitsBits 25) xs
first_small depth xs h a =
    All-weaker (FitsBits depth) (FitsBits 25) (λ x l. fits_of 25 x (omega (arith, magnitude_of depth x l, pow_le (depth - 1) 24 (omega arith)))) xs a

pub magnitudes : (xs : List ℤ) → All (FitsBits 25) xs → All (λ x. magnitude x < 2 ^ 24) xs
magnitudes xs a = All-weaker (FitsBits 25) (λ x. magnitude x < 2 ^ 24) (magnitude_of 25) xs a

pub count_us : (order : ℕ) (xs : List ℤ) (us : List ℕ) → us ≡ map zigzagged (rest_of order xs) → length us ≡ length xs - order
count_us order xs us e = ap length e ∙ length-map (rest_of order xs) zigzagged ∙ length-rest_of order xs

pub plan_last : (depth : ℕ) (xs : List ℤ) (order : ℕ) (best : Option Planned) (new result : Planned) → order ≡ min (length xs) 5
    → IsBestPlan depth xs (so_far xs order) best → new.plan ≡ Verbatim → new.cost ≡ 8 + depth * length xs
    → choose (λ p. p.cost) best (Some new) ≡ Some result → IsBestPlan depth xs (candidates xs) (Some result)
plan_last depth xs order best new result e h p c r =
    let s : spelling_of xs new.plan ≡ verbatim = ap (spelling_of xs) p in
    same_spellings depth xs (so_far xs order ++ (verbatim ∷ [])) (candidates xs) (Some result) (so_far-all xs order e)
    (plan_next depth xs (so_far xs order) (verbatim ∷ []) best new result h
    (least_one (size depth xs) verbatim ∙ ap (λ z. Some z) (sym s))
    (c ∙ sym (ap (size depth xs) s ∙ size-verbatim depth xs))
    (subst (PlanFits xs) (sym p) tt)
    r)

-- ---- what a subframe is

pub subframe-constant : (depth : ℕ) (xs : List ℤ) → subframe_bits depth xs constant ≡ bits_of 8 0 ++ sample_bits depth (first_or_zero xs)
unfolding subframe_bits
subframe-constant depth xs = refl

pub subframe-verbatim : (depth : ℕ) (xs : List ℤ) → subframe_bits depth xs verbatim ≡ bits_of 8 2 ++ flat_map (sample_bits depth) xs
unfolding subframe_bits
subframe-verbatim depth xs = refl

pub subframe-fixed : (depth order : ℕ) (xs : List ℤ) (c : Coding)
    → subframe_bits depth xs (fixed order c) ≡ bits_of 8 (16 + 2 * order) ++ flat_map (sample_bits depth) (take order xs) ++ residual_bits order c (map zigzagged (rest_of order xs))
unfolding subframe_bits
subframe-fixed depth order xs c = refl

pub fixed_bits : (depth order method partition_order : ℕ) (xs : List ℤ) (vs : List ℕ) (out a b r : List Bool) → a ≡ out ++ bits_of 8 (16 + 2 * order)
    → b ≡ a ++ flat_map (sample_bits depth) (take order xs) → r ≡ b ++ residual_bits order (best_at order method partition_order vs) vs → vs ≡ map zigzagged (rest_of order xs)
    → r ≡ out ++ subframe_bits depth xs (fixed order (best_at order method partition_order (map zigzagged (rest_of order xs))))
fixed_bits depth order method partition_order xs vs out a b r ea eb er e =
    let head : List Bool = bits_of 8 (16 + 2 * order) in
    let warm : List Bool = flat_map (sample_bits depth) (take order xs) in
    let us : List ℕ = map zigzagged (rest_of order xs) in
    let tail : List Bool = residual_bits order (best_at order method partition_order us) us in
    er ∙ ap (λ l. b ++ residual_bits order (best_at order method partition_order l) l) e
    ∙ ap (λ l. l ++ tail) (eb ∙ ap (λ l. l ++ warm) ea ∙ append_assoc out head warm)
    ∙ append_assoc out (head ++ warm) tail
    ∙ ap (λ l. out ++ l) (sym (subframe-fixed depth order xs (best_at order method partition_order us)))

pub two_parts : (out a b head tail all : List Bool) → a ≡ out ++ head → b ≡ a ++ tail → all ≡ head ++ tail → b ≡ out ++ all
two_parts out a b head tail all ea eb e = eb ∙ ap (λ l. l ++ tail) ea ∙ append_assoc out head tail ∙ ap (λ l. out ++ l) (sym e)
