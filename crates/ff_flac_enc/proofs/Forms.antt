-- The form of two channels that has the fewest bits.
use Rattle.std.proofs.Common.{◌≡◌, ℕ, ℤ, pos, negsuc, true, ◌+◌, ◌*◌, ◌/◌, ◌^◌, ◌<◌, ◌≤◌, Bool, List, [], ◌∷◌, ◌++◌, length, Some, None, refl, sym, ap, ◌∙◌, subst, arith}
use Rattle.std.specs.Prelude.{IfSome, Result, Ok, Err, OnOk, ⊤, ◌+ℤ◌}
use Rattle.std.specs.Cmp.Lexicographic.{pointwise}
use Rattle.std.specs.Ordering.{int_eq}
use Rattle.std.proofs.lemmas.Bool.Decides.{Decides-int_eq}
use Rattle.std.proofs.lemmas.Int.{ints}
use Rattle.std.proofs.lemmas.Slice.Eq.{slice_eq-Decides}
use Rattle.ff_flac_dec.specs.Channels.{both}
use Rattle.ff_flac_subframe.specs.rice.Least.{least}
use Rattle.ff_flac_subframe.proofs.RiceLemmas.LeastLemmas.{least_holds}
use Rattle.ff_flac_subframe.specs.Subframe.{Spelling, candidates, subframe_bits}
use Rattle.ff_flac_subframe.specs.laws.Plan.{size, spelling_of, PlanFits}
use Rattle.ff_flac_subframe.specs.laws.Outlook.{IsOutlook}
use Rattle.ff_flac_subframe.specs.declared.subframe.Outlook.{Outlook}
use Rattle.ff_flac_subframe.specs.declared.subframe.Plan.{Plan}
use Rattle.ff_flac_subframe.specs.declared.subframe.Planned.{Planned}
use Rattle.ff_flac_enc.specs.Channels.{best, best_bits}
use Rattle.ff_flac_enc.specs.laws.Choice.{fewest, IsBest, IsKnown}
use Rattle.ff_flac_enc.specs.Layout.{Layout, signals, bodies, layouts, layouts_with, body, layout_size, half, mid_of, side_of, signal}
use Rattle.ff_flac_enc.specs.laws.Shape.{form_of, Chooses, first_depth, first_samples, second_depth, second_samples, pair_layout}
use Rattle.ff_flac_enc.specs.declared.shape.Shape.{Shape}
use Rattle.ff_flac_enc.specs.declared.shape.Shape.TheVariants.{Independent, LeftSide, SideRight, MidSide}
use Rattle.ff_flac_enc.proofs.Apart.{best_is, best_found}
use Rattle.ff_flac_enc.proofs.Choice.{AreBest, least-layouts_with, size_of_two, least-of_four, chain_1, chain_2, chain_3, chain_4, two_bodies, signals_1, signals_2, signals_3, signals_4}

-- ---- the best layout of each form

signals_in : (bits : ℕ) (l r : List ℤ) (shape : Shape)
    → signals bits (l ∷ r ∷ []) (form_of shape)
    ≡ signal (first_depth bits shape) (first_samples l (mid_of l r) (side_of l r) shape) ∷ signal (second_depth bits shape) (second_samples r (side_of l r) shape) ∷ []
signals_in bits l r Independent = signals_1 bits l r
signals_in bits l r LeftSide = signals_2 bits l r
signals_in bits l r SideRight = signals_3 bits l r
signals_in bits l r MidSide = signals_4 bits l r

-- what the best layout of a form costs
abbrev pair_cost : ℕ → List ℤ → List ℤ → Shape → ℕ
pair_cost bits l r shape =
    fewest (first_depth bits shape) (first_samples l (mid_of l r) (side_of l r) shape) + fewest (second_depth bits shape) (second_samples r (side_of l r) shape)

form_best : (bits : ℕ) (l r : List ℤ) (shape : Shape)
    → least (layout_size bits (l ∷ r ∷ [])) (layouts_with bits (l ∷ r ∷ []) (form_of shape)) ≡ Some (pair_layout bits l r shape)
form_best bits l r shape =
    let d : ℕ = first_depth bits shape in
    let e : ℕ = second_depth bits shape in
    let xs : List ℤ = first_samples l (mid_of l r) (side_of l r) shape in
    let ys : List ℤ = second_samples r (side_of l r) shape in
    least-layouts_with bits (l ∷ r ∷ []) (form_of shape) (best d xs ∷ best e ys ∷ [])
    (subst (λ zs. AreBest zs (best d xs ∷ best e ys ∷ [])) (sym (signals_in bits l r shape)) (best_is d xs, (best_is e ys, tt)))

form_cost : (bits : ℕ) (l r : List ℤ) (shape : Shape) → layout_size bits (l ∷ r ∷ []) (pair_layout bits l r shape) ≡ pair_cost bits l r shape
unfolding body
form_cost bits l r shape =
    let d : ℕ = first_depth bits shape in
    let e : ℕ = second_depth bits shape in
    let xs : List ℤ = first_samples l (mid_of l r) (side_of l r) shape in
    let ys : List ℤ = second_samples r (side_of l r) shape in
    ap (λ zs. length (bodies zs (best d xs ∷ best e ys ∷ []))) (signals_in bits l r shape) ∙ size_of_two (signal d xs) (signal e ys) (best d xs) (best e ys)

-- ---- the best of the four forms

pub best_form : (bits : ℕ) (l r : List ℤ) (shape : Shape) → Chooses (fewest bits l) (fewest bits r) (fewest bits (mid_of l r)) (fewest (bits + 1) (side_of l r)) shape
    → least (layout_size bits (l ∷ r ∷ [])) (layouts bits (l ∷ r ∷ [])) ≡ Some (pair_layout bits l r shape)
best_form bits l r shape chosen =
    let f : Layout → ℕ = layout_size bits (l ∷ r ∷ []) in
    let L : ℕ = fewest bits l in
    let R : ℕ = fewest bits r in
    let M : ℕ = fewest bits (mid_of l r) in
    let S : ℕ = fewest (bits + 1) (side_of l r) in
    let A : Layout = pair_layout bits l r Independent in
    let B : Layout = pair_layout bits l r LeftSide in
    let C : Layout = pair_layout bits l r SideRight in
    let D : Layout = pair_layout bits l r MidSide in
    let four = least-of_four bits l r A B C D
    (form_best bits l r Independent) (form_best bits l r LeftSide) (form_best bits l r SideRight) (form_best bits l r MidSide) in
    let ca : f A ≡ L + R = form_cost bits l r Independent in
    let cb : f B ≡ L + S = form_cost bits l r LeftSide in
    let cc' : f C ≡ S + R = form_cost bits l r SideRight in
    let cd : f D ≡ M + S = form_cost bits l r MidSide in
    elim shape as (λ s. Chooses L R M S s → least f (layouts bits (l ∷ r ∷ [])) ≡ Some (pair_layout bits l r s)) [
      | Independent ↦ λ h. four ∙ chain_1 f A B C D (omega (arith, ca, cb, h.0)) (omega (arith, ca, cc', h.1)) (omega (arith, ca, cd, h.2))
      | LeftSide ↦ λ h. four ∙ chain_2 f A B C D (omega (arith, ca, cb, h.0)) (omega (arith, cb, cc', h.1)) (omega (arith, cb, cd, h.2))
      | SideRight ↦ λ h. four ∙ chain_3 f A B C D (omega (arith, ca, cc', h.0)) (omega (arith, cb, cc', h.1)) (omega (arith, cc', cd, h.2))
      | MidSide ↦ λ h. four ∙ chain_4 f A B C D (omega (arith, ca, cd, h.0)) (omega (arith, cb, cd, h.1)) (omega (arith, cc', cd, h.2))
    ] chosen

-- ---- what is known before all are planned

pub by_outlook : (depth : ℕ) (xs : List ℤ) (outlook : Outlook) → IsOutlook depth xs outlook → IsKnown depth xs (record { bound = outlook.bound; plan = None })
by_outlook depth xs outlook h = record {
  bound =
      let low : ℕ → Spelling → Type 0 = λ n s. n ≤ size depth xs s in
      subst (λ o. IfSome o (low outlook.bound)) (best_is depth xs) (least_holds (low outlook.bound) (size depth xs) (candidates xs) h.bound);
  small = h.small;
  plan = tt;
}

pub by_plan : (depth : ℕ) (xs : List ℤ) (p : Planned) → least (size depth xs) (candidates xs) ≡ Some (spelling_of xs p.plan)
    → p.cost ≡ size depth xs (spelling_of xs p.plan) → PlanFits xs p.plan → p.cost < 2 ^ 20 → IsKnown depth xs (record { bound = p.cost; plan = Some p.plan })
by_plan depth xs p chosen cost fits small =
    let is : spelling_of xs p.plan ≡ best depth xs = sym (best_found depth xs (spelling_of xs p.plan) chosen) in
    let fewest_is : p.cost ≡ fewest depth xs = cost ∙ ap (size depth xs) is in
    record { bound = omega (arith, fewest_is); small = small; plan = (fewest_is, record { is = is; fits = fits }) }

-- ---- what is written of a form

best_bits_of : (d : ℕ) (xs : List ℤ) → best_bits d xs ≡ subframe_bits d xs (best d xs)
unfolding best_bits
best_bits_of d xs = refl

pub signal_written : {E : Type 0} (d : ℕ) (xs : List ℤ) (p : Plan) (out next : List Bool) (r : Result ⊤ E) → IsBest d xs p
    → OnOk r (next ≡ out ++ subframe_bits d xs (spelling_of xs p)) → OnOk r (next ≡ out ++ best_bits d xs)
signal_written d xs p out next (Ok a) h e = e ∙ ap (λ s. out ++ subframe_bits d xs s) h.is ∙ ap (λ b. out ++ b) (sym (best_bits_of d xs))
signal_written d xs p out next (Err e) h g = g

pub pair_written : (bits : ℕ) (l r m s : List ℤ) (shape : Shape) → m ≡ mid_of l r → s ≡ side_of l r → (d e : ℕ) (xs ys : List ℤ) (out between next : List Bool)
    → d ≡ first_depth bits shape → xs ≡ first_samples l m s shape → e ≡ second_depth bits shape → ys ≡ second_samples r s shape
    → between ≡ out ++ best_bits d xs → next ≡ between ++ best_bits e ys → next ≡ out ++ body bits (l ∷ r ∷ []) (pair_layout bits l r shape)
unfolding body
pair_written bits l r m s shape mi si d e xs ys out between next di xi ei yi first second =
    let D : ℕ = first_depth bits shape in
    let E : ℕ = second_depth bits shape in
    let X : List ℤ = first_samples l (mid_of l r) (side_of l r) shape in
    let Y : List ℤ = second_samples r (side_of l r) shape in
    let x : xs ≡ X = xi ∙ ap (λ zs. first_samples l zs s shape) mi ∙ ap (λ zs. first_samples l (mid_of l r) zs shape) si in
    let y : ys ≡ Y = yi ∙ ap (λ zs. second_samples r zs shape) si in
    two_bodies out between next D E X Y (best D X) (best E Y)
    (first ∙ ap (λ n. out ++ best_bits n xs) di ∙ ap (λ zs. out ++ best_bits D zs) x ∙ ap (λ b. out ++ b) (best_bits_of D X))
    (second ∙ ap (λ n. between ++ best_bits n ys) ei ∙ ap (λ zs. between ++ best_bits E zs) y ∙ ap (λ b. between ++ b) (best_bits_of E Y))
    ∙ ap (λ zs. out ++ bodies zs (best D X ∷ best E Y ∷ [])) (sym (signals_in bits l r shape))

-- ---- channels that are alike

pub same_samples : (l r : List ℤ) (alike : Bool) → alike ≡ pointwise int_eq l r → alike ≡ true → l ≡ r
same_samples l r alike is h = (slice_eq-Decides Decides-int_eq l r alike is).0 h

half_twice : (x : ℤ) → half (x +ℤ x) ≡ x
half_twice (pos n) =
    let e : pos n +ℤ pos n ≡ pos (2 * n) = omega (arith, ints) in
    let q : 2 * n / 2 ≡ n = omega arith in
    ap half e ∙ ap (λ (m : ℕ). pos m) q
half_twice (negsuc n) =
    let e : negsuc n +ℤ negsuc n ≡ negsuc (2 * n + 1) = omega (arith, ints) in
    let q : (2 * n + 1) / 2 ≡ n = omega arith in
    ap half e ∙ ap (λ (m : ℕ). negsuc m) q

mid_of_one : (xs : List ℤ) → both (λ x y. half (x +ℤ y)) xs xs ≡ xs
mid_of_one [] = refl
mid_of_one (x ∷ xs) = ap (λ (z : ℤ). z ∷ both (λ x y. half (x +ℤ y)) xs xs) (half_twice x) ∙ ap (λ (l : List ℤ). x ∷ l) (mid_of_one xs)

pub mid_alike : (l r : List ℤ) → l ≡ r → l ≡ mid_of l r
unfolding mid_of
mid_alike l r e = subst (λ xs. l ≡ both (λ x y. half (x +ℤ y)) l xs) e (sym (mid_of_one l))
