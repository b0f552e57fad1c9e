-- One more output, behind those before.
use Rattle.std.proofs.Common.{◌≡◌, ℕ, suc, ◌+◌, ◌<◌, List, [], ◌∷◌, ◌++◌, drop, take, length, get_or, refl, sym, ap, ◌∙◌, arith}
use Rattle.std.specs.Prelude.{Ok}
use Rattle.ff_lang.specs.declared.graph.Graph.{Graph}
use Rattle.ff_words.specs.declared.job.OutputJob.{OutputJob}
use Rattle.ff_plan_layout.specs.declared.layout.InPad.{InPad}
use Rattle.ff_plan_layout.specs.Labels.{taken_labels}
use Rattle.ff_plan_layout.specs.laws.Picking.{front_of, used_before}
use Rattle.ff_plan_layout.specs.LaidOut.{labels_of, graphs_of, outputs_from}
use Rattle.ff_plan_layout.specs.Rules.{Rules, Planned, behind}
use Rattle.ff_plan_layout.specs.Streams.{Inside, Passed, chosen, all_passed, front_with}
use Rattle.ff_plan_layout.proofs.Fronts.{drop_next, front_front}
use Rattle.ff_plan_layout.proofs.UsedLabels.{before_next}

module _ (rules : Rules) (inside : Inside) (graphs : List Graph) (outs : List OutputJob) (front : List InPad) where
  abbrev pub used_at : ℕ → List (List ℕ)
  used_at n = used_before graphs (take n outs)

  abbrev pub from_output : ℕ → ℕ → Planned (List (List Passed))
  from_output n g = outputs_from rules inside n g (used_at n) (front_of n front) (drop n outs)

  -- the streams of the outputs behind one
  abbrev pub behind_row : ℕ → ℕ → List Passed → Planned (List (List Passed))
  behind_row n g ps = front_with (ps ∷ []) (from_output (n + 1) (g + graphs_of ps))

  no_front : (n : ℕ) → front_of (n + 1) front ≡ []
  no_front n = (let e : n + 1 ≡ suc n = omega arith in ap (λ (k : ℕ). front_of k front) e)

  pub output_here : (n g : ℕ) (x : OutputJob) (done : List (List Passed)) (whole : Planned (List (List Passed))) → n < length outs → x ≡ get_or outs n x
      → whole ≡ front_with done (from_output n g)
      → whole ≡ front_with done (behind (chosen inside x n (used_at n) (front_of n front)) (λ pads. behind (all_passed rules x n g 0 pads) (behind_row n g)))
  output_here n g x done whole lt at w =
      let here : drop n outs ≡ x ∷ drop (n + 1) outs = drop_next outs n x lt ∙ ap (λ (y : OutputJob). y ∷ drop (n + 1) outs) (sym at) in
      let used : used_at (n + 1) ≡ labels_of x ++ used_at n = before_next labels_of (taken_labels graphs) outs n x lt ∙ ap (λ (y : OutputJob). labels_of y ++ used_at n) (sym at) in
      let rest : List (List ℕ) → List InPad → Planned (List (List Passed)) =
      λ u b. front_with done (behind (chosen inside x n (used_at n) (front_of n front)) (λ pads. behind (all_passed rules x n g 0 pads) (λ ps. front_with (ps ∷ []) (outputs_from rules inside (n + 1) (g + graphs_of ps) u b (drop (n + 1) outs))))) in
      w ∙ (ap (λ (os : List OutputJob). front_with done (outputs_from rules inside n g (used_at n) (front_of n front) os)) here
      ∙ (ap (λ (u : List (List ℕ)). rest u []) (sym used) ∙ ap (λ (b : List InPad). rest (used_at (n + 1)) b) (sym (no_front n))))

  pub row_here : (n g : ℕ) (x : OutputJob) (pads : List InPad) (done : List (List Passed)) (whole : Planned (List (List Passed))) → n < length outs → x ≡ get_or outs n x
      → chosen inside x n (used_at n) (front_of n front) ≡ Ok pads → whole ≡ front_with done (from_output n g)
      → whole ≡ front_with done (behind (all_passed rules x n g 0 pads) (behind_row n g))
  row_here n g x pads done whole lt at there w =
      output_here n g x done whole lt at w ∙ ap (λ (r : Planned (List InPad)). front_with done (behind r (λ pads. behind (all_passed rules x n g 0 pads) (behind_row n g)))) there

  pub row_next : (n g : ℕ) (x : OutputJob) (pads : List InPad) (ps : List Passed) (done : List (List Passed)) (whole : Planned (List (List Passed))) → n < length outs → x ≡ get_or outs n x
      → chosen inside x n (used_at n) (front_of n front) ≡ Ok pads → all_passed rules x n g 0 pads ≡ Ok ps → whole ≡ front_with done (from_output n g)
      → whole ≡ front_with (done ++ ps ∷ []) (from_output (n + 1) (g + graphs_of ps))
  row_next n g x pads ps done whole lt at there through w =
      row_here n g x pads done whole lt at there w
      ∙ (ap (λ (r : Planned (List Passed)). front_with done (behind r (behind_row n g))) through ∙ front_front done (ps ∷ []) (from_output (n + 1) (g + graphs_of ps)))
