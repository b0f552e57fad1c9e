-- Labels that are used.
use Rattle.std.proofs.Common.{◌≡◌, ℕ, ◌+◌, ◌<◌, ◌||◌, Bool, true, false, List, [], ◌∷◌, ◌++◌, length, take, get_or, refl, sym, ap, ◌∙◌}
use Rattle.std.proofs.lemmas.List.{take_more}
use Rattle.std.proofs.lemmas.List.Folds.{list_any-append}
use Rattle.std.specs.List.{flat_map}
use Rattle.std.specs.Str.{bytes_eq}
use Rattle.ff_words.specs.declared.job.OutputJob.{OutputJob}
use Rattle.ff_lang.specs.declared.graph.Graph.{Graph}
use Rattle.ff_words.specs.declared.maps.map.MapSpec.{MapSpec}
use Rattle.ff_graph_links.specs.labels.Labels.{is_one_of}
use Rattle.ff_plan_layout.specs.Labels.{taken_labels}
use Rattle.ff_plan_layout.specs.LaidOut.{labels_of}
use Rattle.ff_plan_layout.specs.laws.Picking.{labels_before, labels_of_map, used_before, used_by}

pub is_used_at_all : (l : List ℕ) (used : List (List ℕ)) (outs : List OutputJob) → is_one_of l (used ++ flat_map labels_of outs) ≡ (is_one_of l used || is_one_of l (flat_map labels_of outs))
is_used_at_all l used outs = list_any-append (bytes_eq l) used (flat_map labels_of outs)

-- ---- before an output and a map

swap_or : (a b c : Bool) → (a || (b || c)) ≡ (b || (a || c))
swap_or true true c = refl
swap_or true false c = refl
swap_or false b c = refl

module _ {X : Type 0} (f : X → List (List ℕ)) where
  pub is_before : (l : List ℕ) (used : List (List ℕ)) (xs : List X) → is_one_of l (labels_before f used xs) ≡ (is_one_of l (flat_map f xs) || is_one_of l used)
  is_before l used [] = refl
  is_before l used (x ∷ xs) =
      is_before l (f x ++ used) xs
      ∙ (ap (λ (b : Bool). is_one_of l (flat_map f xs) || b) (list_any-append (bytes_eq l) (f x) used)
      ∙ (swap_or (is_one_of l (flat_map f xs)) (is_one_of l (f x)) (is_one_of l used)
      ∙ (or_joins (is_one_of l (f x)) (is_one_of l (flat_map f xs)) (is_one_of l used) ∙ ap (λ (b : Bool). b || is_one_of l used) (sym (list_any-append (bytes_eq l) (f x) (flat_map f xs)))))) where
        or_joins : (a b c : Bool) → (a || (b || c)) ≡ ((a || b) || c)
        or_joins true b c = refl
        or_joins false b c = refl

  pub before_more : (used : List (List ℕ)) (xs : List X) (x : X) → labels_before f used (xs ++ x ∷ []) ≡ f x ++ labels_before f used xs
  before_more used [] x = refl
  before_more used (y ∷ xs) x = before_more (f y ++ used) xs x

  pub before_next : (used : List (List ℕ)) (xs : List X) (n : ℕ) (d : X) → n < length xs → labels_before f used (take (n + 1) xs) ≡ f (get_or xs n d) ++ labels_before f used (take n xs)
  before_next used xs n d lt = ap (λ (l : List X). labels_before f used l) (take_more xs n d lt) ∙ before_more used (take n xs) (get_or xs n d)

turn_or : (a b c d e : Bool) → d ≡ (b || c) → e ≡ (a || d) → e ≡ ((c || b) || a)
turn_or true true true d e p q = q
turn_or true true false d e p q = q
turn_or true false true d e p q = q
turn_or true false false d e p q = q
turn_or false true true d e p q = q ∙ p
turn_or false true false d e p q = q ∙ p
turn_or false false true d e p q = q ∙ p
turn_or false false false d e p q = q ∙ p

pub is_used_before : (l : List ℕ) (graphs : List Graph) (outs : List OutputJob) (maps : List MapSpec)
    → is_one_of l (used_by graphs outs maps) ≡ ((is_one_of l (taken_labels graphs) || is_one_of l (flat_map labels_of outs)) || is_one_of l (flat_map labels_of_map maps))
is_used_before l graphs outs maps =
    turn_or (is_one_of l (flat_map labels_of_map maps)) (is_one_of l (flat_map labels_of outs)) (is_one_of l (taken_labels graphs)) (is_one_of l (used_before graphs outs)) (is_one_of l (used_by graphs outs maps))
    (is_before labels_of l (taken_labels graphs) outs) (is_before labels_of_map l (used_before graphs outs) maps)
