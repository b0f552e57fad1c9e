-- The texts of a list's first items, one after another.
use Rattle.std.proofs.Common.{◌≡◌, ℕ, ◌+◌, List, [], ◌∷◌, ◌++◌, map, take, drop, append_assoc, append-nil, ◌<◌, ◌≤◌, arith, sym, ◌∙◌, ap}
use Rattle.std.specs.List.{flat_map, range_with_len}
use Rattle.std.proofs.lemmas.List.Concat.{flat_map-append}
use Rattle.std.proofs.lemmas.List.FromFn.{map-range_with_len_more, take-map-range_with_len}
use Rattle.std.proofs.lemmas.List.{take-append-drop}

module _ {A : Type 0} (f : A → List ℕ) (item : ℕ → A) where
  -- the lines of the first items
  abbrev pub lines : ℕ → List ℕ
  lines count = flat_map f (map item (range_with_len 0 count))

  -- one item's line more, after those before it
  pub one_more : (k : ℕ) → lines (k + 1) ≡ lines k ++ f (item k)
  one_more k =
      ap (flat_map f) (map-range_with_len_more item 0 k k (omega arith)) ∙ flat_map-append f (map item (range_with_len 0 k)) (item k ∷ [])
      ∙ ap (λ l. lines k ++ l) (append-nil (f (item k)))

  -- all lines are those before an item's, its own, and the rest
  pub split_at : (h : List ℕ) (n k : ℕ) → k < n
      → h ++ lines n ≡ ((h ++ lines k) ++ f (item k)) ++ flat_map f (drop (k + 1) (map item (range_with_len 0 n)))
  split_at h n k below =
      let all = map item (range_with_len 0 n) in
      let some : k + 1 ≤ n = omega arith in
      let parts : flat_map f all ≡ flat_map f (take (k + 1) all) ++ flat_map f (drop (k + 1) all) =
      ap (flat_map f) (sym (take-append-drop (k + 1) all)) ∙ flat_map-append f (take (k + 1) all) (drop (k + 1) all) in
      let first : flat_map f (take (k + 1) all) ≡ lines k ++ f (item k) =
      ap (flat_map f) (take-map-range_with_len item 0 n (k + 1) some) ∙ one_more k in
      ap (λ l. h ++ l) (parts ∙ ap (λ l. l ++ flat_map f (drop (k + 1) all)) first)
      ∙ sym (append_assoc h (lines k ++ f (item k)) (flat_map f (drop (k + 1) all)))
      ∙ ap (λ l. l ++ flat_map f (drop (k + 1) all)) (sym (append_assoc h (lines k) (f (item k))))
