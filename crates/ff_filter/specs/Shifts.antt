-- A stream with times from the start of its first item on.
use Rattle.std.specs.Prelude.{◌≡◌, ℕ, ◌-◌, pos, false, Option, Some, None, List, [], ◌∷◌, map, refl}
use Rattle.std.proofs.Common.{inl, inr, ap, sym, ◌∙◌, ◌++◌}
use Rattle.std.proofs.lemmas.List.{map-append}
use mathlib.Core.List.{IsPrefix}
use Rattle.ff_stream.specs.declared.item.Item.{Item}
use Rattle.ff_stream.specs.declared.item.Item.TheVariants.{Audio, Video, Packet, Trailer, End, Broken}
use Rattle.ff_stream.specs.Stream.{Mark, LiesBelow}
use Rattle.ff_stream.specs.Times.{start_of, ticks}
use Rattle.ff_filter.specs.declared.after.After.TheVariants.{More}
use Rattle.ff_filter.specs.Joins.{Flow, joined, before}
use Rattle.ff_filter.specs.Views.{closes}
use Rattle.ff_filter.specs.Made.{made_of}

-- a frame so many ticks earlier; a time before 0 counts as 0, and none comes to lie there
abbrev pub earlier : ℕ → Item → Item
earlier t (Audio f) = Audio (record f { pts = pos (ticks f.pts - t) })
earlier t (Video f) = Video (record f { pts = pos (ticks f.pts - t) })
earlier t (Packet p) = Packet p
earlier t (Trailer totals) = Trailer totals
earlier t End = End
earlier t Broken = Broken

-- the start of an item in ticks
abbrev pub start_ticks : Item → ℕ
start_ticks x = ticks (start_of x)

-- the items so many ticks earlier; where that isn't known yet, by the start of the first
abbrev pub from_first : Option ℕ → List Item → List Item
from_first (Some t) xs = map (earlier t) xs
from_first None [] = []
from_first None (x ∷ xs) = map (earlier (start_ticks x)) (x ∷ xs)

abbrev pub shifted : Option ℕ → Flow → Flow
shifted first s = record { items = from_first first s.items; mark = s.mark }

-- items further on are shifted further on
first_prefix : (first : Option ℕ) (xs ys : List Item) → IsPrefix xs ys → IsPrefix (from_first first xs) (from_first first ys)
first_prefix (Some t) xs ys p = (map (earlier t) p.0, sym (map-append (earlier t) xs p.0) ∙ ap (λ (zs : List Item). map (earlier t) zs) p.1)
first_prefix None [] ys p = (from_first None ys, refl)
first_prefix None (x ∷ xs) [] p = let clash : (x ∷ xs) ++ p.0 ≡ [] = p.1 in cc
first_prefix None (x ∷ xs) (y ∷ ys) p =
    let same : (x ∷ xs) ++ p.0 ≡ y ∷ ys = p.1 in
    let first : x ≡ y = cc in (
      map (earlier (start_ticks x)) p.0,
      sym (map-append (earlier (start_ticks x)) (x ∷ xs) p.0)
          ∙ (ap (λ (zs : List Item). map (earlier (start_ticks x)) zs) same ∙ ap (λ (z : Item). map (earlier (start_ticks z)) (y ∷ ys)) first),
    )

pub shifted-below : (first : Option ℕ) (r s : Flow) → LiesBelow r s → LiesBelow (shifted first r) (shifted first s)
shifted-below first r s (inl e) = inl (ap (λ (x : Flow). shifted first x) e)
shifted-below first r s (inr h) = inr (h.0, first_prefix first r.items s.items h.1)

none_items : (first : Option ℕ) → from_first first [] ≡ []
none_items None = refl
none_items (Some t) = refl

pub shifted-bare : (first : Option ℕ) (m : Mark) → shifted first (record { items = []; mark = m }) ≡ record { items = []; mark = m }
shifted-bare first m = ap (λ (xs : List Item). let r : Flow = record { items = xs; mark = m } in r) (none_items first)

-- the ticks by which an item and those after it become earlier
abbrev pub known_first : Option ℕ → Item → ℕ
known_first (Some t) x = t
known_first None x = start_ticks x

-- the next item, and then the others
pub shifted-next : (first : Option ℕ) (x : Item) (t : Flow) → closes x ≡ false
    → shifted first (before x t) ≡ joined (made_of (Some (earlier (known_first first x) x)) More) (shifted (Some (known_first first x)) t)
shifted-next None (Audio f) t c = refl
shifted-next None (Video f) t c = refl
shifted-next None (Packet f) t c = refl
shifted-next None (Trailer f) t c = refl
shifted-next (Some n) (Audio f) t c = refl
shifted-next (Some n) (Video f) t c = refl
shifted-next (Some n) (Packet f) t c = refl
shifted-next (Some n) (Trailer f) t c = refl
shifted-next first End t c = cc
shifted-next first Broken t c = cc
