-- What a muxer's sink holds of the streams that it was fed is held of all streams that go on from them.
use Rattle.std.specs.Prelude.{◌≡◌, ℕ, zero, suc, ◌⊎◌, List, [], ◌∷◌, map, length, ◌++◌, Option, Some, None, IsSome, refl}
use Rattle.std.proofs.Common.{subst, inl, inr, ap, sym, ◌∙◌}
use Rattle.std.proofs.lemmas.Bool.{cases_Bool}
use Rattle.ff_time.specs.Fraction.{Fraction}
use Rattle.ff_frame.specs.declared.totals.Totals.{Totals}
use Rattle.ff_stream.specs.Stream.{Stream, LiesBelow, opened}
use Rattle.ff_stream.specs.laws.Order.{below_self}
use Rattle.ff_stream.specs.Ports.{nothing, AllBelow}
use Rattle.ff_node_mux.specs.merge.Merges.{Placed}
use Rattle.ff_net.specs.Ways.{Flow}
use Rattle.ff_format.specs.Layouts.{Layout}
use Rattle.ff_node_mux.specs.laws.Growing.{held_grows, held_open}
use Rattle.ff_node_mux.specs.laws.Mixing.{mixed_grows, mixed_opened, same_whole, totals_alike, totals_opened}
use Rattle.ff_node_mux.specs.Muxing.{unpatched, file, text_for, file_for, totals_in, mixed, are_whole, whole_if, HoldsOf}

-- a front of this text is held, or the finished file
abbrev pub HoldsPart : Option (List ℕ) → List ℕ → Option (List ℕ) → Type 0
HoldsPart held text file =
    ((front rest : List ℕ) × (held ≡ Some front) × (text ≡ front ++ rest)) ⊎ (IsSome file × (held ≡ file))

-- what a muxer was fed lies below other streams, but for breaks: what its sink holds of the ones is held of the others
abbrev pub HeldPartsStay : Type 0
HeldPartsStay = (layout : Layout) (bases : List Fraction) (held : Option (List ℕ)) (rs ss : List Flow) → AllBelow (map opened rs) ss
    → HoldsPart held (unpatched layout bases rs) (file layout bases rs) → HoldsPart held (unpatched layout bases ss) (file layout bases ss)

some_is : (o : Option (List ℕ)) → IsSome o → (bytes : List ℕ) × (o ≡ Some bytes)
some_is None h = cc
some_is (Some bytes) h = (bytes, refl)

pub there_is : (o : Option (List ℕ)) (bytes : List ℕ) → o ≡ Some bytes → IsSome o
there_is None bytes e = cc
there_is (Some b) bytes e = refl

-- by another name of the text and of the file
pub part_by : (held : Option (List ℕ)) {a b : List ℕ} {f g : Option (List ℕ)} → a ≡ b → f ≡ g → HoldsPart held a f → HoldsPart held b g
part_by held {a} {b} {f} {g} same_text same_file h =
    subst (λ (t : List ℕ). HoldsPart held t g) same_text (subst (λ (o : Option (List ℕ)). HoldsPart held a o) same_file h)

module _ (layout : Layout) (totals : Option Totals) where
  pub part_of : (held : Option (List ℕ)) (bytes : List ℕ) (t : Stream Placed) → held ≡ Some bytes → HoldsOf layout totals bytes t
      → HoldsPart held (text_for layout t) (file_for layout totals t)
  part_of held bytes t told (inl p) = inl (bytes, p.0, told, sym p.1)
  part_of held bytes t told (inr f) = inr (there_is (file_for layout totals t) bytes f, told ∙ sym f)

  of_part : (held : Option (List ℕ)) (t : Stream Placed) → HoldsPart held (text_for layout t) (file_for layout totals t)
      → (bytes : List ℕ) × (held ≡ Some bytes) × HoldsOf layout totals bytes t
  of_part held t (inl p) = (p.0, p.2, inl (p.1, sym p.3))
  of_part held t (inr f) = let b = some_is (file_for layout totals t) f.0 in (b.0, f.1 ∙ b.1, inr b.1)

-- what is held of some streams is held of those further on, whatever totals these tell
held_on : (layout : Layout) (bases : List Fraction) (bytes : List ℕ) (rs ss : List Flow) → AllBelow rs ss
    → HoldsOf layout (totals_in bases rs) bytes (mixed bases rs) → HoldsOf layout (totals_in bases ss) bytes (mixed bases ss)
held_on layout bases bytes rs ss b h = elim (cases_Bool (are_whole (length bases) rs)) as (λ _. HoldsOf layout (totals_in bases ss) bytes (mixed bases ss)) [
  | inl w ↦ (
      let same = same_whole (length bases) rs ss b w in
      subst (λ (o : Option Totals). HoldsOf layout o bytes (mixed bases ss)) (totals_alike bases rs ss same)
      (held_grows layout (totals_in bases rs) bytes (mixed bases rs) (mixed bases ss) (mixed_grows bases rs ss b) h)
      )
  | inr o ↦ held_grows layout (totals_in bases ss) bytes (mixed bases rs) (mixed bases ss) (mixed_grows bases rs ss b)
      (held_open layout (totals_in bases rs) (totals_in bases ss) bytes (mixed bases rs) (ap whole_if o) h)
]

pub held_parts_stay : HeldPartsStay
held_parts_stay layout bases held rs ss below h =
    let b = of_part layout (totals_in bases rs) held (mixed bases rs) h in
    let o : HoldsOf layout (totals_in bases (map opened rs)) b.0 (mixed bases (map opened rs)) =
    subst (λ (t : Stream Placed). HoldsOf layout (totals_in bases (map opened rs)) b.0 t) (sym (mixed_opened bases rs))
    (subst (λ (n : Option Totals). HoldsOf layout n b.0 (mixed bases rs)) (sym (totals_opened bases rs)) b.2) in
    part_of layout (totals_in bases ss) held b.0 (mixed bases ss) b.1 (held_on layout bases b.0 (map opened rs) ss below o)

-- of one stream
alone_below : (r s : Flow) → LiesBelow (opened r) s → AllBelow (map opened (r ∷ [])) (s ∷ [])
alone_below r s b zero = b
alone_below r s b (suc p) = below_self nothing

pub held_part_stays : (layout : Layout) (base : Fraction) (held : Option (List ℕ)) (r s : Flow) → LiesBelow (opened r) s
    → HoldsPart held (unpatched layout (base ∷ []) (r ∷ [])) (file layout (base ∷ []) (r ∷ []))
    → HoldsPart held (unpatched layout (base ∷ []) (s ∷ [])) (file layout (base ∷ []) (s ∷ []))
held_part_stays layout base held r s b h = held_parts_stay layout (base ∷ []) held (r ∷ []) (s ∷ []) (alone_below r s b) h
