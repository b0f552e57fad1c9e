-- A worked example of streams side by side.
use Rattle.std.specs.Prelude.{◌≡◌, ℕ, zero, suc, ℤ, pos, List, [], ◌∷◌, refl}
use Rattle.ff_frame.specs.Frame.{audio_frame}
use Rattle.ff_stream.specs.declared.item.Item.{Item}
use Rattle.ff_stream.specs.declared.item.Item.TheVariants.{Audio}
use Rattle.ff_stream.specs.Stream.{whole}
use Rattle.ff_stream.specs.Ports.{nothing}
use Rattle.ff_filter.specs.Joins.{Flow, Ports}
use Rattle.ff_joins.specs.Joined.{side_to_side}

-- the whole stream of these items
abbrev pub all_of : List Item → Flow
all_of xs = record { items = xs; mark = whole }

-- on each of two inputs one item, and the end
abbrev pub two_whole : Item → Item → Ports
two_whole x y zero = all_of (x ∷ [])
two_whole x y (suc zero) = all_of (y ∷ [])
two_whole x y (suc (suc p)) = nothing

-- sound of so many channels from this time on
abbrev pub sound_at : ℕ → ℕ → List ℤ → Item
sound_at start channels samples = Audio (audio_frame (pos start) 48000 16 channels samples)

abbrev pub one_channel : ℕ → ℕ
one_channel p = 1

abbrev pub all_sound : Item → Flow
all_sound x = all_of (x ∷ [])

pub mono_joined : (a b x y z : ℤ)
    → side_to_side 1 one_channel 48000 16 2 (two_whole (sound_at 5 1 (a ∷ b ∷ [])) (sound_at 0 1 (x ∷ y ∷ z ∷ []))) ≡ all_sound (sound_at 5 2 (a ∷ x ∷ b ∷ y ∷ []))
mono_joined a b x y z = refl
