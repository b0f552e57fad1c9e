-- The machine of `join` to which nothing came.
use Rattle.std.specs.Prelude.{◌≡◌, ℕ, zero, suc, ◌-◌, false, List, [], ◌∷◌, map, length}
use Rattle.ff_frame.specs.declared.head.StreamHead.{StreamHead}
use Rattle.ff_stream.specs.declared.item.Lane.TheVariants.{Frames}
use Rattle.ff_stream.specs.Within.{within, passes_limits}
use Rattle.ff_filter.specs.declared.after.After.TheVariants.{More}
use Rattle.ff_filter.specs.Views.{View}
use Rattle.ff_joins.specs.declared.sound_inlet.SoundInlet.{SoundInlet}
use Rattle.ff_joins.specs.Joined.{side_to_side}
use Rattle.ff_joins.specs.JoinOptions.{rate_of, bits_of, channels_of}
use Rattle.ff_joins.specs.laws.Lots.{lots, lane_of}

-- the channels of input p
abbrev pub channels_at : List StreamHead → ℕ → ℕ
channels_at [] p = 0
channels_at (h ∷ hs) zero = channels_of h
channels_at (h ∷ hs) (suc p) = channels_at hs p

-- inputs of these heads, side by side within the limits of the output, whose head is this one
abbrev pub join_view : List StreamHead → StreamHead → View
join_view heads head = record {
  ins = map Frames heads;
  outs = Frames head ∷ [];
  rest = λ ext q. within (passes_limits (Frames head)) (side_to_side (length heads - 1) (channels_at heads) (rate_of head) (bits_of head) (channels_of head) ext);
  shut = λ p. false;
  ended = λ q. false;
  stopped = λ q. false;
}

abbrev pub head_itself : StreamHead → StreamHead
head_itself head = head

-- inputs of these heads to which nothing came
abbrev pub AreEmpty : List StreamHead → List SoundInlet → Type 0
AreEmpty heads is =
    (map lane_of is ≡ map Frames heads) × (length is ≡ length heads)
    × ((p : ℕ) → lots is p ≡ record { channels = channels_at heads p; count = 0; samples = []; after = More })
