-- `concat` by its arguments and the heads of its inputs.
use Rattle.std.specs.Prelude.{◌≡◌, ◌⊎◌, ℕ, zero, suc, ◌+◌, ◌<◌, ◌==◌, ◌&&◌, Bool, true}
use Rattle.std.specs.Prelude.{false, not, cond, List, [], ◌∷◌, ◌++◌, map, length, take, slice_index_or, Result, Ok, Err}
use Rattle.ff_frame.specs.declared.config.ConfigError.{ConfigError}
use Rattle.ff_frame.specs.declared.config.ConfigError.TheVariants.{Pads, Kind, Mismatch}
use Rattle.ff_frame.specs.declared.head.StreamHead.{StreamHead}
use Rattle.ff_stream.specs.declared.item.Lane.{Lane}
use Rattle.ff_stream.specs.declared.item.Lane.TheVariants.{Frames}
use Rattle.ff_stream.specs.Ports.{nothing}
use Rattle.ff_stream.specs.Within.{within, passes_limits}
use Rattle.ff_lang.specs.declared.graph.Arg.{Arg}
use Rattle.ff_filter.specs.Joins.{Flow, Ports}
use Rattle.ff_filter.specs.Options.{AreRead, Checked, is_video, is_sound}
use Rattle.ff_filter.specs.Views.{View}
use Rattle.ff_concat.specs.declared.settings.ConcatSettings.{ConcatSettings}
use Rattle.ff_concat.specs.declared.settings.Asked.{Asked}
use Rattle.ff_concat.specs.Arguments.{asked, streams_of, concat_manual, concat_start}
use Rattle.ff_concat.specs.Concats.{concatenated}
use Rattle.ff_concat.specs.Pads.{inputs_of}

-- The heads are of one kind, or of two kinds in turn, the first of which is this one.
abbrev pub in_turn : Bool → Bool → List StreamHead → Bool
in_turn video both [] = true
in_turn video both (h ∷ hs) = cond video (is_video h) (is_sound h) && in_turn (cond both (not video) video) both hs

-- the heads are of the kinds that are asked for: of both, video stands first in each segment
abbrev pub are_of_kinds : Asked → List StreamHead → Bool
are_of_kinds a hs = in_turn a.video (a.video && a.audio) hs

-- each head is that of the same stream in the segment before
abbrev pub AreAlike : ℕ → List StreamHead → Type 0
AreAlike w hs = (i : ℕ) (d : StreamHead) → i + w < length hs → slice_index_or hs (i + w) d ≡ slice_index_or hs i d

-- the heads of a segment, and how many segments there are; refused where the heads of two segments differ
abbrev pub AreJoined : Asked → List StreamHead → Result (List StreamHead × ℕ) ConfigError → Type 0
AreJoined a hs r = (AreAlike (streams_of a) hs × (r ≡ Ok (take (streams_of a) hs, a.segments))) ⊎ ((AreAlike (streams_of a) hs → ⊥) × (r ≡ Err Mismatch))

abbrev pub AfterRead : {X : Type 0} → (Result X ConfigError → Type 0) → Result ConcatSettings ConfigError → Result X ConfigError → Type 0
AfterRead next (Ok s) r = next r
AfterRead next (Err e) r = r ≡ Err e

-- `concat`: first the number of inputs and their kinds decide, then the arguments in their order, then whether the heads differ
abbrev pub IsConcat : List Arg → List StreamHead → Result (List StreamHead × ℕ) ConfigError → Type 0
IsConcat args hs r =
    Checked (length hs == inputs_of (asked args)) Pads
    (λ q. Checked (are_of_kinds (asked args) hs) Kind
    (λ u. (read : Result ConcatSettings ConfigError) × AreRead concat_manual false 0 (concat_start args) args read × AfterRead (AreJoined (asked args) hs) read u) q) r

-- the segments on output i, which is output q of all, within its limits
abbrev pub whole_at : List StreamHead → ℕ → ℕ → List StreamHead → ℕ → Ports → Flow
whole_at all n q [] i ext = nothing
whole_at all n q (h ∷ hs) zero ext = within (passes_limits (Frames h)) (concatenated all h q n ext)
whole_at all n q (h ∷ hs) (suc i) ext = whole_at all n q hs i ext

-- the lanes of the inputs: those of a segment, so many times
abbrev pub repeated : ℕ → List Lane → List Lane
repeated zero lanes = []
repeated (suc n) lanes = lanes ++ repeated n lanes

-- n segments of these heads one after another
abbrev pub start_view : List StreamHead × ℕ → View
start_view m = record {
  ins = repeated m.1 (map (λ (h : StreamHead). Frames h) m.0);
  outs = map (λ (h : StreamHead). Frames h) m.0;
  rest = λ ext q. whole_at m.0 m.1 q m.0 q ext;
  shut = λ p. false;
  ended = λ q. false;
  stopped = λ q. false;
}

abbrev pub start_heads : List StreamHead × ℕ → List StreamHead
start_heads m = m.0
