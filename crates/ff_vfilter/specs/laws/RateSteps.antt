-- Frames at an even rate, frame by frame: the steps of the machine.
use Rattle.std.specs.Prelude.{ℕ, zero, suc, ◌+◌, ◌-◌, max, Option, None, Some, List, [], ◌∷◌}
use Rattle.ff_frame.specs.declared.video.VFrame.{VFrame}
use Rattle.ff_stream.specs.declared.item.Item.{Item}
use Rattle.ff_stream.specs.declared.item.Item.TheVariants.{Audio, Video, Packet, Trailer, End, Broken}
use Rattle.ff_stream.specs.Stream.{still_open}
use Rattle.ff_stream.specs.Ports.{nothing}
use Rattle.ff_filter.specs.Joins.{Flow}
use Rattle.ff_filter.specs.laws.Runs.{Stepped, run}
use Rattle.ff_vfilter.specs.declared.scale.Scale.{Scale}
use Rattle.ff_vfilter.specs.Rates.{number_of, end_number, shown}

-- the frame at so many numbers from n on
abbrev pub shows : ℕ → ℕ → VFrame → List Item
shows zero n f = []
shows (suc k) n f = shown n f ∷ shows k (n + 1) f

-- of the frame that is shown, if any, the numbers from n on below q
abbrev pub shows_below : Option VFrame → ℕ → ℕ → List Item
shows_below None n q = []
shows_below (Some f) n q = shows (q - n) n f

abbrev pub number_from : Option VFrame → ℕ → ℕ → ℕ
number_from None n q = q
number_from (Some f) n q = max n q

-- the frame that is shown, and the number of the next one
pub record Held : Type 0 where
  pub picture : Option VFrame
  pub number : ℕ

-- what isn't a frame of video gives nothing
abbrev pub rate_step : Scale → Held → Item → Stepped Held
rate_step s h (Audio f) = record { made = nothing; next = h }
rate_step s h (Video f) = record {
  made = record { items = shows_below h.picture h.number (number_of s f); mark = still_open };
  next = record { picture = Some f; number = number_from h.picture h.number (number_of s f) };
}
rate_step s h (Packet p) = record { made = nothing; next = h }
rate_step s h (Trailer t) = record { made = nothing; next = h }
rate_step s h End = record { made = nothing; next = h }
rate_step s h Broken = record { made = nothing; next = h }

abbrev pub shows_to_end : Scale → Option VFrame → ℕ → List Item
shows_to_end s None n = []
shows_to_end s (Some f) n = shows (end_number s f - n) n f

abbrev pub rated : Scale → Held → Flow → Flow
rated s h t = run (rate_step s) (λ (g : Held). shows_to_end s g.picture g.number) h t

-- nothing came yet
abbrev pub none_held : Held
none_held = record { picture = None; number = 0 }
