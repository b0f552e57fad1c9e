-- How the machine of framesync is seen: what waits of each input, and from which time on something is still to be shown.
use Rattle.std.specs.Prelude.{◌≡◌, ℕ, zero, suc, Bool, true, false, ◌||◌, ◌&&◌, not, cond, nat_le, nat_eq, List, [], ◌∷◌, ◌++◌, length, map}
use Rattle.ff_frame.specs.declared.video.VFrame.{VFrame}
use Rattle.ff_stream.specs.declared.item.Item.{Item}
use Rattle.ff_stream.specs.declared.item.Item.TheVariants.{Audio, Video, Packet, Trailer, End, Broken}
use Rattle.ff_stream.specs.declared.item.Lane.{Lane}
use Rattle.ff_stream.specs.Ports.{nothing}
use Rattle.ff_stream.specs.Stream.{is_open}
use Rattle.ff_filter.specs.declared.after.After.{After}
use Rattle.ff_filter.specs.declared.after.After.TheVariants.{More}
use Rattle.ff_filter.specs.Joins.{Flow, Ports}
use Rattle.ff_filter.specs.Made.{behind, is_over, mark_after}
use Rattle.ff_filter.specs.Shifts.{start_ticks}
use Rattle.ff_filter.specs.Views.{View}
use Rattle.ff_fsync.specs.Events.{put_if}
use Rattle.ff_fsync.specs.Synced.{Timing, synced_from, synced_mark}

abbrev pub is_picture : Item → Bool
is_picture (Audio f) = false
is_picture (Video f) = true
is_picture (Packet p) = false
is_picture (Trailer t) = false
is_picture End = false
is_picture Broken = false

-- The time of an item among the inputs, which have one time base.
abbrev pub time_among : ℕ → Item → ℕ
time_among p x = start_ticks x

-- a picture that starts at or after this time
abbrev pub fits_at : ℕ → Item → Bool
fits_at lo x = is_picture x && nat_le lo (start_ticks x)

abbrev pub next_by : Bool → ℕ → Item → ℕ
next_by true lo x = suc (start_ticks x)
next_by false lo x = lo

-- The pictures among these items, from this time on, each after the one before. Of a valid stream of video these are all;
-- what no such stream has is let go.
abbrev pub kept_from : ℕ → List Item → List Item
kept_from lo [] = []
kept_from lo (x ∷ xs) = put_if (fits_at lo x) x (kept_from (next_by (fits_at lo x) lo x) xs)

abbrev pub kept : ℕ → Flow → Flow
kept lo s = record { items = kept_from lo s.items; mark = s.mark }

-- one input: what waits, how it stands behind that, and from which time on its next picture may start
pub record Side : Type 0 where
  pub lane : Lane
  pub waits : List Item
  pub after : After
  pub next : ℕ

-- no input is there
abbrev pub no_side : Lane → Side
no_side lane = record { lane = lane; waits = []; after = More; next = 0 }

abbrev pub side_at : Lane → List Side → ℕ → Side
side_at lane [] p = no_side lane
side_at lane (s ∷ ss) zero = s
side_at lane (s ∷ ss) (suc p) = side_at lane ss p

-- what waits, and what comes behind it
abbrev pub coming : Side → Flow → Flow
coming s t = let r : Flow = behind s.after (kept s.next t) in record { items = s.waits ++ r.items; mark = r.mark }

abbrev pub streams : Lane → List Side → Ports → ℕ → Flow
streams lane ss ext p = coming (side_at lane ss p) (ext p)

-- what came so far
abbrev pub standing : Lane → List Side → ℕ → Flow
standing lane ss p = record { items = (side_at lane ss p).waits; mark = mark_after (side_at lane ss p).after }

abbrev pub timing : Bool → List Side → Timing Item
timing shortest ss = record { inputs = length ss; at = time_among; shortest = shortest }

-- the pictures among items, and the item of what is made of them at a time
abbrev pub frames_of : List Item → List VFrame
frames_of [] = []
frames_of (Audio f ∷ xs) = frames_of xs
frames_of (Video f ∷ xs) = f ∷ frames_of xs
frames_of (Packet p ∷ xs) = frames_of xs
frames_of (Trailer t ∷ xs) = frames_of xs
frames_of (End ∷ xs) = frames_of xs
frames_of (Broken ∷ xs) = frames_of xs

abbrev pub shown_as : (ℕ → List VFrame → VFrame) → ℕ → List Item → Item
shown_as shows t xs = Video (shows t (frames_of xs))

-- what is still shown of what waits and still comes
abbrev pub left_to_show : (ℕ → List VFrame → VFrame) → Bool → Lane → ℕ → List Side → Ports → Flow
left_to_show shows shortest lane from ss ext = synced_from (timing shortest ss) (shown_as shows) from (streams lane ss ext)

abbrev pub sync_view : (ℕ → List VFrame → VFrame) → Bool → Lane → ℕ → List Side → Bool → Bool → View
sync_view shows shortest lane from ss ended stopped = record {
  ins = map (λ (s : Side). s.lane) ss;
  outs = lane ∷ [];
  rest = λ ext q. cond ended nothing (left_to_show shows shortest lane from ss ext);
  shut = λ p. is_over (side_at lane ss p).after;
  ended = λ q. ended;
  stopped = λ q. stopped;
}

-- the output is closed by what came so far
abbrev pub is_done : Bool → Lane → List Side → Bool
is_done shortest lane ss = not (is_open (synced_mark (timing shortest ss) (standing lane ss)))

-- nothing more of input p can matter
abbrev pub sync_spent : Bool → Lane → List Side → Bool → Bool → ℕ → Bool
sync_spent shortest lane ss ended stopped p = stopped || (ended || (is_over (side_at lane ss p).after || is_done shortest lane ss))

-- pictures at rising times from lo on, the last of them just before hi
abbrev pub fills_to : ℕ → List Item → ℕ → Bool
fills_to lo [] hi = nat_eq lo hi
fills_to lo (x ∷ xs) hi = nat_le lo (start_ticks x) && fills_to (suc (start_ticks x)) xs hi

-- what is known of each input
abbrev pub Sound : Lane → List Side → Type 0
Sound lane ss = (p : ℕ) → fills_to 0 (side_at lane ss p).waits (side_at lane ss p).next ≡ true
