-- The rule of a link's queues: what was put is what was taken and then what the queue holds. One pass at most may put,
-- and it has the list of what was put; the same for takes.
use Rattle.std.specs.Prelude.{◌≡◌, ◌≤◌, ℕ, Bool, true, false, List, [], ◌∷◌, ◌++◌, length}
use mathlib.Core.Option.{some}
use lib.ListN.{get_elem?}
use Rattle.ff_frame.specs.declared.head.Codec.TheVariants.{PcmU8}
use Rattle.ff_frame.specs.declared.head.StreamHead.TheVariants.{Audio}
use Rattle.ff_stream.specs.declared.item.Item.{Item}
use Rattle.ff_stream.specs.declared.item.Lane.TheVariants.{Packets}
use Rattle.ff_link.specs.declared.side.Side.{Side}
use Rattle.ff_link.specs.declared.side.Way.{Way}
pub use Rattle.ff_link.specs.laws.Sendings.{IsSending, Carries}

-- some way, for a pass that was told of none
abbrev pub no_way : Way
no_way = record { claims = false; lane = Packets (Audio (record { num = 1; den = 1 }) 0 0 0 PcmU8) }

module _ {T : Type 0} where
  abbrev pub side : Bool → Bool → Way → ℕ → List T → List T → Side T
  side puts takes way room sent taken = record { puts = puts; takes = takes; way = way; room = room; sent = sent; taken = taken }

  abbrev pub both_of : Way → ℕ → Side T
  both_of way room = side true true way room [] []

  abbrev pub putter : Way → ℕ → List T → Side T
  putter way room sent = side true false way room sent []

  abbrev pub taker : Way → ℕ → List T → Side T
  taker way room taken = side false true way room [] taken

  abbrev pub with_sent : Side T → List T → Side T
  with_sent v sent = side v.puts v.takes v.way v.room sent v.taken

  abbrev pub with_taken : Side T → List T → Side T
  with_taken v taken = side v.puts v.takes v.way v.room v.sent taken

  abbrev pub whole : Side T → Side T → Side T
  whole v w = side true true v.way v.room v.sent w.taken

  abbrev pub nobody : Side T
  nobody = side false false no_way 0 [] []

  -- these items were the last of what was put. Only a look at the queue shows it
  unfoldable pub IsRest : List T → List T → Type 0
  IsRest sent items = (taken : List T) × (sent ≡ taken ++ items)

  -- these items were what was put after what was taken. Only a look at the queue shows it
  unfoldable pub IsNext : List T → List T → Type 0
  IsNext taken items = (sent : List T) × (sent ≡ taken ++ items)

  -- what a pass may do and knows
  pub record Fits (putter_at taker_at : ℕ) (way : Way) (room : ℕ) (sent taken : List T) (pass : ℕ) (v : Side T) : Type 0 where
    pub puts : v.puts ≡ true → (pass ≡ putter_at) × (v.sent ≡ sent) × (v.way ≡ way) × (v.room ≡ room)
    pub takes : v.takes ≡ true → (pass ≡ taker_at) × (v.taken ≡ taken) × (v.way ≡ way) × (v.room ≡ room)

  pub record Flows (Valid : Way → List T → Type 0) (items : List T) (views : List (Side T)) : Type 0 where
    pub putter_at : ℕ
    pub taker_at : ℕ
    pub way : Way
    pub room : ℕ
    pub sent : List T
    pub taken : List T
    pub in_order : sent ≡ taken ++ items
    pub is_valid : Valid way sent
    pub within : length items ≤ room
    pub each : (pass : ℕ) (v : Side T) → get_elem? views pass ≡ some v → Fits putter_at taker_at way room sent taken pass v

  -- what a pass that may put and take knows of what the queue holds
  pub record IsTotal (Valid : Way → List T → Type 0) (v : Side T) (items : List T) : Type 0 where
    pub in_order : v.sent ≡ v.taken ++ items
    pub is_valid : Valid v.way v.sent
    pub within : length items ≤ v.room

-- valid for the lane where that is claimed
abbrev pub IsCarried : Way → List Item → Type 0
IsCarried way xs = Carries way.claims way.lane xs

abbrev pub ItemsFlow : List Item → List (Side Item) → Type 0
ItemsFlow = Flows IsCarried

-- the item joins what was taken, which is valid for the lane with it
abbrev pub TakesNext : Side Item → Item → Side Item → Type 0
TakesNext v x w = (w ≡ with_taken v (v.taken ++ x ∷ [])) × IsCarried v.way (v.taken ++ x ∷ [])

abbrev pub AnyCounts : Way → List ℕ → Type 0
AnyCounts way counts = Unit {0}

abbrev pub CountsFlow : List ℕ → List (Side ℕ) → Type 0
CountsFlow = Flows AnyCounts
