-- A cut does not keep what it was fed and gave: it is tied to it.
use Rattle.std.specs.Prelude.{◌≡◌, ◌≢◌, ℕ, ◌+◌, ◌^◌, ◌≤◌, ◌<◌, ◌⊎◌, Bool, false, List, [], ◌∷◌, ◌++◌, length, slice_get, Option, Some, None}
use Rattle.ff_frame.specs.declared.packet.Pkt.{Pkt}
use Rattle.ff_frame.specs.declared.cut.Cut.{Cut}
use Rattle.ff_frame.specs.declared.cut.Cut.TheVariants.{NotYet, End, Broken, Pkt as Packet}
use Rattle.ff_reader.specs.Cutters.{IsRest}
use Rattle.ff_avi.specs.declared.head.AviHead.{AviHead}
use Rattle.ff_avi.specs.declared.data.Turn.TheVariants.{Wait}
use Rattle.ff_avi.specs.declared.cut.AviCut.{AviCut}
use Rattle.ff_avi.specs.Data.{turn}
use Rattle.ff_avi.specs.Chains.{Chain, packets_in, broken_at, chain_from, units}
use Rattle.ff_avi.specs.Chains.Chain.{gives}

-- whether the input ended
abbrev pub has_ended : AviCut → Bool
has_ended cut = cut.ended

-- the number of the first used stream
abbrev pub first_of : AviCut → ℕ
first_of cut = cut.first

-- the offset in the input of the first byte that waits, and the bytes that wait
abbrev pub place_of : AviCut → ℕ
place_of cut = cut.place

abbrev pub waiting_in : AviCut → List ℕ
waiting_in cut = cut.held.bytes

-- for how many bytes more there is room
abbrev pub room_in : AviCut → ℕ
room_in cut = cut.held.room

-- packets, and then a chain
abbrev pub behind : List (ℕ × Pkt) → Chain → Chain
behind [] chain = chain
behind (p ∷ ps) chain = gives p.0 p.1 (behind ps chain)

-- the chain of what waits and what follows
abbrev pub rest_of : AviCut → List ℕ → Chain
rest_of cut more = chain_from cut.lanes cut.from cut.left cut.pad cut.known cut.place (cut.held.bytes ++ more)

-- Whatever follows: n packets were given, and what waits is what the others are made of.
pub record Goes (chain rest : Chain) (n : ℕ) : Type 0 where
  pub given : List (ℕ × Pkt)
  pub number : length given ≡ n
  pub all : chain ≡ behind given rest

-- Of an input with this head, of which these streams are used, the cut was fed these bytes, those after the head, and gave n packets.
pub record Cuts (cut : AviCut) (head : AviHead) (used fed : List ℕ) (n : ℕ) : Type 0 where
  pub of_first : slice_get used 0 ≡ Some cut.first
  pub of_place : cut.place + length cut.held.bytes ≡ head.start + length fed
  pub goes : (more : List ℕ) → Goes (units head used (fed ++ more)) (rest_of cut more) n

-- whatever the cut was fed and gave, it was fed these bytes more
abbrev pub Feeds : AviCut → AviCut → List ℕ → Type 0
Feeds old new bytes = (head : AviHead) (used fed : List ℕ) (n : ℕ) → Cuts old head used fed n → Cuts new head used (fed ++ bytes) n

-- it was fed nothing more, and gave nothing more
abbrev pub KeepsCut : AviCut → AviCut → Type 0
KeepsCut old new = (head : AviHead) (used fed : List ℕ) (n : ℕ) → Cuts old head used fed n → Cuts new head used fed n

-- it gave its next packet, which is one of this stream, whatever follows
abbrev pub GivesUnit : AviCut → AviCut → ℕ → Pkt → Type 0
GivesUnit old new stream p = (head : AviHead) (used fed : List ℕ) (n : ℕ) → Cuts old head used fed n
    → Cuts new head used fed (n + 1) × ((more : List ℕ) → IsRest (has_ended old) more → slice_get (packets_in (units head used (fed ++ more))) n ≡ Some (stream, p))

-- it gave all, whatever follows, and this is where the chain breaks
abbrev pub GaveAll : AviCut → Option ℕ → Type 0
GaveAll cut broken = (head : AviHead) (used fed : List ℕ) (n : ℕ) → Cuts cut head used fed n
    → (more : List ℕ) → IsRest (has_ended cut) more
    → (length (packets_in (units head used (fed ++ more))) ≡ n) × (broken_at (units head used (fed ++ more)) ≡ broken)

-- what waits is nothing, or part of a unit
abbrev pub IsPart : AviCut → Type 0
IsPart cut = (cut.held.bytes ≡ []) ⊎ ((cut.left ≡ 0) × (cut.pad ≡ 0) × (turn cut.lanes cut.known cut.place cut.held.bytes ≡ Wait))

-- What comes where no packet does: more bytes are wanted, since the input goes on and what waits is part of a unit, which isn't
-- long; or the end.
abbrev pub Stops : AviCut → Cut → Type 0
Stops cut (Packet p) = ⊥
Stops cut NotYet = (has_ended cut ≡ false) × IsPart cut × (length cut.held.bytes < 2 ^ 30)
Stops cut End = GaveAll cut None
Stops cut (Broken offset) = GaveAll cut (Some offset)

-- A cut gives a packet, which ends at or before byte 2^41, and the number of its stream; or none, and the number of the first
-- used stream.
abbrev pub Tells : AviCut → AviCut → ℕ → Cut → Type 0
Tells old new stream (Packet p) = GivesUnit old new stream p × (p.pos + length p.bytes ≤ 2 ^ 41)
Tells old new stream NotYet = KeepsCut old new × Stops new NotYet × (stream ≡ first_of old)
Tells old new stream End = KeepsCut old new × Stops new End × (stream ≡ first_of old)
Tells old new stream (Broken offset) = KeepsCut old new × Stops new (Broken offset) × (stream ≡ first_of old)

-- nothing is passed over any more, unless nothing waits
abbrev pub IsPassed : AviCut → Type 0
IsPassed cut = (cut.held.bytes ≢ []) → (cut.left ≡ 0) × (cut.pad ≡ 0)
