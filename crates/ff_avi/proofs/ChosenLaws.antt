-- The chain of some streams, among that of all.
use Rattle.std.proofs.Common.{◌≡◌, ℕ, zero, suc, ◌+◌, ◌-◌, ◌*◌, ◌^◌, ◌<◌, ◌≤◌, ◌⊎◌, inl, inr, Bool, true, false, cond, List, [], ◌∷◌, length, refl, sym, ap, ◌∙◌, arith}
use Rattle.std.specs.Prelude.{nat_lt, nat_le, codes, ◌==◌, ◌&&◌, ◌||◌, ◌%◌, not}
use Rattle.std.specs.Str.{bytes_eq}
use Rattle.std.proofs.lemmas.Bool.Decides.{nat_tests}
use Rattle.ff_pcm.specs.body.Packets.{block_of}
use Rattle.ff_wav.specs.Chunks.{number_32}
use Rattle.ff_avi.specs.declared.head.AviHead.{AviHead}
use Rattle.ff_avi.specs.declared.lane.Lane.{Lane}
use Rattle.ff_avi.specs.declared.lane.Lanes.{Lanes}
use Rattle.ff_avi.specs.declared.data.DataState.{DataState}
use Rattle.ff_avi.specs.declared.data.DataUnit.{DataUnit}
use Rattle.ff_avi.specs.declared.data.Turn.{Turn}
use Rattle.ff_avi.specs.declared.data.Turn.TheVariants.{Wait, Broken, Pass, Give}
use Rattle.ff_avi.specs.Streams.{word}
use Rattle.ff_avi.specs.Lanes.{picture_size, size_of, lane_with, lanes_of}
use Rattle.ff_avi.specs.Data.{is_data, one_picture, picture, next_count, pad_after, after_packet, samples, entered, chunk, turn, packet_of}
use Rattle.ff_avi.specs.Chains.{Chain, chain_from, nothing_yet}
use Rattle.ff_avi.specs.Chains.Chain.{whole, broken, gives}
use Rattle.ff_avi.specs.laws.Chosen.{is_in, chosen, UsedAreChosen}
use Rattle.ff_avi.proofs.ChainLaws.{turned, chain_turned}

-- a lane of which its stream is used where it is among these
abbrev only : List ℕ → Lane → Lane
only used lane = record lane { is_used = is_in used lane.stream }

abbrev only_lanes : List ℕ → Lanes → Lanes
only_lanes used all = record { pictures = only used all.pictures; sound = only used all.sound }

-- ---- a unit of some streams, beside what it is where all are used

-- it is the same, and a packet is one of those streams
record Same (used : List ℕ) (t s : Turn) : Type 0 where
  both : s ≡ t
  given : (unit : DataUnit) (pad : ℕ) (next : DataState) → t ≡ Give unit pad next → is_in used unit.stream ≡ true

-- a packet of another stream is passed over
record Unused (used : List ℕ) (t s : Turn) : Type 0 where
  unit : DataUnit
  pad : ℕ
  next : DataState
  gives_it : t ≡ Give unit pad next
  passes_it : s ≡ Pass (unit.skip + unit.size - 1) pad next
  not_in : is_in used unit.stream ≡ false

-- a packet that isn't whole is passed over as far as it goes
record Short (count : ℕ) (t s : Turn) : Type 0 where
  rest : ℕ
  pad : ℕ
  next : DataState
  waits : t ≡ Wait
  passes_it : s ≡ Pass rest pad next
  few : count < rest + 1

Beside : List ℕ → ℕ → Turn → Turn → Type 0
Beside used count t s = (Same used t s ⊎ Unused used t s) ⊎ Short count t s

beside_if : (used : List ℕ) (count : ℕ) (b : Bool) (t t' s s' : Turn) → Beside used count t s → Beside used count t' s' → Beside used count (cond b t t') (cond b s s')
beside_if used count true t t' s s' p q = p
beside_if used count false t t' s s' p q = q

beside_wait : (used : List ℕ) (count : ℕ) → Beside used count Wait Wait
unfolding Beside
beside_wait used count = inl (inl (record { both = refl; given = λ unit pad next e. cc }))

beside_broken : (used : List ℕ) (count : ℕ) → Beside used count Broken Broken
unfolding Beside
beside_broken used count = inl (inl (record { both = refl; given = λ unit pad next e. cc }))

beside_pass : (used : List ℕ) (count rest pad : ℕ) (next : DataState) → Beside used count (Pass rest pad next) (Pass rest pad next)
unfolding Beside
beside_pass used count rest pad next = inl (inl (record { both = refl; given = λ unit other after e. cc }))

less_is : (m n : ℕ) → nat_lt m n ≡ true → m < n
less_is m n e = grind (arith, nat_tests)

-- a packet of a stream, which is passed over where the stream isn't used
beside_give : (used : List ℕ) (count needed rest pad : ℕ) (next : DataState) (unit : DataUnit) (every some : Bool) → rest ≡ unit.skip + unit.size - 1 → needed ≤ rest + 1 → every ≡ true
    → is_in used unit.stream ≡ some
    → Beside used count (cond (not every) (Pass rest pad next) (cond (nat_lt count needed) Wait (Give unit pad next)))
    (cond (not some) (Pass rest pad next) (cond (nat_lt count needed) Wait (Give unit pad next)))
unfolding Beside
beside_give used count needed rest pad next unit false some e le all is = cc
beside_give used count needed rest pad next unit true some e le all is = pick (nat_lt count needed) some refl is
  where
    given_in : (other : DataUnit) (behind : ℕ) (after : DataState) → Give unit pad next ≡ Give other behind after → is_in used unit.stream ≡ true → is_in used other.stream ≡ true
    given_in other behind after same i = let one : unit ≡ other = cc in rw (← one) i

    pick : (short some : Bool) → nat_lt count needed ≡ short → is_in used unit.stream ≡ some
        → Beside used count (cond short Wait (Give unit pad next)) (cond (not some) (Pass rest pad next) (cond short Wait (Give unit pad next)))
    pick true true s i = beside_wait used count
    pick true false s i = inr (record { rest = rest; pad = pad; next = next; waits = refl; passes_it = refl; few = let lt = less_is count needed s in omega (arith, lt, le) })
    pick false true s i = inl (inl (record { both = refl; given = λ other behind after same. given_in other behind after same i }))
    pick false false s i = inl (inr (record { unit = unit; pad = pad; next = next; gives_it = refl; passes_it = ap (λ n. Pass n pad next) e; not_in = i }))

picture_beside : (used : List ℕ) (lane : Lane) (known : DataState) (size : ℕ) (bs : List ℕ) → lane.is_used ≡ true → Beside used (length bs) (picture lane known size bs) (picture (only used lane) known size bs)
unfolding picture
picture_beside used lane known size bs all =
    beside_if used (length bs) (size == 0) _ _ _ _ (beside_pass used (length bs) _ _ _) (beside_if used (length bs) (not (size == lane.size)) _ _ _ _ (beside_broken used (length bs))
    (beside_give used (length bs) (8 + size) (7 + size) (size % 2) (one_picture known)
    (record { stream = lane.stream; skip = 8; size = size; time = known.pictures; duration = 1 }) lane.is_used (is_in used lane.stream) (omega arith) (omega arith) all refl))

samples_beside : (used : List ℕ) (lane : Lane) (known : DataState) (count size : ℕ) (bs : List ℕ) → lane.is_used ≡ true
    → Beside used (length bs) (samples lane known count size bs) (samples (only used lane) known count size bs)
unfolding samples
samples_beside used lane known count size bs all =
    beside_if used (length bs) (count == 0) _ _ _ _ (beside_pass used (length bs) _ _ _)
    (beside_give used (length bs) size (size - 1) (pad_after known size) (after_packet known count size)
    (record { stream = lane.stream; skip = 0; size = size; time = known.samples; duration = count }) lane.is_used (is_in used lane.stream) (omega arith) (omega arith) all refl)

entered_beside : (used : List ℕ) (known : DataState) (size : ℕ) (bs : List ℕ) → Beside used (length bs) (entered known size bs) (entered known size bs)
entered_beside used known size bs =
    beside_if used (length bs) (nat_lt (length bs) 12) _ _ _ _ (beside_wait used (length bs))
    (beside_if used (length bs) (bytes_eq (word 8 bs) (codes "rec ")) _ _ _ _ (beside_pass used (length bs) _ _ _) (beside_pass used (length bs) _ _ _))

chunk_beside : (used : List ℕ) (all : Lanes) (known : DataState) (size : ℕ) (bs : List ℕ) → all.pictures.is_used ≡ true
    → Beside used (length bs) (chunk all known size bs) (chunk (only_lanes used all) known size bs)
unfolding chunk
chunk_beside used all known size bs every =
    beside_if used (length bs) (is_data all.pictures (codes "dc") bs || is_data all.pictures (codes "db") bs) _ _ _ _ (picture_beside used all.pictures known size bs every)
    (beside_if used (length bs) (is_data all.sound (codes "wb") bs) _ _ _ _ (beside_pass used (length bs) _ _ _)
    (beside_if used (length bs) (bytes_eq (word 0 bs) (codes "LIST") && nat_le 4 size) _ _ _ _ (entered_beside used known size bs) (beside_pass used (length bs) _ _ _)))

turn_beside : (used : List ℕ) (all : Lanes) (known : DataState) (at : ℕ) (bs : List ℕ) → all.pictures.is_used ≡ true → all.sound.is_used ≡ true
    → Beside used (length bs) (turn all known at bs) (turn (only_lanes used all) known at bs)
unfolding turn
turn_beside used all known at bs every each =
    beside_if used (length bs) (not (known.left == 0)) _ _ _ _
    (samples_beside used all.sound known (next_count all.sound known.left) (next_count all.sound known.left * all.sound.size) bs each)
    (beside_if used (length bs) (nat_lt (2 ^ 40) at || bytes_eq (word 0 bs) (codes "RIFF")) _ _ _ _ (beside_broken used (length bs))
    (beside_if used (length bs) (nat_lt (length bs) 8) _ _ _ _ (beside_wait used (length bs)) (chunk_beside used all known (number_32 4 bs) bs every)))

-- ---- the chain

-- the input ends within what is passed over
short_broken : (lanes : Lanes) (from left pad : ℕ) (known : DataState) (at : ℕ) (bs : List ℕ) → length bs < left → chain_from lanes from left pad known at bs ≡ broken from
short_broken lanes from zero pad known at bs lt = absurd (omega (arith, lt))
short_broken lanes from (suc left) pad known at [] lt = refl
short_broken lanes from (suc left) pad known at (b ∷ bs) lt = short_broken lanes from left pad known (at + 1) bs (omega (arith, lt))

IsChosen : List ℕ → Lanes → List ℕ → Type 0
IsChosen used all bs = (from left pad : ℕ) (known : DataState) (at : ℕ) → chain_from (only_lanes used all) from left pad known at bs ≡ chosen used (chain_from all from left pad known at bs)

turned_same : (used : List ℕ) (all : Lanes) (at b : ℕ) (bs : List ℕ) (t : Turn) → IsChosen used all bs → ((unit : DataUnit) (pad : ℕ) (next : DataState) → t ≡ Give unit pad next → is_in used unit.stream ≡ true)
    → turned (only_lanes used all) at b bs t ≡ chosen used (turned all at b bs t)
unfolding turned IsChosen
turned_same used all at b bs Wait h given = refl
turned_same used all at b bs Broken h given = refl
turned_same used all at b bs (Pass rest pad next) h given = h at rest pad next (at + 1)
turned_same used all at b bs (Give unit pad next) h given =
    let among : is_in used unit.stream ≡ true = given unit pad next refl in
    let one : Chain → Chain = gives unit.stream (packet_of unit at (b ∷ bs)) in
    let rest : Chain = chain_from all at (unit.skip + unit.size - 1) pad next (at + 1) bs in
    ap one (h at (unit.skip + unit.size - 1) pad next (at + 1)) ∙ ap (λ x. cond x (one (chosen used rest)) (chosen used rest)) (sym among)

turned_beside : (used : List ℕ) (all : Lanes) (at b : ℕ) (bs : List ℕ) (t s : Turn) → IsChosen used all bs → Beside used (suc (length bs)) t s
    → turned (only_lanes used all) at b bs s ≡ chosen used (turned all at b bs t)
unfolding turned IsChosen Beside
turned_beside used all at b bs t s h (inl (inl same)) = ap (turned (only_lanes used all) at b bs) same.both ∙ turned_same used all at b bs t h same.given
turned_beside used all at b bs t s h (inl (inr other)) =
    let unit = other.unit in
    let one : Chain → Chain = gives unit.stream (packet_of unit at (b ∷ bs)) in
    let rest : Chain = chain_from all at (unit.skip + unit.size - 1) other.pad other.next (at + 1) bs in
    ap (turned (only_lanes used all) at b bs) other.passes_it
    ∙ (h at (unit.skip + unit.size - 1) other.pad other.next (at + 1)
    ∙ (ap (λ x. cond x (one (chosen used rest)) (chosen used rest)) (sym other.not_in) ∙ ap (λ x. chosen used (turned all at b bs x)) (sym other.gives_it)))
turned_beside used all at b bs t s h (inr short) =
    let few = short.few in
    ap (turned (only_lanes used all) at b bs) short.passes_it
    ∙ (short_broken (only_lanes used all) at short.rest short.pad short.next (at + 1) bs (omega (arith, few)) ∙ ap (λ x. chosen used (turned all at b bs x)) (sym short.waits))

chosen_from : (used : List ℕ) (all : Lanes) → all.pictures.is_used ≡ true → all.sound.is_used ≡ true → (bs : List ℕ) → IsChosen used all bs
unfolding IsChosen
chosen_from used all every each [] from zero pad known at = pick (known.left == 0)
  where
    pick : (b : Bool) → cond b whole (broken at) ≡ chosen used (cond b whole (broken at))
    pick true = refl
    pick false = refl
chosen_from used all every each [] from (suc left) pad known at = refl
chosen_from used all every each (b ∷ bs) from (suc left) pad known at = chosen_from used all every each bs from left pad known (at + 1)
chosen_from used all every each (b ∷ bs) from zero (suc pad) known at = chosen_from used all every each bs from zero pad known (at + 1)
chosen_from used all every each (b ∷ bs) from zero zero known at =
    chain_turned (only_lanes used all) from known at b bs
    ∙ (turned_beside used all at b bs (turn all known at (b ∷ bs)) (turn (only_lanes used all) known at (b ∷ bs)) (chosen_from used all every each bs)
    (turn_beside used all known at (b ∷ bs) every each)
    ∙ ap (chosen used) (sym (chain_turned all from known at b bs)))

-- ---- the lanes of a head

lane_only : (first second : ℕ) (used : List ℕ) → lane_with first second used ≡ only used (lane_with first second (0 ∷ 1 ∷ []))
lane_only first second used = pick (nat_lt 0 first)
  where
    pick : (b : Bool) → cond b (record { stream = 0; size = first; is_used = is_in used 0 }) (record { stream = 1; size = second; is_used = is_in used 1 })
        ≡ only used (cond b (record { stream = 0; size = first; is_used = true }) (record { stream = 1; size = second; is_used = true }))
    pick true = refl
    pick false = refl

lane_all : (first second : ℕ) → (lane_with first second (0 ∷ 1 ∷ [])).is_used ≡ true
lane_all first second = pick (nat_lt 0 first)
  where
    of : Lane → Bool
    of lane = lane.is_used

    pick : (b : Bool) → of (cond b (record { stream = 0; size = first; is_used = true }) (record { stream = 1; size = second; is_used = true })) ≡ true
    pick true = refl
    pick false = refl

lanes_only : (head : AviHead) (used : List ℕ) → lanes_of head used ≡ only_lanes used (lanes_of head (0 ∷ 1 ∷ []))
lanes_only head used =
    let with_pictures : Lane → Lanes = λ lane. record { pictures = lane; sound = lane_with (block_of head.first) (size_of block_of head.second) used } in
    let with_sound : Lane → Lanes = λ lane. record { pictures = only used (lanes_of head (0 ∷ 1 ∷ [])).pictures; sound = lane } in
    ap with_pictures (lane_only (picture_size head.first) (size_of picture_size head.second) used)
    ∙ ap with_sound (lane_only (block_of head.first) (size_of block_of head.second) used)

pub used_are_chosen : UsedAreChosen
unfolding IsChosen
used_are_chosen head used rest =
    let all : Lanes = lanes_of head (0 ∷ 1 ∷ []) in
    ap (λ lanes. chain_from lanes head.start 0 0 nothing_yet head.start rest) (lanes_only head used)
    ∙ chosen_from used all (lane_all (picture_size head.first) (size_of picture_size head.second)) (lane_all (block_of head.first) (size_of block_of head.second)) rest
    head.start 0 0 nothing_yet head.start
