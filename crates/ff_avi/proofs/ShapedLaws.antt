-- The packets of a chain belong to their streams.
use Rattle.std.proofs.Common.{◌≡◌, ℕ, zero, suc, ◌+◌, ◌-◌, ◌*◌, ◌^◌, ◌≤◌, ◌⊎◌, inl, inr, Bool, true, false, cond, List, [], ◌∷◌, take, drop, length, refl, ap, ◌∙◌, arith, length-take, length-drop}
use Rattle.std.specs.Prelude.{nat_lt, nat_le, codes, ◌==◌, ◌&&◌, ◌||◌, ◌%◌, not, pos}
use Rattle.std.specs.Str.{bytes_eq}
use Rattle.std.proofs.lemmas.Bool.Decides.{nat_tests}
use Rattle.ff_frame.specs.Packet.{packet_at}
use Rattle.ff_wav.specs.Chunks.{number_32}
use Rattle.ff_avi.specs.declared.lane.Lane.{Lane}
use Rattle.ff_avi.specs.declared.lane.Lanes.{Lanes}
use Rattle.ff_avi.specs.declared.data.DataState.{DataState}
use Rattle.ff_avi.specs.declared.data.DataUnit.{DataUnit}
use Rattle.ff_avi.specs.declared.data.Turn.{Turn}
use Rattle.ff_avi.specs.declared.data.Turn.TheVariants.{Wait, Broken, Pass, Give}
use Rattle.ff_avi.specs.Streams.{word}
use Rattle.ff_avi.specs.Lanes.{lanes_of}
use Rattle.ff_avi.specs.Data.{is_data, one_picture, picture, next_count, pad_after, after_packet, samples, sound, chunk, turn}
use Rattle.ff_avi.specs.Chains.{packets_in, chain_from, nothing_yet}
use Rattle.ff_avi.specs.Chains.Chain.{whole, broken}
use Rattle.ff_avi.specs.laws.Shaped.{AreShaped, PacketsAreShaped}
use Rattle.ff_avi.specs.laws.StreamLaws.{not_less}
use Rattle.ff_avi.proofs.ChainLaws.{turned, chain_turned}

-- ---- a unit

record GivesPicture (lane : Lane) (known : DataState) (count : ℕ) (unit : DataUnit) (next : DataState) : Type 0 where
  stream : unit.stream ≡ lane.stream
  time : unit.time ≡ known.pictures
  tick : unit.duration ≡ 1
  size : unit.size ≡ lane.size
  there : unit.skip + unit.size ≤ count
  pictures : next.pictures ≡ known.pictures + 1
  samples_so_far : next.samples ≡ known.samples

record GivesSound (lane : Lane) (known : DataState) (count : ℕ) (unit : DataUnit) (next : DataState) : Type 0 where
  stream : unit.stream ≡ lane.stream
  time : unit.time ≡ known.samples
  some : 1 ≤ unit.duration
  few : unit.duration ≤ 1024
  size : unit.size ≡ unit.duration * lane.size
  there : unit.skip + unit.size ≤ count
  samples_so_far : next.samples ≡ known.samples + unit.duration
  pictures : next.pictures ≡ known.pictures

IsShaped : Lanes → DataState → ℕ → Turn → Type 0
IsShaped lanes known count Wait = Unit {0}
IsShaped lanes known count Broken = Unit {0}
IsShaped lanes known count (Pass rest pad next) = (known.pictures ≤ next.pictures) × (known.samples ≤ next.samples)
IsShaped lanes known count (Give unit pad next) = GivesPicture lanes.pictures known count unit next ⊎ GivesSound lanes.sound known count unit next

shaped_if : (lanes : Lanes) (known : DataState) (count : ℕ) (b : Bool) (t s : Turn) → IsShaped lanes known count t → IsShaped lanes known count s → IsShaped lanes known count (cond b t s)
shaped_if lanes known count true t s p q = p
shaped_if lanes known count false t s p q = q

shaped_wait : (lanes : Lanes) (known : DataState) (count : ℕ) → IsShaped lanes known count Wait
unfolding IsShaped
shaped_wait lanes known count = tt

shaped_broken : (lanes : Lanes) (known : DataState) (count : ℕ) → IsShaped lanes known count Broken
unfolding IsShaped
shaped_broken lanes known count = tt

shaped_pass : (lanes : Lanes) (known : DataState) (count rest pad : ℕ) (next : DataState) → known.pictures ≤ next.pictures → known.samples ≤ next.samples → IsShaped lanes known count (Pass rest pad next)
unfolding IsShaped
shaped_pass lanes known count rest pad next p s = (p, s)

is_same : (m n : ℕ) → (m == n) ≡ true → m ≡ n
is_same m n e = grind (arith, nat_tests)

is_some : (n : ℕ) → (n == 0) ≡ false → 1 ≤ n
is_some n e = grind (arith, nat_tests)

picture_shaped : (lanes : Lanes) (known : DataState) (size : ℕ) (bs : List ℕ) → IsShaped lanes known (length bs) (picture lanes.pictures known size bs)
unfolding picture IsShaped
picture_shaped lanes known size bs = pick (size == 0) (size == lanes.pictures.size) lanes.pictures.is_used (nat_lt (length bs) (8 + size)) refl refl
  where
    pick : (a b c d : Bool) → (size == lanes.pictures.size) ≡ b → nat_lt (length bs) (8 + size) ≡ d
        → IsShaped lanes known (length bs) (cond a (Pass 7 0 (one_picture known)) (cond (not b) Broken (cond (not c) (Pass (7 + size) (size % 2) (one_picture known))
        (cond d Wait (Give (record { stream = lanes.pictures.stream; skip = 8; size = size; time = known.pictures; duration = 1 }) (size % 2) (one_picture known))))))
    pick true b c d eb ed = shaped_pass lanes known (length bs) 7 0 (one_picture known) (omega arith) (omega arith)
    pick false false c d eb ed = shaped_broken lanes known (length bs)
    pick false true false d eb ed = shaped_pass lanes known (length bs) (7 + size) (size % 2) (one_picture known) (omega arith) (omega arith)
    pick false true true true eb ed = shaped_wait lanes known (length bs)
    pick false true true false eb ed = inl (record { stream = refl; time = refl; tick = refl; size = is_same size lanes.pictures.size eb; there = not_less (length bs) (8 + size) ed; pictures = refl; samples_so_far = refl })

samples_shaped : (lanes : Lanes) (known : DataState) (count : ℕ) (bs : List ℕ) → count ≤ 1024 → IsShaped lanes known (length bs) (samples lanes.sound known count (count * lanes.sound.size) bs)
unfolding samples IsShaped
samples_shaped lanes known count bs le = pick (count == 0) lanes.sound.is_used (nat_lt (length bs) (count * lanes.sound.size)) refl refl
  where
    pick : (a b c : Bool) → (count == 0) ≡ a → nat_lt (length bs) (count * lanes.sound.size) ≡ c
        → IsShaped lanes known (length bs) (cond a (Pass (known.left - 1) known.pad (record known { left = 0; pad = 0 }))
        (cond (not b) (Pass (count * lanes.sound.size - 1) (pad_after known (count * lanes.sound.size)) (after_packet known count (count * lanes.sound.size)))
        (cond c Wait (Give (record { stream = lanes.sound.stream; skip = 0; size = count * lanes.sound.size; time = known.samples; duration = count })
        (pad_after known (count * lanes.sound.size)) (after_packet known count (count * lanes.sound.size))))))
    pick true b c ea ec = shaped_pass lanes known (length bs) (known.left - 1) known.pad (record known { left = 0; pad = 0 }) (omega arith) (omega arith)
    pick false false c ea ec =
        shaped_pass lanes known (length bs) (count * lanes.sound.size - 1) (pad_after known (count * lanes.sound.size)) (after_packet known count (count * lanes.sound.size)) (omega arith) (omega arith)
    pick false true true ea ec = shaped_wait lanes known (length bs)
    pick false true false ea ec = inr (record {
      stream = refl;
      time = refl;
      some = is_some count ea;
      few = le;
      size = refl;
      there = let le = not_less (length bs) (count * lanes.sound.size) ec in omega (arith, le);
      samples_so_far = refl;
      pictures = refl;
    })

chunk_shaped : (lanes : Lanes) (known : DataState) (size : ℕ) (bs : List ℕ) → IsShaped lanes known (length bs) (chunk lanes known size bs)
unfolding chunk
chunk_shaped lanes known size bs =
    let on : (rest pad : ℕ) → IsShaped lanes known (length bs) (Pass rest pad known) = λ rest pad. shaped_pass lanes known (length bs) rest pad known (omega arith) (omega arith) in
    shaped_if lanes known (length bs) (is_data lanes.pictures (codes "dc") bs || is_data lanes.pictures (codes "db") bs) _ _ (picture_shaped lanes known size bs)
    (shaped_if lanes known (length bs) (is_data lanes.sound (codes "wb") bs) _ _
    (shaped_pass lanes known (length bs) 7 0 (record known { left = size; pad = cond (size == 0) 0 (size % 2) }) (omega arith) (omega arith))
    (shaped_if lanes known (length bs) (bytes_eq (word 0 bs) (codes "LIST") && nat_le 4 size) _ _
    (shaped_if lanes known (length bs) (nat_lt (length bs) 12) _ _ (shaped_wait lanes known (length bs))
    (shaped_if lanes known (length bs) (bytes_eq (word 8 bs) (codes "rec ")) _ _ (on 11 0) (on (7 + size) (size % 2))))
    (on (7 + size) (size % 2))))

turn_shaped : (lanes : Lanes) (known : DataState) (at : ℕ) (bs : List ℕ) → IsShaped lanes known (length bs) (turn lanes known at bs)
unfolding turn
turn_shaped lanes known at bs =
    shaped_if lanes known (length bs) (not (known.left == 0)) _ _ (samples_shaped lanes known (next_count lanes.sound known.left) bs (omega arith))
    (shaped_if lanes known (length bs) (nat_lt (2 ^ 40) at || bytes_eq (word 0 bs) (codes "RIFF")) _ _ (shaped_broken lanes known (length bs))
    (shaped_if lanes known (length bs) (nat_lt (length bs) 8) _ _ (shaped_wait lanes known (length bs)) (chunk_shaped lanes known (number_32 4 bs) bs)))

-- ---- the chain

-- whatever is known, from these times on
AllShaped : Lanes → List ℕ → Type 0
AllShaped lanes bs = (from left pad : ℕ) (known : DataState) (at pictures sound : ℕ) → pictures ≤ known.pictures → sound ≤ known.samples
    → AreShaped lanes pictures sound (packets_in (chain_from lanes from left pad known at bs))

size_there : (skip size : ℕ) (bs : List ℕ) → skip + size ≤ length bs → length (take size (drop skip bs)) ≡ size
size_there skip size bs le = omega (arith, length-take size (drop skip bs), length-drop skip bs, le)

turned_shaped : (lanes : Lanes) (known : DataState) (at b : ℕ) (bs : List ℕ) (t : Turn) (pictures sound : ℕ) → AllShaped lanes bs → IsShaped lanes known (length (b ∷ bs)) t
    → pictures ≤ known.pictures → sound ≤ known.samples → AreShaped lanes pictures sound (packets_in (turned lanes at b bs t))
unfolding turned IsShaped AllShaped
turned_shaped lanes known at b bs Wait pictures sound h s p q = tt
turned_shaped lanes known at b bs Broken pictures sound h s p q = tt
turned_shaped lanes known at b bs (Pass rest pad next) pictures sound h s p q =
    let more = s.0 in let later = s.1 in h at rest pad next (at + 1) pictures sound (omega (arith, p, more)) (omega (arith, q, later))
turned_shaped lanes known at b bs (Give unit pad next) pictures sound h (inl one) p q =
    let time = one.time in
    let after = one.pictures in
    let same = one.samples_so_far in
    inl (
      record {
        time = unit.time;
        late = omega (arith, p, time);
        of_stream = one.stream;
        times = ap (λ d. packet_at (pos unit.time) (pos d) (at + unit.skip) (take unit.size (drop unit.skip (b ∷ bs)))) one.tick;
        samples = size_there unit.skip unit.size (b ∷ bs) one.there ∙ one.size;
      },
      h at (unit.skip + unit.size - 1) pad next (at + 1) (unit.time + 1) sound (omega (arith, time, after)) (omega (arith, q, same)),
    )
turned_shaped lanes known at b bs (Give unit pad next) pictures sound h (inr one) p q =
    let time = one.time in
    let after = one.samples_so_far in
    let same = one.pictures in
    inr (
      record {
        time = unit.time;
        count = unit.duration;
        late = omega (arith, q, time);
        of_stream = one.stream;
        some = one.some;
        few = one.few;
        times = refl;
        samples = size_there unit.skip unit.size (b ∷ bs) one.there ∙ one.size;
      },
      h at (unit.skip + unit.size - 1) pad next (at + 1) pictures (unit.time + unit.duration) (omega (arith, p, same)) (omega (arith, time, after)),
    )

shaped_from : (lanes : Lanes) (bs : List ℕ) → AllShaped lanes bs
unfolding AllShaped
shaped_from lanes [] from zero pad known at pictures sound p q = pick (known.left == 0)
  where
    pick : (b : Bool) → AreShaped lanes pictures sound (packets_in (cond b whole (broken at)))
    pick true = tt
    pick false = tt
shaped_from lanes [] from (suc left) pad known at pictures sound p q = tt
shaped_from lanes (b ∷ bs) from (suc left) pad known at pictures sound p q = shaped_from lanes bs from left pad known (at + 1) pictures sound p q
shaped_from lanes (b ∷ bs) from zero (suc pad) known at pictures sound p q = shaped_from lanes bs from zero pad known (at + 1) pictures sound p q
shaped_from lanes (b ∷ bs) from zero zero known at pictures sound p q =
    rw (chain_turned lanes from known at b bs) (turned_shaped lanes known at b bs (turn lanes known at (b ∷ bs)) pictures sound (shaped_from lanes bs) (turn_shaped lanes known at (b ∷ bs)) p q)

pub packets_are_shaped : PacketsAreShaped
unfolding AllShaped
packets_are_shaped head used rest = shaped_from (lanes_of head used) rest head.start 0 0 nothing_yet head.start 0 0 (omega arith) (omega arith)
