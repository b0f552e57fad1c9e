-- What a unit of the data is, it is whatever follows.
use Rattle.std.proofs.Common.{◌≡◌, ℕ, ◌+◌, ◌*◌, ◌^◌, ◌<◌, ◌≤◌, ◌⊎◌, inl, inr, Bool, true, false, cond, List, [], ◌∷◌, ◌++◌, take, drop, length, refl, sym, ap, ◌∙◌, arith, length-drop}
use Rattle.std.specs.Prelude.{nat_lt, nat_le, codes, ◌==◌, ◌&&◌, ◌||◌, not, pos}
use Rattle.std.specs.Str.{bytes_eq}
use Rattle.std.proofs.lemmas.List.{take-append-le, drop-append-le}
use Rattle.ff_frame.specs.Packet.{packet_at}
use Rattle.ff_wav.specs.Chunks.{number_32}
use Rattle.ff_wav.specs.laws.ChunkLaws.{front_32}
use Rattle.ff_avi.specs.declared.lane.Lane.{Lane}
use Rattle.ff_avi.specs.declared.lane.Lanes.{Lanes}
use Rattle.ff_avi.specs.declared.data.DataState.{DataState}
use Rattle.ff_avi.specs.declared.data.DataUnit.{DataUnit}
use Rattle.ff_avi.specs.declared.data.Turn.{Turn}
use Rattle.ff_avi.specs.declared.data.Turn.TheVariants.{Wait, Broken}
use Rattle.ff_avi.specs.Streams.{word}
use Rattle.ff_avi.specs.Data.{data_id, is_data, picture, next_count, samples, entered, chunk, turn, packet_of}
use Rattle.ff_avi.specs.laws.StreamLaws.{Settles, settles_decided, settles_if, settles_wait, front_word}

picture_settles : (lane : Lane) (known : DataState) (size : ℕ) (bs more : List ℕ) → Settles Wait (picture lane known size bs) (picture lane known size (bs ++ more))
unfolding picture
picture_settles lane known size bs more =
    settles_decided Wait (size == 0) (size == 0) _ _ _ refl (settles_decided Wait (not (size == lane.size)) (not (size == lane.size)) _ _ _ refl
    (settles_decided Wait (not lane.is_used) (not lane.is_used) _ _ _ refl (settles_wait Wait bs more (8 + size) _ _ (λ there. inr refl))))

samples_settle : (lane : Lane) (known : DataState) (count size : ℕ) (bs more : List ℕ) → Settles Wait (samples lane known count size bs) (samples lane known count size (bs ++ more))
unfolding samples
samples_settle lane known count size bs more =
    settles_decided Wait (count == 0) (count == 0) _ _ _ refl
    (settles_decided Wait (not lane.is_used) (not lane.is_used) _ _ _ refl (settles_wait Wait bs more size _ _ (λ there. inr refl)))

entered_settles : (known : DataState) (size : ℕ) (bs more : List ℕ) → Settles Wait (entered known size bs) (entered known size (bs ++ more))
entered_settles known size bs more = settles_wait Wait bs more 12 _ _ (λ there.
    settles_if Wait _ _ _ _ _ _ (ap (λ w. bytes_eq w (codes "rec ")) (front_word 8 bs more (omega arith))) (inr refl) (inr refl))

data_same : (lane : Lane) (letters bs more : List ℕ) → 8 ≤ length bs → is_data lane letters bs ≡ is_data lane letters (bs ++ more)
data_same lane letters bs more le = ap (λ w. nat_lt 0 lane.size && bytes_eq w (data_id lane letters)) (front_word 0 bs more (omega arith))

chunk_settles : (lanes : Lanes) (known : DataState) (size : ℕ) (bs more : List ℕ) → 8 ≤ length bs → Settles Wait (chunk lanes known size bs) (chunk lanes known size (bs ++ more))
unfolding chunk
chunk_settles lanes known size bs more le =
    settles_if Wait _ _ _ _ _ _
    (ap (λ b. b || is_data lanes.pictures (codes "db") bs) (data_same lanes.pictures (codes "dc") bs more le)
    ∙ ap (λ b. is_data lanes.pictures (codes "dc") (bs ++ more) || b) (data_same lanes.pictures (codes "db") bs more le))
    (picture_settles lanes.pictures known size bs more)
    (settles_decided Wait _ _ _ _ _ (data_same lanes.sound (codes "wb") bs more le)
    (settles_if Wait _ _ _ _ _ _ (ap (λ w. bytes_eq w (codes "LIST") && nat_le 4 size) (front_word 0 bs more (omega arith)))
    (entered_settles known size bs more) (inr refl)))

-- fewer than four bytes are no word
no_word : (bs : List ℕ) → length bs < 4 → bytes_eq (word 0 bs) (codes "RIFF") ≡ false
no_word [] lt = refl
no_word (a ∷ []) lt = one (a == 82)
  where
    one : (x : Bool) → (x && false) ≡ false
    one true = refl
    one false = refl
no_word (a ∷ b ∷ []) lt = two (a == 82) (b == 73)
  where
    two : (x y : Bool) → (x && (y && false)) ≡ false
    two true true = refl
    two true false = refl
    two false y = refl
no_word (a ∷ b ∷ c ∷ []) lt = three (a == 82) (b == 73) (c == 70)
  where
    three : (x y z : Bool) → (x && (y && (z && false))) ≡ false
    three true true true = refl
    three true true false = refl
    three true false z = refl
    three false y z = refl
no_word (a ∷ b ∷ c ∷ d ∷ bs) lt = absurd (omega (arith, lt))

is_less : (m n : ℕ) → m < n → nat_lt m n ≡ true
is_less m n lt = grind arith

few_or_four : (bs : List ℕ) → (length bs < 4) ⊎ (4 ≤ length bs)
few_or_four [] = inl (omega arith)
few_or_four (a ∷ []) = inl (omega arith)
few_or_four (a ∷ b ∷ []) = inl (omega arith)
few_or_four (a ∷ b ∷ c ∷ []) = inl (omega arith)
few_or_four (a ∷ b ∷ c ∷ d ∷ bs) = inr (omega arith)

-- too far, or to be told by its first bytes
far_settles : (far first second short long : Bool) (t t' : Turn) → first ≡ false → short ≡ true
    → Settles Wait (cond (far || first) Broken (cond short Wait t)) (cond (far || second) Broken (cond long Wait t'))
far_settles true first second short long t t' e s = inr refl
far_settles false first second short long t t' e s = inl (rw (e, s) refl)

start_settles : (lanes : Lanes) (known : DataState) (at : ℕ) (bs more : List ℕ) → (length bs < 4) ⊎ (4 ≤ length bs)
    → Settles Wait (cond (nat_lt (2 ^ 40) at || bytes_eq (word 0 bs) (codes "RIFF")) Broken (cond (nat_lt (length bs) 8) Wait (chunk lanes known (number_32 4 bs) bs)))
    (cond (nat_lt (2 ^ 40) at || bytes_eq (word 0 (bs ++ more)) (codes "RIFF")) Broken
    (cond (nat_lt (length (bs ++ more)) 8) Wait (chunk lanes known (number_32 4 (bs ++ more)) (bs ++ more))))
start_settles lanes known at bs more (inl few) =
    far_settles (nat_lt (2 ^ 40) at) (bytes_eq (word 0 bs) (codes "RIFF")) (bytes_eq (word 0 (bs ++ more)) (codes "RIFF")) (nat_lt (length bs) 8) (nat_lt (length (bs ++ more)) 8) _ _
    (no_word bs few) (is_less (length bs) 8 (omega arith))
start_settles lanes known at bs more (inr four) =
    settles_decided Wait _ _ _ _ _ (ap (λ w. nat_lt (2 ^ 40) at || bytes_eq w (codes "RIFF")) (front_word 0 bs more (omega arith)))
    (settles_wait Wait bs more 8 _ _ (λ there.
    rw (front_32 bs more 4 (omega arith)) (chunk_settles lanes known (number_32 4 bs) bs more there)))

-- what a unit is that doesn't wait, it is whatever follows
pub turn_settles : (lanes : Lanes) (known : DataState) (at : ℕ) (bs more : List ℕ) → Settles Wait (turn lanes known at bs) (turn lanes known at (bs ++ more))
unfolding turn
turn_settles lanes known at bs more =
    settles_if Wait (not (known.left == 0)) (not (known.left == 0)) _ _ _ _ refl
    (samples_settle lanes.sound known (next_count lanes.sound known.left) (next_count lanes.sound known.left * lanes.sound.size) bs more)
    (start_settles lanes known at bs more (few_or_four bs))

-- so of a turn that is known and isn't to wait
pub turn_stays : (lanes : Lanes) (known : DataState) (at : ℕ) (bs more : List ℕ) (t : Turn) → turn lanes known at bs ≡ t → (t ≡ Wait → ⊥) → turn lanes known at (bs ++ more) ≡ t
turn_stays lanes known at bs more t e n = elim (turn_settles lanes known at bs more) [ inl w ↦ absurd (n (sym e ∙ w)) | inr same ↦ sym same ∙ e ]

-- the packet of a unit that is there is the same whatever follows
pub packet_same : (unit : DataUnit) (at : ℕ) (bs more : List ℕ) → unit.skip + unit.size ≤ length bs → packet_of unit at (bs ++ more) ≡ packet_of unit at bs
packet_same unit at bs more le =
    let front : drop unit.skip (bs ++ more) ≡ drop unit.skip bs ++ more = drop-append-le unit.skip bs more (omega arith) in
    let own : take unit.size (drop unit.skip bs ++ more) ≡ take unit.size (drop unit.skip bs) = take-append-le unit.size (drop unit.skip bs) more (omega (arith, length-drop unit.skip bs)) in
    ap (λ xs. packet_at (pos unit.time) (pos unit.duration) (at + unit.skip) xs) (ap (take unit.size) front ∙ own)
