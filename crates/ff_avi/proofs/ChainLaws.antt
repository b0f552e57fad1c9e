-- The chain at a unit, and behind what is passed over.
use Rattle.std.proofs.Common.{◌≡◌, ◌≢◌, ℕ, zero, suc, ◌+◌, ◌-◌, ◌<◌, ◌≤◌, ◌⊎◌, inl, inr, false, List, [], ◌∷◌, ◌++◌, drop, length, Some, refl, sym, ap, subst, arith}
use Rattle.std.specs.Prelude.{◌==◌, slice_get}
use Rattle.std.proofs.lemmas.Bool.Decides.{nat_tests}
use Rattle.ff_frame.specs.declared.packet.Pkt.{Pkt}
use Rattle.ff_avi.specs.declared.lane.Lanes.{Lanes}
use Rattle.ff_avi.specs.declared.data.DataState.{DataState}
use Rattle.ff_avi.specs.declared.data.DataUnit.{DataUnit}
use Rattle.ff_avi.specs.declared.data.Turn.{Turn}
use Rattle.ff_avi.specs.declared.data.Turn.TheVariants.{Wait, Broken, Pass, Give}
use Rattle.ff_avi.specs.Data.{turn, packet_of}
use Rattle.ff_avi.specs.Chains.{Chain, packets_in, broken_at, chain_from}
use Rattle.ff_avi.specs.Chains.Chain.{whole, broken, gives}
use Rattle.ff_avi.specs.laws.Cuts.{behind}

-- ---- what is passed over

pub over_left : (lanes : Lanes) (from left pad k : ℕ) (known : DataState) (at : ℕ) (bs : List ℕ) → k ≤ left → k ≤ length bs
    → chain_from lanes from left pad known at bs ≡ chain_from lanes from (left - k) pad known (at + k) (drop k bs)
over_left lanes from left pad zero known at bs le there = let l : left - 0 ≡ left = omega arith in let a : at + 0 ≡ at = omega arith in rw (l, a) refl
over_left lanes from zero pad (suc k) known at bs le there = absurd (omega (arith, le))
over_left lanes from (suc left) pad (suc k) known at [] le there = absurd (omega (arith, there))
over_left lanes from (suc left) pad (suc k) known at (b ∷ bs) le there =
    let l : suc left - suc k ≡ left - k = omega arith in
    let a : at + suc k ≡ at + 1 + k = omega arith in
    rw (l, a) (over_left lanes from left pad k known (at + 1) bs (omega (arith, le)) (omega (arith, there)))

pub over_pad : (lanes : Lanes) (from pad k : ℕ) (known : DataState) (at : ℕ) (bs : List ℕ) → k ≤ pad → k ≤ length bs
    → chain_from lanes from 0 pad known at bs ≡ chain_from lanes from 0 (pad - k) known (at + k) (drop k bs)
over_pad lanes from pad zero known at bs le there = let l : pad - 0 ≡ pad = omega arith in let a : at + 0 ≡ at = omega arith in rw (l, a) refl
over_pad lanes from zero (suc k) known at bs le there = absurd (omega (arith, le))
over_pad lanes from (suc pad) (suc k) known at [] le there = absurd (omega (arith, there))
over_pad lanes from (suc pad) (suc k) known at (b ∷ bs) le there =
    let l : suc pad - suc k ≡ pad - k = omega arith in
    let a : at + suc k ≡ at + 1 + k = omega arith in
    rw (l, a) (over_pad lanes from pad k known (at + 1) bs (omega (arith, le)) (omega (arith, there)))

-- ---- at a unit

pub at_pass : (lanes : Lanes) (from rest pad : ℕ) (known next : DataState) (at : ℕ) (bs : List ℕ) → bs ≢ [] → turn lanes known at bs ≡ Pass rest pad next
    → chain_from lanes from 0 0 known at bs ≡ chain_from lanes at (rest + 1) pad next at bs
at_pass lanes from rest pad known next at [] some e = absurd (some refl)
at_pass lanes from rest pad known next at (b ∷ bs) some e = let k : rest + 1 ≡ suc rest = omega arith in rw (k, e, chain_from) refl

pub at_give : (lanes : Lanes) (from pad : ℕ) (unit : DataUnit) (known next : DataState) (at : ℕ) (bs : List ℕ) → 1 ≤ unit.skip + unit.size → bs ≢ []
    → turn lanes known at bs ≡ Give unit pad next
    → chain_from lanes from 0 0 known at bs ≡ gives unit.stream (packet_of unit at bs) (chain_from lanes at (unit.skip + unit.size) pad next at bs)
at_give lanes from pad unit known next at [] one some e = absurd (some refl)
at_give lanes from pad unit known next at (b ∷ bs) one some e =
    let k : unit.skip + unit.size ≡ suc (unit.skip + unit.size - 1) = omega arith in
    rw (e, chain_from) (ap (λ n. gives unit.stream (packet_of unit at (b ∷ bs)) (chain_from lanes at n pad next at (b ∷ bs))) (sym k))

pub at_wait : (lanes : Lanes) (from : ℕ) (known : DataState) (at : ℕ) (bs : List ℕ) → bs ≢ [] → (turn lanes known at bs ≡ Wait) ⊎ (turn lanes known at bs ≡ Broken)
    → chain_from lanes from 0 0 known at bs ≡ broken at
at_wait lanes from known at [] some e = absurd (some refl)
at_wait lanes from known at (b ∷ bs) some (inl e) = rw (e, chain_from) refl
at_wait lanes from known at (b ∷ bs) some (inr e) = rw (e, chain_from) refl

-- the chain at a unit
unfoldable pub turned : Lanes → ℕ → ℕ → List ℕ → Turn → Chain
turned lanes at b bs Wait = broken at
turned lanes at b bs Broken = broken at
turned lanes at b bs (Pass rest pad next) = chain_from lanes at rest pad next (at + 1) bs
turned lanes at b bs (Give unit pad next) = gives unit.stream (packet_of unit at (b ∷ bs)) (chain_from lanes at (unit.skip + unit.size - 1) pad next (at + 1) bs)

pub chain_turned : (lanes : Lanes) (from : ℕ) (known : DataState) (at b : ℕ) (bs : List ℕ) → chain_from lanes from 0 0 known at (b ∷ bs) ≡ turned lanes at b bs (turn lanes known at (b ∷ bs))
unfolding turn turned
chain_turned lanes from known at b bs = refl

-- ---- at the end of the input

pub ended_over : (lanes : Lanes) (from left pad : ℕ) (known : DataState) (at : ℕ) → 0 < left → chain_from lanes from left pad known at [] ≡ broken from
ended_over lanes from zero pad known at lt = absurd (omega (arith, lt))
ended_over lanes from (suc left) pad known at lt = refl

some_left : (n : ℕ) → 0 < n → (n == 0) ≡ false
some_left n lt = grind (arith, nat_tests)

pub ended_within : (lanes : Lanes) (from left pad : ℕ) (known : DataState) (at : ℕ) → left ≡ 0 → 0 < known.left → chain_from lanes from left pad known at [] ≡ broken at
ended_within lanes from left pad known at e lt = rw e (rw (some_left known.left lt) refl)

pub ended_whole : (lanes : Lanes) (from left pad : ℕ) (known : DataState) (at : ℕ) → left ≡ 0 → known.left ≡ 0 → chain_from lanes from left pad known at [] ≡ whole
ended_whole lanes from left pad known at e n = rw (e, n) refl

-- ---- behind packets

pub packets_behind : (given : List (ℕ × Pkt)) (chain : Chain) → packets_in (behind given chain) ≡ given ++ packets_in chain
packets_behind [] chain = refl
packets_behind (p ∷ ps) chain = ap (λ xs. p ∷ xs) (packets_behind ps chain)

pub broken_behind : (given : List (ℕ × Pkt)) (chain : Chain) → broken_at (behind given chain) ≡ broken_at chain
broken_behind [] chain = refl
broken_behind (p ∷ ps) chain = broken_behind ps chain

pub behind_one : (given : List (ℕ × Pkt)) (stream : ℕ) (packet : Pkt) (chain : Chain) → behind given (gives stream packet chain) ≡ behind (given ++ (stream, packet) ∷ []) chain
behind_one [] stream packet chain = refl
behind_one (p ∷ ps) stream packet chain = ap (gives p.0 p.1) (behind_one ps stream packet chain)

-- packet number length given, where one follows
pub next_behind : (given : List (ℕ × Pkt)) (stream n : ℕ) (packet : Pkt) (chain : Chain) → length given ≡ n → slice_get (packets_in (behind given (gives stream packet chain))) n ≡ Some (stream, packet)
next_behind [] stream n packet chain e = subst (λ k. slice_get (packets_in (gives stream packet chain)) k ≡ Some (stream, packet)) e refl
next_behind (p ∷ ps) stream zero packet chain e = cc
next_behind (p ∷ ps) stream (suc n) packet chain e = next_behind ps stream n packet chain (cc (e))
