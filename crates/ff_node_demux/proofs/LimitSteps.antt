-- A stream up to the first item that passes a limit, item by item.
use Rattle.std.proofs.Common.{◌≡◌, ℕ, zero, suc, ◌+◌, ◌≤◌, Bool, true, false, cond, List, [], ◌∷◌, length, Some, refl, sym, ap, ◌∙◌, arith}
use Rattle.std.specs.Prelude.{slice_get, ◌||◌, nat_lt, ◌^◌}
use Rattle.std.proofs.lemmas.Bool.Decides.{nat_tests}
use Rattle.ff_stream.specs.declared.item.Item.{Item}
use Rattle.ff_stream.specs.declared.item.Item.TheVariants.{Packet}
use Rattle.ff_stream.specs.declared.item.Lane.{Lane}
use Rattle.ff_frame.specs.declared.packet.Pkt.{Pkt}
use Rattle.ff_stream.specs.Within.{some_pass, before_pass}
use Rattle.ff_node_demux.specs.Demuxing.{passes_in_demux, last_byte}

module _ (passes : ℕ → Item → Bool) where
  -- the next item is there where it passes no limit
  pub before_get : (k : ℕ) (xs : List Item) (n : ℕ) (x : Item) → slice_get xs n ≡ Some x → n ≤ length (before_pass passes k xs)
      → passes (k + n) x ≡ false → slice_get (before_pass passes k xs) n ≡ Some x
  before_get k [] n x e le f = cc
  before_get k (y ∷ ys) zero x e le f =
      let same : y ≡ x = cc in
      let here : k + 0 ≡ k = omega arith in
      let short : passes k y ≡ false = ap (passes k) same ∙ (ap (λ (i : ℕ). passes i x) (sym here) ∙ f) in
      ap (λ (b : Bool). slice_get (cond b [] (y ∷ before_pass passes (k + 1) ys)) 0) short ∙ ap (λ (z : Item). Some z) same
  before_get k (y ∷ ys) (suc n) x e le f = pick (passes k y) le (λ l. before_get (k + 1) ys n x e l (let i : (k + 1) + n ≡ k + suc n = omega arith in ap (λ (j : ℕ). passes j x) i ∙ f))
    where
      pick : (b : Bool) → suc n ≤ length (cond b [] (y ∷ before_pass passes (k + 1) ys))
          → (n ≤ length (before_pass passes (k + 1) ys) → slice_get (before_pass passes (k + 1) ys) n ≡ Some x)
          → slice_get (cond b [] (y ∷ before_pass passes (k + 1) ys)) (suc n) ≡ Some x
      pick true l h = absurd (omega arith)
      pick false l h = h (omega arith)

  -- all before it are the items, where it passes one
  pub before_stop : (k : ℕ) (xs : List Item) (n : ℕ) (x : Item) → slice_get xs n ≡ Some x → n ≤ length (before_pass passes k xs)
      → passes (k + n) x ≡ true
      → (n ≡ length (before_pass passes k xs)) × (some_pass passes k xs ≡ true)
  before_stop k [] n x e le t = cc
  before_stop k (y ∷ ys) zero x e le t =
      let same : y ≡ x = cc in
      let here : k + 0 ≡ k = omega arith in
      let long : passes k y ≡ true = ap (passes k) same ∙ (ap (λ (i : ℕ). passes i x) (sym here) ∙ t) in
      rw long (refl, refl)
  before_stop k (y ∷ ys) (suc n) x e le t = pick (passes k y) le (λ l. before_stop (k + 1) ys n x e l (let i : (k + 1) + n ≡ k + suc n = omega arith in ap (λ (j : ℕ). passes j x) i ∙ t))
    where
      pick : (b : Bool) → suc n ≤ length (cond b [] (y ∷ before_pass passes (k + 1) ys))
          → (n ≤ length (before_pass passes (k + 1) ys) → (n ≡ length (before_pass passes (k + 1) ys)) × (some_pass passes (k + 1) ys ≡ true))
          → (suc n ≡ length (cond b [] (y ∷ before_pass passes (k + 1) ys))) × (cond b true (some_pass passes (k + 1) ys) ≡ true)
      pick true l h = absurd (omega arith)
      pick false l h = let r = h (omega arith) in (let a = r.0 in omega (arith, a), r.1)

  -- none passes one, where all are there
  pub before_all : (k : ℕ) (xs : List Item) (n : ℕ) → length xs ≡ n → n ≤ length (before_pass passes k xs) → (n ≡ length (before_pass passes k xs))
      × (some_pass passes k xs ≡ false)
  before_all k [] zero e le = (refl, refl)
  before_all k [] (suc n) e le = absurd (omega arith)
  before_all k (y ∷ ys) zero e le = absurd (omega arith)
  before_all k (y ∷ ys) (suc n) e le = pick (passes k y) le (λ l. before_all (k + 1) ys n (omega arith) l)
    where
      pick : (b : Bool) → suc n ≤ length (cond b [] (y ∷ before_pass passes (k + 1) ys))
          → (n ≤ length (before_pass passes (k + 1) ys) → (n ≡ length (before_pass passes (k + 1) ys)) × (some_pass passes (k + 1) ys ≡ false))
          → (suc n ≡ length (cond b [] (y ∷ before_pass passes (k + 1) ys))) × (cond b true (some_pass passes (k + 1) ys) ≡ false)
      pick true l h = absurd (omega arith)
      pick false l h = let r = h (omega arith) in (let a = r.0 in omega (arith, a), r.1)

tests : (a b c d e f : ℕ) → ((nat_lt a b || nat_lt c d) || nat_lt e f) ≡ false → (b ≤ a) × (f ≤ e)
tests a b c d e f h = (grind (arith, nat_tests), grind (arith, nat_tests))

-- a packet that passes no limit is one of the first 2^40, and ends at or before the last byte
pub short_packet : (lane : Lane) (n : ℕ) (p : Pkt) → passes_in_demux lane n (Packet p) ≡ false → (n + 1 ≤ 2 ^ 40)
    × (p.pos + length p.bytes ≤ last_byte)
short_packet lane n p e = tests (2 ^ 40) (n + 1) _ _ (2 ^ 40) (p.pos + length p.bytes) e
