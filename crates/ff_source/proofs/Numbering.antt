-- Items by their numbers.
use Rattle.std.proofs.Common.{◌≡◌, ℕ, zero, suc, ◌+◌, ◌<◌, ◌≤◌, length, All, refl, arith}
use Rattle.ff_stream.specs.declared.item.Item.{Item}
use Rattle.ff_stream.specs.declared.item.Lane.{Lane}
use Rattle.ff_stream.specs.Lanes.{Follows, InOrder}
use Rattle.ff_source.specs.Numbered.{numbered}

pub length-numbered : (item : ℕ → Item) (n k : ℕ) → length (numbered item n k) ≡ k
length-numbered item n zero = refl
length-numbered item n (suc k) = omega (arith, length-numbered item (n + 1) k)

-- what holds of each number holds of each item
pub all_numbered : (P : Item → Type 0) (item : ℕ → Item) (n k : ℕ) → ((m : ℕ) → n ≤ m → m < n + k → P (item m)) → All P (numbered item n k)
all_numbered P item n zero h j d lt = absurd (omega (arith, lt))
all_numbered P item n (suc k) h zero d lt = h n (omega arith) (omega arith)
all_numbered P item n (suc k) h (suc j) d lt = all_numbered P item (n + 1) k (λ m a b. h m (omega (arith, a)) (omega (arith, b))) j d (omega (arith, lt))

-- each item follows the one before
pub order_numbered : (lane : Lane) (item : ℕ → Item) (n k : ℕ) → ((m : ℕ) → n ≤ m → m + 1 < n + k → Follows lane (item m) (item (m + 1))) → InOrder lane (numbered item n k)
order_numbered lane item n zero h = tt
order_numbered lane item n (suc zero) h = tt
order_numbered lane item n (suc (suc k)) h =
    (h n (omega arith) (omega arith), order_numbered lane item (n + 1) (suc k) (λ m a b. h m (omega (arith, a)) (omega (arith, b))))
