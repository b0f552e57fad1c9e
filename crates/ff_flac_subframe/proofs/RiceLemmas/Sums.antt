use Rattle.std.proofs.Common.{◌≡◌, ℕ, ◌+◌, ◌*◌, ◌/◌, ◌^◌, ◌<◌, ◌≤◌, List, [], ◌∷◌, length, map, refl, sym, ap, ◌∙◌, arith}
use Rattle.std.specs.List.{All, sum_by}
use lib.Lanes.{sum_l}
use Rattle.std.proofs.lemmas.List.Elements.{All-weaker}
use Rattle.std.proofs.lemmas.List.Sums.{sum_by-le, sum_by-cons}
use Rattle.std.proofs.lemmas.Nat.{shr_le}
use Rattle.ff_flac_subframe.specs.rice.Rice.{quotients}

sum_l-map : (f : ℕ → ℕ) (us : List ℕ) → sum_l (map f us) ≡ sum_by f us
sum_l-map f [] = refl
sum_l-map f (u ∷ us) = ap (λ n. f u + n) (sum_l-map f us) ∙ sym (sum_by-cons f u us)

pub lanes_sum : (k : ℕ) (us lanes : List ℕ) → lanes ≡ map (λ u. u / 2 ^ k) us → sum_l lanes ≡ quotients k us
lanes_sum k us lanes e = ap sum_l e ∙ sum_l-map (λ u. u / 2 ^ k) us

pub lanes_small : (k most : ℕ) (us lanes : List ℕ) → lanes ≡ map (λ u. u / 2 ^ k) us → length us ≡ 16 → All (λ u. u ≤ most) us → 16 * most < 2 ^ 32 → sum_l lanes < 2 ^ 32
lanes_small k most us lanes e h a l =
    let s : quotients k us ≤ length us * most = sum_by-le (λ u. u / 2 ^ k) most us (All-weaker (λ u. u ≤ most) (λ u. u / 2 ^ k ≤ most) (λ u m. omega (arith, m, shr_le u k)) us a) in
    omega (arith, lanes_sum k us lanes e, s, ap (λ n. n * most) h, l)
