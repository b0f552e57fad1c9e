-- Sample frames of a frame, as samples.
use Rattle.std.proofs.Common.{◌≡◌, ℕ, ◌+◌, ◌-◌, ◌*◌, ◌/◌, ◌<◌, ◌≤◌, arith, ap, sym, ◌∙◌}
use Rattle.std.proofs.Math.Nat.{add-mul, mul-le-mul_right, div-mul-le_self}

-- the samples of the kept sample frames are there
pub samples_there : (skip until size channels : ℕ) → skip < until → until ≤ size / channels → skip * channels + (until - skip) * channels ≤ size
samples_there skip until size channels some few =
    let whole : skip + (until - skip) ≡ until = omega (arith, some) in
    let same : skip * channels + (until - skip) * channels ≡ until * channels = sym (add-mul skip (until - skip) channels) ∙ ap (λ (k : ℕ). k * channels) whole in
    let less : until * channels ≤ size / channels * channels = mul-le-mul_right channels few in
    let there : size / channels * channels ≤ size = div-mul-le_self size channels in
    omega (arith, same, less, there)
