-- A body without what follows its last whole sample frame: it has the same packets.
use Rattle.std.proofs.Common.{◌≡◌, ℕ, ◌+◌, ◌-◌, ◌*◌, ◌/◌, ◌<◌, ◌≤◌, ◌⊎◌, inl, inr, min, map, List, take, drop, length, sym, ap, ◌∙◌, arith, refl}
use Rattle.std.specs.Prelude.{nat_le}
use Rattle.std.specs.List.{range_with_len}
use Rattle.std.proofs.Math.Nat.{one-le-mul, div-mul-le_self, mul-div_cancel, mul-le-mul_right, zero-mul}
use Rattle.std.proofs.lemmas.Bool.Decides.{nat_tests}
use Rattle.std.proofs.lemmas.List.{length-take, take-take}
use Rattle.ff_frame.specs.Codecs.{sample_bytes}
use Rattle.ff_frame.specs.laws.PcmLaws.{few_sample_bytes}
use Rattle.ff_frame.specs.declared.head.Codec.{Codec}
use Rattle.ff_frame.specs.declared.head.StreamHead.{StreamHead}
use Rattle.ff_frame.specs.declared.head.StreamHead.TheVariants.{Audio, Video}
use Rattle.ff_reader.proofs.AgreeLaws.{bool_cases}
use Rattle.ff_pcm.specs.body.Packets.{IsStream, block_of, frames, packet_at, packet_count, packets_of}
use Rattle.ff_pcm.proofs.BodyLemmas.CutLaws.{piece, made, packet_is}

some_bytes : (channels : ℕ) (codec : Codec) → 1 ≤ channels → 0 < channels * sample_bytes codec
some_bytes channels codec some = one-le-mul some (few_sample_bytes codec).0

pub some_block : (head : StreamHead) → IsStream head → 0 < block_of head
some_block (Audio base rate bits channels codec) h = some_bytes channels codec h.some_channels
some_block (Video tb format width height sar_num sar_den) h = absurd h

whole_frames : (block : ℕ) (xs : List ℕ) → 0 < block → frames block (take (length xs / block * block) xs) ≡ frames block xs
whole_frames block xs lt =
    let n : length (take (length xs / block * block) xs) ≡ length xs / block * block = omega (arith, length-take (length xs / block * block) xs, div-mul-le_self (length xs) block) in
    ap (λ k. k / block) n ∙ mul-div_cancel (length xs / block) lt

piece_of : (block first count total : ℕ) (xs : List ℕ) → (count ≡ 0) ⊎ (first + count ≤ total) → take (count * block) (drop (first * block) (take (total * block) xs)) ≡ take (count * block) (drop (first * block) xs)
piece_of block first count total xs (inl none) =
    let z : count * block ≡ 0 = ap (λ k. k * block) none ∙ zero-mul block in
    ap (λ k. take k (drop (first * block) (take (total * block) xs))) z ∙ sym (ap (λ k. take k (drop (first * block) xs)) z)
piece_of block first count total xs (inr le) =
    let m : (first + count) * block ≤ total * block = mul-le-mul_right block le in
    piece (count * block) (first * block) (take (total * block) xs) xs (take-take (first * block + count * block) (total * block) xs (omega (arith, m)))

count_cases : (total first : ℕ) → (min 1024 (total - first) ≡ 0) ⊎ (first + min 1024 (total - first) ≤ total)
count_cases total first = elim (bool_cases (nat_le first total)) [
  | inl a ↦ inr (grind (arith, nat_tests))
  | inr a ↦ inl (grind (arith, nat_tests))
]

whole_packet : (start block first : ℕ) (xs : List ℕ) → 0 < block → packet_at start block (take (length xs / block * block) xs) first ≡ packet_at start block xs first
whole_packet start block first xs lt =
    let count = min 1024 (frames block xs - first) in
    packet_is start block (take (length xs / block * block) xs) first count (ap (λ n. min 1024 (n - first)) (whole_frames block xs lt))
    ∙ (ap (λ ys. made start block first count ys) (piece_of block first count (length xs / block) xs (count_cases (frames block xs) first)) ∙ sym (packet_is start block xs first count refl))

pub whole_packets : (start block : ℕ) (xs : List ℕ) → 0 < block → packets_of start block (take (length xs / block * block) xs) ≡ packets_of start block xs
whole_packets start block xs lt =
    ap (λ n. map (λ k. packet_at start block (take (length xs / block * block) xs) (1024 * k)) (range_with_len 0 ((n + 1023) / 1024))) (whole_frames block xs lt)
    ∙ (λ i. map (λ k. whole_packet start block (1024 * k) xs lt i) (range_with_len 0 (packet_count block xs)))
