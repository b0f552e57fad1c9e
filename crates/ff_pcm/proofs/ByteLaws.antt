-- The bytes of samples stand for them, and no others do.
use Rattle.std.proofs.Common.{◌≡◌, ℕ, zero, suc, ◌+◌, ◌*◌, ◌^◌, ◌<◌, Bool, ℤ, pos, List, [], ◌∷◌, ◌++◌, length, get_or, sym, ap, ◌∙◌, arith, length-append, All}
use Rattle.std.specs.List.{flat_map}
use Rattle.std.proofs.lemmas.List.Elements.{All-append, All-nil}
use Rattle.ff_frame.specs.Audio.{FitsBits}
use Rattle.ff_frame.specs.Codecs.{IsPcmCodec, IsPcmCoding, coding_of, coding_bytes, depth_bytes, sample_bytes}
use Rattle.ff_frame.specs.declared.coding.ByteOrder.{ByteOrder}
use Rattle.ff_frame.specs.declared.coding.Coding.{Coding}
use Rattle.ff_frame.specs.declared.coding.Coding.TheVariants.{Pcm, Flac, RawVideo}
use Rattle.ff_frame.specs.declared.coding.PcmDepth.{PcmDepth}
use Rattle.ff_frame.specs.declared.head.Codec.{Codec}
use Rattle.ff_pcm.specs.Bytes.{bytes_in, number_of, coded_bytes, bytes_of}
use Rattle.ff_pcm.specs.Samples.{number_in, value_of, depth, sample_in, coded_sample, StandFor}
use Rattle.ff_pcm.proofs.NumberLaws.{same_powers, number_skip, number_length, number_are_bytes, number_front}
use Rattle.ff_pcm.proofs.SampleLaws.{some_bits, told, all_stand_fit, are_bytes}
use Rattle.ff_pcm.proofs.ValueLaws.{number_small, value_back}

module _ (order : ByteOrder) (count : ℕ) (g : ℤ → ℕ) where
  many_length : (xs : List ℤ) → length (flat_map (λ z. bytes_in order count (g z)) xs) ≡ count * length xs
  many_length [] = omega arith
  many_length (x ∷ xs) =
      length-append (bytes_in order count (g x)) (flat_map (λ z. bytes_in order count (g z)) xs)
      ∙ omega (arith, number_length order count (g x), many_length xs)

  many_are_bytes : (xs : List ℤ) → All (λ b. b < 256) (flat_map (λ z. bytes_in order count (g z)) xs)
  many_are_bytes [] = All-nil (λ b. b < 256)
  many_are_bytes (x ∷ xs) = All-append (λ b. b < 256) (bytes_in order count (g x)) (flat_map (λ z. bytes_in order count (g z)) xs) (number_are_bytes order count (g x)) (many_are_bytes xs)

  -- the bytes of each sample write its number
  number_at : (xs : List ℤ) (k : ℕ) → All (λ z. g z < 256 ^ count) xs → k < length xs → number_in order count (count * k) (flat_map (λ z. bytes_in order count (g z)) xs) ≡ g (get_or xs k (pos 0))
  number_at [] k small lt = absurd (omega arith)
  number_at (x ∷ xs) zero small lt =
      let e : count * 0 ≡ 0 = omega arith in
      ap (λ (n : ℕ). number_in order count n (bytes_in order count (g x) ++ flat_map (λ z. bytes_in order count (g z)) xs)) e
      ∙ number_front order count (g x) (flat_map (λ z. bytes_in order count (g z)) xs) (small zero x (omega arith))
  number_at (x ∷ xs) (suc k) small lt =
      let front : List ℕ = bytes_in order count (g x) in
      let rest : List ℕ = flat_map (λ z. bytes_in order count (g z)) xs in
      let e : count * suc k ≡ length front + count * k = omega (arith, number_length order count (g x)) in
      ap (λ (n : ℕ). number_in order count n (front ++ rest)) e
      ∙ (number_skip order front rest count (count * k) ∙ number_at xs k (λ j d less. small (suc j) d (omega arith)) (omega arith))

-- the bytes of each sample stand for it
module _ (bits : PcmDepth) (sign : Bool) (order : ByteOrder) (xs : List ℤ) (h : All (FitsBits (8 * depth_bytes bits)) xs) where
  all_small : All (λ z. number_of sign (8 * depth_bytes bits) z < 256 ^ depth_bytes bits) xs
  all_small k d lt = omega (arith, same_powers bits, number_small (8 * depth_bytes bits) (some_bits bits) sign (get_or xs k d) (h k d lt))

  each_stands : (k : ℕ) → k < length xs → get_or xs k (pos 0) ≡ sample_in bits sign order (flat_map (λ z. bytes_in order (depth_bytes bits) (number_of sign (8 * depth_bytes bits) z)) xs) k
  each_stands k lt =
      sym (ap (λ (n : ℕ). value_of sign (8 * depth_bytes bits) n) (number_at order (depth_bytes bits) (number_of sign (8 * depth_bytes bits)) xs k all_small lt)
      ∙ value_back (8 * depth_bytes bits) (some_bits bits) sign (get_or xs k (pos 0)) (h k (pos 0) lt))

coded_length : (coding : Coding) (xs : List ℤ) → IsPcmCoding coding → length (coded_bytes coding xs) ≡ coding_bytes coding * length xs
coded_length (Pcm form) xs p = many_length form.order (depth_bytes form.depth) (number_of form.signed (8 * depth_bytes form.depth)) xs
coded_length Flac xs p = absurd p
coded_length RawVideo xs p = absurd p

coded_stands : (coding : Coding) (xs : List ℤ) → IsPcmCoding coding → All (FitsBits (8 * coding_bytes coding)) xs → (k : ℕ) → k < length xs → get_or xs k (pos 0) ≡ coded_sample coding (coded_bytes coding xs) k
coded_stands (Pcm form) xs p h k lt = each_stands form.depth form.signed form.order xs h k lt
coded_stands Flac xs p h k lt = absurd p
coded_stands RawVideo xs p h k lt = absurd p

coded_are_bytes : (coding : Coding) (xs : List ℤ) → All (λ b. b < 256) (coded_bytes coding xs)
coded_are_bytes (Pcm form) xs = many_are_bytes form.order (depth_bytes form.depth) (number_of form.signed (8 * depth_bytes form.depth)) xs
coded_are_bytes Flac xs = All-nil (λ b. b < 256)
coded_are_bytes RawVideo xs = All-nil (λ b. b < 256)

-- samples have as many bytes as their codec says
pub bytes_length : (codec : Codec) (xs : List ℤ) → IsPcmCodec codec → length (bytes_of codec xs) ≡ sample_bytes codec * length xs
bytes_length codec xs p = coded_length (coding_of codec) xs p

pub bytes_stand : (codec : Codec) (xs : List ℤ) → IsPcmCodec codec → All (FitsBits (depth codec)) xs → StandFor codec (bytes_of codec xs) xs
bytes_stand codec xs p h = record {
  size = bytes_length codec xs p;
  each = coded_stands (coding_of codec) xs p h;
}

-- bytes that stand for samples are the bytes of these
pub only_bytes : (codec : Codec) (bs : List ℕ) (xs : List ℤ) → IsPcmCodec codec → All (λ b. b < 256) bs → StandFor codec bs xs → bs ≡ bytes_of codec xs
only_bytes codec bs xs p small s =
    let fit : All (FitsBits (depth codec)) xs = all_stand_fit codec bs xs s (are_bytes bs small) in
    told codec bs (bytes_of codec xs) xs p small (coded_are_bytes (coding_of codec) xs) s (bytes_stand codec xs p fit)
