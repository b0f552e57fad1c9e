-- The fields of a `fmt ` chunk that is written, read again.
use Rattle.std.proofs.Common.{◌≡◌, ℕ, ◌^◌, ◌<◌, true, false, List, [], ◌++◌, take, length, refl, arith}
use Rattle.std.specs.Prelude.{codes}
use Rattle.std.specs.Str.{bytes_eq}
use Rattle.std.proofs.lemmas.Nat.{from_le_bytes-to_le_bytes_4, from_le_bytes-to_le_bytes_8}
use Rattle.ff_wav.specs.Chunks.{number_16, number_32, number_64}
use Rattle.ff_wav.specs.Header.{le_16, le_32, le_64, fields_of, pcm_guid, extension, plain_format, long_format}

-- ---- numbers in bytes

pub word_16 : (n : ℕ) (more : List ℕ) → n < 2 ^ 16 → number_16 0 (le_16 n ++ more) ≡ n
unfolding le_16
word_16 n more lt = omega arith

pub word_32 : (n : ℕ) (more : List ℕ) → n < 2 ^ 32 → number_32 0 (le_32 n ++ more) ≡ n
unfolding le_32
word_32 n more lt = omega (arith, from_le_bytes-to_le_bytes_4 n lt)

pub word_64 : (n : ℕ) (more : List ℕ) → n < 2 ^ 64 → number_64 0 (le_64 n ++ more) ≡ n
unfolding le_64
word_64 n more lt = omega (arith, from_le_bytes-to_le_bytes_8 n lt)

-- ---- a `fmt ` of 16 bytes

unfoldable pub plain_chunk : ℕ → ℕ → ℕ → ℕ → List ℕ
plain_chunk channels rate block bits = codes "fmt " ++ plain_format channels rate block bits

pub plain_length : (channels rate block bits : ℕ) → length (plain_chunk channels rate block bits) ≡ 24
unfolding plain_chunk plain_format fields_of le_16 le_32
plain_length channels rate block bits = refl

pub plain_named : (channels rate block bits : ℕ) (more : List ℕ) → bytes_eq (take 4 (plain_chunk channels rate block bits ++ more)) (codes "fmt ") ≡ true
unfolding plain_chunk
plain_named channels rate block bits more = refl

pub plain_other : (channels rate block bits : ℕ) (more : List ℕ) → bytes_eq (take 4 (plain_chunk channels rate block bits ++ more)) (codes "data") ≡ false
unfolding plain_chunk
plain_other channels rate block bits more = refl

pub plain_size : (channels rate block bits : ℕ) (more : List ℕ) → number_32 4 (plain_chunk channels rate block bits ++ more) ≡ 16
unfolding plain_chunk plain_format le_32
plain_size channels rate block bits more = refl

pub plain_tag : (channels rate block bits : ℕ) (more : List ℕ) → number_16 8 (plain_chunk channels rate block bits ++ more) ≡ 1
unfolding plain_chunk plain_format le_16 le_32
plain_tag channels rate block bits more = refl

pub plain_channels : (channels rate block bits : ℕ) (more : List ℕ) → channels < 2 ^ 16 → number_16 10 (plain_chunk channels rate block bits ++ more) ≡ channels
unfolding plain_chunk plain_format fields_of le_16 le_32
plain_channels channels rate block bits more lt = word_16 channels [] lt

pub plain_rate : (channels rate block bits : ℕ) (more : List ℕ) → rate < 2 ^ 32 → number_32 12 (plain_chunk channels rate block bits ++ more) ≡ rate
unfolding plain_chunk plain_format fields_of le_16 le_32
plain_rate channels rate block bits more lt = word_32 rate [] lt

pub plain_block : (channels rate block bits : ℕ) (more : List ℕ) → block < 2 ^ 16 → number_16 20 (plain_chunk channels rate block bits ++ more) ≡ block
unfolding plain_chunk plain_format fields_of le_16 le_32
plain_block channels rate block bits more lt = word_16 block [] lt

pub plain_bits : (channels rate block bits : ℕ) (more : List ℕ) → bits < 2 ^ 16 → number_16 22 (plain_chunk channels rate block bits ++ more) ≡ bits
unfolding plain_chunk plain_format fields_of le_16 le_32
plain_bits channels rate block bits more lt = word_16 bits [] lt

-- ---- a `fmt ` of 40 bytes

unfoldable pub long_chunk : ℕ → ℕ → ℕ → ℕ → List ℕ
long_chunk channels rate block bits = codes "fmt " ++ long_format channels rate block bits

pub long_length : (channels rate block bits : ℕ) → length (long_chunk channels rate block bits) ≡ 48
unfolding long_chunk long_format fields_of le_16 le_32 extension pcm_guid
long_length channels rate block bits = refl

pub long_named : (channels rate block bits : ℕ) (more : List ℕ) → bytes_eq (take 4 (long_chunk channels rate block bits ++ more)) (codes "fmt ") ≡ true
unfolding long_chunk
long_named channels rate block bits more = refl

pub long_other : (channels rate block bits : ℕ) (more : List ℕ) → bytes_eq (take 4 (long_chunk channels rate block bits ++ more)) (codes "data") ≡ false
unfolding long_chunk
long_other channels rate block bits more = refl

pub long_size : (channels rate block bits : ℕ) (more : List ℕ) → number_32 4 (long_chunk channels rate block bits ++ more) ≡ 40
unfolding long_chunk long_format le_32
long_size channels rate block bits more = refl

pub long_tag : (channels rate block bits : ℕ) (more : List ℕ) → number_16 8 (long_chunk channels rate block bits ++ more) ≡ 0xFFFE
unfolding long_chunk long_format le_16 le_32
long_tag channels rate block bits more = refl

pub long_kind : (channels rate block bits : ℕ) (more : List ℕ) → number_16 32 (long_chunk channels rate block bits ++ more) ≡ 1
unfolding long_chunk long_format fields_of le_16 le_32 extension pcm_guid
long_kind channels rate block bits more = refl

pub long_channels : (channels rate block bits : ℕ) (more : List ℕ) → channels < 2 ^ 16 → number_16 10 (long_chunk channels rate block bits ++ more) ≡ channels
unfolding long_chunk long_format fields_of le_16 le_32 extension pcm_guid
long_channels channels rate block bits more lt = word_16 channels [] lt

pub long_rate : (channels rate block bits : ℕ) (more : List ℕ) → rate < 2 ^ 32 → number_32 12 (long_chunk channels rate block bits ++ more) ≡ rate
unfolding long_chunk long_format fields_of le_16 le_32 extension pcm_guid
long_rate channels rate block bits more lt = word_32 rate [] lt

pub long_block : (channels rate block bits : ℕ) (more : List ℕ) → block < 2 ^ 16 → number_16 20 (long_chunk channels rate block bits ++ more) ≡ block
unfolding long_chunk long_format fields_of le_16 le_32 extension pcm_guid
long_block channels rate block bits more lt = word_16 block [] lt

pub long_bits : (channels rate block bits : ℕ) (more : List ℕ) → bits < 2 ^ 16 → number_16 22 (long_chunk channels rate block bits ++ more) ≡ bits
unfolding long_chunk long_format fields_of le_16 le_32 extension pcm_guid
long_bits channels rate block bits more lt = word_16 bits [] lt
