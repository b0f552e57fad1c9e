-- The digests of bytes that come piece by piece, and which bytes came.
use Rattle.std.specs.Prelude.{◌≡◌, ⊤, ℕ, suc, ◌%◌, List, [], ◌∷◌}
use Rattle.md5.specs.Md5.{Holds}
use Rattle.sha2.specs.Hashers.{Holds256}
use Rattle.ff_format.specs.Layouts.{bytes_in}
use Rattle.ff_frame.specs.declared.hash.HashKind.{HashKind}
use Rattle.ff_frame.specs.declared.hash.HashKind.TheVariants as kind
use Rattle.ff_frame.specs.declared.packet.Pkt.{Pkt}
use Rattle.ff_mux.specs.DigestTexts.{packets_of}
use Rattle.ff_mux.specs.Adler.{byte_sum, sum_of_sums}
use Rattle.ff_mux.specs.declared.adler.Sums.{Sums}
use Rattle.ff_mux.specs.declared.digest.Hasher.{Hasher}
use Rattle.ff_mux.specs.declared.digest.Hasher.TheVariants.{Sha256, Md5}

-- which digest it is
abbrev pub hasher_kind : Hasher → HashKind
hasher_kind (Sha256 s) = kind.Sha256
hasher_kind (Md5 s) = kind.Md5

-- it took these bytes
abbrev pub HasTaken : Hasher → List ℕ → Type 0
HasTaken (Sha256 s) bytes = Holds256 s bytes
HasTaken (Md5 s) bytes = Holds s bytes

-- from the stream of this number on, one after another: each took the bytes of its stream's packets
abbrev pub AllTaken : ℕ → List Hasher → List (ℕ × Pkt) → Type 0
AllTaken i [] packets = ⊤
AllTaken i (h ∷ hs) packets = HasTaken h (bytes_in (packets_of i packets)) × AllTaken (suc i) hs packets

abbrev pub AreOfKind : HashKind → List Hasher → Type 0
AreOfKind kind [] = ⊤
AreOfKind kind (h ∷ hs) = (hasher_kind h ≡ kind) × AreOfKind kind hs

-- these are the sums of such bytes, begun at 1
abbrev pub AreSums : Sums → List ℕ → Type 0
AreSums s bytes = (s.bytes ≡ byte_sum 1 bytes % 65521) × (s.sums ≡ sum_of_sums 1 0 bytes % 65521)
