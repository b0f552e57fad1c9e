-- What it means that bytes begin with a frame, or that more of them decide.
use Rattle.std.specs.Prelude.{◌≡◌, ◌↔◌, ℕ, List}
use Rattle.ff_flac_frame.specs.declared.stream.FlacStream.{FlacStream}
use Rattle.ff_flac_frame.specs.Frame.{Frame, Begins, IsNotYet, IsNever}
use Rattle.ff_flac_dec.specs.declared.front.Front.TheVariants.{Wait, Other, Whole}
use Rattle.ff_flac_dec.specs.Packets.{unit}

-- a frame of so many bytes and sample frames begins them
abbrev pub BeginsWith : FlacStream → List ℕ → ℕ → ℕ → Type 0
BeginsWith s bytes len block = (f : Frame) × Begins s bytes f len × (f.header.block ≡ block)

-- whole exactly where a frame begins the bytes; waiting exactly where none does, and with some bytes more one does; another
-- exactly where none does, whatever follows
pub record IsExact (s : FlacStream) (bytes : List ℕ) : Type 0 where
  pub whole : (len block : ℕ) → unit s bytes ≡ Whole len block ↔ BeginsWith s bytes len block
  pub wait : unit s bytes ≡ Wait ↔ IsNotYet s bytes
  pub other : unit s bytes ≡ Other ↔ IsNever s bytes
