use Rattle.std.proofs.Common.{◌≡◌, ℕ, List, [], Err, refl, lit≤}
use Rattle.ff_format.specs.declared.format.FileFormat.{FileFormat}
use Rattle.ff_format.specs.declared.format.FileFormat.TheVariants as format
use Rattle.ff_reader.specs.declared.fault.HeadFault.TheVariants.{Unsupported}
use Rattle.ff_input.specs.Formats.{head_in, input_head}
use Rattle.ff_input.proofs.formats.start_of.Goals as goal

pub returns-in-Wav : goal.returns-in-Wav
unfolding input_head
returns-in-Wav c = rw c.in-Wav.is (λ more. refl, ([], [], refl, (lit≤ tt, c.new.ensures)))

pub returns-in-Y4m : goal.returns-in-Y4m
unfolding input_head
returns-in-Y4m c = rw c.in-Y4m.is (λ more. refl, ([], [], refl, tt))

pub returns-in-Flac : goal.returns-in-Flac
unfolding input_head
returns-in-Flac c = let h = c.new-in-Flac.ensures in rw c.in-Flac.is (λ more. refl, (h.0, h.1, h.2, (h.3, h.4)))

pub returns-in-Au : goal.returns-in-Au
unfolding input_head
returns-in-Au c = rw c.in-Au.is (λ more. refl, ([], [], refl, (lit≤ tt, c.new-in-Au.ensures)))

pub returns-in-Avi : goal.returns-in-Avi
unfolding input_head
returns-in-Avi c = rw c.in-Avi.is (λ more. refl, ([], [], refl, (lit≤ tt, c.new-in-Avi.ensures)))

-- a format that isn't read
not_read : (f : FileFormat) → (f ≡ format.Wav → ⊥) → (f ≡ format.Y4m → ⊥) → (f ≡ format.Flac → ⊥) → (f ≡ format.Au → ⊥) → (f ≡ format.Avi → ⊥) → (bs : List ℕ)
    → head_in f bs ≡ Err (Unsupported 0)
not_read format.Wav wav y4m flac au avi bs = absurd (wav refl)
not_read format.Y4m wav y4m flac au avi bs = absurd (y4m refl)
not_read format.Flac wav y4m flac au avi bs = absurd (flac refl)
not_read format.Au wav y4m flac au avi bs = absurd (au refl)
not_read format.Avi wav y4m flac au avi bs = absurd (avi refl)
not_read other wav y4m flac au avi bs = refl

pub returns-in_default : goal.returns-in_default
unfolding input_head
returns-in_default c = λ more.
    not_read c.args.format c.in_default.not-Wav c.in_default.not-Y4m c.in_default.not-Flac c.in_default.not-Au c.in_default.not-Avi more
