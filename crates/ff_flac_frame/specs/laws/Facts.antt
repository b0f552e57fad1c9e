-- What holds of each frame of the grammar.
use Rattle.std.specs.Prelude.{◌≡◌, ℕ, ◌-◌, ◌<◌, ◌≤◌, true, List, [], ◌∷◌, length, ℤ, pos, neg_ℤ, ◌≤ℤ◌}
use Rattle.std.specs.List.{AllByRecursion}
use Rattle.ff_frame.specs.Audio.{FitsBits}
use Rattle.ff_flac_frame.specs.declared.stream.FlacStream.{FlacStream}
use Rattle.ff_flac_frame.specs.declared.subframe.SubKind.{SubKind}
use Rattle.ff_flac_frame.specs.declared.subframe.SubKind.TheVariants.{Constant, Verbatim, Fixed, Lpc}
use Rattle.ff_flac_frame.specs.Codes.{form_fits, depths}
use Rattle.ff_flac_frame.specs.Frame.{Header, Part, Frame}

-- from -(2^31 - 1) to 2^31 - 1
pub record IsResidual (x : ℤ) : Type 0 where
  pub low : neg_ℤ (pos 2147483647) ≤ℤ x
  pub high : x ≤ℤ pos 2147483647

-- how many samples and residuals a subframe has: a predictor looks back at most at the block
abbrev pub HasShape : ℕ → Part → SubKind → Type 0
HasShape block p Constant = length p.warm ≡ 1
HasShape block p Verbatim = length p.warm ≡ block
HasShape block p Fixed = (p.order ≤ 4) × (p.order ≤ block) × (length p.warm ≡ p.order) × (length p.rest ≡ block - p.order)
HasShape block p Lpc = (1 ≤ p.order) × (p.order ≤ 32) × (p.order ≤ block) × (length p.coefs ≡ p.order) × (length p.warm ≡ p.order) × (length p.rest ≡ block - p.order)

-- a subframe of this depth
pub record IsPart (block depth : ℕ) (p : Part) : Type 0 where
  pub wasted : p.wasted < depth
  pub shift : p.shift ≤ 15
  pub coefs : AllByRecursion (FitsBits 15) p.coefs
  pub warm : AllByRecursion (FitsBits (depth - p.wasted)) p.warm
  pub rest : AllByRecursion IsResidual p.rest
  pub shape : HasShape block p p.kind

-- one for each depth
abbrev pub AreParts : ℕ → List ℕ → List Part → Type 0
AreParts block [] [] = Unit {0}
AreParts block [] (p ∷ parts) = ⊥
AreParts block (d ∷ ds) [] = ⊥
AreParts block (d ∷ ds) (p ∷ parts) = IsPart block d p × AreParts block ds parts

pub record IsHeader (channels : ℕ) (h : Header) : Type 0 where
  pub some : 1 ≤ h.block
  pub few : h.block ≤ 65535
  pub form : form_fits channels h.form ≡ true

pub record IsFrame (s : FlacStream) (f : Frame) : Type 0 where
  pub header : IsHeader s.channels f.header
  pub parts : AreParts f.header.block (depths f.header.form s.channels s.bits) f.parts
