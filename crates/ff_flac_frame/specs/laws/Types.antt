-- The subframe types as the standard's table has them (RFC 9639, section 9.2.1).
use Rattle.std.specs.Prelude.{◌≡◌, ℕ, ◌+◌, ◌-◌, ◌&&◌, nat_le, false, if◌then◌else◌, List, [], ◌∷◌, Option, Some, None}
use Rattle.ff_flac_frame.specs.declared.subframe.SubKind.{SubKind}
use Rattle.ff_flac_frame.specs.declared.subframe.SubKind.TheVariants.{Constant, Verbatim, Fixed, Lpc}
use Rattle.ff_flac_frame.specs.Codes.{kind_of, order_of, kind_fits}

-- the codes from one to another, what they are, and the predictor's order at the first of them, which grows with the code
pub record Row : Type 0 where
  pub first : ℕ
  pub last : ℕ
  pub kind : SubKind
  pub order : ℕ

abbrev pub row : ℕ → ℕ → SubKind → ℕ → Row
row first last kind order = record { first = first; last = last; kind = kind; order = order }

-- all other codes are reserved
abbrev pub table : List Row
table = row 0 0 Constant 0 ∷ row 1 1 Verbatim 0 ∷ row 8 12 Fixed 0 ∷ row 32 63 Lpc 1 ∷ []

abbrev pub row_of : List Row → ℕ → Option Row
row_of [] code = None
row_of (r ∷ rows) code = if nat_le r.first code && nat_le code r.last then Some r else row_of rows code

-- a reserved code isn't read; another is what its row says, and is read where its order is at most the block
abbrev pub IsTypeBy : Option Row → ℕ → ℕ → Type 0
IsTypeBy None block code = kind_fits block code ≡ false
IsTypeBy (Some r) block code = (kind_of code ≡ r.kind) × (order_of code ≡ r.order + (code - r.first)) × (kind_fits block code ≡ nat_le (order_of code) block)

abbrev pub IsType : ℕ → ℕ → Type 0
IsType block code = IsTypeBy (row_of table code) block code
