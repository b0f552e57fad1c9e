-- What the grammar reads from a subframe that was written (RFC 9639, section 9.2).
use Rattle.std.specs.Prelude.{ℤ, List, [], ◌∷◌, take}
use Rattle.ff_flac_frame.specs.declared.subframe.SubKind.TheVariants.{Constant, Verbatim, Fixed}
use Rattle.ff_flac_frame.specs.Frame.{Part}
use Rattle.ff_flac_subframe.specs.Subframe.{Spelling, rest_of, first_or_zero}
use Rattle.ff_flac_subframe.specs.Subframe.Spelling.{constant, fixed, verbatim}

abbrev pub part_for : List ℤ → Spelling → Part
part_for xs constant = record { wasted = 0; kind = Constant; order = 0; shift = 0; coefs = []; warm = first_or_zero xs ∷ []; rest = [] }
part_for xs (fixed order coding) = record { wasted = 0; kind = Fixed; order = order; shift = 0; coefs = []; warm = take order xs; rest = rest_of order xs }
part_for xs verbatim = record { wasted = 0; kind = Verbatim; order = 0; shift = 0; coefs = []; warm = xs; rest = [] }
