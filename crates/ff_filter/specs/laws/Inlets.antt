-- What comes next on an input that keeps items until they can be used.
use Rattle.std.specs.Prelude.{◌≡◌, false}
use Rattle.ff_stream.specs.declared.item.Item.TheVariants.{End, Broken}
use Rattle.ff_stream.specs.Ports.{nothing}
use Rattle.ff_filter.specs.declared.inlet.Next.{Next}
use Rattle.ff_filter.specs.declared.inlet.Next.TheVariants as next
use Rattle.ff_filter.specs.Joins.{Flow, one, before}
use Rattle.ff_filter.specs.Views.{closes}

-- this comes next, whatever still comes behind; `old` and `new` are what is there before and after it was taken out
abbrev pub IsNext : Next → (Flow → Flow) → (Flow → Flow) → Type 0
IsNext (next.Data x) old new = (closes x ≡ false) × ((t : Flow) → old t ≡ before x (new t))
IsNext next.Whole old new = (t : Flow) → old t ≡ one End
IsNext next.Lost old new = (t : Flow) → old t ≡ one Broken
IsNext next.Unknown old new = (old nothing ≡ nothing) × ((t : Flow) → new t ≡ old t)
