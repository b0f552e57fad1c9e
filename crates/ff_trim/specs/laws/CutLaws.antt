-- The laws of a cut: from those of the trims.
use Rattle.std.specs.Prelude.{◌≡◌, Some, refl}
use Rattle.ff_stream.specs.declared.item.Item.TheVariants.{End, Broken}
use Rattle.ff_stream.specs.Stream.{LiesBelow, opened}
use Rattle.ff_stream.specs.Ports.{nothing, IsClosed}
use Rattle.ff_stream.specs.laws.Order.{below_self}
use Rattle.ff_filter.specs.Joins.{Flow, one}
use Rattle.ff_filter.specs.Shifts.{shifted-below}
use Rattle.ff_vfilter.specs.Trims.{trimmed}
use Rattle.ff_vfilter.specs.laws.TrimLaws.{trimmed-below, trimmed-calm, trimmed-settles}
use Rattle.ff_afilter.specs.Trims.{sound_trimmed}
use Rattle.ff_afilter.specs.laws.TrimLaws.{trimmed-below as sound-below, trimmed-calm as sound-calm, trimmed-settles as sound-settles}
use Rattle.ff_trim.specs.declared.cut.Cut.{Cut}
use Rattle.ff_trim.specs.declared.cut.Cut.TheVariants.{Uncut, Sound, Pictures}
use Rattle.ff_trim.specs.laws.Taps.{runs_of}

pub runs-below : (c : Cut) (r s : Flow) → LiesBelow r s → LiesBelow (runs_of c r) (runs_of c s)
runs-below (Uncut m) r s h = h
runs-below (Sound m start) r s h = shifted-below (Some start) (sound_trimmed m.range r) (sound_trimmed m.range s) (sound-below m.range r s h)
runs-below (Pictures m start) r s h = shifted-below (Some start) (trimmed m.range r) (trimmed m.range s) (trimmed-below m.range r s h)

pub runs-calm : (c : Cut) (r : Flow) → LiesBelow (opened (runs_of c r)) (runs_of c (opened r))
runs-calm (Uncut m) r = below_self (opened r)
runs-calm (Sound m start) r = shifted-below (Some start) (opened (sound_trimmed m.range r)) (sound_trimmed m.range (opened r)) (sound-calm m.range r)
runs-calm (Pictures m start) r = shifted-below (Some start) (opened (trimmed m.range r)) (trimmed m.range (opened r)) (trimmed-calm m.range r)

pub runs-settles : (c : Cut) (r : Flow) → IsClosed r → IsClosed (runs_of c r)
runs-settles (Uncut m) r h = h
runs-settles (Sound m start) r h = sound-settles m.range r h
runs-settles (Pictures m start) r h = trimmed-settles m.range r h

pub runs-waits : (c : Cut) → runs_of c nothing ≡ nothing
runs-waits (Uncut m) = refl
runs-waits (Sound m start) = refl
runs-waits (Pictures m start) = refl

pub runs-ends : (c : Cut) → runs_of c (one End) ≡ one End
runs-ends (Uncut m) = refl
runs-ends (Sound m start) = refl
runs-ends (Pictures m start) = refl

pub runs-breaks : (c : Cut) → runs_of c (one Broken) ≡ one Broken
runs-breaks (Uncut m) = refl
runs-breaks (Sound m start) = refl
runs-breaks (Pictures m start) = refl
