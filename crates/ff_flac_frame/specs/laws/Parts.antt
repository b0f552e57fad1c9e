-- What the values of the code stand for.
use Rattle.std.specs.Prelude.{ℕ, map}
use Rattle.ff_flac_frame.specs.declared.subframe.Subframe.{Subframe}
use Rattle.ff_flac_frame.specs.declared.header.Header.{Header as Head}
use Rattle.ff_flac_frame.specs.declared.frame.Body.{Body}
use Rattle.ff_flac_frame.specs.declared.frame.FlacFrame.{FlacFrame}
use Rattle.ff_flac_frame.specs.Frame.{Header, Part, Frame}

abbrev pub header_of : Head → Header
header_of h = record { number = h.number; block = h.block; form = h.form }

abbrev pub part_of : Subframe → Part
part_of s = record { wasted = s.wasted; kind = s.kind; order = s.order; shift = s.shift; coefs = s.coefs; warm = s.warm; rest = s.rest }

-- the frame with this coded number
abbrev pub frame_of : ℕ → FlacFrame → Frame
frame_of number f = record { header = record { number = number; block = f.block; form = f.form }; parts = map part_of f.subframes }

abbrev pub read_of : Body → Frame
read_of b = record { header = header_of b.header; parts = map part_of b.parts.items }
