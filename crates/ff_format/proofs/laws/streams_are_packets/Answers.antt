use Rattle.std.proofs.Common.{ap, ◌++◌, append-nil}
use Rattle.std.specs.Prelude.{Some}
use Rattle.ff_format.specs.Layouts.{body}
use Rattle.ff_format.proofs.laws.streams_are_packets.Goals as goal

pub returns : goal.returns
returns c = λ layout totals packets. ap Some (append-nil (layout.header ++ body layout packets))
