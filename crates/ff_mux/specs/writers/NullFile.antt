-- How an output is written whose packets go nowhere: nothing of any packet, and nothing once every stream is whole.
use Rattle.std.specs.Prelude.{◌≡◌, ℕ, List, [], Option, Some}
use Rattle.std.proofs.Common.{arith}
use Rattle.ff_format.specs.Formats.{taken_by}
use Rattle.ff_format.specs.Layouts.{finished, written}
use Rattle.ff_format.specs.Outputs.{OutputFormat, WritesTaken, no_layout}
use Rattle.ff_format.specs.declared.format.FileFormat.TheVariants as format
use Rattle.ff_frame.specs.declared.packet.Pkt.{Pkt}
use Rattle.ff_frame.specs.declared.totals.Totals.{Totals}
use Rattle.ff_mux.specs.writers.DigestFiles.{AreFew}

-- 1 to 16 streams of any kind
abbrev pub null_format : OutputFormat
null_format = record { CanWrite = AreFew; layout = λ options heads. no_layout }

-- and it can write what its row takes
pub null_writes : WritesTaken (taken_by format.Null) null_format
null_writes = record {
  sound = λ tb rate bits channels codec some few depth e. (omega arith, omega arith);
  pictures = λ tb f width height sar_num sar_den e. (omega arith, omega arith);
  several = λ heads some few. (omega (arith, some), few);
}

-- Nothing is written of any packets, and in the end there is nothing.
abbrev pub NullWritesNothing : Type 0
NullWritesNothing = (totals : Option Totals) (packets : List (ℕ × Pkt))
    → (finished no_layout totals packets ≡ Some []) × (written no_layout packets ≡ [])
