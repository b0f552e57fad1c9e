-- A format that no output has: it can write no streams.
use Rattle.std.proofs.Common.{arith}
use Rattle.ff_format.specs.Formats.{taken_by}
use Rattle.ff_format.specs.Outputs.{OutputFormat, WritesTaken, no_layout}
use Rattle.ff_format.specs.declared.format.FileFormat.TheVariants as format

abbrev pub unwritten_format : OutputFormat
unwritten_format = record { CanWrite = λ heads. ⊥; layout = λ options heads. no_layout }

-- and so it owes none, for its row takes none
pub avi_writes : WritesTaken (taken_by format.Avi) unwritten_format
avi_writes = record {
  sound = λ tb rate bits channels codec some few depth e. cc;
  pictures = λ tb f width height sar_num sar_den e. cc;
  several = λ heads some few. omega (arith, some, few);
}
