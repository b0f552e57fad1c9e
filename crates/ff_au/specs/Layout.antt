-- How AU is written, and that the header has the same length with any size.
use Rattle.std.proofs.Common.{◌≡◌, ℕ, ◌+◌, ◌≤◌, true, List, [], length, None, Some, refl, arith}
use Rattle.std.specs.Prelude.{Bool, false, ◌&&◌, Option}
use Rattle.ff_format.specs.Formats.{same_order, signed_so, taken_by, takes_coding}
use Rattle.ff_format.specs.Layouts.{Layout, bytes_in, finished}
use Rattle.ff_format.specs.Outputs.{OutputFormat, WritesTaken, of_one_patched}
use Rattle.ff_format.specs.declared.format.FileFormat.TheVariants as format
use Rattle.ff_frame.specs.Codecs.{coding_of}
use Rattle.ff_frame.specs.declared.coding.ByteOrder.{ByteOrder}
use Rattle.ff_frame.specs.declared.coding.ByteOrder.TheVariants.{LittleEndian, BigEndian}
use Rattle.ff_frame.specs.declared.coding.PcmDepth.{PcmDepth}
use Rattle.ff_frame.specs.declared.coding.PcmDepth.TheVariants.{Bits8, Bits16, Bits24, Bits32}
use Rattle.ff_frame.specs.declared.coding.Coding.{Coding}
use Rattle.ff_frame.specs.declared.coding.Coding.TheVariants.{Pcm, Flac, RawVideo}
use Rattle.ff_frame.specs.declared.head.StreamHead.{StreamHead}
use Rattle.ff_frame.specs.declared.head.StreamHead.TheVariants.{Audio, Video}
use Rattle.ff_frame.specs.declared.packet.Pkt.{Pkt}
use Rattle.ff_frame.specs.declared.totals.Totals.{Totals}
use Rattle.ff_au.specs.Codecs.{IsAuCoded, IsAuCoding, IsAuForm}
use Rattle.ff_au.specs.Header.{be_32, mark, header, size_field, to_the_end}
use Rattle.ff_au.specs.laws.Written.{file_of}

-- a header of a body to the end of the file, the packets as they stand, and the header with the body's size
abbrev pub au_layout : StreamHead → Layout
au_layout head = record {
  header = header head to_the_end;
  text = λ stream packet. packet.bytes;
  tail = λ packets. [];
  last = λ n totals. Some (0, header head (size_field n));
  longest = None;
}

sign_taken : (depth : PcmDepth) (sign : Bool) → signed_so true depth sign ≡ true → IsAuForm sign BigEndian
sign_taken Bits8 true e = tt
sign_taken Bits8 false e = cc
sign_taken Bits16 true e = tt
sign_taken Bits16 false e = cc
sign_taken Bits24 true e = tt
sign_taken Bits24 false e = cc
sign_taken Bits32 true e = tt
sign_taken Bits32 false e = cc

form_taken : (depth : PcmDepth) (sign : Bool) (order : ByteOrder) → (same_order BigEndian order && signed_so true depth sign) ≡ true → IsAuForm sign order
form_taken depth sign LittleEndian e = cc
form_taken depth sign BigEndian e = sign_taken depth sign e

au_taken : (coding : Coding) (rate : ℕ) → takes_coding (taken_by format.Au).sound coding rate ≡ true → IsAuCoding coding
au_taken (Pcm form) rate e = form_taken form.depth form.signed form.order e
au_taken Flac rate e = cc
au_taken RawVideo rate e = cc

-- one stream of AU's linear PCM
abbrev pub au_format : OutputFormat
au_format = of_one_patched IsAuCoded au_layout

-- and it can write what its row takes
pub au_writes : WritesTaken (taken_by format.Au) au_format
au_writes = record {
  sound = λ tb rate bits channels codec some few depth e. au_taken (coding_of codec) rate e;
  pictures = λ tb f width height sar_num sar_den e. cc;
  several = λ heads some few. absurd (omega (arith, some, few));
}

-- The finished file is the one that the header defines.
abbrev pub AusAreFiles : Type 0
AusAreFiles = (head : StreamHead) (totals : Option Totals) (packets : List (ℕ × Pkt)) → finished (au_layout head) totals packets ≡ Some (file_of head (bytes_in packets))

-- ---- headers with other sizes

pub same_length : (head : StreamHead) (m n : ℕ) → length (header head m) ≡ length (header head n)
unfolding be_32 mark
same_length (Audio base rate bits channels codec) m n = refl
same_length (Video tb format width height sar_num sar_den) m n = refl

pub au_inside : (head : StreamHead) (n : ℕ) → 0 + length (header head (size_field n)) ≤ length (header head to_the_end)
au_inside head n = let e = same_length head (size_field n) to_the_end in omega (arith, e)
