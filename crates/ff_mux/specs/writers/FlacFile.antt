-- How FLAC is written, and that STREAMINFO is no longer with totals than without.
use Rattle.std.proofs.Common.{◌≡◌, ℕ, suc, ◌+◌, ◌≤◌, true, List, [], ◌++◌, length, take, Option, Some, None, refl, arith, length-append, length-take}
use Rattle.std.proofs.lemmas.Bool.Decides.{nat_tests}
use Rattle.std.specs.Coded.{Unit-prop, le_prop}
use Rattle.std.specs.Prelude.{IfSome, unwrap_or}
use Rattle.ff_format.specs.Formats.{taken_by, takes_coding}
use Rattle.ff_format.specs.Layouts.{Layout, bytes_in, finished}
use Rattle.ff_format.specs.Outputs.{OutputFormat, HasBits, WritesTaken, of_one_patched}
use Rattle.ff_format.specs.laws.Patches.{StandsIn}
use Rattle.ff_format.specs.declared.format.FileFormat.TheVariants as format
use Rattle.ff_frame.specs.Codecs.{IsFlacCoding, coding_of}
use Rattle.ff_frame.specs.declared.coding.Coding.{Coding}
use Rattle.ff_frame.specs.declared.coding.Coding.TheVariants.{Pcm, Flac, RawVideo}
use Rattle.ff_frame.specs.declared.head.Codec.{Codec}
use Rattle.ff_frame.specs.declared.head.StreamHead.{StreamHead}
use Rattle.ff_frame.specs.declared.head.StreamHead.TheVariants.{Audio, Video}
use Rattle.ff_frame.specs.declared.packet.Pkt.{Pkt}
use Rattle.ff_frame.specs.declared.totals.Totals.{Totals}
use Rattle.ff_mux.specs.FlacHead.{HasRoom, HasRoomFor, IsFlacCoded, CanHold, before_info, info_at, info_of, stream_info, flac_start, unknown}

-- STREAMINFO with the totals, where they were told, and where it stands
abbrev pub flac_last : StreamHead → Option Totals → Option (ℕ × List ℕ)
flac_last head None = None
flac_last head (Some totals) = Some (info_at, info_of head totals)

-- the mark and STREAMINFO without totals, the packets as they stand, and STREAMINFO with the totals
abbrev pub flac_layout : StreamHead → Layout
flac_layout head = record {
  header = flac_start head unknown;
  text = λ stream packet. packet.bytes;
  tail = λ packets. [];
  last = λ n totals. flac_last head totals;
  longest = None;
}

flac_taken : (coding : Coding) (rate : ℕ) → takes_coding (taken_by format.Flac).sound coding rate ≡ true → IsFlacCoding coding × (rate ≤ 1048575)
flac_taken (Pcm form) rate e = cc
flac_taken Flac rate e = (tt, grind (arith, nat_tests))
flac_taken RawVideo rate e = cc

has_room : (codec : Codec) (rate bits channels : ℕ) → 1 ≤ channels → channels ≤ 8 → HasBits codec bits
    → IsFlacCoding (coding_of codec) × (rate ≤ 1048575) → HasRoom rate bits channels
has_room codec rate bits channels some few depth taken = record {
  small_rate = let small = taken.1 in omega (arith, small);
  some_bits = (depth taken.0).0;
  few_bits = (depth taken.0).1;
  some_channels = some;
  few_channels = few;
}

-- one stream that is coded so, where STREAMINFO has room for it
abbrev pub flac_format : OutputFormat
flac_format = of_one_patched CanHold flac_layout

-- and it can write what its row takes
pub flac_writes : WritesTaken (taken_by format.Flac) flac_format
flac_writes = record {
  sound = λ tb rate bits channels codec some few depth e. let t = flac_taken (coding_of codec) rate e in (t.0, has_room codec rate bits channels some few depth t);
  pictures = λ tb f width height sar_num sar_den e. cc;
  several = λ heads some few. absurd (omega (arith, some, few));
}

-- where totals were told, their digest has 16 bytes
abbrev pub HasDigest : Option Totals → Type 0
HasDigest totals = IfSome totals (λ t. length t.md5 ≡ 16)

-- The finished file is the mark, STREAMINFO with the totals, where they were told, and the packets.
abbrev pub FlacsAreStreams : Type 0
FlacsAreStreams = (head : StreamHead) (totals : Option Totals) (packets : List (ℕ × Pkt)) → HasDigest totals
    → finished (flac_layout head) totals packets ≡ Some (flac_start head (unwrap_or totals unknown) ++ bytes_in packets)

-- ---- how long STREAMINFO is: 18 bytes and those of the digest

eighteen : (n : ℕ) → suc (suc (suc (suc (suc (suc (suc (suc (suc (suc (suc (suc (suc (suc (suc (suc (suc (suc n))))))))))))))))) ≡ 18 + n
eighteen n = omega arith

pub info_length : (rate bits channels : ℕ) (totals : Totals) → length (stream_info rate bits channels totals) ≡ 18 + length (take 16 totals.md5)
unfolding stream_info
info_length rate bits channels totals = eighteen (length (take 16 totals.md5))

pub before_length : length before_info ≡ 8
unfolding before_info
before_length = refl

no_longer : (head : StreamHead) (totals : Totals) → length (info_of head totals) ≤ length (info_of head unknown)
no_longer (Audio base rate bits channels codec) totals =
    omega (arith, info_length rate bits channels totals, info_length rate bits channels unknown, length-take 16 totals.md5)
no_longer (Video tb format width height sar_num sar_den) totals = omega arith

-- with a digest of 16 bytes it is as long
pub as_long : (head : StreamHead) (totals : Totals) → length totals.md5 ≡ 16 → length (info_of head totals) ≡ length (info_of head unknown)
as_long (Audio base rate bits channels codec) totals e =
    omega (arith, e, info_length rate bits channels totals, info_length rate bits channels unknown, length-take 16 totals.md5)
as_long (Video tb format width height sar_num sar_den) totals e = refl

pub flac_inside : (head : StreamHead) (totals : Option Totals) → StandsIn (flac_last head totals) (length (flac_start head unknown))
flac_inside head None = tt
flac_inside head (Some totals) = omega (arith, before_length, length-append before_info (info_of head unknown), no_longer head totals)

-- ---- a head that a FLAC file can hold is one in one way at most

HasRoom-prop : (rate bits channels : _) → IsProp (HasRoom rate bits channels)
HasRoom-prop rate bits channels = hlevel le_prop

IsFlacCoding-prop : (coding : Coding) → IsProp (IsFlacCoding coding)
IsFlacCoding-prop (Pcm form) = λ a. absurd a
IsFlacCoding-prop Flac = Unit-prop
IsFlacCoding-prop RawVideo = λ a. absurd a

HasRoomFor-prop : (head : StreamHead) → IsProp (HasRoomFor head)
HasRoomFor-prop (Audio base rate bits channels codec) = HasRoom-prop rate bits channels
HasRoomFor-prop (Video tb format width height sar_num sar_den) = λ a. absurd a

IsFlacCoded-prop : (head : StreamHead) → IsProp (IsFlacCoded head)
IsFlacCoded-prop (Audio base rate bits channels codec) = IsFlacCoding-prop (coding_of codec)
IsFlacCoded-prop (Video tb format width height sar_num sar_den) = λ a. absurd a

pub CanHold-prop : (head : StreamHead) → IsProp (CanHold head)
CanHold-prop head = hlevel (IsFlacCoded-prop head, HasRoomFor-prop head)
