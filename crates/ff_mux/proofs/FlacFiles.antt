-- A FLAC file that was written, read again.
use Rattle.std.proofs.Common.{◌≡◌, ℕ, ◌^◌, ◌≤◌, true, List, ◌++◌, drop, length, Option, Some, None, refl, sym, ap, ◌∙◌, subst, arith, length-append, length-take}
use Rattle.std.specs.Prelude.{unwrap_or}
use Rattle.std.proofs.lemmas.List.{drop_at}
use Rattle.ff_format.specs.Layouts.{bytes_in}
use Rattle.ff_frame.specs.declared.audio.AFrame.{AFrame}
use Rattle.ff_frame.specs.declared.head.StreamHead.{StreamHead}
use Rattle.ff_frame.specs.declared.head.StreamHead.TheVariants.{Audio, Video}
use Rattle.ff_frame.specs.declared.packet.Pkt.{Pkt}
use Rattle.ff_frame.specs.declared.totals.Totals.{Totals}
use Rattle.ff_flac_dec.specs.Heads.{head as head_read}
use Rattle.ff_flac_enc.specs.Gathered.{all_samples, blocks_due}
use Rattle.ff_mux.specs.FlacHead.{CanHold, HasRoom, stream_info, before_info, flac_start, unknown}
use Rattle.ff_mux.specs.writers.FlacFile.{HasDigest, before_length, info_length}
use Rattle.ff_mux.specs.laws.writers.FlacWritten.{HasRate, AreFramesOf, HoldBlocks, AreRead, FilesAreRead, says}
use Rattle.ff_mux.proofs.FlacBodies.{frames_read}
use Rattle.ff_mux.proofs.FlacHeads.{headers}
use Rattle.ff_mux.proofs.WritersLemmas.FinishedLaws.{flacs_are_streams}

-- the totals that a file has, told or not, have a digest of 16 bytes
has_digest : (totals : Option Totals) → HasDigest totals → length (unwrap_or totals unknown).md5 ≡ 16
has_digest None digest = refl
has_digest (Some totals) digest = digest

start_length : (head : StreamHead) (totals : Totals) → CanHold head → length totals.md5 ≡ 16 → length (flac_start head totals) ≡ 42
start_length (Audio tb rate bits channels codec) totals can digest =
    omega (arith, before_length, length-append before_info (stream_info rate bits channels totals), info_length rate bits channels totals, length-take 16 totals.md5, digest)
start_length (Video tb format width height sar_num sar_den) totals can digest = absurd can.1

-- what follows the head
body_read : (head : StreamHead) (frames : List AFrame) (packets : List (ℕ × Pkt)) → CanHold head → HasRate head → AreFramesOf head frames
    → HoldBlocks 0 (blocks_due true frames) packets → length packets ≤ 2 ^ 31 → AreRead (says head) (all_samples frames) (bytes_in packets)
body_read (Audio tb rate bits channels codec) frames packets can some each hold few =
    let room : HasRoom rate bits channels = can.1 in
    let r = frames_read rate bits channels room.few_bits room.small_rate some room.some_bits room.some_channels room.few_channels 42 frames packets each hold few in
    record { frames = r.frames; stand = r.stand; timed = r.timed; same = r.same; unbroken = r.unbroken }
body_read (Video tb format width height sar_num sar_den) frames packets can some each hold few = absurd some

pub files : FilesAreRead
files head totals frames packets file can some digest each hold few is =
    let told : Totals = unwrap_or totals unknown in
    let sixteen = has_digest totals digest in
    let start = flac_start head told in
    let file_is : file ≡ start ++ bytes_in packets = cc (flacs_are_streams head totals packets digest, is) in
    let rest : drop 42 file ≡ bytes_in packets = ap (λ (xs : List ℕ). drop 42 xs) file_is ∙ drop_at start (bytes_in packets) 42 (start_length head told can sixteen) in (
      ap head_read file_is ∙ headers head told (bytes_in packets) can some sixteen,
      subst (λ (xs : List ℕ). AreRead (says head) (all_samples frames) xs) (sym rest) (body_read head frames packets can some each hold few),
    )
