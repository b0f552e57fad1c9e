-- The finished files of the formats.
use Rattle.std.proofs.Common.{◌≡◌, ℕ, suc, ◌+◌, List, [], ◌∷◌, ◌++◌, drop, length, Some, None, refl, ap, ◌∙◌, arith, append-nil}
use Rattle.ff_format.specs.Layouts.{body, bytes_in}
use Rattle.ff_format.specs.laws.Patched.{behind}
use Rattle.ff_host.specs.Files.{patched}
use Rattle.ff_mux.specs.FlacHead.{before_info, info_of, flac_start, unknown}
use Rattle.ff_mux.specs.CrcTexts.{crc_text}
use Rattle.ff_mux.specs.HashTexts.{hash_text}
use Rattle.ff_frame.specs.declared.packet.Pkt.{Pkt}
use Rattle.ff_mux.specs.writers.CrcFile.{CrcsAreTexts}
use Rattle.ff_mux.specs.writers.DigestFiles.{at_end, DigestsAreTexts}
use Rattle.ff_mux.specs.writers.FlacFile.{as_long, FlacsAreStreams}
use Rattle.ff_mux.specs.writers.HashFile.{HashesAreTexts}
use Rattle.ff_mux.specs.writers.NullFile.{NullWritesNothing}
use Rattle.ff_mux.specs.writers.RawFile.{RawIsPackets}

eight : (n : ℕ) → 8 + n ≡ suc (suc (suc (suc (suc (suc (suc (suc n)))))))
eight n = omega arith

-- STREAMINFO in the place of another as long
flac_text : (old new body : List ℕ) → length new ≡ length old → patched (before_info ++ old ++ body) 8 new ≡ before_info ++ new ++ body
unfolding before_info
flac_text old new body e =
    ap (λ n. before_info ++ new ++ drop n (before_info ++ old ++ body)) (eight (length new))
    ∙ ap (λ xs. before_info ++ new ++ xs) (behind old body (length new) e)

pub flacs_are_streams : FlacsAreStreams
flacs_are_streams head None packets digest = ap Some (append-nil (flac_start head unknown ++ bytes_in packets))
flacs_are_streams head (Some totals) packets digest =
    ap Some (ap (λ (xs : List ℕ). patched xs 8 (info_of head totals)) (append-nil (flac_start head unknown ++ bytes_in packets))
    ∙ flac_text (info_of head unknown) (info_of head totals) (bytes_in packets) (as_long head totals digest))

pub hashes_are_texts : HashesAreTexts
hashes_are_texts kind heads totals packets = ap Some (append-nil (hash_text kind heads packets))

pub crcs_are_texts : CrcsAreTexts
crcs_are_texts heads totals packets = ap Some (append-nil (crc_text heads packets))

-- of packets nothing is written before the end
none_before : (text : List (ℕ × Pkt) → List ℕ) (packets : List (ℕ × Pkt)) → body (at_end text) packets ≡ []
none_before text [] = refl
none_before text (p ∷ packets) = none_before text packets

pub digests_are_texts : DigestsAreTexts
digests_are_texts text totals packets = (
  ap (λ (xs : List ℕ). Some (xs ++ text packets)) (none_before text packets),
  none_before text packets,
)

pub null_nothing : NullWritesNothing
null_nothing totals packets = digests_are_texts (λ ps. []) totals packets

pub raw_packets : RawIsPackets
raw_packets totals packets = ap Some (append-nil (bytes_in packets))
