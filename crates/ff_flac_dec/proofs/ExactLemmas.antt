-- What bytes begin with is exact.
use Rattle.std.proofs.Common.{◌≡◌, ℕ, List, ◌++◌, sym, ap, ◌∙◌}
use Rattle.ff_flac_frame.specs.declared.stream.FlacStream.{FlacStream}
use Rattle.ff_flac_frame.specs.Frame.{IsStream, IsNever}
use Rattle.ff_flac_frame.proofs.Whole.{is_not_yet}
use Rattle.ff_flac_dec.specs.declared.front.Front.TheVariants.{Other, Whole}
use Rattle.ff_flac_dec.specs.Packets.{unit}
use Rattle.ff_flac_dec.specs.laws.Units.{IsExact}
use Rattle.ff_flac_dec.proofs.UnitLaws.{unit_begins, whole_begins, wait_more, other-append, wait_is, other_is}

never : (s : FlacStream) → IsStream s → (bytes : List ℕ) → unit s bytes ≡ Other → IsNever s bytes
never s i bytes e more f len b = let clash = sym (other-append s i bytes more e) ∙ unit_begins s (bytes ++ more) f len b in cc

pub exact : (s : FlacStream) → IsStream s → (bytes : List ℕ) → IsExact s bytes
exact s i bytes = record {
  whole = λ len block. (whole_begins s i bytes len block, λ w. unit_begins s bytes w.0 len w.1 ∙ ap (Whole len) w.2);
  wait = (λ e. is_not_yet s i bytes (wait_more s bytes e), λ h. sym (wait_is s i bytes h));
  other = (never s i bytes, λ h. sym (other_is s i bytes h));
}
