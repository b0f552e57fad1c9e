-- What is true of every head that is read.
use Rattle.std.proofs.Common.{◌≡◌, ℕ, ◌+◌, ◌≤◌, Bool, true, false, cond, List, length, Option, Some, None, Ok, Err, refl, arith}
use Rattle.std.specs.Prelude.{slice_index, ◌==◌, ◌&&◌, ◌/◌, ◌%◌, not, nat_le, nat_lt, IfSome}
use Rattle.std.proofs.lemmas.Bool.Decides.{nat_tests}
use Rattle.ff_frame.specs.declared.head.StreamHead.{StreamHead}
use Rattle.ff_reader.specs.declared.fault.HeadFault.{HeadFault}
use Rattle.ff_reader.specs.declared.fault.HeadFault.TheVariants.{Damaged, Unsupported}
use Rattle.ff_reader.specs.declared.step.Step.TheVariants.{Wait, Decide, Skip}
use Rattle.ff_flac_dec.specs.declared.head.HeadState.TheVariants.{Tags, Blocks}
use Rattle.ff_flac_dec.specs.Streams.{IsHead}
use Rattle.ff_flac_dec.specs.Blocks.{BlockStep, number_24, kind_of, is_last, rate_in, channels_in, bits_in, sound_of, closes, info, other, after, block}
use Rattle.ff_flac_dec.specs.Tags.{magic, tag_start, are_low, size_in, footer_in, tag}
use Rattle.ff_reader.specs.Walks.{agrees, head_limit, IsKept, Keeps}
use Rattle.ff_flac_dec.specs.Heads.{unit, IsFlacStream, IsKnown}

-- within the limit a step gives a sound head, or goes on with such a stream
abbrev pub Fine : ℕ → List ℕ → BlockStep → Type 0
Fine at bs s = at + length bs ≤ head_limit → IsKept IsKnown IsHead s

fine_wait : (at : ℕ) (bs : List ℕ) → Fine at bs Wait
fine_wait at bs le = tt

fine_err : (at : ℕ) (bs : List ℕ) (e : HeadFault) → Fine at bs (Decide (Err e))
fine_err at bs e le = tt

fine_if : (at : ℕ) (bs : List ℕ) (b : Bool) (s t : BlockStep) → (b ≡ true → Fine at bs s) → (b ≡ false → Fine at bs t) → Fine at bs (cond b s t)
fine_if at bs true s t p q = p refl
fine_if at bs false s t p q = q refl

fine_skip : (at : ℕ) (bs : List ℕ) (size : ℕ) (h : StreamHead) → IsFlacStream h → Fine at bs (Skip (3 + size) (Blocks (Some h)))
fine_skip at bs size h g le = g

fine_start : (at : ℕ) (bs : List ℕ) → Fine at bs (Skip 3 (Blocks None))
fine_start at bs le = tt

fine_tag : (at : ℕ) (bs : List ℕ) (size : ℕ) → Fine at bs (Skip size Tags)
fine_tag at bs size le = tt

fine_end : (at : ℕ) (bs : List ℕ) (size : ℕ) (h : StreamHead) → IsFlacStream h → nat_lt (length bs) (4 + size) ≡ false
    → Fine at bs (Decide (Ok (record { head = h; start = at + 4 + size })))
fine_end at bs size h g e le =
    let there : 4 + size ≤ length bs = grind (arith, nat_tests) in
    record { sound = g.0; stream = g.1; start = omega (arith, there, le) }

closes_fine : (size : ℕ) (h : StreamHead) (at : ℕ) (bs : List ℕ) → IsFlacStream h → Fine at bs (closes size h at bs)
closes_fine size h at bs g = fine_if at bs (not (is_last bs)) _ _ (λ l. fine_skip at bs size h g) (λ l. fine_if at bs (nat_lt (length bs) (4 + size)) _ _ (λ w. fine_wait at bs) (λ w. fine_end at bs size h g w))

rate_some : (n : ℕ) → (n == 0) ≡ false → 1 ≤ n
rate_some n e = grind (arith, nat_tests)

bits_some : (n : ℕ) → not (nat_le 4 n && nat_le n 24) ≡ false → (4 ≤ n) × (n ≤ 24)
bits_some n e = (grind (arith, nat_tests), grind (arith, nat_tests))

sound_good : (n rate bits m channels : ℕ) → rate ≡ n % 1048576 → channels ≡ m % 8 + 1 → (rate == 0) ≡ false → not (nat_le 4 bits && nat_le bits 24) ≡ false
    → IsFlacStream (sound_of rate bits channels)
sound_good n rate bits m channels er ec r b =
    let some = rate_some rate r in
    let few = bits_some bits b in (
      record { coded = refl; ticks = refl },
      record { depth_low = few.0; depth_high = few.1; channels_low = omega (arith, ec); channels_high = omega (arith, ec); rate_low = some; rate_high = omega (arith, er) },
    )

info_fine : (at : ℕ) (bs : List ℕ) → Fine at bs (info at bs)
unfolding info
info_fine at bs =
    fine_if at bs (not (kind_of bs == 0 && number_24 1 bs == 34)) _ _ (λ a. fine_err at bs (Damaged at)) (λ a.
    fine_if at bs (nat_lt (length bs) 38) _ _ (λ c. fine_wait at bs) (λ c. fine_if at bs (rate_in bs == 0) _ _ (λ r. fine_err at bs (Unsupported (at + 14))) (λ r.
    fine_if at bs (not (nat_le 4 (bits_in bs) && nat_le (bits_in bs) 24)) _ _ (λ t. fine_err at bs (Unsupported (at + 16))) (λ t.
    closes_fine 34 (sound_of (rate_in bs) (bits_in bs) (channels_in bs)) at bs
    (sound_good (number_24 14 bs / 16) (rate_in bs) (bits_in bs) (slice_index bs 16 / 2) (channels_in bs) refl refl r t)))))

other_fine : (h : StreamHead) (at : ℕ) (bs : List ℕ) → IsFlacStream h → Fine at bs (other h at bs)
unfolding other
other_fine h at bs g =
    fine_if at bs (kind_of bs == 0) _ _ (λ a. fine_err at bs (Damaged at)) (λ a. fine_if at bs (kind_of bs == 127) _ _ (λ b. fine_err at bs (Damaged at)) (λ b.
    closes_fine (number_24 1 bs) h at bs g))

after_fine : (f : Option StreamHead) (at : ℕ) (bs : List ℕ) → IfSome f IsFlacStream → Fine at bs (after f at bs)
after_fine None at bs g = info_fine at bs
after_fine (Some h) at bs g = other_fine h at bs g

block_fine : (f : Option StreamHead) (at : ℕ) (bs : List ℕ) → IfSome f IsFlacStream → Fine at bs (block f at bs)
unfolding block
block_fine f at bs g = fine_if at bs (nat_lt (length bs) 4) _ _ (λ w. fine_wait at bs) (λ w. after_fine f at bs g)

tag_fine : (at : ℕ) (bs : List ℕ) → Fine at bs (tag bs)
unfolding tag
tag_fine at bs =
    fine_if at bs (agrees magic bs) _ _
    (λ a. fine_if at bs (nat_lt (length bs) 4) _ _ (λ w. fine_wait at bs) (λ w. fine_start at bs))
    (λ a. fine_if at bs (not (agrees tag_start bs && are_low bs)) _ _ (λ b. fine_err at bs (Unsupported 0))
    (λ b. fine_if at bs (nat_lt (length bs) 10) _ _ (λ w. fine_wait at bs) (λ w. fine_tag at bs (9 + size_in bs + footer_in bs))))

-- behind what is known a tag or a block gives a sound head, or goes on with what is known
pub is_kept : Keeps IsKnown IsHead unit
is_kept Tags at bs known le = tag_fine at bs le
is_kept (Blocks f) at bs known le = block_fine f at bs known le
