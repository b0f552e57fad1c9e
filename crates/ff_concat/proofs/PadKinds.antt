-- Which kind each pad of `concat` takes.
use Rattle.std.proofs.Common.{◌≡◌, ℕ, zero, suc, ◌%◌, ◌<◌, Bool, true, false, ◌||◌, not, cond}
use Rattle.std.proofs.Common.{List, [], ◌∷◌, length, get_or, refl, sym, ap, ◌∙◌, arith}
use Rattle.std.specs.Prelude.{◌==◌, ◌&&◌}
use Rattle.std.proofs.lemmas.Bool.{and_parts}
use Rattle.ff_frame.specs.declared.head.StreamHead.{StreamHead}
use Rattle.ff_frame.specs.declared.head.StreamHead.TheVariants.{Audio as AudioHead, Video as VideoHead}
use Rattle.ff_filter.specs.Options.{is_sound, is_video}
use Rattle.ff_concat.specs.declared.settings.Asked.{Asked}
use Rattle.ff_concat.specs.ConcatOptions.{in_turn, are_of_kinds}
use Rattle.ff_concat.specs.Pads.{takes_audio}

sound_not : (h : StreamHead) → is_video h ≡ not (is_sound h)
sound_not (AudioHead tb rate bits channels codec) = refl
sound_not (VideoHead tb format width height sar_num sar_den) = refl

-- whether the stream of this number is of video, of kinds in turn
abbrev turn_at : Bool → Bool → ℕ → Bool
turn_at video both zero = video
turn_at video both (suc p) = turn_at (cond both (not video) video) both p

kind_at : (video both : Bool) (hs : List StreamHead) (p : ℕ) (d : StreamHead) → in_turn video both hs ≡ true → p < length hs
    → is_sound (get_or hs p d) ≡ not (turn_at video both p)
kind_at video both [] p d e lt = absurd (omega (arith, lt))
kind_at video both (h ∷ hs) zero d e lt = at video h (and_parts (cond video (is_video h) (is_sound h)) (in_turn (cond both (not video) video) both hs) e).0
  where
    at : (v : Bool) (k : StreamHead) → cond v (is_video k) (is_sound k) ≡ true → is_sound k ≡ not v
    at true (AudioHead tb rate bits channels codec) e = cc
    at true (VideoHead tb format width height sar_num sar_den) e = refl
    at false (AudioHead tb rate bits channels codec) e = refl
    at false (VideoHead tb format width height sar_num sar_den) e = cc
kind_at video both (h ∷ hs) (suc p) d e lt =
    kind_at (cond both (not video) video) both hs p d (and_parts (cond video (is_video h) (is_sound h)) (in_turn (cond both (not video) video) both hs) e).1
    (omega (arith, lt))

one_turn : (video : Bool) (p : ℕ) → turn_at video false p ≡ video
one_turn video zero = refl
one_turn video (suc p) = one_turn video p

two_turns : (p : ℕ) → not (turn_at true true p) ≡ (p % 2 == 1)
two_turns zero = refl
two_turns (suc zero) = refl
two_turns (suc (suc p)) = let same : suc (suc p) % 2 ≡ p % 2 = omega arith in two_turns p ∙ ap (λ (n : ℕ). n == 1) (sym same)

turns : (v a : Bool) (p : ℕ) → (v || a) ≡ true → not (turn_at v (v && a) p) ≡ (a && (not v || p % 2 == 1))
turns true true p e = two_turns p
turns true false p e = ap not (one_turn true p)
turns false true p e = ap not (one_turn false p)
turns false false p e = cc

-- where the heads are of the kinds that are asked for, each pad has its kind
pub pad_kind : (a : Asked) (heads : List StreamHead) (p : ℕ) (d : StreamHead) → (a.video || a.audio) ≡ true → are_of_kinds a heads ≡ true → p < length heads
    → is_sound (get_or heads p d) ≡ takes_audio a p
pad_kind a heads p d some kinds lt = kind_at a.video (a.video && a.audio) heads p d kinds lt ∙ turns a.video a.audio p some
