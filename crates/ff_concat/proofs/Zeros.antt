-- Zeros that are still to be given.
use Rattle.std.proofs.Common.{◌≡◌, ℕ, suc, ◌+◌, ◌-◌, ◌<◌, ◌≤◌, false, [], ◌∷◌, refl, inl, inr, ap, sym, ◌∙◌, arith}
use Rattle.std.specs.Prelude.{min, nat_lt}
use Rattle.std.specs.Int.{div_ceil}
use Rattle.std.proofs.lemmas.Bool.{cases_lt}
use Rattle.std.proofs.lemmas.Bool.Decides.{nat_tests}
use Rattle.ff_frame.specs.declared.head.StreamHead.{StreamHead}
use Rattle.ff_frame.specs.declared.head.StreamHead.TheVariants.{Audio as AudioHead, Video as VideoHead}
use Rattle.ff_filter.specs.Options.{is_video}
use Rattle.ff_concat.specs.Silences.{silent_frame, silent_frames, filled}

count_none : (a b : ℕ) → b ≤ a → div_ceil (b - a) 1024 ≡ 0
count_none a b le = let e : b - a ≡ 0 = omega arith in ap (λ (n : ℕ). div_ceil n 1024) e

count_more : (a b : ℕ) → a < b → div_ceil (b - a) 1024 ≡ suc (div_ceil (b - (a + 1024)) 1024)
count_more a b lt = omega arith

pub frames_none : (rate bits channels a b : ℕ) → b ≤ a → silent_frames rate bits channels (div_ceil (b - a) 1024) a b ≡ []
frames_none rate bits channels a b le = ap (λ (n : ℕ). silent_frames rate bits channels n a b) (count_none a b le)

pub frames_next : (rate bits channels a b : ℕ) → a < b → silent_frames rate bits channels (div_ceil (b - a) 1024) a b
    ≡ silent_frame rate bits channels a (min 1024 (b - a)) ∷ silent_frames rate bits channels (div_ceil (b - (a + 1024)) 1024) (a + 1024) b
frames_next rate bits channels a b lt = ap (λ (n : ℕ). silent_frames rate bits channels n a b) (count_more a b lt)

-- where no zeros are left, none are to be given
pub none_left : (head : StreamHead) (a b : ℕ) → is_video head ≡ false → filled head a b ≡ [] → nat_lt a b ≡ false
none_left (VideoHead tb format width height sar_num sar_den) a b v e = cc
none_left (AudioHead tb rate bits channels codec) a b v e = elim (cases_lt a b) as (λ _. nat_lt a b ≡ false) [
  | inl lt ↦ (
      let clash : silent_frame rate bits channels a (min 1024 (b - a)) ∷ silent_frames rate bits channels (div_ceil (b - (a + 1024)) 1024) (a + 1024) b ≡ [] =
      sym (frames_next rate bits channels a b lt) ∙ e in
      cc
      )
  | inr le ↦ grind (arith, nat_tests)
]

pub none_over : (head : StreamHead) (a b : ℕ) → nat_lt a b ≡ false → filled head a b ≡ []
none_over (VideoHead tb format width height sar_num sar_den) a b e = refl
none_over (AudioHead tb rate bits channels codec) a b e = frames_none rate bits channels a b (let le : b ≤ a = grind (arith, nat_tests) in le)
