-- Each of two formats is among both.
use Rattle.std.proofs.Common.{◌≡◌, ℕ, List, refl}
use Rattle.ff_reader.specs.Cutters.{Cutter}
use Rattle.ff_input.specs.declared.one_of.OneOf.{OneOf}
use Rattle.ff_input.specs.declared.one_of.OneOf.TheVariants.{First, Other}
use Rattle.ff_input.specs.Either.{either_cutter, either_cuts}
use Rattle.ff_input.proofs.Among.{IsAmong}

module _ {H K C D : Type 0} (one : Cutter H C) (other : Cutter K D) where
  first_only : (c : C) (k : OneOf H K) (fed : List ℕ) (n : ℕ) → either_cuts one other (First c) k fed n → (h : H) × (k ≡ First h) × one.cuts c h fed n
  first_only c (First h) fed n s = (h, refl, s)
  first_only c (Other h) fed n s = absurd s

  pub first_among : IsAmong one (either_cutter one other) First First
  first_among = record {
    cuts = λ c h fed n s. s;
    only = first_only;
    demuxed = λ h rest. refl;
    broken_at = λ h rest. refl;
    ended = λ c. refl;
  }

  other_only : (c : D) (k : OneOf H K) (fed : List ℕ) (n : ℕ) → either_cuts one other (Other c) k fed n → (h : K) × (k ≡ Other h) × other.cuts c h fed n
  other_only c (First h) fed n s = absurd s
  other_only c (Other h) fed n s = (h, refl, s)

  pub other_among : IsAmong other (either_cutter one other) Other Other
  other_among = record {
    cuts = λ c h fed n s. s;
    only = other_only;
    demuxed = λ h rest. refl;
    broken_at = λ h rest. refl;
    ended = λ c. refl;
  }
