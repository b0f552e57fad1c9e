-- Residuals, put behind what was read before.
use Rattle.std.proofs.Common.{◌≡◌, ℕ, suc, ◌+◌, ◌-◌, ◌<◌, ◌≤◌, ◌/◌, ◌^◌, Bool, List, [], ◌++◌, refl, sym, ap, ◌∙◌, append_assoc, drop, length, subst, arith, true}
use Rattle.std.specs.Prelude.{ℤ}
use Rattle.std.proofs.lemmas.List.{append-nil}
use Rattle.std.proofs.Math.Seq.{drop-append_seam}
use Rattle.std.proofs.lemmas.Bool.{and_parts, leb-true}
use Rattle.ff_bits.specs.Reading.{Answer, Done, More, Bad, Reader, on, give}
use Rattle.ff_flac_frame.specs.declared.end.FrameEnd.{FrameEnd}
use Rattle.ff_flac_frame.specs.declared.end.FrameEnd.TheVariants.{NotYet, Never, NoMemory}
use Rattle.ff_flac_frame.specs.laws.Gives.{Fails}
use Rattle.ff_flac_frame.specs.laws.Front.{with_front}
use Rattle.ff_flac_frame.specs.Codes.{order_fits}
use Rattle.ff_flac_frame.specs.Frame.{partition, partitions}

behind : {A : Type 0} (front xs : List A) (v : Answer (List A)) → with_front front (on v (λ others. give (xs ++ others))) ≡ with_front (front ++ xs) v
behind front xs (Done ys rest) = ap (λ (zs : _). Done zs rest) (sym (append_assoc front xs ys))
behind front xs More = refl
behind front xs Bad = refl

-- a part and then others, each behind what was read before
pub in_turn : {A : Type 0} (front : List A) (v : Answer (List A)) (r : Reader (List A)) → with_front front (on v (λ xs. λ rest. on (r rest) (λ others. give (xs ++ others)))) ≡ on (with_front front v) (λ mid rest. with_front mid (r rest))
in_turn front (Done xs rest) r = behind front xs (r rest)
in_turn front More r = refl
in_turn front Bad r = refl

module _ (w count : ℕ) (front : List ℤ) (n i : ℕ) (bits : List Bool) (total : Answer (List ℤ)) where
  pub partitions_goes_on : i < n → (mid : List ℤ) (after : List Bool) → with_front front (partition w count bits) ≡ Done mid after → with_front front (partitions (n - i) w count bits) ≡ total → with_front mid (partitions (n - (i + 1)) w count after) ≡ total
  unfolding partitions
  partitions_goes_on lt mid after h so_far =
      let k : n - i ≡ suc (n - (i + 1)) = omega arith in
      let one : with_front front (partitions (n - i) w count bits) ≡ with_front mid (partitions (n - (i + 1)) w count after) = rw k (in_turn front (partition w count bits) (partitions (n - (i + 1)) w count) ∙ ap (λ (v : Answer (List ℤ)). on v (λ m rest. with_front m (partitions (n - (i + 1)) w count rest))) h) in
      sym one ∙ so_far

  pub partitions_fails : (e : FrameEnd) → i < n → Fails e (with_front front (partition w count bits)) → with_front front (partitions (n - i) w count bits) ≡ total → Fails e total
  unfolding partitions
  partitions_fails NotYet lt h so_far =
      let k : n - i ≡ suc (n - (i + 1)) = omega arith in
      let one : with_front front (partitions (n - i) w count bits) ≡ More = rw k (in_turn front (partition w count bits) (partitions (n - (i + 1)) w count) ∙ ap (λ (v : Answer (List ℤ)). on v (λ m rest. with_front m (partitions (n - (i + 1)) w count rest))) h) in
      sym so_far ∙ one
  partitions_fails Never lt h so_far =
      let k : n - i ≡ suc (n - (i + 1)) = omega arith in
      let one : with_front front (partitions (n - i) w count bits) ≡ Bad = rw k (in_turn front (partition w count bits) (partitions (n - (i + 1)) w count) ∙ ap (λ (v : Answer (List ℤ)). on v (λ m rest. with_front m (partitions (n - (i + 1)) w count rest))) h) in
      sym so_far ∙ one
  partitions_fails NoMemory lt h so_far = tt

  pub partitions_done : n ≤ i → with_front front (partitions (n - i) w count bits) ≡ total → total ≡ Done front bits
  unfolding partitions
  partitions_done le so_far =
      let k : n - i ≡ 0 = omega arith in
      let one : with_front front (partitions (n - i) w count bits) ≡ Done front bits = rw k (ap (λ (xs : List ℤ). Done xs bits) (append-nil front)) in
      sym so_far ∙ one

pub order_le : (block order p : ℕ) → order_fits block order p ≡ true → order ≤ block / 2 ^ p
unfolding order_fits
order_le block order p h = leb-true order (block / 2 ^ p) (and_parts _ _ (and_parts _ _ h).1).1

pub with_front-nil : {A : Type 0} (v : Answer (List A)) → with_front [] v ≡ v
with_front-nil (Done xs rest) = refl
with_front-nil More = refl
with_front-nil Bad = refl

values_or : {A : Type 0} → A → Answer A → A
values_or none (Done xs rest) = xs
values_or none More = none
values_or none Bad = none

-- what was read before stays at the front
pub front_stays : {A : Type 0} (front ys : List A) (v : Answer (List A)) (after : List Bool) → with_front front v ≡ Done ys after → front ++ drop (length front) ys ≡ ys
unfolding values_or
front_stays front ys (Done xs rest) after e =
    let same : front ++ xs ≡ ys = ap (values_or ys) e in
    subst (λ (zs : _). front ++ drop (length front) zs ≡ zs) same (ap (λ (zs : _). front ++ zs) (drop-append_seam front xs))
front_stays front ys More after e = let k : More ≡ Done ys after = e in cc
front_stays front ys Bad after e = let k : Bad ≡ Done ys after = e in cc
