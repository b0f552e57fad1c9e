-- What all sources and sinks tell together.
use Rattle.std.proofs.Common.{◌≡◌, ℕ, zero, suc, ◌<◌, ◌&&◌, Bool, true, false, List, [], ◌∷◌, length, map, slice_index_or, Option, Some, None, refl, sym, ap, ◌∙◌, arith}
use Rattle.ff_files.specs.Works.{AreTold}
use Rattle.ff_run_plan.specs.laws.Claims.{tells_left, tells_empty, all_tell, tell_all}

both_left : (a b : Bool) → (a && b) ≡ true → a ≡ true
both_left true b e = refl
both_left false b e = absurd (let bad : false ≡ true = e in cc)

both_right : (a b : Bool) → (a && b) ≡ true → b ≡ true
both_right true b e = e
both_right false b e = absurd (let bad : false ≡ true = e in cc)

both_true : (a b : Bool) → a ≡ true → b ≡ true → (a && b) ≡ true
both_true true b ea eb = eb
both_true false b ea eb = absurd (let bad : false ≡ true = ea in cc)

each_tells : {T : Type 0} (tells : T → Bool) (xs : List T) → all_tell tells xs ≡ true → (k : ℕ) (d : T) → k < length xs → tells (slice_index_or xs k d) ≡ true
each_tells tells [] e k d lt = absurd (omega (arith, lt))
each_tells tells (x ∷ xs) e zero d lt = both_left (tells x) (all_tell tells xs) e
each_tells tells (x ∷ xs) e (suc k) d lt = each_tells tells xs (both_right (tells x) (all_tell tells xs) e) k d (omega (arith, lt))

tells_each : {T : Type 0} (tells : T → Bool) (xs : List T) → ((k : ℕ) (d : T) → k < length xs → tells (slice_index_or xs k d) ≡ true) → all_tell tells xs ≡ true
tells_each tells [] h = refl
tells_each tells (x ∷ xs) h = both_true (tells x) (all_tell tells xs) (h 0 x (omega arith)) (tells_each tells xs (λ k d lt. h (suc k) d (omega (arith, lt))))

-- the bytes that are left, where it is told
abbrev bytes_in : Option (List ℕ) → List ℕ
bytes_in None = []
bytes_in (Some bytes) = bytes

left_in : (o : Option (List ℕ)) → tells_left o ≡ true → o ≡ Some (bytes_in o)
left_in None e = absurd (let bad : false ≡ true = e in cc)
left_in (Some bytes) e = refl

empty_in : (o : Option (List ℕ)) → tells_empty o ≡ true → o ≡ Some []
empty_in None e = absurd (let bad : false ≡ true = e in cc)
empty_in (Some []) e = refl
empty_in (Some (b ∷ bs)) e = absurd (let bad : false ≡ true = e in cc)

length_mapped : {A B : Type 0} (f : A → B) (xs : List A) → length (map f xs) ≡ length xs
length_mapped f [] = refl
length_mapped f (x ∷ xs) = ap suc (length_mapped f xs)

at_mapped : {A B : Type 0} (f : A → B) (xs : List A) (k : ℕ) (d : A) (e : B) → k < length xs → slice_index_or (map f xs) k e ≡ f (slice_index_or xs k d)
at_mapped f [] k d e lt = absurd (omega (arith, lt))
at_mapped f (x ∷ xs) zero d e lt = refl
at_mapped f (x ∷ xs) (suc k) d e lt = at_mapped f xs k d e (omega (arith, lt))

module _ {S K : Type 0} (left : S → Option (List ℕ)) (holds : K → Option (List ℕ)) (srcs : List S) (snks : List K) where
  pub told_of : tell_all left holds srcs snks ≡ true → (bytes : List (List ℕ)) × AreTold left holds srcs snks bytes
  told_of e =
      let ins = both_left (all_tell (λ s. tells_left (left s)) srcs) (all_tell (λ k. tells_empty (holds k)) snks) e in
      let outs = both_right (all_tell (λ s. tells_left (left s)) srcs) (all_tell (λ k. tells_empty (holds k)) snks) e in (
        map (λ s. bytes_in (left s)) srcs,
        record {
          as_many = length_mapped (λ s. bytes_in (left s)) srcs;
          left_is = λ i d lt. left_in (left (slice_index_or srcs i d)) (each_tells (λ s. tells_left (left s)) srcs ins i d lt) ∙ ap (λ (b : List ℕ). Some b) (sym (at_mapped (λ s. bytes_in (left s)) srcs i d [] lt));
          empty = λ j d lt. empty_in (holds (slice_index_or snks j d)) (each_tells (λ k. tells_empty (holds k)) snks outs j d lt);
        },
      )

  pub tells_told : (bytes : List (List ℕ)) → AreTold left holds srcs snks bytes → tell_all left holds srcs snks ≡ true
  tells_told bytes t =
      both_true (all_tell (λ s. tells_left (left s)) srcs) (all_tell (λ k. tells_empty (holds k)) snks)
      (tells_each (λ s. tells_left (left s)) srcs (λ i d lt. ap tells_left (t.left_is i d lt)))
      (tells_each (λ k. tells_empty (holds k)) snks (λ j d lt. ap tells_empty (t.empty j d lt)))
