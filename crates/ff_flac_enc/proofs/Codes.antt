-- From the results of the calls to the list of codes.
use Rattle.std.proofs.Common.{◌≡◌, ℕ, zero, suc, ◌+◌, ◌<◌, List, [], ◌∷◌, length, map, get_or, slice_index_or, Result, Ok, Err, IfOk, sym, refl, ap, ◌∙◌, subst, arith}
use Rattle.std.specs.declared.alloc.AllocError.{AllocError}
use Rattle.ff_frame.specs.declared.audio.AFrame.{AFrame}
use Rattle.ff_flac_enc.specs.laws.Blocks.{IsCoded, AreCoded, GiveCoded}

abbrev pub Coded : Type 0
Coded = Result (List ℕ) AllocError

abbrev ok : List ℕ → Coded
ok x = Ok x

get_or-map : (xs : List (List ℕ)) (i : ℕ) → i < length xs → get_or (map ok xs) i (ok []) ≡ ok (get_or xs i [])
get_or-map [] i lt = absurd (omega arith)
get_or-map (x ∷ xs) zero lt = refl
get_or-map (x ∷ xs) (suc i) lt = get_or-map xs i (omega arith)

length-map_ok : (xs : List (List ℕ)) → length (map ok xs) ≡ length xs
length-map_ok [] = refl
length-map_ok (x ∷ xs) = ap suc (length-map_ok xs)

pub codes : (blocks : List AFrame) (first : ℕ) (each : List Coded) (all : List (List ℕ)) → GiveCoded blocks first each → each ≡ map ok all → AreCoded blocks first all
codes blocks first each all h same =
    let len : length all ≡ length blocks = sym (length-map_ok all) ∙ ap length (sym same) ∙ h.0 in (
      len,
      λ i e lt. subst (λ (r : Coded). IfOk r (IsCoded (slice_index_or blocks i e) (first + i)))
          (ap (λ l. get_or l i (ok [])) same ∙ get_or-map all i (let l = len in omega arith)) (h.1 i (ok []) e lt),
    )

pub if_all : {A E : Type 0} (r : Result A E) (P Q : A → Type 0) → IfOk r P → ((v : A) → P v → Q v) → IfOk r Q
if_all (Ok v) P Q p f = f v p
if_all (Err e) P Q p f = p
