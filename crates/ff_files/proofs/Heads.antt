-- The heads of inputs, one after another.
use Rattle.std.proofs.Common.{◌≡◌, inl, inr, ℕ, zero, suc, ◌+◌, ◌<◌, ◌≤◌, List, [], ◌∷◌, ◌++◌, length, take, drop, get_or, Option, None, Some, Ok, Err, refl, sym, ap, ◌∙◌, subst, arith, unwrap_or}
use Rattle.std.proofs.lemmas.List.{drop_more}
use Rattle.ff_host.specs.Causes.{SameElsewhere, SameCounts}
use Rattle.ff_host.specs.Files.{Files, bytes_at, KeepsFiles, GivesFile}
use Rattle.ff_reader.specs.declared.fault.HeadFault.{HeadFault}
use Rattle.ff_reader.specs.declared.fault.HeadFault.TheVariants as fault
use Rattle.ff_reader.specs.Heads.{Found}
use Rattle.ff_files.specs.Names.{Name, name_at}
use Rattle.ff_files.specs.Counts.{KeepsCounts, AreUnfailed, RoseUnder}
use Rattle.ff_files.specs.Heads.{Heads, Refusal, with_heads, next_head, head_in, heads_from, heads_of, HaveHeads, IsRefused}
use Rattle.ff_files.specs.laws.Inputs.{IsFound, IsHeadless, IsUnopened, EndsInputs, sound_before}
use Rattle.ff_files.specs.declared.head.InputEnd.{InputEnd}
use Rattle.ff_files.specs.declared.head.InputEnd.TheVariants as input_end
use Rattle.ff_files.proofs.Lists.{each_pushed, pushed_len}
use Rattle.ff_files.proofs.Steps.{counts_named}

-- the files that are told now, of which these were told before
told_on : (a b : Option Files) (told : Files) → KeepsFiles a b → a ≡ Some told → (now : Files) × (b ≡ Some now) × ((name : List ℕ) → now name ≡ told name)
told_on None b told k e = absurd cc
told_on (Some f) None told k e = absurd k
told_on (Some f) (Some d) told k e = (d, refl, λ name. k name ∙ (let same : f ≡ told = cc in ap (λ (g : Files). g name) same))

pub found_on : {H : Type 0} (head : List ℕ → Found H) (a b : Option Files) (told : Files) (name : List ℕ) (found : Found H) → KeepsFiles a b → a ≡ Some told → IsFound head b name found → head (bytes_at told name) ≡ found
found_on {H} head a b told name found k e h =
    let on = told_on a b told k e in
    let now : head (bytes_at on.0 name) ≡ found = subst (λ (o : Option Files). IsFound head o name found) on.1 h in
    ap (λ (o : Option (List ℕ)). head (unwrap_or o [])) (sym (on.2 name)) ∙ now

pub gives_on : (a b : Option Files) (told : Files) (name : List ℕ) (left : Option (List ℕ)) → KeepsFiles a b → a ≡ Some told → GivesFile b name left → left ≡ Some (bytes_at told name)
gives_on a b told name left k e h =
    let on = told_on a b told k e in
    subst (λ (o : Option Files). GivesFile o name left) on.1 h ∙ ap (λ (o : Option (List ℕ)). Some (unwrap_or o [])) (on.2 name)

-- a list in two parts, of which the second begins here
parts : {A : Type 0} (xs : List A) (k : ℕ) → xs ≡ take k xs ++ drop k xs
parts [] zero = refl
parts [] (suc k) = refl
parts (x ∷ xs) zero = refl
parts (x ∷ xs) (suc k) = ap (λ (ys : List _). x ∷ ys) (parts xs k)

pub take_snoc : {A : Type 0} (xs : List A) (k : ℕ) (d : A) → k < length xs → take (k + 1) xs ≡ take k xs ++ get_or xs k d ∷ []
take_snoc [] k d lt = absurd (omega (arith, lt))
take_snoc (x ∷ xs) zero d lt = refl
take_snoc (x ∷ xs) (suc k) d lt =
    let place : suc k + 1 ≡ suc (k + 1) = omega arith in
    ap (λ (n : ℕ). take n (x ∷ xs)) place ∙ ap (λ (ys : List _). x ∷ ys) (take_snoc xs k d (omega (arith, lt)))

pub take_whole : {A : Type 0} (xs : List A) (k : ℕ) → length xs ≤ k → take k xs ≡ xs
take_whole [] zero le = refl
take_whole [] (suc k) le = refl
take_whole (x ∷ xs) zero le = absurd (omega (arith, le))
take_whole (x ∷ xs) (suc k) le = ap (λ (ys : List _). x ∷ ys) (take_whole xs k (omega (arith, le)))

take_len : {A : Type 0} (xs : List A) (k : ℕ) → k ≤ length xs → length (take k xs) ≡ k
take_len [] zero le = refl
take_len [] (suc k) le = absurd (omega (arith, le))
take_len (x ∷ xs) zero le = refl
take_len (x ∷ xs) (suc k) le = (let rest = take_len xs k (omega (arith, le)) in omega (arith, rest))

abbrev found_heads : {H : Type 0} → List H → Heads H
found_heads hs = Ok hs

abbrev no_heads : {H : Type 0} → Refusal → Heads H
no_heads refusal = Err refusal

pub not_both : {H : Type 0} {P : Type 0} (hs : List H) (r : Refusal) → found_heads hs ≡ no_heads r → P
not_both hs r e = absurd (cc (e))

pub same_heads : {H : Type 0} (hs gs : List H) → found_heads hs ≡ found_heads gs → hs ≡ gs
same_heads hs gs e = cc

pub same_refusal : {H : Type 0} (r q : Refusal) → no_heads {H = H} r ≡ no_heads q → r ≡ q
same_refusal r q e = cc

with_none : {H : Type 0} (r : Heads H) → r ≡ with_heads [] r
with_none (Ok hs) = refl
with_none (Err refusal) = refl

next_two : {H : Type 0} (front : List H) (k : ℕ) (h : H) (found : Found H) (r rest : Heads H) → found ≡ Ok h → r ≡ with_heads front rest → next_head k found r ≡ with_heads (h ∷ front) rest
next_two {H} front k h found r (Ok hs) f e = ap (λ (x : Found H). next_head k x r) f ∙ ap (λ (x : Heads H). with_heads (h ∷ []) x) e
next_two {H} front k h found r (Err refusal) f e = ap (λ (x : Found H). next_head k x r) f ∙ ap (λ (x : Heads H). with_heads (h ∷ []) x) e

module _ {I H : Type 0} (name : I → List ℕ) (head : I → List ℕ → Found H) where
  from_same : (files : Files) (j k : ℕ) (inputs : List I) → j ≡ k → heads_from name head files j inputs ≡ heads_from name head files k inputs
  from_same files j k inputs e = ap (λ (n : ℕ). heads_from name head files n inputs) e

  -- heads that were found in front stand in front of those that follow
  heads_append : (files : Files) (k : ℕ) (xs ys : List I) (heads : List H) → heads_from name head files k xs ≡ Ok heads
      → heads_from name head files k (xs ++ ys) ≡ with_heads heads (heads_from name head files (k + length xs) ys)
  heads_append files k [] ys heads e =
      from_same files k (k + 0) ys (omega arith) ∙ (with_none (heads_from name head files (k + 0) ys)
      ∙ ap (λ (hs : List H). with_heads hs (heads_from name head files (k + 0) ys)) (same_heads [] heads e))
  heads_append files k (x ∷ xs) ys heads e = by_head (λ hs rest. heads_append files (suc k) xs ys hs rest) (head_in name head files x) (heads_from name head files (suc k) xs) refl refl e
    where
      by_head : ((hs : List H) → heads_from name head files (suc k) xs ≡ Ok hs → heads_from name head files (suc k) (xs ++ ys) ≡ with_heads hs (heads_from name head files (suc k + length xs) ys)) → (found : Found H) (r : Heads H) → head_in name head files x ≡ found → heads_from name head files (suc k) xs ≡ r → next_head k found r ≡ Ok heads
          → heads_from name head files k (x ∷ xs ++ ys) ≡ with_heads heads (heads_from name head files (k + length (x ∷ xs)) ys)
      by_head on (Err f) r is rest e = not_both heads (record { input = k; fault = f }) (sym e)
      by_head on (Ok h) (Err refusal) is rest e = not_both heads refusal (sym e)
      by_head on (Ok h) (Ok hs) is rest e =
          let more = on hs rest in
          next_two hs k h (head_in name head files x) (heads_from name head files (suc k) (xs ++ ys)) (heads_from name head files (suc k + length xs) ys) is more
          ∙ (ap (λ (r : Heads H). with_heads (h ∷ hs) r) (from_same files (suc k + length xs) (k + length (x ∷ xs)) ys (omega arith))
          ∙ ap (λ (l : List H). with_heads l (heads_from name head files (k + length (x ∷ xs)) ys)) (same_heads (h ∷ hs) heads e))

  -- the heads of those in front, where all have heads
  front_heads : (files : Files) (k : ℕ) (xs ys : List I) (heads : List H) → heads_from name head files k (xs ++ ys) ≡ Ok heads → (front : List H) × (heads_from name head files k xs ≡ Ok front)
  front_heads files k [] ys heads e = ([], refl)
  front_heads files k (x ∷ xs) ys heads e = by_head (λ hs rest. front_heads files (suc k) xs ys hs rest) (head_in name head files x) (heads_from name head files (suc k) (xs ++ ys)) refl refl e
    where
      by_head : ((hs : List H) → heads_from name head files (suc k) (xs ++ ys) ≡ Ok hs → (front : List H) × (heads_from name head files (suc k) xs ≡ Ok front)) → (found : Found H) (r : Heads H) → head_in name head files x ≡ found
          → heads_from name head files (suc k) (xs ++ ys) ≡ r → next_head k found r ≡ Ok heads → (front : List H) × (heads_from name head files k (x ∷ xs) ≡ Ok front)
      by_head on (Err f) r is rest e = not_both heads (record { input = k; fault = f }) (sym e)
      by_head on (Ok h) (Err refusal) is rest e = not_both heads refusal (sym e)
      by_head on (Ok h) (Ok hs) is rest e =
          let front = on hs rest in
          (h ∷ front.0, ap (λ (x : Found H). next_head k x (heads_from name head files (suc k) xs)) is ∙ ap (λ (r : Heads H). with_heads (h ∷ []) r) front.1)

  pub front_have : (files : Files) (inputs : List I) (k : ℕ) (heads : List H) → heads_of name head files inputs ≡ Ok heads → HaveHeads name head (Some files) inputs k
  front_have files inputs k heads e = front_heads files 0 (take k inputs) (drop k inputs) heads (ap (λ (l : List I). heads_of name head files l) (sym (parts inputs k)) ∙ e)

  -- a refused head is none of those before the first of these
  inside : (front : List H) (r : Heads H) (refusal : Refusal) → with_heads front r ≡ Err refusal → r ≡ Err refusal
  inside front (Ok hs) refusal e = not_both (front ++ hs) refusal e
  inside front (Err other) refusal e = e

  err_from : (files : Files) (k : ℕ) (xs : List I) (refusal : Refusal) → heads_from name head files k xs ≡ Err refusal → k ≤ refusal.input
  err_from files k [] refusal e = not_both [] refusal e
  err_from files k (x ∷ xs) refusal e = by_head (λ rest. err_from files (suc k) xs refusal rest) (head_in name head files x) e
    where
      by_head : (heads_from name head files (suc k) xs ≡ Err refusal → suc k ≤ refusal.input) → (found : Found H) → next_head k found (heads_from name head files (suc k) xs) ≡ Err refusal → k ≤ refusal.input
      by_head on (Err f) e = (let here = ap (λ (r : Refusal). r.input) (same_refusal {H = H} (record { input = k; fault = f }) refusal e) in omega (arith, here))
      by_head on (Ok h) e = (let more = on (inside (h ∷ []) (heads_from name head files (suc k) xs) refusal e) in omega (arith, more))

  pub refused_after : (files : Files) (inputs : List I) (k : ℕ) (front : List H) (refusal : Refusal) → k ≤ length inputs → heads_of name head files (take k inputs) ≡ Ok front → heads_of name head files inputs ≡ Err refusal → k ≤ refusal.input
  refused_after files inputs k front refusal le so e =
      let len = take_len inputs k le in
      let rest = err_from files (0 + length (take k inputs)) (drop k inputs) refusal (inside front (heads_from name head files (0 + length (take k inputs)) (drop k inputs)) refusal
      (sym (heads_append files 0 (take k inputs) (drop k inputs) front so) ∙ (ap (λ (l : List I). heads_of name head files l) (sym (parts inputs k)) ∙ e))) in
      omega (arith, rest, len)

  -- one head more
  pub heads_more : (files : Files) (inputs : List I) (k : ℕ) (input : I) (front : List H) (h : H) → k < length inputs → get_or inputs k input ≡ input → heads_of name head files (take k inputs) ≡ Ok front
      → head_in name head files input ≡ Ok h → heads_of name head files (take (k + 1) inputs) ≡ Ok (front ++ h ∷ [])
  heads_more files inputs k input front h lt at so is =
      ap (λ (l : List I). heads_of name head files l) (take_snoc inputs k input lt ∙ ap (λ (x : I). take k inputs ++ x ∷ []) at)
      ∙ (heads_append files 0 (take k inputs) (input ∷ []) front so
      ∙ ap (λ (f : Found H). with_heads front (next_head (0 + length (take k inputs)) f (Ok []))) is)

  -- the first head that is refused
  pub heads_refused : (files : Files) (inputs : List I) (k : ℕ) (input : I) (front : List H) (f : HeadFault) → k < length inputs → get_or inputs k input ≡ input → heads_of name head files (take k inputs) ≡ Ok front
      → head_in name head files input ≡ Err f → heads_of name head files inputs ≡ Err (record { input = k; fault = f })
  heads_refused files inputs k input front f lt at so is =
      ap (λ (l : List I). heads_of name head files l) (parts inputs k)
      ∙ (heads_append files 0 (take k inputs) (drop k inputs) front so
      ∙ (ap (λ (n : ℕ). with_heads front (heads_from name head files n (drop k inputs))) (let len = take_len inputs k (omega (arith, lt)) in omega (arith, len))
      ∙ (ap (λ (l : List I). with_heads front (heads_from name head files k l)) (drop_more inputs k input lt)
      ∙ (ap (λ (x : I). with_heads front (next_head k (head_in name head files x) (heads_from name head files (suc k) (drop (k + 1) inputs)))) at
      ∙ ap (λ (x : Found H). with_heads front (next_head k x (heads_from name head files (suc k) (drop (k + 1) inputs)))) is))))

  pub heads_end : (files : Files) (inputs : List I) (k : ℕ) (heads : List H) → length inputs ≤ k → heads_of name head files (take k inputs) ≡ Ok heads → heads_of name head files inputs ≡ Ok heads
  heads_end files inputs k heads le so = ap (λ (l : List I). heads_of name head files l) (sym (take_whole inputs k le)) ∙ so

  -- all heads before this input were found, where the files are told
  abbrev pub FoundSoFar : Option Files → List I → ℕ → List H → Type 0
  FoundSoFar files inputs k front = (told : Files) → files ≡ Some told → heads_of name head told (take k inputs) ≡ Ok front

  pub have_heads : (files : Option Files) (inputs : List I) (k : ℕ) (front : List H) → FoundSoFar files inputs k front → HaveHeads name head files inputs k
  have_heads None inputs k front so = tt
  have_heads (Some told) inputs k front so = (front, so told refl)

  refusal_on : (files mid : Option Files) (inputs : List I) (k : ℕ) (input : I) (front : List H) (f : HeadFault) → k < length inputs → get_or inputs k input ≡ input → KeepsFiles files mid → FoundSoFar files inputs k front
      → IsFound (head input) mid (name input) (Err f) → IsRefused name head files inputs k f
  refusal_on None mid inputs k input front f lt at keeps so h = tt
  refusal_on (Some told) mid inputs k input front f lt at keeps so h = heads_refused told inputs k input front f lt at (so told refl) (found_on (head input) (Some told) mid told (name input) (Err f) keeps refl h)

  -- an input that was opened without a head is why not all have one
  pub ends_read : {E : Type 0} (faults : E → ℕ) (files mid : Option Files) (before now : List ℕ → ℕ) (names : List Name) (inputs : List I) (srcs : List E) (front : List H) (k : ℕ) (input : I) (src : E) (end : InputEnd) → k < length inputs → get_or inputs k input ≡ input
      → KeepsFiles files mid → FoundSoFar files inputs k front → k < length srcs → ((d : E) → get_or srcs k d ≡ src) → IsHeadless (head input) end (faults src) mid (name input) → EndsInputs name head faults files before now names inputs srcs k end
  ends_read faults files mid before now names inputs srcs front k input src input_end.NoMemory lt is keeps so there at h = lt
  ends_read faults files mid before now names inputs srcs front k input src input_end.Failed lt is keeps so there at h = (lt, inr (there, λ d. subst (λ (x : _). 1 ≤ faults x) (sym (at d)) h), have_heads files inputs k front so)
  ends_read faults files mid before now names inputs srcs front k input src (input_end.Damaged offset) lt is keeps so there at h = (lt, refusal_on files mid inputs k input front (fault.Damaged offset) lt is keeps so h.1)
  ends_read faults files mid before now names inputs srcs front k input src (input_end.Unsupported offset) lt is keeps so there at h = (lt, refusal_on files mid inputs k input front (fault.Unsupported offset) lt is keeps so h.1)

  -- and so is one that wasn't opened
  pub ends_unopened : {E : Type 0} (faults : E → ℕ) (files : Option Files) (before now : List ℕ → ℕ) (names : List Name) (inputs : List I) (srcs : List E) (front : List H) (k : ℕ) (end : InputEnd) → k < length inputs
      → FoundSoFar files inputs k front → (n : List ℕ) → name_at names k ≡ Some n → IsUnopened end (before n) (now n) → EndsInputs name head faults files before now names inputs srcs k end
  ends_unopened faults files before now names inputs srcs front k input_end.NoMemory lt so n is h = lt
  ends_unopened faults files before now names inputs srcs front k input_end.Failed lt so n is h = (lt, inl (subst (λ (m : Name). RoseUnder before now m) (sym is) h), have_heads files inputs k front so)
  ends_unopened faults files before now names inputs srcs front k (input_end.Damaged offset) lt so n is h = absurd h
  ends_unopened faults files before now names inputs srcs front k (input_end.Unsupported offset) lt so n is h = absurd h

-- of those that haven't failed, with one more: where that has, those before it
pub unfailed_all : {E : Type 0} (faults : E → ℕ) (ends : List E) (all count : ℕ) → length ends ≤ all → AreUnfailed faults ends all → AreUnfailed faults ends count
unfailed_all faults ends all count few u = λ k d lt below. u k d lt (omega (arith, lt, few))

pub unfailed_read : {E H : Type 0} (head : List ℕ → Found H) (faults : E → ℕ) (xs ys : List E) (src : E) (k all : ℕ) (end : InputEnd) (files : Option Files) (name : List ℕ) → ys ≡ xs ++ src ∷ [] → length xs ≡ k → k < all → AreUnfailed faults xs all
    → IsHeadless head end (faults src) files name → AreUnfailed faults ys (sound_before end k all)
unfailed_read {E} head faults xs ys src k all end files name is long lt u h = λ j d there below.
    let more = pushed_len xs ys src k is long in
    each_pushed (λ i x. i < sound_before end k all → faults x ≡ 0) xs ys src k is long (λ i e l b. u i e (omega (arith, l, long)) (omega (arith, l, lt))) (here end h) j d (omega (arith, there, more)) below
  where
    here : (end : InputEnd) → IsHeadless head end (faults src) files name → k < sound_before end k all → faults src ≡ 0
    here input_end.NoMemory h b = h
    here input_end.Failed h b = absurd (omega (arith, b))
    here (input_end.Damaged offset) h b = h.0
    here (input_end.Unsupported offset) h b = h.0

-- the counts after an opening that was refused
pub counts_unopened : (before mid now : List ℕ → ℕ) (names : List Name) (k all : ℕ) (n : List ℕ) (end : InputEnd) → name_at names k ≡ Some n → k < length names → SameCounts before mid → SameElsewhere n mid now
    → IsUnopened end (mid n) (now n) → KeepsCounts before now names (sound_before end k all)
counts_unopened before mid now names k all n end is lt was others h = counts_named before mid now names k (sound_before end k all) (Some n) is lt (λ name below. was name) others (here end h)
  where
    here : (end : InputEnd) → IsUnopened end (mid n) (now n) → k < sound_before end k all → now n ≡ mid n
    here input_end.NoMemory h b = h
    here input_end.Failed h b = absurd (omega (arith, b))
    here (input_end.Damaged offset) h b = absurd h
    here (input_end.Unsupported offset) h b = absurd h

pub unopened_since : (end : InputEnd) (before mid now : ℕ) → mid ≡ before → IsUnopened end mid now → IsUnopened end before now
unopened_since end before mid now e h = subst (λ (n : ℕ). IsUnopened end n now) e h
