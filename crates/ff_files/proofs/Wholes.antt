-- From the steps of a command over files to the whole.
use Rattle.std.proofs.Common.{◌≡◌, ◌⊎◌, inl, inr, ℕ, zero, suc, ◌<◌, ◌≤◌, List, [], ◌∷◌, length, map, get_or, Option, None, Some, IfSome, IsSome, Ok, refl, sym, ap, ◌∙◌, subst, arith}
use Rattle.std.proofs.lemmas.List.{length-map}
use Rattle.std.specs.Io.KnownBytes.{Appends}
use Rattle.ff_host.specs.Files.{Files, bytes_at, KeepsFiles, HoldsNothing}
use Rattle.ff_files.specs.Names.{Name, name_at, AreApart, KeepsAllBut, HoldsUnder}
use Rattle.ff_files.specs.Counts.{KeepsCounts, AreUnfailed}
use Rattle.ff_files.specs.laws.Hosts.{AreOpen}
use Rattle.ff_files.specs.laws.Inputs.{AreBegun}
use Rattle.ff_files.specs.Outputs.{AreEmpty, ArePut}
use Rattle.ff_files.specs.Works.{Command, AreTold, HoldFirstFiles, HoldsPart, HoldFirstParts, GainTexts, KeepEnds, FailNoMore, file_with, text_with, file_of, text_of, all_heads, all_bytes, told_bytes, meaning, written, AreHeadsIn, HasLog, HoldMeaning, HoldTrace, HoldsWritten, HoldWritten}
use Rattle.ff_files.proofs.Lists.{some_of, if_is, if_named}

-- the bytes of an input that is there, by its number
bytes_here : {I : Type 0} (name : I → List ℕ) (files : Files) (inputs : List I) (k : ℕ) (d : I) → k < length inputs → get_or (map (λ (input : I). bytes_at files (name input)) inputs) k [] ≡ bytes_at files (name (get_or inputs k d))
bytes_here name files [] k d lt = absurd (omega (arith, lt))
bytes_here name files (x ∷ xs) zero d lt = refl
bytes_here name files (x ∷ xs) (suc k) d lt = bytes_here name files xs k d (omega (arith, lt))

put_is : (b c : Files) (name : Name) (held want : Option (List ℕ)) → HoldsUnder (Some b) (Some c) name held → IsSome want → held ≡ want → IfSome name (λ n. c n ≡ want)
put_is b c None held want h s e = tt
put_is b c (Some name) None want h s e = absurd (subst (λ (o : Option (List ℕ)). IsSome o → ⊥) e (λ x. cc) s)
put_is b c (Some name) (Some bytes) want h s e = h ∙ e

some_same : (xs ys : List ℕ) → Some xs ≡ Some ys → xs ≡ ys
some_same xs ys e = cc

put_front : (b c : Files) (name : Name) (held : Option (List ℕ)) (front : List ℕ) → HoldsUnder (Some b) (Some c) name held → held ≡ Some front → IfSome name (λ n. c n ≡ Some front)
put_front b c None held front h e = tt
put_front b c (Some name) None front h e = absurd (let no : None ≡ Some front = e in cc (no))
put_front b c (Some name) (Some bytes) front h e = h ∙ e

-- sinks that were made while files are told that were told before
empty_since : (a b : Option Files) (held : Option (List ℕ)) → KeepsFiles a b → HoldsNothing b held → HoldsNothing a held
empty_since None None held p h = h
empty_since None (Some e) None p h = tt
empty_since None (Some e) (Some bytes) p h = some_same bytes [] h
empty_since (Some f) None held p h = absurd p
empty_since (Some f) (Some e) held p h = h

-- the same where they were kept but for some names
pub empty_but : (a b : Option Files) (names : List Name) (k : ℕ) (held : Option (List ℕ)) → KeepsAllBut a b names k → HoldsNothing b held → HoldsNothing a held
empty_but None None names k held p h = h
empty_but None (Some e) names k None p h = tt
empty_but None (Some e) names k (Some bytes) p h = some_same bytes [] h
empty_but (Some f) None names k held p h = absurd p
empty_but (Some f) (Some e) names k held p h = h

-- files that are kept, and then but for some names
pub but_since : (a b c : Option Files) (names : List Name) (k : ℕ) → KeepsFiles a b → KeepsAllBut b c names k → KeepsAllBut a c names k
but_since None b c names k p q = tt
but_since (Some f) None c names k p q = absurd p
but_since (Some f) (Some e) None names k p q = absurd q
but_since (Some f) (Some e) (Some d) names k p q = λ other h. q other h ∙ p other

pub but_kept : (a b c : Option Files) (names : List Name) (k : ℕ) → KeepsAllBut a b names k → KeepsFiles b c → KeepsAllBut a c names k
but_kept None b c names k p q = tt
but_kept (Some f) None c names k p q = absurd p
but_kept (Some f) (Some e) None names k p q = absurd q
but_kept (Some f) (Some e) (Some d) names k p q = λ other h. q other ∙ p other h

pub but_none : (a b : Option Files) (names : List Name) (k : ℕ) → KeepsFiles a b → KeepsAllBut a b names k
but_none None b names k p = tt
but_none (Some f) None names k p = absurd p
but_none (Some f) (Some e) names k p = λ other h. p other

-- but for some names, twice, and for no more of them
pub but_twice : (a b c : Option Files) (names : List Name) (j k : ℕ) → j ≤ k → KeepsAllBut a b names j → KeepsAllBut b c names j → KeepsAllBut a c names k
but_twice None b c names j k le p q = tt
but_twice (Some f) None c names j k le p q = absurd p
but_twice (Some f) (Some e) None names j k le p q = absurd q
but_twice (Some f) (Some e) (Some d) names j k le p q = λ other h. q other (λ i lt. h i (omega (arith, lt, le))) ∙ p other (λ i lt. h i (omega (arith, lt, le)))

pub which : (j n : ℕ) → (j < n) ⊎ (n ≤ j)
which j zero = inr (omega arith)
which zero (suc n) = inl (omega arith)
which (suc j) (suc n) = elim (which j n) [ inl l ↦ inl (omega (arith, l)) | inr r ↦ inr (omega (arith, r)) ]

module _ {I H R F E K : Type 0} (command : Command I H R F) (left : E → Option (List ℕ)) (holds : K → Option (List ℕ)) (srcs : List E) (heads : List H) where
  -- an output's bytes by the heads that its inputs have
  pub meaning_is : (files : Files) (j : ℕ) → all_heads command files ≡ Ok heads → command.means.refusal heads ≡ None → meaning command files j ≡ command.means.file heads (all_bytes command files) j
  meaning_is files j e n =
      ap (λ (h : _). file_of command.means h (all_bytes command files) j) e ∙ ap (λ (r : Option R). file_with command.means heads r (all_bytes command files) j) n

  written_is : (files : Files) (j : ℕ) → all_heads command files ≡ Ok heads → command.means.refusal heads ≡ None → written command files j ≡ Some (command.means.text heads (all_bytes command files) j)
  written_is files j e n =
      ap (λ (h : _). text_of command.means h (all_bytes command files) j) e ∙ ap (λ (r : Option R). text_with command.means heads r (all_bytes command files) j) n

  -- the sources and sinks tell what the files say
  pub told_of : (files mid : Option Files) (told : Files) (snks : List K) → files ≡ Some told → KeepsFiles files mid → AreBegun command.name command.head left files command.inputs srcs heads → AreEmpty holds mid snks
      → AreTold left holds srcs snks (all_bytes command told)
  told_of files mid told snks is keeps begun empty = record {
    as_many = length-map command.inputs (λ (input : I). bytes_at told (command.name input)) ∙ sym begun.as_many;
    left_is = λ i d lt.
        let there : i < length command.inputs = let many = begun.as_many in omega (arith, lt, many) in
        let input = some_of command.inputs i there in
        begun.told_bytes told is i input d lt ∙ ap (λ (b : List ℕ). Some b) (sym (bytes_here command.name told command.inputs i input there));
    empty = λ j d lt. empty_since (Some told) mid (holds (get_or snks j d)) (subst (λ (f : Option Files). KeepsFiles f mid) is keeps) (empty j d lt);
  }

  -- and where the files are told, the bytes that these say
  pub all_told : (files mid : Option Files) (snks : List K) → KeepsFiles files mid → AreBegun command.name command.head left files command.inputs srcs heads → AreEmpty holds mid snks
      → IfSome (told_bytes command files) (AreTold left holds srcs snks)
  all_told None mid snks keeps begun empty = tt
  all_told (Some told) mid snks keeps begun empty = told_of (Some told) mid told snks refl keeps begun empty

  -- the heads are those of the files, where these are told
  pub heads_in : (files : Option Files) → AreBegun command.name command.head left files command.inputs srcs heads → AreHeadsIn command files heads
  heads_in None begun = tt
  heads_in (Some told) begun = begun.told_heads told refl

  -- each output holds its bytes once its sink is closed
  pub meant : (f0 f1 f2 f3 : Option Files) (snks snks' : List K) → KeepsFiles f0 f1 → AreBegun command.name command.head left f0 command.inputs srcs heads → command.means.refusal heads ≡ None → AreEmpty holds f1 snks
      → KeepsAllBut f1 f2 command.outputs (length command.outputs) → ArePut holds f2 f3 command.outputs snks' → command.count ≤ length snks'
      → ((bytes : List (List ℕ)) → AreTold left holds srcs snks bytes → HoldFirstFiles command.count holds (command.means.file heads bytes) snks') → HoldMeaning command f0 f3
  meant None f1 f2 f3 snks snks' k begun n empty made put many done = tt
  meant (Some a) None f2 f3 snks snks' k begun n empty made put many done = absurd k
  meant (Some a) (Some b) None f3 snks snks' k begun n empty made put many done = absurd made
  meant (Some a) (Some b) (Some c) None snks snks' k begun n empty made put many done = tt
  meant (Some a) (Some b) (Some c) (Some d) snks snks' k begun n empty made put many done = λ j lt.
      let there : j < length snks' = omega (arith, lt, many) in
      let s = some_of snks' j there in
      let all = done (all_bytes command a) (told_of (Some a) (Some b) a snks refl k begun empty) j s lt there in
      let is = meaning_is a j (begun.told_heads a refl) n in (
        subst (λ (o : Option (List ℕ)). IsSome o) (sym is) all.0,
        if_named (λ n. d n ≡ command.means.file heads (all_bytes command a) j) (λ n. d n ≡ meaning command a j) (name_at command.outputs j) (λ n h. h ∙ sym is)
            (put_is c d (name_at command.outputs j) (holds (get_or snks' j s)) (command.means.file heads (all_bytes command a) j) (put j s there) all.0 all.1),
      )

  -- each output is as it was, or holds a front of its text, or its bytes, once the sinks that there are were closed
  pub fronts : (f0 f1 f2 f3 : Option Files) (snks snks' : List K) → KeepsFiles f0 f1 → AreBegun command.name command.head left f0 command.inputs srcs heads → command.means.refusal heads ≡ None → AreEmpty holds f1 snks
      → KeepsAllBut f1 f2 command.outputs (length snks') → KeepsAllBut f2 f3 command.outputs (length snks') → ArePut holds f2 f3 command.outputs snks'
      → AreApart command.outputs → length snks' ≤ length command.outputs
      → command.count ≤ length command.outputs
      → ((bytes : List (List ℕ)) → AreTold left holds srcs snks bytes → HoldFirstParts command.count holds (command.means.text heads bytes) (command.means.file heads bytes) snks') → HoldWritten command f0 f3
  fronts None f1 f2 f3 snks snks' k begun n empty made kept put apart few most done = tt
  fronts (Some a) None f2 f3 snks snks' k begun n empty made kept put apart few most done = absurd k
  fronts (Some a) (Some b) None f3 snks snks' k begun n empty made kept put apart few most done = absurd made
  fronts (Some a) (Some b) (Some c) None snks snks' k begun n empty made kept put apart few most done = tt
  fronts (Some a) (Some b) (Some c) (Some d) snks snks' k begun n empty made kept put apart few most done = λ j lt. elim (which j (length snks')) [
    | inl there ↦
        let s = some_of snks' j there in
        let all : HoldsPart (holds (get_or snks' j s)) (command.means.text heads (all_bytes command a) j) (command.means.file heads (all_bytes command a) j) = done (all_bytes command a) (told_of (Some a) (Some b) a snks refl k begun empty) j s lt there in
        let text_is = written_is a j (begun.told_heads a refl) n in
        let file_is = meaning_is a j (begun.told_heads a refl) n in
        elim all [
          | inl part ↦ if_named (λ n. d n ≡ Some part.0) (HoldsWritten command a d j) (name_at command.outputs j) (λ n h. inr (inl (part.0, part.1, h, text_is ∙ ap (λ (l : List ℕ). Some l) part.3)))
              (put_front c d (name_at command.outputs j) (holds (get_or snks' j s)) part.0 (put j s there) part.2)
          | inr whole ↦ if_named (λ n. d n ≡ command.means.file heads (all_bytes command a) j) (HoldsWritten command a d j) (name_at command.outputs j)
              (λ n h. inr (inr (subst (λ (o : Option (List ℕ)). IsSome o) (sym file_is) whole.0, h ∙ sym file_is)))
              (put_is c d (name_at command.outputs j) (holds (get_or snks' j s)) (command.means.file heads (all_bytes command a) j) (put j s there) whole.0 whole.1)
        ]
    | inr beyond ↦
        if_is (HoldsWritten command a d j) (name_at command.outputs j) (λ n is.
        let other : (i : ℕ) → i < length snks' → name_at command.outputs i ≡ Some n → ⊥ = λ i below same.
        (let equal = apart i j (omega (arith, below, few)) (omega (arith, lt, most)) (subst (λ (m : Name). IsSome m) (sym same) cc) (same ∙ sym is) in omega (arith, below, beyond, equal)) in
        inl (kept n other ∙ (made n other ∙ k n)))
  ]

-- sinks that hold nothing hold a front of whatever text
pub none_written : {K : Type 0} (count : ℕ) (holds : K → Option (List ℕ)) (text : ℕ → List ℕ) (file : ℕ → Option (List ℕ)) (snks : List K) → ((j : ℕ) (d : K) → j < length snks → holds (get_or snks j d) ≡ Some []) → HoldFirstParts count holds text file snks
none_written count holds text file snks empty = λ j d below lt. inl ([], text j, empty j d lt, refl)

-- what ends are kept may be closed
pub kept_open : {H E : Type 0} (may : H → List ℕ → Type 0) (named : E → Option (List ℕ)) (host : H) (names : List Name) (old new : List E) → AreOpen may named host names old → KeepEnds named old new → AreOpen may named host names new
kept_open may named host names old new o k =
    let many = k.as_many in record {
      few = (let few = o.few in omega (arith, few, many));
      own = λ i d lt. (let there : i < length old = omega (arith, lt, many) in k.same_name i d there ∙ o.own i d there);
      may_close = λ i lt. o.may_close i (omega (arith, lt, many));
    }

-- those that had not failed and fail no more have not failed
pub still_unfailed : {E : Type 0} (faults : E → ℕ) (old new : List E) (all count : ℕ) → length new ≡ length old → length old ≤ all → AreUnfailed faults old all → FailNoMore faults old new count → AreUnfailed faults new count
still_unfailed faults old new all count many few u f = λ k d lt below. let there : k < length old = omega (arith, lt, many) in f k d there below ∙ u k d there (omega (arith, there, few))

-- counts of which all are kept are kept below any number
pub counts_all : (before now : List ℕ → ℕ) (names : List Name) (all count : ℕ) → length names ≤ all → KeepsCounts before now names all → KeepsCounts before now names count
counts_all before now names all count le k = λ name below. k name (λ i lt same. omega (arith, lt, le))

-- counts that are kept in two steps
pub counts_twice : (before mid now : List ℕ → ℕ) (names : List Name) (count : ℕ) → KeepsCounts before mid names count → KeepsCounts mid now names count → KeepsCounts before now names count
counts_twice before mid now names count p q = λ name below. q name below ∙ p name below

-- a sink that held nothing and gained a text holds it, where the files are told
gained_all : (b : Files) (old new : Option (List ℕ)) (text : List ℕ) → HoldsNothing (Some b) old → Appends old new text → new ≡ Some text
gained_all b old None text none gained = absurd (subst (λ (o : Option (List ℕ)). Appends o None text) none gained)
gained_all b old (Some held) text none gained = ap (λ (l : List ℕ). Some l) (subst (λ (o : Option (List ℕ)). Appends o (Some held) text) none gained)

-- the files behind the outputs hold the text that their sinks gained
pub traced : {I H R F K : Type 0} (command : Command I H R F) (holds : K → Option (List ℕ)) (text : List ℕ) (f0 f1 f2 f3 : Option Files) (snks snks' : List K)
    → KeepsFiles f0 f1 → KeepsAllBut f1 f2 command.outputs (length command.outputs) → AreEmpty holds f1 snks → ArePut holds f2 f3 command.outputs snks'
    → length snks ≡ length command.outputs → length snks' ≡ length command.outputs → GainTexts command.count holds text snks snks' → HoldTrace command text f0 f3
traced command holds text None f1 f2 f3 snks snks' k made empty put many many' gain = tt
traced command holds text (Some a) None f2 f3 snks snks' k made empty put many many' gain = absurd k
traced command holds text (Some a) (Some b) None f3 snks snks' k made empty put many many' gain = absurd made
traced command holds text (Some a) (Some b) (Some c) None snks snks' k made empty put many many' gain = tt
traced command holds text (Some a) (Some b) (Some c) (Some d) snks snks' k made empty put many many' gain = λ j le lt.
    let there : j < length snks = omega (arith, lt, many) in
    let there' : j < length snks' = omega (arith, lt, many') in
    let s = some_of snks j there in
    put_front c d (name_at command.outputs j) (holds (get_or snks' j s)) text (put j s there')
    (gained_all b (holds (get_or snks j s)) (holds (get_or snks' j s)) text (empty j s there) (gain j s le there))

-- what is so of a log is so of it in other words
pub has_more : {L : Type 0} (P Q : L → Type 0) (o : Option L) → ((l : L) → P l → Q l) → HasLog P o → HasLog Q o
has_more P Q None f h = h
has_more P Q (Some l) f h = f l h
