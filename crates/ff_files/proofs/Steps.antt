-- Steps over the files of a run.
use Rattle.std.proofs.Common.{◌≡◌, ◌≢◌, inl, inr, ℕ, suc, ◌+◌, ◌<◌, List, [], ◌∷◌, ◌++◌, length, Option, None, Some, Bool, true, false, refl, sym, ap, ◌∙◌, subst, arith}
use Rattle.std.specs.Prelude.{IsSome, IfSome}
use Rattle.ff_host.specs.Causes.{Rose, SameCounts}
use Rattle.ff_host.specs.Files.{Files, KeepsFiles}
use Rattle.ff_files.specs.Names.{Name, name_at, named_before, one_named, KeepsAllBut, KeepsBeside, HoldsUnder}
use Rattle.ff_files.specs.Counts.{KeepsCounts, KeepsCountsBut, RoseUnder, SameUnder, SameBeside}
use Rattle.ff_files.specs.laws.Hosts.{IsLater, Later, AreOpen}
use Rattle.ff_files.specs.Outputs.{FailsAt, AreClosed, first_failed}
use Rattle.ff_files.proofs.Lists.{each_pushed, length_snoc, same_or_not}

-- files that are kept, twice
pub files_same : (a : Option Files) → KeepsFiles a a
files_same None = tt
files_same (Some f) = λ name. refl

pub files_on : (a b c : Option Files) → KeepsFiles a b → KeepsFiles b c → KeepsFiles a c
files_on None b c p q = tt
files_on (Some f) None c p q = absurd p
files_on (Some f) (Some e) None p q = absurd q
files_on (Some f) (Some e) (Some d) p q = λ name. q name ∙ p name

-- and kept but for some names
but_named : (a b c : Option Files) (names : List Name) (k : ℕ) (n : Name) → name_at names k ≡ n → KeepsAllBut a b names k → KeepsBeside b c n → KeepsAllBut a c names (k + 1)
but_named None b c names k n is p q = tt
but_named (Some f) None c names k n is p q = absurd p
but_named (Some f) (Some e) None names k None is p q = absurd q
but_named (Some f) (Some e) None names k (Some n) is p q = absurd q
but_named (Some f) (Some e) (Some d) names k None is p q = λ other h. q other ∙ p other (λ j lt. h j (omega (arith, lt)))
but_named (Some f) (Some e) (Some d) names k (Some n) is p q = λ other h.
    q other (λ same. h k (omega arith) (is ∙ ap (λ (m : List ℕ). Some m) (sym same))) ∙ p other (λ j lt. h j (omega (arith, lt)))

pub but_more : (a b c : Option Files) (names : List Name) (k : ℕ) → KeepsAllBut a b names k → KeepsBeside b c (name_at names k) → KeepsAllBut a c names (k + 1)
but_more a b c names k p q = but_named a b c names k (name_at names k) refl p q

-- what was put under another name stays there
pub put_on : (a b c : Option Files) (names : List Name) (n : ℕ) (name other : Name) (held : Option (List ℕ)) → KeepsAllBut a b names n → KeepsBeside b c other → (IsSome name → name ≢ other) → HoldsUnder a b name held → HoldsUnder a c name held
put_on a b c names n None other held p k ne h = tt
put_on None b c names n (Some name) other held p k ne h = tt
put_on (Some f) None c names n (Some name) other held p k ne h = absurd p
put_on (Some f) (Some e) None names n (Some name) None held p k ne h = absurd k
put_on (Some f) (Some e) None names n (Some name) (Some other) held p k ne h = absurd k
put_on (Some f) (Some e) (Some d) names n (Some name) other None p k ne h = tt
put_on (Some f) (Some e) (Some d) names n (Some name) None (Some bytes) p k ne h = k name ∙ h
put_on (Some f) (Some e) (Some d) names n (Some name) (Some other) (Some bytes) p k ne h = k name (λ same. (let there : IsSome (Some name) = cc in ne there (ap (λ (m : List ℕ). Some m) same))) ∙ h

-- and what is put now is there
pub put_here : (a b c : Option Files) (names : List Name) (k : ℕ) (name : Name) (held : Option (List ℕ)) → KeepsAllBut a b names k → HoldsUnder b c name held → HoldsUnder a c name held
put_here a b c names k None held p h = tt
put_here None b c names k (Some name) held p h = tt
put_here (Some f) None c names k (Some name) held p h = absurd p
put_here (Some f) (Some e) c names k (Some name) held p h = h

-- a count that has risen has risen since earlier, and until later
pub rose_on : (a b c d : ℕ) → IsLater a b → IsLater c d → Rose b c → Rose a d
rose_on a b c d p q r = omega (arith, p, q, r)

-- a count under a name that has risen has risen since earlier, and until later
pub under_on : (before mid now after : List ℕ → ℕ) (name : Name) → ((n : List ℕ) → IsLater (before n) (mid n)) → ((n : List ℕ) → IsLater (now n) (after n)) → RoseUnder mid now name → RoseUnder before after name
under_on before mid now after None p q r = r
under_on before mid now after (Some name) p q r = rose_on (before name) (mid name) (now name) (after name) (p name) (q name) r

pub later_now : (before : List ℕ → ℕ) (n : List ℕ) → IsLater (before n) (before n)
later_now before n = omega arith

-- the first that failed, once one more was closed
pub fails_on : (before mid now : List ℕ → ℕ) (names : List Name) (k : ℕ) (first : Option ℕ) (failed : Bool) → ((i : ℕ) → RoseUnder before mid (name_at names i) → RoseUnder before now (name_at names i))
    → FailsAt before mid names k first → (failed ≡ true → RoseUnder before now (name_at names k)) → FailsAt before now names (k + 1) (first_failed first failed k)
fails_on before mid now names k (Some j) failed on was f = (omega (arith, was.0), on j was.1)
fails_on before mid now names k None true on was f = (omega arith, f refl)
fails_on before mid now names k None false on was f = tt

-- those that are closed below a number, once one more was closed
pub closed_before : (first : Option ℕ) (failed : Bool) (k count : ℕ) → AreClosed (first_failed first failed k) count → AreClosed first count
closed_before (Some j) failed k count c = c
closed_before None failed k count c = tt

pub closed_here : (before now : List ℕ → ℕ) (names : List Name) (first : Option ℕ) (failed : Bool) (k count : ℕ) → FailsAt before now names k first → AreClosed (first_failed first failed k) count → k < count → failed ≡ false
closed_here before now names (Some j) failed k count f c lt = absurd (let below = f.0 in omega (arith, below, c, lt))
closed_here before now names None true k count f c lt = absurd (omega (arith, c, lt))
closed_here before now names None false k count f c lt = refl

-- counts that are kept, with one more step that changes the count of one name at most
pub counts_named : (before mid now : List ℕ → ℕ) (names : List Name) (k count : ℕ) (n : Name) → name_at names k ≡ n → k < length names → KeepsCounts before mid names count → SameBeside n mid now
    → (k < count → SameUnder mid now n) → KeepsCounts before now names count
counts_named before mid now names k count None is lt was others here = λ name below. others name ∙ was name below
counts_named before mid now names k count (Some n) is lt was others here = λ name below. elim (same_or_not name n) [
  | inl same ↦ subst (λ (m : List ℕ). now m ≡ mid m) (sym same) (here (below k lt (is ∙ ap (λ (m : List ℕ). Some m) (sym same)))) ∙ was name below
  | inr other ↦ others name other ∙ was name below
]

pub counts_on : (before mid now : List ℕ → ℕ) (names : List Name) (k count : ℕ) → k < length names → KeepsCounts before mid names count → SameBeside (name_at names k) mid now
    → (k < count → SameUnder mid now (name_at names k)) → KeepsCounts before now names count
counts_on before mid now names k count lt was others here = counts_named before mid now names k count (name_at names k) refl lt was others here

-- counts of which none changed in the step
pub counts_still : (before mid now : List ℕ → ℕ) (names : List Name) (count : ℕ) → KeepsCounts before mid names count → SameCounts mid now → KeepsCounts before now names count
counts_still before mid now names count was same = λ name below. same name ∙ was name below

module _ {H : Type 0} (ins outs : H → List ℕ → ℕ) (opened created : H → List ℕ → Type 0) where
  pub later_same : (a : H) → Later ins outs opened created a a
  later_same a = record { ins_later = λ n. omega arith; outs_later = λ n. omega arith; still_opened = λ n o. o; still_created = λ n o. o }

  pub later_on : (a b c : H) → Later ins outs opened created a b → Later ins outs opened created b c → Later ins outs opened created a c
  later_on a b c p q = record {
    ins_later = λ n. (let x = p.ins_later n in let y = q.ins_later n in omega (arith, x, y));
    outs_later = λ n. (let x = p.outs_later n in let y = q.outs_later n in omega (arith, x, y));
    still_opened = λ n o. q.still_opened n (p.still_opened n o);
    still_created = λ n o. q.still_created n (p.still_created n o);
  }

-- what may be closed under a name still may
pub some_still : {H : Type 0} (may : H → List ℕ → Type 0) (old new : H) (name : Name) → ((n : List ℕ) → may old n → may new n) → IfSome name (may old) → IfSome name (may new)
some_still may old new None still m = tt
some_still may old new (Some n) still m = still n m

-- what may be closed still may, and one more
module _ {H E : Type 0} (may : H → List ℕ → Type 0) (named : E → Option (List ℕ)) where
  pub open_more : (old new : H) (names : List Name) (xs ys : List E) (y : E) (k : ℕ) → ((n : List ℕ) → may old n → may new n) → AreOpen may named old names xs → ys ≡ xs ++ y ∷ [] → length xs ≡ k → k < length names
      → named y ≡ name_at names k → IfSome (name_at names k) (may new) → AreOpen may named new names ys
  open_more old new names xs ys y k still was is long lt own may_too =
      let more : length ys ≡ k + 1 = ap (λ (l : List E). length l) is ∙ (length_snoc xs y ∙ ap (λ (n : ℕ). n + 1) long) in
      record {
        few = omega (arith, more, lt);
        own = λ j d below. each_pushed (λ i x. named x ≡ name_at names i) xs ys y k is long (λ i e l. was.own i e (omega (arith, l, long))) own j d (omega (arith, below, more));
        may_close = λ j below. each_pushed (λ i x. IfSome (name_at names i) (may new)) xs ys y k is long (λ i e l. some_still may old new (name_at names i) still (was.may_close i (omega (arith, l, long)))) may_too j y (omega (arith, below, more));
      }

  pub open_still : (old new : H) (names : List Name) (xs : List E) → ((n : List ℕ) → may old n → may new n) → AreOpen may named old names xs → AreOpen may named new names xs
  open_still old new names xs still was = record { few = was.few; own = was.own; may_close = λ k lt. some_still may old new (name_at names k) still (was.may_close k lt) }

-- how many are files of one more
pub named_more : (names : List Name) (k : ℕ) → named_before names (k + 1) ≡ named_before names k + one_named (name_at names k)
named_more names k = (let next : k + 1 ≡ suc k = omega arith in ap (named_before names) next)

-- no count has changed but those of the first so many, and of one more
but_counted : (before mid now : List ℕ → ℕ) (names : List Name) (k : ℕ) (n : Name) → name_at names k ≡ n → KeepsCountsBut before mid names k → SameBeside n mid now → KeepsCountsBut before now names (k + 1)
but_counted before mid now names k None is p q = λ other none. q other ∙ p other (λ j lt. none j (omega (arith, lt)))
but_counted before mid now names k (Some n) is p q = λ other none.
    q other (λ same. none k (omega arith) (is ∙ ap (λ (m : List ℕ). Some m) (sym same))) ∙ p other (λ j lt. none j (omega (arith, lt)))

pub but_others : (before mid now : List ℕ → ℕ) (names : List Name) (k : ℕ) → KeepsCountsBut before mid names k → SameBeside (name_at names k) mid now → KeepsCountsBut before now names (k + 1)
but_others before mid now names k p q = but_counted before mid now names k (name_at names k) refl p q
