-- Which outputs of a command over files were created, from how its steps do.
use Rattle.std.proofs.Common.{◌≡◌, ◌⊎◌, inl, inr, ℕ, ◌<◌, List, length, Option, Some, None, sym, ◌∙◌, subst, arith}
use Rattle.ff_host.specs.Causes.{Rose, SameCounts}
use Rattle.ff_host.specs.Files.{Files, KeepsFiles}
use Rattle.ff_host.specs.declared.host.HostError.{HostError}
use Rattle.ff_host.specs.declared.host.HostError.TheVariants as host_error
use Rattle.ff_files.specs.Names.{Name, name_at, AreApart, KeepsAllBut}
use Rattle.ff_files.specs.Counts.{Counts, KeepsCountsBut, RoseUnder, SameUnder}
use Rattle.std.specs.Prelude.{IsSome, IfSome}
use Rattle.ff_files.specs.Outputs.{EndsOutputs, IsUncreated, CreatesOutputs}
use Rattle.ff_files.proofs.Steps.{files_on}
use Rattle.ff_files.proofs.Wholes.{but_since, but_twice}

ends_below : (before now : List ℕ → ℕ) (names : List Name) (k : ℕ) (why : HostError) → EndsOutputs before now names k why → k < length names
ends_below before now names k host_error.NoMemory e = e.0
ends_below before now names k host_error.Failed e = e.0

-- a count that rose or stood is so until later, where it stands, and since earlier
rose_still : (before mid now : List ℕ → ℕ) (name : Name) → RoseUnder before mid name → SameUnder mid now name → RoseUnder before now name
rose_still before mid now None r same = r
rose_still before mid now (Some name) r same = subst (λ (n : ℕ). Rose (before name) n) (sym same) r

same_still : (before mid now : List ℕ → ℕ) (name : Name) → SameUnder before mid name → SameUnder mid now name → SameUnder before now name
same_still before mid now None r same = tt
same_still before mid now (Some name) r same = same ∙ r

same_here : (before mid : List ℕ → ℕ) (name : Name) → SameCounts before mid → SameUnder before mid name
same_here before mid None same = tt
same_here before mid (Some name) same = same name

rose_since : (before mid now : List ℕ → ℕ) (name : Name) → SameCounts before mid → RoseUnder mid now name → RoseUnder before now name
rose_since before mid now None same r = r
rose_since before mid now (Some name) same r = subst (λ (n : ℕ). Rose n (now name)) (same name) r

-- the count of a name stands that is none of the first so many
kept_here : (mid now : List ℕ → ℕ) (names : List Name) (n : ℕ) (name : Name) → KeepsCountsBut mid now names n → ((i : ℕ) → i < n → IsSome name → name_at names i ≡ name → ⊥) → SameUnder mid now name
kept_here mid now names n None others apart = tt
kept_here mid now names n (Some name) others apart = others name (λ i lt same. (let there : IsSome (Some name) = cc in apart i lt there same))

-- a refusal is counted so until later, where the count of that name stands
ends_still : (before mid now : List ℕ → ℕ) (names : List Name) (k : ℕ) (why : HostError) → EndsOutputs before mid names k why → SameUnder mid now (name_at names k) → EndsOutputs before now names k why
ends_still before mid now names k host_error.NoMemory e same = (e.0, same_still before mid now (name_at names k) e.1 same)
ends_still before mid now names k host_error.Failed e same = (e.0, rose_still before mid now (name_at names k) e.1 same)

-- and since earlier
ends_since : (before mid now : List ℕ → ℕ) (names : List Name) (k : ℕ) (why : HostError) → SameCounts before mid → EndsOutputs mid now names k why → EndsOutputs before now names k why
ends_since before mid now names k host_error.NoMemory same e = (e.0, same_still before mid now (name_at names k) (same_here before mid (name_at names k) same) e.1)
ends_since before mid now names k host_error.Failed same e = (e.0, rose_since before mid now (name_at names k) same e.1)

module _ (names : List Name) where
  -- an output that wasn't created, once those in front of it were closed
  pub uncreated : (f0 f1 f2 : Option Files) (before mid now : List ℕ → ℕ) (n k : ℕ) (why : HostError) → AreApart names → k ≡ n → EndsOutputs before mid names k why → KeepsCountsBut mid now names n
      → KeepsAllBut f0 f1 names n → KeepsAllBut f1 f2 names n → IsUncreated f0 f2 (record { before = before; after = now }) names k why
  uncreated f0 f1 f2 before mid now n k why apart first e others made kept =
      let there : k < length names = ends_below before mid names k why e in record {
        counted = ends_still before mid now names k why e (kept_here mid now names n (name_at names k) others
            (λ i lt some same. (let below : i < length names = omega (arith, lt, first, there) in let equal = apart i k below there (subst (λ (m : Name). IsSome m) (sym same) some) same in omega (arith, equal, lt, first))));
        untouched = but_twice f0 f1 f2 names n k (omega (arith, first)) made kept;
      }

  -- the same with an end in other words
  pub creates_as : (created : List ℕ → Type 0) (IsEnd Is : ℕ → HostError → Type 0) (before after : Option Files) (outs : Counts) → ((k : ℕ) (why : HostError) → IsEnd k why → Is k why)
      → CreatesOutputs created before after outs names IsEnd → CreatesOutputs created before after outs names Is
  creates_as created IsEnd Is before after outs more h = elim h [
    | inl none ↦ inl none
    | inr some ↦ elim some [
      | inl all ↦ inr (inl all)
      | inr one ↦ inr (inr (one.0, one.1, one.2, more one.0 one.1 one.3))
    ]
  ]

  -- the same over a step in front that touches no output
  pub creates_since : (created : List ℕ → Type 0) (IsEnd : ℕ → HostError → Type 0) (f0 f1 f2 : Option Files) (before mid now : List ℕ → ℕ) → KeepsFiles f0 f1 → SameCounts before mid
      → CreatesOutputs created f1 f2 (record { before = mid; after = now }) names IsEnd → CreatesOutputs created f0 f2 (record { before = before; after = now }) names IsEnd
  creates_since created IsEnd f0 f1 f2 before mid now keeps same h = elim h [
    | inl none ↦ inl (files_on f0 f1 f2 keeps none.0, λ n. none.1 n ∙ same n)
    | inr more ↦ elim more [
      | inl all ↦ inr (inl all)
      | inr one ↦ inr (inr (
        one.0,
        one.1,
        record {
          counted = ends_since before mid now names one.0 one.1 same one.2.counted;
          untouched = but_since f0 f1 f2 names one.0 keeps one.2.untouched;
        },
        one.3,
      ))
    ]
  ]
