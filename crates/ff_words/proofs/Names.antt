-- Names of files that stand twice.
use Rattle.std.proofs.Common.{◌≡◌, ℕ, suc, ◌<◌, ◌+◌, Bool, true, false, ◌&&◌, ◌||◌, Some, None, List, ◌∷◌, ◌++◌, length, drop, get_or, refl, sym, ap, ◌∙◌, arith, drop-cons}
use Rattle.std.specs.Prelude.{if◌then◌else◌, option_to_list}
use Rattle.std.specs.List.{list_any}
use Rattle.std.specs.Str.{bytes_eq}
use Rattle.std.proofs.lemmas.List.Folds.{list_any-append}
use Rattle.ff_format.specs.Formats.{has_file}
use Rattle.ff_words.specs.declared.job.OutputJob.{OutputJob}
use Rattle.ff_words.specs.Words.{file_names, repeats}

abbrev pub among : List ℕ → List (List ℕ) → Bool
among name ns = list_any (λ m. bytes_eq m name) ns

abbrev stands : List ℕ → List OutputJob → List (List ℕ) → List (List ℕ) → Bool
stands name outs tr ins = (among name (file_names outs) || among name tr) || among name ins

one-step : (o : OutputJob) (filed : Bool) (outs : List OutputJob) (tr ins : List (List ℕ))
    → repeats ((option_to_list (if filed then Some o.name else None) ++ file_names outs) ++ tr) ins ≡ ((filed && stands o.name outs tr ins) || repeats (file_names outs ++ tr) ins)
one-step o true outs tr ins =
    ap (λ b. b || repeats (file_names outs ++ tr) ins)
    (list_any-append (λ m. bytes_eq m o.name) (file_names outs ++ tr) ins
    ∙ ap (λ b. b || among o.name ins) (list_any-append (λ m. bytes_eq m o.name) (file_names outs) tr))
one-step o false outs tr ins = refl

pub name-step : (outs : List OutputJob) (at : ℕ) (tr ins : List (List ℕ)) (o : OutputJob) → at < length outs → o ≡ get_or outs at o
    → repeats (file_names (drop at outs) ++ tr) ins ≡ ((has_file o.format && stands o.name (drop (at + 1) outs) tr ins) || repeats (file_names (drop (at + 1) outs) ++ tr) ins)
name-step outs at tr ins o lt is =
    let next : suc at ≡ at + 1 = omega arith in
    ap (λ t. repeats (file_names t ++ tr) ins) (drop-cons outs at o lt ∙ ap (λ x. x ∷ drop (suc at) outs) (sym is))
    ∙ (one-step o (has_file o.format) (drop (suc at) outs) tr ins
    ∙ ap (λ n. (has_file o.format && stands o.name (drop n outs) tr ins) || repeats (file_names (drop n outs) ++ tr) ins) next)

pub name-found : (outs : List OutputJob) (at : ℕ) (tr ins : List (List ℕ)) (o : OutputJob) → at < length outs → o ≡ get_or outs at o
    → (has_file o.format && stands o.name (drop (at + 1) outs) tr ins) ≡ true → repeats (file_names (drop at outs) ++ tr) ins ≡ true
name-found outs at tr ins o lt is h = name-step outs at tr ins o lt is ∙ ap (λ b. b || repeats (file_names (drop (at + 1) outs) ++ tr) ins) h

pub name-fresh : (all outs : List OutputJob) (at : ℕ) (tr ins : List (List ℕ)) (o : OutputJob) (answer : Bool) → outs ≡ all → at < length outs → o ≡ get_or outs at o
    → answer ≡ (has_file o.format && stands o.name (drop (at + 1) all) tr ins) → answer ≡ false
    → repeats (file_names (drop (at + 1) outs) ++ tr) ins ≡ repeats (file_names (drop at outs) ++ tr) ins
name-fresh all outs at tr ins o answer seen lt is told h =
    sym (name-step outs at tr ins o lt is
    ∙ ap (λ b. b || repeats (file_names (drop (at + 1) outs) ++ tr) ins)
    (ap (λ os. has_file o.format && stands o.name (drop (at + 1) os) tr ins) seen ∙ (sym told ∙ h)))
