-- The functions of times are the relations.
use Rattle.std.proofs.Common.{◌≡◌, ℕ, Bool, true, false, nat_le, cond, IsSomeAnd, IfSome, Option, Some, None, List, [], ◌∷◌, length, refl, sym, ap, ◌∙◌}
use Rattle.ff_time.specs.Duration.{IsDuration}
use Rattle.ff_time.specs.Reading.{Exact, first, letter_of, next_of, value_of, IsSound}
use Rattle.ff_time.proofs.Derivative.{le_true}
use Rattle.ff_time.proofs.Tails.{Rest}
use Rattle.ff_time.proofs.Steps.{Rest-next, Rest-back, le_out}
use Rattle.ff_time.proofs.Ends.{Rest-end, Rest-ended}
use Rattle.ff_time.proofs.Room.{IsSound-next}
use Rattle.ff_time.proofs.Grammar.{spelling_in, spelling_out}
use Rattle.ff_filters.specs.Texts.{on_some, read_on, duration_of}

end_in : (o : Option ℕ) (us : ℕ) → IsSomeAnd o (λ x. us ≡ x) → o ≡ Some us
end_in (Some x) us e = ap Some (sym e)
end_in None us h = absurd h

end_out : (o : Option ℕ) (us : ℕ) → o ≡ Some us → IsSomeAnd o (λ x. us ≡ x)
end_out (Some x) us e = cc
end_out None us e = cc

step_in : (text : List ℕ) (o : Option Exact) (us : ℕ) → ((s : Exact) → Rest s text us → on_some value_of (read_on text s) ≡ Some us)
    → IsSomeAnd o (λ s. Rest s text us) → on_some value_of (on_some (read_on text) o) ≡ Some us
step_in text (Some s) us on h = on s h
step_in text None us on h = absurd h

-- what may follow is read, to its value
read_in : (text : List ℕ) (r : Exact) (us : ℕ) → Rest r text us → on_some value_of (read_on text r) ≡ Some us
read_in [] r us h = end_in (value_of r) us (Rest-end r us h)
read_in (b ∷ bs) r us h = step_in bs (next_of r (letter_of b)) us (λ s k. read_in bs s us k) (Rest-next r b bs us h)

step_out : (text : List ℕ) (o : Option Exact) (us : ℕ) → ((s : Exact) → IsSound s → on_some value_of (read_on text s) ≡ Some us → Rest s text us)
    → IfSome o IsSound → on_some value_of (on_some (read_on text) o) ≡ Some us → IsSomeAnd o (λ s. Rest s text us)
step_out text (Some s) us on sound e = on s sound e
step_out text None us on sound e = cc

-- and what is read may follow
read_out : (text : List ℕ) (r : Exact) (us : ℕ) → IsSound r → on_some value_of (read_on text r) ≡ Some us → Rest r text us
read_out [] r us sound e = Rest-ended r us sound (end_out (value_of r) us e)
read_out (b ∷ bs) r us sound e = Rest-back r b bs us sound (step_out bs (next_of r (letter_of b)) us (λ s k f. read_out bs s us k f) (IsSound-next r b sound) e)

pub duration_in : (text : List ℕ) (us : ℕ) → IsDuration text us → duration_of text ≡ Some us
duration_in text us d =
    ap (λ (c : Bool). cond c (on_some value_of (read_on text (first 0 0))) None) (le_true (length text) 64 d.short)
    ∙ read_in text (first 0 0) us (spelling_in text us d.spelling)

short_out : (c : Bool) (o : Option ℕ) (us : ℕ) → cond c o None ≡ Some us → (c ≡ true) × (o ≡ Some us)
short_out true o us e = (refl, e)
short_out false o us e = cc

pub duration_out : (text : List ℕ) (us : ℕ) → duration_of text ≡ Some us → IsDuration text us
duration_out text us e =
    let k = short_out (nat_le (length text) 64) (on_some value_of (read_on text (first 0 0))) us e in
    record { short = le_out (length text) 64 k.0; spelling = spelling_out text us (read_out text (first 0 0) us tt k.1) }
