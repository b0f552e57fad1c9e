-- Bits begin with a coded number, or with a part of one, or with none.
use Rattle.std.proofs.Common.{◌≡◌, ℕ, Bool, List, [], ◌++◌, length, refl, sym, ap, subst, ◌∙◌, arith, append_assoc, length-append}
use Rattle.std.proofs.lemmas.List.{append-nil}
use Rattle.ff_bits.specs.Number.{IsPartOfCode, BeginsNoCode}
use Rattle.std.specs.Prelude.{Err, IsErrOf}
use Rattle.ff_bits.specs.laws.Reads.{IsNumber}
use Rattle.ff_bits.specs.declared.reader.BitEnd.{BitEnd}
use Rattle.ff_bits.specs.declared.reader.BitEnd.TheVariants.{Short, BadNumber}
use Rattle.ff_bits.specs.Reading.{Done}
use Rattle.ff_bits.specs.NumberGrammar.{Answers, coded}
use Rattle.ff_bits.proofs.NumberLemmas.{coded-forward}
use Rattle.std.specs.Prelude.{Ok, ◌↔◌}
use Rattle.ff_bits.proofs.NumberReads.{code_is_part, begins_no_code}

code_done : (bits rest : List Bool) (v : ℕ) → IsNumber bits v rest → coded bits ≡ Done v rest
code_done bits rest v h =
    let c = h.1 in
    ap coded (h.2 ∙ ap (λ (xs : List Bool). xs ++ rest) c.3) ∙ coded-forward c.0 v rest c.1 c.2

pub one_number : (bits rest other : List Bool) (v w : ℕ) → IsNumber bits v rest → IsNumber bits w other → (v ≡ w) × (rest ≡ other)
one_number bits rest other v w h k =
    let e : Done v rest ≡ Done w other = sym (code_done bits rest v h) ∙ code_done bits other w k in
    (cc, cc)

nothing_behind : (xs more : List Bool) → xs ++ more ≡ [] → length more ≡ 0
nothing_behind xs more e = omega (arith, ap length e, length-append xs more)

pub whole_number : (bits rest : List Bool) (v : ℕ) → IsNumber bits v rest → IsPartOfCode bits → ⊥
whole_number bits rest v h k =
    let more : List Bool = k.0 in
    let w : ℕ = k.1 in
    let longer : IsNumber (bits ++ more) v (rest ++ more) = (h.0, h.1, ap (λ (xs : List Bool). xs ++ more) h.2 ∙ append_assoc h.0 rest more) in
    let itself : IsNumber (bits ++ more) w [] = (bits ++ more, k.3, sym (append-nil (bits ++ more))) in
    let same = one_number (bits ++ more) (rest ++ more) [] v w longer itself in
    let none = nothing_behind rest more same.1 in
    let some = k.2 in
    omega arith

pub part_begins : (bits : List Bool) → IsPartOfCode bits → BeginsNoCode bits → ⊥
part_begins bits k h = h k.0 (bits ++ k.0) [] k.1 k.3 (sym (append-nil (bits ++ k.0)))

-- ---- each refusal exactly where it is due

pub short_exactly : (e : BitEnd) (now ahead rest : List Bool) → ahead ≡ now → Answers (Err e) (coded ahead) rest → IsErrOf {T = ℕ} (Err e) Short ↔ IsPartOfCode now
short_exactly Short now ahead rest e h = (λ k. subst IsPartOfCode e (code_is_part ahead h), λ p. refl)
short_exactly BadNumber now ahead rest e h = (λ k. absurd cc, λ p. absurd (part_begins now p (subst BeginsNoCode e (begins_no_code ahead h))))

pub bad_exactly : (e : BitEnd) (now ahead rest : List Bool) → ahead ≡ now → Answers (Err e) (coded ahead) rest → IsErrOf {T = ℕ} (Err e) BadNumber ↔ BeginsNoCode now
bad_exactly Short now ahead rest e h = (λ k. absurd cc, λ b. absurd (part_begins now (subst IsPartOfCode e (code_is_part ahead h)) b))
bad_exactly BadNumber now ahead rest e h = (λ k. subst BeginsNoCode e (begins_no_code ahead h), λ b. refl)

pub not_short : (now rest : List Bool) (v : ℕ) → IsNumber now v rest → IsErrOf {T = ℕ} {E = BitEnd} (Ok v) Short ↔ IsPartOfCode now
not_short now rest v h = (λ k. absurd cc, λ p. absurd (whole_number now rest v h p))

pub not_bad : (now rest : List Bool) (v : ℕ) → IsNumber now v rest → IsErrOf {T = ℕ} {E = BitEnd} (Ok v) BadNumber ↔ BeginsNoCode now
not_bad now rest v h = (λ k. absurd cc, λ b. absurd (b [] h.0 rest v h.1 (append-nil now ∙ h.2)))
