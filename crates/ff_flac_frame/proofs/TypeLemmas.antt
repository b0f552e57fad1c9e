-- The subframe types, code by code.
use Rattle.std.proofs.Common.{◌≡◌, ℕ, ◌+◌, ◌-◌, ◌<◌, Bool, true, false, not, ◌&&◌, ◌||◌, eqb, Option, Some, None, if◌then◌else◌, refl, sym, ap, ◌∙◌}
use Rattle.std.specs.Prelude.{nat_lt, nat_le}
use Rattle.std.proofs.lemmas.Bool.{agree_below_at, and_parts, eqb-true}
use Rattle.ff_flac_frame.specs.declared.subframe.SubKind.{SubKind}
use Rattle.ff_flac_frame.specs.declared.subframe.SubKind.TheVariants.{Constant, Verbatim, Fixed, Lpc}
use Rattle.ff_flac_frame.specs.Codes.{kind_of, order_of, kind_fits}
use Rattle.ff_flac_frame.specs.laws.Types.{Row, table, row_of, IsTypeBy, IsType}

number_of : SubKind → ℕ
number_of Constant = 0
number_of Verbatim = 1
number_of Fixed = 2
number_of Lpc = 3

kind_at : ℕ → SubKind
kind_at n = if eqb n 0 then Constant else (if eqb n 1 then Verbatim else (if eqb n 2 then Fixed else Lpc))

kind_back : (k : SubKind) → kind_at (number_of k) ≡ k
unfolding kind_at number_of
kind_back Constant = refl
kind_back Verbatim = refl
kind_back Fixed = refl
kind_back Lpc = refl

same_kind : (k l : SubKind) → number_of k ≡ number_of l → k ≡ l
same_kind k l e = sym (kind_back k) ∙ (ap kind_at e ∙ kind_back l)

-- a code that isn't reserved
abbrev listed : ℕ → Bool
listed code = nat_lt code 2 || ((nat_lt 7 code && nat_lt code 13) || nat_lt 31 code)

abbrev test_by : Option Row → ℕ → Bool
test_by None code = not (listed code)
test_by (Some r) code = eqb (number_of (kind_of code)) (number_of r.kind) && (eqb (order_of code) (r.order + (code - r.first)) && listed code)

test : ℕ → Bool
test code = test_by (row_of table code) code

tested : (code : ℕ) → code < 64 → test code ≡ true
unfolding test number_of kind_of order_of
tested code lt = agree_below_at test (λ _. true) 64 code refl lt

not_listed : (block code : ℕ) → not (listed code) ≡ true → kind_fits block code ≡ false
unfolding kind_fits
not_listed block code e = by_bool (listed code) e
  where
    by_bool : (b : Bool) → not b ≡ true → (b && nat_le (order_of code) block) ≡ false
    by_bool true h = cc
    by_bool false h = refl

is_listed : (block code : ℕ) → listed code ≡ true → kind_fits block code ≡ nat_le (order_of code) block
unfolding kind_fits
is_listed block code e = ap (λ b. b && nat_le (order_of code) block) e

type_by : (o : Option Row) (block code : ℕ) → test_by o code ≡ true → IsTypeBy o block code
type_by None block code e = not_listed block code e
type_by (Some r) block code e =
    let a = and_parts (eqb (number_of (kind_of code)) (number_of r.kind)) (eqb (order_of code) (r.order + (code - r.first)) && listed code) e in
    let b = and_parts (eqb (order_of code) (r.order + (code - r.first))) (listed code) a.1 in
    (same_kind (kind_of code) r.kind (eqb-true _ _ a.0), eqb-true _ _ b.0, is_listed block code b.1)

pub types : (block code : ℕ) → code < 64 → IsType block code
unfolding test
types block code lt = type_by (row_of table code) block code (tested code lt)
