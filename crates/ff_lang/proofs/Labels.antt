-- Labels are read as they stand, before a name and behind it.
use Rattle.std.proofs.Common.{◌≡◌, ℕ, ◌+◌, ◌<◌, ◌≤◌, true, Some, nat_lt, List, [], ◌∷◌, ◌++◌, length, refl, sym, ap, ◌∙◌, append_assoc, length-append, arith}
use Rattle.std.proofs.lemmas.List.{append-nil}
use Rattle.std.specs.List.{AllByRecursion}
use Rattle.ff_lang.specs.Letters.{is_label_byte, is_blank}
use Rattle.ff_lang.specs.Grammar.{AreLabels}
use Rattle.ff_lang.specs.laws.Reading.{byte_next}
use Rattle.ff_lang.specs.declared.graph.Arg.{Arg}
use Rattle.ff_lang.specs.declared.graph.Chain.{Chain}
use Rattle.ff_lang.specs.declared.graph.Graph.{Graph}
use Rattle.ff_lang.specs.declared.parser.Parser.{Parser}
use Rattle.ff_lang.specs.declared.parser.Place.TheVariants.{Front, InLabel, OutLabel, Back}
use Rattle.ff_lang.proofs.Bytes.{word_91, blank_91, label_93, word_blank, both_true, lt_true}
use Rattle.ff_lang.proofs.Runs.{reads, reads_byte, blanks_stay, at}

-- between labels, and in one
pub record Hub (between : List (List ℕ) → Parser) (inside : List (List ℕ) → List ℕ → Parser) : Type 0 where
  pub blank : (ls : List (List ℕ)) (b : ℕ) → is_blank b ≡ true → byte_next (between ls) b ≡ Some (between ls)
  pub opens : (ls : List (List ℕ)) → byte_next (between ls) 91 ≡ Some (inside ls [])
  pub more : (ls : List (List ℕ)) (l : List ℕ) (b : ℕ) → is_label_byte b ≡ true → length l < 64 → byte_next (inside ls l) b ≡ Some (inside ls (l ++ b ∷ []))
  pub closes : (ls : List (List ℕ)) (l : List ℕ) → 0 < length l → byte_next (inside ls l) 93 ≡ Some (between (ls ++ l ∷ []))

reads_label : (between : List (List ℕ) → Parser) (inside : List (List ℕ) → List ℕ → Parser) → Hub between inside
    → (ls : List (List ℕ)) (l label y : List ℕ) → AllByRecursion (λ b. is_label_byte b ≡ true) label → 0 < length l + length label → length l + length label ≤ 64
    → reads (label ++ (93 ∷ y)) (inside ls l) ≡ reads y (between (ls ++ (l ++ label) ∷ []))
reads_label between inside hub ls l [] y each some short =
    reads_byte 93 y (inside ls l) (between (ls ++ l ∷ [])) (hub.closes ls l (omega (arith, some)))
    ∙ ap (λ x. reads y (between (ls ++ x ∷ []))) (sym (append-nil l))
reads_label between inside hub ls l (b ∷ label) y each some short =
    reads_byte b (label ++ (93 ∷ y)) (inside ls l) (inside ls (l ++ b ∷ [])) (hub.more ls l b each.0 (omega (arith, short)))
    ∙ (reads_label between inside hub ls (l ++ b ∷ []) label y each.1 (omega (arith, length-append l (b ∷ []))) (omega (arith, short, length-append l (b ∷ [])))
    ∙ ap (λ x. reads y (between (ls ++ x ∷ []))) (append_assoc l (b ∷ []) label))

pub reads_labels : (between : List (List ℕ) → Parser) (inside : List (List ℕ) → List ℕ → Parser) → Hub between inside
    → (ls labels : List (List ℕ)) (text y : List ℕ) → AreLabels text labels → reads (text ++ y) (between ls) ≡ reads y (between (ls ++ labels))
reads_labels between inside hub ls [] text y h =
    blanks_stay (between ls) (hub.blank ls) text y h ∙ ap (λ x. reads y (between x)) (sym (append-nil ls))
reads_labels between inside hub ls (label ∷ labels) text y h =
    let blanks : List ℕ = h.0 in
    let rest : List ℕ = h.1 in
    ap (λ t. reads t (between ls)) (ap (λ t. t ++ y) h.2 ∙ append_assoc blanks (91 ∷ (label ++ (93 ∷ rest))) y)
    ∙ (blanks_stay (between ls) (hub.blank ls) blanks (91 ∷ ((label ++ (93 ∷ rest)) ++ y)) h.3
    ∙ (reads_byte 91 ((label ++ (93 ∷ rest)) ++ y) (between ls) (inside ls []) (hub.opens ls)
    ∙ (ap (λ t. reads t (inside ls [])) (append_assoc label (93 ∷ rest) y)
    ∙ (reads_label between inside hub ls [] label (rest ++ y) h.4.each (omega (arith, h.4.some)) (omega (arith, h.4.short))
    ∙ (reads_labels between inside hub (ls ++ label ∷ []) labels rest y h.5
    ∙ ap (λ x. reads y (between x)) (append_assoc ls (label ∷ []) labels))))))

abbrev pub front_at : Graph → Chain → List ℕ → List Arg → List (List ℕ) → Arg → List (List ℕ) → Parser
front_at graph chain name args outs arg ls = at Front graph chain (record { ins = ls; name = name; args = args; outs = outs }) arg []

abbrev pub in_label_at : Graph → Chain → List ℕ → List Arg → List (List ℕ) → Arg → List (List ℕ) → List ℕ → Parser
in_label_at graph chain name args outs arg ls l = at InLabel graph chain (record { ins = ls; name = name; args = args; outs = outs }) arg l

pub front_hub : (graph : Graph) (chain : Chain) (name : List ℕ) (args : List Arg) (outs : List (List ℕ)) (arg : Arg) → Hub (front_at graph chain name args outs arg) (in_label_at graph chain name args outs arg)
front_hub graph chain name args outs arg =
    record {
      blank = λ ls b h. simp (word_blank b h, h) refl;
      opens = λ ls. simp (word_91, blank_91) refl;
      more = λ ls l b h k. simp (both_true (is_label_byte b) (nat_lt (length l) 64) h (lt_true (length l) 64 k)) refl;
      closes = λ ls l k. simp (label_93, lt_true 0 (length l) k) refl;
    }

abbrev pub back_at : Graph → Chain → List (List ℕ) → List ℕ → List Arg → Arg → List (List ℕ) → Parser
back_at graph chain ins name args arg ls = at Back graph chain (record { ins = ins; name = name; args = args; outs = ls }) arg []

abbrev pub out_label_at : Graph → Chain → List (List ℕ) → List ℕ → List Arg → Arg → List (List ℕ) → List ℕ → Parser
out_label_at graph chain ins name args arg ls l = at OutLabel graph chain (record { ins = ins; name = name; args = args; outs = ls }) arg l

pub back_hub : (graph : Graph) (chain : Chain) (ins : List (List ℕ)) (name : List ℕ) (args : List Arg) (arg : Arg) → Hub (back_at graph chain ins name args arg) (out_label_at graph chain ins name args arg)
back_hub graph chain ins name args arg =
    record {
      blank = λ ls b h. simp h refl;
      opens = λ ls. simp blank_91 refl;
      more = λ ls l b h k. simp (both_true (is_label_byte b) (nat_lt (length l) 64) h (lt_true (length l) 64 k)) refl;
      closes = λ ls l k. simp (label_93, lt_true 0 (length l) k) refl;
    }
