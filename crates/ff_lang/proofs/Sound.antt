-- Reading on by a byte keeps to what may follow, so what is read is in the grammar.
use Rattle.std.proofs.Common.{◌≡◌, ℕ, ◌<◌, Bool, true, false, ◌&&◌, cond, Option, Some, None, nat_lt, List, [], ◌∷◌, ◌++◌, length, refl, sym, ap, subst, ◌∙◌, append_assoc, length-append, arith}
use Rattle.std.specs.Prelude.{◌==◌}
use Rattle.std.proofs.lemmas.List.{append-nil}
use Rattle.ff_lang.specs.Letters.{is_word_byte, is_label_byte, is_blank, is_special}
use Rattle.ff_lang.specs.laws.Reading.{byte_next, empty_arg, empty_filter, empty_chain, with_filter, with_chain}
use Rattle.ff_lang.specs.declared.graph.Arg.{Arg}
use Rattle.ff_lang.specs.declared.graph.Filter.{Filter}
use Rattle.ff_lang.specs.declared.graph.Chain.{Chain}
use Rattle.ff_lang.specs.declared.graph.Graph.{Graph}
use Rattle.ff_lang.specs.declared.parser.Parser.{Parser}
use Rattle.ff_lang.specs.declared.parser.Place.{Place}
use Rattle.ff_lang.specs.declared.parser.Place.TheVariants.{Front, InLabel, Name, Named, Key, Value, Quoted, Escaped, OutLabel, Back}
use Rattle.ff_lang.specs.Grammar.{AreLed, IsFilter, IsChain, IsGraph}
use Rattle.ff_lang.specs.laws.Reading.{start, place_next, place_end, tail_next, value_next}
use Rattle.ff_lang.proofs.Bytes.{eq_out, eq_differs, both_out, lt_out}
use Rattle.ff_lang.proofs.Runs.{and_reads, reads, at}
use Rattle.ff_lang.proofs.Values.{all_snoc}
use Rattle.ff_lang.proofs.Rests.{Rest, OutLabelRest, HeadRest, NameRest, FrontRest, ValueRest, KeyFits}
use Rattle.ff_lang.proofs.Rests.{outs_end, outs_blank, outs_open, out_label_more, out_label_close, head_of_outs, head_blank, head_equals, name_of_head, name_more, front_word, front_blank, front_open, in_label_more, in_label_close}
use Rattle.ff_lang.proofs.ArgRests.{value_end, value_open, value_colon, value_plain, value_escape, value_quote, quoted_more, quoted_close, escaped_byte, key_more, key_equals, key_value, no_key_end, no_key_byte}

-- behind a filter that is the last of its chain so far: more filters, and more chains
pub record After (g0 : Graph) (c : Chain) (text : List ℕ) (g : Graph) : Type 0 where
  pub filters : List ℕ
  pub chains : List ℕ
  pub fs : List Filter
  pub cs : List Chain
  pub spelled : text ≡ filters ++ chains
  pub fs_are : AreLed IsFilter 44 filters fs
  pub cs_are : AreLed IsChain 59 chains cs
  pub graph_is : g ≡ record { chains = g0.chains ++ ((record { filters = c.filters ++ fs }) ∷ cs) }

-- what may follow in a reader
pub record Going (s : Parser) (text : List ℕ) (g : Graph) : Type 0 where
  pub here : List ℕ
  pub after : List ℕ
  pub filter : Filter
  pub spelled : text ≡ here ++ after
  pub rest : Rest s.place s.filter s.arg s.label here filter
  pub then : After s.graph (with_filter s.chain filter) after g

whole_filter : (text : List ℕ) (f : Filter) → FrontRest empty_filter text f → IsFilter text f
whole_filter text f h =
    let n : NameRest (record empty_filter { ins = h.labels; name = h.byte ∷ [] }) h.rest f = h.then in
    let name : List ℕ = h.byte ∷ n.more in
    let made : Filter = record { ins = h.labels; name = name; args = n.then.args; outs = n.then.labels } in
    let is : IsFilter text made = record {
      front = h.front;
      middle = n.then.middle;
      back = n.then.back;
      spelled = h.spelled ∙ ap (λ t. h.front ++ (h.byte ∷ t)) (n.spelled ∙ ap (λ t. n.more ++ t) n.then.spelled);
      ins_are = h.labels_are;
      name_is = record { some = omega arith; short = omega (arith, n.short (omega arith)); each = (h.word, n.each) };
      args_are = n.then.args_are;
      tight = n.then.tight;
      outs_are = n.then.labels_are;
    } in
    subst (IsFilter text) (sym n.then.filter_is) is

after_end : (g0 : Graph) (c : Chain) (g : Graph) → g ≡ with_chain g0 c → After g0 c [] g
after_end g0 c g e =
    record {
      filters = [];
      chains = [];
      fs = [];
      cs = [];
      spelled = refl;
      fs_are = refl;
      cs_are = refl;
      graph_is = e ∙ ap (λ x. record { chains = g0.chains ++ (record { filters = x }) ∷ [] }) (sym (append-nil c.filters));
    }

after_comma : (g0 : Graph) (c : Chain) (a : Arg) (l text : List ℕ) (g : Graph) → Going (at Front g0 c empty_filter a l) text g → After g0 c (44 ∷ text) g
after_comma g0 c a l text g h =
    record {
      filters = 44 ∷ (h.here ++ h.then.filters);
      chains = h.then.chains;
      fs = h.filter ∷ h.then.fs;
      cs = h.then.cs;
      spelled = ap (λ t. 44 ∷ t) (h.spelled ∙ (ap (λ t. h.here ++ t) h.then.spelled ∙ sym (append_assoc h.here h.then.filters h.then.chains)));
      fs_are = (h.here, h.then.filters, refl, whole_filter h.here h.filter h.rest, h.then.fs_are);
      cs_are = h.then.cs_are;
      graph_is = h.then.graph_is ∙ ap (λ x. record { chains = g0.chains ++ ((record { filters = x }) ∷ h.then.cs) }) (append_assoc c.filters (h.filter ∷ []) h.then.fs);
    }

whole_chain : (h_here filters : List ℕ) (f : Filter) (fs : List Filter) → FrontRest empty_filter h_here f → AreLed IsFilter 44 filters fs → IsChain (h_here ++ filters) (record { filters = f ∷ fs })
whole_chain here filters f fs is led = (here, filters, refl, whole_filter here f is, led)

after_semicolon : (g0 : Graph) (c : Chain) (a : Arg) (l text : List ℕ) (g : Graph) → Going (at Front (with_chain g0 c) empty_chain empty_filter a l) text g → After g0 c (59 ∷ text) g
after_semicolon g0 c a l text g h =
    record {
      filters = [];
      chains = 59 ∷ ((h.here ++ h.then.filters) ++ h.then.chains);
      fs = [];
      cs = (record { filters = h.filter ∷ h.then.fs }) ∷ h.then.cs;
      spelled = ap (λ t. 59 ∷ t) (h.spelled ∙ (ap (λ t. h.here ++ t) h.then.spelled ∙ sym (append_assoc h.here h.then.filters h.then.chains)));
      fs_are = refl;
      cs_are = (h.here ++ h.then.filters, h.then.chains, refl, whole_chain h.here h.then.filters h.filter h.then.fs h.rest h.then.fs_are, h.then.cs_are);
      graph_is = h.then.graph_is ∙ (ap (λ x. record { chains = x }) (append_assoc g0.chains (c ∷ []) ((record { filters = h.filter ∷ h.then.fs }) ∷ h.then.cs))
          ∙ ap (λ x. record { chains = g0.chains ++ ((record { filters = x }) ∷ ((record { filters = h.filter ∷ h.then.fs }) ∷ h.then.cs)) }) (sym (append-nil c.filters)));
    }

pub going_graph : (text : List ℕ) (g : Graph) → Going start text g → IsGraph text g
going_graph text g h =
    let made : Graph = record { chains = (record { filters = h.filter ∷ h.then.fs }) ∷ h.then.cs } in
    let is : IsGraph text made = (
      h.here ++ h.then.filters,
      h.then.chains,
      h.spelled ∙ (ap (λ t. h.here ++ t) h.then.spelled ∙ sym (append_assoc h.here h.then.filters h.then.chains)),
      whole_chain h.here h.then.filters h.filter h.then.fs h.rest h.then.fs_are,
      h.then.cs_are,
    ) in
    subst (IsGraph text) (sym h.then.graph_is) is

-- ---- one byte

abbrev pub OnStep : Option Parser → (Parser → Type 0) → Type 0
OnStep None P = Unit {0}
OnStep (Some s) P = P s

cond_on : (c : Bool) (x y : Option Parser) (P : Parser → Type 0) → (c ≡ true → OnStep x P) → (c ≡ false → OnStep y P) → OnStep (cond c x y) P
cond_on true x y P p q = p refl
cond_on false x y P p q = q refl

-- what follows behind the byte follows in front of it
abbrev Back_to : Parser → ℕ → List ℕ → Graph → Parser → Type 0
Back_to s b text g t = Going t text g → Going s (b ∷ text) g

within : (p q : Place) (g0 : Graph) (c : Chain) (f0 f1 : Filter) (a a1 : Arg) (l l1 : List ℕ) (b : ℕ) (text : List ℕ) (g : Graph)
    → ((here : List ℕ) (f : Filter) → Rest q f1 a1 l1 here f → Rest p f0 a l (b ∷ here) f) → Back_to (at p g0 c f0 a l) b text g (at q g0 c f1 a1 l1)
within p q g0 c f0 f1 a a1 l l1 b text g k h =
    record { here = b ∷ h.here; after = h.after; filter = h.filter; spelled = ap (λ t. b ∷ t) h.spelled; rest = k h.here h.filter h.rest; then = h.then }

behind : (p : Place) (g0 : Graph) (c : Chain) (f0 f1 : Filter) (a : Arg) (l text : List ℕ) (g : Graph) → Rest p f0 a l [] f1 → After g0 (with_filter c f1) text g → Going (at p g0 c f0 a l) text g
behind p g0 c f0 f1 a l text g end then = record { here = []; after = text; filter = f1; spelled = refl; rest = end; then = then }

tail_step : (p q : Place) (g0 : Graph) (c : Chain) (f0 f1 : Filter) (a a1 : Arg) (l : List ℕ) (b : ℕ) (text : List ℕ) (g : Graph)
    → Rest p f0 a l [] f1 → ((here : List ℕ) (f : Filter) → OutLabelRest f1 [] here f → Rest p f0 a l (91 ∷ here) f)
    → OnStep (tail_next (at q g0 c f1 a1 l) b) (Back_to (at p g0 c f0 a l) b text g)
tail_step p q g0 c f0 f1 a a1 l b text g end opens =
    cond_on (b == 91) _ _ (Back_to (at p g0 c f0 a l) b text g)
    (λ e. subst (λ x. Back_to (at p g0 c f0 a l) x text g (at OutLabel g0 c f1 a1 [])) (sym (eq_out b 91 e)) (within p OutLabel g0 c f0 f1 a a1 l [] 91 text g opens))
    (λ _. cond_on (b == 44) _ _ (Back_to (at p g0 c f0 a l) b text g)
    (λ e h. behind p g0 c f0 f1 a l (b ∷ text) g end (subst (λ x. After g0 (with_filter c f1) (x ∷ text) g) (sym (eq_out b 44 e)) (after_comma g0 (with_filter c f1) a1 l text g h)))
    (λ _. cond_on (b == 59) _ _ (Back_to (at p g0 c f0 a l) b text g)
    (λ e h. behind p g0 c f0 f1 a l (b ∷ text) g end (subst (λ x. After g0 (with_filter c f1) (x ∷ text) g) (sym (eq_out b 59 e)) (after_semicolon g0 (with_filter c f1) a1 l text g h)))
    (λ _. tt)))

abbrev Step : Place → Type 0
Step p = (g0 : Graph) (c : Chain) (f0 : Filter) (a : Arg) (l : List ℕ) (b : ℕ) (text : List ℕ) (g : Graph) → OnStep (place_next p (at p g0 c f0 a l) b (b ∷ [])) (Back_to (at p g0 c f0 a l) b text g)

front_step : Step Front
front_step g0 c f0 a l b text g =
    cond_on (is_word_byte b) _ _ (Back_to (at Front g0 c f0 a l) b text g)
    (λ e. within Front Name g0 c f0 (record f0 { name = b ∷ [] }) a a l l b text g (λ here f. front_word f0 b here f e))
    (λ _. cond_on (is_blank b) _ _ (Back_to (at Front g0 c f0 a l) b text g)
    (λ e. within Front Front g0 c f0 f0 a a l l b text g (λ here f. front_blank f0 b here f e))
    (λ _. cond_on (b == 91) _ _ (Back_to (at Front g0 c f0 a l) b text g)
    (λ e. subst (λ x. Back_to (at Front g0 c f0 a l) x text g (at InLabel g0 c f0 a [])) (sym (eq_out b 91 e)) (within Front InLabel g0 c f0 f0 a a l [] 91 text g (λ here f. front_open f0 here f)))
    (λ _. tt)))

in_label_step : Step InLabel
in_label_step g0 c f0 a l b text g =
    cond_on (is_label_byte b && nat_lt (length l) 64) _ _ (Back_to (at InLabel g0 c f0 a l) b text g)
    (λ e. within InLabel InLabel g0 c f0 f0 a a l (l ++ b ∷ []) b text g (λ here f. in_label_more f0 l b here f (both_out (is_label_byte b) (nat_lt (length l) 64) e).0 (lt_out (length l) 64 (both_out (is_label_byte b) (nat_lt (length l) 64) e).1)))
    (λ _. cond_on ((b == 93) && nat_lt 0 (length l)) _ _ (Back_to (at InLabel g0 c f0 a l) b text g)
    (λ e. subst (λ x. Back_to (at InLabel g0 c f0 a l) x text g (at Front g0 c (record f0 { ins = f0.ins ++ l ∷ [] }) a [])) (sym (eq_out b 93 (both_out (b == 93) (nat_lt 0 (length l)) e).0))
    (within InLabel Front g0 c f0 (record f0 { ins = f0.ins ++ l ∷ [] }) a a l [] 93 text g (λ here f. in_label_close f0 l here f (lt_out 0 (length l) (both_out (b == 93) (nat_lt 0 (length l)) e).1))))
    (λ _. tt))

out_label_step : Step OutLabel
out_label_step g0 c f0 a l b text g =
    cond_on (is_label_byte b && nat_lt (length l) 64) _ _ (Back_to (at OutLabel g0 c f0 a l) b text g)
    (λ e. within OutLabel OutLabel g0 c f0 f0 a a l (l ++ b ∷ []) b text g (λ here f. out_label_more f0 l b here f (both_out (is_label_byte b) (nat_lt (length l) 64) e).0 (lt_out (length l) 64 (both_out (is_label_byte b) (nat_lt (length l) 64) e).1)))
    (λ _. cond_on ((b == 93) && nat_lt 0 (length l)) _ _ (Back_to (at OutLabel g0 c f0 a l) b text g)
    (λ e. subst (λ x. Back_to (at OutLabel g0 c f0 a l) x text g (at Back g0 c (record f0 { outs = f0.outs ++ l ∷ [] }) a [])) (sym (eq_out b 93 (both_out (b == 93) (nat_lt 0 (length l)) e).0))
    (within OutLabel Back g0 c f0 (record f0 { outs = f0.outs ++ l ∷ [] }) a a l [] 93 text g (λ here f. out_label_close f0 l here f (lt_out 0 (length l) (both_out (b == 93) (nat_lt 0 (length l)) e).1))))
    (λ _. tt))

back_step : Step Back
back_step g0 c f0 a l b text g =
    cond_on (is_blank b) _ _ (Back_to (at Back g0 c f0 a l) b text g)
    (λ e. within Back Back g0 c f0 f0 a a l l b text g (λ here f. outs_blank f0 b here f e))
    (λ _. tail_step Back Back g0 c f0 f0 a a l b text g (outs_end f0) (λ here f. outs_open f0 here f))

head_end : (f0 : Filter) → HeadRest f0 [] f0
head_end f0 = head_of_outs f0 [] f0 (outs_end f0)

head_open : (f0 : Filter) (here : List ℕ) (f : Filter) → OutLabelRest f0 [] here f → HeadRest f0 (91 ∷ here) f
head_open f0 here f h = head_of_outs f0 (91 ∷ here) f (outs_open f0 here f h)

named_step : Step Named
named_step g0 c f0 a l b text g =
    cond_on (is_blank b) _ _ (Back_to (at Named g0 c f0 a l) b text g)
    (λ e. within Named Named g0 c f0 f0 a a l l b text g (λ here f. head_blank f0 b here f e))
    (λ _. cond_on (b == 61) _ _ (Back_to (at Named g0 c f0 a l) b text g)
    (λ e. subst (λ x. Back_to (at Named g0 c f0 a l) x text g (at Key g0 c f0 empty_arg l)) (sym (eq_out b 61 e)) (within Named Key g0 c f0 f0 a empty_arg l l 61 text g (λ here f. head_equals f0 here f)))
    (λ _. tail_step Named Named g0 c f0 f0 a a l b text g (head_end f0) (head_open f0)))

name_step : Step Name
name_step g0 c f0 a l b text g =
    cond_on (is_word_byte b && nat_lt (length f0.name) 64) _ _ (Back_to (at Name g0 c f0 a l) b text g)
    (λ e. within Name Name g0 c f0 (record f0 { name = f0.name ++ b ∷ [] }) a a l l b text g (λ here f. name_more f0 b here f (both_out (is_word_byte b) (nat_lt (length f0.name) 64) e).0 (lt_out (length f0.name) 64 (both_out (is_word_byte b) (nat_lt (length f0.name) 64) e).1)))
    (λ _. cond_on (is_blank b) _ _ (Back_to (at Name g0 c f0 a l) b text g)
    (λ e. within Name Named g0 c f0 f0 a a l l b text g (λ here f h. name_of_head f0 (b ∷ here) f (head_blank f0 b here f e h)))
    (λ _. cond_on (b == 61) _ _ (Back_to (at Name g0 c f0 a l) b text g)
    (λ e. subst (λ x. Back_to (at Name g0 c f0 a l) x text g (at Key g0 c f0 empty_arg l)) (sym (eq_out b 61 e)) (within Name Key g0 c f0 f0 a empty_arg l l 61 text g (λ here f h. name_of_head f0 (61 ∷ here) f (head_equals f0 here f h))))
    (λ _. tail_step Name Name g0 c f0 f0 a a l b text g (name_of_head f0 [] f0 (head_end f0)) (λ here f h. name_of_head f0 (91 ∷ here) f (head_open f0 here f h)))))

value_tail : (p : Place) (g0 : Graph) (c : Chain) (f0 : Filter) (a : Arg) (l : List ℕ) (b : ℕ) (text : List ℕ) (g : Graph)
    → ((here : List ℕ) (f : Filter) → ValueRest f0 a (b ∷ here) f → Rest p f0 a l (b ∷ here) f) → ((f : Filter) → ValueRest f0 a [] f → Rest p f0 a l [] f)
    → OnStep (tail_next (at p g0 c (record f0 { args = f0.args ++ a ∷ [] }) empty_arg l) b) (Back_to (at p g0 c f0 a l) b text g)
value_tail p g0 c f0 a l b text g into end =
    let f1 : Filter = record f0 { args = f0.args ++ a ∷ [] } in
    let last : Rest p f0 a l [] f1 = end f1 (value_end f0 a) in
    cond_on (b == 91) _ _ (Back_to (at p g0 c f0 a l) b text g)
    (λ e. within p OutLabel g0 c f0 f1 a empty_arg l [] b text g (λ here f h. into here f (subst (λ x. ValueRest f0 a (x ∷ here) f) (sym (eq_out b 91 e)) (value_open f0 a here f h))))
    (λ _. cond_on (b == 44) _ _ (Back_to (at p g0 c f0 a l) b text g)
    (λ e h. behind p g0 c f0 f1 a l (b ∷ text) g last (subst (λ x. After g0 (with_filter c f1) (x ∷ text) g) (sym (eq_out b 44 e)) (after_comma g0 (with_filter c f1) empty_arg l text g h)))
    (λ _. cond_on (b == 59) _ _ (Back_to (at p g0 c f0 a l) b text g)
    (λ e h. behind p g0 c f0 f1 a l (b ∷ text) g last (subst (λ x. After g0 (with_filter c f1) (x ∷ text) g) (sym (eq_out b 59 e)) (after_semicolon g0 (with_filter c f1) empty_arg l text g h)))
    (λ _. tt)))

-- a value's byte, in a place that takes what a value takes
value_like : (p : Place) (g0 : Graph) (c : Chain) (f0 : Filter) (a : Arg) (l : List ℕ) (b : ℕ) (text : List ℕ) (g : Graph)
    → ((here : List ℕ) (f : Filter) → ValueRest f0 a (b ∷ here) f → Rest p f0 a l (b ∷ here) f) → ((f : Filter) → ValueRest f0 a [] f → Rest p f0 a l [] f)
    → OnStep (value_next (at p g0 c f0 a l) b (b ∷ [])) (Back_to (at p g0 c f0 a l) b text g)
value_like p g0 c f0 a l b text g into end =
    let f1 : Filter = record f0 { args = f0.args ++ a ∷ [] } in
    cond_on (is_special b) _ _ (Back_to (at p g0 c f0 a l) b text g)
    (λ _. cond_on (b == 39) _ _ (Back_to (at p g0 c f0 a l) b text g)
    (λ e. within p Quoted g0 c f0 f0 a a l l b text g (λ here f h. into here f (subst (λ x. ValueRest f0 a (x ∷ here) f) (sym (eq_out b 39 e)) (value_quote f0 a here f h))))
    (λ _. cond_on (b == 92) _ _ (Back_to (at p g0 c f0 a l) b text g)
    (λ e. within p Escaped g0 c f0 f0 a a l l b text g (λ here f h. into here f (subst (λ x. ValueRest f0 a (x ∷ here) f) (sym (eq_out b 92 e)) (value_escape f0 a here f h))))
    (λ _. cond_on (b == 58) _ _ (Back_to (at p g0 c f0 a l) b text g)
    (λ e. within p Key g0 c f0 f1 a empty_arg l l b text g (λ here f h. into here f (subst (λ x. ValueRest f0 a (x ∷ here) f) (sym (eq_out b 58 e)) (value_colon f0 a here f h))))
    (λ _. value_tail p g0 c f0 a l b text g into end))))
    (λ e. within p Value g0 c f0 f0 a (record a { value = a.value ++ b ∷ [] }) l l b text g (λ here f h. into here f (value_plain f0 a b here f e h)))

value_step : Step Value
value_step g0 c f0 a l b text g = value_like Value g0 c f0 a l b text g (λ here f h. h) (λ f h. h)

quoted_step : Step Quoted
quoted_step g0 c f0 a l b text g =
    cond_on (b == 39) _ _ (Back_to (at Quoted g0 c f0 a l) b text g)
    (λ e. subst (λ x. Back_to (at Quoted g0 c f0 a l) x text g (at Value g0 c f0 a l)) (sym (eq_out b 39 e)) (within Quoted Value g0 c f0 f0 a a l l 39 text g (λ here f. quoted_close f0 a here f)))
    (λ e. within Quoted Quoted g0 c f0 f0 a (record a { value = a.value ++ b ∷ [] }) l l b text g (λ here f. quoted_more f0 a b here f (eq_differs b 39 e)))

escaped_step : Step Escaped
escaped_step g0 c f0 a l b text g = within Escaped Value g0 c f0 f0 a (record a { value = a.value ++ b ∷ [] }) l l b text g (λ here f. escaped_byte f0 a b here f)

fits_more : (a : Arg) (b : ℕ) → is_word_byte b ≡ true → length a.value < 64 → KeyFits a → KeyFits (record a { value = a.value ++ b ∷ [] })
fits_more a b e lt fits = record { none = fits.none; each = all_snoc (λ x. is_word_byte x ≡ true) a.value b fits.each e; short = omega (arith, lt, length-append a.value (b ∷ [])) }

key_step : Step Key
key_step g0 c f0 a l b text g =
    cond_on (is_word_byte b && nat_lt (length a.value) 64) _ _ (Back_to (at Key g0 c f0 a l) b text g)
    (λ e. within Key Key g0 c f0 f0 a (record a { value = a.value ++ b ∷ [] }) l l b text g
    (λ here f. key_more f0 a b here f (fits_more a b (both_out (is_word_byte b) (nat_lt (length a.value) 64) e).0 (lt_out (length a.value) 64 (both_out (is_word_byte b) (nat_lt (length a.value) 64) e).1))))
    (λ e. cond_on ((b == 61) && nat_lt 0 (length a.value)) _ _ (Back_to (at Key g0 c f0 a l) b text g)
    (λ d. subst (λ x. Back_to (at Key g0 c f0 a l) x text g (at Value g0 c f0 (record { key = Some a.value; value = [] }) l)) (sym (eq_out b 61 (both_out (b == 61) (nat_lt 0 (length a.value)) d).0))
    (within Key Value g0 c f0 f0 a (record { key = Some a.value; value = [] }) l l 61 text g (λ here f. key_equals f0 a here f (lt_out 0 (length a.value) (both_out (b == 61) (nat_lt 0 (length a.value)) d).1))))
    (λ d. value_like Key g0 c f0 a l b text g
    (λ here f h fits. key_value f0 a (b ∷ here) f (λ front rest spelled. no_key_byte a.value front rest here b fits.each e d spelled) h fits)
    (λ f h fits. key_value f0 a [] f (λ front rest spelled. no_key_end a.value front rest fits.each spelled) h fits)))

any_step : (p : Place) → Step p
any_step Front = front_step
any_step InLabel = in_label_step
any_step Name = name_step
any_step Named = named_step
any_step Key = key_step
any_step Value = value_step
any_step Quoted = quoted_step
any_step Escaped = escaped_step
any_step OutLabel = out_label_step
any_step Back = back_step

-- ---- the end

graph_same : (g h : Graph) → Some h ≡ Some g → g ≡ h
graph_same g h e = cc

ends_at : (p : Place) (g0 : Graph) (c : Chain) (f0 : Filter) (a : Arg) (l : List ℕ) (g : Graph) → place_end p (at p g0 c f0 a l) ≡ Some g → Going (at p g0 c f0 a l) [] g
ends_at Front g0 c f0 a l g e = cc
ends_at InLabel g0 c f0 a l g e = cc
ends_at Name g0 c f0 a l g e = behind Name g0 c f0 f0 a l [] g (name_of_head f0 [] f0 (head_end f0)) (after_end g0 (with_filter c f0) g (graph_same g _ e))
ends_at Named g0 c f0 a l g e = behind Named g0 c f0 f0 a l [] g (head_end f0) (after_end g0 (with_filter c f0) g (graph_same g _ e))
ends_at Key g0 c f0 a l g e =
    let f1 : Filter = record f0 { args = f0.args ++ a ∷ [] } in
    behind Key g0 c f0 f1 a l [] g (λ fits. key_value f0 a [] f1 (λ front rest spelled. no_key_end a.value front rest fits.each spelled) (value_end f0 a) fits) (after_end g0 (with_filter c f1) g (graph_same g _ e))
ends_at Value g0 c f0 a l g e =
    let f1 : Filter = record f0 { args = f0.args ++ a ∷ [] } in
    behind Value g0 c f0 f1 a l [] g (value_end f0 a) (after_end g0 (with_filter c f1) g (graph_same g _ e))
ends_at Quoted g0 c f0 a l g e = cc
ends_at Escaped g0 c f0 a l g e = cc
ends_at OutLabel g0 c f0 a l g e = cc
ends_at Back g0 c f0 a l g e = behind Back g0 c f0 f0 a l [] g (outs_end f0) (after_end g0 (with_filter c f0) g (graph_same g _ e))

going : (text : List ℕ) (s : Parser) (g : Graph) → reads text s ≡ Some g → Going s text g
going [] s g e = ends_at s.place s.graph s.chain s.filter s.arg s.label g e
going (b ∷ text) s g e =
    elim (byte_next s b) as (λ o. OnStep o (Back_to s b text g) → and_reads o (λ t. reads text t) ≡ Some g → Going s (b ∷ text) g) [
      | None ↦ λ p h. cc
      | Some t ↦ λ p h. p (going text t g h)
    ] (any_step s.place s.graph s.chain s.filter s.arg s.label b text g) e

-- what is read is in the grammar and stands for the graph
pub read_is_graph : (text : List ℕ) (g : Graph) → reads text start ≡ Some g → IsGraph text g
read_is_graph text g e = going_graph text g (going text start g e)
