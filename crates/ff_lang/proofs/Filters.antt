-- Whole filters, chains and graphs are read as they stand for.
use Rattle.std.proofs.Common.{◌≡◌, ℕ, ◌+◌, ◌≤◌, true, Option, Some, nat_lt, List, [], ◌∷◌, ◌++◌, length, refl, sym, ap, subst, ◌∙◌, append_assoc, length-append, arith}
use Rattle.std.proofs.lemmas.List.{append-nil}
use Rattle.std.specs.List.{AllByRecursion}
use Rattle.ff_lang.specs.Letters.{is_word_byte}
use Rattle.ff_lang.specs.laws.Reading.{empty_arg, empty_chain, before, with_filter, with_chain}
use Rattle.ff_lang.specs.declared.graph.Arg.{Arg}
use Rattle.ff_lang.specs.declared.graph.Filter.{Filter}
use Rattle.ff_lang.specs.declared.graph.Chain.{Chain}
use Rattle.ff_lang.specs.declared.graph.Graph.{Graph}
use Rattle.ff_lang.specs.declared.parser.Parser.{Parser}
use Rattle.ff_lang.specs.declared.parser.Place.TheVariants.{Name, Back}
use Rattle.ff_lang.specs.Grammar.{AreLed, IsSeries, IsWord, IsFilter, IsChain, IsGraph}
use Rattle.ff_lang.specs.laws.Reading.{start}
use Rattle.ff_lang.proofs.Bytes.{blank_44, blank_59, both_true, lt_true}
use Rattle.ff_lang.proofs.Runs.{reads, reads_byte, at}
use Rattle.ff_lang.proofs.Labels.{reads_labels, front_hub, front_at, in_label_at, back_hub, back_at, out_label_at}
use Rattle.ff_lang.proofs.Args.{Tail, reads_args}
use Rattle.ff_lang.proofs.Args.Tail.{last, next_filter, next_chain}

-- behind the name so far
abbrev name_at : Graph → Chain → List (List ℕ) → List Arg → List (List ℕ) → Arg → List ℕ → Parser
name_at g c ins args outs arg name = at Name g c (record { ins = ins; name = name; args = args; outs = outs }) arg []

reads_more : (g : Graph) (c : Chain) (ins : List (List ℕ)) (args : List Arg) (outs : List (List ℕ)) (arg : Arg) (w word y : List ℕ) → AllByRecursion (λ b. is_word_byte b ≡ true) word → length w + length word ≤ 64
    → reads (word ++ y) (name_at g c ins args outs arg w) ≡ reads y (name_at g c ins args outs arg (w ++ word))
reads_more g c ins args outs arg w [] y h short = ap (λ x. reads y (name_at g c ins args outs arg x)) (sym (append-nil w))
reads_more g c ins args outs arg w (b ∷ word) y h short =
    reads_byte b (word ++ y) (name_at g c ins args outs arg w) (name_at g c ins args outs arg (w ++ b ∷ [])) (simp (both_true (is_word_byte b) (nat_lt (length w) 64) h.0 (lt_true (length w) 64 (omega (arith, short)))) refl)
    ∙ (reads_more g c ins args outs arg (w ++ b ∷ []) word y h.1 (omega (arith, short, length-append w (b ∷ [])))
    ∙ ap (λ x. reads y (name_at g c ins args outs arg x)) (append_assoc w (b ∷ []) word))

reads_name : (g : Graph) (c : Chain) (ins : List (List ℕ)) (args : List Arg) (outs : List (List ℕ)) (arg : Arg) (old word y : List ℕ) → IsWord word
    → reads (word ++ y) (front_at g c old args outs arg ins) ≡ reads y (name_at g c ins args outs arg word)
reads_name g c ins args outs arg old [] y h = absurd (omega (arith, h.some))
reads_name g c ins args outs arg old (b ∷ word) y h =
    reads_byte b (word ++ y) (front_at g c old args outs arg ins) (name_at g c ins args outs arg (b ∷ [])) (simp h.each.0 refl)
    ∙ reads_more g c ins args outs arg (b ∷ []) word y h.each.1 (omega (arith, h.short))

pub reads_filter : (g : Graph) (c : Chain) (text : List ℕ) (f : Filter) (y : List ℕ) → IsFilter text f → Tail y → reads (text ++ y) (before g c) ≡ reads y (at Back g c f empty_arg [])
reads_filter g c text f y h tail =
    ap (λ t. reads t (before g c)) (ap (λ t. t ++ y) h.spelled ∙ (append_assoc h.front (f.name ++ (h.middle ++ h.back)) y ∙ ap (λ t. h.front ++ t) (append_assoc f.name (h.middle ++ h.back) y ∙ ap (λ t. f.name ++ t) (append_assoc h.middle h.back y))))
    ∙ (reads_labels (front_at g c [] [] [] empty_arg) (in_label_at g c [] [] [] empty_arg) (front_hub g c [] [] [] empty_arg) [] f.ins h.front (f.name ++ (h.middle ++ (h.back ++ y))) h.ins_are
    ∙ (reads_name g c f.ins [] [] empty_arg [] f.name (h.middle ++ (h.back ++ y)) h.name_is
    ∙ (reads_args g c (record { ins = f.ins; name = f.name; args = []; outs = [] }) f.args f.outs h.middle h.back y h.args_are h.tight h.outs_are tail
    ∙ reads_labels (back_at g c f.ins f.name f.args empty_arg) (out_label_at g c f.ins f.name f.args empty_arg) (back_hub g c f.ins f.name f.args empty_arg) [] f.outs h.back y h.outs_are)))

-- behind a whole chain: nothing, or `;` and another one
abbrev pub chain_end : List ℕ → Graph → Chain → Option Graph
chain_end [] g c = Some (with_chain g c)
chain_end (b ∷ rest) g c = reads rest (before (with_chain g c) empty_chain)

pub data ChainTail : List ℕ → Type 0 where
  end : ChainTail []
  more : (rest : List ℕ) → ChainTail (59 ∷ rest)

last_filter : (g : Graph) (c : Chain) (f : Filter) (y : List ℕ) → ChainTail y → reads y (at Back g c f empty_arg []) ≡ chain_end y g (with_filter c f)
last_filter g c f _ end = refl
last_filter g c f _ (more rest) = simp blank_59 refl

chain_tail : (y : List ℕ) → ChainTail y → Tail y
chain_tail _ end = last
chain_tail _ (more rest) = next_chain rest

led_tail : (fs : List Filter) (text y : List ℕ) → AreLed IsFilter 44 text fs → ChainTail y → Tail (text ++ y)
led_tail [] text y h tail = subst (λ t. Tail (t ++ y)) (sym h) (chain_tail y tail)
led_tail (f ∷ fs) text y h tail = subst (λ t. Tail (t ++ y)) (sym h.2) (next_filter ((h.0 ++ h.1) ++ y))

reads_filters : (g : Graph) (c : Chain) (f : Filter) (fs : List Filter) (text y : List ℕ) → AreLed IsFilter 44 text fs → ChainTail y
    → reads (text ++ y) (at Back g c f empty_arg []) ≡ chain_end y g (record { filters = c.filters ++ (f ∷ fs) })
reads_filters g c f [] text y h tail = ap (λ t. reads (t ++ y) (at Back g c f empty_arg [])) h ∙ last_filter g c f y tail
reads_filters g c f (next ∷ fs) text y h tail =
    ap (λ t. reads t (at Back g c f empty_arg [])) (ap (λ t. t ++ y) h.2 ∙ ap (λ t. 44 ∷ t) (append_assoc h.0 h.1 y))
    ∙ (reads_byte 44 (h.0 ++ (h.1 ++ y)) (at Back g c f empty_arg []) (before g (with_filter c f)) (simp blank_44 refl)
    ∙ (reads_filter g (with_filter c f) h.0 next (h.1 ++ y) h.3 (led_tail fs h.1 y h.4 tail)
    ∙ (reads_filters g (with_filter c f) next fs h.1 y h.4 tail
    ∙ ap (λ x. chain_end y g (record { filters = x })) (append_assoc c.filters (f ∷ []) (next ∷ fs)))))

reads_chain_at : (g : Graph) (fs : List Filter) (text y : List ℕ) → IsSeries IsFilter 44 text fs → ChainTail y
    → reads (text ++ y) (before g empty_chain) ≡ chain_end y g (record { filters = fs })
reads_chain_at g [] text y h tail = absurd h
reads_chain_at g (f ∷ fs) text y h tail =
    ap (λ t. reads t (before g empty_chain)) (ap (λ t. t ++ y) h.2 ∙ append_assoc h.0 h.1 y)
    ∙ (reads_filter g empty_chain h.0 f (h.1 ++ y) h.3 (led_tail fs h.1 y h.4 tail)
    ∙ reads_filters g empty_chain f fs h.1 y h.4 tail)

reads_chain : (g : Graph) (text : List ℕ) (c : Chain) (y : List ℕ) → IsChain text c → ChainTail y → reads (text ++ y) (before g empty_chain) ≡ chain_end y g c
reads_chain g text c y h tail = reads_chain_at g c.filters text y h tail

chains_tail : (cs : List Chain) (text : List ℕ) → AreLed IsChain 59 text cs → ChainTail text
chains_tail [] text h = subst ChainTail (sym h) end
chains_tail (c ∷ cs) text h = subst ChainTail (sym h.2) (more (h.0 ++ h.1))

reads_chains : (g : Graph) (c : Chain) (cs : List Chain) (text : List ℕ) → AreLed IsChain 59 text cs → chain_end text g c ≡ Some (record { chains = g.chains ++ (c ∷ cs) })
reads_chains g c [] text h = ap (λ t. chain_end t g c) h
reads_chains g c (next ∷ cs) text h =
    ap (λ t. chain_end t g c) h.2
    ∙ (reads_chain (with_chain g c) h.0 next h.1 h.3 (chains_tail cs h.1 h.4)
    ∙ (reads_chains (with_chain g c) next cs h.1 h.4
    ∙ ap (λ x. Some (record { chains = x })) (append_assoc g.chains (c ∷ []) (next ∷ cs))))

reads_series : (cs : List Chain) (text : List ℕ) → IsSeries IsChain 59 text cs → reads text start ≡ Some (record { chains = cs })
reads_series [] text h = absurd h
reads_series (c ∷ cs) text h =
    ap (λ t. reads t start) h.2
    ∙ (reads_chain (record { chains = [] }) h.0 c h.1 h.3 (chains_tail cs h.1 h.4)
    ∙ reads_chains (record { chains = [] }) c cs h.1 h.4)

-- a text that stands for a graph is read as it
pub reads_graph : (text : List ℕ) (graph : Graph) → IsGraph text graph → reads text start ≡ Some graph
reads_graph text graph h = reads_series graph.chains text h
