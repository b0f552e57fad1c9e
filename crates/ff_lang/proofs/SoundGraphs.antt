-- Each graph that a text stands for has sound names and no empty chain.
use Rattle.std.proofs.Common.{ℕ, ◌<◌, Option, Some, None, List, [], ◌∷◌, length, arith}
use Rattle.std.specs.List.{AllByRecursion}
use Rattle.ff_lang.specs.declared.graph.Arg.{Arg}
use Rattle.ff_lang.specs.declared.graph.Filter.{Filter}
use Rattle.ff_lang.specs.declared.graph.Chain.{Chain}
use Rattle.ff_lang.specs.declared.graph.Graph.{Graph}
use Rattle.ff_lang.specs.Grammar.{AreLabels, IsLabel, IsKeyed, IsArg, AreLed, IsSeries, AreArgs, IsFilter, IsChain, IsGraph}
use Rattle.ff_lang.specs.laws.Printing.{IsSoundKey, IsSoundFilter, IsSoundChain, IsSound}

labels_sound : (labels : List (List ℕ)) (text : List ℕ) → AreLabels text labels → AllByRecursion IsLabel labels
labels_sound [] text h = tt
labels_sound (label ∷ labels) text h = (h.4, labels_sound labels h.1 h.5)

key_sound : (key : Option (List ℕ)) (text value : List ℕ) → IsKeyed text key value → IsSoundKey key
key_sound None text value h = tt
key_sound (Some key) text value h = h.2

led_sound : {X : Type 0} (Is : List ℕ → X → Type 0) (P : X → Type 0) (separator : ℕ) → ((text : List ℕ) (x : X) → Is text x → P x) → (xs : List X) (text : List ℕ) → AreLed Is separator text xs → AllByRecursion P xs
led_sound Is P separator sound [] text h = tt
led_sound Is P separator sound (x ∷ xs) text h = (sound h.0 x h.3, led_sound Is P separator sound xs h.1 h.4)

series_sound : {X : Type 0} (Is : List ℕ → X → Type 0) (P : X → Type 0) (separator : ℕ) → ((text : List ℕ) (x : X) → Is text x → P x) → (xs : List X) (text : List ℕ) → IsSeries Is separator text xs → (0 < length xs) × AllByRecursion P xs
series_sound Is P separator sound [] text h = absurd h
series_sound Is P separator sound (x ∷ xs) text h = (omega arith, (sound h.0 x h.3, led_sound Is P separator sound xs h.1 h.4))

arg_sound : (text : List ℕ) (arg : Arg) → IsArg text arg → IsSoundKey arg.key
arg_sound text arg h = key_sound arg.key text arg.value h

args_sound : (args : List Arg) (text : List ℕ) → AreArgs text args → AllByRecursion (λ (arg : Arg). IsSoundKey arg.key) args
args_sound [] text h = tt
args_sound (arg ∷ args) text h = (series_sound IsArg (λ (x : Arg). IsSoundKey x.key) 58 arg_sound (arg ∷ args) h.1 h.4).1

filter_sound : (text : List ℕ) (f : Filter) → IsFilter text f → IsSoundFilter f
filter_sound text f h = record { ins = labels_sound f.ins h.front h.ins_are; name = h.name_is; args = args_sound f.args h.middle h.args_are; outs = labels_sound f.outs h.back h.outs_are }

chain_sound : (text : List ℕ) (c : Chain) → IsChain text c → IsSoundChain c
chain_sound text c h = let s : (0 < length c.filters) × AllByRecursion IsSoundFilter c.filters = series_sound IsFilter IsSoundFilter 44 filter_sound c.filters text h in record { some = s.0; each = s.1 }

pub graph_sound : (text : List ℕ) (g : Graph) → IsGraph text g → IsSound g
graph_sound text g h = let s : (0 < length g.chains) × AllByRecursion IsSoundChain g.chains = series_sound IsChain IsSoundChain 59 chain_sound g.chains text h in record { some = s.0; each = s.1 }
