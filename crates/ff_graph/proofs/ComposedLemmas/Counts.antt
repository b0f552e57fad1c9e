-- How many output pads a filter has, as its arguments and its labels say.
use Rattle.std.proofs.Common.{◌≡◌, ℕ, ◌≤◌, Bool, true, false, if◌then◌else◌, Ok, List, [], ◌∷◌, length, ap, sym, ◌∙◌, arith}
use Rattle.std.proofs.lemmas.Bool.Decides.{nat_tests}
use Rattle.ff_frame.specs.declared.head.StreamHead.{StreamHead}
use Rattle.ff_frame.specs.declared.head.StreamHead.TheVariants.{Audio, Video}
use Rattle.ff_lang.specs.declared.graph.Arg.{Arg}
use Rattle.ff_filter.specs.Options.{is_sound}
use Rattle.ff_afilter.specs.Channels.{channels_in}
use Rattle.ff_filters.specs.declared.name.FilterName.{FilterName}
use Rattle.ff_filters.specs.Configured.{Filtered}
use Rattle.ff_filters.specs.Makes.{configured_as}
use Rattle.ff_filters.specs.Pads.{is_apart, outputs_of}
use Rattle.ff_filters.proofs.Owing.{Counted}
use Rattle.ff_filters.proofs.Owed.{gives}
use Rattle.ff_graph_links.specs.pads.Links.{Seen}
use Rattle.ff_graph.specs.Configured.{too_few, too_few_channels, is_surplus}

-- at least as many as its arguments say
said_there : (apart : Bool) (first : StreamHead) (others : List StreamHead) (given said : ℕ) → Counted apart first others given said → said ≤ given
said_there false first others given said c = omega (arith, c)
said_there true first others given said c = let none = c.3 in omega (arith, none)

pub outputs_there : (name : FilterName) (args : List Arg) (heads : List StreamHead) (f : Filtered) → configured_as name args heads ≡ Ok f
    → outputs_of name args ≤ length f.outs
outputs_there name args heads f e =
    let g = gives name args heads f e in
    said_there (is_apart name) g.first g.others (length f.outs) (outputs_of name args) g.count

-- ---- labels

channels_there : (d : Seen) (head : StreamHead) → is_sound head ≡ true → too_few_channels d (head ∷ []) ≡ false → length d.filter.outs ≤ channels_in head
channels_there d (Audio tb rate bits channels codec) kind e = grind (arith, nat_tests)
channels_there d (Video tb format width height sar_num sar_den) kind e = cc

not_more : (d : Seen) (given : ℕ) → too_few d.outputs d ≡ false → d.outputs ≤ given → length d.filter.outs ≤ given
not_more d given few room = (let le : length d.filter.outs ≤ d.outputs = grind (arith, nat_tests) in omega (arith, le, room))

labels_at : (apart : Bool) (d : Seen) (first : StreamHead) (others : List StreamHead) (given said : ℕ) → Counted apart first others given said → d.outputs ≡ said
    → (if apart then too_few_channels d (first ∷ others) else too_few d.outputs d) ≡ false → length d.filter.outs ≤ given
labels_at false d first others given said c o few = not_more d given few (omega (arith, c, o))
labels_at true d first others given said c o few =
    let enough = channels_there d first c.1 (ap (λ (hs : List StreamHead). too_few_channels d (first ∷ hs)) (sym c.0) ∙ few) in
    let size = c.2 in
    omega (arith, enough, size)

-- at least as many as it has labels there
pub labels_there : (name : FilterName) (d : Seen) (heads : List StreamHead) (f : Filtered) → d.outputs ≡ outputs_of name d.filter.args
    → is_surplus name d heads ≡ false → configured_as name d.filter.args heads ≡ Ok f → length d.filter.outs ≤ length f.outs
labels_there name d heads f o few e =
    let g = gives name d.filter.args heads f e in
    labels_at (is_apart name) d g.first g.others (length f.outs) (outputs_of name d.filter.args) g.count o
    (ap (λ (hs : List StreamHead). is_surplus name d hs) (sym g.fed) ∙ few)
