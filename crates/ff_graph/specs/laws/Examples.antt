-- Small graphs.
use Rattle.std.specs.Prelude.{ℕ, List, [], ◌∷◌, Option, None, codes}
use Rattle.ff_frame.specs.declared.head.StreamHead.{StreamHead}
use Rattle.ff_frame.specs.declared.head.StreamHead.TheVariants.{Video}
use Rattle.ff_frame.specs.declared.video.Format.TheVariants.{C444}
use Rattle.ff_lang.specs.declared.graph.Arg.{Arg}
use Rattle.ff_lang.specs.declared.graph.Chain.{Chain}
use Rattle.ff_lang.specs.declared.graph.Graph.{Graph}
use Rattle.ff_graph.specs.Configured.{OpenOut}

-- pictures of this width, 25 a second
abbrev pub picture : ℕ → StreamHead
picture width = Video (record { num = 1; den = 25 }) C444 width 2 1 1

-- an open output pad
abbrev pub out : ℕ → ℕ → Option (List ℕ) → StreamHead → OpenOut
out filter pad label head = record { at = record { filter = filter; pad = pad }; label = label; head = head }

-- a filter alone in its chain
abbrev pub alone : List (List ℕ) → List ℕ → List Arg → List (List ℕ) → Chain
alone ins name args outs = record { filters = record { ins = ins; name = name; args = args; outs = outs } ∷ [] }

-- hstack
abbrev pub two_beside : Graph
two_beside = record { chains = alone [] (codes "hstack") [] [] ∷ [] }

-- split[a][b]; [b]hflip; [a]vflip
abbrev pub apart : Graph
apart = record {
  chains =
      alone [] (codes "split") [] (codes "a" ∷ codes "b" ∷ []) ∷ alone (codes "b" ∷ []) (codes "hflip") [] [] ∷ alone (codes "a" ∷ []) (codes "vflip") [] [] ∷ [];
}

-- hflip[a][b]
abbrev pub surplus : Graph
surplus = record { chains = alone [] (codes "hflip") [] (codes "a" ∷ codes "b" ∷ []) ∷ [] }

-- hstack=16; null
abbrev pub crowded : Graph
crowded = record { chains = alone [] (codes "hstack") (record { key = None; value = codes "16" } ∷ []) [] ∷ alone [] (codes "null") [] [] ∷ [] }
