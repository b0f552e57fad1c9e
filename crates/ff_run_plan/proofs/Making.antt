-- A part that was made, as the part of its node.
use Rattle.std.proofs.Common.{◌≡◌, ℕ, List, [], ◌∷◌, map, slice_get, slice_index_or, Option, Some, None, IfSome, sym, ap, ◌∙◌, subst}
use Rattle.std.proofs.lemmas.Option.{slice_get_within, get_or_from_slice_get}
use Rattle.ff_trim.specs.declared.counted.OutputCut.{OutputCut}
use Rattle.ff_frame.specs.declared.head.StreamHead.{StreamHead}
use Rattle.ff_stream.specs.declared.item.Lane.{Lane}
use Rattle.ff_stream.specs.declared.item.Lane.TheVariants.{Frames, Packets}
use Rattle.ff_lang.specs.declared.graph.Graph.{Graph}
use Rattle.ff_source.specs.declared.made.Made.{Made}
use Rattle.ff_source.specs.Sources.{head_of}
use Rattle.ff_words.specs.declared.job.OutputJob.{OutputJob}
use Rattle.ff_net.specs.Pasts.{start}
use Rattle.ff_net.specs.laws.Views.{View}
use Rattle.ff_plan.specs.declared.planned.PlanNode.TheVariants as node
use Rattle.ff_run_plan.specs.Asked.{Asked}
use Rattle.ff_run_plan.specs.Kinds.{KindsOf, IsNew, used_heads}
use Rattle.ff_run_plan.specs.Tasks.{heads_on, demux_by, gen_by, graph_by, shortest_by, mux_by}
use Rattle.ff_run_plan.specs.Parts.{FitsDemux, FitsGen, FitsGraph, FitsShortest, FitsMux, IsPart}
use Rattle.ff_run_plan.proofs.Numbers.{same_some}
use Rattle.ff_run_plan.proofs.StreamNumbers.{coded_is, framed_is}

pub if_both : {A : Type 0} (P Q R : A → Type 0) (o : Option A) → IfSome o P → IfSome o Q → ((x : A) → P x → Q x → R x) → IfSome o R
if_both P Q R None p q f = tt
if_both P Q R (Some x) p q f = f x p q

module _ {H S K : Type 0} (is : KindsOf H) (left named : S → Option (List ℕ)) (failed : S → ℕ) (holds called : K → Option (List ℕ)) (faulted : K → ℕ)
    (asked : Asked) (heads : List H) (srcs : List S) (snks : List K) (first : ℕ) (cuts : List OutputCut) (ins outs : List Lane) (v : View) where
  pub demux_part : (i : ℕ) (fits : FitsDemux is asked heads ins outs i) (src : S) → slice_get srcs i ≡ Some src
      → IsNew (Some i) [] (map (λ (h : StreamHead). Packets h) (used_heads (is.streams fits.head) (asked.used i))) (named src) (failed src) v
      → ((head : H) → slice_get heads i ≡ Some head → (bytes : List ℕ) → left src ≡ Some bytes → v.stands (start (is.demux_task i head (asked.used i) bytes)))
      → IsPart is left named failed holds called faulted asked heads srcs snks first cuts ins outs (node.Demux i) v
  demux_part i fits src at new starts = record {
    source_is = new.source_is;
    in_lanes = new.in_lanes ∙ sym fits.ins_are;
    out_lanes = new.out_lanes ∙ sym fits.outs_are;
    sound = new.sound;
    source = λ j s e there.
        let same : i ≡ j = cc in
        let is_src : src ≡ s = same_some (slice_get srcs i) src s at (subst (λ (n : ℕ). slice_get srcs n ≡ Some s) (sym same) there) in
        (new.device_is ∙ ap named is_src, new.failures_are ∙ ap failed is_src);
    sink = λ o s e. absurd cc;
    starts = λ bytes told.
        let tells : left src ≡ Some (slice_index_or bytes i []) = ap left (sym (get_or_from_slice_get srcs i src src at)) ∙ told.left_is i src (slice_get_within srcs i src at) in
        subst (λ (h : Option H). v.stands (start (demux_by is i h (asked.used i) (slice_index_or bytes i [])))) (sym fits.there) (starts fits.head fits.there (slice_index_or bytes i []) tells);
  }

  pub gen_part : (i : ℕ) (fits : FitsGen is asked ins outs i) → IsNew (Some i) [] (Frames (head_of fits.made) ∷ []) None 0 v → v.stands (start (is.gen_task i fits.made))
      → IsPart is left named failed holds called faulted asked heads srcs snks first cuts ins outs (node.Gen i) v
  gen_part i fits new starts = record {
    source_is = new.source_is;
    in_lanes = new.in_lanes ∙ sym fits.ins_are;
    out_lanes = new.out_lanes ∙ sym fits.outs_are;
    sound = new.sound;
    source = λ j s e. absurd cc;
    sink = λ o s e. absurd cc;
    starts = λ bytes told. subst (λ (x : Option Made). v.stands (start (gen_by is i x))) (sym fits.there) starts;
  }

  pub graph_part : (g : ℕ) (fits : FitsGraph is asked ins outs g) (framed : List StreamHead) → framed ≡ heads_on ins
      → ((text : Graph) (made : List StreamHead) → asked.text g ≡ Some text → is.CanFilter text framed made
      → IsNew None (map (λ (head : StreamHead). Frames head) framed) (map (λ (head : StreamHead). Frames head) made) None 0 v)
      → ((text : Graph) → asked.text g ≡ Some text → v.stands (start (is.graph_task g text framed cuts)))
      → IsPart is left named failed holds called faulted asked heads srcs snks first cuts ins outs (node.Graph g) v
  graph_part g fits framed e news starts =
      let own : framed ≡ fits.heads = e ∙ framed_is ins fits.heads fits.ins_are in
      let new = news fits.text fits.made fits.there (subst (λ (hs : List StreamHead). is.CanFilter fits.text hs fits.made) (sym own) fits.can) in record {
        source_is = new.source_is;
        in_lanes = new.in_lanes ∙ (ap (λ (hs : List StreamHead). map (λ (head : StreamHead). Frames head) hs) own ∙ sym fits.ins_are);
        out_lanes = new.out_lanes ∙ sym fits.outs_are;
        sound = new.sound;
        source = λ i s e. absurd cc;
        sink = λ p s e. absurd cc;
        starts = λ bytes told.
            subst (λ (hs : List StreamHead). v.stands (start (graph_by is g (asked.text g) hs cuts))) e
            (subst (λ (x : Option Graph). v.stands (start (graph_by is g x framed cuts))) (sym fits.there) (starts fits.text fits.there));
      }

  pub shortest_part : (o : ℕ) (fits : FitsShortest is asked ins outs o) (framed : List StreamHead) → framed ≡ heads_on ins
      → IsNew None (map (λ (head : StreamHead). Frames head) framed) (map (λ (head : StreamHead). Frames head) framed) None 0 v
      → ((out : OutputJob) → slice_get asked.outputs o ≡ Some out → v.stands (start (is.shortest_task out.shortest framed)))
      → IsPart is left named failed holds called faulted asked heads srcs snks first cuts ins outs (node.Shortest o) v
  shortest_part o fits framed e new starts =
      let own : framed ≡ fits.heads = e ∙ framed_is ins fits.heads fits.ins_are in record {
        source_is = new.source_is;
        in_lanes = new.in_lanes ∙ (ap (λ (hs : List StreamHead). map (λ (head : StreamHead). Frames head) hs) own ∙ sym fits.ins_are);
        out_lanes = new.out_lanes ∙ (ap (λ (hs : List StreamHead). map (λ (head : StreamHead). Frames head) hs) own ∙ sym fits.outs_are);
        sound = new.sound;
        source = λ i s e. absurd cc;
        sink = λ p s e. absurd cc;
        starts = λ bytes told.
            subst (λ (hs : List StreamHead). v.stands (start (shortest_by is (slice_get asked.outputs o) hs))) e
            (subst (λ (x : Option OutputJob). v.stands (start (shortest_by is x framed))) (sym fits.there) (starts fits.out fits.there));
      }

  pub mux_part : (o : ℕ) (fits : FitsMux is asked ins outs o) (coded : List StreamHead) → coded ≡ fits.coded → (snk : K) → slice_get snks o ≡ Some snk → IsNew None (map (λ (head : StreamHead). Packets head) coded) [] (called snk) (faulted snk) v
      → ((out : OutputJob) → slice_get asked.outputs o ≡ Some out → holds snk ≡ Some [] → v.stands (start (is.mux_task first out coded)))
      → IsPart is left named failed holds called faulted asked heads srcs snks first cuts ins outs (node.Mux o) v
  mux_part o fits coded e snk at new starts = record {
    source_is = new.source_is;
    in_lanes = new.in_lanes ∙ (ap (λ (hs : List StreamHead). map (λ (head : StreamHead). Packets head) hs) e ∙ sym fits.ins_are);
    out_lanes = new.out_lanes ∙ sym fits.outs_are;
    sound = new.sound;
    source = λ i s e. absurd cc;
    sink = λ p s e there.
        let same : o ≡ p = cc in
        let is_snk : snk ≡ s = same_some (slice_get snks o) snk s at (subst (λ (n : ℕ). slice_get snks n ≡ Some s) (sym same) there) in
        (new.device_is ∙ ap called is_snk, new.failures_are ∙ ap faulted is_snk);
    starts = λ bytes told.
        let tells : holds snk ≡ Some [] = ap holds (sym (get_or_from_slice_get snks o snk snk at)) ∙ told.empty o snk (slice_get_within snks o snk at) in
        let own : heads_on ins ≡ coded = coded_is ins fits.coded fits.ins_are ∙ sym e in
        subst (λ (hs : List StreamHead). v.stands (start (mux_by is first (slice_get asked.outputs o) hs))) (sym own)
        (subst (λ (x : Option OutputJob). v.stands (start (mux_by is first x coded))) (sym fits.there) (starts fits.out fits.there tells));
  }

pub if_more : {A : Type 0} (P R : A → Type 0) (o : Option A) → IfSome o P → ((x : A) → P x → R x) → IfSome o R
if_more P R None p f = tt
if_more P R (Some x) p f = f x p
