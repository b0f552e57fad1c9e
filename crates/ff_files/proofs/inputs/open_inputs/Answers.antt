use Rattle.std.proofs.Common.{◌≡◌, ◌<◌, ℕ, List, [], length, get_or, Some, Ok, Result, arith, sym, ap, ◌∙◌, subst}
use Rattle.std.proofs.lemmas.Grind.{common_steps}
use Rattle.ff_host.specs.Files.{bytes_at}
use Rattle.ff_files.specs.Names.{Name, names_of, name_at}
use Rattle.std.specs.Prelude.{IfSome, unwrap_or}
use Rattle.ff_files.specs.laws.Inputs.{IsRead, begun_left, begun_name, begun_faults}
use Rattle.ff_files.specs.declared.head.InputEnd.{InputEnd}
use Rattle.ff_files.proofs.Lists.{names_len, name_here, each_pushed, at_pushed, pushed_len}
use Rattle.ff_files.proofs.Steps.{files_on, later_on, open_more}
use Rattle.ff_files.proofs.Heads.{ends_read, ends_unopened, heads_more, heads_end, found_on, gives_on, counts_unopened, unopened_since}
use Rattle.ff_files.proofs.inputs.open_inputs.Goals as goal

pub returns-in-Err-clause-counts : goal.returns-in-Err-clause-counts
returns-in-Err-clause-counts g c =
    let H = g.H.Host in
    let name = g.I.Named.name_text in
    let was = c.loop-k.invariant in
    let names = names_of name c.args.inputs.now in
    let k = c.loop-k.k in
    let input = c.index-inputs-k.result in
    let lt : k < length c.args.inputs.now = let test = c.loop-k-test.true in omega (arith, test) in
    let named : name_at names k ≡ Some (name input) = name_here name c.args.inputs.now k input lt ∙ ap (λ (i : _). Some (name i)) (sym c.index-inputs-k.is) in
    let old = H.in_faults c.args.host.now in
    let mid = H.in_faults c.loop-k.host in
    let new = H.in_faults c.open_input.new.host in
    counts_unopened old mid new names k (length c.args.inputs.now) (name input) c.in-Err.end named (let len = names_len name c.args.inputs.now in omega (arith, lt, len)) was.ins
    c.open_input.ensures.in_others c.in-Err.ensures.unopened

pub returns-in-Err-clause-refused : goal.returns-in-Err-clause-refused
returns-in-Err-clause-refused g c =
    let H = g.H.Host in
    let name = g.I.Named.name_text in
    let was = c.loop-k.invariant in
    let names = names_of name c.args.inputs.now in
    let k = c.loop-k.k in
    let input = c.index-inputs-k.result in
    let lt : k < length c.args.inputs.now = let test = c.loop-k-test.true in omega (arith, test) in
    let named : name_at names k ≡ Some (name input) = name_here name c.args.inputs.now k input lt ∙ ap (λ (i : _). Some (name i)) (sym c.index-inputs-k.is) in
    let old = H.in_faults c.args.host.now in
    let mid = H.in_faults c.loop-k.host in
    let new = H.in_faults c.open_input.new.host in
    ends_unopened name g.I.InputFile.head (begun_faults g.H.Src.Source.faults) (H.files c.args.host.now) old new names c.args.inputs.now c.loop-k.srcs.items c.loop-k.heads.items k c.in-Err.end lt was.told_heads
    (name input) named (unopened_since c.in-Err.end (old (name input)) (mid (name input)) (new (name input)) (was.ins (name input)) c.in-Err.ensures.unopened)

pub returns-in-Err-head-clause-files : goal.returns-in-Err-head-clause-files
returns-in-Err-head-clause-files g c = (let H = g.H.Host in files_on (H.files c.args.host.now) (H.files c.loop-k.host) (H.files c.open_input.new.host) c.loop-k.invariant.files c.open_input.ensures.files)

pub returns-in-Err-head-clause-own : goal.returns-in-Err-head-clause-own
returns-in-Err-head-clause-own g c =
    let H = g.H.Host in
    let name = g.I.Named.name_text in
    let was = c.loop-k.invariant in
    let names = names_of name c.args.inputs.now in
    let k = c.loop-k.k in
    let input = c.index-inputs-k.result in
    let lt : k < length c.args.inputs.now = let test = c.loop-k-test.true in omega (arith, test) in
    let named : name_at names k ≡ Some (name input) = name_here name c.args.inputs.now k input lt ∙ ap (λ (i : _). Some (name i)) (sym c.index-inputs-k.is) in
    let long : length c.loop-k.srcs.items ≡ k = (let count = was.count in let ok = c.loop-k.srcs.ok.0 in omega arith) in
    open_more H.opened (begun_name g.H.Src.Source.name) c.loop-k.host c.open_input.new.host names c.loop-k.srcs.items c.push_reserved.new.self.items c.in-Ok.field-0.src k
    (λ n may. c.open_input.ensures.later.still_opened n may) was.own c.push_reserved.ensures.items long (let len = names_len name c.args.inputs.now in omega (arith, lt, len))
    (c.in-Ok.ensures.name ∙ sym named) (subst (λ (n : Name). IfSome n (H.opened c.open_input.new.host)) (sym named) c.in-Ok.ensures.opened)

pub returns-in-Err-head-clause-refused : goal.returns-in-Err-head-clause-refused
returns-in-Err-head-clause-refused g c =
    let H = g.H.Host in
    let I = g.I.InputFile in
    let S = g.H.Src.Source in
    let name = g.I.Named.name_text in
    let was = c.loop-k.invariant in
    let names = names_of name c.args.inputs.now in
    let k = c.loop-k.k in
    let input = c.index-inputs-k.result in
    let srcs = c.push_reserved.new.self.items in
    let src = c.in-Ok.field-0.src in
    let lt : k < length c.args.inputs.now = let test = c.loop-k-test.true in omega (arith, test) in
    let read = subst (λ (r : Result g.row.I-Head.Denot InputEnd). IsRead (I.head input) I.is_sound r (begun_faults S.faults src) (begun_left S.left src) (H.files c.loop-k.host) (name input)) c.in-Err-head.is c.in-Ok.ensures.read in
    let long : length c.loop-k.srcs.items ≡ k = (let count = was.count in let ok = c.loop-k.srcs.ok.0 in omega arith) in
    ends_read name I.head (begun_faults S.faults) (H.files c.args.host.now) (H.files c.loop-k.host) (H.in_faults c.args.host.now) (H.in_faults c.open_input.new.host) names c.args.inputs.now srcs c.loop-k.heads.items k input src c.in-Err-head.end lt (sym c.index-inputs-k.is) was.files was.told_heads
    (let more = pushed_len c.loop-k.srcs.items srcs src k c.push_reserved.ensures.items long in omega (arith, more))
    (λ d. at_pushed c.loop-k.srcs.items srcs src k d c.push_reserved.ensures.items long) read

pub loop-k-preserved : goal.loop-k-preserved
loop-k-preserved g c =
    let H = g.H.Host in
    let I = g.I.InputFile in
    let S = g.H.Src.Source in
    let name = g.I.Named.name_text in
    let was = c.loop-k.invariant in
    let names = names_of name c.args.inputs.now in
    let inputs = c.args.inputs.now in
    let k = c.loop-k.k in
    let input = c.index-inputs-k.result in
    let old = c.args.host.now in
    let mid = c.loop-k.host in
    let new = c.open_input.new.host in
    let made = c.in-Ok.ensures in
    let src = c.in-Ok.field-0.src in
    let srcs = c.push_reserved.new.self.items in
    let heads = c.push_reserved-in-Ok-head.new.self.items in
    let h = c.in-Ok-head.head in
    let lt : k < length inputs = let test = c.loop-k-test.true in omega (arith, test) in
    let below : k < length names = let len = names_len name inputs in omega (arith, lt, len) in
    let named : name_at names k ≡ Some (name input) = name_here name inputs k input lt ∙ ap (λ (i : _). Some (name i)) (sym c.index-inputs-k.is) in
    let read = subst (λ (r : Result g.row.I-Head.Denot InputEnd). IsRead (I.head input) I.is_sound r (begun_faults S.faults src) (begun_left S.left src) (H.files mid) (name input)) c.in-Ok-head.is made.read in
    let long : length c.loop-k.srcs.items ≡ k = (let count = was.count in let ok = c.loop-k.srcs.ok.0 in omega arith) in
    let long_heads : length c.loop-k.heads.items ≡ k = (let count = was.count_heads in let ok = c.loop-k.heads.ok.0 in omega arith) in
    let more = pushed_len c.loop-k.srcs.items srcs src k c.push_reserved.ensures.items long in
    let more_heads = pushed_len c.loop-k.heads.items heads h k c.push_reserved-in-Ok-head.ensures.items long_heads in
    record {
      count = (let count = was.count in let len = c.push_reserved.ensures.len in omega arith);
      count_heads = (let count = was.count_heads in let len = c.push_reserved-in-Ok-head.ensures.len in omega arith);
      room = grind (arith, common_steps);
      room_heads = grind (arith, common_steps);
      later = later_on H.in_faults H.out_faults H.opened H.created old mid new was.later c.open_input.ensures.later;
      files = files_on (H.files old) (H.files mid) (H.files new) was.files c.open_input.ensures.files;
      own = open_more H.opened (begun_name S.name) mid new names c.loop-k.srcs.items srcs src k (λ n may. c.open_input.ensures.later.still_opened n may) was.own c.push_reserved.ensures.items long below
          (made.name ∙ sym named) (subst (λ (n : Name). IfSome n (H.opened new)) (sym named) made.opened);
      ins = λ n. made.ok_counts n ∙ was.ins n;
      outs = λ n. c.open_input.ensures.outs n ∙ was.outs n;
      sources = (let before = was.sources in let one = made.open_sources in omega (arith, before, one));
      sinks = (let before = was.sinks in let same = c.open_input.ensures.open_sinks in omega (arith, before, same));
      unfailed = λ j d there all. each_pushed (λ i x. i < length inputs → begun_faults S.faults x ≡ 0) c.loop-k.srcs.items srcs src k c.push_reserved.ensures.items long
          (λ i e l a. was.unfailed i e (omega (arith, l, long)) a) (λ a. read.1) j d (omega (arith, there, more)) all;
      sound = λ j d there. each_pushed (λ i x. I.is_sound x) c.loop-k.heads.items heads h k c.push_reserved-in-Ok-head.ensures.items long_heads (λ i e l. was.sound i e (omega (arith, l, long_heads))) read.0 j d (omega (arith, there, more_heads));
      told_heads = λ told e.
          heads_more name I.head told inputs k input c.loop-k.heads.items h lt (sym c.index-inputs-k.is) (was.told_heads told e) (found_on (I.head input) (H.files old) (H.files mid) told (name input) (Ok h) was.files e read.2)
          ∙ ap (λ (hs : List g.row.I-Head.Denot). Ok hs) (sym c.push_reserved-in-Ok-head.ensures.items);
      told_bytes = λ told e j i d there. each_pushed (λ n x. begun_left S.left x ≡ Some (bytes_at told (name (get_or inputs n i)))) c.loop-k.srcs.items srcs src k c.push_reserved.ensures.items long (λ n f l. was.told_bytes told e n i f l)
          (gives_on (H.files old) (H.files mid) told (name input) (begun_left S.left src) was.files e read.3
          ∙ ap (λ (n : Name). Some (bytes_at told (unwrap_or n []))) (sym named ∙ name_here name inputs k i lt)) j d there;
    }

pub returns-clause-begun : goal.returns-clause-begun
returns-clause-begun g c =
    let was = c.loop-k.invariant in
    let k = c.loop-k.k in
    let inputs = c.args.inputs.now in
    let len = names_len g.I.Named.name_text inputs in
    let long : length c.loop-k.srcs.items ≡ k = (let count = was.count in let ok = c.loop-k.srcs.ok.0 in omega arith) in
    let end : k ≡ length inputs = (let test = c.loop-k-test.false in let few = was.own.few in omega (arith, test, few, len, long)) in
    record {
      as_many = long ∙ end;
      told_heads = λ told e. heads_end g.I.Named.name_text g.I.InputFile.head told inputs k c.loop-k.heads.items (omega (arith, end)) (was.told_heads told e);
      told_bytes = λ told e j i d there. was.told_bytes told e j i d (omega (arith, there, long));
    }

pub returns-clause-all : goal.returns-clause-all
returns-clause-all g c =
    let was = c.loop-k.invariant in
    let k = c.loop-k.k in
    let inputs = c.args.inputs.now in
    let len = names_len g.I.Named.name_text inputs in
    let long : length c.loop-k.srcs.items ≡ k = (let count = was.count in let ok = c.loop-k.srcs.ok.0 in omega arith) in
    let long_heads : length c.loop-k.heads.items ≡ k = (let count = was.count_heads in let ok = c.loop-k.heads.ok.0 in omega arith) in
    let end : k ≡ length inputs = (let test = c.loop-k-test.false in let few = was.own.few in omega (arith, test, few, len, long)) in
    long_heads ∙ end
