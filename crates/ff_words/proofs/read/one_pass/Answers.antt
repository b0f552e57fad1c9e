use Rattle.std.proofs.Common.{sym, arith, string_bytes, subst}
use Rattle.std.proofs.lemmas.List.{length-map}
use Rattle.ff_words.specs.Words.{texts}
use Rattle.ff_words.specs.laws.Reading.{Steps, Ended, token_at}
use Rattle.ff_words.proofs.Tokens.{stands-start, stands-on, step-fault, ended, width_some}
use Rattle.ff_words.proofs.read.one_pass.Goals as goal

pub words-init : goal.words-init
words-init c = stands-start (texts c.args.words.now) c.new-reader.result c.new-reader.ensures

pub returns-in-Err : goal.returns-in-Err
returns-in-Err c =
    step-fault (texts c.args.words.now) c.words.at c.words.reader c.token.new.self c.words.invariant c.in-Err.error (omega (arith, c.words-test.true, length-map c.args.words.now string_bytes))
    (subst (λ r. Steps c.words.invariant.es (token_at (texts c.args.words.now) c.words.at) r c.token.new.self) c.in-Err.is (c.token.ensures.step c.words.invariant.es c.words.invariant.kept))

pub words-smaller : goal.words-smaller
words-smaller c = omega (arith, c.words-test.true, c.next_place-at.ensures, width_some (token_at (texts c.args.words.now) c.words.at).value)

pub words-preserved : goal.words-preserved
words-preserved c =
    stands-on (texts c.args.words.now) c.words.at c.next_place-at.result c.words.reader c.token.new.self c.words.invariant (omega (arith, c.words-test.true, length-map c.args.words.now string_bytes))
    c.in-Ok.ensures.bound c.next_place-at.ensures
    (subst (λ r. Steps c.words.invariant.es (token_at (texts c.args.words.now) c.words.at) r c.token.new.self) c.in-Ok.is (c.token.ensures.step c.words.invariant.es c.words.invariant.kept))

pub returns : goal.returns
returns c =
    ended (texts c.args.words.now) c.words.at c.words.reader c.words.invariant c.end.result (omega (arith, c.words-test.false, length-map c.args.words.now string_bytes))
    (subst (λ n. Ended n c.words.reader c.end.result) (sym (length-map c.args.words.now string_bytes)) c.end.ensures)
