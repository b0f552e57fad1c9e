use Rattle.std.proofs.Common.{ℕ, List, inl, inr, sym, subst}
use Rattle.std.specs.Prelude.{⊤}
use Rattle.ff_frame.specs.declared.event.Event.{Event}
use Rattle.ff_run_plan.specs.Reads.{places_in}
use Rattle.ff_words.specs.Words.{texts}
use Rattle.ff_files.specs.Counts.{Counts, counted}
use Rattle.ff_command.specs.Command.{AskFor, ComesBeforeOutputs, ReportsHistory, ReportsReads, ReportsOwn, ReportsOwnReads, HoldsTrace}
use Rattle.ff_command.specs.Histories.{history_in}
use Rattle.ff_command.proofs.Answers.{due-text, none-told, words-made}
use Rattle.ff_command.proofs.Generated.{own_none}
use Rattle.ff_command.proofs.Reports.{has_more, reported_history, reported_reads, also_reported, not_fine, untold_due, created_same, ins_same, outs_same}
use Rattle.ff_command.proofs.command.run_command.Goals as goal

pub returns-clause-text : goal.returns-clause-text
returns-clause-text g c = λ asks.
    (c.run_words-status.ensures.answered.text asks, (c.reported-history.ensures.other (inr (c.run_words-status.ensures.text asks))).0)

pub returns-clause-made : goal.returns-clause-made
returns-clause-made g c = λ fine.
    words-made (g.P.Worker.means c.args.worker.now) (texts c.args.words.now) (g.H.Host.files c.args.host.now) (g.H.Host.files c.run_words-status.new.host)
    (c.run_words-status.ensures.answered.bytes fine)

pub returns-clause-no_history : goal.returns-clause-no_history
returns-clause-no_history g c = λ other. (c.reported-history.ensures.other (inl other)).0

pub returns-clause-no_reads : goal.returns-clause-no_reads
returns-clause-no_reads g c = λ which. elim which [
  | inl other ↦ (c.reported-history.ensures.other (inl other)).1
  | inr asks ↦ (c.reported-history.ensures.other (inr (c.run_words-status.ensures.text asks))).1
]

pub returns-clause-line_not_due : goal.returns-clause-line_not_due
returns-clause-line_not_due g c = (
  λ quiet.
      let none = c.log_end-line.ensures.not_due quiet in
      (none.1, c.run_words-status.ensures.silent none.1 none.0),
  λ asked. c.log_end-line.ensures.due asked.0 (none-told (g.Q.Worker.means c.args.own.now) (texts c.args.words.now) c.run_words-status.result.told c.run_words-status.result.status c.run_words-status.ensures.told asked.1),
)

pub returns-clause-logged : goal.returns-clause-logged
returns-clause-logged g c = λ whole.
    let words = texts c.args.words.now in
    let told = c.log_end-line.ensures.whole whole in (
      told.0,
      due-text (g.Q.Worker.means c.args.own.now) words c.run_words-status.result.told c.run_words-status.result.status c.name_of.result.now told.0 c.run_words-status.ensures.told (c.name_of.ensures words c.run_words-status.ensures.asked) told.1,
      told.2,
    )

pub returns-clause-log_failed : goal.returns-clause-log_failed
returns-clause-log_failed g c = λ failed.
    let words = texts c.args.words.now in
    let told = c.log_end-line.ensures.failed failed in (
      told.0,
      (
        told.1.0,
        due-text (g.Q.Worker.means c.args.own.now) words c.run_words-status.result.told c.run_words-status.result.status c.name_of.result.now told.1.0 c.run_words-status.ensures.told (c.name_of.ensures words c.run_words-status.ensures.asked) told.1.1,
        told.1.2,
      ),
    )

pub returns-clause-history : goal.returns-clause-history
returns-clause-history g c = λ fine.
    let P = g.P.Worker in
    let worker = c.args.worker.now in
    let told = ReportsHistory (P.means worker) (P.tells worker) (texts c.args.words.now) (g.H.Host.files c.args.host.now) in
    elim (c.run_words-status.ensures.logged fine) [
      | inl alone ↦ inl alone
      | inr logged ↦
          inr (subst told (sym (c.reported-history.ensures.fine fine).0)
          (reported_history told c.run_words-status.result.run (has_more _ (λ log. told log.history) c.run_words-status.result.run (λ log x. (x.0, x.1, (x.2.0, x.2.1, x.2.2.0))) logged)))
    ]

pub returns-clause-reads : goal.returns-clause-reads
returns-clause-reads g c = λ fine.
    let P = g.P.Worker in
    let worker = c.args.worker.now in
    let run = c.run_words-status.result.run in
    let are = ReportsReads (P.means worker) (P.reads worker) (texts c.args.words.now) (g.H.Host.files c.args.host.now) in
    let is = c.reported-history.ensures.fine fine in
    elim (c.run_words-status.ensures.logged fine) [
      | inl alone ↦ inl alone
      | inr logged ↦
          inr (subst (λ (events : List Event). are events (places_in c.reported-history.result.reads.items)) (sym is.0) (subst (λ (rs : List (List ℕ)). are (history_in run) rs) (sym is.1)
          (reported_reads are run (has_more _ (λ log. are log.history (places_in log.reads.items)) run (λ log x. (x.0, x.1, (x.2.0, x.2.1, x.2.2.1))) logged))))
    ]

pub returns-clause-own_history : goal.returns-clause-own_history
returns-clause-own_history g c = λ seconds asks fine.
    let Q = g.Q.Worker in
    let own = c.args.own.now in
    let told = ReportsOwn (Q.means own) (Q.tells own) seconds in
    subst told (sym (c.reported-history.ensures.fine fine).0)
    (reported_history told c.run_words-status.result.run (has_more _ (λ log. told log.history) c.run_words-status.result.run (λ log x. (x.0, x.1, (x.2.0, x.2.1, x.2.2.0))) (c.run_words-status.ensures.own_logged seconds asks fine)))

pub returns-clause-own_reads : goal.returns-clause-own_reads
returns-clause-own_reads g c = λ seconds asks fine.
    let Q = g.Q.Worker in
    let own = c.args.own.now in
    let run = c.run_words-status.result.run in
    let are = ReportsOwnReads (Q.means own) (Q.reads own) seconds in
    let is = c.reported-history.ensures.fine fine in
    subst (λ (events : List Event). are events (places_in c.reported-history.result.reads.items)) (sym is.0) (subst (λ (rs : List (List ℕ)). are (history_in run) rs) (sym is.1)
    (reported_reads are run (has_more _ (λ log. are log.history (places_in log.reads.items)) run (λ log x. (x.0, x.1, (x.2.0, x.2.1, x.2.2.1))) (c.run_words-status.ensures.own_logged seconds asks fine))))

pub returns-clause-trace : goal.returns-clause-trace
returns-clause-trace g c = λ fine.
    let held = HoldsTrace (texts c.args.words.now) (g.H.Host.files c.args.host.now) (g.H.Host.files c.run_words-status.new.host) in
    elim (c.run_words-status.ensures.logged fine) [
      | inl alone ↦ inl alone
      | inr logged ↦ elim (c.run_words-status.ensures.traced fine) [
        | inl alone ↦ inl alone
        | inr traced ↦ inr (subst held (sym (c.reported-history.ensures.fine fine).0) (also_reported _ held c.run_words-status.result.run logged traced))
      ]
    ]

pub returns-then-is_untold-clause-text : goal.returns-then-is_untold-clause-text
returns-then-is_untold-clause-text g c = λ asks. (inr c.out_of_memory.ensures.status.0, c.out_of_memory.ensures.other.0)

pub returns-then-is_untold-clause-made : goal.returns-then-is_untold-clause-made
returns-then-is_untold-clause-made g c = λ fine. absurd (not_fine c.out_of_memory.result.status c.out_of_memory.ensures.status.0 fine)

pub returns-then-is_untold-clause-generated : goal.returns-then-is_untold-clause-generated
returns-then-is_untold-clause-generated g c = λ seconds asks. own_none (g.Q.Worker.means c.args.own.now) seconds c.out_of_memory.result.status c.out_of_memory.ensures.status.0

pub returns-then-is_untold-clause-untouched : goal.returns-then-is_untold-clause-untouched
returns-then-is_untold-clause-untouched g c = λ early. absurd (subst ComesBeforeOutputs c.out_of_memory.ensures.status.0 early)

pub returns-then-is_untold-clause-wrong : goal.returns-then-is_untold-clause-wrong
returns-then-is_untold-clause-wrong g c = λ f wrong. inr c.out_of_memory.ensures.status.0

pub returns-then-is_untold-clause-refused : goal.returns-then-is_untold-clause-refused
returns-then-is_untold-clause-refused g c = λ i why gives. inr c.out_of_memory.ensures.status.0

pub returns-then-is_untold-clause-no_plan : goal.returns-then-is_untold-clause-no_plan
returns-then-is_untold-clause-no_plan g c = λ why gives. inr c.out_of_memory.ensures.status.0

pub returns-then-is_untold-clause-complete : goal.returns-then-is_untold-clause-complete
returns-then-is_untold-clause-complete g c = λ gives. inr c.out_of_memory.ensures.status.0

pub returns-then-is_untold-clause-created : goal.returns-then-is_untold-clause-created
returns-then-is_untold-clause-created g c =
    let H = g.H.Host in
    let outs = counted H.out_faults c.args.host.now c.run_words-status.new.host in
    created_same (texts c.args.words.now) (H.created c.run_words-status.new.host) (H.files c.args.host.now) (H.files c.run_words-status.new.host) outs c.run_words-status.result.status c.out_of_memory.result.status
    (c.is_untold.ensures.untold c.if-is_untold.true).0 c.run_words-status.ensures.created

pub returns-then-is_untold-clause-in_counts : goal.returns-then-is_untold-clause-in_counts
returns-then-is_untold-clause-in_counts g c =
    let H = g.H.Host in
    let counts : Counts = record { before = H.in_faults c.args.host.now; after = H.in_faults c.run_words-status.new.host } in
    ins_same (g.P.Worker.means c.args.worker.now) (texts c.args.words.now) (H.files c.args.host.now) counts c.run_words-status.result.status c.out_of_memory.result.status
    (c.is_untold.ensures.untold c.if-is_untold.true).0 c.run_words-status.ensures.answered.in_counts

pub returns-then-is_untold-clause-out_counts : goal.returns-then-is_untold-clause-out_counts
returns-then-is_untold-clause-out_counts g c =
    let H = g.H.Host in
    let counts : Counts = record { before = H.out_faults c.args.host.now; after = H.out_faults c.run_words-status.new.host } in
    outs_same (g.P.Worker.means c.args.worker.now) (texts c.args.words.now) (H.files c.args.host.now) counts c.run_words-status.result.status c.out_of_memory.result.status
    (c.is_untold.ensures.untold c.if-is_untold.true).0 c.run_words-status.ensures.answered.out_counts

pub returns-then-is_untold-clause-line_not_due : goal.returns-then-is_untold-clause-line_not_due
returns-then-is_untold-clause-line_not_due g c =
    untold_due (AskFor (texts c.args.words.now) (λ job. ⊤)) c.out_of_memory.result.status c.out_of_memory.result.line c.out_of_memory.ensures.status.0 c.out_of_memory.ensures.status.1

pub returns-then-is_untold-clause-line_no_memory : goal.returns-then-is_untold-clause-line_no_memory
returns-then-is_untold-clause-line_no_memory g c = λ none. c.log_end-line.ensures.no_memory (c.is_untold.ensures.untold c.if-is_untold.true).1

pub returns-then-is_untold-clause-fine_line : goal.returns-then-is_untold-clause-fine_line
returns-then-is_untold-clause-fine_line g c = λ fine. absurd (not_fine c.out_of_memory.result.status c.out_of_memory.ensures.status.0 fine)

pub returns-then-is_untold-clause-history : goal.returns-then-is_untold-clause-history
returns-then-is_untold-clause-history g c = λ fine. absurd (not_fine c.out_of_memory.result.status c.out_of_memory.ensures.status.0 fine)

pub returns-then-is_untold-clause-trace : goal.returns-then-is_untold-clause-trace
returns-then-is_untold-clause-trace g c = λ fine. absurd (not_fine c.out_of_memory.result.status c.out_of_memory.ensures.status.0 fine)

pub returns-then-is_untold-clause-no_history : goal.returns-then-is_untold-clause-no_history
returns-then-is_untold-clause-no_history g c = λ other. c.out_of_memory.ensures.other.0

pub returns-then-is_untold-clause-reads : goal.returns-then-is_untold-clause-reads
returns-then-is_untold-clause-reads g c = λ fine. absurd (not_fine c.out_of_memory.result.status c.out_of_memory.ensures.status.0 fine)

pub returns-then-is_untold-clause-no_reads : goal.returns-then-is_untold-clause-no_reads
returns-then-is_untold-clause-no_reads g c = λ which. c.out_of_memory.ensures.other.1

pub returns-then-is_untold-clause-own_history : goal.returns-then-is_untold-clause-own_history
returns-then-is_untold-clause-own_history g c = λ seconds asks fine. absurd (not_fine c.out_of_memory.result.status c.out_of_memory.ensures.status.0 fine)

pub returns-then-is_untold-clause-own_reads : goal.returns-then-is_untold-clause-own_reads
returns-then-is_untold-clause-own_reads g c = λ seconds asks fine. absurd (not_fine c.out_of_memory.result.status c.out_of_memory.ensures.status.0 fine)

pub returns-clause-fine_line : goal.returns-clause-fine_line
returns-clause-fine_line g c = λ fine. c.is_untold.ensures.told c.if-is_untold.false fine

pub returns-then-is_untold-clause-kept : goal.returns-then-is_untold-clause-kept
returns-then-is_untold-clause-kept g c = λ file keeps. ((c.run_words-status.ensures.answered.kept file keeps).0, inr c.out_of_memory.ensures.status.0)
