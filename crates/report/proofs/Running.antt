-- A run and the text of it. Assumes nothing.
use Rattle.std.proofs.Common.{◌≡◌, ℕ, ◌≤◌, Bool, true, false, List, ◌++◌, length, sym, ap, ◌∙◌, subst, inl, inr, ⊎_elim, true≢false, arith}
use Rattle.base.specs.Logs.{records}
use Rattle.base.specs.Refusals.{reason}
use Rattle.memory.specs.Meaning.{Meaning}
use Rattle.clocking.specs.Ports.{TableOf}
use Rattle.clocking.specs.declared.state.ClockRecord.{ClockRecord}
use Rattle.clocking.specs.declared.state.Event.{Event}
use Rattle.pipeline.specs.Calls.{Logs, empty_logs, is_full, with_events, retired_entries, clock_entries, Ended, RunCall, RunInto}
use Rattle.pipeline.specs.Logged.{logs}
use Rattle.pipeline.specs.Theorem.{Entries, no_entries, followed_by, entries_of, Calls, none, run}
use Rattle.pipeline.specs.declared.journal.Journal.{Journal}
use Rattle.pipeline.specs.declared.machine.Machine.{Machine}
use Rattle.pipeline.specs.declared.machine.RetiredAt.{RetiredAt}
use Rattle.pipeline.specs.declared.machine.Run.{Run}
use Rattle.pipeline.proofs.RunFacts.{clocks_on, held_on, not_past, ended_why, events_counted}
use Rattle.clocktable.specs.Tables.{two_tables}
use Rattle.longrun.specs.Gaps.{none_yet, gaps_after}
use Rattle.longrun.specs.LongRuns.{RanTo}
use Rattle.longrun.specs.declared.gaps.Gaps.{Gaps}
use Rattle.setup.specs.declared.choice.Setup.{Setup}
use Rattle.report.specs.Finishing.{Finished}
use Rattle.report.specs.Lines.{report_text}
use Rattle.report.specs.Timings.{outcomes_of, tables_if, Shown}
use Rattle.report.specs.declared.lines.Longest.{Longest}
use Rattle.report.specs.declared.lines.Outcomes.{Outcomes}

module _ {P I D : Type 0} (table : TableOf P) (instructions : Meaning I) (data_memory : Meaning D) where
  -- what a run over logs with room for all of it comes to: its history is what the logs hold
  pub record Whole (n : ℕ) (first last : Machine P I D) (rs : List RetiredAt) (cs : List ClockRecord) : Type 0 where
    pub history : List Event
    pub put : Entries
    pub calls : Calls table instructions data_memory first history put last
    pub finished : first.held ≡ false → first.core.counts.clocks ≡ 0 → Finished n last
    pub retired : rs ≡ retired_entries history
    pub clocks : cs ≡ clock_entries history

  pub whole_run : (n : ℕ) (a : List RetiredAt) (b : List ClockRecord) (before after : Journal) (first last : Machine P I D) (r : Run) → n ≤ 4294967295 → logs before ≡ empty_logs a b
      → length a ≡ n → length b ≡ n → RunInto table instructions data_memory (logs before) first n r (logs after) last
      → Whole n first last (records after.retirements) (records after.clocks)
  whole_run n a b before after first last r bound empty la lb ran =
      let es = ran.0 in
      let P : Logs → Type 0 = λ l. RunCall table instructions data_memory l first n r es (logs after) last in
      let made : P (empty_logs a b) = subst P empty ran.1 in
      let l = empty_logs a b in
      let filled : logs after ≡ with_events l es = made.1 in
      let fulls : List Event → Bool = λ x. is_full (with_events l x) in
      let on = clocks_on table instructions data_memory fulls first n r es (is_full (logs after)) last made.0 made.2 in
      let past = not_past table instructions data_memory fulls first n r es (is_full (logs after)) last made.0 made.2 in
      let counted = events_counted table instructions data_memory l first r.made es last made.0 in
      let Q : Logs → Type 0 = λ j. Ended j last n r.made (reason r.why) in
      record {
        history = es;
        put = followed_by no_entries (entries_of es);
        calls = run l (logs after) n r es (entries_of es) last none made
            (record { retired = ap (λ (x : Logs). x.retired.records) filled; clocks = ap (λ (x : Logs). x.clocks.records) filled });
        finished = λ held zero. record {
          within = omega arith;
          ended = ended_why n a b es last r.made (reason r.why) la lb (subst Q filled made.2)
              (held_on table instructions data_memory fulls first n r es (is_full (logs after)) last made.0 made.2 ∙ held) counted (omega arith) bound;
        };
        retired = ap (λ (x : Logs). x.retired.records) filled;
        clocks = ap (λ (x : Logs). x.clocks.records) filled;
      }

  module _ (s : Setup) (w : Longest) (first last : Machine P I D) where
    -- with no log
    pub unlogged_shown : (g k : Gaps) (o : Outcomes) (text : List ℕ) → s.log ≡ false → g ≡ none_yet → RanTo table instructions data_memory s.clocks first g last k → o ≡ outcomes_of last k
        → text ≡ report_text s w o → Shown table instructions data_memory s w first text
    unlogged_shown g k o text unasked fresh ran oe te =
        let h = ran.reached.history in
        let gaps : k ≡ gaps_after none_yet (retired_entries h) = ran.reached.gaps ∙ ap (λ (x : Gaps). gaps_after x (retired_entries h)) fresh in
        record {
          history = h;
          put = ran.reached.put;
          last = last;
          calls = ran.reached.calls;
          finished = λ held zero. record {
            within = ran.within (omega arith);
            ended = ⊎_elim (⊎_elim (λ x. absurd (true≢false (sym x ∙ ran.same_held ∙ held))) (λ x. inl x)) (λ x. inr x) ran.ended;
          };
          shown =
              te ∙ ap (report_text s w) (oe ∙ ap (outcomes_of last) gaps)
              ∙ ap (λ (b : Bool). tables_if b h ++ report_text s w (outcomes_of last (gaps_after none_yet (retired_entries h)))) (sym unasked);
        }

    -- with every clock in the logs
    pub logged_shown : (g : Gaps) (o : Outcomes) (rs : List RetiredAt) (cs : List ClockRecord) (text : List ℕ) → s.log ≡ true → Whole s.clocks first last rs cs → g ≡ gaps_after none_yet rs
        → o ≡ outcomes_of last g → text ≡ two_tables rs cs ++ report_text s w o → Shown table instructions data_memory s w first text
    logged_shown g o rs cs text asked whole ge oe te =
        let h = whole.history in
        let gaps : g ≡ gaps_after none_yet (retired_entries h) = ge ∙ ap (gaps_after none_yet) whole.retired in
        record {
          history = h;
          put = whole.put;
          last = last;
          calls = whole.calls;
          finished = whole.finished;
          shown =
              te ∙ (λ k. two_tables (whole.retired k) (whole.clocks k) ++ report_text s w ((oe ∙ ap (outcomes_of last) gaps) k))
              ∙ ap (λ (b : Bool). tables_if b h ++ report_text s w (outcomes_of last (gaps_after none_yet (retired_entries h)))) (sym asked);
        }
