-- The lines of a report. Assumes nothing.
use Rattle.std.specs.Prelude.{ℕ, ◌+◌, List, [], ◌∷◌, ◌++◌, codes, decimal, Option}
use Rattle.seqtable.specs.Records.{end_text}
use Rattle.pipeline.specs.declared.machine.Totals.{Totals}
use Rattle.sequential.specs.declared.record.Stop.{Stop}
use Rattle.setup.specs.Predictors.{predictor_text}
use Rattle.setup.specs.Stacks.{stack_text}
use Rattle.setup.specs.declared.choice.Setup.{Setup}
use Rattle.report.specs.declared.lines.Longest.{Longest}
use Rattle.report.specs.declared.lines.Outcomes.{Outcomes}

-- the chosen parts, and the longest waits that the memories state
abbrev pub setup_lines : Setup → Longest → List ℕ
setup_lines s w =
    codes "predictor " ++ (predictor_text s.predictor ++ (10 ∷ codes "instructions " ++ (stack_text s.instructions ++ (codes " longest " ++ (decimal w.instructions
    ++ (10 ∷ codes "data " ++ (stack_text s.data_memory ++ (codes " longest " ++ (decimal w.data_memory ++ 10 ∷ [])))))))))

-- the bounds that hold of every run
abbrev pub bounds_line : ℕ → ℕ → List ℕ
bounds_line first next = codes "first retirement within " ++ (decimal first ++ (codes " clocks, each next within " ++ (decimal next ++ 10 ∷ [])))

abbrev pub totals_line : Totals → List ℕ
totals_line t =
    codes "clocks " ++ (decimal t.clocks ++ (codes " fetched " ++ (decimal t.fetched ++ (codes " retired " ++ (decimal t.retired ++ (codes " dropped " ++ (decimal t.dropped
    ++ (codes " in flight " ++ (decimal t.in_flight ++ 10 ∷ [])))))))))

abbrev pub gap_line : ℕ → List ℕ
gap_line gap = codes "longest gap " ++ (decimal gap ++ 10 ∷ [])

-- the stop, or that the limit was met
abbrev pub last_line : Option Stop → List ℕ
last_line stop = end_text stop ++ 10 ∷ []

-- the longest waits of both memories together, and so many clocks more
abbrev pub bound : Longest → ℕ → ℕ
bound w more = w.instructions + w.data_memory + more

-- all of them
unfoldable pub report_text : Setup → Longest → Outcomes → List ℕ
report_text s w o = (((setup_lines s w ++ bounds_line (bound w 5) (bound w 3)) ++ totals_line o.counts) ++ gap_line o.gap) ++ last_line o.stop
