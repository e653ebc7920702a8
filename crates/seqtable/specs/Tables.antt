-- The print of a sequential run. Assumes nothing.
use Rattle.std.specs.Prelude.{ℕ, List, [], ◌∷◌, ◌++◌, length, codes, decimal, Option}
use Rattle.sequential.specs.declared.record.Retired.{Retired}
use Rattle.sequential.specs.declared.record.Stop.{Stop}
use Rattle.text.specs.Columns.{spaced}
use Rattle.text.specs.Lines.{lines}
use Rattle.seqtable.specs.Records.{record_text, end_text}

abbrev pub retired_line : ℕ → Retired → List ℕ
retired_line number r = spaced (decimal number) (record_text r ++ 10 ∷ [])

abbrev pub end_line : ℕ → Option Stop → List ℕ
end_line number stop = end_text stop ++ (codes " retired " ++ (decimal number ++ 10 ∷ []))

unfoldable pub head_line : List ℕ
head_line = codes "retired address word rd value" ++ 10 ∷ []

unfoldable pub sequence_text : List Retired → Option Stop → List ℕ
sequence_text rs stop = (head_line ++ lines retired_line 1 rs) ++ end_line (length rs) stop
