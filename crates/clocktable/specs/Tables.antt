-- The print of a clocked run. Assumes nothing.
use Rattle.std.specs.Prelude.{ℕ, Bool, if◌then◌else◌, ◌||◌, List, [], ◌∷◌, ◌++◌, Some, None, codes, decimal, Option}
use Rattle.std.proofs.Math.Utf8.{encode}
use Rattle.std.specs.Bool.{then_some}
use Rattle.clocking.specs.declared.state.ClockRecord.{ClockRecord}
use Rattle.clocking.specs.declared.state.Notes.{Notes}
use Rattle.text.specs.Columns.{spaced}
use Rattle.text.specs.Hex.{hex, places}
use Rattle.text.specs.Lines.{lines}
use Rattle.pipeline.specs.declared.machine.RetiredAt.{RetiredAt}
use Rattle.pipeline.specs.declared.machine.Totals.{Totals}
use Rattle.sequential.specs.declared.record.Stop.{Stop}
use Rattle.seqtable.specs.Records.{record_text, end_text}

-- the address in a latch, or a hyphen
abbrev pub address_text : Option ℕ → List ℕ
address_text None = 45 ∷ []
address_text (Some a) = hex places a

abbrev pub letter_text : Option ℕ → List ℕ
letter_text None = []
letter_text (Some c) = encode c

-- a letter for what happened
abbrev pub letter : ℕ → Bool → List ℕ
letter c happened = letter_text (then_some happened c)

-- f, h, d, r and s, in that order
abbrev pub letters : Notes → List ℕ
letters n = letter 102 n.fetch_wait ++ (letter 104 n.hazard ++ (letter 100 n.data_wait ++ (letter 114 n.rollback ++ letter 115 n.stop)))

abbrev pub noted : Notes → Bool
noted n = n.fetch_wait || (n.hazard || (n.data_wait || (n.rollback || n.stop)))

-- the letters, or a hyphen
abbrev pub notes_text : Notes → List ℕ
notes_text n = if noted n then letters n else (45 ∷ [])

abbrev pub stages_text : ClockRecord → List ℕ
stages_text c = spaced (address_text c.d) (spaced (address_text c.x) (spaced (address_text c.m) (address_text c.w)))

abbrev pub clock_text : ClockRecord → List ℕ
clock_text c = spaced (decimal c.clock) (spaced (hex places c.f) (spaced (stages_text c) (notes_text c.notes)))

abbrev pub retired_line : ℕ → RetiredAt → List ℕ
retired_line number r = spaced (decimal number) (spaced (decimal r.clock) (record_text r.retired ++ 10 ∷ []))

abbrev pub clock_line : ℕ → ClockRecord → List ℕ
clock_line number c = clock_text c ++ 10 ∷ []

abbrev pub counts_text : Totals → List ℕ
counts_text t = codes "fetched " ++ (decimal t.fetched ++ (codes " retired " ++ (decimal t.retired ++ (codes " dropped " ++ decimal t.dropped))))

-- the last line: the stop, or that the limit was met, and the counts
abbrev pub end_line : Option Stop → Totals → List ℕ
end_line stop t = spaced (end_text stop) (counts_text t ++ 10 ∷ [])

unfoldable pub retired_head : List ℕ
retired_head = codes "retired clock address word rd value" ++ 10 ∷ []

unfoldable pub clock_head : List ℕ
clock_head = codes "clock IF ID EX MEM WB note" ++ 10 ∷ []

-- what retired, and the clocks
unfoldable pub two_tables : List RetiredAt → List ClockRecord → List ℕ
two_tables rs cs = (retired_head ++ lines retired_line 1 rs) ++ (clock_head ++ lines clock_line 1 cs)

unfoldable pub clock_table : List RetiredAt → List ClockRecord → Option Stop → Totals → List ℕ
clock_table rs cs stop t = two_tables rs cs ++ end_line stop t
