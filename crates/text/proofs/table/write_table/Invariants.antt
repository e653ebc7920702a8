use Rattle.std.proofs.Common.{◌≡◌, ◌++◌, take, string_bytes}
use Rattle.text.specs.Lines.{lines}
use Rattle.text.proofs.table.write_table.Given as goal

abbrev pub invariant-loop-i : goal.invariant-loop-i
invariant-loop-i g l = string_bytes l.text ≡ string_bytes l.fn.text ++ (l.head ++ lines g.C.Columns.line 1 (take l.i l.records))
