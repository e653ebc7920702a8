use Rattle.std.proofs.Common.{◌≡◌}
use Rattle.vectors.proofs.Puts.{with_bytes_to}
use Rattle.vectors.proofs.image.Image.put.Given as goal

abbrev pub invariant-loop-i : goal.invariant-loop-i
invariant-loop-i l =
    (l.self.memory.items ≡ with_bytes_to l.fn.self.memory.items l.fn.address l.fn.word l.i) × (l.self.name ≡ l.fn.self.name) × (l.self.start ≡ l.fn.self.start)
