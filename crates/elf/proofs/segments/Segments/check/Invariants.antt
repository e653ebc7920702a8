-- No segment so far has a fault, so the first fault is that of those that are left.
use Rattle.std.proofs.Common.{◌≡◌}
use Rattle.elf.specs.Images.{first_fault}
use Rattle.elf.specs.Tables.{segments_left}
use Rattle.elf.proofs.segments.Segments.check.Given as goal

abbrev pub invariant-loop-segment : goal.invariant-loop-segment
invariant-loop-segment l =
    (goal.iterator-loop-segment).can_next l.segment-iterator ×
    (goal.iterator-loop-segment).is_finite l.segment-iterator ×
    (first_fault l.size (segments_left l.segment-iterator) ≡ first_fault l.size (segments_left l.fn.self))
