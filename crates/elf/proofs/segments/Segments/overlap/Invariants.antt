-- No segment so far overlaps one behind it, so two overlap where two of those that are left do.
use Rattle.std.proofs.Common.{◌≡◌}
use Rattle.elf.specs.Images.{any_overlap}
use Rattle.elf.specs.Tables.{segments_left}
use Rattle.elf.proofs.segments.Segments.overlap.Given as goal

abbrev pub invariant-loop-segment : goal.invariant-loop-segment
invariant-loop-segment l =
    (goal.iterator-loop-segment).can_next l.self ×
    (goal.iterator-loop-segment).is_finite l.self ×
    (any_overlap (segments_left l.self) ≡ any_overlap (segments_left l.fn.self))
