-- Program headers that load nothing are passed over, so the segments stay the same.
use Rattle.std.proofs.Common.{◌≡◌, length}
use Rattle.elf.specs.Tables.{segments_left}
use Rattle.elf.proofs.segments.SegmentsIterator.next.Given as goal

abbrev pub invariant-loop-header : goal.invariant-loop-header
invariant-loop-header l = segments_left l.self ≡ segments_left l.initial.self

abbrev pub decreases-loop-header : goal.decreases-loop-header
decreases-loop-header l = length l.self.headers.now
