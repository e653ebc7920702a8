-- The segments of a table. Assumes nothing.
use Rattle.std.specs.Prelude.{List}
use Rattle.elf.specs.Segments.{segments}
use Rattle.elf.specs.declared.segment.Segment.{Segment}
use Rattle.elf.specs.declared.segments.Segments.{Segments}

-- those that are left
abbrev pub segments_left : Segments → List Segment
segments_left table = segments table.headers.now
