-- What an ELF file loads. Assumes nothing.
use Rattle.std.specs.Prelude.{◌≡◌, ℕ, ◌<◌, ◌≤◌, List, length, None, Some, Ok, Err, Option, Result, vec_items}
use Rattle.std.specs.Option.{option_or}
use Rattle.elf.specs.Headers.{e_entry, headers, kind_fault, table_fault}
use Rattle.elf.specs.Segments.{segments}
use Rattle.elf.specs.Images.{segments_fault, memory_size, IsImage}
use Rattle.elf.specs.Tables.{segments_left}
use Rattle.elf.specs.declared.segment.Segment.{Segment}
use Rattle.elf.specs.declared.segments.Segments.{Segments}
use Rattle.elf.specs.declared.program.Program.{Program}
use Rattle.elf.specs.declared.fault.Fault.{Fault}
use Rattle.elf.specs.declared.error.ReadError.{ReadError}
use Rattle.elf.specs.declared.error.ReadError.TheVariants.{Faulty, OutOfMemory}

-- the segments that a file loads
abbrev pub loaded_segments : List ℕ → List Segment
loaded_segments file = segments (headers file)

-- the first fault that a file has
abbrev pub fault : List ℕ → Option Fault
fault file =
    option_or (kind_fault file)
    (option_or (table_fault file)
    (segments_fault (length file) (loaded_segments file)))

-- the segments that are loaded, of a file without a fault; or its first fault
abbrev pub Checked : List ℕ → Result Segments Fault → Type 0
Checked file (Ok table) = (fault file ≡ None) × (segments_left table ≡ loaded_segments file)
Checked file (Err why) = fault file ≡ Some why

-- what a file loads
pub record Loads (file : List ℕ) (program : Program) : Type 0 where
  pub faultless : fault file ≡ None
  pub bytes_so : IsImage file (loaded_segments file) (vec_items program.bytes)
  pub memory_so : program.memory_size ≡ memory_size (loaded_segments file)
  pub entry_so : program.entry ≡ e_entry file

-- The answer to a file: what it loads, or its first fault. Only without a fault may there be no memory.
abbrev pub Reads : List ℕ → Result Program ReadError → Type 0
Reads file (Ok program) = Loads file program
Reads file (Err (Faulty why)) = fault file ≡ Some why
Reads file (Err (OutOfMemory error)) = fault file ≡ None

-- There are bytes, the memory has room for them, and it is no larger than 65536.
pub record FitsMemory (program : Program) : Type 0 where
  pub some : 0 < length (vec_items program.bytes)
  pub within : length (vec_items program.bytes) ≤ program.memory_size
  pub small : program.memory_size ≤ 65536
