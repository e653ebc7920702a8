-- Segments, as program headers say them. Assumes nothing.
use Rattle.std.specs.Prelude.{ℕ, ◌+◌, ◌-◌, Bool, ◌&&◌, not, if◌then◌else◌, List, Some, None, Option, max, ◌==◌, nat_lt, nat_le}
use Rattle.std.specs.List.{filter_map}
use Rattle.elf.specs.Fields.{byte, word}
use Rattle.elf.specs.declared.segment.Segment.{Segment}
use Rattle.elf.specs.declared.fault.Fault.{Fault}
use Rattle.elf.specs.declared.fault.Fault.TheVariants.{SegmentOutside, FileAboveMemory, BeyondPhysical, BeyondVirtual}

-- the fields of a program header that are read
abbrev pub p_type : List ℕ → ℕ
p_type header = word header 0

abbrev pub p_offset : List ℕ → ℕ
p_offset header = word header 4

abbrev pub p_vaddr : List ℕ → ℕ
p_vaddr header = word header 8

abbrev pub p_paddr : List ℕ → ℕ
p_paddr header = word header 12

abbrev pub p_filesz : List ℕ → ℕ
p_filesz header = word header 16

abbrev pub p_memsz : List ℕ → ℕ
p_memsz header = word header 20

-- it is of type PT_LOAD, and its segment has bytes in the file or in memory
abbrev pub is_loaded : List ℕ → Bool
is_loaded header = p_type header == 1 && not (p_filesz header == 0 && p_memsz header == 0)

-- its segment
abbrev pub segment : List ℕ → Segment
segment header = record {
  offset = p_offset header;
  virtual_address = p_vaddr header;
  physical_address = p_paddr header;
  file_size = p_filesz header;
  memory_size = p_memsz header;
}

abbrev pub loaded_segment : List ℕ → Option Segment
loaded_segment header = if is_loaded header then Some (segment header) else None

-- the segments that are loaded, of many program headers
abbrev pub segments : List (List ℕ) → List Segment
segments headers = filter_map loaded_segment headers

-- the first fault that a segment has by itself, in a file of so many bytes
abbrev pub segment_fault : ℕ → Segment → Option Fault
segment_fault size s =
    if nat_lt 0 s.file_size && nat_lt size (s.offset + s.file_size) then Some SegmentOutside
    else if nat_lt s.memory_size s.file_size then Some FileAboveMemory
    else if nat_lt 65536 (s.physical_address + s.memory_size) then Some BeyondPhysical
    else if nat_lt 65536 (s.virtual_address + s.memory_size) then Some BeyondVirtual
    else None

-- where its bytes in the file end once they are loaded, at its physical address; 0 if it has none
abbrev pub file_end : Segment → ℕ
file_end s = if s.file_size == 0 then 0 else s.physical_address + s.file_size

-- where its bytes in memory end, by either address
abbrev pub memory_end : Segment → ℕ
memory_end s = max s.physical_address s.virtual_address + s.memory_size

-- one of its bytes in the file is loaded at x
abbrev pub has : Segment → ℕ → Bool
has s x = nat_le s.physical_address x && nat_lt x (file_end s)

-- that byte
abbrev pub stored_byte : List ℕ → Segment → ℕ → ℕ
stored_byte file s x = byte file (s.offset + (x - s.physical_address))

-- bytes of both are loaded at one address: each begins before the other ends
abbrev pub overlap : Segment → Segment → Bool
overlap s t = nat_lt s.physical_address (file_end t) && nat_lt t.physical_address (file_end s)
