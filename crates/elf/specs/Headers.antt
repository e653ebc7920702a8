-- The header of a file. Assumes nothing.
use Rattle.std.specs.Prelude.{◌≡◌, ℕ, ◌+◌, ◌*◌, not, ◌&&◌, if◌then◌else◌, List, length, drop, Some, None, Ok, Err, Option, Result, ◌==◌, nat_lt}
use Rattle.std.specs.Simd.{first_chunks}
use Rattle.elf.specs.Fields.{is_elf, byte, half, word}
use Rattle.elf.specs.declared.fault.Fault.{Fault}
use Rattle.elf.specs.declared.fault.Fault.TheVariants.{NotElf, TruncatedHeader, Not32Bit, NotLittleEndian, NotVersion1, NotRiscV, NotExecutable, HeaderSize, HeadersOutside}
use Rattle.elf.specs.declared.segments.Segments.{Segments}

-- the fields of the header that are read
abbrev pub ei_class : List ℕ → ℕ
ei_class file = byte file 4

abbrev pub ei_data : List ℕ → ℕ
ei_data file = byte file 5

abbrev pub ei_version : List ℕ → ℕ
ei_version file = byte file 6

abbrev pub e_type : List ℕ → ℕ
e_type file = half file 16

abbrev pub e_machine : List ℕ → ℕ
e_machine file = half file 18

abbrev pub e_version : List ℕ → ℕ
e_version file = word file 20

abbrev pub e_entry : List ℕ → ℕ
e_entry file = word file 24

abbrev pub e_phoff : List ℕ → ℕ
e_phoff file = word file 28

abbrev pub e_phentsize : List ℕ → ℕ
e_phentsize file = half file 42

abbrev pub e_phnum : List ℕ → ℕ
e_phnum file = half file 44

-- the program headers, of 32 bytes each, one behind another
abbrev pub headers : List ℕ → List (List ℕ)
headers file = first_chunks 32 (e_phnum file) (drop (e_phoff file) file)

-- what a file is not, by its first bytes and by the fields of its header
abbrev pub kind_fault : List ℕ → Option Fault
kind_fault file =
    if not (is_elf file) then Some NotElf
    else if nat_lt (length file) 52 then Some TruncatedHeader
    else if not (ei_class file == 1) then Some Not32Bit
    else if not (ei_data file == 1) then Some NotLittleEndian
    else if not (ei_version file == 1 && e_version file == 1) then Some NotVersion1
    else if not (e_machine file == 243) then Some NotRiscV
    else if not (e_type file == 2) then Some NotExecutable
    else None

-- what is wrong with where its program headers stand
abbrev pub table_fault : List ℕ → Option Fault
table_fault file =
    if nat_lt 0 (e_phnum file) && not (e_phentsize file == 32) then Some HeaderSize
    else if nat_lt (length file) (e_phoff file + 32 * e_phnum file) then Some HeadersOutside
    else None

-- the program headers, or what is wrong with where they stand
abbrev pub TableRead : List ℕ → Result Segments Fault → Type 0
TableRead file (Ok table) = (table_fault file ≡ None) × (table.headers.now ≡ headers file)
TableRead file (Err why) = table_fault file ≡ Some why
