-- What is said of a file that is refused. Assumes nothing.
use Rattle.std.specs.Prelude.{ℕ, List, codes}
use Rattle.elf.specs.declared.error.ReadError.{ReadError}
use Rattle.elf.specs.declared.error.ReadError.TheVariants.{Faulty, OutOfMemory}
use Rattle.elf.specs.declared.fault.Fault.{Fault}
use Rattle.elf.specs.declared.fault.Fault.TheVariants.{NotElf, TruncatedHeader, Not32Bit, NotLittleEndian, NotVersion1, NotRiscV, NotExecutable, HeaderSize, HeadersOutside, SegmentOutside, FileAboveMemory, BeyondPhysical, BeyondVirtual, Overlapping, NothingToLoad}

abbrev pub number : Fault → ℕ
number NotElf = 1
number TruncatedHeader = 2
number Not32Bit = 3
number NotLittleEndian = 4
number NotVersion1 = 5
number NotRiscV = 6
number NotExecutable = 7
number HeaderSize = 8
number HeadersOutside = 9
number SegmentOutside = 10
number FileAboveMemory = 11
number BeyondPhysical = 12
number BeyondVirtual = 13
number Overlapping = 14
number NothingToLoad = 15

abbrev pub fault_text : Fault → List ℕ
fault_text NotElf = codes "the file is not an ELF file"
fault_text TruncatedHeader = codes "the ELF file ends within its header"
fault_text Not32Bit = codes "the ELF file is not of 32 bits"
fault_text NotLittleEndian = codes "the ELF file is not little-endian"
fault_text NotVersion1 = codes "the ELF file is not of version 1"
fault_text NotRiscV = codes "the ELF file is not for RISC-V"
fault_text NotExecutable = codes "the ELF file is not an executable, but relocatable, shared or of another type"
fault_text HeaderSize = codes "the ELF file has program headers of another size than 32 bytes"
fault_text HeadersOutside = codes "the ELF file has program headers that lie outside of it"
fault_text SegmentOutside = codes "the ELF file has a segment whose bytes lie outside of it"
fault_text FileAboveMemory = codes "the ELF file has a segment of more bytes in the file than in memory"
fault_text BeyondPhysical = codes "the ELF file has a segment that ends beyond 65536 by its physical address"
fault_text BeyondVirtual = codes "the ELF file has a segment that ends beyond 65536 by its virtual address"
fault_text Overlapping = codes "the ELF file has segments that overlap by their physical addresses"
fault_text NothingToLoad = codes "the ELF file has no segment with bytes to load"

abbrev pub error_text : ReadError → List ℕ
error_text (Faulty fault) = fault_text fault
error_text (OutOfMemory error) = codes "there is not enough memory"
