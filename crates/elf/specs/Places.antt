-- Where the bytes of a file stand in its image, program header by program header. Assumes nothing.
use Rattle.std.specs.Prelude.{◌≡◌, ℕ, ◌+◌, ◌*◌, ◌<◌, ◌≤◌, ◌⊎◌, List, take, drop, slice_index}
use Rattle.elf.specs.Fields.{byte}
use Rattle.elf.specs.Headers.{e_phoff, e_phnum}
use Rattle.elf.specs.Segments.{p_type, p_offset, p_paddr, p_filesz}

-- the program header number k, from 0 on
abbrev pub program_header : List ℕ → ℕ → List ℕ
program_header file k = take 32 (drop (e_phoff file + 32 * k) file)

-- it is of type PT_LOAD
pub record IsLoadable (file : List ℕ) (k : ℕ) : Type 0 where
  pub there : k < e_phnum file
  pub type_so : p_type (program_header file k) ≡ 1

-- x is no address at which its bytes are loaded
abbrev pub IsElsewhere : List ℕ → ℕ → Type 0
IsElsewhere header x = (x < p_paddr header) ⊎ (p_paddr header + p_filesz header ≤ x)

-- Each byte of each loadable segment stands at its physical address, and zeros everywhere else.
pub record Stands (file image : List ℕ) : Type 0 where
  pub bytes_so :
      (k i : ℕ) → IsLoadable file k → i < p_filesz (program_header file k) →
      slice_index image (p_paddr (program_header file k) + i) ≡
      byte file (p_offset (program_header file k) + i)
  pub zeros_so :
      (x : ℕ) → ((k : ℕ) → IsLoadable file k → IsElsewhere (program_header file k) x) →
      slice_index image x ≡ 0
