-- What holds of the segments of a file without a fault.
use Rattle.std.proofs.Common.{◌≡◌, ◌≤◌, ℕ, ◌<◌, ◌==◌, false, if◌then◌else◌, List, length, None, Some, arith}
use Rattle.std.specs.Option.{option_or}
use Rattle.std.proofs.lemmas.Bool.{eqb-false}
use Rattle.elf.specs.Headers.{kind_fault, table_fault}
use Rattle.elf.specs.Images.{first_fault, segments_fault, any_overlap, image_size, memory_size, IsImage}
use Rattle.elf.specs.Programs.{loaded_segments, fault}
use Rattle.elf.specs.declared.segment.Segment.{Segment}
use Rattle.elf.specs.declared.fault.Fault.TheVariants.{Overlapping, NothingToLoad}
use Rattle.elf.proofs.Faultless.{none_parts, if_none_parts}
use Rattle.elf.specs.Places.{Stands}
use Rattle.elf.proofs.Places.{Stands-from_image}
use Rattle.elf.proofs.Sizes.{memory_small, image_within}

pub record IsFaultless (file : List ℕ) : Type 0 where
  pub each : first_fault (length file) (loaded_segments file) ≡ None
  pub apart : any_overlap (loaded_segments file) ≡ false
  pub some : 0 < image_size (loaded_segments file)
  pub within : image_size (loaded_segments file) ≤ memory_size (loaded_segments file)
  pub small : memory_size (loaded_segments file) ≤ 65536

pub IsFaultless-from_none : (file : List ℕ) → fault file ≡ None → IsFaultless file
IsFaultless-from_none file e =
    let header = none_parts (kind_fault file) (option_or (table_fault file) (segments_fault (length file) (loaded_segments file))) e in
    let table = none_parts (table_fault file) (segments_fault (length file) (loaded_segments file)) header.1 in
    let parts = none_parts (first_fault (length file) (loaded_segments file)) (if any_overlap (loaded_segments file) then Some Overlapping else if image_size (loaded_segments file) == 0 then Some NothingToLoad else None) table.1 in
    let apart = if_none_parts (any_overlap (loaded_segments file)) Overlapping (if image_size (loaded_segments file) == 0 then Some NothingToLoad else None) parts.1 in
    let some = if_none_parts (image_size (loaded_segments file) == 0) NothingToLoad None apart.1 in
    record {
      each = parts.0;
      apart = apart.0;
      some = omega (arith, eqb-false (image_size (loaded_segments file)) 0 some.0);
      within = image_within (length file) (loaded_segments file) parts.0;
      small = memory_small (length file) (loaded_segments file) parts.0;
    }

-- how large the memory of the segments of a file without a fault is
pub memory_of : (file : List ℕ) (ss : List Segment) → ss ≡ loaded_segments file → fault file ≡ None
    → memory_size ss ≤ 65536
memory_of file ss same e = rw same (IsFaultless-from_none file e).small

-- how large their image is
pub image_of : (file : List ℕ) (ss : List Segment) → ss ≡ loaded_segments file → fault file ≡ None
    → (0 < image_size ss) × (image_size ss ≤ memory_size ss)
image_of file ss same e = rw same ((IsFaultless-from_none file e).some, (IsFaultless-from_none file e).within)

-- where their bytes stand in it
pub stands_of : (file image : List ℕ) → fault file ≡ None → IsImage file (loaded_segments file) image
    → Stands file image
stands_of file image e made = Stands-from_image file image (IsFaultless-from_none file e).apart made
