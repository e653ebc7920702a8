-- What segments load together. Assumes nothing.
use Rattle.std.specs.Prelude.{◌≡◌, ℕ, Bool, false, ◌||◌, if◌then◌else◌, List, [], ◌∷◌, length, Some, None, Option, fold, max, ◌==◌, slice_index, EachIndex}
use Rattle.std.specs.List.{list_any}
use Rattle.std.specs.Option.{option_or}
use Rattle.elf.specs.Segments.{segment_fault, file_end, memory_end, has, stored_byte, overlap}
use Rattle.elf.specs.declared.segment.Segment.{Segment}
use Rattle.elf.specs.declared.fault.Fault.{Fault}
use Rattle.elf.specs.declared.fault.Fault.TheVariants.{Overlapping, NothingToLoad}

-- the first fault that one of them has by itself
abbrev pub first_fault : ℕ → List Segment → Option Fault
first_fault size [] = None
first_fault size (s ∷ rest) = option_or (segment_fault size s) (first_fault size rest)

-- two of them overlap
abbrev pub any_overlap : List Segment → Bool
any_overlap [] = false
any_overlap (s ∷ rest) = list_any (overlap s) rest || any_overlap rest

-- where the bytes of all in the file end
abbrev pub image_size : List Segment → ℕ
image_size ss = fold (λ end s. max end (file_end s)) 0 ss

-- where the bytes of all in memory end
abbrev pub memory_size : List Segment → ℕ
memory_size ss = fold (λ end s. max end (memory_end s)) 0 ss

-- the first fault that they have, in a file of so many bytes
abbrev pub segments_fault : ℕ → List Segment → Option Fault
segments_fault size ss =
    option_or (first_fault size ss)
    (if any_overlap ss then Some Overlapping
    else if image_size ss == 0 then Some NothingToLoad
    else None)

-- the byte at x: that of the segment that has one there, or d where none has
abbrev pub byte_at : List ℕ → List Segment → ℕ → ℕ → ℕ
byte_at file [] d x = d
byte_at file (s ∷ rest) d x = if has s x then stored_byte file s x else byte_at file rest d x

-- an image after their bytes were put into it
abbrev pub Puts : List ℕ → List Segment → List ℕ → List ℕ → Type 0
Puts file ss old new =
    EachIndex new (λ x. slice_index new x ≡ byte_at file ss (slice_index old x) x)

-- the image of segments: their bytes, and zeros between them
pub record IsImage (file : List ℕ) (ss : List Segment) (image : List ℕ) : Type 0 where
  pub size_so : length image ≡ image_size ss
  pub bytes_so : EachIndex image (λ x. slice_index image x ≡ byte_at file ss 0 x)
