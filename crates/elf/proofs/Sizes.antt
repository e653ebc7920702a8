-- How large the image and the memory of segments without a fault are.
use Rattle.std.proofs.Common.{◌≡◌, ℕ, ◌+◌, ◌≤◌, List, [], ◌∷◌, None, fold, max, arith, eqb}
use Rattle.std.proofs.lemmas.Bool.{cond_both}
use Rattle.elf.specs.Segments.{file_end, memory_end}
use Rattle.elf.specs.Images.{first_fault, image_size, memory_size}
use Rattle.elf.specs.declared.segment.Segment.{Segment}
use Rattle.elf.proofs.Faultless.{IsSound, IsSound-from_none, faultless_parts}

memory_end_small : (size : ℕ) (s : Segment) → IsSound size s → memory_end s ≤ 65536
memory_end_small size s h = omega (arith, h.physical, h.virtual)

file_end_within : (size : ℕ) (s : Segment) → IsSound size s → file_end s ≤ memory_end s
file_end_within size s h =
    cond_both (eqb s.file_size 0) 0 (s.physical_address + s.file_size) (λ end. end ≤ memory_end s) (λ e. omega arith) (λ e. omega (arith, h.no_more))

memory_small_from : (size : ℕ) (ss : List Segment) (n : ℕ) → first_fault size ss ≡ None → n ≤ 65536
    → fold (λ end s. max end (memory_end s)) n ss ≤ 65536
memory_small_from size [] n e h = h
memory_small_from size (s ∷ rest) n e h =
    let parts = faultless_parts size s rest e in
    let small = memory_end_small size s (IsSound-from_none size s parts.0) in
    memory_small_from size rest (max n (memory_end s)) parts.1 (omega (arith, small))

image_within_from : (size : ℕ) (ss : List Segment) (m n : ℕ) → first_fault size ss ≡ None → m ≤ n
    → fold (λ end s. max end (file_end s)) m ss ≤ fold (λ end s. max end (memory_end s)) n ss
image_within_from size [] m n e h = h
image_within_from size (s ∷ rest) m n e h =
    let parts = faultless_parts size s rest e in
    let within = file_end_within size s (IsSound-from_none size s parts.0) in
    image_within_from size rest (max m (file_end s)) (max n (memory_end s)) parts.1 (omega (arith, within))

pub memory_small : (size : ℕ) (ss : List Segment) → first_fault size ss ≡ None → memory_size ss ≤ 65536
memory_small size ss e = memory_small_from size ss 0 e (omega arith)

pub image_within : (size : ℕ) (ss : List Segment) → first_fault size ss ≡ None → image_size ss ≤ memory_size ss
image_within size ss e = image_within_from size ss 0 0 e (omega arith)
