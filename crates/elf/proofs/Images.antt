-- An image while segments are put into it, one after another.
use Rattle.std.proofs.Common.{◌≡◌, ℕ, ◌≤◌, true, false, if◌then◌else◌, List, [], ◌∷◌, fold, max, refl, inl, inr, arith, rules, tests}
use Rattle.std.specs.List.{list_any}
use Rattle.std.proofs.lemmas.Bool.{both_ways, cases_Bool, or_parts, false_from_ne_true}
use Rattle.elf.specs.Segments.{overlap, file_end, has, stored_byte}
use Rattle.elf.specs.Images.{image_size, byte_at}
use Rattle.elf.specs.declared.segment.Segment.{Segment}

-- two segments that have one address overlap
pub overlap_where_both : (s t : Segment) (x : ℕ) → has s x ≡ true → has t x ≡ true → overlap s t ≡ true
overlap_where_both s t x h k = search (rules, tests)

-- no byte of a segment is written over by those that it does not overlap
byte_at-apart : (file : List ℕ) (s : Segment) (rest : List Segment) (d x : ℕ)
    → list_any (overlap s) rest ≡ false → has s x ≡ true → byte_at file rest d x ≡ d
byte_at-apart file s [] d x e h = refl
byte_at-apart file s (t ∷ rest) d x e h =
    let apart = or_parts (overlap s t) (list_any (overlap s) rest) e in
    let elsewhere : has t x ≡ false = false_from_ne_true (has t x) (λ k. both_ways (overlap s t) apart.0 (overlap_where_both s t x h k)) in
    rw elsewhere (byte_at-apart file s rest d x apart.1 h)

-- a segment may be put first, if it overlaps none of the others
pub byte_at-first : (file : List ℕ) (s : Segment) (rest : List Segment) (d x : ℕ)
    → list_any (overlap s) rest ≡ false
    → byte_at file rest (if has s x then stored_byte file s x else d) x ≡ byte_at file (s ∷ rest) d x
byte_at-first file s rest d x e =
    elim (cases_Bool (has s x)) [
      | inl here ↦ rw here (byte_at-apart file s rest (stored_byte file s x) x e here)
      | inr elsewhere ↦ rw elsewhere refl
    ]

-- the end of the bytes of some is not below where it began
end_grows : (ss : List Segment) (n : ℕ) → n ≤ fold (λ end s. max end (file_end s)) n ss
end_grows [] n = omega arith
end_grows (s ∷ rest) n = omega (arith, end_grows rest (max n (file_end s)))

end_monotone : (ss : List Segment) (m n : ℕ) → m ≤ n
    → fold (λ end s. max end (file_end s)) m ss ≤ fold (λ end s. max end (file_end s)) n ss
end_monotone [] m n h = h
end_monotone (s ∷ rest) m n h = end_monotone rest (max m (file_end s)) (max n (file_end s)) (omega arith)

pub image_size-parts : (s : Segment) (rest : List Segment)
    → (file_end s ≤ image_size (s ∷ rest)) × (image_size rest ≤ image_size (s ∷ rest))
image_size-parts s rest = (omega (arith, end_grows rest (max 0 (file_end s))), end_monotone rest 0 (max 0 (file_end s)) (omega arith))
