-- Where the bytes of a file stand in its image, program header by program header.
use Rattle.std.proofs.Common.{slice_index, ◌≡◌, ◌∙◌, ℕ, zero, suc, ◌+◌, ◌-◌, ◌*◌, ◌<◌, ◌≤◌, ◌&&◌, Bool, true, false, not, eqb, ltb, leb, inl, inr, List, [], ◌∷◌, length, take, drop, get_or, refl, sym, ap, arith}
use Rattle.std.specs.List.{list_any}
use Rattle.std.proofs.lemmas.Bool.{and_from, not_from_false, and_left, eq-eqb, ne_eqb, cond-true, cond-false, cond_both, le-leb, lt-leb, le-ltb, lt-ltb, eqb-true, and_parts, and_right, or_parts, cases_Bool, cases_lt, both_ways, false_from_ne_true}
use Rattle.std.specs.Simd.{first_chunks}
use Rattle.std.proofs.lemmas.List.{drop-drop, get_or_past}
use Rattle.elf.specs.Fields.{byte}
use Rattle.elf.specs.Headers.{e_phoff, e_phnum, headers}
use Rattle.elf.specs.Segments.{p_type, p_offset, p_paddr, p_filesz, p_memsz, is_loaded, segment, segments, file_end, has, stored_byte, overlap}
use Rattle.elf.specs.Images.{any_overlap, image_size, byte_at, IsImage}
use Rattle.elf.specs.Places.{program_header, IsLoadable, IsElsewhere, Stands}
use Rattle.elf.proofs.Images.{overlap_where_both, image_size-parts}
use Rattle.elf.specs.declared.segment.Segment.{Segment}

-- a piece by its number
length-first_chunks : {X : Type 0} (n k : ℕ) (xs : List X) → length (first_chunks n k xs) ≡ k
length-first_chunks n zero xs = refl
length-first_chunks n (suc k) xs = ap (λ (j : ℕ). suc j) (length-first_chunks n k (drop n xs))

get_or-first_chunks : (count : ℕ) (xs : List ℕ) (k at : ℕ) → k < count → at ≡ 32 * k
    → get_or (first_chunks 32 count xs) k [] ≡ take 32 (drop at xs)
get_or-first_chunks zero xs k at h e = absurd (omega arith)
get_or-first_chunks (suc count) xs zero at h e =
    let front : at ≡ 0 = omega arith in
    rw front refl
get_or-first_chunks (suc count) xs (suc k) at h e =
    let further : at ≡ 32 + 32 * k = omega arith in
    get_or-first_chunks count (drop 32 xs) k (32 * k) (omega arith) refl ∙ ap (take 32) (drop-drop (32 * k) 32 xs ∙ ap (λ (j : ℕ). drop j xs) (sym further))

-- a loadable program header that has a byte in the file
pub record IsFilled (header : List ℕ) : Type 0 where
  pub type_so : p_type header ≡ 1
  pub some : 0 < p_filesz header

is_loaded_where_filled : (header : List ℕ) → IsFilled header → is_loaded header ≡ true
is_loaded_where_filled header h =
    let some : eqb (p_filesz header) 0 ≡ false = ne_eqb (p_filesz header) 0 (λ e. omega (arith, h.some, e)) in
    and_from (eqb (p_type header) 1) (not (eqb (p_filesz header) 0 && eqb (p_memsz header) 0)) (eq-eqb (p_type header) 1 h.type_so)
    (not_from_false (eqb (p_filesz header) 0 && eqb (p_memsz header) 0) (and_left (eqb (p_filesz header) 0) (eqb (p_memsz header) 0) some))

file_end-filled : (s : Segment) → 0 < s.file_size → file_end s ≡ s.physical_address + s.file_size
file_end-filled s h = cond-false (eqb s.file_size 0) 0 (s.physical_address + s.file_size) (ne_eqb s.file_size 0 (λ e. omega arith))

-- its segment has each address at which its bytes are loaded
has_own : (s : Segment) (i : ℕ) → i < s.file_size → has s (s.physical_address + i) ≡ true
has_own s i h =
    let end = file_end-filled s (omega arith) in
    and_from (leb s.physical_address (s.physical_address + i)) (ltb (s.physical_address + i) (file_end s)) (le-leb _ _ (omega arith)) (lt-ltb _ _ (omega (arith, end)))

-- the segments of one program header more
segments-loaded : (header : List ℕ) (rest : List (List ℕ)) → is_loaded header ≡ true
    → segments (header ∷ rest) ≡ segment header ∷ segments rest
segments-loaded header rest l = rw l refl

segments-passed : (header : List ℕ) (rest : List (List ℕ)) → is_loaded header ≡ false
    → segments (header ∷ rest) ≡ segments rest
segments-passed header rest l = rw l refl

-- what holds of no segment does not hold of that of one program header
none_of : (p : Segment → Bool) (hs : List (List ℕ)) (k : ℕ) → k < length hs
    → is_loaded (get_or hs k []) ≡ true → list_any p (segments hs) ≡ false
    → p (segment (get_or hs k [])) ≡ false
none_of p [] k h l e = absurd (omega arith)
none_of p (header ∷ rest) zero h l e =
    (or_parts (p (segment header)) (list_any p (segments rest)) (rw (segments-loaded header rest l) at e)).0
none_of p (header ∷ rest) (suc k) h l e =
    elim (cases_Bool (is_loaded header)) [
      | inl first ↦ none_of p rest k (omega arith) l (or_parts (p (segment header)) (list_any p (segments rest)) (rw (segments-loaded header rest first) at e)).1
      | inr passed ↦ none_of p rest k (omega arith) l (rw (segments-passed header rest passed) at e)
    ]

-- the byte at x is that of the one program header whose segment has it
own_byte : (file : List ℕ) (hs : List (List ℕ)) (k d x : ℕ) → k < length hs
    → is_loaded (get_or hs k []) ≡ true → has (segment (get_or hs k [])) x ≡ true
    → any_overlap (segments hs) ≡ false
    → byte_at file (segments hs) d x ≡ stored_byte file (segment (get_or hs k [])) x
own_byte file [] k d x h l m e = absurd (omega arith)
own_byte file (header ∷ rest) zero d x h l m e =
    ap (λ (ss : List Segment). byte_at file ss d x) (segments-loaded header rest l) ∙ cond-true (has (segment header) x) (stored_byte file (segment header) x) (byte_at file (segments rest) d x) m
own_byte file (header ∷ rest) (suc k) d x h l m e =
    elim (cases_Bool (is_loaded header)) [
      | inl first ↦
          let apart = or_parts (list_any (overlap (segment header)) (segments rest)) (any_overlap (segments rest)) (rw (segments-loaded header rest first) at e) in
          let other : overlap (segment header) (segment (get_or rest k [])) ≡ false = none_of (overlap (segment header)) rest k (omega arith) l apart.0 in
          let elsewhere : has (segment header) x ≡ false = false_from_ne_true (has (segment header) x) (λ t. both_ways (overlap (segment header) (segment (get_or rest k []))) other (overlap_where_both (segment header) (segment (get_or rest k [])) x t m)) in
          ap (λ (ss : List Segment). byte_at file ss d x) (segments-loaded header rest first) ∙ (cond-false (has (segment header) x) (stored_byte file (segment header) x) (byte_at file (segments rest) d x) elsewhere ∙ own_byte file rest k d x (omega arith) l m apart.1)
      | inr passed ↦
          ap (λ (ss : List Segment). byte_at file ss d x) (segments-passed header rest passed) ∙ own_byte file rest k d x (omega arith) l m (rw (segments-passed header rest passed) at e)
    ]

-- where a segment's bytes end is not behind the end of the image
own_end : (hs : List (List ℕ)) (k : ℕ) → k < length hs → is_loaded (get_or hs k []) ≡ true
    → file_end (segment (get_or hs k [])) ≤ image_size (segments hs)
own_end [] k h l = absurd (omega arith)
own_end (header ∷ rest) zero h l = rw (segments-loaded header rest l) (image_size-parts (segment header) (segments rest)).0
own_end (header ∷ rest) (suc k) h l =
    elim (cases_Bool (is_loaded header)) [
      | inl first ↦ rw (segments-loaded header rest first) (omega (arith, own_end rest k (omega arith) l, (image_size-parts (segment header) (segments rest)).1))
      | inr passed ↦ rw (segments-passed header rest passed) (own_end rest k (omega arith) l)
    ]

-- no segment has a byte where no loadable program header says so
has_none : (header : List ℕ) (x : ℕ) → IsElsewhere header x → has (segment header) x ≡ false
has_none header x h =
    let s = segment header in
    elim h [
      | inl below ↦ and_left (leb s.physical_address x) (ltb x (file_end s)) (lt-leb s.physical_address x below)
      | inr above ↦
          let end : file_end s ≤ x = cond_both (eqb s.file_size 0) 0 (s.physical_address + s.file_size) (λ n. n ≤ x) (λ e. omega arith) (λ e. above) in
          and_right (leb s.physical_address x) (ltb x (file_end s)) (le-ltb x (file_end s) end)
    ]

no_byte : (file : List ℕ) (hs : List (List ℕ)) (x : ℕ)
    → ((k : ℕ) → k < length hs → p_type (get_or hs k []) ≡ 1 → IsElsewhere (get_or hs k []) x)
    → byte_at file (segments hs) 0 x ≡ 0
no_byte file [] x h = refl
no_byte file (header ∷ rest) x h =
    let behind = no_byte file rest x (λ k l t. h (suc k) (omega arith) t) in
    elim (cases_Bool (is_loaded header)) [
      | inl first ↦
          let type_so = eqb-true (p_type header) 1 (and_parts (eqb (p_type header) 1) (not (eqb (p_filesz header) 0 && eqb (p_memsz header) 0)) first).0 in
          let elsewhere = has_none header x (h 0 (omega arith) type_so) in
          ap (λ (ss : List Segment). byte_at file ss 0 x) (segments-loaded header rest first) ∙ (cond-false (has (segment header) x) (stored_byte file (segment header) x) (byte_at file (segments rest) 0 x) elsewhere ∙ behind)
      | inr passed ↦ ap (λ (ss : List Segment). byte_at file ss 0 x) (segments-passed header rest passed) ∙ behind
    ]

-- a program header of the table is that of its number
header_by_number : (file : List ℕ) (k : ℕ) → k < e_phnum file → get_or (headers file) k [] ≡ program_header file k
header_by_number file k h =
    get_or-first_chunks (e_phnum file) (drop (e_phoff file) file) k (32 * k) h refl ∙ ap (take 32) (drop-drop (32 * k) (e_phoff file) file)

header_count : (file : List ℕ) → length (headers file) ≡ e_phnum file
header_count file = length-first_chunks 32 (e_phnum file) (drop (e_phoff file) file)

-- each byte of a program header's segment stands where it is loaded
byte_stands : (file image : List ℕ) (hs : List (List ℕ)) (k i : ℕ) (header : List ℕ)
    → get_or hs k [] ≡ header → k < length hs → any_overlap (segments hs) ≡ false
    → IsImage file (segments hs) image → IsFilled header → i < p_filesz header
    → slice_index image (p_paddr header + i) ≡ byte file (p_offset header + i)
byte_stands file image hs k i header same h apart made filled l =
    let s = segment header in
    let load : is_loaded (get_or hs k []) ≡ true = rw same (is_loaded_where_filled header filled) in
    let here : has (segment (get_or hs k [])) (p_paddr header + i) ≡ true = rw same (has_own s i l) in
    let own : byte_at file (segments hs) 0 (p_paddr header + i) ≡ stored_byte file s (p_paddr header + i) = rw same at (own_byte file hs k 0 (p_paddr header + i) h load here apart) in
    let end : file_end s ≤ image_size (segments hs) = rw same at (own_end hs k h load) in
    let inside : p_paddr header + i < length image = omega (arith, file_end-filled s filled.some, end, made.size_so, l) in
    let back : p_paddr header + i - p_paddr header ≡ i = omega arith in
    made.bytes_so (p_paddr header + i) inside ∙ (own ∙ ap (λ (n : ℕ). byte file (p_offset header + n)) back)

zero_stands : (file image : List ℕ) (x : ℕ) → IsImage file (segments (headers file)) image
    → ((k : ℕ) → IsLoadable file k → IsElsewhere (program_header file k) x) → slice_index image x ≡ 0
zero_stands file image x made h =
    elim (cases_lt x (length image)) [
      | inl inside ↦
          made.bytes_so x inside ∙ no_byte file (headers file) x (λ k l t.
          let there : k < e_phnum file = omega (arith, header_count file) in
          let same = header_by_number file k there in
          rw same (h k record { there = there; type_so = rw same at t }))
      | inr behind ↦ get_or_past image x 0 behind
    ]

pub Stands-from_image : (file image : List ℕ) → any_overlap (segments (headers file)) ≡ false
    → IsImage file (segments (headers file)) image → Stands file image
Stands-from_image file image apart made = record {
  bytes_so = λ k i h l. byte_stands file image (headers file) k i (program_header file k) (header_by_number file k h.there) (omega (arith, header_count file, h.there)) apart made record { type_so = h.type_so; some = omega (arith, l) } l;
  zeros_so = λ x h. zero_stands file image x made h;
}
