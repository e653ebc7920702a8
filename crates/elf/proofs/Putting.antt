-- The bytes of an image after a segment's bytes were put into it.
use Rattle.std.proofs.Common.{◌≡◌, ◌≢◌, ℕ, ◌+◌, ◌-◌, ◌≤◌, ◌&&◌, true, false, if◌then◌else◌, eqb, ltb, leb, inl, inr, List, length, take, drop, get_or, arith}
use borrow.Rule.Slice.PartMut.{put_mid}
use Rattle.std.proofs.lemmas.Bool.{cases_lt, le-leb, lt-leb, lt-ltb, le-ltb, ne_eqb, cond-false}
use Rattle.std.proofs.lemmas.List.{places}
use Rattle.elf.specs.Segments.{file_end, has, stored_byte}
use Rattle.elf.specs.declared.segment.Segment.{Segment}

-- n bytes from one place of a file, put to another place of an image
byte_in_put : (file image part : List ℕ) (from to n i : ℕ) → to + n ≤ length image → from + n ≤ length file
    → part ≡ take n (drop from file)
    → get_or (put_mid to n image part) i 0 ≡ (if leb to i && ltb i (to + n) then get_or file (from + (i - to)) 0 else get_or image i 0)
byte_in_put file image part from to n i h g e =
    elim (cases_lt i to) [
      | inl below ↦
          let t : leb to i ≡ false = lt-leb to i below in
          rw t (grind (arith, places))
      | inr behind ↦
          let t : leb to i ≡ true = le-leb to i behind in
          rw t (elim (cases_lt i (to + n)) [
            | inl inside ↦
                let u : ltb i (to + n) ≡ true = lt-ltb i (to + n) inside in
                rw (u, e) (grind (arith, places))
            | inr above ↦
                let u : ltb i (to + n) ≡ false = le-ltb i (to + n) above in
                rw (u, e) (grind (arith, places))
          ])
    ]

-- the bytes of a segment, with their sizes as ranges have them
pub byte_after_put : (file image part : List ℕ) (s : Segment) (i : ℕ) → s.file_size ≢ 0
    → file_end s ≤ length image → s.offset + s.file_size ≤ length file
    → part ≡ take (s.offset + s.file_size - s.offset) (drop s.offset file)
    → get_or (put_mid s.physical_address (s.physical_address + s.file_size - s.physical_address) image part) i 0 ≡ (if has s i then stored_byte file s i else get_or image i 0)
byte_after_put file image part s i some room within e =
    let cut : s.offset + s.file_size - s.offset ≡ s.file_size = omega arith in
    let put : s.physical_address + s.file_size - s.physical_address ≡ s.file_size = omega arith in
    let end : file_end s ≡ s.physical_address + s.file_size = cond-false (eqb s.file_size 0) 0 (s.physical_address + s.file_size) (ne_eqb s.file_size 0 some) in
    rw (put, end) (byte_in_put file image part s.offset s.physical_address s.file_size i (rw end at room) within (rw cut at e))
