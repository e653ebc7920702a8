-- What holds of segments that have no fault.
use Rattle.std.proofs.Common.{◌≡◌, ℕ, ◌+◌, ◌<◌, ◌≤◌, ◌&&◌, Bool, true, false, if◌then◌else◌, List, ◌∷◌, Some, None, Option, refl, ltb}
use Rattle.std.specs.Option.{option_or}
use Rattle.std.proofs.lemmas.Bool.{ltb-false, lt-ltb}
use Rattle.elf.specs.Segments.{segment_fault}
use Rattle.elf.specs.Images.{first_fault}
use Rattle.elf.specs.declared.segment.Segment.{Segment}

-- neither of two gives a fault
pub none_parts : {A : Type 0} (o p : Option A) → option_or o p ≡ None → (o ≡ None) × (p ≡ None)
none_parts None p e = (refl, e)
none_parts (Some x) p e = absurd cc

-- a test that gives no fault
pub if_none_parts : {A : Type 0} (b : Bool) (x : A) (o : Option A) → (if b then Some x else o) ≡ None → (b ≡ false) × (o ≡ None)
if_none_parts false x o e = (refl, e)
if_none_parts true x o e = absurd cc

pub faultless_parts : (size : ℕ) (s : Segment) (rest : List Segment) → first_fault size (s ∷ rest) ≡ None
    → (segment_fault size s ≡ None) × (first_fault size rest ≡ None)
faultless_parts size s rest e = none_parts (segment_fault size s) (first_fault size rest) e

-- a segment without a fault
pub record IsSound (size : ℕ) (s : Segment) : Type 0 where
  pub in_file : 0 < s.file_size → s.offset + s.file_size ≤ size
  pub no_more : s.file_size ≤ s.memory_size
  pub physical : s.physical_address + s.memory_size ≤ 65536
  pub virtual : s.virtual_address + s.memory_size ≤ 65536

pub IsSound-from_none : (size : ℕ) (s : Segment) → segment_fault size s ≡ None → IsSound size s
IsSound-from_none size s e =
    let a = if_none_parts _ _ _ e in
    let within : (ltb 0 s.file_size && ltb size (s.offset + s.file_size)) ≡ false = a.0 in
    let b = if_none_parts _ _ _ a.1 in
    let c = if_none_parts _ _ _ b.1 in
    let d = if_none_parts _ _ _ c.1 in
    record {
      in_file = λ h. ltb-false size (s.offset + s.file_size) (rw (lt-ltb 0 s.file_size h) at within);
      no_more = ltb-false _ _ b.0;
      physical = ltb-false _ _ c.0;
      virtual = ltb-false _ _ d.0;
    }
