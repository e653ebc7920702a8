-- The segments that are left have no fault, overlap nowhere and end within the image. With their bytes put too, it is the image with those of all.
use Rattle.std.proofs.Common.{◌≡◌, ℕ, ◌<◌, ◌≤◌, false, None, length, slice_index}
use Rattle.elf.specs.Images.{first_fault, any_overlap, image_size, byte_at}
use Rattle.elf.specs.Tables.{segments_left}
use Rattle.elf.proofs.segments.Segments.put.Given as goal

abbrev pub invariant-loop-segment : goal.invariant-loop-segment
invariant-loop-segment l = record {
  can_next : (goal.iterator-loop-segment).can_next l.segment-iterator;
  is_finite : (goal.iterator-loop-segment).is_finite l.segment-iterator;
  faultless : first_fault (length l.file) (segments_left l.segment-iterator) ≡ None;
  apart : any_overlap (segments_left l.segment-iterator) ≡ false;
  room : image_size (segments_left l.segment-iterator) ≤ length l.image;
  bytes : (x : ℕ) → x < length l.image → byte_at l.file (segments_left l.segment-iterator) (slice_index l.image x) x ≡ byte_at l.file (segments_left l.fn.self) (slice_index l.initial.image x) x;
}
