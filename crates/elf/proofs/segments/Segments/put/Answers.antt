-- A segment's bytes are put, and those that are left are still to be.
use Rattle.std.proofs.Common.{◌∙◌, arith, length, slice_index}
use Rattle.std.specs.List.{list_any}
use Rattle.std.proofs.lemmas.Bool.{or_parts}
use Rattle.elf.specs.Segments.{overlap}
use Rattle.elf.specs.Images.{any_overlap}
use Rattle.elf.specs.Tables.{segments_left}
use Rattle.elf.proofs.Faultless.{faultless_parts}
use Rattle.elf.proofs.Images.{byte_at-first, image_size-parts}
use Rattle.elf.proofs.segments.Segments.put.Goals as goal

pub loop-segment-preserved : goal.loop-segment-preserved
loop-segment-preserved c =
    let s = c.in-Some.segment in
    let rest = segments_left c.next.new.self in
    let faultless = faultless_parts (length c.args.file.now) s rest (rw c.in-Some.ensures.steps at c.loop-segment.invariant.faultless) in
    let apart = or_parts (list_any (overlap s) rest) (any_overlap rest) (rw c.in-Some.ensures.steps at c.loop-segment.invariant.apart) in
    let room = rw c.in-Some.ensures.steps at c.loop-segment.invariant.room in
    record {
      can_next = tt;
      is_finite = tt;
      faultless = faultless.1;
      apart = apart.1;
      room = omega (arith, room, (image_size-parts s rest).1);
      bytes = λ x h.
          let before = rw c.in-Some.ensures.steps at c.loop-segment.invariant.bytes x (omega arith) in
          rw (c.put.ensures x h) (byte_at-first c.args.file.now s rest (slice_index c.loop-segment.image x) x apart.0 ∙ before);
    }
