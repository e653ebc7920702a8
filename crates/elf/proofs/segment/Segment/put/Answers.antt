-- The segment's bytes stand between what was below and above them.
use Rattle.std.proofs.Common.{length, arith}
use Rattle.elf.proofs.Faultless.{IsSound-from_none}
use Rattle.elf.proofs.Putting.{byte_after_put}
use Rattle.elf.proofs.segment.Segment.put.Goals as goal

pub returns : goal.returns
returns c = λ i h.
    let s = c.args.self.now in
    let within = (IsSound-from_none (length c.args.file.now) s c.requires.faultless).in_file (omega arith) in
    byte_after_put c.args.file.now c.args.image.now c.copy_from_slice.new.self s i c.if-self-eq0.false c.requires.room within c.copy_from_slice.ensures.after
