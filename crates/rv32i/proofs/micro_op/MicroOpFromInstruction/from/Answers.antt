use Rattle.rv32i.proofs.Flat.{kept, is_of_its_instruction}
use Rattle.rv32i.proofs.micro_op.MicroOpFromInstruction.from.Goals as goal

pub invariant_of-result : goal.invariant_of-result
invariant_of-result c =
    rw (c.immediate.ensures.is, c.mnemonic.ensures, c.destination.ensures, c.first_source.ensures, c.second_source.ensures, c.access.ensures)
    (is_of_its_instruction c.args.instruction c.immediate.ensures.fits)

pub returns : goal.returns
returns c =
    rw (c.immediate.ensures.is, c.mnemonic.ensures, c.destination.ensures, c.first_source.ensures, c.second_source.ensures)
    (kept c.args.instruction c.immediate.ensures.fits)
