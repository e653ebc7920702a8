use Rattle.report.proofs.Refusing.{image_answer}
use Rattle.report.proofs.timing.answer.run_image.Goals as goal

pub returns : goal.returns
returns g c =
    rw (← c.into_bytes.ensures.bytes) (image_answer c.args.setup.now c.into_bytes.result c.in_ok-instructions.instructions c.in_ok-data_memory.data_memory c.in_ok-instructions.ensures c.in_ok-data_memory.ensures c.run_over_stacks.result c.run_over_stacks.ensures)
