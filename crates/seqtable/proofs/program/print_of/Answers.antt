use Rattle.std.proofs.Common.{◌≡◌, List, length, replicate, vec_items, string_bytes, ap, ◌∙◌}
use Rattle.std.proofs.lemmas.Result.{IfOk-weaker}
use Rattle.base.specs.Logs.{records}
use Rattle.memory.specs.Flat.{flat_view}
use Rattle.sequential.specs.Stepping.{state_of}
use Rattle.sequential.specs.declared.record.Retired.{Retired}
use Rattle.seqtable.specs.Programs.{Printed}
use Rattle.seqtable.specs.Tables.{sequence_text}
use Rattle.seqtable.proofs.Printing.{world_is, begin_is, ran_at}
use Rattle.seqtable.proofs.program.print_of.Goals as goal

pub returns : goal.returns
returns c =
    let m = c.new-machine.result in
    let made = c.new-machine.ensures in
    let stop = c.run-stop.result in
    let items : vec_items m.instructions.bytes ≡ vec_items c.args.image.bytes = cc (made.memories.0, c.into_memory.ensures.bytes) in
    let size : m.instructions.size ≡ length (vec_items c.args.image.bytes) = cc (made.memories.0, c.into_memory.ensures.size) in
    let room : m.data_memory.size ≡ 4096 = cc (made.memories.1, c.in_ok-data_memory.ensures.1) in
    let zeros : vec_items m.data_memory.bytes ≡ replicate 4096 0 = cc (made.memories.1, c.in_ok-data_memory.ensures.0) in
    IfOk-weaker c.sequence_text.result (λ t. string_bytes t ≡ sequence_text c.records.result.now stop)
    (λ t. Printed (vec_items c.args.image.bytes) (string_bytes t))
    (λ t e. record {
      retired = records c.run-stop.new.log;
      stop = stop;
      last = state_of flat_view c.run-stop.new.self;
      ran =
          ran_at _ _ _ _ _ _ _ _ _ _ _ _ _ (world_is (vec_items c.args.image.bytes) m.instructions m.data_memory items size room) made.stopped
          (begin_is m.address m.registers m.data_memory made.address made.registers zeros) c.new-log.ensures.room c.new-log.ensures.empty
          c.run-stop.ensures.does;
      shown = e ∙ ap (λ (rs : List Retired). sequence_text rs stop) c.records.ensures;
    })
    c.sequence_text.ensures
