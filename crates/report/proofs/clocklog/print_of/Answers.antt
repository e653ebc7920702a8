use Rattle.std.proofs.Common.{◌≡◌, vec_items, string_bytes, refl, ap, ◌∙◌, lit≤}
use Rattle.std.proofs.lemmas.Result.{IfOk-weaker}
use Rattle.memory.specs.Flat.{flat_means}
use Rattle.predictor.specs.Tables.{never}
use Rattle.clocktable.specs.Tables.{clock_table}
use Rattle.report.specs.Clocklogs.{ClockPrinted}
use Rattle.report.proofs.Running.{whole_run}
use Rattle.report.proofs.clocklog.print_of.Goals as goal

pub returns : goal.returns
returns c =
    let starts = c.load-machine.ensures.starts in
    let made = c.new-journal.ensures in
    let whole = whole_run (λ _. never) flat_means flat_means 1000 _ _ c.new-journal.result c.run.new.journal c.load-machine.result c.run.new.self c.run.result (lit≤ tt) made.empty refl refl c.run.ensures.does in
    IfOk-weaker c.clock_table.result (λ t. string_bytes t ≡ clock_table c.records.result.now c.records-2.result.now c.stopped.result c.counts.result)
    (λ t. ClockPrinted (vec_items c.args.image.bytes) (string_bytes t))
    (λ t e. record {
      predictor = _;
      instructions = c.into_memory.result;
      data_memory = c.in_ok-data_memory.field-0;
      holds_image = ap vec_items c.into_memory.ensures.bytes;
      image_whole = c.into_memory.ensures.size;
      holds_zeros = c.in_ok-data_memory.ensures.0;
      data_whole = c.in_ok-data_memory.ensures.1;
      first = c.load-machine.result;
      loaded = starts;
      agrees = c.load-machine.ensures.agrees;
      history = whole.history;
      put = whole.put;
      last = c.run.new.self;
      calls = whole.calls;
      finished = whole.finished starts.not_held starts.no_clocks;
      shown = e ∙ (λ k. clock_table ((c.records.ensures ∙ whole.retired) k) ((c.records-2.ensures ∙ whole.clocks) k) (c.stopped.ensures k) (c.counts.ensures k));
    })
    c.clock_table.ensures
