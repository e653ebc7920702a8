-- What can be read of a machine. Assumes nothing.
use Rattle.clocking.specs.Counting.{in_flight_count, one_if}
use Rattle.pipeline.specs.Calls.{is_stopped}
use Rattle.pipeline.specs.declared.machine.Machine.{Machine}
use Rattle.pipeline.specs.declared.machine.Totals.{Totals}

abbrev pub totals : {P I D : Type 0} → Machine P I D → Totals
totals m = record {
  clocks = m.core.counts.clocks;
  fetched = m.core.counts.fetched;
  retired = m.core.counts.retired;
  dropped = m.core.counts.dropped;
  in_flight = in_flight_count m.core.latches;
  stopped = one_if (is_stopped m);
}
