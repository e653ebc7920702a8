use Rattle.report.proofs.timing.assembly.assemble.Goals as goal

pub returns : goal.returns
returns g c = (
  c.in_ok-check.ensures,
  record {
    predictor = c.chosen-predictor.result;
    guesses = c.chosen-predictor.ensures;
    loaded = c.load-machine.ensures.starts;
    agrees = c.load-machine.ensures.agrees;
  },
  λ k. record { instructions = c.longest.ensures k; data_memory = c.longest-2.ensures k },
)
