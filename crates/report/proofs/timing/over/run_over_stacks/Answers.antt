use Rattle.report.proofs.timing.over.run_over_stacks.Goals as goal

pub returns-in-Flat : goal.returns-in-Flat
returns-in-Flat g c = rw (c.in-Flat.is) c.run_over_data.ensures

pub returns-in-One : goal.returns-in-One
returns-in-One g c = rw (c.in-One.is) c.run_over_data-in-One.ensures

pub returns-in-Two : goal.returns-in-Two
returns-in-Two g c = rw (c.in-Two.is) c.run_over_data-in-Two.ensures

pub returns-in-Three : goal.returns-in-Three
returns-in-Three g c = rw (c.in-Three.is) c.run_over_data-in-Three.ensures
