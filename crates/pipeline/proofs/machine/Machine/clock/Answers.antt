use Rattle.std.proofs.Common.{[], ◌∷◌, refl}
use Rattle.pipeline.proofs.machine.Machine.clock.Goals as goal

pub returns : goal.returns
returns g c =
    let t = c.tick.ensures in
    record { does = (t.0 ∷ [], (c.in_ok-ready.ensures, (t.0, refl, t.1), t.2.added)); slots = t.2.slots }
