-- A clock keeps the laws, since it is the clock that the rule has.
use Rattle.std.proofs.Common.{◌≡◌, Option, None, Some, is_some, false, refl, sym, ◌∙◌, true≢false, arith}
use Rattle.clocking.specs.Clock.{Cycled}
use Rattle.clocking.specs.WriteBack.{stop_of}
use Rattle.clocking.proofs.Laws.{clock_laws}
use Rattle.clock.proofs.cycle.checked_cycle.Goals as goal

none_of : {A : Type 0} (o : Option A) → is_some o ≡ false → o ≡ None
none_of None h = refl
none_of (Some x) h = absurd (true≢false h)

pub returns-in-None : goal.returns-in-None
returns-in-None g c =
    let m = c.args.core.now in
    let e = c.advance.ensures in
    let goes_on : stop_of m.latches.w ≡ None = cc in
    let cycled : Cycled g.P.Predictor.table g.I.Memory.means g.D.Memory.means m e.0 c.advance.new.core = rw goes_on e.1 in
    record {
      not_stopped = none_of m.stopped (sym c.is_some.ensures ∙ c.if-is_some.false);
      not_spent = omega arith;
      event = e.0;
      cycled = cycled;
      laws = clock_laws g.P.Predictor.table g.I.Memory.means g.D.Memory.means m e.0 c.advance.new.core cycled;
      hears = e.2;
    }

pub returns-in-Some : goal.returns-in-Some
returns-in-Some g c =
    let m = c.args.core.now in
    let e = c.halt.ensures in
    let stops : stop_of m.latches.w ≡ Some c.in-Some.stop = cc in
    let cycled : Cycled g.P.Predictor.table g.I.Memory.means g.D.Memory.means m e.0 c.halt.new.core = rw stops e.1 in
    record {
      not_stopped = none_of m.stopped (sym c.is_some.ensures ∙ c.if-is_some.false);
      not_spent = omega arith;
      event = e.0;
      cycled = cycled;
      laws = clock_laws g.P.Predictor.table g.I.Memory.means g.D.Memory.means m e.0 c.halt.new.core cycled;
      hears = e.2;
    }
