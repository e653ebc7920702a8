use Rattle.std.proofs.Common.{◌<◌, length, Ok, Err, IsSome, sym, refl, ◌∙◌, subst, arith, length-append}
use Rattle.base.proofs.Pushed.{pushed}
use Rattle.base.specs.Logs.{records, room}
use Rattle.sequential.specs.Sequential.{World}
use Rattle.sequential.specs.Stepping.{state_of, Stepped}
use Rattle.sequential.proofs.Running.{nothing, no_fewer, one_more, none_more, none_taken, spare_after, stops_at, halts, full}
use Rattle.sequential.proofs.machine.Machine.run.Goals as goal

pub loop-self-init : goal.loop-self-init
loop-self-init g c = record { ran = nothing _ _ _ _; world = refl; stopped = refl; for_good = λ _. (refl, refl); spare = none_taken _ _; room = refl; lent = refl }

pub loop-self-preserved : goal.loop-self-preserved
loop-self-preserved g c =
    let d_view = g.D.Memory.means.view in
    let inv = c.loop-self.invariant in
    let added = pushed c.push.result c.loop-self.log c.push.new.self c.in-Ok.retirement.retired _ c.loop-self-test.ensures c.push.ensures.says in
    let does =
    subst (λ (w : World). Stepped w (state_of d_view c.loop-self.self) c.loop-self.self.stopped (Ok c.in-Ok.retirement) (state_of d_view c.step.new.self) c.step.new.self.stopped)
    inv.world c.in-Ok.ensures.does in
    let next = one_more _ _ _ _ _ c.in-Ok.retirement added.1 _ _ inv.ran (rw inv.stopped at does) in
    record {
      ran = next.0;
      world = c.step.ensures.world ∙ inv.world;
      stopped = next.1;
      for_good = λ some. absurd (none_more _ _ _ _ _ c.in-Ok.retirement does (subst IsSome (sym inv.stopped) some));
      spare = spare_after _ _ _ _ _ _ _ (no_fewer _ _ _ _ _ _ inv.ran) added.1 inv.spare added.2;
      room = c.push.ensures.room ∙ inv.room;
      lent = c.push.ensures.lent ∙ inv.lent;
    }

pub loop-self-smaller : goal.loop-self-smaller
loop-self-smaller g c =
    let inv = c.loop-self.invariant in
    let added = pushed c.push.result c.loop-self.log c.push.new.self c.in-Ok.retirement.retired _ c.loop-self-test.ensures c.push.ensures.says in
    let left : length (records c.loop-self.log) < room c.loop-self.log = c.loop-self-test.ensures in
    rw (added.1, length-append) (omega (arith, inv.room))

pub returns-in-Err : goal.returns-in-Err
returns-in-Err g c =
    let d_view = g.D.Memory.means.view in
    let inv = c.loop-self.invariant in
    let does =
    subst (λ (w : World). Stepped w (state_of d_view c.loop-self.self) c.loop-self.self.stopped (Err c.in-Err.stop) (state_of d_view c.step.new.self) c.step.new.self.stopped)
    inv.world c.in-Err.ensures.does in
    record {
      does = stops_at _ _ (state_of d_view c.step.new.self) _ (room c.args.log.now) (rw inv.room at c.loop-self-test.ensures) c.in-Err.stop _ _ inv.ran (rw inv.stopped at does);
      world = c.step.ensures.world ∙ inv.world;
      stopped = halts _ _ _ _ _ _ does;
      for_good = λ some. (c.in-Err.ensures.for_good (subst IsSome (sym inv.stopped) some) ∙ (inv.for_good some).0, (inv.for_good some).1);
      spare = inv.spare;
      room = inv.room;
      lent = inv.lent;
    }

pub returns : goal.returns
returns g c =
    let inv = c.loop-self.invariant in
    record {
      does = full _ _ _ _ inv.ran _ (rw inv.room at c.loop-self-test.ensures);
      world = inv.world;
      stopped = inv.stopped;
      for_good = inv.for_good;
      spare = inv.spare;
      room = inv.room;
      lent = inv.lent;
    }
