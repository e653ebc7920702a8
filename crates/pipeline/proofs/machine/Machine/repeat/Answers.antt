use Rattle.std.proofs.Common.{◌≡◌, ℕ, ◌+◌, arith}
use Rattle.pipeline.proofs.Runs.{none_heard, one_heard, cut_short, all_made}
use Rattle.pipeline.proofs.machine.Machine.repeat.Goals as goal

never : {A : Type 0} (n : ℕ) → n + 1 ≡ 0 → A
never n z = absurd (omega arith)

pub loop-made-init : goal.loop-made-init
loop-made-init g c =
    (none_heard g.P.Predictor.table g.I.Memory.means g.D.Memory.means g.L.Listener.heard g.L.Listener.full c.args.listener.now c.args.self.now, λ _. c.requires)

pub loop-made-preserved : goal.loop-made-preserved
loop-made-preserved g c =
    let at = c.loop-made in (
      one_heard g.P.Predictor.table g.I.Memory.means g.D.Memory.means g.L.Listener.heard g.L.Listener.full c.args.listener.now c.args.self.now
          at.made at.listener at.self at.invariant.0 c.tick.new.listener c.tick.new.self c.in_default.ensures c.tick.ensures,
      never _,
    )

pub returns-in-Err : goal.returns-in-Err
returns-in-Err g c =
    let at = c.loop-made in
    cut_short g.P.Predictor.table g.I.Memory.means g.D.Memory.means g.L.Listener.heard g.L.Listener.full c.args.listener.now c.args.self.now
    at.made at.listener at.self at.invariant.0 c.args.n c.in-Err.why c.loop-made-test.true c.in-Err.ensures

pub returns : goal.returns
returns g c =
    let at = c.loop-made in
    all_made g.P.Predictor.table g.I.Memory.means g.D.Memory.means g.L.Listener.heard g.L.Listener.full c.args.listener.now c.args.self.now
    at.made at.listener at.self at.invariant.0 c.args.n (omega arith) at.invariant.1
