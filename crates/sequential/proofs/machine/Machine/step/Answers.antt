use Rattle.std.proofs.Common.{Ok, rules}
use Rattle.sequential.specs.Stepping.{world_of, state_of, Stepped}
use Rattle.sequential.proofs.Kept.{stepped_keeps}
use Rattle.sequential.proofs.machine.Machine.step.Goals as goal

pub returns-in-Ok : goal.returns-in-Ok
returns-in-Ok g c =
    let d_view = g.D.Memory.means.view in
    let m = c.args.self.now in
    let n = c.advance.new.self in
    let world = world_of g.I.Memory.means.view d_view m in
    let does : Stepped world (state_of d_view m) m.stopped (Ok c.in-Ok.retirement) (state_of d_view n) n.stopped = search rules in
    record {
      does = does;
      world = search rules;
      for_good = search rules;
      aligned = stepped_keeps world (state_of d_view m) (state_of d_view n) m.stopped n.stopped (Ok c.in-Ok.retirement) does;
    }
