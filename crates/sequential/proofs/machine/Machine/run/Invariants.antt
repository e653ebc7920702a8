use Rattle.std.proofs.Common.{◌≡◌, ◌-◌, length, drop, IsSome}
use Rattle.base.specs.Logs.{records, spare, room, slots_of}
use Rattle.sequential.specs.Stepping.{world_of, state_of, SameWorld}
use Rattle.sequential.proofs.Running.{SoFar}
use Rattle.sequential.proofs.machine.Machine.run.Given as goal

abbrev pub invariant-loop-self : goal.invariant-loop-self
invariant-loop-self g l = record {
  ran : SoFar (world_of g.I.Memory.means.view g.D.Memory.means.view l.initial.self) l.initial.self.stopped (state_of g.D.Memory.means.view l.initial.self)
      (records l.initial.log) (state_of g.D.Memory.means.view l.self) (records l.log);
  world : SameWorld g.I.Memory.means.view g.D.Memory.means.view l.initial.self l.self;
  stopped : l.self.stopped ≡ l.initial.self.stopped;
  for_good : IsSome l.initial.self.stopped → (l.self ≡ l.initial.self) × (l.log ≡ l.initial.log);
  spare : spare l.log ≡ drop (length (records l.log) - length (records l.initial.log)) (spare l.initial.log);
  room : room l.log ≡ room l.initial.log;
  lent : slots_of l.log ≡ slots_of l.initial.log;
}

abbrev pub decreases-loop-self : goal.decreases-loop-self
decreases-loop-self g l = room l.initial.log - length (records l.log)
