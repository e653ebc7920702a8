use Rattle.std.proofs.Common.{ℕ, Option, ap, ◌∙◌}
use Rattle.rv32i.specs.declared.register.Register.{Register}
use Rattle.clocking.specs.Execute.{x_result}
use Rattle.clocking.specs.Decode.{decode_stage}
use Rattle.clock.proofs.Forwarding.{same_values}
use Rattle.clock.specs.Cycle.{with_x}
use Rattle.clock.proofs.cycle.decode.Goals as goal

pub returns-clause-latches : goal.returns-clause-latches
returns-clause-latches c m w e h =
    let k = c.args.latches.now in
    let same = same_values (x_result c.args.completes k.m) m k.w w c.args.registers.now c.args.m c.args.w e h in
    ap (with_x k) (c.decode_stage.ensures.x ∙ ap (λ (reads : Register → Option ℕ). (decode_stage reads k.x k.d c.args.executes).x) same)

pub returns-clause-flow : goal.returns-clause-flow
returns-clause-flow c m w e h =
    let k = c.args.latches.now in
    let same = same_values (x_result c.args.completes k.m) m k.w w c.args.registers.now c.args.m c.args.w e h in
    c.decode_stage.ensures.flow ∙ ap (λ (reads : Register → Option ℕ). (decode_stage reads k.x k.d c.args.executes).flow) same
