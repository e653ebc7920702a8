use Rattle.std.proofs.Common.{rules}
use Rattle.clock.proofs.cycle.advance.Goals as goal

pub returns : goal.returns
returns g c =
    let k = c.args.core.now.latches in
    let latches = c.decode-decodes.ensures.latches k.m k.w c.rd_of-m.ensures c.of-w.ensures in
    let flow = c.decode-decodes.ensures.flow k.m k.w c.rd_of-m.ensures c.of-w.ensures in
    search rules
