use Rattle.std.proofs.Common.{sym, ap, ◌∙◌}
use Rattle.std.proofs.lemmas.List.{take_all}
use Rattle.longrun.specs.Gaps.{gap_to, gaps_after}
use Rattle.longrun.specs.declared.gaps.Gaps.{Gaps}
use Rattle.longrun.proofs.Following.{gaps_more}
use Rattle.longrun.proofs.gaps.Gaps.note.Goals as goal

pub loop-record-preserved : goal.loop-record-preserved
loop-record-preserved c =
    let r = c.record-item.result in
    c.end.ensures ∙ ap (λ (g : Gaps). gap_to g r.clock) c.loop-record.invariant
    ∙ sym (gaps_more c.args.self.now c.args.retired.now c.loop-record.record-index r c.loop-record-test.true c.record-item.is)

pub returns : goal.returns
returns c = c.loop-record.invariant ∙ ap (gaps_after c.args.self.now) (take_all c.loop-record.record-index c.args.retired.now c.loop-record-test.false)
