use Rattle.std.proofs.Common.{◌≡◌, take}
use Rattle.longrun.specs.Gaps.{gaps_after}
use Rattle.longrun.proofs.gaps.Gaps.note.Given as goal

abbrev pub invariant-loop-record : goal.invariant-loop-record
invariant-loop-record l = l.self ≡ gaps_after l.initial.self (take l.record-index l.retired)
