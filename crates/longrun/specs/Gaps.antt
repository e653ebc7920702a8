-- Gaps between retirements. Assumes nothing.
use Rattle.std.specs.Prelude.{ℕ, ◌-◌, max, List, [], ◌∷◌}
use Rattle.pipeline.specs.declared.machine.RetiredAt.{RetiredAt}
use Rattle.longrun.specs.declared.gaps.Gaps.{Gaps}

abbrev pub none_yet : Gaps
none_yet = record { latest = 0; longest = 0 }

-- a retirement in that clock ends the gap since the latest
abbrev pub gap_to : Gaps → ℕ → Gaps
gap_to g clock = record { latest = clock; longest = max g.longest (clock - g.latest) }

-- after these retirements, in order
abbrev pub gaps_after : Gaps → List RetiredAt → Gaps
gaps_after g [] = g
gaps_after g (r ∷ rs) = gaps_after (gap_to g r.clock) rs
