-- Gaps over retirements that come in several lists. Assumes nothing.
use Rattle.std.proofs.Common.{◌≡◌, ℕ, ◌+◌, ◌<◌, List, [], ◌∷◌, ◌++◌, length, get_or, take, sym, refl, ap, ◌∙◌}
use Rattle.std.proofs.lemmas.List.{take_more}
use Rattle.pipeline.specs.declared.machine.RetiredAt.{RetiredAt}
use Rattle.longrun.specs.Gaps.{gap_to, gaps_after}
use Rattle.longrun.specs.declared.gaps.Gaps.{Gaps}

pub gaps_append : (g : Gaps) (rs ss : List RetiredAt) → gaps_after g (rs ++ ss) ≡ gaps_after (gaps_after g rs) ss
gaps_append g [] ss = refl
gaps_append g (r ∷ rs) ss = gaps_append (gap_to g r.clock) rs ss

-- one retirement more
pub gaps_more : (g : Gaps) (rs : List RetiredAt) (i : ℕ) (r : RetiredAt) → i < length rs → r ≡ get_or rs i r → gaps_after g (take (i + 1) rs) ≡ gap_to (gaps_after g (take i rs)) r.clock
gaps_more g rs i r h e =
    ap (gaps_after g) (take_more rs i r h) ∙ gaps_append g (take i rs) (get_or rs i r ∷ []) ∙ ap (λ (x : RetiredAt). gap_to (gaps_after g (take i rs)) x.clock) (sym e)
