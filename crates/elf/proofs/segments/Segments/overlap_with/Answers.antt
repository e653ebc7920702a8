-- `any` tries the segments in their order.
use Rattle.std.proofs.Common.{rules, tests, refl}
use Rattle.std.proofs.lemmas.Iterator.Consumers.{YieldsList-from_first}
use Rattle.std.proofs.lemmas.Iterator.Search.{any_from_yields_List}
use Rattle.elf.specs.Segments.{overlap}
use Rattle.elf.specs.Tables.{segments_left}
use Rattle.elf.proofs.segments.Segments.overlap_with.Goals as goal

pub returns : goal.returns
returns c =
    any_from_yields_List (overlap c.args.segment.now) c.any.new.self _ _ c.any.ensures.ran
    (YieldsList-from_first (λ x. x) segments_left _ refl)
    (λ x b q k. search (rules, tests))
