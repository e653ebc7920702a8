use Rattle.std.proofs.Common.{ℕ, ap, rules, tests}
use Rattle.std.proofs.lemmas.Iterator.{YieldsList-from_slice}
use Rattle.std.proofs.lemmas.Iterator.Consumers.{fold_from_yields_List}
use Rattle.std.specs.Int.{w32, to_le_bytes}
use Rattle.vectors.specs.declared.digest.Digest.{Digest}
use Rattle.vectors.specs.Digests.{with_byte}
use Rattle.vectors.proofs.digest.Digest.word.Goals as goal

abbrev after : Digest → ℕ → Digest
after digest byte = record { 0 = with_byte digest.0 byte }

pub returns : goal.returns
returns c =
    ap (λ (d : Digest). d.0) (fold_from_yields_List _ after c.args.self c.fold.result c.fold.ensures.ran (YieldsList-from_slice (to_le_bytes w32 c.args.word) cc) (λ d b r q k. search (rules, tests)))
