use Rattle.std.proofs.Common.{◌≡◌, codes, rules}
use Rattle.vectors.proofs.Reading.{parts_of, no_space, no_address, image_line}
use Rattle.vectors.proofs.image.line_of.Goals as goal

pub returns : goal.returns
returns c =
    (c.in_ok-first.first.now, parts_of c.args.text.now (c.in_ok-first.first, c.in_ok-first.rest) c.in_ok-first.ensures.cases, c.in_ok-hexadecimal.ensures)

pub returns-in_err-first : goal.returns-in_err-first
returns-in_err-first c =
    let running : c.args.text.now ≡ codes "run" → ⊥ = search rules in
    rw c.from_residual.ensures (no_space c.args.text.now c.in_err-first.ensures.cases running)

pub returns-then-eq-2 : goal.returns-then-eq-2
returns-then-eq-2 c =
    let running : c.args.text.now ≡ codes "run" → ⊥ = search rules in
    let image : c.in_ok-first.first.now ≡ codes "image" = search rules in
    image_line c.args.text.now (c.in_ok-first.first, c.in_ok-first.rest) c.in_ok-first.ensures.cases c.header.result image running c.header.ensures

pub returns-in_err-hexadecimal : goal.returns-in_err-hexadecimal
returns-in_err-hexadecimal c =
    let running : c.args.text.now ≡ codes "run" → ⊥ = search rules in
    let image : c.in_ok-first.first.now ≡ codes "image" → ⊥ = search rules in
    rw c.from_residual-in_err-hexadecimal.ensures
    (no_address c.args.text.now (c.in_ok-first.first, c.in_ok-first.rest) c.in_ok-first.ensures.cases c.in_err-hexadecimal.ensures running image)
