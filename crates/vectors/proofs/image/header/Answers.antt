use Rattle.vectors.proofs.Reading.{no_name, no_numbers, no_start, no_size, head_of}
use Rattle.vectors.proofs.image.header.Goals as goal

pub returns : goal.returns
returns c =
    head_of c.args.rest.now (c.in_ok-name.name, c.in_ok-name.rest) c.in_ok-name.ensures.cases (c.in_ok-start.start, c.in_ok-start.size) c.in_ok-start.ensures.cases
    c.in_ok-hexadecimal.field-0 c.in_ok-hexadecimal-2.field-0 c.in_ok-hexadecimal.ensures c.in_ok-hexadecimal-2.ensures

pub returns-in_err-name : goal.returns-in_err-name
returns-in_err-name c = rw c.from_residual.ensures (no_name c.args.rest.now c.in_err-name.ensures.cases)

pub returns-in_err-start : goal.returns-in_err-start
returns-in_err-start c =
    rw c.from_residual-in_err-start.ensures (no_numbers c.args.rest.now (c.in_ok-name.name, c.in_ok-name.rest) c.in_ok-name.ensures.cases c.in_err-start.ensures.cases)

pub returns-in_err-hexadecimal : goal.returns-in_err-hexadecimal
returns-in_err-hexadecimal c =
    rw c.from_residual-in_err-hexadecimal.ensures
    (no_start c.args.rest.now (c.in_ok-name.name, c.in_ok-name.rest) c.in_ok-name.ensures.cases (c.in_ok-start.start, c.in_ok-start.size) c.in_ok-start.ensures.cases c.in_err-hexadecimal.ensures)

pub returns-in_err-hexadecimal-2 : goal.returns-in_err-hexadecimal-2
returns-in_err-hexadecimal-2 c =
    rw c.from_residual-in_err-hexadecimal-2.ensures
    (no_size c.args.rest.now (c.in_ok-name.name, c.in_ok-name.rest) c.in_ok-name.ensures.cases (c.in_ok-start.start, c.in_ok-start.size) c.in_ok-start.ensures.cases c.in_err-hexadecimal-2.ensures)
