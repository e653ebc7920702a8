use Rattle.std.proofs.Common.{arith}
use Rattle.rv32i_words.proofs.Powers.{joined_or, joined_fits}
use Rattle.rv32i_words.proofs.field.Field.above.Goals as goal

pub invariant_of-result : goal.invariant_of-result
invariant_of-result g c =
    let s = c.args.self in
    let l = c.args.low in
    record {
      sized = (omega (arith, l.sized.0), c.requires.1);
      fits = joined_fits g.row.BITS g.row.LOW g.row.BOTH s.value l.value c.requires.0 c.requires.1 s.fits l.fits;
    }

pub returns : goal.returns
returns g c =
    let s = c.args.self in
    let l = c.args.low in
    joined_or g.row.BITS g.row.LOW g.row.BOTH s.value l.value c.requires.0 c.requires.1 s.fits l.fits
