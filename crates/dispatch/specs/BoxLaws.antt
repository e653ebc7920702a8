-- A memory on the heap keeps the rules, if it does elsewhere. Assumes nothing.
use Rattle.memory.specs.Meaning.{Meaning, Lawful}
use Rattle.dispatch.specs.Boxes.{inside, boxed_means}
use Rattle.dispatch.specs.Views.{same_in, served_in}

module _ {M : Type 0} {m : Meaning M} where
  pub boxed_lawful : Lawful m → Lawful (boxed_means m)
  boxed_lawful laws = record {
    aligned = λ b. laws.aligned (inside b);
    fits = λ b. laws.fits (inside b);
    patient = λ b. laws.patient (inside b);
    serve = λ b c q r h. served_in m.view inside b c q r (laws.serve (inside b) (inside c) q r h);
    idle = λ b c h. same_in m.view inside b c (laws.idle (inside b) (inside c) h);
  }
