-- What a memory on the heap replies follows from the calls, if it does elsewhere. Assumes nothing.
use Rattle.std.proofs.Common.{List, Option}
use Rattle.base.specs.declared.bus.Request.{Request}
use Rattle.memory.specs.Meaning.{Reply, Meaning}
use Rattle.memory.specs.Runs.{Runs, none, asked, idled, Replays}
use Rattle.dispatch.specs.declared.boxed.Boxed.{Boxed}
use Rattle.dispatch.specs.Boxes.{inside, boxed_means}

module _ {M : Type 0} {m : Meaning M} where
  run : {b c : Boxed M} {calls : List (Option Request)} {r : List Reply} → Runs (boxed_means m) b calls r c → Runs m (inside b) calls r (inside c)
  run none = none
  run (asked q r f h) = asked q r (run f) h
  run (idled f h) = idled (run f) h

  pub boxed_replays : Replays m → Replays (boxed_means m)
  boxed_replays below b c d calls r s f g = below (inside b) (inside c) (inside d) calls r s (run f) (run g)
