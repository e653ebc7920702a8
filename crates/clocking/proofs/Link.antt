-- What a lawful memory did in a clock. Assumes nothing.
use Rattle.std.proofs.Common.{◌≡◌, ℕ, ◌<◌, Some, None, Option, Ok, Err}
use mathlib.Core.Path.{fun_ext}
use Rattle.base.specs.declared.bus.Request.{Request}
use Rattle.base.specs.declared.bus.Request.TheVariants.{Read, Write}
use Rattle.memory.specs.Meaning.{Meaning, Lawful, Reply}
use Rattle.memory.specs.declared.Answer.TheVariants.{Word, Done}
use Rattle.memory.specs.declared.Unserved.TheVariants.{Wait, Outside}
use Rattle.clocking.specs.Ports.{Asked}
use Rattle.clocking.proofs.Served.{Bytes}

-- the waits left for what is asked
abbrev pub waits_for : (Request → ℕ) → Option Request → ℕ
waits_for p None = 0
waits_for p (Some q) = p q

-- a Wait lowers what is left
abbrev pub Worn : Option Reply → Option Request → (Request → ℕ) → (Request → ℕ) → Type 0
Worn (Some (Err Wait)) q p t = waits_for t q < waits_for p q
Worn r q p t = Unit {0}

module _ {M : Type 0} (means : Meaning M) (law : Lawful means) where
  pub record Link (q : Option Request) (t : Option Reply) (m n : M) : Type 0 where
    pub served : Bytes (means.view.size m) q t (means.view.byte m) (means.view.byte n)
    pub size : means.view.size n ≡ means.view.size m
    pub longest : means.view.longest n ≡ means.view.longest m
    pub worn : Worn t q (means.view.waits m) (means.view.waits n)

  pub link : (q : Option Request) (t : Option Reply) (m n : M) → Asked means m q t n → Link q t m n
  link None None m n h = let s = law.idle m n h in record { served = fun_ext s.byte; size = s.size; longest = s.longest; worn = tt }
  link None (Some r) m n h = absurd h
  link (Some q) None m n h = absurd h
  link (Some (Read a)) (Some (Ok (Word w))) m n h =
      let s = law.serve m n (Read a) (Ok (Word w)) h in
      record { served = (s.0, s.1, fun_ext s.2.byte); size = s.2.size; longest = s.2.longest; worn = tt }
  link (Some (Read a)) (Some (Ok Done)) m n h = absurd (law.serve m n (Read a) (Ok Done) h)
  link (Some (Read a)) (Some (Err Wait)) m n h =
      let s = law.serve m n (Read a) (Err Wait) h in
      record { served = fun_ext s.2.byte; size = s.2.size; longest = s.2.longest; worn = s.1 }
  link (Some (Read a)) (Some (Err Outside)) m n h =
      let s = law.serve m n (Read a) (Err Outside) h in
      record { served = (s.0, fun_ext s.1.byte); size = s.1.size; longest = s.1.longest; worn = tt }
  link (Some (Write a v l)) (Some (Ok (Word w))) m n h = absurd (law.serve m n (Write a v l) (Ok (Word w)) h)
  link (Some (Write a v l)) (Some (Ok Done)) m n h =
      let s = law.serve m n (Write a v l) (Ok Done) h in
      record { served = (s.0, fun_ext s.1.byte); size = s.1.size; longest = s.1.longest; worn = tt }
  link (Some (Write a v l)) (Some (Err Wait)) m n h =
      let s = law.serve m n (Write a v l) (Err Wait) h in
      record { served = fun_ext s.2.byte; size = s.2.size; longest = s.2.longest; worn = s.1 }
  link (Some (Write a v l)) (Some (Err Outside)) m n h =
      let s = law.serve m n (Write a v l) (Err Outside) h in
      record { served = (s.0, fun_ext s.1.byte); size = s.1.size; longest = s.1.longest; worn = tt }
