-- What a memory does in a clock, by its bytes before and after. Assumes nothing.
use Rattle.std.proofs.Common.{◌≡◌, ℕ, true, false, Some, None, Option, Ok, Err}
use Rattle.base.specs.Bytes.{within, word, put}
use Rattle.base.specs.declared.bus.Request.{Request}
use Rattle.base.specs.declared.bus.Request.TheVariants.{Read, Write}
use Rattle.memory.specs.Meaning.{Reply, request_address}
use Rattle.memory.specs.declared.Answer.TheVariants.{Word, Done}
use Rattle.memory.specs.declared.Unserved.TheVariants.{Wait, Outside}

abbrev pub Bytes : ℕ → Option Request → Option Reply → (ℕ → ℕ) → (ℕ → ℕ) → Type 0
Bytes size None None m n = n ≡ m
Bytes size (Some (Read a)) (Some (Ok (Word w))) m n = (within size a ≡ true) × (w ≡ word m a) × (n ≡ m)
Bytes size (Some (Write a v l)) (Some (Ok Done)) m n = (within size a ≡ true) × (n ≡ put m a v l)
Bytes size (Some q) (Some (Err Wait)) m n = n ≡ m
Bytes size (Some q) (Some (Err Outside)) m n = (within size (request_address q) ≡ false) × (n ≡ m)
Bytes size q r m n = ⊥
