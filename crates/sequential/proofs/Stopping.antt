-- A stop that is said by its number and its address. Assumes nothing.
use Rattle.std.proofs.Common.{◌≡◌}
use Rattle.rv32i.proofs.Given.{same_cause}
use Rattle.rv32i.specs.Causes.{cause_number}
use Rattle.sequential.specs.declared.record.Stop.{Stop}

-- stops of one number and one address are one stop
pub same_stop : (s t : Stop) → cause_number s.cause ≡ cause_number t.cause → s.address ≡ t.address → s ≡ t
same_stop s t n a = λ k. record { address = a k; cause = same_cause s.cause t.cause n k }
