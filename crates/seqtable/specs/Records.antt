-- The text of records and stops. Assumes nothing.
use Rattle.std.specs.Prelude.{ℕ, List, [], ◌∷◌, ◌++◌, Some, None, codes, decimal, Option}
use Rattle.rv32i.specs.Causes.{cause_number}
use Rattle.rv32i.specs.declared.register.Register.{Register}
use Rattle.sequential.specs.declared.record.Retired.{Retired}
use Rattle.sequential.specs.declared.record.Stop.{Stop}
use Rattle.text.specs.Columns.{spaced}
use Rattle.text.specs.Hex.{hex, places}

-- the register's number, or a hyphen
abbrev pub destination_text : Option Register → List ℕ
destination_text None = 45 ∷ []
destination_text (Some r) = decimal r.number

abbrev pub record_text : Retired → List ℕ
record_text r = spaced (hex places r.address) (spaced (hex places r.word) (spaced (destination_text r.rd) (hex places r.value)))

abbrev pub stop_text : Stop → List ℕ
stop_text s = spaced (decimal (cause_number s.cause)) (hex places s.address)

-- how a run ended: the stop, or that the limit was met
abbrev pub end_text : Option Stop → List ℕ
end_text (Some stop) = codes "stop " ++ stop_text stop
end_text None = codes "limit"
