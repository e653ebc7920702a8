-- A token as it is handed out. Assumes nothing.
use Rattle.std.specs.Prelude.{ℕ, false}
use Rattle.pipeline.specs.declared.token.HoldToken.{HoldToken}

abbrev pub fresh : ℕ → HoldToken
fresh n = record { serial = n; spent = false }
