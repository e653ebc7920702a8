-- A machine that is held and let go again. Assumes nothing.
use Rattle.std.specs.Prelude.{◌≡◌, true, false, Result}
use Rattle.base.specs.Refusals.{number, Says}
use Rattle.base.specs.declared.refusal.Refusal.{Refusal}
use Rattle.base.specs.declared.refusal.Refusal.TheVariants.{Held}
use Rattle.pipeline.specs.declared.machine.Machine.{Machine}

-- n is m, which is not held; refused where it is
abbrev pub PauseCall : {P I D : Type 0} → Machine P I D → Result (Unit {0}) Refusal → Machine P I D → Type 0
PauseCall m r n =
    Says
    (λ _. (m.held ≡ false) × (n ≡ m))
    (λ why. (why ≡ number Held) × (m.held ≡ true) × (n ≡ m))
    r
