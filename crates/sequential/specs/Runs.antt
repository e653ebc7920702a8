-- Steps in a row. Assumes nothing.
use Rattle.std.specs.Prelude.{◌≡◌, ℕ, ◌<◌, ◌≤◌, List, [], ◌∷◌, ◌++◌, map, length, Some, None, Ok, IsSome, Option}
use Rattle.rv32i.specs.Causes.{cause_number, CauseSays}
use Rattle.sequential.specs.Sequential.{State, World, Step, step}
use Rattle.sequential.specs.declared.record.Retired.{Retired}
use Rattle.sequential.specs.declared.record.Retirement.{Retirement}
use Rattle.sequential.specs.declared.record.Stop.{Stop}

-- from s the machine comes to a state by these retirements, in order
pub data Steps (world : World) (s : State) : List Retirement → State → Type 0 where
  none : Steps world s [] s
  more : {h : List Retirement} {t : State} (p : Step) → Steps world s h t → step world t ≡ Ok p → Steps world s (h ++ p.retirement ∷ []) p.after

-- What an answer of run says: when the log may be full, and the numbers and the addresses of the stops.
abbrev pub RunSays : Type 0 → (ℕ → ℕ → Type 0) → Option Stop → Type 0
RunSays full stops None = full
RunSays full stops (Some stop) = stops (cause_number stop.cause) stop.address

-- a machine at t that has not stopped before stops there, by the number of the next step's cause; one that has stops as it did
abbrev pub StopsAt : World → Option Stop → State → ℕ → ℕ → Type 0
StopsAt world None t n a = CauseSays (λ _. ⊥) (λ cause. n ≡ cause) (step world t) × (a ≡ t.address)
StopsAt world (Some old) t n a = (n ≡ cause_number old.cause) × (a ≡ old.address)

-- a run that came to t ends: the log is full, or there is room and the machine stops
abbrev pub RunEnds : World → Option Stop → State → ℕ → ℕ → Option Stop → Type 0
RunEnds world stopped t room filled = RunSays (room ≤ filled) (λ n a. (filled < room) × StopsAt world stopped t n a)

-- whether a machine has stopped after a run with that answer, where it had stopped so before
abbrev pub stopped_after : Option Stop → Option Stop → Option Stop
stopped_after before None = before
stopped_after before (Some stop) = Some stop

-- the records of retirements
abbrev pub records_of : List Retirement → List Retired
records_of = map (λ r. r.retired)

-- a run from s to t into a log with that room and those records before; where the machine had stopped, nothing retires
pub record RunsTo (world : World) (stopped : Option Stop) (s : State) (room : ℕ) (before : List Retired) (r : Option Stop) (t : State) (after : List Retired) : Type 0 where
  pub retirements : List Retirement
  pub steps : Steps world s retirements t
  pub logged : after ≡ before ++ records_of retirements
  pub for_good : IsSome stopped → retirements ≡ []
  pub ends : RunEnds world stopped t room (length after) r
