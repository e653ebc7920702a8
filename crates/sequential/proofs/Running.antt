-- Steps in a row, one more at a time. Assumes nothing.
use Rattle.std.proofs.Common.{◌≡◌, ℕ, ◌+◌, ◌-◌, ◌<◌, ◌≤◌, List, [], ◌∷◌, ◌++◌, length, drop, Some, None, Ok, Err, IsSome, Option, Result, sym, refl, ap, ◌∙◌, append_assoc, append-nil, length-append, arith}
use Rattle.std.proofs.lemmas.List.{drop-drop}
use Rattle.rv32i.specs.declared.cause.Cause.{Cause}
use Rattle.sequential.proofs.Stopping.{same_stop}
use Rattle.sequential.specs.Runs.{Steps, none, more, records_of, RunsTo}
use Rattle.sequential.specs.Sequential.{State, World, Step, step}
use Rattle.sequential.specs.Stepping.{stop_at, Comes, Stepped}
use Rattle.sequential.specs.declared.record.Retired.{Retired}
use Rattle.sequential.specs.declared.record.Retirement.{Retirement}
use Rattle.sequential.specs.declared.record.Stop.{Stop}

records_of_more : (h : List Retirement) (r : Retirement) → records_of (h ++ r ∷ []) ≡ records_of h ++ (r.retired ∷ [])
records_of_more [] r = refl
records_of_more (x ∷ h) r = ap (λ (l : List Retired). x.retired ∷ l) (records_of_more h r)

pub none_taken : {R : Type 0} (before first : List R) → first ≡ drop (length before - length before) first
none_taken before first =
    let none : length before - length before ≡ 0 = omega arith in
    rw none refl

-- so the slots that are left are those behind all that were taken
pub spare_after : {R : Type 0} (before mid after : List R) (x : R) (first m n : List R) → length before ≤ length mid → after ≡ mid ++ x ∷ []
    → m ≡ drop (length mid - length before) first → n ≡ drop 1 m → n ≡ drop (length after - length before) first
spare_after before mid after x first m n l a i j =
    let one_further : (length mid - length before) + 1 ≡ length after - length before = rw (a, length-append) (omega arith) in
    j ∙ ap (drop 1) i ∙ drop-drop 1 (length mid - length before) first ∙ ap (λ (k : ℕ). drop k first) one_further

module _ (world : World) where
  -- what a run from s has come to
  pub record SoFar (stopped : Option Stop) (s : State) (before : List Retired) (t : State) (after : List Retired) : Type 0 where
    pub retirements : List Retirement
    pub steps : Steps world s retirements t
    pub logged : after ≡ before ++ records_of retirements
    pub for_good : IsSome stopped → retirements ≡ []

  pub nothing : (stopped : Option Stop) (s : State) (before : List Retired) → SoFar stopped s before s before
  nothing stopped s before = record { retirements = []; steps = none; logged = sym (append-nil before); for_good = λ _. refl }

  pub no_fewer : (stopped : Option Stop) (s : State) (before : List Retired) (t : State) (after : List Retired) → SoFar stopped s before t after → length before ≤ length after
  no_fewer stopped s before t after k = rw (k.logged, length-append) (omega arith)

  -- a machine that has stopped makes no more
  pub none_more : (t u : State) (o q : Option Stop) (r : Retirement) → Stepped world t o (Ok r) u q → IsSome o → ⊥
  none_more t u None q r h some = cc
  none_more t u (Some old) q r h some = h.0

  module _ {s : State} {before : List Retired} (t u : State) (mid : List Retired) where
    -- an instruction more
    module _ (after : List Retired) (r : Retirement) (a : after ≡ mid ++ (r.retired ∷ [])) (q : Option Stop) where
      more_by : SoFar None s before t mid → (x : Result Step Cause) → step world t ≡ x → Comes t x (Ok r) u q → SoFar None s before u after × (q ≡ None)
      more_by k (Err c) e h = absurd h.0
      more_by k (Ok y) e h = (
        record {
          retirements = k.retirements ++ y.retirement ∷ [];
          steps = rw h.1 (more y k.steps e);
          logged =
              a ∙ ap (λ (l : List Retired). l ++ (r.retired ∷ [])) k.logged ∙ append_assoc before (records_of k.retirements) (r.retired ∷ [])
              ∙ ap (λ (l : List Retired). before ++ l) (sym (records_of_more k.retirements r) ∙ ap (λ (x : Retirement). records_of (k.retirements ++ x ∷ [])) h.0);
          for_good = λ some. cc;
        },
        h.2,
      )

      pub one_more : (o : Option Stop) → SoFar o s before t mid → Stepped world t o (Ok r) u q → SoFar o s before u after × (q ≡ o)
      one_more None k h = more_by k (step world t) refl h
      one_more (Some old) k h = absurd h.0

    -- the step that stops
    module _ (room : ℕ) (l : length mid < room) (stop : Stop) (q : Option Stop) where
      stop_by : SoFar None s before t mid → (x : Result Step Cause) → step world t ≡ x → Comes t x (Err stop) u q → RunsTo world None s room before (Some stop) u mid
      stop_by k (Ok y) e h = absurd h.0
      stop_by k (Err c) e h = record {
        retirements = k.retirements;
        steps = rw h.1 k.steps;
        logged = k.logged;
        for_good = k.for_good;
        ends = rw (h.1, e) (l, h.0);
      }

      pub stops_at : (o : Option Stop) → SoFar o s before t mid → Stepped world t o (Err stop) u q → RunsTo world o s room before (Some stop) u mid
      stops_at None k h = stop_by k (step world t) refl h
      stops_at (Some old) k h = record {
        retirements = k.retirements;
        steps = rw h.1 k.steps;
        logged = k.logged;
        for_good = k.for_good;
        ends = (l, h.0);
      }

  -- and then the machine has stopped
  module _ (t u : State) (stop : Stop) (q : Option Stop) where
    halts_by : (x : Result Step Cause) → Comes t x (Err stop) u q → q ≡ Some stop
    halts_by (Ok y) h = absurd h.0
    halts_by (Err c) h = h.2 ∙ ap Some (sym (same_stop stop (stop_at t c) h.0.0 h.0.1))

    pub halts : (o : Option Stop) → Stepped world t o (Err stop) u q → q ≡ Some stop
    halts None h = halts_by (step world t) h
    halts (Some old) h = h.2 ∙ ap Some (sym (same_stop stop old h.0.0 h.0.1))

  -- the log is full
  module _ {s : State} {before : List Retired} (t : State) (mid : List Retired) (o : Option Stop) (k : SoFar o s before t mid) (room : ℕ) (l : room ≤ length mid) where
    pub full : RunsTo world o s room before None t mid
    full = record { retirements = k.retirements; steps = k.steps; logged = k.logged; for_good = k.for_good; ends = l }
