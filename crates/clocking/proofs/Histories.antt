-- Histories that grow by one clock. Assumes nothing.
use Rattle.std.proofs.Common.{◌≡◌, ℕ, ◌+◌, Bool, List, [], ◌∷◌, ◌++◌, length, is_some, Some, None, Option, sym, refl, ap, ◌∙◌, append_assoc, append-nil, length-append}
use mathlib.Core.Path.{fun_ext}
use Rattle.base.specs.declared.branch.Outcome.{Outcome}
use Rattle.sequential.specs.declared.record.Retirement.{Retirement}
use Rattle.clocking.specs.Agreement.{list_of, retirements, outcomes}
use Rattle.clocking.specs.WriteBack.{outcome_of}
use Rattle.clocking.specs.Counting.{one_if}
use Rattle.clocking.specs.Ports.{TableOf, Taught}
use Rattle.clocking.specs.declared.state.Event.{Event}

pub retirements_more : (h : List Event) (e : Event) → retirements (h ++ e ∷ []) ≡ retirements h ++ list_of e.retirement
retirements_more [] e = append-nil (list_of e.retirement)
retirements_more (x ∷ h) e = ap (λ (l : List Retirement). list_of x.retirement ++ l) (retirements_more h e) ∙ sym (append_assoc (list_of x.retirement) (retirements h) (list_of e.retirement))

outcomes_append : (rs ss : List Retirement) → outcomes (rs ++ ss) ≡ outcomes rs ++ outcomes ss
outcomes_append [] ss = refl
outcomes_append (r ∷ rs) ss = ap (λ (l : List Outcome). list_of r.outcome ++ l) (outcomes_append rs ss) ∙ sym (append_assoc (list_of r.outcome) (outcomes rs) (outcomes ss))

outcomes_one : (r : Option Retirement) → outcomes (list_of r) ≡ list_of (outcome_of r)
outcomes_one None = refl
outcomes_one (Some r) = append-nil (list_of r.outcome)

outcomes_more : (h : List Event) (e : Event) → outcomes (retirements (h ++ e ∷ [])) ≡ outcomes (retirements h) ++ list_of (outcome_of e.retirement)
outcomes_more h e =
    ap outcomes (retirements_more h e) ∙ outcomes_append (retirements h) (list_of e.retirement) ∙ ap (λ (l : List Outcome). outcomes (retirements h) ++ l) (outcomes_one e.retirement)

listed_length : {R : Type 0} (r : Option R) → length (list_of r) ≡ one_if (is_some r)
listed_length None = refl
listed_length (Some r) = refl

pub length_more : (h : List Event) (e : Event) → length (h ++ e ∷ []) ≡ length h + 1
length_more h e = length-append h (e ∷ [])

pub retired_more : (h : List Event) (e : Event) → length (retirements (h ++ e ∷ [])) ≡ length (retirements h) + one_if (is_some e.retirement)
retired_more h e = ap length (retirements_more h e) ∙ length-append (retirements h) (list_of e.retirement) ∙ ap (λ n. length (retirements h) + n) (listed_length e.retirement)

-- what one more outcome teaches
taught_by : {P : Type 0} (table : TableOf P) (start p q : P) (os : List Outcome) (o : Option Outcome) → table p ≡ (λ later. table start (os ++ later)) → Taught table p o q
    → table q ≡ (λ later. table start ((os ++ list_of o) ++ later))
taught_by table start p q os None k t = ap table t ∙ k ∙ fun_ext (λ later. ap (λ (l : List Outcome). table start (l ++ later)) (sym (append-nil os)))
taught_by table start p q os (Some o) k t =
    t ∙ ap {B = List Outcome → ℕ → ℕ → Bool} (λ w later. w (o ∷ later)) k ∙ fun_ext (λ later. ap (table start) (sym (append_assoc os (o ∷ []) later)))

pub taught_more : {P : Type 0} (table : TableOf P) (start p q : P) (h : List Event) (e : Event) → table p ≡ (λ later. table start (outcomes (retirements h) ++ later))
    → Taught table p (outcome_of e.retirement) q → table q ≡ (λ later. table start (outcomes (retirements (h ++ e ∷ [])) ++ later))
taught_more table start p q h e k t =
    taught_by table start p q (outcomes (retirements h)) (outcome_of e.retirement) k t
    ∙ ap {B = List Outcome → ℕ → ℕ → Bool} (λ os later. table start (os ++ later)) (sym (outcomes_more h e))
