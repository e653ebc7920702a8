-- The table of each predictor. Assumes nothing.
use Rattle.std.specs.Prelude.{◌≡◌, ℕ, Bool, false, if◌then◌else◌, List, [], ◌∷◌, nat_le}
use Rattle.std.specs.Bool.{beq}
use Rattle.base.specs.declared.branch.Outcome.{Outcome}
use Rattle.predictor.specs.Counting.{value_at, values_after, is_high, index_of, index_under, history_after}

-- the guess for every branch, by address and target, after every list of outcomes still to come
abbrev pub Guesses : Type 0
Guesses = List Outcome → ℕ → ℕ → Bool

-- a table moves on by an outcome: at any list it is what it was at the outcome and then that list
abbrev pub MovedOn : Guesses → Outcome → Guesses → Type 0
MovedOn before o now = now ≡ (λ later. before (o ∷ later))

-- Never: not taken
abbrev pub never : Guesses
never later address target = false

-- Backward: taken, if the target is at most the address
abbrev pub backward : Guesses
backward later address target = nat_le target address

-- the counters, once the outcome of a branch has moved the branch's counter
abbrev pub counters_after : List ℕ → Outcome → List ℕ
counters_after counters o = values_after counters (index_of o.address) o.taken

-- Bimodal, by the values of its counters
abbrev pub bimodal : List ℕ → Guesses
bimodal counters [] address target = is_high (value_at counters (index_of address))
bimodal counters (o ∷ later) address target = bimodal (counters_after counters o) later address target

-- the same of the counter that the branch has under that history
abbrev pub gshare_counters_after : ℕ → List ℕ → Outcome → List ℕ
gshare_counters_after history counters o = values_after counters (index_under history o.address) o.taken

-- Gshare, by the values of its counters and its history
abbrev pub gshare : List ℕ → ℕ → Guesses
gshare counters history [] address target = is_high (value_at counters (index_under history address))
gshare counters history (o ∷ later) address target =
    gshare (gshare_counters_after history counters o) (history_after history o.taken) later address target

-- The choosing counters after an outcome, by the guesses of the first and of the second for it: where these differ,
-- the branch's counter goes up if the second was right, else down.
abbrev pub choosers_after : List ℕ → Bool → Bool → Outcome → List ℕ
choosers_after choosers first second o =
    if beq first second then choosers else values_after choosers (index_of o.address) (beq second o.taken)

-- Tournament, by the values of its choosing counters and the tables of the two
abbrev pub tournament : List ℕ → Guesses → Guesses → Guesses
tournament choosers first second [] address target =
    if is_high (value_at choosers (index_of address)) then second [] address target else first [] address target
tournament choosers first second (o ∷ later) address target =
    tournament (choosers_after choosers (first [] o.address o.target) (second [] o.address o.target) o)
    (λ more. first (o ∷ more)) (λ more. second (o ∷ more)) later address target
