-- What the predictors that count hold. Assumes nothing.
use Rattle.std.specs.Prelude.{ℕ, List, []}
use Rattle.predictor.specs.Tables.{Guesses, bimodal, gshare, choosers_after, tournament}
use Rattle.base.specs.declared.branch.Outcome.{Outcome}
use Rattle.predictor.specs.declared.bimodal.Bimodal.{Bimodal}
use Rattle.predictor.specs.declared.gshare.Gshare.{Gshare}
use Rattle.predictor.specs.declared.tournament.Tournament.{Tournament}

-- ---- Bimodal: the values of its counters

abbrev pub counters_of : Bimodal → List ℕ
counters_of b = b.counters

abbrev pub bimodal_table : Bimodal → Guesses
bimodal_table b = bimodal (counters_of b)

-- ---- Gshare: the values of its counters, and its history

abbrev pub gshare_counters : Gshare → List ℕ
gshare_counters g = g.counters

abbrev pub history_of : Gshare → ℕ
history_of g = g.history.bits

abbrev pub gshare_table : Gshare → Guesses
gshare_table g = gshare (gshare_counters g) (history_of g)

-- ---- Tournament: the values of its choosing counters, and the two predictors, by their tables

module _ {A B : Type 0} where
  abbrev pub choosers_of : Tournament A B → List ℕ
  choosers_of t = t.choosers

  abbrev pub first_of : Tournament A B → A
  first_of t = t.first

  abbrev pub second_of : Tournament A B → B
  second_of t = t.second

  -- the choosing counters after an outcome
  abbrev pub next_choosers : (A → Guesses) → (B → Guesses) → Tournament A B → Outcome → List ℕ
  next_choosers a b t o = choosers_after (choosers_of t) (a (first_of t) [] o.address o.target) (b (second_of t) [] o.address o.target) o

  abbrev pub tournament_table : (A → Guesses) → (B → Guesses) → Tournament A B → Guesses
  tournament_table a b t = tournament (choosers_of t) (a (first_of t)) (b (second_of t))
