-- A predictor that is chosen at run time: its table is that of the chosen one. Assumes nothing.
use Rattle.either.specs.declared.Either.{Either}
use Rattle.either.specs.Either.{either}
use Rattle.predictor.specs.Counting.{initial_values}
use Rattle.predictor.specs.States.{bimodal_table, gshare_table, tournament_table}
use Rattle.predictor.specs.Tables.{Guesses, never, backward, bimodal, gshare, tournament}
use Rattle.predictor.specs.declared.backward.Backward.{Backward}
use Rattle.predictor.specs.declared.bimodal.Bimodal.{Bimodal}
use Rattle.predictor.specs.declared.gshare.Gshare.{Gshare}
use Rattle.predictor.specs.declared.never.Never.{Never}
use Rattle.predictor.specs.declared.tournament.Tournament.{Tournament}
use Rattle.setup.specs.declared.choice.PredictorChoice.{PredictorChoice}
use Rattle.setup.specs.declared.choice.PredictorChoice.TheVariants.{Simple as OneName, Tournament as TwoNames}
use Rattle.setup.specs.declared.choice.SimpleChoice.{SimpleChoice}
use Rattle.setup.specs.declared.choice.SimpleChoice.TheVariants.{Never as NamesNever, Backward as NamesBackward, Bimodal as NamesBimodal, Gshare as NamesGshare}

-- ---- the predictors that a run can have, and their tables

abbrev pub Simple : Type 0
Simple = Either (Either Never Backward) (Either Bimodal Gshare)

abbrev pub simple_table : Simple → Guesses
simple_table = either (either (λ _. never) (λ _. backward)) (either bimodal_table gshare_table)

abbrev pub Chosen : Type 0
Chosen = Either Simple (Tournament Simple Simple)

abbrev pub chosen_table : Chosen → Guesses
chosen_table = either simple_table (tournament_table simple_table simple_table)

-- ---- the table of the fresh predictor of a name

abbrev pub simple_fresh : SimpleChoice → Guesses
simple_fresh NamesNever = never
simple_fresh NamesBackward = backward
simple_fresh NamesBimodal = bimodal initial_values
simple_fresh NamesGshare = gshare initial_values 0

abbrev pub chosen_fresh : PredictorChoice → Guesses
chosen_fresh (OneName s) = simple_fresh s
chosen_fresh (TwoNames a b) = tournament initial_values (simple_fresh a) (simple_fresh b)
