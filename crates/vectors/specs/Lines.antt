-- What a line of the vectors says. Assumes nothing.
use Rattle.std.specs.Prelude.{◌≡◌, ◌≢◌, ℕ, List, ◌∷◌, ◌++◌, Some, codes, slice_index, EachIndex}
use Rattle.vectors.specs.Images.{Hexadecimal}
use Rattle.vectors.specs.declared.image.Line.{Line}
use Rattle.vectors.specs.declared.image.Line.TheVariants.{Image, Words, Run}

-- a text without a space
abbrev pub IsWord : List ℕ → Type 0
IsWord text = EachIndex text (λ i. slice_index text i ≢ 32)

-- a word, a space and a rest
pub record Parts (text word rest : List ℕ) : Type 0 where
  pub spaceless : IsWord word
  pub joined : text ≡ word ++ (32 ∷ rest)

-- NAME START SIZE
pub record Heads (text name : List ℕ) (start size : ℕ) : Type 0 where
  pub numbers : List ℕ
  pub first : List ℕ
  pub second : List ℕ
  pub behind_name : Parts text name numbers
  pub behind_start : Parts numbers first second
  pub start_reads : Hexadecimal first (Some start)
  pub size_reads : Hexadecimal second (Some size)

-- the text behind the word image
abbrev pub SaysHead : List ℕ → Line → Type 0
SaysHead text (Image name start size) = Heads text name.now start size
SaysHead text line = ⊥

-- the text of a line that says this
abbrev pub Says : List ℕ → Line → Type 0
Says text (Image name start size) =
    (rest : List ℕ) × (text ≡ codes "image " ++ rest) × Heads rest name.now start size
Says text (Words address words) =
    (first : List ℕ) × Parts text first words.now × Hexadecimal first (Some address)
Says text Run = text ≡ codes "run"

-- no text of a line
abbrev pub SaysNothing : List ℕ → Type 0
SaysNothing text = (line : Line) → ¬ Says text line

abbrev pub SaysNoHead : List ℕ → Type 0
SaysNoHead text = (line : Line) → ¬ SaysHead text line
