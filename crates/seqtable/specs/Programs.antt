-- What is printed of a program from beginning to end. Assumes nothing.
use Rattle.std.specs.Prelude.{◌≡◌, ℕ, ◌%◌, ◌≤◌, List, [], length, replicate, None, string_bytes, Option, Result, String, slice_index}
use Rattle.std.specs.declared.alloc.Global.{Global}
use Rattle.base.specs.Failures.{FailureSays}
use Rattle.base.specs.declared.failure.Failure.{Failure}
use Rattle.sequential.specs.Runs.{RunsTo}
use Rattle.sequential.specs.Sequential.{State, World}
use Rattle.sequential.specs.declared.record.Retired.{Retired}
use Rattle.sequential.specs.declared.record.Stop.{Stop}
use Rattle.image.specs.Images.{padded_image, TooLong}
use Rattle.seqtable.specs.Tables.{sequence_text}

-- the bytes of an image, and 4096 bytes of data
abbrev pub world_for : List ℕ → World
world_for image = record { instructions_size = length image; instructions = λ x. slice_index image x % 256; data_size = 4096 }

-- at address 0, with zeros everywhere
abbrev pub begin : State
begin = record { address = 0; registers = replicate 32 0; data_memory = λ _. 0 }

-- the text is that of a run of at most 1000 instructions
pub record Printed (image text : List ℕ) : Type 0 where
  pub retired : List Retired
  pub stop : Option Stop
  pub last : State
  pub ran : RunsTo (world_for image) None begin 1000 [] stop last retired
  pub shown : text ≡ sequence_text retired stop

-- What the program answers to its input. There may be no memory only for an input that is not refused.
abbrev pub Answered : List ℕ → Result (String Global) Failure → Type 0
Answered input =
    FailureSays (λ text. (length input ≤ 65536) × Printed (padded_image input) (string_bytes text))
    (TooLong input) (length input ≤ 65536)
