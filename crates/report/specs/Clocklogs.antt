-- What clocklog prints, from the input to the last line. Assumes nothing.
use Rattle.std.specs.Prelude.{◌≡◌, ℕ, ◌≤◌, List, length, replicate, vec_items, string_bytes, Result, String}
use Rattle.std.specs.declared.alloc.Global.{Global}
use Rattle.base.specs.Failures.{FailureSays}
use Rattle.base.specs.declared.failure.Failure.{Failure}
use Rattle.memory.specs.Flat.{flat_bytes, flat_size, flat_means}
use Rattle.memory.specs.declared.flat.Flat.{Flat}
use Rattle.predictor.specs.Tables.{never}
use Rattle.predictor.specs.declared.never.Never.{Never}
use Rattle.clocking.specs.declared.state.Event.{Event}
use Rattle.pipeline.specs.Calls.{Loaded, retired_entries, clock_entries}
use Rattle.pipeline.specs.Readings.{totals}
use Rattle.pipeline.specs.Theorem.{Agrees, Entries, Calls}
use Rattle.pipeline.specs.declared.machine.Machine.{Machine}
use Rattle.image.specs.Images.{padded_image, TooLong}
use Rattle.clocktable.specs.Tables.{clock_table}
use Rattle.report.specs.Finishing.{Finished}

-- the text is that of a run of at most 1000 clocks, from address 0, with flat memories of the image and of 4096 zero bytes, and Never
pub record ClockPrinted (image text : List ℕ) : Type 0 where
  pub predictor : Never
  pub instructions : Flat
  pub data_memory : Flat
  pub holds_image : vec_items (flat_bytes instructions) ≡ image
  pub image_whole : flat_size instructions ≡ length image
  pub holds_zeros : vec_items (flat_bytes data_memory) ≡ replicate 4096 0
  pub data_whole : flat_size data_memory ≡ 4096
  pub first : Machine Never Flat Flat
  pub loaded : Loaded (flat_size instructions) 0 0 predictor instructions data_memory first
  pub agrees : Agrees (λ _. never) flat_means flat_means first
  pub history : List Event
  pub put : Entries
  pub last : Machine Never Flat Flat
  pub calls : Calls (λ _. never) flat_means flat_means first history put last
  pub finished : Finished 1000 last
  pub shown : text ≡ clock_table (retired_entries history) (clock_entries history) last.core.stopped (totals last)

-- What is answered to an input, which is padded with zeros. There may be no memory only for an input that is not refused.
abbrev pub ClocklogAnswer : List ℕ → Result (String Global) Failure → Type 0
ClocklogAnswer input =
    FailureSays
    (λ text. (length input ≤ 65536) × ClockPrinted (padded_image input) (string_bytes text))
    (TooLong input) (length input ≤ 65536)
