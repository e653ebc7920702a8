-- The worked examples: one table, and that the definitions give it. Assumes nothing.
use Rattle.std.specs.Prelude.{◌≡◌, ℕ, true, List, [], ◌∷◌, map, pos, negsuc, Some, None, Option}
use Rattle.memory.specs.Flat.{flat_means}
use Rattle.wait_states.specs.WaitStates.{wait_means}
use Rattle.write_buffer.specs.WriteBuffer.{buffer_means}
use Rattle.memory.specs.declared.flat.Flat.{Flat}
use Rattle.wait_states.specs.declared.WaitStates.{WaitStates}
use Rattle.write_buffer.specs.declared.WriteBuffer.{WriteBuffer}
use Rattle.base.specs.declared.branch.Outcome.{Outcome}
use Rattle.predictor.specs.Counting.{initial_values, value_at, index_of}
use Rattle.predictor.specs.Tables.{counters_after}
use Rattle.rv32i.specs.Registers.{register}
use Rattle.rv32i_words.specs.Words.{decoded}
use Rattle.rv32i.specs.declared.instruction.Condition.TheVariants.{Ne}
use Rattle.rv32i.specs.declared.instruction.ImmediateOp.TheVariants.{Add}
use Rattle.rv32i.specs.declared.instruction.Instruction.{Instruction}
use Rattle.rv32i.specs.declared.instruction.Instruction.TheVariants.{Immediate, Branch, Shift, Jal}
use Rattle.rv32i.specs.declared.instruction.ShiftOp.TheVariants.{Sra}

-- ---- the table

-- words, and what they hold: none is an illegal word
abbrev pub words : List ℕ
words = 0x00200093 ∷ 0xfe009ee3 ∷ 0x41f1d193 ∷ 0x008000ef ∷ 0x0000100f ∷ 0x02009093 ∷ 0x00000000 ∷ []

abbrev pub instructions : List (Option Instruction)
instructions =
    Some (Immediate Add (register 1) (register 0) (pos 2)) ∷  -- addi x1,x0,2
    Some (Branch Ne (register 1) (register 0) (negsuc 3)) ∷  -- bne x1,x0,-4
    Some (Shift Sra (register 3) (register 3) 31) ∷  -- srai x3,x3,31
    Some (Jal (register 1) (pos 8)) ∷  -- jal x1,8
    None ∷ None ∷ None ∷ []

-- a branch's counter in a new Bimodal after one, two and three outcomes, all taken
abbrev pub counts : List ℕ
counts = 2 ∷ 3 ∷ 3 ∷ []

-- the longest wait of a write buffer over two wait states over a flat memory
abbrev pub longest : ℕ
longest = 14

-- ---- the definitions give it

-- an outcome of a branch that was taken
abbrev pub taken : ℕ → ℕ → Outcome
taken address target = record { address = address; target = target; taken = true }

-- the branch's counter after one, two and three times the same outcome, by what Bimodal's contracts say of its counters
abbrev pub counts_of : Outcome → List ℕ
counts_of o =
    value_at (counters_after initial_values o) (index_of o.address) ∷
    value_at (counters_after (counters_after initial_values o) o) (index_of o.address) ∷
    value_at (counters_after (counters_after (counters_after initial_values o) o) o) (index_of o.address) ∷ []

pub record TableGiven : Type 0 where
  pub decodes : map decoded words ≡ instructions
  pub counter : (address target : ℕ) → counts_of (taken address target) ≡ counts
  pub stack : (m : WriteBuffer (WaitStates Flat)) → m.below.states ≡ 2 → (buffer_means (wait_means flat_means)).view.longest m ≡ longest
