-- An instruction laid out flat is the instruction. Assumes nothing.
use Rattle.std.proofs.Common.{◌≡◌, ℕ, ◌^◌, ◌<◌, Bool, true, false, eqb, to_z, Some, None, sym, refl, ap, arith}
use Rattle.std.specs.Prelude.{if◌then◌else◌}
use Rattle.std.proofs.lemmas.Bool.{eqb-true}
use Rattle.std.proofs.lemmas.Int.{of_z-to_z, to_z-of_z}
use Rattle.std.specs.Int.{w32}
use Rattle.rv32i.specs.declared.instruction.Instruction.{Instruction}
use Rattle.rv32i.specs.declared.register.Register.{Register as Reg}
use Rattle.rv32i.specs.Effects.{first_source, second_source, destination, access}
use Rattle.rv32i.specs.MicroOps.{or_x0, instruction_of, fields_of, ImmediateFits, IsOfItsInstruction}
use Rattle.rv32i.specs.Registers.{register, nonzero}
use Rattle.rv32i.specs.Signs.{bits_of}
use Rattle.rv32i.proofs.Numbered.{same_number}

pub bits_kept : (n : ℕ) → n < 2 ^ 32 → bits_of (to_z w32 n) ≡ n
bits_kept n h = of_z-to_z w32 n h

register_kept_by : (r : Reg) (b : Bool) → eqb r.number 0 ≡ b → or_x0 (if b then None else Some r) ≡ r
register_kept_by r true e = same_number (register 0) r (sym (eqb-true r.number 0 e))
register_kept_by r false e = refl

register_kept : (r : Reg) → or_x0 (nonzero r) ≡ r
register_kept r = register_kept_by r (eqb r.number 0) refl

pub kept : (i : Instruction) → ImmediateFits i → instruction_of (fields_of i) ≡ i
unfolding first_source second_source destination access
kept i h = grind (arith, register_kept, to_z-of_z)

pub is_of_its_instruction : (i : Instruction) → ImmediateFits i → IsOfItsInstruction (fields_of i)
is_of_its_instruction i h = ap fields_of (sym (kept i h))
