-- What the machines above use of the pieces of an instruction. Assumes nothing.
use Rattle.std.proofs.Common.{◌≡◌, ℕ, ◌%◌, Bool, true, false, eqb, ◌≢◌, Some, None, Ok, Err, Option, Result, refl, arith}
use Rattle.std.specs.Prelude.{if◌then◌else◌}
use Rattle.std.proofs.lemmas.Bool.Decides.{nat_tests}
use Rattle.std.proofs.lemmas.Bool.{eqb-false}
use Rattle.base.specs.Bytes.{within}
use Rattle.base.specs.declared.bus.Request.{Request}
use Rattle.base.specs.declared.bus.Request.TheVariants.{Read, Write}
use Rattle.rv32i.specs.declared.cause.Cause.{Cause}
use Rattle.rv32i.specs.declared.effect.Access.{Access}
use Rattle.rv32i.specs.declared.effect.Effect.{Effect}
use Rattle.rv32i.specs.declared.instruction.Instruction.{Instruction}
use Rattle.rv32i.specs.declared.instruction.Instruction.TheVariants.{Jalr, Branch, Load as Loads, Store as Stores, Immediate, Shift, Register}
use Rattle.rv32i.specs.declared.register.Register.{Register as Reg}
use Rattle.rv32i.specs.Effects.{first_source, second_source, request, executed}
use Rattle.rv32i.specs.Registers.{nonzero}

-- a request is for a word of the memory
abbrev pub InRange : ℕ → Result (Option Request) Cause → Type 0
InRange size (Err c) = Unit {0}
InRange size (Ok None) = Unit {0}
InRange size (Ok (Some (Read a))) = within size a ≡ true
InRange size (Ok (Some (Write a w l))) = within size a ≡ true

pub in_range : (size : ℕ) (how : Option Access) (x b : ℕ) → InRange size (request size how x b)
unfolding request
in_range size how x b = grind (arith, nat_tests)

-- where execution goes on from an instruction at a multiple of 4
abbrev pub NextAligned : Result Effect Cause → Type 0
NextAligned (Ok e) = e.next % 4 ≡ 0
NextAligned (Err c) = Unit {0}

pub next_aligned : (i : Instruction) (p a b : ℕ) → p % 4 ≡ 0 → NextAligned (executed i p a b)
unfolding executed
next_aligned i p a b h = grind (arith, nat_tests)

-- no instruction reads x0 as a register
abbrev pub NotX0 : Option Reg → Type 0
NotX0 None = Unit {0}
NotX0 (Some r) = r.number ≢ 0

not_x0_by : (r : Reg) (b : Bool) → eqb r.number 0 ≡ b → NotX0 (if b then None else Some r)
not_x0_by r true e = tt
not_x0_by r false e = eqb-false r.number 0 e

not_x0 : (r : Reg) → NotX0 (nonzero r)
not_x0 r = not_x0_by r (eqb r.number 0) refl

pub first_not_x0 : (i : Instruction) → NotX0 (first_source i)
unfolding first_source
first_not_x0 (Jalr d r z) = not_x0 r
first_not_x0 (Branch c r q z) = not_x0 r
first_not_x0 (Loads k d r z) = not_x0 r
first_not_x0 (Stores k r q z) = not_x0 r
first_not_x0 (Immediate o d r z) = not_x0 r
first_not_x0 (Shift o d r n) = not_x0 r
first_not_x0 (Register o d r q) = not_x0 r
first_not_x0 i = tt

pub second_not_x0 : (i : Instruction) → NotX0 (second_source i)
unfolding second_source
second_not_x0 (Branch c r q z) = not_x0 q
second_not_x0 (Stores k r q z) = not_x0 q
second_not_x0 (Register o d r q) = not_x0 q
second_not_x0 i = tt
