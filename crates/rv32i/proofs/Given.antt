-- What is given by a cause's number is given by the cause. Assumes nothing.
use Rattle.std.proofs.Common.{◌≡◌, ℕ, Ok, Err, Result, sym, refl, ap, ◌∙◌}
use Rattle.std.specs.Prelude.{if◌then◌else◌, ◌==◌}
use Rattle.rv32i.specs.Causes.{cause_number, Gives}
use Rattle.rv32i.specs.declared.cause.Cause.{Cause}
use Rattle.rv32i.specs.declared.cause.Cause.TheVariants.{InstructionMisaligned, InstructionAccessFault, IllegalInstruction, Breakpoint, LoadMisaligned, LoadAccessFault, StoreMisaligned, StoreAccessFault, EnvironmentCall}

-- the cause of a number
abbrev cause_of : ℕ → Cause
cause_of n =
    if n == 0 then InstructionMisaligned
    else if n == 1 then InstructionAccessFault
    else if n == 2 then IllegalInstruction
    else if n == 3 then Breakpoint
    else if n == 4 then LoadMisaligned
    else if n == 5 then LoadAccessFault
    else if n == 6 then StoreMisaligned
    else if n == 7 then StoreAccessFault
    else EnvironmentCall

numbered_back : (c : Cause) → cause_of (cause_number c) ≡ c
numbered_back InstructionMisaligned = refl
numbered_back InstructionAccessFault = refl
numbered_back IllegalInstruction = refl
numbered_back Breakpoint = refl
numbered_back LoadMisaligned = refl
numbered_back LoadAccessFault = refl
numbered_back StoreMisaligned = refl
numbered_back StoreAccessFault = refl
numbered_back EnvironmentCall = refl

-- causes of one number are one cause
pub same_cause : (b c : Cause) → cause_number b ≡ cause_number c → b ≡ c
same_cause b c e = sym (numbered_back b) ∙ ap cause_of e ∙ numbered_back c

pub given : {A : Type 0} (d r : Result A Cause) → Gives d r → r ≡ d
given (Ok x) (Ok y) h = ap Ok h
given (Ok x) (Err c) h = absurd h
given (Err c) (Ok y) h = absurd h
given (Err c) (Err b) h = ap Err (same_cause b c h)
