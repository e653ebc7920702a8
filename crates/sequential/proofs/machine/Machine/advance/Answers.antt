use Rattle.std.proofs.Common.{◌≡◌, Ok, Err, refl, ap, rules}
use Rattle.rv32i.specs.Causes.{Gives}
use Rattle.rv32i.specs.Effects.{destination, executed}
use Rattle.rv32i.specs.Registers.{written}
use Rattle.sequential.specs.Sequential.{first_operand, second_operand, retired}
use Rattle.sequential.specs.declared.record.Retired.{Retired}
use Rattle.sequential.specs.Stepping.{state_of}
use Rattle.sequential.proofs.Advancing.{transfer_ok, transfer_err, stops, retires, at_fetch, at_issue, at_execute, at_transfer, at_end}
use Rattle.sequential.proofs.machine.Machine.advance.Goals as goal

pub returns-in_err-word-clause-does : goal.returns-in_err-word-clause-does
returns-in_err-word-clause-does g c =
    stops g.I.Memory.means.view g.D.Memory.means.view c.args.self.now c.fetch.new.instructions _ _ _ refl
    (at_fetch _ _ _ c.in_err-word.ensures.word)
    c.from_residual.ensures.1

pub returns-in_err-instruction-clause-does : goal.returns-in_err-instruction-clause-does
returns-in_err-instruction-clause-does g c =
    stops g.I.Memory.means.view g.D.Memory.means.view c.args.self.now c.fetch.new.instructions _ _ _ refl
    (at_issue _ _ _ c.in_ok-word.ensures.word _ c.in_err-instruction.ensures)
    c.from_residual-in_err-instruction.ensures.1

pub returns-in_err-effect-clause-does : goal.returns-in_err-effect-clause-does
returns-in_err-effect-clause-does g c =
    let m = c.args.self.now in
    let s = state_of g.D.Memory.means.view m in
    let i = c.in_ok-instruction.instruction in
    let ran : Gives (executed i m.address (first_operand s i) (second_operand s i)) (Err c.in_err-effect.field-0.0) = search rules in
    stops g.I.Memory.means.view g.D.Memory.means.view m c.fetch.new.instructions _ _ _ refl
    (at_execute _ _ _ c.in_ok-word.ensures.word _ c.in_ok-instruction.ensures _ ran)
    c.from_residual-in_err-effect.ensures.1

pub returns-in_err-value-clause-does : goal.returns-in_err-value-clause-does
returns-in_err-value-clause-does g c =
    let m = c.args.self.now in
    let s = state_of g.D.Memory.means.view m in
    let i = c.in_ok-instruction.instruction in
    let ran : Gives (executed i m.address (first_operand s i) (second_operand s i)) (Ok c.in_ok-effect.effect) = search rules in
    let b : c.read-b.result ≡ second_operand s i = search rules in
    let t = transfer_err g.D.Memory.means.view m.data_memory c.transfer.new.data_memory _ _ (rw (c.access.ensures, b) at c.in_err-value.ensures).0 in
    stops g.I.Memory.means.view g.D.Memory.means.view m c.fetch.new.instructions _ _ _ t.1
    (at_transfer _ _ _ c.in_ok-word.ensures.word _ c.in_ok-instruction.ensures _ ran _ t.0)
    c.from_residual-in_err-value.ensures.1

pub returns-clause-does : goal.returns-clause-does
returns-clause-does g c =
    let m = c.args.self.now in
    let s = state_of g.D.Memory.means.view m in
    let i = c.in_ok-instruction.instruction in
    let e = c.in_ok-effect.effect in
    let ran : Gives (executed i m.address (first_operand s i) (second_operand s i)) (Ok e) = search rules in
    let b : c.read-b.result ≡ second_operand s i = search rules in
    let kept : c.new.result ≡ retired m.address c.in_ok-word.word (destination i) c.in_ok-value.value = search rules in
    let wrote : c.write.new.self ≡ written m.registers (destination i) c.in_ok-value.value = search rules in
    let t = transfer_ok g.D.Memory.means.view m.data_memory c.transfer.new.data_memory _ _ (rw (c.access.ensures, b) at c.in_ok-value.ensures).0 in
    retires g.I.Memory.means.view g.D.Memory.means.view m
    (record { address = e.next; registers = c.write.new.self; instructions = c.fetch.new.instructions; data_memory = c.transfer.new.data_memory; stopped = m.stopped }) _ _
    (at_end _ _ _ c.in_ok-word.ensures.word _ c.in_ok-instruction.ensures _ ran _ t)
    (ap (λ (r : Retired). Ok (record { retired = r; outcome = e.outcome })) kept)
    (λ k. record { address = e.next; registers = wrote k; data_memory = g.D.Memory.means.view.byte c.transfer.new.data_memory })
