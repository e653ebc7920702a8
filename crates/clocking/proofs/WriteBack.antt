-- Write-back keeps the chain: what retires is a step of the sequential machine. Assumes nothing.
use Rattle.std.proofs.Common.{◌≡◌, ℕ, Bool, true, false, cond, eqb, List, ◌++◌, is_some, Some, None, Ok, Err, Option, sym, refl, ap, ◌∙◌, subst, append-nil, ◌≢◌}
use Rattle.rv32i.specs.declared.registers.Registers.{Registers}
use Rattle.sequential.specs.Runs.{Steps, more}
use Rattle.sequential.specs.Sequential.{State, World}
use Rattle.sequential.specs.declared.record.Retirement.{Retirement}
use Rattle.sequential.specs.declared.record.Stop.{Stop}
use Rattle.clocking.specs.Agreement.{list_of, BytesAgree}
use Rattle.clocking.specs.WriteBack.{stop_of, retirement_of, write_back}
use Rattle.clocking.specs.Counting.{occupancy, one_if}
use Rattle.clocking.specs.declared.latch.Completed.{Completed}
use Rattle.clocking.specs.declared.latch.Fetched.{Fetched}
use Rattle.clocking.specs.declared.latch.Latch.{Latch}
use Rattle.clocking.specs.declared.latch.Latch.TheVariants.{Empty, Faulting, Full}
use Rattle.clocking.specs.declared.latch.Latches.{Latches}
use Rattle.clocking.proofs.Chain.{Flows, Reach, Chain, HoldsW, behindW, bytes_at, HoldsM, HoldsX, HoldsD, behindM, behindX, behindD, Leads}
use Rattle.clocking.proofs.Forward.{Pairs, pairs, written_read, Sized, written_sized, Known}
use Rattle.clocking.proofs.Partial.{completed_at, after_at, retires_as, step_completes}
use Rattle.rv32i.specs.declared.register.Register.{Register}
use Rattle.clocking.specs.declared.latch.Decoded.{Decoded}
use Rattle.clocking.specs.declared.latch.Executed.{Executed}
use Rattle.rv32i.specs.Registers.{written}
use Rattle.clocking.specs.Decode.{gives, from_w, or_else, value_of}

-- the register file that W was written to, read with W before it
retired_by : (b : Bool) (w x v : ℕ) → x ≡ cond b w x → or_else (cond b (Some (Some w)) None) (Some x) ≡ Some v → v ≡ x
retired_by true w x v h e = cc
retired_by false w x v h e = cc

again : (b : Bool) (x w y : ℕ) → x ≡ cond b w y → x ≡ cond b w x
again true x w y h = h
again b x w y h = refl

retired_read : (g : Registers) (rd : Option Register) (w : ℕ) → Sized g → (r : Register) (v : ℕ) → r.number ≢ 0
    → or_else (cond (gives rd r) (Some (Some w)) None) (Some (value_of (written g rd w) r)) ≡ Some v → v ≡ value_of (written g rd w) r
retired_read g None w z r v n e = cc
retired_read g (Some d) w z r v n e =
    retired_by (eqb d.number r.number) w (value_of (written g (Some d) w) r) v
    (again (eqb d.number r.number) _ w (value_of g r) (written_read g d r w z n)) e

module _ (world : World) where
  -- what the sequential machine does where W retires
  abbrev pub Retires : State → Latch Completed → State → Type 0
  Retires s Empty t = t ≡ s
  Retires s (Faulting stop) t = ⊥
  Retires s (Full c) t = (completed_at world s ≡ Ok c) × (after_at world s ≡ Ok t)

  -- the chain once W has been written back
  pub record Rest (t : State) (bytes : ℕ → ℕ) (g : Registers) (k : Latches) : Type 0 where
    pub sized : Sized g
    pub registers : g ≡ t.registers
    pub base : Known (λ r. or_else (from_w k.w r) (Some (value_of g r))) (Ok t)
    pub memory : bytes ≡ t.data_memory
    pub m : HoldsM world (Ok t) k.m
    pub x : HoldsX world (behindM world (Ok t) k.m) k.x
    pub d : HoldsD world (behindX world (behindM world (Ok t) k.m) k.x) k.d
    pub f : Leads k.f (behindD world (behindX world (behindM world (Ok t) k.m) k.x) k.d)

  module _ (s : State) (bytes : ℕ → ℕ) (g : Registers) (f : ℕ) (d : Latch Fetched) (x : Latch Decoded) (m : Latch Executed) where
    abbrev with_w : Latch Completed → Latches
    with_w w = record { f = f; d = d; x = x; m = m; w = w }

    gone : (t : State) (c : Completed) → Chain world s bytes g (with_w (Full c)) → after_at world s ≡ Ok t → Pairs s (Ok c) (Ok t)
        → Rest t bytes (written g c.rd c.value) (with_w (Full c))
    gone t c k q w =
        let same : written g c.rd c.value ≡ t.registers = ap (λ z. written z c.rd c.value) k.registers ∙ sym w in
        record {
          sized = written_sized g c.rd c.value k.sized;
          registers = same;
          base = (
            subst Sized same (written_sized g c.rd c.value k.sized),
            λ r v n e. retired_read g c.rd c.value k.sized r v n e ∙ ap (λ z. value_of z r) same,
          );
          memory = rw q at k.memory;
          m = subst (λ (z : Reach). HoldsM world z m) q k.m;
          x = subst (λ (z : Reach). HoldsX world (behindM world z m) x) q k.x;
          d = subst (λ (z : Reach). HoldsD world (behindX world (behindM world z m) x) d) q k.d;
          f = subst (λ (z : Reach). Leads f (behindD world (behindX world (behindM world z m) x) d)) q k.f;
        }

    gone_full : (c : Completed) → Chain world s bytes g (with_w (Full c)) → (r : Reach) → after_at world s ≡ r → Pairs s (Ok c) r
        → (t : State) × Retires s (Full c) t × Rest t bytes (written g c.rd c.value) (with_w (Full c))
    gone_full c k (Err z) q w = absurd w
    gone_full c k (Ok t) q w = (t, (sym k.w, q), gone t c k q w)

    pub retire : (w : Latch Completed) → Chain world s bytes g (with_w w) → Flows w → (t : State) × Retires s w t × Rest t bytes (write_back g w) (with_w w)
    retire Empty k h = (
      s,
      refl,
      record {
        sized = k.sized;
        registers = k.registers;
        base = (subst Sized k.registers k.sized, λ r v n e. let z : v ≡ value_of g r = cc in z ∙ ap (λ y. value_of y r) k.registers);
        memory = k.memory;
        m = k.m;
        x = k.x;
        d = k.d;
        f = k.f;
      },
    )
    retire (Faulting stop) k h = absurd h
    retire (Full c) k h = gone_full c k (after_at world s) refl (rw k.w (pairs world s))

-- ---- what retires is a step of the sequential machine

pub steps_on : (world : World) (start s t : State) (w : Latch Completed) (rs : List Retirement) → Steps world start rs s → Retires world s w t → Steps world start (rs ++ list_of (retirement_of w)) t
steps_on world start s t Empty rs k r = rw (append-nil, r) k
steps_on world start s t (Faulting stop) rs k r = absurd r
steps_on world start s t (Full c) rs k r = more (record { retirement = retires_as c; after = t }) k (step_completes world s c t r.0 r.1)

bytes_by : (world : World) (s : State) (c : Completed) (bytes : ℕ → ℕ) (r : Reach) → Ok c ≡ completed_at world s → after_at world s ≡ r → Pairs s (Ok c) r → bytes ≡ bytes_at s r → BytesAgree world s (Full c) bytes
bytes_by world s c bytes (Err z) e i p h = absurd p
bytes_by world s c bytes (Ok t) e i p h = (record { retirement = retires_as c; after = t }, step_completes world s c t (sym e) i, h)

pub bytes_from : (world : World) (s : State) (bytes : ℕ → ℕ) (w : Latch Completed) → HoldsW world (Ok s) w → bytes ≡ bytes_at s (behindW world (Ok s) w) → BytesAgree world s w bytes
bytes_from world s bytes (Full c) h e = bytes_by world s c bytes (after_at world s) h refl (rw h (pairs world s)) e
bytes_from world s bytes w h e = e

-- W as what it stops with, or not at all
pub flows_if : (w : Latch Completed) → stop_of w ≡ None → Flows w
flows_if (Faulting stop) e = cc
flows_if w e = tt

pub faulting_if : (w : Latch Completed) (stop : Stop) → stop_of w ≡ Some stop → w ≡ Faulting stop
faulting_if (Faulting s) stop e = cc
faulting_if w stop e = cc

pub retires_count : (w : Latch Completed) → Flows w → one_if (is_some (retirement_of w)) ≡ occupancy w
retires_count (Faulting stop) h = absurd h
retires_count w h = refl
