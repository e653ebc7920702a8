-- A program's run begins where it should. Assumes nothing.
use Rattle.std.proofs.Common.{◌≡◌, ℕ, zero, suc, ◌%◌, List, length, get_or, replicate, vec_items, Option, refl, ap, ◌∙◌}
use mathlib.Core.Path.{fun_ext}
use Rattle.memory.specs.Flat.{flat_view}
use Rattle.memory.specs.declared.flat.Flat.{Flat}
use Rattle.rv32i.specs.declared.registers.Registers.{Registers}
use Rattle.sequential.specs.Runs.{RunsTo}
use Rattle.sequential.specs.Sequential.{State, World}
use Rattle.sequential.specs.declared.record.Retired.{Retired}
use Rattle.sequential.specs.declared.record.Stop.{Stop}
use Rattle.seqtable.specs.Programs.{world_for, begin}

zeros_at : (n x : ℕ) → get_or (replicate {A = ℕ} n 0) x 0 ≡ 0
zeros_at zero x = refl
zeros_at (suc n) zero = refl
zeros_at (suc n) (suc x) = zeros_at n x

pub world_is : (image : List ℕ) (i d : Flat) → vec_items i.bytes ≡ image → i.size ≡ length image → d.size ≡ 4096
    → ◌≡◌ {A = World} (record { instructions_size = flat_view.size i; instructions = flat_view.byte i; data_size = flat_view.size d }) (world_for image)
world_is image i d b n m = λ k. record { instructions_size = n k; instructions = λ x. get_or (b k) x 0 % 256; data_size = m k }

pub begin_is : (a : ℕ) (f : Registers) (d : Flat) → a ≡ 0 → f ≡ replicate 32 0 → vec_items d.bytes ≡ replicate 4096 0
    → ◌≡◌ {A = State} (record { address = a; registers = f; data_memory = flat_view.byte d }) begin
begin_is a f d e v b =
    let none : (x : ℕ) → flat_view.byte d x ≡ 0 = λ x. ap (λ (l : List ℕ). get_or l x 0 % 256) b ∙ ap (λ (n : ℕ). n % 256) (zeros_at 4096 x) in
    λ k. record { address = e k; registers = v k; data_memory = fun_ext none k }

pub ran_at : (w v : World) (o p : Option Stop) (s t : State) (m n : ℕ) (h l : List Retired) (r : Option Stop) (u : State) (after : List Retired) → w ≡ v → o ≡ p → s ≡ t → m ≡ n → h ≡ l
    → RunsTo w o s m h r u after → RunsTo v p t n l r u after
ran_at w v o p s t m n h l r u after a b c d e x = rw (← a, ← b, ← c, ← d, ← e) x
