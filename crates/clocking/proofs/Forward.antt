-- Registers read through the latches, and what the parts of a step say of one another. Assumes nothing.
use Rattle.std.proofs.Common.{◌≡◌, ℕ, ◌*◌, ◌%◌, ◌^◌, ◌<◌, Bool, true, false, cond, eqb, ltb, ◌≢◌, List, length, get_or, set, Some, None, Ok, Err, Option, Result, sym, refl, ◌∙◌, arith, length-set, get_or-set_other, get_or-set_same, eqb-true}
use borrow.Author.Tests.{eqb-false}
use Rattle.base.specs.declared.bus.Request.{Request}
use Rattle.base.specs.declared.bus.Request.TheVariants.{Read, Write}
use Rattle.rv32i.proofs.Laws.{NotX0}
use Rattle.rv32i.specs.Effects.{load_width, store_width, word_address, lanes_of, request}
use Rattle.rv32i_words.specs.Issues.{issued}
use Rattle.rv32i.specs.declared.cause.Cause.TheVariants.{LoadMisaligned, LoadAccessFault, StoreMisaligned, StoreAccessFault}
use Rattle.rv32i.specs.Registers.{operand, written}
use Rattle.rv32i.specs.declared.cause.Cause.{Cause}
use Rattle.rv32i.specs.declared.effect.Access.{Access}
use Rattle.rv32i.specs.declared.effect.Access.TheVariants.{Load, Store}
use Rattle.rv32i.specs.declared.effect.Effect.{Effect}
use Rattle.rv32i.specs.declared.instruction.Instruction.{Instruction}
use Rattle.rv32i.specs.declared.register.Register.{Register}
use Rattle.rv32i.specs.declared.registers.Registers.{Registers}
use Rattle.sequential.specs.Sequential.{State, World, and_then, fetch}
use Rattle.clocking.specs.Data.{complete}
use Rattle.clocking.specs.Execute.{into_m, execute}
use Rattle.clocking.specs.Decode.{gives, early_value, or_else, value_of, source}
use Rattle.clocking.specs.declared.latch.Decoded.{Decoded}
use Rattle.clocking.specs.declared.latch.Executed.{Executed}
use Rattle.clocking.specs.declared.latch.Completed.{Completed}
use Rattle.clocking.proofs.Chain.{Reach}
use Rattle.clocking.proofs.Partial.{with_operands_at, Done, settle_by, settle, state_after, decoded_at, executed_at, done_at, completed_at, after_at}

-- ---- registers

read_by : (l : List ℕ) (i j w : ℕ) → i < length l → (b : Bool) → eqb i j ≡ b → get_or (set l i w) j 0 ≡ cond b w (get_or l j 0)
read_by l i j w h true e = rw (← eqb-true i j e) (get_or-set_same l i w 0 h)
read_by l i j w h false e = get_or-set_other l i j w 0 (λ q. eqb-false i j e (sym q))

abbrev pub Sized : Registers → Type 0
Sized g = length g ≡ 32

sized_by : (b : Bool) (g : Registers) (i w : ℕ) → Sized g → Sized (cond b g (set g i w))
sized_by true g i w h = h
sized_by false g i w h = length-set g i w ∙ h

pub written_sized : (g : Registers) (rd : Option Register) (w : ℕ) → Sized g → Sized (written g rd w)
written_sized g None w h = h
written_sized g (Some r) w h = sized_by (eqb r.number 0) g r.number w h

-- a write to x0 changes nothing, so that any other register is read after it as before
unwritten : (i j w x : ℕ) → i ≡ 0 → j ≢ 0 → (b : Bool) → eqb i j ≡ b → x ≡ cond b w x
unwritten i j w x z n true e = absurd (n (sym (eqb-true i j e) ∙ z))
unwritten i j w x z n false e = refl

read_when : (g : Registers) (i j w : ℕ) → i < length g → j ≢ 0 → (b : Bool) → eqb i 0 ≡ b
    → get_or (cond b g (set g i w)) j 0 ≡ cond (eqb i j) w (get_or g j 0)
read_when g i j w h n true e = unwritten i j w (get_or g j 0) (eqb-true i 0 e) n (eqb i j) refl
read_when g i j w h n false e = read_by g i j w h (eqb i j) refl

pub written_read : (g : Registers) (d r : Register) (w : ℕ) → Sized g → r.number ≢ 0
    → value_of (written g (Some d) w) r ≡ cond (eqb d.number r.number) w (value_of g r)
written_read g d r w z n = let small = d.ok in read_when g d.number r.number w (omega arith) n (eqb d.number 0) refl

-- what the latches before a reader say of each register but x0 is right for the state reached, where they say a value
abbrev pub Known : (Register → Option ℕ) → Reach → Type 0
Known f (Err c) = Unit {0}
Known f (Ok s) = Sized s.registers × ((r : Register) (v : ℕ) → r.number ≢ 0 → f r ≡ Some v → v ≡ value_of s.registers r)

-- a latch that writes rd before those that f has
abbrev pub layer : Option Register → Option ℕ → (Register → Option ℕ) → Register → Option ℕ
layer rd o f r = or_else (cond (gives rd r) (Some o) None) (f r)

layer_by : (b : Bool) (o q : Option ℕ) (w x v : ℕ) → ((u : ℕ) → o ≡ Some u → u ≡ w) → (q ≡ Some v → v ≡ x) → or_else (cond b (Some o) None) q ≡ Some v → v ≡ cond b w x
layer_by true o q w x v h k e = h v e
layer_by false o q w x v h k e = k e

layer_read : (rd : Option Register) (o : Option ℕ) (f : Register → Option ℕ) (g : Registers) (w : ℕ) (r : Register) (v : ℕ) → Sized g → r.number ≢ 0 → ((u : ℕ) → o ≡ Some u → u ≡ w)
    → (f r ≡ Some v → v ≡ value_of g r) → layer rd o f r ≡ Some v → v ≡ value_of (written g rd w) r
layer_read None o f g w r v z n h k e = k e
layer_read (Some d) o f g w r v z n h k e =
    layer_by (eqb d.number r.number) o (f r) w (value_of g r) v h k e ∙ sym (written_read g d r w z n)

pub known_layer : (f : Register → Option ℕ) (s t : State) (rd : Option Register) (o : Option ℕ) (w : ℕ) → t.registers ≡ written s.registers rd w
    → ((u : ℕ) → o ≡ Some u → u ≡ w) → Known f (Ok s) → Known (layer rd o f) (Ok t)
known_layer f s t rd o w e h k =
    (rw e (written_sized s.registers rd w k.0), λ r v n q. rw e (layer_read rd o f s.registers w r v k.0 n h (k.1 r v n) q))

-- the same of what an instruction reads, of which x0 is no part
abbrev pub KnownRead : (Register → Option ℕ) → Reach → Type 0
KnownRead f (Err c) = Unit {0}
KnownRead f (Ok s) = (o : Option Register) (v : ℕ) → NotX0 o → source f o ≡ Some v → v ≡ operand s.registers o

known_source : (f : Register → Option ℕ) (s : State) → Known f (Ok s) → (o : Option Register) (v : ℕ) → NotX0 o → source f o ≡ Some v → v ≡ operand s.registers o
known_source f s k None v n e = cc
known_source f s k (Some r) v n e = k.1 r v n e

pub known_read : (f : Register → Option ℕ) (r : Reach) → Known f r → KnownRead f r
known_read f (Err c) k = tt
known_read f (Ok s) k = known_source f s k

-- ---- a step

-- what completes writes its value; what does not leads nowhere
abbrev pub Pairs : State → Result Completed Cause → Reach → Type 0
Pairs s (Err c) (Err k) = k ≡ c
Pairs s (Ok f) (Ok t) = t.registers ≡ written s.registers f.rd f.value
Pairs s o r = ⊥

-- t follows s by the executed instruction: what it gives early is its value in the end
pub record Follows (s : State) (e : Executed) (t : State) : Type 0 where
  pub value : ℕ
  pub registers : t.registers ≡ written s.registers e.rd value
  pub plain : (v : ℕ) → early_value e.access e.result ≡ Some v → v ≡ value
  pub address : t.address ≡ e.next

abbrev pub Runs : State → Result Executed Cause → Reach → Type 0
Runs s (Ok e) (Ok t) = Follows s e t
Runs s (Err c) (Ok t) = ⊥
Runs s o r = Unit {0}

pairs_done : (s : State) (o : Result Done Cause) → Pairs s (and_then o (λ d. Ok (complete d.run d.value))) (and_then o (λ d. Ok (state_after s d)))
pairs_done s (Err c) = refl
pairs_done s (Ok d) = refl

-- only a load is answered a word
abbrev Plain : Option Access → ℕ → Result (Option Request) Cause → Type 0
Plain how x (Err c) = Unit {0}
Plain how x (Ok (Some (Read a))) = (v w : ℕ) → early_value how x ≡ Some v → v ≡ w
Plain how x (Ok q) = (v : ℕ) → early_value how x ≡ Some v → v ≡ x

plain_by : (how : Option Access) (x : ℕ) (q : Request) (misaligned outside : Cause) (b d : Bool) → Plain how x (Ok (Some q)) → Plain how x (cond b (cond d (Ok (Some q)) (Err outside)) (Err misaligned))
plain_by how x q misaligned outside true true h = h
plain_by how x q misaligned outside b d h = tt

plain_so : (size : ℕ) (how : Option Access) (x b : ℕ) → Plain how x (request size how x b)
unfolding request
plain_so size None x b = λ v h. cc
plain_so size (Some (Load k)) x b =
    let q : Request = Read (word_address x) in
    let h : Plain (Some (Load k)) x (Ok (Some q)) = λ v w h. cc in
    plain_by (Some (Load k)) x q LoadMisaligned LoadAccessFault (eqb (x % load_width k) 0) (ltb x size) h
plain_so size (Some (Store k)) x b =
    let q : Request = Write (word_address x) (b * 2 ^ (8 * (x % 4)) % 2 ^ 32) (lanes_of k x) in
    let h : Plain (Some (Store k)) x (Ok (Some q)) = λ v h. cc in
    plain_by (Some (Store k)) x q StoreMisaligned StoreAccessFault (eqb (x % store_width k) 0) (ltb x size) h

runs_by : (s : State) (e : Executed) (q : Result (Option Request) Cause) → Plain e.access e.result q → Runs s (Ok e) (and_then (settle_by s.data_memory e q) (λ d. Ok (state_after s d)))
runs_by s e (Err c) h = tt
runs_by s e (Ok (Some (Read a))) h = record { value = _; registers = refl; plain = λ v. h v _; address = refl }
runs_by s e (Ok (Some (Write a w l))) h = record { value = e.result; registers = refl; plain = h; address = refl }
runs_by s e (Ok None) h = record { value = e.result; registers = refl; plain = h; address = refl }

runs_out : (size : ℕ) (s : State) (o : Result Executed Cause) → Runs s o (and_then (and_then o (settle size s.data_memory)) (λ d. Ok (state_after s d)))
unfolding settle
runs_out size s (Err c) = tt
runs_out size s (Ok e) = runs_by s e (request size e.access e.result e.b) (plain_so size e.access e.result e.b)

-- the guess that an instruction carries does not bear on what it executes to
ran_same : (s : State) (w g : ℕ) (i : Instruction) (o : Result Effect Cause) → and_then o (λ e. Ok (into_m (with_operands_at s w g i) e)) ≡ and_then o (λ e. Ok (into_m (with_operands_at s w 0 i) e))
ran_same s w g i (Err c) = refl
ran_same s w g i (Ok e) = refl

executes_by : (s : State) (w g : ℕ) (o : Result Instruction Cause) → and_then (and_then o (λ i. Ok (with_operands_at s w g i))) execute ≡ and_then (and_then o (λ i. Ok (with_operands_at s w 0 i))) execute
executes_by s w g (Err c) = refl
executes_by s w g (Ok i) = ran_same s w g i _

executes_out : (s : State) (g : ℕ) (o : Result ℕ Cause)
    → and_then (and_then o (λ w. and_then (issued w) (λ i. Ok (with_operands_at s w g i)))) execute ≡ and_then (and_then o (λ w. and_then (issued w) (λ i. Ok (with_operands_at s w 0 i)))) execute
executes_out s g (Err c) = refl
executes_out s g (Ok w) = executes_by s w g (issued w)

-- what is decoded, and what is executed, has the state's address
abbrev pub AtX : State → Result Decoded Cause → Type 0
AtX s (Err c) = Unit {0}
AtX s (Ok d) = d.address ≡ s.address

abbrev pub At : State → Result Executed Cause → Type 0
At s (Err c) = Unit {0}
At s (Ok e) = e.address ≡ s.address

at_ran : (s : State) (d : Decoded) → d.address ≡ s.address → (o : Result Effect Cause) → At s (and_then o (λ e. Ok (into_m d e)))
at_ran s d h (Err c) = tt
at_ran s d h (Ok e) = h

at_then : (s : State) (o : Result Decoded Cause) → AtX s o → At s (and_then o execute)
at_then s (Err c) h = tt
at_then s (Ok d) h = at_ran s d h _

at_by : (s : State) (w g : ℕ) (o : Result Instruction Cause) → AtX s (and_then o (λ i. Ok (with_operands_at s w g i)))
at_by s w g (Err c) = tt
at_by s w g (Ok i) = refl

at_out : (s : State) (g : ℕ) (o : Result ℕ Cause) → AtX s (and_then o (λ w. and_then (issued w) (λ i. Ok (with_operands_at s w g i))))
at_out s g (Err c) = tt
at_out s g (Ok w) = at_by s w g (issued w)

module _ (world : World) where
  pub at_x : (s : State) (g : ℕ) → AtX s (decoded_at world s g)
  unfolding decoded_at
  at_x s g = at_out s g (fetch world.instructions_size world.instructions s.address)

  pub at : (s : State) → At s (executed_at world s)
  unfolding executed_at
  at s = at_then s (decoded_at world s 0) (at_x s 0)

  pub pairs : (s : State) → Pairs s (completed_at world s) (after_at world s)
  unfolding completed_at after_at
  pairs s = pairs_done s (done_at world s)

  pub runs : (s : State) → Runs s (executed_at world s) (after_at world s)
  unfolding after_at done_at
  runs s = runs_out world.data_size s (executed_at world s)

  pub executes : (s : State) (g : ℕ) → and_then (decoded_at world s g) execute ≡ executed_at world s
  unfolding executed_at decoded_at
  executes s g = executes_out s g (fetch world.instructions_size world.instructions s.address)

  -- an instruction that does not execute leads nowhere
  pub ends : (s : State) (c : Cause) → Err c ≡ executed_at world s → Err c ≡ after_at world s
  unfolding after_at done_at
  ends s c e = rw (← e)
