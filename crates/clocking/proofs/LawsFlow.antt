-- What becomes of each latch in a clock, by what stands before it and by what the data memory replies. Assumes nothing.
use Rattle.std.proofs.Common.{◌≡◌, ℕ, Bool, true, false, cond, not, ◌&&◌, ◌||◌, eqb, Some, None, Ok, Err, is_err, is_ok, Option, Result, refl, ap}
use Rattle.std.proofs.lemmas.Bool.{false≢true, true≢false}
use Rattle.base.specs.declared.bus.Request.{Request}
use Rattle.memory.specs.Meaning.{Meaning, Reply}
use Rattle.memory.specs.declared.Answer.TheVariants.{Word, Done}
use Rattle.memory.specs.declared.Unserved.TheVariants.{Wait, Outside}
use Rattle.rv32i.specs.Effects.{request, access, destination, first_source, second_source}
use Rattle.rv32i.specs.declared.cause.Cause.{Cause}
use Rattle.rv32i.specs.declared.effect.Access.{Access}
use Rattle.rv32i.specs.declared.effect.Access.TheVariants.{Load, Store}
use Rattle.rv32i.specs.declared.effect.Effect.{Effect}
use Rattle.rv32i.specs.declared.instruction.Instruction.{Instruction}
use Rattle.rv32i.specs.declared.register.Register.{Register}
use Rattle.sequential.specs.Sequential.{and_then}
use Rattle.clocking.specs.Counting.{is_wait}
use Rattle.clocking.specs.Laws.{is_occupied, m_faults, m_request, m_asks, m_writes, value_with, m_value, effect_of, result_of, next_of, leads_elsewhere, x_is_misguessed, x_next, x_writes, is_load, x_loads, x_value, w_writes, w_value, is_missing, lacks, lacks_any, is_short, forward, operand_of, read_for, in_x}
use Rattle.clocking.specs.Ports.{Asked, bus_request}
use Rattle.clocking.specs.Data.{data_request, use_memory, data_stage}
use Rattle.clocking.specs.Execute.{into_m, redirect_unless, check_guess, execute_stage, x_result}
use Rattle.clocking.specs.Decode.{DecodeOut, gives, early_value, from_x, late_value, from_m, from_w, or_else, source, with_operands, decode_word, decode_moves}
use Rattle.clocking.specs.declared.latch.Fetched.{Fetched}
use Rattle.clocking.specs.declared.latch.Decoded.{Decoded}
use Rattle.clocking.specs.declared.latch.Executed.{Executed}
use Rattle.clocking.specs.declared.latch.Completed.{Completed}
use Rattle.clocking.specs.declared.latch.Latch.{Latch}
use Rattle.clocking.specs.declared.latch.Latch.TheVariants.{Empty, Faulting, Full}
use Rattle.clocking.specs.declared.latch.Latches.{Latches}
use Rattle.clocking.specs.declared.stage.Flow.{Flow}
use Rattle.clocking.specs.declared.stage.Flow.TheVariants.{Moves, Stalls, RollsBack}

-- ---- a memory replies to a request, and to nothing else

abbrev pub Heard : Option Request → Option Reply → Type 0
Heard None (Some r) = ⊥
Heard (Some q) None = ⊥
Heard q r = Unit {0}

pub heard : {M : Type 0} (means : Meaning M) (m n : M) (q : Option Request) (r : Option Reply) → Asked means m q r n → Heard q r
heard means m n None None h = tt
heard means m n None (Some r) h = h
heard means m n (Some q) None h = h
heard means m n (Some q) (Some r) h = tt

same_by : (o : Result (Option Request) Cause) → bus_request o ≡ m_asks o
same_by (Err c) = refl
same_by (Ok q) = refl

pub asks_same : (size : ℕ) (m : Latch Executed) → bus_request (data_request size m) ≡ m_asks (m_request size m)
asks_same size (Full e) = same_by (request size e.access e.result e.b)
asks_same size m = refl

-- ---- data: whether M has a cause, and whether it has to wait

abbrev pub data_flow : Bool → Bool → Flow
data_flow true w = RollsBack
data_flow false true = Stalls
data_flow false false = Moves

memory_flow : (e : Executed) (o : Result (Option Request) Cause) (r : Option Reply) → Heard (bus_request o) r → (use_memory e o r).flow ≡ data_flow (is_err o) (is_wait r)
memory_flow e (Err c) r h = refl
memory_flow e (Ok None) None h = refl
memory_flow e (Ok None) (Some r) h = absurd h
memory_flow e (Ok (Some q)) None h = absurd h
memory_flow e (Ok (Some q)) (Some (Ok (Word w))) h = refl
memory_flow e (Ok (Some q)) (Some (Ok Done)) h = refl
memory_flow e (Ok (Some q)) (Some (Err Wait)) h = refl
memory_flow e (Ok (Some q)) (Some (Err Outside)) h = refl

pub data_flows : (size : ℕ) (m : Latch Executed) (r : Option Reply) → Heard (bus_request (data_request size m)) r
    → (data_stage m (data_request size m) r).flow ≡ data_flow (m_faults size m) (is_wait r)
data_flows size Empty None h = refl
data_flows size Empty (Some r) h = absurd h
data_flows size (Faulting stop) r h = refl
data_flows size (Full e) r h = memory_flow e (request size e.access e.result e.b) r h

memory_apart : (o : Result (Option Request) Cause) (r : Option Reply) → Heard (bus_request o) r → is_err o && is_wait r ≡ false
memory_apart (Ok q) r h = refl
memory_apart (Err c) None h = refl
memory_apart (Err c) (Some r) h = absurd h

-- what has a cause does not have to wait
pub apart : (size : ℕ) (m : Latch Executed) (r : Option Reply) → Heard (bus_request (data_request size m)) r → m_faults size m && is_wait r ≡ false
apart size Empty r h = refl
apart size (Faulting stop) None h = refl
apart size (Faulting stop) (Some r) h = absurd h
apart size (Full e) r h = memory_apart (request size e.access e.result e.b) r h

memory_value : (e : Executed) (o : Result (Option Request) Cause) (r : Option Reply) → Heard (bus_request o) r → is_err o ≡ false
    → late_value (use_memory e o r).w ≡ cond (is_wait r) None (Some (value_with e r))
memory_value e (Err c) r h i = absurd (true≢false i)
memory_value e (Ok None) None h i = refl
memory_value e (Ok None) (Some r) h i = absurd h
memory_value e (Ok (Some q)) None h i = absurd h
memory_value e (Ok (Some q)) (Some (Ok (Word w))) h i = refl
memory_value e (Ok (Some q)) (Some (Ok Done)) h i = refl
memory_value e (Ok (Some q)) (Some (Err Wait)) h i = refl
memory_value e (Ok (Some q)) (Some (Err Outside)) h i = refl

-- what M gives of a register
pub m_reads : (size : ℕ) (m : Latch Executed) (reply : Option Reply) → Heard (bus_request (data_request size m)) reply → m_faults size m ≡ false → (r : Register)
    → from_m m (data_stage m (data_request size m) reply).w r ≡ cond (m_writes m r) (Some (cond (is_wait reply) None (Some (m_value m reply)))) None
m_reads size Empty reply h i r = refl
m_reads size (Faulting stop) reply h i r = absurd (true≢false i)
m_reads size (Full e) reply h i r = ap (λ z. cond (gives e.rd r) (Some z) None) (memory_value e (request size e.access e.result e.b) reply h i)

-- ---- execute: whether something stands in X, and whether its guess is wrong

abbrev pub execute_flow : Flow → Bool → Bool → Flow
execute_flow RollsBack h g = RollsBack
execute_flow Stalls true g = Stalls
execute_flow Stalls false g = Moves
execute_flow Moves h true = RollsBack
execute_flow Moves h false = Moves

redirect_flow : (e : Executed) (b : Bool) → (redirect_unless e b).flow ≡ execute_flow Moves true (not b)
redirect_flow e true = refl
redirect_flow e false = refl

guess_flow : (d : Decoded) (o : Result Effect Cause) → (check_guess d.address d.guess (and_then o (λ e. Ok (into_m d e)))).flow ≡ execute_flow Moves true (leads_elsewhere o d.guess)
guess_flow d (Err c) = refl
guess_flow d (Ok e) = redirect_flow (into_m d e) (eqb e.next d.guess)

pub execute_flows : (flow : Flow) (m : Latch Executed) (x : Latch Decoded) → (execute_stage m x flow).flow ≡ execute_flow flow (is_occupied x) (x_is_misguessed x)
execute_flows RollsBack m x = refl
execute_flows Stalls m Empty = refl
execute_flows Stalls m (Faulting stop) = refl
execute_flows Stalls m (Full d) = refl
execute_flows Moves m Empty = refl
execute_flows Moves m (Faulting stop) = refl
execute_flows Moves m (Full d) = guess_flow d (effect_of d)

early_by : (how : Option Access) (v : ℕ) → early_value how v ≡ cond (is_load how) None (Some v)
early_by None v = refl
early_by (Some (Load k)) v = refl
early_by (Some (Store k)) v = refl

abbrev pub XGives : Latch Executed → Latch Decoded → Register → Type 0
XGives now x r = from_x now r ≡ cond (x_writes x r) (Some (cond (x_loads x) None (Some (x_value x)))) None

redirect_gives : (d : Decoded) (e : Effect) (r : Register) (b : Bool)
    → from_x (redirect_unless (into_m d e) b).m r ≡ cond (gives d.rd r) (Some (cond (is_load (access d.instruction)) None (Some e.result))) None
redirect_gives d e r true = ap (λ z. cond (gives d.rd r) (Some z) None) (early_by (access d.instruction) e.result)
redirect_gives d e r false = ap (λ z. cond (gives d.rd r) (Some z) None) (early_by (access d.instruction) e.result)

guess_gives : (d : Decoded) (r : Register) (o : Result Effect Cause)
    → from_x (check_guess d.address d.guess (and_then o (λ e. Ok (into_m d e)))).m r
    ≡ cond (is_ok o && gives d.rd r) (Some (cond (is_load (access d.instruction)) None (Some (result_of o)))) None
guess_gives d r (Err c) = refl
guess_gives d r (Ok e) = redirect_gives d e r (eqb e.next d.guess)

-- X has its result where it moves on, and where it is empty it gives nothing
abbrev pub XReady : Flow → Latch Decoded → Type 0
XReady Moves x = Unit {0}
XReady Stalls Empty = Unit {0}
XReady flow x = ⊥

pub x_gives : (flow : Flow) (m : Latch Executed) (x : Latch Decoded) (r : Register) → XReady flow x → XGives (x_result flow (execute_stage m x flow).m) x r
x_gives RollsBack m x r h = absurd h
x_gives Stalls m Empty r h = refl
x_gives Stalls m (Faulting stop) r h = absurd h
x_gives Stalls m (Full d) r h = absurd h
x_gives Moves m Empty r h = refl
x_gives Moves m (Faulting stop) r h = refl
x_gives Moves m (Full d) r h = guess_gives d r (effect_of d)

redirect_to : (e : Executed) (b : Bool) → not b ≡ true → (redirect_unless e b).redirect ≡ Some e.next
redirect_to e true i = absurd (false≢true i)
redirect_to e false i = refl

guess_to : (d : Decoded) (o : Result Effect Cause) → leads_elsewhere o d.guess ≡ true
    → (check_guess d.address d.guess (and_then o (λ e. Ok (into_m d e)))).redirect ≡ Some (next_of o)
guess_to d (Err c) i = absurd (false≢true i)
guess_to d (Ok e) i = redirect_to (into_m d e) (eqb e.next d.guess) i

pub redirects : (m : Latch Executed) (x : Latch Decoded) → x_is_misguessed x ≡ true → (execute_stage m x Moves).redirect ≡ Some (x_next x)
redirects m Empty i = absurd (false≢true i)
redirects m (Faulting stop) i = absurd (false≢true i)
redirects m (Full d) i = guess_to d (effect_of d) i

-- ---- decode: whether something stands in D, and whether it lacks an operand

abbrev pub decode_flow : Flow → Bool → Bool → Flow
decode_flow RollsBack h z = RollsBack
decode_flow Stalls true z = Stalls
decode_flow Stalls false z = Moves
decode_flow Moves h true = Stalls
decode_flow Moves h false = Moves

-- the youngest that writes a register, of three
youngest : (x xl m ml w : Bool) (xv mv wv v : ℕ)
    → or_else (cond x (Some (cond xl None (Some xv))) None) (or_else (cond m (Some (cond ml None (Some mv))) None) (or_else (cond w (Some (Some wv)) None) (Some v)))
    ≡ cond (cond x xl (m && ml)) None (Some (cond x xv (cond m mv (cond w wv v))))
youngest true true m ml w xv mv wv v = refl
youngest true false m ml w xv mv wv v = refl
youngest false xl true true w xv mv wv v = refl
youngest false xl true false w xv mv wv v = refl
youngest false xl false ml true xv mv wv v = refl
youngest false xl false ml false xv mv wv v = refl

pub youngest_of : (a b c : Option (Option ℕ)) (x xl m ml w : Bool) (xv mv wv v : ℕ)
    → a ≡ cond x (Some (cond xl None (Some xv))) None → b ≡ cond m (Some (cond ml None (Some mv))) None → c ≡ cond w (Some (Some wv)) None
    → or_else a (or_else b (or_else c (Some v))) ≡ cond (cond x xl (m && ml)) None (Some (cond x xv (cond m mv (cond w wv v))))
youngest_of a b c x xl m ml w xv mv wv v i j l = rw (i, j, l) (youngest x xl m ml w xv mv wv v)

pub w_reads : (w : Latch Completed) (r : Register) → from_w w r ≡ cond (w_writes w r) (Some (Some (w_value w))) None
w_reads Empty r = refl
w_reads (Faulting stop) r = refl
w_reads (Full c) r = refl

abbrev pub stuck : DecodeOut
stuck = record { x = Empty; flow = Stalls }

abbrev pub passed : Latch Decoded → DecodeOut
passed x = record { x = x; flow = Moves }

abbrev filled : Fetched → Instruction → ℕ → ℕ → Latch Decoded
filled f i a b = Full (record { address = f.address; word = f.word; instruction = i; rd = destination i; a = a; b = b; guess = f.guess })

operands_by : (f : Fetched) (i : Instruction) (b c : Bool) (u v : ℕ)
    → with_operands f i (cond b None (Some u)) (cond c None (Some v)) ≡ cond (b || c) stuck (passed (filled f i u v))
operands_by f i true c u v = refl
operands_by f i false true u v = refl
operands_by f i false false u v = refl

module _ (size : ℕ) (k : Latches) (reply : Option Reply) (file : Register → ℕ) (look : Register → Option ℕ)
    (so : (r : Register) → look r ≡ cond (is_missing size k reply r) None (Some (forward size k reply file r))) where
  source_by : (o : Option Register) → source look o ≡ cond (lacks size k reply o) None (Some (operand_of size k reply file o))
  source_by None = refl
  source_by (Some r) = so r

  word_by : (f : Fetched) (o : Result Instruction Cause)
      → decode_word look f o ≡ cond (lacks_any size k reply o) stuck (passed (read_for size k reply file f o))
  word_by f (Err c) = refl
  word_by f (Ok i) =
      rw (source_by (first_source i), source_by (second_source i))
      (operands_by f i (lacks size k reply (first_source i)) (lacks size k reply (second_source i)) _ _)

  pub moves_by : (d : Latch Fetched) → decode_moves look d ≡ cond (is_short size k reply d) stuck (passed (in_x size k reply file d))
  moves_by Empty = refl
  moves_by (Faulting stop) = refl
  moves_by (Full f) = word_by f f.issued
