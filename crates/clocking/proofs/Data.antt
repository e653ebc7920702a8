-- The data stage keeps the chain. Assumes nothing.
use Rattle.std.proofs.Common.{◌≡◌, ℕ, Some, None, Ok, Err, Option, Result, sym, refl, ap, ◌∙◌, subst}
use Rattle.base.specs.declared.bus.Request.{Request}
use Rattle.base.specs.declared.bus.Request.TheVariants.{Read, Write}
use Rattle.memory.specs.Meaning.{Reply}
use Rattle.memory.specs.declared.Answer.TheVariants.{Word, Done as Did}
use Rattle.memory.specs.declared.Unserved.TheVariants.{Wait, Outside}
use Rattle.rv32i.specs.declared.cause.Cause.{Cause}
use Rattle.rv32i.specs.declared.register.Register.{Register}
use Rattle.sequential.specs.Sequential.{State, World, and_then}
use Rattle.clocking.specs.declared.latch.Executed.{Executed}
use Rattle.clocking.specs.declared.latch.Latch.{Latch}
use Rattle.clocking.specs.declared.latch.Latch.TheVariants.{Empty, Faulting, Full}
use Rattle.clocking.specs.declared.stage.Flow.{Flow}
use Rattle.clocking.specs.declared.stage.Flow.TheVariants.{Stalls, RollsBack}
use Rattle.std.proofs.lemmas.Bool.{both_ways}
use Rattle.rv32i.specs.Effects.{request, loaded}
use Rattle.rv32i.proofs.Laws.{InRange, in_range}
use Rattle.clocking.specs.Ports.{bus_request}
use Rattle.clocking.specs.Data.{DataOut, data_request, complete, completes_with, take_reply, use_memory, data_stage}
use Rattle.clocking.specs.Decode.{from_m, or_else}
use Rattle.clocking.proofs.Chain.{Reach, Broken, faults_on, HoldsW, HoldsM, behindW, behindM, bytes_at}
use Rattle.clocking.proofs.Forward.{Known, layer, known_layer, Pairs, Runs, At, at, pairs, runs}
use Rattle.clocking.proofs.Partial.{Done, settle_by, settle, state_after, executed_at, done_at, completed_at, after_at}
use Rattle.clocking.proofs.Served.{Bytes}

-- what is still in M after the stage
abbrev pub left : Flow → Latch Executed → Latch Executed
left Stalls m = m
left flow m = Empty

abbrev pub Back : Flow → Reach → Type 0
Back RollsBack r = Broken r
Back flow r = Unit {0}

-- what the reply makes of M is what the step of the sequential machine has
abbrev Completes : State → (ℕ → ℕ) → Executed → ℕ → Result Done Cause → Type 0
Completes s n e v o = (Ok (complete e v) ≡ and_then o (λ d. Ok (complete d.run d.value))) × (n ≡ bytes_at s (and_then o (λ d. Ok (state_after s d))))

abbrev Good : State → (ℕ → ℕ) → Executed → Option Reply → Result Done Cause → Type 0
Good s n e (Some (Ok (Word w))) o = Completes s n e (loaded e.access e.result w) o
Good s n e (Some (Err Wait)) o = n ≡ s.data_memory
Good s n e (Some (Err Outside)) o = ⊥
Good s n e t o = Completes s n e e.result o

good_by : (size : ℕ) (s : State) (n : ℕ → ℕ) (e : Executed) (q : Option Request) → InRange size (Ok q) → (t : Option Reply) → Bytes size q t s.data_memory n → Good s n e t (settle_by s.data_memory e (Ok q))
good_by size s n e None i None h = (refl, h)
good_by size s n e (Some (Read a)) i (Some (Ok (Word w))) h = rw h.1 (refl, h.2)
good_by size s n e (Some (Write a v l)) i (Some (Ok Did)) h = (refl, h.1)
good_by size s n e (Some q) i (Some (Err Wait)) h = h
good_by size s n e (Some q) i (Some (Err Outside)) h = absurd (both_ways _ h.0 i)
good_by size s n e q i t h = absurd h

pub idle_same : (size : ℕ) (t : Option Reply) (m n : ℕ → ℕ) → Bytes size None t m n → n ≡ m
idle_same size None m n h = h
idle_same size (Some r) m n h = absurd h

module _ (world : World) where
  done_so : (s : State) (e : Executed) (o : Result (Option Request) Cause) → Ok e ≡ executed_at world s → request world.data_size e.access e.result e.b ≡ o → done_at world s ≡ settle_by s.data_memory e o
  unfolding done_at settle
  done_so s e o i q = rw (← i, q)

  good : (s : State) (n : ℕ → ℕ) (e : Executed) (t : Option Reply) (q : Option Request) → Ok e ≡ executed_at world s → request world.data_size e.access e.result e.b ≡ Ok q
      → Bytes world.data_size q t s.data_memory n → Good s n e t (done_at world s)
  good s n e t q i u h =
      subst (λ (z : Result Done Cause). Good s n e t z) (sym (done_so s e (Ok q) i u))
      (good_by world.data_size s n e q (subst (λ (z : Result (Option Request) Cause). InRange world.data_size z) u (in_range world.data_size e.access e.result e.b)) t h)

  refused : (s : State) (e : Executed) (c : Cause) → Ok e ≡ executed_at world s → request world.data_size e.access e.result e.b ≡ Err c → Err c ≡ completed_at world s
  unfolding completed_at
  refused s e c i u = rw (done_so s e (Err c) i u)

  pub record DataKept (s : State) (old : Latch Executed) (n : ℕ → ℕ) (d : DataOut) : Type 0 where
    pub w : HoldsW world (Ok s) d.w
    pub memory : n ≡ bytes_at s (behindW world (Ok s) d.w)
    pub m : HoldsM world (behindW world (Ok s) d.w) (left d.flow old)
    -- the state reached behind M stays the same
    pub same : behindM world (behindW world (Ok s) d.w) (left d.flow old) ≡ behindM world (Ok s) old
    pub back : Back d.flow (behindM world (Ok s) old)
    pub source : (f : Register → Option ℕ) → Known f (Ok s) → Known (λ r. or_else (from_m old d.w r) (f r)) (behindM world (Ok s) old)

  stopped_same : (s : State) (c : Cause) (r : Reach) → Pairs s (Err c) r → ◌≡◌ {A = Reach} (Err c) r
  stopped_same s c (Err k) h = ap {B = Reach} Err (sym h)
  stopped_same s c (Ok t) h = absurd h

  stopped_back : (s : State) (c : Cause) (r : Reach) → Pairs s (Err c) r → Broken r
  stopped_back s c (Err k) h = tt
  stopped_back s c (Ok t) h = absurd h

  broken_known : (f : Register → Option ℕ) (r : Reach) → Broken r → Known f r
  broken_known f (Err c) h = tt
  broken_known f (Ok s) h = absurd h

  known_done : (s : State) (e : Executed) (v : ℕ) (r : Reach) → Pairs s (Ok (complete e v)) r → (f : Register → Option ℕ) → Known f (Ok s) → Known (layer e.rd (Some v) f) r
  known_done s e v (Err c) h f k = tt
  known_done s e v (Ok t) h f k = known_layer f s t e.rd (Some v) v h (λ u q. cc) k

  known_wait : (s : State) (e : Executed) (r : Reach) → Runs s (Ok e) r → (f : Register → Option ℕ) → Known f (Ok s) → Known (layer e.rd None f) r
  known_wait s e (Err c) h f k = tt
  known_wait s e (Ok t) h f k = known_layer f s t e.rd None h.value h.registers (λ u q. cc) k

  module _ (s : State) (n : ℕ → ℕ) (e : Executed) (i : Ok e ≡ executed_at world s) where
    finishes : (v : ℕ) → Completes s n e v (done_at world s) → DataKept s (Full e) n (completes_with e v)
    unfolding completed_at after_at
    finishes v h = record {
      w = h.0;
      memory = h.1;
      m = tt;
      same = refl;
      back = tt;
      source = λ f k. known_done s e v (after_at world s) (rw h.0 (pairs world s)) f k;
    }

    here : e.address ≡ s.address
    here = subst (λ (z : Result Executed Cause). At s z) (sym i) (at world s)

    -- it stops here
    halts : (c : Cause) → Err c ≡ completed_at world s → n ≡ bytes_at s (after_at world s) → DataKept s (Full e) n (record { w = Faulting (record { address = e.address; cause = c }); flow = RollsBack })
    halts c h m =
        let p : Pairs s (Err c) (after_at world s) = rw h (pairs world s) in
        let b = stopped_back s c (after_at world s) p in
        record {
          w = (here, h);
          memory = m ∙ ap {B = ℕ → ℕ} (bytes_at s) (sym (stopped_same s c (after_at world s) p));
          m = tt;
          same = stopped_same s c (after_at world s) p;
          back = b;
          source = λ f k. broken_known _ (after_at world s) b;
        }

    by_reply : (t : Option Reply) → Good s n e t (done_at world s) → DataKept s (Full e) n (take_reply e t)
    by_reply (Some (Ok (Word w))) h = finishes (loaded e.access e.result w) h
    by_reply (Some (Err Wait)) h = record {
      w = tt;
      memory = h;
      m = i;
      same = refl;
      back = tt;
      source = λ f k. known_wait s e (after_at world s) (rw i (runs world s)) f k;
    }
    by_reply (Some (Err Outside)) h = absurd h
    by_reply t h = finishes e.result h

    stays_so : (c : Cause) (r : Reach) → Pairs s (Err c) r → n ≡ s.data_memory → n ≡ bytes_at s r
    stays_so c (Err k) p h = h
    stays_so c (Ok t) p h = absurd p

    asks : (t : Option Reply) (o : Result (Option Request) Cause) → request world.data_size e.access e.result e.b ≡ o → Bytes world.data_size (bus_request o) t s.data_memory n → DataKept s (Full e) n (use_memory e o t)
    asks t (Err c) u h = halts c (refused s e c i u) (stays_so c (after_at world s) (rw (refused s e c i u) (pairs world s)) (idle_same world.data_size t s.data_memory n h))
    asks t (Ok q) u h = by_reply t (good s n e t q i u h)

  faulting_same : (s : State) (c : Cause) → Err c ≡ executed_at world s → Err c ≡ completed_at world s
  unfolding completed_at done_at
  faulting_same s c h = rw (← h)

  pub data_kept : (s : State) (n : ℕ → ℕ) (t : Option Reply) (m : Latch Executed) → HoldsM world (Ok s) m → Bytes world.data_size (bus_request (data_request world.data_size m)) t s.data_memory n
      → DataKept s m n (data_stage m (data_request world.data_size m) t)
  data_kept s n t Empty h w = record {
    w = tt;
    memory = idle_same world.data_size t s.data_memory n w;
    m = tt;
    same = refl;
    back = tt;
    source = λ f k. k;
  }
  data_kept s n t (Faulting stop) h w = record {
    w = faults_on _ _ faulting_same (Ok s) stop h;
    memory = idle_same world.data_size t s.data_memory n w;
    m = tt;
    same = refl;
    back = tt;
    source = λ f k. tt;
  }
  data_kept s n t (Full e) h w = asks s n e h t (request world.data_size e.access e.result e.b) refl w
