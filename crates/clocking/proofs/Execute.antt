-- The execute stage keeps the chain. Assumes nothing.
use Rattle.std.proofs.Common.{◌≡◌, ℕ, Bool, true, false, cond, eqb, Some, None, Ok, Err, Option, Result, sym, refl, subst}
use Rattle.rv32i.specs.declared.cause.Cause.{Cause}
use Rattle.rv32i.specs.declared.register.Register.{Register}
use Rattle.sequential.specs.Sequential.{State, World, and_then}
use Rattle.clocking.specs.declared.latch.Decoded.{Decoded}
use Rattle.clocking.specs.declared.latch.Executed.{Executed}
use Rattle.clocking.specs.declared.latch.Latch.{Latch}
use Rattle.clocking.specs.declared.latch.Latch.TheVariants.{Empty, Faulting, Full}
use Rattle.clocking.specs.declared.stage.Flow.{Flow}
use Rattle.clocking.specs.declared.stage.Flow.TheVariants.{Moves, Stalls, RollsBack}
use Rattle.rv32i.specs.declared.cause.Cause.TheVariants.{InstructionAccessFault}
use Rattle.clocking.specs.Execute.{ExecuteOut, execute, redirect_unless, check_guess, execute_stage, x_result}
use Rattle.clocking.specs.Decode.{early_value, from_x, or_else}
use Rattle.clocking.proofs.Chain.{Reach, Broken, faults_on, HoldsM, HoldsX, behindM, behindX, guessed, Leads}
use Rattle.clocking.proofs.Data.{left, Back}
use Rattle.clocking.proofs.Forward.{Known, layer, known_layer, Runs, AtX, at_x, runs, executes, ends}
use Rattle.clocking.proofs.Partial.{decoded_at, executed_at, after_at}

known_guessed_by : (f : Register → Option ℕ) (t : State) (b : Bool) → Known f (Ok t) → Known f (cond b (Ok t) (Err InstructionAccessFault))
known_guessed_by f t true k = k
known_guessed_by f t b k = tt

known_x : (s : State) (e : Executed) (g : ℕ) (r : Reach) → Runs s (Ok e) r → (f : Register → Option ℕ) → Known f (Ok s)
    → Known (layer e.rd (early_value e.access e.result) f) (and_then r (guessed g))
known_x s e g (Err c) w f k = tt
known_x s e g (Ok t) w f k =
    known_guessed_by (layer e.rd (early_value e.access e.result) f) t (eqb t.address g)
    (known_layer f s t e.rd (early_value e.access e.result) w.value w.registers w.plain k)

stays_on : (s : State) (e : Executed) (g : ℕ) (r : Reach) → Runs s (Ok e) r → eqb e.next g ≡ true → r ≡ and_then r (guessed g)
stays_on s e g (Err c) w q = refl
stays_on s e g (Ok t) w q = rw (w.address, q)

turns_off : (s : State) (e : Executed) (r : Reach) → Runs s (Ok e) r → Leads e.next r
turns_off s e (Err c) w = tt
turns_off s e (Ok t) w = sym w.address

known_broken : (f : Register → Option ℕ) (c : Cause) (r : Reach) → Known f (and_then r (λ s. Err c))
known_broken f c (Err z) = tt
known_broken f c r = tt

-- where fetching goes on after a rollback
abbrev pub Redirects : Option ℕ → Reach → Type 0
Redirects None q = Broken q
Redirects (Some n) q = Leads n q

-- what D reads, where it may move on
abbrev pub Sourced : Flow → (Register → Option ℕ) → Reach → Type 0
Sourced Moves f r = Known f r
Sourced flow f r = Unit {0}

module _ (world : World) where
  -- the state reached behind M, once X has moved, against the one behind M before
  abbrev pub Onward : Flow → Option ℕ → Reach → Latch Decoded → Reach → Type 0
  Onward Moves u r x q = q ≡ behindX world r x
  Onward Stalls u r x q = q ≡ r
  Onward RollsBack u r x q = Redirects u q

  -- by what the data stage did, and what it left in M
  pub record ExecuteKept (flow : Flow) (r : Reach) (old : Latch Executed) (x : Latch Decoded) (o : ExecuteOut) : Type 0 where
    pub m : HoldsM world r o.m
    pub onward : Onward o.flow o.redirect (behindM world r old) x (behindM world r o.m)
    pub source : (f : Register → Option ℕ) → Known f (behindM world r old) → Sourced o.flow (λ i. or_else (from_x (x_result flow o.m) i) (f i)) (behindX world (behindM world r old) x)

  executed_so : (s : State) (d : Decoded) → Ok d ≡ decoded_at world s d.guess → execute d ≡ executed_at world s
  executed_so s d e = subst (λ (z : Result Decoded Cause). and_then z execute ≡ executed_at world s) (sym e) (executes world s d.guess)

  faulting_so : (s : State) (c : Cause) → Err c ≡ decoded_at world s 0 → Err c ≡ executed_at world s
  unfolding executed_at
  faulting_so s c e = rw (← e)

  known_ended : (f : Register → Option ℕ) (c : Cause) (g : ℕ) (r : Reach) → Err c ≡ r → Known f (and_then r (guessed g))
  known_ended f c g r e = subst (λ (z : Reach). Known f (and_then z (guessed g))) e tt

  ended_on : (g : ℕ) (c : Cause) (r : Reach) → Err c ≡ r → ◌≡◌ {A = Reach} (Err c) (and_then r (guessed g))
  ended_on g c r e = subst (λ (z : Reach). ◌≡◌ {A = Reach} (Err c) (and_then z (guessed g))) e refl

  redirect_kept : (s : State) (d : Decoded) (e : Executed) → Ok e ≡ executed_at world s → Runs s (Ok e) (after_at world s) → (b : Bool) → eqb e.next d.guess ≡ b
      → ExecuteKept Moves (Ok s) Empty (Full d) (redirect_unless e b)
  redirect_kept s d e h w true q = record {
    m = h;
    onward = stays_on s e d.guess (after_at world s) w q;
    source = λ f k. known_x s e d.guess (after_at world s) w f k;
  }
  redirect_kept s d e h w false q = record { m = h; onward = turns_off s e (after_at world s) w; source = λ f k. tt }

  guess_kept : (s : State) (d : Decoded) → d.address ≡ s.address → (o : Result Executed Cause) → o ≡ executed_at world s → Runs s o (after_at world s)
      → ExecuteKept Moves (Ok s) Empty (Full d) (check_guess d.address d.guess o)
  guess_kept s d i (Err c) h w = record {
    m = (i, h);
    onward = ended_on d.guess c (after_at world s) (ends world s c h);
    source = λ f k. known_ended _ c d.guess (after_at world s) (ends world s c h);
  }
  guess_kept s d i (Ok e) h w = redirect_kept s d e h w (eqb e.next d.guess) refl

  redirect_broken : (c : Cause) (d : Decoded) (e : Executed) (b : Bool) → ExecuteKept Moves (Err c) Empty (Full d) (redirect_unless e b)
  redirect_broken c d e true = record { m = tt; onward = refl; source = λ f k. tt }
  redirect_broken c d e false = record { m = tt; onward = tt; source = λ f k. tt }

  guess_broken : (c : Cause) (d : Decoded) (o : Result Executed Cause) → ExecuteKept Moves (Err c) Empty (Full d) (check_guess d.address d.guess o)
  guess_broken c d (Err z) = record { m = tt; onward = refl; source = λ f k. tt }
  guess_broken c d (Ok e) = redirect_broken c d e (eqb e.next d.guess)

  pub execute_kept : (flow : Flow) (r : Reach) (m : Latch Executed) (x : Latch Decoded) → Back flow (behindM world r (left flow m)) → HoldsM world r (left flow m)
      → HoldsX world (behindM world r (left flow m)) x → ExecuteKept flow r (left flow m) x (execute_stage m x flow)
  execute_kept RollsBack r m x hb hm hx = record { m = tt; onward = hb; source = λ f k. tt }
  execute_kept Stalls r m Empty hb hm hx = record { m = hm; onward = refl; source = λ f k. k }
  execute_kept Stalls r m x hb hm hx = record { m = hm; onward = refl; source = λ f k. tt }
  execute_kept Moves r m Empty hb hm hx = record { m = tt; onward = refl; source = λ f k. k }
  execute_kept Moves r m (Faulting stop) hb hm hx = record { m = faults_on _ _ faulting_so r stop hx; onward = refl; source = λ f k. known_broken _ stop.cause r }
  execute_kept Moves (Err z) m (Full d) hb hm hx = guess_broken z d (execute d)
  execute_kept Moves (Ok s) m (Full d) hb hm hx =
      let e = executed_so s d hx in
      let i : d.address ≡ s.address = subst (λ (z : Result Decoded Cause). AtX s z) (sym hx) (at_x world s d.guess) in
      guess_kept s d i (execute d) e (rw e (runs world s))
