-- The fetch stage keeps the chain. Assumes nothing.
use Rattle.std.proofs.Common.{◌≡◌, ℕ, ◌%◌, Bool, true, false, cond, eqb, ltb, Some, None, Ok, Err, Option, Result, sym, refl, ap, ◌∙◌, eqb-true}
use Rattle.base.specs.Bytes.{within, word}
use Rattle.base.specs.declared.bus.Request.{Request}
use Rattle.base.specs.declared.bus.Request.TheVariants.{Read}
use Rattle.memory.specs.Meaning.{Reply}
use Rattle.memory.specs.declared.Answer.TheVariants.{Word}
use Rattle.sequential.specs.Sequential.{State, World, and_then, fetch}
use Rattle.clocking.specs.declared.latch.Fetched.{Fetched}
use Rattle.clocking.specs.declared.latch.Latch.{Latch}
use Rattle.clocking.specs.declared.stage.Flow.{Flow}
use Rattle.clocking.specs.declared.stage.Flow.TheVariants.{Moves, Stalls, RollsBack}
use Rattle.std.proofs.lemmas.Bool.{and_parts}
use Rattle.rv32i_words.specs.Issues.{issued}
use Rattle.rv32i.specs.declared.cause.Cause.{Cause}
use Rattle.rv32i.specs.declared.cause.Cause.TheVariants.{InstructionMisaligned, InstructionAccessFault}
use Rattle.clocking.specs.Ports.{bus_request, TableOf, arrival}
use Rattle.clocking.specs.Fetch.{FetchOut, fetch_request, resume_at, fetches_on, fetch_stage}
use Rattle.clocking.proofs.Chain.{Reach, HoldsD, behindD, Leads, guessed}
use Rattle.clocking.proofs.Decode.{Rests}
use Rattle.clocking.proofs.Execute.{Redirects}
use Rattle.clocking.proofs.Partial.{fetched_at, after_at}
use Rattle.clocking.proofs.Served.{Bytes}
use Rattle.memory.specs.declared.Unserved.TheVariants.{Outside, Wait}
use Rattle.clocking.proofs.Data.{idle_same}

guess_leads_by : (g : ℕ) (t : State) (b : Bool) → eqb t.address g ≡ b → Leads g (cond b (Ok t) (Err InstructionAccessFault))
guess_leads_by g t true e = sym (eqb-true _ _ e)
guess_leads_by g t false e = tt

guess_leads : (g : ℕ) (r : Reach) → Leads g (and_then r (guessed g))
guess_leads g (Err c) = tt
guess_leads g (Ok t) = guess_leads_by g t (eqb t.address g) refl

redirect_leads : (u : Option ℕ) (f : ℕ) (q : Reach) → Redirects u q → Leads (resume_at f u) q
redirect_leads None f (Err c) h = tt
redirect_leads None f (Ok s) h = absurd h
redirect_leads (Some n) f q h = h

-- what is asked for f, by whether a word may stand there and whether it is within the memory
abbrev pub asked_if : ℕ → Bool → Bool → Result (Option Request) Cause
asked_if f b d =
    let can : Result (Unit {0}) Cause = cond b (cond d (Ok tt) (Err InstructionAccessFault)) (Err InstructionMisaligned) in and_then can (λ _. Ok (Some (Read f)))

-- what arrives is the word that was read, whatever the guess
abbrev pub Arrives : ℕ → Option Reply → Option Fetched → Type 0
Arrives f t None = Unit {0}
Arrives f (Some (Ok (Word w))) (Some x) = (x.address ≡ f) × (x.word ≡ w) × (x.issued ≡ issued w)
Arrives f t (Some x) = ⊥

module _ (world : World) where
  pub record FetchKept (q : Reach) (o : FetchOut) : Type 0 where
    pub d : HoldsD world q o.d
    pub f : Leads o.f (behindD world q o.d)

  misaligned : (s : State) → eqb (s.address % 4) 0 ≡ false → Err InstructionMisaligned ≡ fetched_at world s 0
  unfolding fetched_at fetch
  misaligned s e = rw e

  outside : (s : State) → eqb (s.address % 4) 0 ≡ true → ltb s.address world.instructions_size ≡ false → Err InstructionAccessFault ≡ fetched_at world s 0
  unfolding fetched_at fetch
  outside s e i = rw (e, i)

  inside : (s : State) (g : ℕ) → within world.instructions_size s.address ≡ true
      → Ok (record { address = s.address; word = word world.instructions s.address; issued = issued (word world.instructions s.address); guess = g }) ≡ fetched_at world s g
  unfolding fetched_at fetch
  inside s g e = let p = and_parts (eqb (s.address % 4) 0) (ltb s.address world.instructions_size) e in rw (p.0, p.1)

  arrives_at : (s : State) (f : ℕ) (x : Fetched) (t : Option Reply) (n : ℕ → ℕ) → Bytes world.instructions_size (Some (Read f)) t world.instructions n → Arrives f t (Some x) → f ≡ s.address → Ok x ≡ fetched_at world s x.guess
  arrives_at s f x (Some (Ok (Word w))) n h a l =
      let v : w ≡ word world.instructions s.address = rw l at h.1 in
      let same : x ≡ record { address = s.address; word = word world.instructions s.address; issued = issued (word world.instructions s.address); guess = x.guess } =
      λ i. record { address = (a.0 ∙ l) i; word = (a.1 ∙ v) i; issued = (a.2 ∙ ap issued v) i; guess = x.guess } in
      ap (λ (y : Fetched). Ok y) same ∙ inside s x.guess (rw l at h.0)
  arrives_at s f x t n h a l = absurd a

  by_ask : (q : Reach) (f : ℕ) (t : Option Reply) (x : Option Fetched) (n : ℕ → ℕ) → Bytes world.instructions_size (Some (Read f)) t world.instructions n → Arrives f t x → Leads f q → FetchKept q (fetches_on f (Ok (Some (Read f))) x)
  by_ask q f t None n h a l = record { d = tt; f = l }
  by_ask (Err c) f t (Some x) n h a l = record { d = tt; f = tt }
  by_ask (Ok s) f t (Some x) n h a l = record { d = arrives_at s f x t n h a l; f = guess_leads x.guess (after_at world s) }

  by_size : (q : Reach) (f : ℕ) (t : Option Reply) (x : Option Fetched) (n : ℕ → ℕ) (b d : Bool) → eqb (f % 4) 0 ≡ b → ltb f world.instructions_size ≡ d
      → Bytes world.instructions_size (bus_request (asked_if f b d)) t world.instructions n → Arrives f t x → Leads f q
      → FetchKept q (fetches_on f (asked_if f b d) x)
  by_size q f t x n true true e i h a l = by_ask q f t x n h a l
  by_size (Ok s) f t x n true false e i h a l = record { d = (l, outside s (rw l at e) (rw l at i)); f = tt }
  by_size (Ok s) f t x n false d e i h a l = record { d = (l, misaligned s (rw l at e)); f = tt }
  by_size (Err c) f t x n b d e i h a l = record { d = tt; f = tt }

  pub fetch_kept : (flow : Flow) (f : ℕ) (d : Latch Fetched) (t : Option Reply) (x : Option Fetched) (u : Option ℕ) (n : ℕ → ℕ) (r q : Reach)
      → Bytes world.instructions_size (bus_request (fetch_request world.instructions_size f flow)) t world.instructions n → Arrives f t x → HoldsD world r d → Leads f (behindD world r d) → Rests world flow u r d q
      → FetchKept q (fetch_stage f d flow (fetch_request world.instructions_size f flow) x u)
  fetch_kept Moves f d t x u n r q h a hd hf o = by_size q f t x n (eqb (f % 4) 0) (ltb f world.instructions_size) refl refl h a (rw o hf)
  fetch_kept Stalls f d t x u n r q h a hd hf o = rw o (record { d = hd; f = hf })
  fetch_kept RollsBack f d t x u n r q h a hd hf o = record { d = tt; f = redirect_leads u f q o }

-- ---- what fetching asks leaves the words as they are

pub arrives_so : {P : Type 0} (table : TableOf P) (p : P) (f : ℕ) (a : Option Reply) → Arrives f a (arrival table p f a)
arrives_so table p f (Some (Ok (Word w))) = (refl, refl, refl)
arrives_so table p f a = tt

-- reading does not change the bytes
read_same : (size f : ℕ) (a : Option Reply) (u v : ℕ → ℕ) → Bytes size (Some (Read f)) a u v → v ≡ u
read_same size f (Some (Ok (Word w))) u v h = h.2
read_same size f (Some (Err Wait)) u v h = h
read_same size f (Some (Err Outside)) u v h = h.1
read_same size f a u v h = absurd h

asked_kept : (size f : ℕ) (b d : Bool) (a : Option Reply) (u v : ℕ → ℕ) → Bytes size (bus_request (asked_if f b d)) a u v → v ≡ u
asked_kept size f true true a u v h = read_same size f a u v h
asked_kept size f b d a u v h = idle_same size a u v h

pub instructions_kept : (size f : ℕ) (flow : Flow) (a : Option Reply) (u v : ℕ → ℕ) → Bytes size (bus_request (fetch_request size f flow)) a u v → v ≡ u
instructions_kept size f Moves a u v h = asked_kept size f (eqb (f % 4) 0) (ltb f size) a u v h
instructions_kept size f flow a u v h = idle_same size a u v h
