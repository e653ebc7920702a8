-- The decode stage keeps the chain. Assumes nothing.
use Rattle.std.proofs.Common.{◌≡◌, ℕ, Some, Ok, Err, Option, Result, sym, refl, ap, ◌∙◌}
use Rattle.rv32i.specs.declared.cause.Cause.{Cause}
use Rattle.rv32i.specs.declared.register.Register.{Register}
use Rattle.sequential.specs.Sequential.{State, World, and_then, fetch}
use Rattle.clocking.specs.declared.latch.Fetched.{Fetched}
use Rattle.clocking.specs.declared.latch.Decoded.{Decoded}
use Rattle.clocking.specs.declared.latch.Latch.{Latch}
use Rattle.clocking.specs.declared.latch.Latch.TheVariants.{Empty, Faulting, Full}
use Rattle.clocking.specs.declared.stage.Flow.{Flow}
use Rattle.clocking.specs.declared.stage.Flow.TheVariants.{Moves, Stalls, RollsBack}
use Rattle.rv32i.proofs.Laws.{first_not_x0, second_not_x0}
use Rattle.rv32i.specs.Effects.{first_source, second_source}
use Rattle.rv32i_words.specs.Issues.{issued}
use Rattle.rv32i.specs.Registers.{operand}
use Rattle.rv32i.specs.declared.instruction.Instruction.{Instruction}
use Rattle.clocking.specs.Decode.{DecodeOut, source, with_operands, decode_word, decode_moves, decode_stalls, decode_stage}
use Rattle.clocking.proofs.Chain.{Reach, faults_on, HoldsD, HoldsX, behindD, behindX, on_if}
use Rattle.clocking.proofs.Execute.{Redirects, Onward}
use Rattle.clocking.proofs.Forward.{KnownRead}
use Rattle.clocking.proofs.Partial.{with_operands_at, fetched_at, decoded_at, executed_at, done_at, after_at}

abbrev pub SourcedRead : Flow → (Register → Option ℕ) → Reach → Type 0
SourcedRead Moves f r = KnownRead f r
SourcedRead flow f r = Unit {0}

module _ (world : World) where
  abbrev fetch_at : State → Result ℕ Cause
  fetch_at s = fetch world.instructions_size world.instructions s.address

  -- what the decode stage leaves: D has moved on, or stays, or is dropped
  abbrev pub Rests : Flow → Option ℕ → Reach → Latch Fetched → Reach → Type 0
  Rests Moves u r d q = q ≡ behindD world r d
  Rests Stalls u r d q = q ≡ r
  Rests RollsBack u r d q = Redirects u q

  pub record DecodeKept (q r : Reach) (d : Latch Fetched) (u : Option ℕ) (o : DecodeOut) : Type 0 where
    pub x : HoldsX world q o.x
    pub rests : Rests o.flow u r d (behindX world q o.x)

  -- what a fetched word says of the fetch
  pub record WordOf (s : State) (f : Fetched) : Type 0 where
    pub fetches : fetch_at s ≡ Ok f.word
    pub here : f.address ≡ s.address
    pub issues : f.issued ≡ issued f.word

  word_by : (o : Result ℕ Cause) (f : Fetched) (a : ℕ) → Ok f ≡ and_then o (λ w. Ok (record { address = a; word = w; issued = issued w; guess = f.guess }))
      → (o ≡ Ok f.word) × (f.address ≡ a) × (f.issued ≡ issued f.word)
  word_by (Err c) f a e = (cc, cc, cc)
  word_by (Ok w) f a e =
      let z : f ≡ record { address = a; word = w; issued = issued w; guess = f.guess } = cc in
      (ap {B = Result ℕ Cause} (λ x. Ok x.word) (sym z), ap (λ x. x.address) z, ap (λ x. x.issued) z ∙ ap (λ (x : Fetched). issued x.word) (sym z))

  word_of : (s : State) (f : Fetched) → Ok f ≡ fetched_at world s f.guess → WordOf s f
  unfolding fetched_at
  word_of s f e = let z = word_by (fetch_at s) f s.address e in record { fetches = z.0; here = z.1; issues = z.2 }

  decoded_so : (s : State) (f : Fetched) → WordOf s f → (g : ℕ) → decoded_at world s g ≡ and_then f.issued (λ i. Ok (with_operands_at s f.word g i))
  unfolding decoded_at
  decoded_so s f z g = rw (z.fetches, z.issues)

  faulting_by : (o : Result ℕ Cause) (c : Cause) (k : ℕ → Fetched) (h : ℕ → Result Decoded Cause) → Err c ≡ and_then o (λ w. Ok (k w)) → Err c ≡ and_then o h
  faulting_by (Err z) c k h e = cc
  faulting_by (Ok w) c k h e = cc

  faulting_so : (s : State) (c : Cause) → Err c ≡ fetched_at world s 0 → Err c ≡ decoded_at world s 0
  unfolding fetched_at decoded_at
  faulting_so s c e = faulting_by (fetch_at s) c _ _ e

  -- an instruction that does not decode leads nowhere
  ends : (s : State) (c : Cause) → Err c ≡ decoded_at world s 0 → Err c ≡ after_at world s
  unfolding after_at done_at executed_at
  ends s c e = rw (← e)

  ends_if : (s : State) (c : Cause) (g : ℕ) → Err c ≡ decoded_at world s 0 → ◌≡◌ {A = Reach} (Err c) (on_if world g s)
  ends_if s c g e = rw (← ends s c e)

  module _ (reads : Register → Option ℕ) (u : Option ℕ) where
    both : (s : State) (f : Fetched) (i : Instruction) → WordOf s f → f.issued ≡ Ok i → (x y : Option ℕ)
        → ((v : ℕ) → x ≡ Some v → v ≡ operand s.registers (first_source i)) → ((v : ℕ) → y ≡ Some v → v ≡ operand s.registers (second_source i))
        → DecodeKept (Ok s) (Ok s) (Full f) u (with_operands f i x y)
    both s f i z q (Some a) (Some b) h k = record { x = rw (decoded_so s f z f.guess, q, h a refl, k b refl, z.here); rests = refl }
    both s f i z q x y h k = record { x = tt; rests = refl }

    issues_none : (s : State) (f : Fetched) (c : Cause) → WordOf s f → f.issued ≡ Err c → Err c ≡ decoded_at world s 0
    issues_none s f c z q = rw (decoded_so s f z 0, q)

    by_word : (s : State) (f : Fetched) → WordOf s f → KnownRead reads (Ok s) → (o : Result Instruction Cause) → f.issued ≡ o → DecodeKept (Ok s) (Ok s) (Full f) u (decode_word reads f o)
    by_word s f z k (Err c) q = record { x = (z.here, issues_none s f c z q); rests = ends_if s c f.guess (issues_none s f c z q) }
    by_word s f z k (Ok i) q = both s f i z q (source reads (first_source i)) (source reads (second_source i)) (λ v. k (first_source i) v (first_not_x0 i)) (λ v. k (second_source i) v (second_not_x0 i))

    both_broken : (c : Cause) (f : Fetched) (i : Instruction) (x y : Option ℕ) → DecodeKept (Err c) (Err c) (Full f) u (with_operands f i x y)
    both_broken c f i (Some a) (Some b) = record { x = tt; rests = refl }
    both_broken c f i x y = record { x = tt; rests = refl }

    by_broken : (c : Cause) (f : Fetched) (o : Result Instruction Cause) → DecodeKept (Err c) (Err c) (Full f) u (decode_word reads f o)
    by_broken c f (Err z) = record { x = tt; rests = refl }
    by_broken c f (Ok i) = both_broken c f i (source reads (first_source i)) (source reads (second_source i))

    moves_kept : (r : Reach) (d : Latch Fetched) → HoldsD world r d → KnownRead reads r → DecodeKept r r d u (decode_moves reads d)
    moves_kept r Empty h k = record { x = tt; rests = refl }
    moves_kept r (Faulting stop) h k = record { x = faults_on _ _ faulting_so r stop h; rests = refl }
    moves_kept (Err c) (Full f) h k = by_broken c f f.issued
    moves_kept (Ok s) (Full f) h k = by_word s f (word_of s f h) k f.issued refl

    stays_kept : (r : Reach) (x : Latch Decoded) (d : Latch Fetched) → HoldsX world r x → DecodeKept r (behindX world r x) d u (decode_stalls x d)
    stays_kept r x Empty h = record { x = h; rests = refl }
    stays_kept r x d h = record { x = h; rests = refl }

    pub decode_kept : (flow : Flow) (r q : Reach) (x : Latch Decoded) (d : Latch Fetched) → HoldsX world r x → HoldsD world (behindX world r x) d → Onward world flow u r x q
        → SourcedRead flow reads (behindX world r x) → DecodeKept q (behindX world r x) d u (decode_stage reads x d flow)
    decode_kept Moves r q x d hx hd o k = rw o (moves_kept (behindX world r x) d hd k)
    decode_kept Stalls r q x d hx hd o k = rw o (stays_kept r x d hx)
    decode_kept RollsBack r q x d hx hd o k = record { x = tt; rests = o }
