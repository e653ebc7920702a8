-- Every clock keeps the laws. Assumes nothing.
use Rattle.std.proofs.Common.{◌≡◌, ℕ, ◌+◌, ◌%◌, ◌^◌, Bool, true, false, cond, not, ◌&&◌, ◌||◌, eqb, ltb, List, ◌∷◌, ◌++◌, length, is_some, Some, None, Ok, Err, Option, Result, sym, refl, subst, ap, ◌∙◌, append_assoc, arith}
use Rattle.std.proofs.lemmas.Bool.{false≢true, true≢false}
use Rattle.base.specs.Bytes.{within}
use Rattle.base.specs.declared.bus.Request.{Request}
use Rattle.base.specs.declared.bus.Request.TheVariants.{Read}
use Rattle.memory.specs.Meaning.{Meaning, Reply}
use Rattle.memory.specs.declared.Answer.TheVariants.{Word, Done}
use Rattle.memory.specs.declared.Unserved.TheVariants.{Wait, Outside}
use Rattle.rv32i.specs.Effects.{following}
use Rattle.rv32i.specs.Targets.{target_of}
use Rattle.rv32i.specs.declared.cause.Cause.{Cause}
use Rattle.rv32i.specs.declared.cause.Cause.TheVariants.{InstructionMisaligned, InstructionAccessFault}
use Rattle.rv32i.specs.declared.instruction.Instruction.{Instruction}
use Rattle.rv32i.specs.declared.instruction.Instruction.TheVariants.{Lui, Auipc, Jal, Jalr, Branch, Load, Store, Immediate, Shift, Register as Arithmetic, Fence, Ecall, Ebreak}
use Rattle.rv32i.specs.declared.register.Register.{Register}
use Rattle.rv32i.specs.declared.registers.Registers.{Registers}
use Rattle.rv32i_words.specs.Issues.{issues, issued}
use Rattle.rv32i_words.specs.Words.{decoded}
use Rattle.sequential.specs.declared.record.Stop.{Stop}
use Rattle.clocking.specs.Clock.{completes, executes, reads, decodes, plans, fetches, latches_after, move_notes, Moved, Halted, Worked, Cycled}
use Rattle.clocking.specs.WriteBack.{stop_of, retirement_of}
use Rattle.clocking.specs.Counting.{has_fetched, dropped_count, one_if, Counted, is_wait, stalls, moves, rolls_back}
use Rattle.clocking.specs.Laws.{is_occupied, x_writes, x_loads, x_value, m_writes, m_value, w_writes, w_value, at_w, at_m, at_x, at_d, flight, m_faults, x_is_misguessed, x_next, rolls_by_data, rolls_by_execute, rolls, is_missing, is_short, has_hazard, d_stalls, d_is_free, f_asks, dropped_addresses, forward, in_x, DecodeLaw, guess_of, FetchLaw, FlightLaw, GoingOn, Ending, LawsBy, ClockLaws}
use Rattle.clocking.specs.Ports.{TableOf, Asked, guess_after, arrival, bus_request}
use Rattle.clocking.specs.Data.{data_request}
use Rattle.clocking.specs.Execute.{execute_stage}
use Rattle.clocking.specs.Decode.{DecodeOut, decode_moves, decode_stalls, decode_stage, value_of}
use Rattle.sequential.specs.Sequential.{and_then}
use Rattle.clocking.specs.Fetch.{FetchOut, fetch_request, resume_at, fill_d, fetches_on, fetch_stage}
use Rattle.clocking.specs.declared.counts.Counts.{Counts}
use Rattle.clocking.specs.declared.latch.Fetched.{Fetched}
use Rattle.clocking.specs.declared.latch.Decoded.{Decoded}
use Rattle.clocking.specs.declared.latch.Completed.{Completed}
use Rattle.clocking.specs.declared.latch.Latch.{Latch}
use Rattle.clocking.specs.declared.latch.Latch.TheVariants.{Empty, Faulting, Full}
use Rattle.clocking.specs.declared.latch.Latches.{Latches}
use Rattle.clocking.specs.declared.stage.Flow.{Flow}
use Rattle.clocking.specs.declared.stage.Flow.TheVariants.{Moves, Stalls, RollsBack}
use Rattle.clocking.specs.declared.state.Core.{Core}
use Rattle.clocking.specs.declared.state.Event.{Event}
use Rattle.clocking.proofs.LawsFlow.{Heard, heard, asks_same, data_flow, data_flows, apart, m_reads, execute_flow, execute_flows, XReady, x_gives, redirects, decode_flow, youngest_of, w_reads, stuck, passed, moves_by}
use Rattle.clocking.proofs.LawsFlight.{left, data_line, execute_line, decode_line, new_if, new_either, new_length, From, fetch_line, in_line, goes_to_w, goes_to_m, splits, gone_length, d_length, x_length}

-- ---- the flows, of tests. c: M has a cause; w: it has to wait; h: X is held; g: its guess is wrong; i: D is held; z: it lacks an operand

abbrev Rolls : Bool → Bool → Bool → Bool
Rolls c w g = c || (not c && not w && g)

abbrev Free : Bool → Bool → Bool → Bool → Bool
Free c w h g = not (Rolls c w g) && not (w && h)

abbrev DStalls : Bool → Bool → Bool → Bool → Bool → Bool → Bool
DStalls c w h g i z = (Free c w h g && z) || ((w && h) && i)

abbrev DFree : Bool → Bool → Bool → Bool → Bool → Bool → Bool
DFree c w h g i z = not (Rolls c w g) && not (DStalls c w h g i z)

abbrev two : Bool → Bool → Bool → Bool → Flow
two c w h g = execute_flow (data_flow c w) h g

abbrev three : Bool → Bool → Bool → Bool → Bool → Bool → Flow
three c w h g i z = decode_flow (two c w h g) i z

two_rolls : (c w h g : Bool) → Rolls c w g ≡ true → two c w h g ≡ RollsBack
two_rolls true w h g e = refl
two_rolls false true h g e = absurd (false≢true e)
two_rolls false false h true e = refl
two_rolls false false h false e = absurd (false≢true e)

two_stalls : (c w h g : Bool) → c && w ≡ false → w && h ≡ true → two c w h g ≡ Stalls
two_stalls c false h g a e = absurd (false≢true e)
two_stalls true true h g a e = absurd (true≢false a)
two_stalls false true true g a e = refl
two_stalls false true false g a e = absurd (false≢true e)

two_moves : (c w h g : Bool) → Free c w h g ≡ true → two c w h g ≡ Moves
two_moves true w h g e = absurd (false≢true e)
two_moves false true true g e = absurd (false≢true e)
two_moves false true false g e = refl
two_moves false false h true e = absurd (false≢true e)
two_moves false false h false e = refl

no_cause : (c w h g : Bool) → Free c w h g ≡ true → c ≡ false
no_cause true w h g e = absurd (false≢true e)
no_cause false w h g e = refl

x_ready : (c w g : Bool) (x : Latch Decoded) → Free c w (is_occupied x) g ≡ true → XReady (data_flow c w) x
x_ready true w g x e = absurd (false≢true e)
x_ready false false g x e = tt
x_ready false true g Empty e = tt
x_ready false true g (Faulting stop) e = absurd (false≢true e)
x_ready false true g (Full d) e = absurd (false≢true e)

-- a fact of a stage before which all moves on
abbrev Where : Flow → Type 0 → Type 0
Where Moves P = P
Where flow P = Unit {0}

where_free : (c w h g : Bool) (P : Type 0) → (Free c w h g ≡ true → P) → Where (two c w h g) P
where_free true w h g P f = tt
where_free false true true g P f = tt
where_free false true false g P f = f refl
where_free false false h true P f = tt
where_free false false h false P f = f refl

three_rolls : (c w h g i z : Bool) → Rolls c w g ≡ true → three c w h g i z ≡ RollsBack
three_rolls c w h g i z e = ap (λ flow. decode_flow flow i z) (two_rolls c w h g e)

three_stalls : (c w h g i z : Bool) → c && w ≡ false → DStalls c w h g i z ≡ true → three c w h g i z ≡ Stalls
three_stalls true true h g i z a e = absurd (true≢false a)
three_stalls true false h g i z a e = absurd (false≢true e)
three_stalls false true true g true z a e = refl
three_stalls false true true g false z a e = absurd (false≢true e)
three_stalls false true false g i true a e = refl
three_stalls false true false g i false a e = absurd (false≢true e)
three_stalls false false h true i z a e = absurd (false≢true e)
three_stalls false false h false i true a e = refl
three_stalls false false h false i false a e = absurd (false≢true e)

three_moves : (c w h g i z : Bool) → moves (three c w h g i z) ≡ DFree c w h g i z
three_moves true w h g i z = refl
three_moves false true true g true z = refl
three_moves false true true g false z = refl
three_moves false true false g i true = refl
three_moves false true false g i false = refl
three_moves false false h true i z = refl
three_moves false false h false i true = refl
three_moves false false h false i false = refl

moves_only : (flow : Flow) → moves flow ≡ true → flow ≡ Moves
moves_only Moves e = refl
moves_only Stalls e = absurd (false≢true e)
moves_only RollsBack e = absurd (false≢true e)

three_free : (c w h g i z : Bool) → DFree c w h g i z ≡ true → three c w h g i z ≡ Moves
three_free c w h g i z e = moves_only (three c w h g i z) (three_moves c w h g i z ∙ e)

-- the letters of a note
waits_so : (c w : Bool) → c && w ≡ false → stalls (data_flow c w) ≡ w
waits_so true true a = absurd (true≢false a)
waits_so true false a = refl
waits_so false true a = refl
waits_so false false a = refl

rolls_so : (c w h g i z : Bool) → rolls_back (three c w h g i z) ≡ Rolls c w g
rolls_so true w h g i z = refl
rolls_so false true true g true z = refl
rolls_so false true true g false z = refl
rolls_so false true false g i true = refl
rolls_so false true false g i false = refl
rolls_so false false h true i z = refl
rolls_so false false h false i true = refl
rolls_so false false h false i false = refl

hazard_so : (c w h g i z : Bool) → (moves (two c w h g) && stalls (three c w h g i z)) ≡ (Free c w h g && z)
hazard_so true w h g i z = refl
hazard_so false true true g i z = refl
hazard_so false true false g i true = refl
hazard_so false true false g i false = refl
hazard_so false false h true i z = refl
hazard_so false false h false i true = refl
hazard_so false false h false i false = refl

-- ---- decode

stays_with : (x : Latch Decoded) (d : Latch Fetched) → (decode_stalls x d).x ≡ x
stays_with x Empty = refl
stays_with x (Faulting stop) = refl
stays_with x (Full f) = refl

by_short : (z : Bool) (y : Latch Decoded) (o : DecodeOut) → o ≡ cond z stuck (passed y) → o.flow ≡ decode_flow Moves true z
by_short true y o e = ap (λ o. o.flow) e
by_short false y o e = ap (λ o. o.flow) e

decode_flows : (flow : Flow) (look : Register → Option ℕ) (x : Latch Decoded) (d : Latch Fetched) (z : Bool) (y : Latch Decoded)
    → Where flow (decode_moves look d ≡ cond z stuck (passed y)) → (decode_stage look x d flow).flow ≡ decode_flow flow (is_occupied d) z
decode_flows RollsBack look x d z y e = refl
decode_flows Stalls look x Empty z y e = refl
decode_flows Stalls look x (Faulting stop) z y e = refl
decode_flows Stalls look x (Full f) z y e = refl
decode_flows Moves look x d true y e = ap (λ o. o.flow) e
decode_flows Moves look x d false y e = ap (λ o. o.flow) e

both : (b c : Bool) → b && c ≡ true → (b ≡ true) × (c ≡ true)
both true true e = (refl, refl)
both true false e = absurd (false≢true e)
both false c e = absurd (false≢true e)

-- ---- fetch

abbrev can_fetch : Bool → Bool → Result (Unit {0}) Cause
can_fetch b d = cond b (cond d (Ok tt) (Err InstructionAccessFault)) (Err InstructionMisaligned)

sent_by : (f : ℕ) (b d : Bool) → bus_request (and_then (can_fetch b d) (λ _. Ok (Some (Read f)))) ≡ cond (b && d) (Some (Read f)) None
sent_by f true true = refl
sent_by f true false = refl
sent_by f false d = refl

sent_so : (instructions_size f : ℕ) (flow : Flow) → bus_request (fetch_request instructions_size f flow) ≡ cond (moves flow && within instructions_size f) (Some (Read f)) None
sent_so instructions_size f RollsBack = refl
sent_so instructions_size f Stalls = refl
sent_so instructions_size f Moves = sent_by f (eqb (f % 4) 0) (ltb f instructions_size)

misaligned_by : (instructions_size f : ℕ) (d : Latch Fetched) (x : Option Fetched) (u : Option ℕ) → eqb (f % 4) 0 ≡ false
    → fetch_stage f d Moves (fetch_request instructions_size f Moves) x u ≡ record { f = following f; d = Faulting (record { address = f; cause = InstructionMisaligned }) }
misaligned_by instructions_size f d x u e = rw e

outside_by : (instructions_size f : ℕ) (d : Latch Fetched) (x : Option Fetched) (u : Option ℕ) → eqb (f % 4) 0 ≡ true → ltb f instructions_size ≡ false
    → fetch_stage f d Moves (fetch_request instructions_size f Moves) x u ≡ record { f = following f; d = Faulting (record { address = f; cause = InstructionAccessFault }) }
outside_by instructions_size f d x u e i = rw (e, i)

-- where something was asked, what arrived is put into D
abbrev IsAsked : Result (Option Request) Cause → Type 0
IsAsked (Ok (Some q)) = Unit {0}
IsAsked o = ⊥

is_asked : (o : Result (Option Request) Cause) (answer : Reply) → Heard (bus_request o) (Some answer) → IsAsked o
is_asked (Err c) answer h = h
is_asked (Ok None) answer h = h
is_asked (Ok (Some q)) answer h = tt

on_placed : (f : ℕ) (o : Result (Option Request) Cause) (x : Option Fetched) → IsAsked o → fetches_on f o x ≡ fill_d f x
on_placed f (Err c) x h = absurd h
on_placed f (Ok None) x h = absurd h
on_placed f (Ok (Some q)) x h = refl

placed_so : (instructions_size f : ℕ) (d : Latch Fetched) (flow : Flow) (x : Option Fetched) (u : Option ℕ) → IsAsked (fetch_request instructions_size f flow)
    → fetch_stage f d flow (fetch_request instructions_size f flow) x u ≡ fill_d f x
placed_so instructions_size f d RollsBack x u h = absurd h
placed_so instructions_size f d Stalls x u h = absurd h
placed_so instructions_size f d Moves x u h = on_placed f (fetch_request instructions_size f Moves) x h

guesses : {P : Type 0} (table : TableOf P) (p : P) (f : ℕ) (o : Option Instruction) → guess_after table p f (issues o) ≡ guess_of table p f o
unfolding target_of
guesses table p f None = refl
guesses table p f (Some (Lui d v)) = refl
guesses table p f (Some (Auipc d v)) = refl
guesses table p f (Some (Jal d z)) = refl
guesses table p f (Some (Jalr d r z)) = refl
guesses table p f (Some (Branch c r q z)) = refl
guesses table p f (Some (Load kind d r z)) = refl
guesses table p f (Some (Store kind r q z)) = refl
guesses table p f (Some (Immediate o d r z)) = refl
guesses table p f (Some (Shift o d r n)) = refl
guesses table p f (Some (Arithmetic o d r q)) = refl
guesses table p f (Some Fence) = refl
guesses table p f (Some Ecall) = refl
guesses table p f (Some Ebreak) = refl

guess_so : {P : Type 0} (table : TableOf P) (p : P) (f w : ℕ) → guess_after table p f (issued w) ≡ guess_of table p f (decoded w)
unfolding issued
guess_so table p f w = guesses table p f (decoded w)

from_f : {P : Type 0} (table : TableOf P) (p : P) (f : ℕ) (answer : Option Reply) → From f (arrival table p f answer)
from_f table p f None = tt
from_f table p f (Some (Err why)) = tt
from_f table p f (Some (Ok Done)) = tt
from_f table p f (Some (Ok (Word w))) = refl

-- ---- the stages together

moved_short : (z : Bool) (y : Latch Decoded) (o : DecodeOut) → o ≡ cond z stuck (passed y) → z ≡ true → o.x ≡ Empty
moved_short true y o e i = ap (λ o. o.x) e
moved_short false y o e i = absurd (false≢true i)

moved_on : (z : Bool) (y : Latch Decoded) (o : DecodeOut) → o ≡ cond z stuck (passed y) → z ≡ false → o.x ≡ y
moved_on true y o e i = absurd (true≢false i)
moved_on false y o e i = ap (λ o. o.x) e

rolls_if_data : (c w g : Bool) → c ≡ true → Rolls c w g ≡ true
rolls_if_data true w g e = refl
rolls_if_data false w g e = absurd (false≢true e)

rolls_if_execute : (c w g : Bool) → (not c && not w && g) ≡ true → Rolls c w g ≡ true
rolls_if_execute true w g e = refl
rolls_if_execute false w g e = e

data_rolls_back : (c w : Bool) → c ≡ true → data_flow c w ≡ RollsBack
data_rolls_back true w e = refl
data_rolls_back false w e = absurd (false≢true e)

-- M has moved on where execute rolls back
data_moves : (c w g : Bool) → (not c && not w && g) ≡ true → (data_flow c w ≡ Moves) × (g ≡ true)
data_moves true w g e = absurd (false≢true e)
data_moves false true g e = absurd (false≢true e)
data_moves false false g e = (refl, e)

module _ (size instructions_size : ℕ) (k : Latches) (g : Registers) (reply : Option Reply) (h : Heard (bus_request (data_request size k.m)) reply) where
  abbrev c : Bool
  c = m_faults size k.m

  abbrev w : Bool
  w = is_wait reply

  abbrev held : Bool
  held = is_occupied k.x

  abbrev wrong : Bool
  wrong = x_is_misguessed k.x

  abbrev short : Bool
  short = is_short size k reply k.d

  exclusive : c && w ≡ false
  exclusive = apart size k.m reply h

  one_flow : (completes size k reply).flow ≡ data_flow c w
  one_flow = data_flows size k.m reply h

  two_flow : (executes size k reply).flow ≡ two c w held wrong
  two_flow = execute_flows (completes size k reply).flow k.m k.x ∙ ap (λ flow. execute_flow flow held wrong) one_flow

  look_so : Free c w held wrong ≡ true → (r : Register)
      → reads size g k reply r ≡ cond (is_missing size k reply r) None (Some (forward size k reply (value_of g) r))
  look_so e r =
      youngest_of _ _ _ (x_writes k.x r) (x_loads k.x) (m_writes k.m r) (is_wait reply) (w_writes k.w r) (x_value k.x) (m_value k.m reply) (w_value k.w) (value_of g r)
      (x_gives (completes size k reply).flow k.m k.x r (subst (λ flow. XReady flow k.x) (sym one_flow) (x_ready c w wrong k.x e)))
      (m_reads size k.m reply h (no_cause c w held wrong e) r)
      (w_reads k.w r)

  moves_so : Free c w held wrong ≡ true → decode_moves (reads size g k reply) k.d ≡ cond short stuck (passed (in_x size k reply (value_of g) k.d))
  moves_so e = moves_by size k reply (value_of g) (reads size g k reply) (look_so e) k.d

  three_flow : (decodes size g k reply).flow ≡ three c w held wrong (is_occupied k.d) short
  three_flow =
      decode_flows (executes size k reply).flow (reads size g k reply) k.x k.d short (in_x size k reply (value_of g) k.d)
      (subst (λ flow. Where flow (decode_moves (reads size g k reply) k.d ≡ cond short stuck (passed (in_x size k reply (value_of g) k.d)))) (sym two_flow)
      (where_free c w held wrong _ moves_so))
      ∙ ap (λ flow. decode_flow flow (is_occupied k.d) short) two_flow

  decode_at : (flow : Flow) → (executes size k reply).flow ≡ flow → (decodes size g k reply).x ≡ (decode_stage (reads size g k reply) k.x k.d flow).x
  decode_at flow e = ap (λ flow. (decode_stage (reads size g k reply) k.x k.d flow).x) e

  decoding_so : DecodeLaw size k reply (value_of g) (decodes size g k reply).x
  decoding_so = record {
    rolls_back = λ e. decode_at RollsBack (two_flow ∙ two_rolls c w held wrong e);
    stalls = λ e. decode_at Stalls (two_flow ∙ two_stalls c w held wrong exclusive e) ∙ stays_with k.x k.d;
    hazard = λ e.
        let p = both (Free c w held wrong) short e in
        decode_at Moves (two_flow ∙ two_moves c w held wrong p.0) ∙ moved_short short (in_x size k reply (value_of g) k.d) _ (moves_so p.0) p.1;
    moves = λ e i. decode_at Moves (two_flow ∙ two_moves c w held wrong e) ∙ moved_on short (in_x size k reply (value_of g) k.d) _ (moves_so e) i;
  }

  sent_text : bus_request (plans size instructions_size g k reply) ≡ f_asks size k reply instructions_size
  sent_text =
      sent_so instructions_size k.f (decodes size g k reply).flow
      ∙ ap (λ b. cond (b && within instructions_size k.f) (Some (Read k.f)) None) (ap moves three_flow ∙ three_moves c w held wrong (is_occupied k.d) short)

  notes_by : (answer : Option Reply) → move_notes size g k reply answer ≡ record {
    fetch_wait = is_wait answer;
    hazard = has_hazard size k reply;
    data_wait = is_wait reply;
    rollback = rolls size k reply;
    stop = false;
  }
  notes_by answer = λ j. record {
    fetch_wait = is_wait answer;
    hazard =
        ((λ l. moves (two_flow l) && stalls (three_flow l))
        ∙ hazard_so c w held wrong (is_occupied k.d) short) j;
    data_wait = (ap stalls one_flow ∙ waits_so c w exclusive) j;
    rollback = (ap rolls_back three_flow ∙ rolls_so c w held wrong (is_occupied k.d) short) j;
    stop = false;
  }

  module _ (x : Option Fetched) where
    abbrev next : Latches
    next = latches_after size instructions_size g k reply x

    abbrev fetched_by : Flow → FetchOut
    fetched_by flow = fetch_stage k.f k.d flow (fetch_request instructions_size k.f flow) x (executes size k reply).redirect

    fetch_at : (flow : Flow) → (decodes size g k reply).flow ≡ flow → fetches size instructions_size g k reply x ≡ fetched_by flow
    fetch_at flow e = ap fetched_by e

    parts : (o : FetchOut) → fetches size instructions_size g k reply x ≡ o → (next.d ≡ o.d) × (next.f ≡ o.f)
    parts o e = (ap (λ o. o.d) e, ap (λ o. o.f) e)

    rolled_by_data : rolls_by_data size k reply ≡ true → (next.d ≡ Empty) × (next.f ≡ k.f)
    rolled_by_data e =
        let p = parts (fetched_by RollsBack) (fetch_at RollsBack (three_flow ∙ three_rolls c w held wrong (is_occupied k.d) short (rolls_if_data c w wrong e))) in
        let u : (executes size k reply).redirect ≡ None = ap (λ flow. (execute_stage k.m k.x flow).redirect) (one_flow ∙ data_rolls_back c w e) in
        (p.0, p.1 ∙ ap (resume_at k.f) u)

    rolled_by_execute : rolls_by_execute size k reply ≡ true → (next.d ≡ Empty) × (next.f ≡ x_next k.x)
    rolled_by_execute e =
        let p = parts (fetched_by RollsBack) (fetch_at RollsBack (three_flow ∙ three_rolls c w held wrong (is_occupied k.d) short (rolls_if_execute c w wrong e))) in
        let q = data_moves c w wrong e in
        let u : (executes size k reply).redirect ≡ Some (x_next k.x) =
        ap (λ flow. (execute_stage k.m k.x flow).redirect) (one_flow ∙ q.0) ∙ redirects k.m k.x q.1 in
        (p.0, p.1 ∙ ap (resume_at k.f) u)

    stayed : d_stalls size k reply ≡ true → (next.d ≡ k.d) × (next.f ≡ k.f)
    stayed e = parts (fetched_by Stalls) (fetch_at Stalls (three_flow ∙ three_stalls c w held wrong (is_occupied k.d) short exclusive e))

    free_at : d_is_free size k reply ≡ true → fetches size instructions_size g k reply x ≡ fetched_by Moves
    free_at e = fetch_at Moves (three_flow ∙ three_free c w held wrong (is_occupied k.d) short e)

    placed_at : (answer : Reply) → Heard (bus_request (plans size instructions_size g k reply)) (Some answer) → (next.d ≡ (fill_d k.f x).d) × (next.f ≡ (fill_d k.f x).f)
    placed_at answer i =
        parts (fill_d k.f x) (placed_so instructions_size k.f k.d (decodes size g k reply).flow x (executes size k reply).redirect (is_asked (plans size instructions_size g k reply) answer i))

    -- what is left of a line of latches
    abbrev kept : List ℕ
    kept = at_m k.m ++ (left (data_flow c w) (at_x k.x) ++ left (two c w held wrong) (at_d k.d))

    before_so : flight k ≡ at_w k.w ++ (kept ++ dropped_addresses size k reply)
    before_so =
        ap (λ l. at_w k.w ++ l)
        (ap (λ l. at_m k.m ++ l) (splits c w held wrong (at_x k.x) (at_d k.d)) ∙ sym (append_assoc (at_m k.m) _ (dropped_addresses size k reply)))

    after_so : From k.f x → flight next ≡ kept ++ new_if k.f (has_fetched (plans size instructions_size g k reply) x)
    after_so i =
        ap (λ l. at_w next.w ++ (at_m next.m ++ (at_x next.x ++ l))) (fetch_line instructions_size k.f k.d (decodes size g k reply).flow x (executes size k reply).redirect i)
        ∙ in_line (at_w next.w) (at_m next.m) (at_x next.x) _ _ _ _ _ _ _
        (data_line k.m (data_request size k.m) reply)
        (execute_line (completes size k reply).flow k.m k.x)
        (decode_line (reads size g k reply) (executes size k reply).flow k.x k.d)
        ∙ ap (λ flow. (at_m k.m ++ (left flow (at_x k.x) ++ left (executes size k reply).flow (at_d k.d))) ++ new_if k.f (has_fetched (plans size instructions_size g k reply) x)) one_flow
        ∙ ap (λ flow. (at_m k.m ++ (left (data_flow c w) (at_x k.x) ++ left flow (at_d k.d))) ++ new_if k.f (has_fetched (plans size instructions_size g k reply) x)) two_flow

    dropped_by : dropped_count k (completes size k reply).flow (executes size k reply).flow ≡ length (dropped_addresses size k reply)
    dropped_by =
        ap (λ flow. dropped_count k flow (executes size k reply).flow) one_flow ∙ ap (dropped_count k (data_flow c w)) two_flow
        ∙ gone_length c w held wrong (at_x k.x) (at_d k.d) _ _ (x_length k.x) (d_length k.d)

    flight_so : From k.f x → (a b : Counts) (retires : Bool) → one_if retires ≡ length (at_w k.w)
        → Counted a (has_fetched (plans size instructions_size g k reply) x) retires (dropped_count k (completes size k reply).flow (executes size k reply).flow) b
        → FlightLaw size k reply a next b
    flight_so i a b retires e q = record {
      to_w = goes_to_w size k.m reply h;
      to_m = ap (λ flow. at_m (execute_stage k.m k.x flow).m) one_flow ∙ goes_to_m c w k.m k.x exclusive;
      kept = kept;
      fetched = new_if k.f (has_fetched (plans size instructions_size g k reply) x);
      before = before_so;
      after = after_so i;
      fetches_at = new_either k.f (has_fetched (plans size instructions_size g k reply) x);
      retired_count = q.retired_count ∙ ap (λ z. a.retired + z) e;
      dropped_count = q.dropped_count ∙ ap (λ z. (a.dropped + z) % 2 ^ 32) dropped_by;
      fetched_count = q.fetched_count ∙ ap (λ z. a.fetched + z) (new_length k.f (has_fetched (plans size instructions_size g k reply) x));
    }

  module _ {P : Type 0} (table : TableOf P) (p : P) (answer : Option Reply) (i : Heard (bus_request (plans size instructions_size g k reply)) answer) where
    abbrev got : Option Fetched
    got = arrival table p k.f answer

    waited_by : (r : Option Reply) → Heard (bus_request (plans size instructions_size g k reply)) r → is_wait r ≡ true
        → ((next (arrival table p k.f r)).d ≡ Empty) × ((next (arrival table p k.f r)).f ≡ k.f)
    waited_by None l e = absurd (false≢true e)
    waited_by (Some (Ok a)) l e = absurd (false≢true e)
    waited_by (Some (Err Wait)) l e = placed_at None (Err Wait) l
    waited_by (Some (Err Outside)) l e = absurd (false≢true e)

    arrived_by : (v : ℕ) (r : Option Reply) → Heard (bus_request (plans size instructions_size g k reply)) r → r ≡ Some (Ok (Word v))
        → ((next (arrival table p k.f r)).d ≡ Full (record { address = k.f; word = v; issued = issued v; guess = (next (arrival table p k.f r)).f }))
        × ((next (arrival table p k.f r)).f ≡ guess_of table p k.f (decoded v))
    arrived_by v r l e =
        rw e
        (let q = placed_at (arrival table p k.f (Some (Ok (Word v)))) (Ok (Word v)) (subst (Heard (bus_request (plans size instructions_size g k reply))) e l) in (
          q.0 ∙ ap (λ a. Full (record { address = k.f; word = v; issued = issued v; guess = a })) (sym q.1),
          q.1 ∙ guess_so table p k.f v,
        ))

    fetching_so : FetchLaw size k reply instructions_size (λ v. guess_of table p k.f (decoded v)) answer (next got)
    fetching_so = record {
      data_rolls = rolled_by_data got;
      execute_rolls = rolled_by_execute got;
      stalls = stayed got;
      misaligned = λ e f. parts got _ (free_at got e ∙ misaligned_by instructions_size k.f k.d got (executes size k reply).redirect f);
      outside = λ e f z. parts got _ (free_at got e ∙ outside_by instructions_size k.f k.d got (executes size k reply).redirect f z);
      waits = waited_by answer i;
      arrives = λ v. arrived_by v answer i;
    }

-- ---- a clock

-- whether W, which does not stop the machine, retires
abbrev Retires : Latch Completed → Type 0
Retires w = (is_some (retirement_of w) ≡ is_occupied w) × (one_if (is_some (retirement_of w)) ≡ length (at_w w))

module _ {P I D : Type 0} (table : TableOf P) (instructions : Meaning I) (data_memory : Meaning D) where
  moved_laws : (m : Core P I D) (e : Event) (n : Core P I D) → Retires m.latches.w → Moved table instructions data_memory m e n → GoingOn table instructions data_memory m e n
  moved_laws m e n r h =
      let size = data_memory.view.size m.data_memory in
      let instructions_size = instructions.view.size m.instructions in
      let k = m.latches in
      let g = n.registers in
      let asked = heard data_memory m.data_memory n.data_memory (bus_request (data_request size k.m)) h.reply h.data_asked in
      let planned = heard instructions m.instructions n.instructions (bus_request (plans size instructions_size g k h.reply)) h.answer h.instructions_asked in
      record {
        reply = h.reply;
        answer = h.answer;
        runs_on = h.runs_on;
        data_asked = subst (λ q. Asked data_memory m.data_memory q h.reply n.data_memory) (asks_same size k.m) h.data_asked;
        instructions_asked = subst (λ q. Asked instructions m.instructions q h.answer n.instructions) (sent_text size instructions_size k g h.reply asked) h.instructions_asked;
        decoding = subst (λ l. DecodeLaw size k h.reply (value_of g) l.x) (sym h.latches) (decoding_so size instructions_size k g h.reply asked);
        fetching =
            subst (λ l. FetchLaw size k h.reply instructions_size (λ w. guess_of table n.predictor k.f (decoded w)) h.answer l) (sym h.latches)
            (fetching_so size instructions_size k g h.reply asked table n.predictor h.answer planned);
        flights =
            subst (λ l. FlightLaw size k h.reply m.counts l n.counts) (sym h.latches)
            (flight_so size instructions_size k g h.reply asked (arrival table n.predictor k.f h.answer) (from_f table n.predictor k.f h.answer) m.counts n.counts (is_some (retirement_of k.w)) r.1 h.counted);
        retires = ap (λ e. is_some e.retirement) h.event ∙ r.0;
        notes = ap (λ e. e.clock.notes) h.event ∙ notes_by size instructions_size k g h.reply asked h.answer;
      }

  halted_laws : (stop : Stop) (m : Core P I D) (e : Event) (n : Core P I D) → m.latches.w ≡ Faulting stop → Halted table instructions data_memory stop m e n
      → Ending table instructions data_memory stop m e n
  halted_laws stop m e n f h = record {
    stops = h.stops;
    data_idles = h.data_idle;
    instructions_idles = h.instructions_idle;
    flights =
        ap (λ w. at_w w ++ (at_m m.latches.m ++ (at_x m.latches.x ++ at_d m.latches.d))) f
        ∙ ap (λ l. stop.address ∷ flight l) (sym h.latches);
    fetch_address = ap (λ l. l.f) h.latches;
    fetched_count = let q = h.counted.fetched_count in omega arith;
    retired_count = let q = h.counted.retired_count in omega arith;
    dropped_count = let q = h.counted.dropped_count in omega arith;
    retires = ap (λ e. e.retirement) h.event;
    notes = ap (λ e. e.clock.notes) h.event;
  }

  laws_by : (w : Latch Completed) (m : Core P I D) (e : Event) (n : Core P I D) → m.latches.w ≡ w
      → Worked table instructions data_memory (stop_of w) m e n → LawsBy table instructions data_memory (stop_of w) m e n
  laws_by Empty m e n f h = moved_laws m e n (subst Retires (sym f) (refl, refl)) h
  laws_by (Faulting stop) m e n f h = halted_laws stop m e n f h
  laws_by (Full c) m e n f h = moved_laws m e n (subst Retires (sym f) (refl, refl)) h

  pub clock_laws : (m : Core P I D) (e : Event) (n : Core P I D) → Cycled table instructions data_memory m e n → ClockLaws table instructions data_memory m e n
  clock_laws m e n h = laws_by m.latches.w m e n refl h
