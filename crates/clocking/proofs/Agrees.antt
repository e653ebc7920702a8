-- Every clock keeps the agreement with the sequential machine. Assumes nothing.
use Rattle.std.proofs.Common.{◌≡◌, ℕ, ◌+◌, ◌-◌, ◌<◌, ◌≤◌, Bool, true, false, cond, List, [], ◌∷◌, ◌++◌, length, is_some, Some, None, Ok, Option, sym, refl, ap, ◌∙◌, subst, append-nil, arith}
use Rattle.std.proofs.Math.Bool.{or-false}
use mathlib.Core.Path.{fun_ext}
use Rattle.memory.specs.Meaning.{Meaning, Lawful, Reply}
use Rattle.rv32i.specs.declared.registers.Registers.{Registers}
use Rattle.sequential.specs.Runs.{Steps, none}
use Rattle.sequential.specs.Sequential.{State, World}
use Rattle.sequential.specs.declared.record.Stop.{Stop}
use Rattle.clocking.specs.Agreement.{retirements, productive, world_of, state_of, StopAgrees, BytesAgree, Accounted, Agreement}
use Rattle.clocking.specs.Clock.{completes, executes, decodes, plans, latches_after, Moved, Halted, Worked, Cycled}
use Rattle.clocking.specs.WriteBack.{stop_of, retirement_of, outcome_of, write_back}
use Rattle.clocking.specs.Counting.{in_flight_count, occupancy, has_fetched, dropped_count, Counted}
use Rattle.clocking.specs.Ports.{TableOf, Taught, arrival, bus_request}
use Rattle.clocking.specs.Data.{data_request}
use Rattle.clocking.specs.declared.state.Core.{Core}
use Rattle.clocking.specs.declared.state.Event.{Event}
use Rattle.clocking.specs.declared.latch.Completed.{Completed}
use Rattle.clocking.specs.declared.latch.Fetched.{Fetched}
use Rattle.clocking.specs.declared.latch.Latch.{Latch}
use Rattle.clocking.specs.declared.latch.Latch.TheVariants.{Empty, Faulting, Full}
use Rattle.clocking.specs.declared.latch.Latches.{Latches}
use Rattle.clocking.proofs.Balance.{clock_balance, dropped_most}
use Rattle.clocking.proofs.Chain.{Flows, Chain, HoldsW}
use Rattle.clocking.proofs.Countdown.{Memories, Waits, count, Lulled, Clock, Down, down, lulls, least_one, at_first}
use Rattle.clocking.proofs.Fetch.{arrives_so, instructions_kept}
use Rattle.clocking.proofs.Histories.{retirements_more, length_more, retired_more, taught_more}
use Rattle.clocking.proofs.Keeps.{clock_keeps}
use Rattle.clocking.proofs.WriteBack.{Retires, steps_on, bytes_from, flows_if, faulting_if, retires_count}
use Rattle.clocking.proofs.Link.{link, Worn}
use Rattle.clocking.proofs.Pace.{left, Paced, paced_more, left_more, soon, soon_after, retires_productive}
use Rattle.clocking.proofs.Partial.{step_stops}
use Rattle.clocking.proofs.Served.{Bytes}

-- so a budget that was enough before is enough after it
budget : (bound before after l : ℕ) (w : Latch Completed) (b : Bool) → b ≡ is_some (retirement_of w) → Down bound w before after → 1 ≤ after → before ≤ l → (b ≡ false → 2 ≤ l) × (after ≤ cond b bound (l - 1))
budget bound before after l Empty b e d o k = (λ z. omega arith, rw e (omega arith))
budget bound before after l (Faulting stop) b e d o k = absurd d
budget bound before after l (Full c) b e d o k = (λ z. cc, rw e d)

module _ {P I D : Type 0} (table : TableOf P) (instructions : Meaning I) (data_memory : Meaning D) (il : Lawful instructions) (dl : Lawful data_memory) (first : Core P I D) where
  abbrev world : World
  world = world_of instructions data_memory first

  abbrev start : State
  start = state_of instructions data_memory first

  -- the longest waits of the instruction and of the data memory
  abbrev wi : ℕ
  wi = instructions.view.longest first.instructions

  abbrev wd : ℕ
  wd = data_memory.view.longest first.data_memory

  abbrev fixed : Memories
  fixed = record { data_size = world.data_size; instructions_size = world.instructions_size; data_longest = wd; instructions_longest = wi }

  abbrev waits : Core P I D → Waits
  waits m = record { of_data = data_memory.view.waits m.data_memory; of_instructions = instructions.view.waits m.instructions }

  -- how many clocks a retirement allows, and the start; and how many are left after the history
  abbrev bound : ℕ
  bound = wi + wd + 3

  abbrev first_bound : ℕ
  first_bound = wi + wd + 5

  abbrev allowed : List Event → ℕ
  allowed h = left bound first_bound h

  -- what holds of a machine that has not stopped
  record Live (h : List Event) (s : State) (m : Core P I D) : Type 0 where
    chain : Chain world s (data_memory.view.byte m.data_memory) m.registers m.latches
    lull : Lulled fixed (waits m) m.latches
    in_budget : count fixed (waits m) m.latches ≤ allowed h

  abbrev LiveIf : Option Stop → List Event → State → Core P I D → Type 0
  LiveIf None h s m = Live h s m
  LiveIf (Some stop) h s m = Unit {0}

  pub record Kept (h : List Event) (m : Core P I D) : Type 0 where
    reached : State
    steps : Steps world start (retirements h) reached
    registers : m.registers ≡ reached.registers
    stops : StopAgrees world reached m.stopped
    bytes : BytesAgree world reached m.latches.w (data_memory.view.byte m.data_memory)
    live : LiveIf m.stopped h reached m
    data_size : data_memory.view.size m.data_memory ≡ world.data_size
    instructions_size : instructions.view.size m.instructions ≡ world.instructions_size
    instructions_bytes : instructions.view.byte m.instructions ≡ world.instructions
    data_longest : data_memory.view.longest m.data_memory ≡ wd
    instructions_longest : instructions.view.longest m.instructions ≡ wi
    paced : Paced bound first_bound h
    accounted : Accounted table instructions data_memory first h m

  -- ---- a clock in which the machine goes on

  -- what a clock does where the sizes of the memories and the register file are known
  record Goes (size instructions_size : ℕ) (g : Registers) (m : Core P I D) (e : Event) (n : Core P I D) : Type 0 where
    reply : Option Reply
    answer : Option Reply
    taught : Taught table m.predictor (outcome_of (retirement_of m.latches.w)) n.predictor
    data_served : Bytes size (bus_request (data_request size m.latches.m)) reply (data_memory.view.byte m.data_memory) (data_memory.view.byte n.data_memory)
    data_worn : Worn reply (bus_request (data_request size m.latches.m)) (data_memory.view.waits m.data_memory) (data_memory.view.waits n.data_memory)
    data_size : data_memory.view.size n.data_memory ≡ size
    data_longest : data_memory.view.longest n.data_memory ≡ data_memory.view.longest m.data_memory
    instructions_served : Bytes instructions_size (bus_request (plans size instructions_size g m.latches reply)) answer (instructions.view.byte m.instructions) (instructions.view.byte n.instructions)
    instructions_worn : Worn answer (bus_request (plans size instructions_size g m.latches reply)) (instructions.view.waits m.instructions) (instructions.view.waits n.instructions)
    same_size : instructions.view.size n.instructions ≡ instructions_size
    instructions_longest : instructions.view.longest n.instructions ≡ instructions.view.longest m.instructions
    registers : n.registers ≡ g
    latches : n.latches ≡ latches_after size instructions_size g m.latches reply (arrival table n.predictor m.latches.f answer)
    runs_on : n.stopped ≡ None
    counted : Counted m.counts (has_fetched (plans size instructions_size g m.latches reply) (arrival table n.predictor m.latches.f answer)) (is_some (retirement_of m.latches.w))
        (dropped_count m.latches (completes size m.latches reply).flow (executes size m.latches reply).flow) n.counts
    retirement : e.retirement ≡ retirement_of m.latches.w
    not_stop : e.clock.notes.stop ≡ false

  goes : (m : Core P I D) (e : Event) (n : Core P I D) → Moved table instructions data_memory m e n
      → Goes (data_memory.view.size m.data_memory) (instructions.view.size m.instructions) n.registers m e n
  goes m e n h =
      let a = link data_memory dl (bus_request (data_request (data_memory.view.size m.data_memory) m.latches.m)) h.reply m.data_memory n.data_memory h.data_asked in
      let b = link instructions il (bus_request (plans (data_memory.view.size m.data_memory) (instructions.view.size m.instructions) n.registers m.latches h.reply)) h.answer m.instructions n.instructions h.instructions_asked in
      record {
        reply = h.reply;
        answer = h.answer;
        taught = h.taught;
        data_served = a.served;
        data_worn = a.worn;
        data_size = a.size;
        data_longest = a.longest;
        instructions_served = b.served;
        instructions_worn = b.worn;
        same_size = b.size;
        instructions_longest = b.longest;
        registers = refl;
        latches = h.latches;
        runs_on = h.runs_on;
        counted = h.counted;
        retirement = ap (λ (e : Event). e.retirement) h.event;
        not_stop = ap (λ (e : Event). e.clock.notes.stop) h.event;
      }

  known : (h : List Event) (m : Core P I D) (e : Event) (n : Core P I D) → Kept h m → Moved table instructions data_memory m e n
      → Goes world.data_size world.instructions_size (write_back m.registers m.latches.w) m e n
  known h m e n k w =
      subst (λ (z : ℕ). Goes z world.instructions_size (write_back m.registers m.latches.w) m e n) k.data_size
      (subst (λ (z : ℕ). Goes (data_memory.view.size m.data_memory) z (write_back m.registers m.latches.w) m e n) k.instructions_size
      (subst (λ (z : Registers). Goes (data_memory.view.size m.data_memory) (instructions.view.size m.instructions) z m e n) w.registers (goes m e n w)))

  module _ (h : List Event) (m : Core P I D) (e : Event) (n : Core P I D) (k : Kept h m) (l : Live h k.reached m) (flows : Flows m.latches.w)
      (w : Goes world.data_size world.instructions_size (write_back m.registers m.latches.w) m e n) where
    abbrev g : Registers
    g = write_back m.registers m.latches.w

    abbrev arrives : Option Fetched
    arrives = arrival table n.predictor m.latches.f w.answer

    abbrev next : Latches
    next = latches_after world.data_size world.instructions_size g m.latches w.reply arrives

    onward : (t : State) × Retires world k.reached m.latches.w t × Chain world t (data_memory.view.byte n.data_memory) g next
    onward =
        clock_keeps world k.reached (data_memory.view.byte m.data_memory) (data_memory.view.byte n.data_memory) (instructions.view.byte n.instructions) m.registers m.latches w.reply w.answer
        arrives l.chain flows w.data_served
        (subst (λ (z : ℕ → ℕ). Bytes world.instructions_size (bus_request (plans world.data_size world.instructions_size g m.latches w.reply)) w.answer z (instructions.view.byte n.instructions)) k.instructions_bytes w.instructions_served)
        (arrives_so table n.predictor m.latches.f w.answer)

    abbrev clock : Clock table fixed
    clock = record {
      registers = g;
      predictor = n.predictor;
      reply = w.reply;
      answer = w.answer;
      instructions_before = instructions.view.byte m.instructions;
      instructions_after = instructions.view.byte n.instructions;
      before = waits m;
      after = waits n;
      data_patient = λ q. rw k.data_longest at (dl.patient m.data_memory q);
      data_still_patient = λ q. rw (w.data_longest ∙ k.data_longest) at (dl.patient n.data_memory q);
      instructions_patient = λ q. rw k.instructions_longest at (il.patient m.instructions q);
    }

    -- the countdown after the clock
    abbrev ends : ℕ
    ends = count fixed (waits n) next

    falls : Down bound m.latches.w (count fixed (waits m) m.latches) ends
    falls = down table fixed clock m.latches flows w.data_worn (w.instructions_served, w.instructions_worn) l.lull

    lull_next : Lulled fixed (waits n) next
    lull_next = lulls table fixed clock m.latches (w.instructions_served, w.instructions_worn)

    produces : productive e ≡ is_some (retirement_of m.latches.w)
    produces = rw (w.retirement, w.not_stop) (or-false (is_some (retirement_of m.latches.w)))

    abbrev budgeted : (productive e ≡ false → 2 ≤ allowed h) × (ends ≤ cond (productive e) bound (allowed h - 1))
    budgeted = budget bound (count fixed (waits m) m.latches) ends (allowed h) m.latches.w (productive e) produces falls (least_one fixed (waits n) next) l.in_budget

    live_next : (t : State) → Chain world t (data_memory.view.byte n.data_memory) g next → Live (h ++ e ∷ []) t n
    live_next t c = record {
      chain = rw (w.registers, w.latches) c;
      lull = rw w.latches lull_next;
      in_budget = rw (w.latches, left_more bound first_bound h e) budgeted.1;
    }

    accounted_next : m.stopped ≡ None → m.counts.clocks < 4294967295 → Accounted table instructions data_memory first (h ++ e ∷ []) n
    accounted_next runs spent =
        let a = k.accounted in
        let b = clock_balance world.data_size world.instructions_size g m.latches w.reply arrives in
        let c = dropped_most m.latches (completes world.data_size m.latches w.reply).flow (executes world.data_size m.latches w.reply).flow in
        let o = retires_count m.latches.w flows in
        let d = m.counts.ok.0 in
        let f1 = w.counted.fetched_count in
        let r1 = w.counted.retired_count in
        let d1 = w.counted.dropped_count in
        let c1 = w.counted.clock_count in
        let before : m.counts.fetched ≡ m.counts.retired + m.counts.dropped + in_flight_count m.latches + 0 = rw runs at a.balanced in
        let hr = a.retired_count in
        let hc = a.clock_count in
        record {
          taught = taught_more table first.predictor m.predictor n.predictor h e a.taught (rw w.retirement w.taught);
          balanced = rw (w.latches, w.runs_on) (omega arith);
          retired_count = rw (retired_more h e, w.retirement) (omega arith);
          clock_count = rw (length_more h e) (omega arith);
        }

    kept_at : (t : State) → Retires world k.reached m.latches.w t → Live (h ++ e ∷ []) t n → m.stopped ≡ None → m.counts.clocks < 4294967295 → Kept (h ++ e ∷ []) n
    kept_at t r live runs spent = record {
      reached = t;
      steps = rw (retirements_more h e, w.retirement) (steps_on world start k.reached t m.latches.w (retirements h) k.steps r);
      registers = live.chain.registers;
      stops = rw w.runs_on tt;
      bytes = bytes_from world t (data_memory.view.byte n.data_memory) n.latches.w live.chain.w live.chain.memory;
      live = subst (λ (z : Option Stop). LiveIf z (h ++ e ∷ []) t n) (sym w.runs_on) live;
      data_size = w.data_size;
      instructions_size = w.same_size;
      instructions_bytes =
          instructions_kept world.instructions_size m.latches.f (decodes world.data_size g m.latches w.reply).flow w.answer (instructions.view.byte m.instructions)
          (instructions.view.byte n.instructions) w.instructions_served
          ∙ k.instructions_bytes;
      data_longest = w.data_longest ∙ k.data_longest;
      instructions_longest = w.instructions_longest ∙ k.instructions_longest;
      paced = paced_more bound first_bound h e k.paced budgeted.0;
      accounted = accounted_next runs spent;
    }

    kept_going : m.stopped ≡ None → m.counts.clocks < 4294967295 → Kept (h ++ e ∷ []) n
    kept_going = kept_at onward.0 onward.1 (live_next onward.0 onward.2)

  -- ---- the clock in which it stops

  kept_halted : (h : List Event) (m : Core P I D) (e : Event) (n : Core P I D) (stop : Stop) (k : Kept h m) → Live h k.reached m → m.latches.w ≡ Faulting stop
      → m.stopped ≡ None → m.counts.clocks < 4294967295 → Halted table instructions data_memory stop m e n → Kept (h ++ e ∷ []) n
  kept_halted h m e n stop k l fault runs spent w =
      let a = k.accounted in
      let here : HoldsW world (Ok k.reached) (Faulting stop) = rw fault at l.chain.w in
      let bytes : BytesAgree world k.reached (Faulting stop) (data_memory.view.byte m.data_memory) = subst (λ z. BytesAgree world k.reached z (data_memory.view.byte m.data_memory)) fault k.bytes in
      let i = il.idle _ _ w.instructions_idle in
      let j = dl.idle _ _ w.data_idle in
      let none : e.retirement ≡ None = ap (λ (e : Event). e.retirement) w.event in
      let stops : e.clock.notes.stop ≡ true = ap (λ (e : Event). e.clock.notes.stop) w.event in
      let count1 : in_flight_count m.latches ≡ occupancy m.latches.d + occupancy m.latches.x + occupancy m.latches.m + 1 = ap (λ z. occupancy m.latches.d + occupancy m.latches.x + occupancy m.latches.m + occupancy z) fault in
      let before : m.counts.fetched ≡ m.counts.retired + m.counts.dropped + in_flight_count m.latches + 0 = rw runs at a.balanced in
      let d = m.counts.ok.0 in
      let f1 = w.counted.fetched_count in
      let r1 = w.counted.retired_count in
      let d1 = w.counted.dropped_count in
      let c1 = w.counted.clock_count in
      let hr = a.retired_count in
      let hc = a.clock_count in
      record {
        reached = k.reached;
        steps = rw (retirements_more h e, none, append-nil (retirements h)) k.steps;
        registers = w.same_registers ∙ k.registers;
        stops = rw w.stops (here.0, step_stops world k.reached stop.cause (sym here.1));
        bytes = rw w.latches (fun_ext j.byte ∙ bytes);
        live = subst (λ (z : Option Stop). LiveIf z (h ++ e ∷ []) k.reached n) (sym w.stops) tt;
        data_size = j.size ∙ k.data_size;
        instructions_size = i.size ∙ k.instructions_size;
        instructions_bytes = fun_ext i.byte ∙ k.instructions_bytes;
        data_longest = j.longest ∙ k.data_longest;
        instructions_longest = i.longest ∙ k.instructions_longest;
        paced = paced_more bound first_bound h e k.paced (λ z. cc);
        accounted = record {
          taught = taught_more table first.predictor m.predictor n.predictor h e a.taught (rw none w.same_predictor);
          balanced = rw (w.latches, w.stops) (omega arith);
          retired_count = rw (retired_more h e, none) (omega arith);
          clock_count = rw (length_more h e) (omega arith);
        };
      }

  -- ---- every clock, from the first

  cycled_by : (h : List Event) (m : Core P I D) (e : Event) (n : Core P I D) (o : Option Stop) → stop_of m.latches.w ≡ o → (k : Kept h m) → Live h k.reached m → m.stopped ≡ None
      → m.counts.clocks < 4294967295 → Worked table instructions data_memory o m e n → Kept (h ++ e ∷ []) n
  cycled_by h m e n None i k l runs spent w = kept_going h m e n k l (flows_if m.latches.w i) (known h m e n k w) runs spent
  cycled_by h m e n (Some stop) i k l runs spent w = kept_halted h m e n stop k l (faulting_if m.latches.w stop i) runs spent w

  pub kept_cycle : (h : List Event) (m : Core P I D) (e : Event) (n : Core P I D) → Kept h m → m.stopped ≡ None → m.counts.clocks < 4294967295 → Cycled table instructions data_memory m e n
      → Kept (h ++ e ∷ []) n
  kept_cycle h m e n k runs spent w =
      cycled_by h m e n (stop_of m.latches.w) refl k (subst (λ (z : Option Stop). LiveIf z h k.reached m) runs k.live) runs spent w

  pub kept_agrees : (h : List Event) (m : Core P I D) → Kept h m → Agreement table instructions data_memory first h m
  kept_agrees h m k = record {
    sequentially = record { reached = k.reached; steps = k.steps; registers = k.registers; stops = k.stops; bytes = k.bytes };
    in_time = record {
      first_soon = soon bound h first_bound k.paced (omega arith);
      next_soon = λ a e b q r. soon_after bound (omega arith) a e b first_bound (subst (λ (z : List Event). Paced bound first_bound z) q k.paced) (retires_productive e r);
    };
    accounted = k.accounted;
  }

  -- a machine that has just been loaded
  pub record Fresh : Type 0 where
    pub latches : first.latches ≡ record { f = first.latches.f; d = Empty; x = Empty; m = Empty; w = Empty }
    pub sized : length first.registers ≡ 32
    pub stopped : first.stopped ≡ None
    pub clocks : first.counts.clocks ≡ 0
    pub fetched : first.counts.fetched ≡ 0
    pub retired : first.counts.retired ≡ 0
    pub dropped : first.counts.dropped ≡ 0

  first_live : Fresh → Live [] start first
  first_live z = record {
    chain = rw z.latches (record { sized = z.sized; registers = refl; w = tt; memory = refl; m = tt; x = tt; d = tt; f = refl });
    lull = rw z.latches tt;
    in_budget =
        rw z.latches (let k = at_first fixed (waits first) (il.patient first.instructions) first.latches.f in omega arith);
  }

  pub kept_first : Fresh → Kept [] first
  kept_first z = record {
    reached = start;
    steps = none;
    registers = refl;
    stops = rw z.stopped tt;
    bytes = rw z.latches refl;
    live = subst (λ (o : Option Stop). LiveIf o [] start first) (sym z.stopped) (first_live z);
    data_size = refl;
    instructions_size = refl;
    instructions_bytes = refl;
    data_longest = refl;
    instructions_longest = refl;
    paced = tt;
    accounted = record {
      taught = refl;
      balanced = rw (z.latches, z.stopped) (let a = z.fetched in let b = z.retired in let c = z.dropped in omega arith);
      retired_count = z.retired;
      clock_count = z.clocks;
    };
  }
