-- A number that every clock without a retirement or a stop lowers. Assumes nothing.
use Rattle.std.proofs.Common.{◌≡◌, ℕ, ◌+◌, ◌%◌, ◌<◌, ◌≤◌, Bool, true, false, cond, eqb, ltb, ◌⊎◌, Some, None, Ok, Err, Option, Result, refl, inl, inr, arith}
use Rattle.base.specs.declared.bus.Request.{Request}
use Rattle.base.specs.declared.bus.Request.TheVariants.{Read}
use Rattle.memory.specs.Meaning.{Reply}
use Rattle.memory.specs.declared.Answer.TheVariants.{Word}
use Rattle.memory.specs.declared.Unserved.TheVariants.{Wait, Outside}
use Rattle.rv32i.specs.declared.cause.Cause.{Cause}
use Rattle.rv32i.specs.declared.register.Register.{Register}
use Rattle.clocking.specs.declared.latch.Fetched.{Fetched}
use Rattle.clocking.specs.declared.latch.Decoded.{Decoded}
use Rattle.clocking.specs.declared.latch.Executed.{Executed}
use Rattle.clocking.specs.declared.latch.Completed.{Completed}
use Rattle.clocking.specs.declared.latch.Latch.{Latch}
use Rattle.clocking.specs.declared.latch.Latch.TheVariants.{Empty, Faulting, Full}
use Rattle.clocking.specs.declared.stage.Flow.TheVariants.{Moves}
use Rattle.std.proofs.lemmas.Bool.{both_ways, and_from}
use Rattle.rv32i.specs.Effects.{request, loaded, first_source, second_source}
use Rattle.rv32i.specs.declared.instruction.Instruction.{Instruction}
use Rattle.rv32i.specs.declared.registers.Registers.{Registers}
use Rattle.clocking.specs.Clock.{plans, latches_after}
use Rattle.clocking.specs.Ports.{TableOf, arrival, bus_request}
use Rattle.clocking.specs.Data.{DataOut, data_request, complete, use_memory}
use Rattle.clocking.specs.Execute.{ExecuteOut, execute, redirect_unless, check_guess, execute_stage, x_result}
use Rattle.clocking.specs.Decode.{DecodeOut, gives, or_else, value_of, values_in_flight, source, with_operands, decode_word, decode_stage}
use Rattle.clocking.specs.Fetch.{FetchOut, fetch_request, fetches_on, fetch_stage}
use Rattle.clocking.specs.declared.latch.Latches.{Latches}
use Rattle.clocking.proofs.Link.{waits_for, Worn}
use Rattle.clocking.proofs.Chain.{Flows}
use Rattle.clocking.proofs.Fetch.{asked_if}
use Rattle.clocking.proofs.Served.{Bytes}

-- of the two memories what no clock changes: their sizes, and the longest waits that they state
pub record Memories : Type 0 where
  pub data_size : ℕ
  pub instructions_size : ℕ
  pub data_longest : ℕ
  pub instructions_longest : ℕ

-- the waits that each request has left, to the data and to the instruction memory
pub record Waits : Type 0 where
  pub of_data : Request → ℕ
  pub of_instructions : Request → ℕ

-- those left for fetching at f, none where it cannot be read
abbrev pub fetch_waits : Memories → Waits → ℕ → ℕ
fetch_waits fixed left f = waits_for left.of_instructions (bus_request (fetch_request fixed.instructions_size f Moves))

module _ (fixed : Memories) (left : Waits) where
  abbrev count_by : Latch Completed → Latch Executed → Latch Decoded → Latch Fetched → ℕ → ℕ
  count_by Empty (Full e) x d f = 2 + waits_for left.of_data (bus_request (request fixed.data_size e.access e.result e.b))
  count_by Empty (Faulting stop) x d f = 2
  count_by Empty Empty Empty Empty f = 5 + fixed.data_longest + fetch_waits fixed left f
  count_by Empty Empty Empty d f = 4 + fixed.data_longest
  count_by Empty Empty x d f = 3 + fixed.data_longest
  count_by w m x d f = 1

  abbrev pub count : Latches → ℕ
  count k = count_by k.w k.m k.x k.d k.f

  abbrev LulledBy : Latch Completed → Latch Executed → Latch Decoded → Latch Fetched → ℕ → Type 0
  LulledBy (Full c) Empty Empty Empty f = fetch_waits fixed left f < fixed.instructions_longest
  LulledBy w m x d f = Unit {0}

  -- an empty pipeline behind W waits for its next instruction already
  abbrev pub Lulled : Latches → Type 0
  Lulled k = LulledBy k.w k.m k.x k.d k.f

-- a clock, by what it makes of the registers and by what the predictor and the memories answer
pub record Clock {P : Type 0} (table : TableOf P) (fixed : Memories) : Type 0 where
  pub registers : Registers
  pub predictor : P
  pub reply : Option Reply
  pub answer : Option Reply
  pub instructions_before : ℕ → ℕ
  pub instructions_after : ℕ → ℕ
  pub before : Waits
  pub after : Waits
  pub data_patient : (q : Request) → before.of_data q ≤ fixed.data_longest
  pub data_still_patient : (q : Request) → after.of_data q ≤ fixed.data_longest
  pub instructions_patient : (q : Request) → before.of_instructions q ≤ fixed.instructions_longest

-- ---- where X and M are empty there is no hazard

abbrev Ready : Option ℕ → Type 0
Ready (Some v) = Unit {0}
Ready None = ⊥

abbrev Filled : {T : Type 0} → Latch T → Type 0
Filled Empty = ⊥
Filled l = Unit {0}

ready_by : (b : Bool) (v w : ℕ) → Ready (or_else (cond b (Some (Some v)) None) (Some w))
ready_by true v w = tt
ready_by b v w = tt

ready : (answer w : Latch Completed) (g : Registers) (r : Register) → Ready (values_in_flight Empty Empty answer w g r)
ready answer (Full c) g r = ready_by (gives c.rd r) c.value (value_of g r)
ready answer w g r = tt

ready_source : (h : Register → Option ℕ) → ((r : Register) → Ready (h r)) → (o : Option Register) → Ready (source h o)
ready_source h k None = tt
ready_source h k (Some r) = k r

fills_by : (f : Fetched) (i : Instruction) (a b : Option ℕ) → Ready a → Ready b → Filled (with_operands f i a b).x
fills_by f i (Some a) (Some b) h k = tt
fills_by f i (Some a) None h k = k
fills_by f i None b h k = absurd h

fills : (h : Register → Option ℕ) → ((r : Register) → Ready (h r)) → (f : Fetched) (o : Result Instruction Cause) → Filled (decode_word h f o).x
fills h k f (Err c) = tt
fills h k f (Ok i) = fills_by f i (source h (first_source i)) (source h (second_source i)) (ready_source h k (first_source i)) (ready_source h k (second_source i))

-- what a clock does to the countdown, by W: it falls, or is bounded anew
abbrev pub Down : ℕ → Latch Completed → ℕ → ℕ → Type 0
Down bound Empty before after = after < before
Down bound (Faulting stop) before after = ⊥
Down bound (Full c) before after = after ≤ bound

-- ---- fetching

module _ {P : Type 0} (table : TableOf P) (fixed : Memories) (clock : Clock table fixed) where
  abbrev size : ℕ
  size = fixed.data_size

  abbrev instructions_size : ℕ
  instructions_size = fixed.instructions_size

  abbrev most : ℕ
  most = fixed.data_longest

  abbrev least : ℕ
  least = fixed.instructions_longest

  abbrev waits : Option Request → ℕ
  waits = waits_for clock.before.of_data

  abbrev fetching_waits : ℕ → ℕ
  fetching_waits = fetch_waits fixed clock.before

  abbrev fetching_waits_then : ℕ → ℕ
  fetching_waits_then = fetch_waits fixed clock.after

  -- what the instruction memory did
  abbrev Serves : Option Request → Option Reply → Type 0
  Serves q a = Bytes instructions_size q a clock.instructions_before clock.instructions_after × Worn a q clock.before.of_instructions clock.after.of_instructions

  abbrev after : Latch Completed → Latch Executed → Latch Decoded → Latch Fetched → ℕ → ℕ
  after = count_by fixed clock.after

  abbrev LulledAfter : Latch Completed → Latch Executed → Latch Decoded → Latch Fetched → ℕ → Type 0
  LulledAfter = LulledBy fixed clock.after

  asks_read : (left : Waits) (f : ℕ) → eqb (f % 4) 0 ≡ true → ltb f instructions_size ≡ true → fetch_waits fixed left f ≡ left.of_instructions (Read f)
  asks_read left f e i = rw (e, i)

  waits_most : (q : Option Request) → waits_for clock.after.of_data q ≤ most
  waits_most None = omega arith
  waits_most (Some q) = clock.data_still_patient q

  filled_x : (x : Latch Decoded) (d : Latch Fetched) (f : ℕ) → Filled x → after Empty Empty x d f ≡ 3 + most
  filled_x Empty d f h = absurd h
  filled_x x d f h = refl

  -- an instruction in M goes to W, or waits
  by_m : (e : Executed) (x x' : Latch Decoded) (d' : Latch Fetched) (f' : ℕ) (o : Result (Option Request) Cause) (r : Option Reply) → Worn r (bus_request (request size e.access e.result e.b)) clock.before.of_data clock.after.of_data
      → after (use_memory e o r).w (execute_stage (Full e) x (use_memory e o r).flow).m x' d' f' < 2 + waits (bus_request (request size e.access e.result e.b))
  by_m e Empty x' d' f' (Ok q) (Some (Err Wait)) h = omega arith
  by_m e x x' d' f' (Ok q) (Some (Err Wait)) h = omega arith
  by_m e x x' d' f' (Ok q) (Some (Ok (Word w))) h = omega arith
  by_m e x x' d' f' o r h = omega arith

  -- one in X goes to M
  by_turn : (e : Executed) (b : Bool) (x' : Latch Decoded) (d' : Latch Fetched) (f' : ℕ) → after Empty (redirect_unless e b).m x' d' f' < 3 + most
  by_turn e true x' d' f' = let l = waits_most (bus_request (request size e.access e.result e.b)) in omega arith
  by_turn e false x' d' f' = let l = waits_most (bus_request (request size e.access e.result e.b)) in omega arith

  by_x : (a g : ℕ) (o : Result Executed Cause) (x' : Latch Decoded) (d' : Latch Fetched) (f' : ℕ) → after Empty (check_guess a g o).m x' d' f' < 3 + most
  by_x a g (Err c) x' d' f' = omega arith
  by_x a g (Ok e) x' d' f' = by_turn e (eqb e.next g) x' d' f'

  -- one in D goes to X
  by_d : (x' : Latch Decoded) (d' : Latch Fetched) (f' : ℕ) → Filled x' → after Empty Empty x' d' f' < 4 + most
  by_d x' d' f' h = rw (filled_x x' d' f' h) (omega arith)

  filled_d : (d : Latch Fetched) (f : ℕ) → Filled d → after Empty Empty Empty d f ≡ 4 + most
  filled_d Empty f h = absurd h
  filled_d d f h = refl

  waits_few : (q : Option Request) → waits_for clock.before.of_instructions q ≤ least
  waits_few None = omega arith
  waits_few (Some q) = clock.instructions_patient q

  module _ (f : ℕ) where
    -- a fetch puts an instruction into D, or has to wait, which lowers what is left
    abbrev Arrived : FetchOut → Type 0
    Arrived o = Filled o.d ⊎ ((o.d ≡ Empty) × (o.f ≡ f) × (fetching_waits_then f < fetching_waits f))

    asked : (a : Option Reply) → eqb (f % 4) 0 ≡ true → ltb f instructions_size ≡ true → Serves (Some (Read f)) a → Arrived (fetches_on f (Ok (Some (Read f))) (arrival table clock.predictor f a))
    asked (Some (Ok (Word x))) e i h = inl tt
    asked (Some (Err Wait)) e i h = inr (refl, refl, rw (asks_read clock.before f e i, asks_read clock.after f e i) h.1)
    asked (Some (Err Outside)) e i h = absurd (both_ways _ h.0.0 (and_from _ _ e i))
    asked a e i h = absurd h.0

    arrived_by : (a : Option Reply) (b d : Bool) → eqb (f % 4) 0 ≡ b → ltb f instructions_size ≡ d → Serves (bus_request (asked_if f b d)) a
        → Arrived (fetches_on f (asked_if f b d) (arrival table clock.predictor f a))
    arrived_by a true true e i h = asked a e i h
    arrived_by a b d e i h = inl tt

    arrived : (a : Option Reply) → Serves (bus_request (fetch_request instructions_size f Moves)) a → Arrived (fetches_on f (fetch_request instructions_size f Moves) (arrival table clock.predictor f a))
    arrived a h = arrived_by a (eqb (f % 4) 0) (ltb f instructions_size) refl refl h

    falls_by : (o : FetchOut) → Arrived o → after Empty Empty Empty o.d o.f < 5 + most + fetching_waits f
    falls_by o (inl h) = rw (filled_d o.d o.f h) (omega arith)
    falls_by o (inr h) = rw (h.0, h.1) (let l = h.2 in omega arith)

    -- where an instruction retires into an empty pipeline, the fetch had waited before
    bounds_by : (o : FetchOut) → Arrived o → fetching_waits f < least → after Empty Empty Empty o.d o.f ≤ 3 + most + least
    bounds_by o (inl h) l = rw (filled_d o.d o.f h) (omega arith)
    bounds_by o (inr h) l = rw (h.0, h.1) (let k = h.2 in omega arith)

    lulled_by : (o : FetchOut) (c : Completed) → Arrived o → LulledAfter (Full c) Empty Empty o.d o.f
    lulled_by o c (inl h) = lulled_full o.d o.f c h
      where
        lulled_full : (d : Latch Fetched) (f : ℕ) (c : Completed) → Filled d → LulledAfter (Full c) Empty Empty d f
        lulled_full Empty f c h = absurd h
        lulled_full d f c h = tt
    lulled_by o c (inr h) = rw (h.0, h.1) (let k = h.2 in let m = waits_few (bus_request (fetch_request instructions_size f Moves)) in omega arith)

  -- ---- one clock

  abbrev next : Latches → Latches
  next k = latches_after size instructions_size clock.registers k clock.reply (arrival table clock.predictor k.f clock.answer)

  -- the countdown after the clock
  abbrev ends_at : Latches → ℕ
  ends_at k = count fixed clock.after (next k)

  abbrev pub DataAsked : Latches → Type 0
  DataAsked k = Worn clock.reply (bus_request (data_request size k.m)) clock.before.of_data clock.after.of_data

  abbrev pub InstructionsAsked : Latches → Type 0
  InstructionsAsked k = Serves (bus_request (plans size instructions_size clock.registers k clock.reply)) clock.answer

  abbrev latches : ℕ → Latch Fetched → Latch Decoded → Latch Executed → Latch Completed → Latches
  latches f d x m w = record { f = f; d = d; x = x; m = m; w = w }

  -- a clock in which nothing retires
  falls : (f : ℕ) (d : Latch Fetched) (x : Latch Decoded) (m : Latch Executed) → DataAsked (latches f d x m Empty) → InstructionsAsked (latches f d x m Empty)
      → ends_at (latches f d x m Empty) < count fixed clock.before (latches f d x m Empty)
  falls f d x (Full e) h w = by_m e x _ _ _ (request size e.access e.result e.b) clock.reply h
  falls f d (Full y) Empty h w = by_x y.address y.guess (execute y) _ _ _
  falls f (Full y) Empty Empty h w = by_d _ _ _ (fills _ (ready Empty Empty clock.registers) y y.issued)
  falls f Empty Empty Empty h w = falls_by f _ (arrived f clock.answer w)
  falls f d x m h w = omega arith

  waits_before : (q : Option Request) → waits q ≤ most
  waits_before None = omega arith
  waits_before (Some q) = clock.data_patient q

  -- a clock in which one retires
  bounds : (f : ℕ) (d : Latch Fetched) (x : Latch Decoded) (m : Latch Executed) (c : Completed) → DataAsked (latches f d x m (Full c))
      → InstructionsAsked (latches f d x m (Full c)) → Lulled fixed clock.before (latches f d x m (Full c)) → ends_at (latches f d x m (Full c)) ≤ 3 + most + least
  bounds f d x (Full e) c h w l =
      let k : ends_at (latches f d x (Full e) (Full c)) < 2 + waits (bus_request (request size e.access e.result e.b)) =
      by_m e x _ _ _ (request size e.access e.result e.b) clock.reply h in
      let j = waits_before (bus_request (request size e.access e.result e.b)) in
      omega arith
  bounds f d (Full y) Empty c h w l =
      let k : ends_at (latches f d (Full y) Empty (Full c)) < 3 + most = by_x y.address y.guess (execute y) _ _ _ in
      omega arith
  bounds f (Full y) Empty Empty c h w l =
      let k : ends_at (latches f (Full y) Empty Empty (Full c)) < 4 + most = by_d _ _ _ (fills _ (ready Empty (Full c) clock.registers) y y.issued) in
      omega arith
  bounds f Empty Empty Empty c h w l = bounds_by f _ (arrived f clock.answer w) l
  bounds f d x m c h w l = omega arith

  down_by : (f : ℕ) (d : Latch Fetched) (x : Latch Decoded) (m : Latch Executed) (w : Latch Completed) → Flows w → DataAsked (latches f d x m w)
      → InstructionsAsked (latches f d x m w) → Lulled fixed clock.before (latches f d x m w)
      → Down (least + most + 3) w (count fixed clock.before (latches f d x m w)) (ends_at (latches f d x m w))
  down_by f d x m Empty k h w l = falls f d x m h w
  down_by f d x m (Faulting stop) k h w l = absurd k
  down_by f d x m (Full c) k h w l = let z = bounds f d x m c h w l in omega arith

  pub down : (k : Latches) → Flows k.w → DataAsked k → InstructionsAsked k → Lulled fixed clock.before k
      → Down (least + most + 3) k.w (count fixed clock.before k) (ends_at k)
  down k = down_by k.f k.d k.x k.m k.w

  -- ---- what a clock leaves of a lull, by what the data stage gave

  abbrev executes_by : Latches → DataOut → ExecuteOut
  executes_by k o = execute_stage k.m k.x o.flow

  abbrev decodes_by : Latches → DataOut → DecodeOut
  decodes_by k o = decode_stage (values_in_flight (x_result o.flow (executes_by k o).m) k.m o.w k.w clock.registers) k.x k.d (executes_by k o).flow

  abbrev fetches_by : Latches → DataOut → FetchOut
  fetches_by k o = fetch_stage k.f k.d (decodes_by k o).flow (fetch_request instructions_size k.f (decodes_by k o).flow) (arrival table clock.predictor k.f clock.answer) (executes_by k o).redirect

  abbrev Lulls : Latches → DataOut → Type 0
  Lulls k o = LulledAfter o.w (executes_by k o).m (decodes_by k o).x (fetches_by k o).d (fetches_by k o).f

  abbrev InstructionsBy : Latches → DataOut → Type 0
  InstructionsBy k o = Serves (bus_request (fetch_request instructions_size k.f (decodes_by k o).flow)) clock.answer

  lull_m : (c : Completed) (m : Latch Executed) (x : Latch Decoded) (d : Latch Fetched) (f : ℕ) → Filled m → LulledAfter (Full c) m x d f
  lull_m c Empty x d f h = absurd h
  lull_m c m x d f h = tt

  fills_turn : (e : Executed) (b : Bool) → Filled (redirect_unless e b).m
  fills_turn e true = tt
  fills_turn e b = tt

  fills_m : (a n : ℕ) (o : Result Executed Cause) → Filled (check_guess a n o).m
  fills_m a n (Err c) = tt
  fills_m a n (Ok e) = fills_turn e (eqb e.next n)

  -- a hazard keeps D full
  abbrev KeptFull : Completed → ℕ → Fetched → DecodeOut → Type 0
  KeptFull c f y o = LulledAfter (Full c) Empty o.x
      (fetch_stage f (Full y) o.flow (fetch_request instructions_size f o.flow) (arrival table clock.predictor f clock.answer) None).d
      (fetch_stage f (Full y) o.flow (fetch_request instructions_size f o.flow) (arrival table clock.predictor f clock.answer) None).f

  kept_with : (c : Completed) (f : ℕ) (y : Fetched) (i : Instruction) (a b : Option ℕ) → KeptFull c f y (with_operands y i a b)
  kept_with c f y i (Some a) (Some b) = tt
  kept_with c f y i a b = tt

  kept_word : (h : Register → Option ℕ) (c : Completed) (f : ℕ) (y : Fetched) (o : Result Instruction Cause) → KeptFull c f y (decode_word h y o)
  kept_word h c f y (Err z) = tt
  kept_word h c f y (Ok i) = kept_with c f y i (source h (first_source i)) (source h (second_source i))

  -- M goes to W
  lull_by : (f : ℕ) (d : Latch Fetched) (x : Latch Decoded) (e : Executed) (w : Latch Completed) (c : Completed)
      → InstructionsBy (latches f d x (Full e) w) (record { w = Full c; flow = Moves }) → Lulls (latches f d x (Full e) w) (record { w = Full c; flow = Moves })
  lull_by f d (Full y) e w c h = lull_m c (check_guess y.address y.guess (execute y)).m _ _ _ (fills_m y.address y.guess (execute y))
  lull_by f (Full y) Empty e w c h = kept_word _ c f y y.issued
  lull_by f Empty Empty e w c h = lulled_by f _ c (arrived f clock.answer h)
  lull_by f d x e w c h = tt

  lull_memory : (f : ℕ) (d : Latch Fetched) (x : Latch Decoded) (e : Executed) (w : Latch Completed) (o : Result (Option Request) Cause) (r : Option Reply)
      → InstructionsBy (latches f d x (Full e) w) (use_memory e o r) → Lulls (latches f d x (Full e) w) (use_memory e o r)
  lull_memory f d x e w (Err c) r h = tt
  lull_memory f d x e w (Ok n) (Some (Err Wait)) h = tt
  lull_memory f d x e w (Ok n) (Some (Ok (Word v))) h = lull_by f d x e w (complete e (loaded e.access e.result v)) h
  lull_memory f d x e w (Ok n) r h = lull_by f d x e w (complete e e.result) h

  lulls_by : (f : ℕ) (d : Latch Fetched) (x : Latch Decoded) (m : Latch Executed) (w : Latch Completed) → InstructionsAsked (latches f d x m w) → Lulled fixed clock.after (next (latches f d x m w))
  lulls_by f d x (Full e) w h = lull_memory f d x e w (request size e.access e.result e.b) clock.reply h
  lulls_by f d x m w h = tt

  pub lulls : (k : Latches) → InstructionsAsked k → Lulled fixed clock.after (next k)
  lulls k = lulls_by k.f k.d k.x k.m k.w

-- ---- what it can be at most, and that it is never 0

pub least_one : (fixed : Memories) (left : Waits) (k : Latches) → 1 ≤ count fixed left k
least_one fixed left k = least_one_by k.w k.m k.x k.d k.f
  where
    least_one_by : (w : Latch Completed) (m : Latch Executed) (x : Latch Decoded) (d : Latch Fetched) (f : ℕ) → 1 ≤ count_by fixed left w m x d f
    least_one_by Empty (Full e) x d f = omega arith
    least_one_by Empty Empty Empty Empty f = omega arith
    least_one_by w m x d f = omega arith

-- of a machine that has just been loaded
pub at_first : (fixed : Memories) (left : Waits) → ((q : Request) → left.of_instructions q ≤ fixed.instructions_longest) → (f : ℕ)
    → count fixed left (record { f = f; d = Empty; x = Empty; m = Empty; w = Empty }) ≤ 5 + fixed.data_longest + fixed.instructions_longest
at_first fixed left patient f = let k = waits_few (bus_request (fetch_request fixed.instructions_size f Moves)) in omega arith
  where
    waits_few : (q : Option Request) → waits_for left.of_instructions q ≤ fixed.instructions_longest
    waits_few None = omega arith
    waits_few (Some q) = patient q
