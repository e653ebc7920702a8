-- What is in flight, from one clock to the next, latch by latch. Assumes nothing.
use Rattle.std.proofs.Common.{◌≡◌, ℕ, ◌+◌, Bool, true, false, cond, not, ◌&&◌, ◌⊎◌, inl, inr, eqb, List, [], ◌∷◌, ◌++◌, length, Some, None, Ok, Err, Option, Result, sym, refl, ap, ◌∙◌, append_assoc, append-nil, arith, length-append}
use Rattle.std.proofs.lemmas.Bool.{true≢false}
use Rattle.base.specs.declared.bus.Request.{Request}
use Rattle.memory.specs.Meaning.{Reply}
use Rattle.memory.specs.declared.Answer.TheVariants.{Word, Done}
use Rattle.memory.specs.declared.Unserved.TheVariants.{Wait, Outside}
use Rattle.rv32i.specs.Effects.{request, first_source, second_source}
use Rattle.rv32i.specs.declared.cause.Cause.{Cause}
use Rattle.rv32i.specs.declared.effect.Effect.{Effect}
use Rattle.rv32i.specs.declared.instruction.Instruction.{Instruction}
use Rattle.rv32i.specs.declared.register.Register.{Register}
use Rattle.sequential.specs.Sequential.{and_then}
use Rattle.clocking.specs.Counting.{is_wait, occupancy, has_fetched, if_rolled, one_if}
use Rattle.clocking.specs.Laws.{at_w, at_m, at_x, at_d, effect_of}
use Rattle.clocking.specs.Ports.{bus_request}
use Rattle.clocking.specs.Data.{data_request, use_memory, data_stage}
use Rattle.clocking.specs.Execute.{ExecuteOut, into_m, redirect_unless, check_guess, execute_stage}
use Rattle.clocking.specs.Decode.{DecodeOut, source, with_operands, decode_word, decode_stage}
use Rattle.clocking.specs.Fetch.{fetch_request, fetches_on, fetch_stage}
use Rattle.clocking.specs.declared.latch.Fetched.{Fetched}
use Rattle.clocking.specs.declared.latch.Decoded.{Decoded}
use Rattle.clocking.specs.declared.latch.Executed.{Executed}
use Rattle.clocking.specs.declared.latch.Latch.{Latch}
use Rattle.clocking.specs.declared.latch.Latch.TheVariants.{Empty, Faulting, Full}
use Rattle.clocking.specs.declared.stage.Flow.{Flow}
use Rattle.clocking.specs.declared.stage.Flow.TheVariants.{Moves, Stalls, RollsBack}
use Rattle.clocking.proofs.LawsFlow.{Heard, data_flow, execute_flow}

-- what stays before a stage, and what a rollback leaves
abbrev pub staying : Flow → List ℕ → List ℕ
staying Stalls l = l
staying flow l = []

abbrev pub left : Flow → List ℕ → List ℕ
left RollsBack l = []
left flow l = l

memory_line : (e : Executed) (o : Result (Option Request) Cause) (r : Option Reply) → at_w (use_memory e o r).w ++ staying (use_memory e o r).flow (at_m (Full e)) ≡ at_m (Full e)
memory_line e (Ok q) (Some (Ok (Word w))) = refl
memory_line e (Ok q) (Some (Err Wait)) = refl
memory_line e o r = refl

pub data_line : (m : Latch Executed) (o : Result (Option Request) Cause) (r : Option Reply) → at_w (data_stage m o r).w ++ staying (data_stage m o r).flow (at_m m) ≡ at_m m
data_line (Full e) o r = memory_line e o r
data_line m o r = refl

memory_w : (e : Executed) (o : Result (Option Request) Cause) (r : Option Reply) → Heard (bus_request o) r → at_w (use_memory e o r).w ≡ cond (is_wait r) [] (at_m (Full e))
memory_w e (Err c) None h = refl
memory_w e (Err c) (Some r) h = absurd h
memory_w e (Ok None) None h = refl
memory_w e (Ok None) (Some r) h = absurd h
memory_w e (Ok (Some q)) None h = absurd h
memory_w e (Ok (Some q)) (Some (Ok (Word w))) h = refl
memory_w e (Ok (Some q)) (Some (Ok Done)) h = refl
memory_w e (Ok (Some q)) (Some (Err Wait)) h = refl
memory_w e (Ok (Some q)) (Some (Err Outside)) h = refl

-- M goes to W unless it waits
pub goes_to_w : (size : ℕ) (m : Latch Executed) (r : Option Reply) → Heard (bus_request (data_request size m)) r
    → at_w (data_stage m (data_request size m) r).w ≡ cond (is_wait r) [] (at_m m)
goes_to_w size Empty None h = refl
goes_to_w size Empty (Some r) h = absurd h
goes_to_w size (Faulting stop) None h = refl
goes_to_w size (Faulting stop) (Some r) h = absurd h
goes_to_w size (Full e) r h = memory_w e (request size e.access e.result e.b) r h

abbrev Executes : Flow → Latch Executed → Latch Decoded → ExecuteOut → Type 0
Executes flow m x o = at_m o.m ++ staying o.flow (at_x x) ≡ staying flow (at_m m) ++ left flow (at_x x)

redirect_line : (m : Latch Executed) (d : Decoded) (e : Effect) (b : Bool) → Executes Moves m (Full d) (redirect_unless (into_m d e) b)
redirect_line m d e true = refl
redirect_line m d e false = refl

guess_line : (m : Latch Executed) (d : Decoded) (o : Result Effect Cause) → Executes Moves m (Full d) (check_guess d.address d.guess (and_then o (λ e. Ok (into_m d e))))
guess_line m d (Err c) = refl
guess_line m d (Ok e) = redirect_line m d e (eqb e.next d.guess)

pub execute_line : (flow : Flow) (m : Latch Executed) (x : Latch Decoded) → Executes flow m x (execute_stage m x flow)
execute_line RollsBack m x = refl
execute_line Stalls m Empty = refl
execute_line Stalls m (Faulting stop) = refl
execute_line Stalls m (Full d) = refl
execute_line Moves m Empty = refl
execute_line Moves m (Faulting stop) = refl
execute_line Moves m (Full d) = guess_line m d (effect_of d)

redirect_m : (d : Decoded) (e : Effect) (b : Bool) → at_m (redirect_unless (into_m d e) b).m ≡ at_x (Full d)
redirect_m d e true = refl
redirect_m d e false = refl

guess_m : (d : Decoded) (o : Result Effect Cause) → at_m (check_guess d.address d.guess (and_then o (λ e. Ok (into_m d e)))).m ≡ at_x (Full d)
guess_m d (Err c) = refl
guess_m d (Ok e) = redirect_m d e (eqb e.next d.guess)

moves_to_m : (m : Latch Executed) (x : Latch Decoded) → at_m (execute_stage m x Moves).m ≡ at_x x
moves_to_m m Empty = refl
moves_to_m m (Faulting stop) = refl
moves_to_m m (Full d) = guess_m d (effect_of d)

waits_in_m : (m : Latch Executed) (x : Latch Decoded) → at_m (execute_stage m x Stalls).m ≡ at_m m
waits_in_m m Empty = refl
waits_in_m m (Faulting stop) = refl
waits_in_m m (Full d) = refl

-- and X to M, unless M waits or has a cause
pub goes_to_m : (c w : Bool) (m : Latch Executed) (x : Latch Decoded) → c && w ≡ false
    → at_m (execute_stage m x (data_flow c w)).m ≡ cond w (at_m m) (cond c [] (at_x x))
goes_to_m true true m x a = absurd (true≢false a)
goes_to_m true false m x a = refl
goes_to_m false true m x a = waits_in_m m x
goes_to_m false false m x a = moves_to_m m x

abbrev Decodes : Flow → Latch Decoded → Latch Fetched → DecodeOut → Type 0
Decodes flow x d o = at_x o.x ++ staying o.flow (at_d d) ≡ staying flow (at_x x) ++ left flow (at_d d)

operands_line : (x : Latch Decoded) (f : Fetched) (i : Instruction) (a b : Option ℕ) → Decodes Moves x (Full f) (with_operands f i a b)
operands_line x f i (Some a) (Some b) = refl
operands_line x f i (Some a) None = refl
operands_line x f i None b = refl

word_line : (h : Register → Option ℕ) (x : Latch Decoded) (f : Fetched) (o : Result Instruction Cause) → Decodes Moves x (Full f) (decode_word h f o)
word_line h x f (Err c) = refl
word_line h x f (Ok i) = operands_line x f i (source h (first_source i)) (source h (second_source i))

pub decode_line : (h : Register → Option ℕ) (flow : Flow) (x : Latch Decoded) (d : Latch Fetched) → Decodes flow x d (decode_stage h x d flow)
decode_line h RollsBack x d = refl
decode_line h Stalls x Empty = refl
decode_line h Stalls x (Faulting stop) = refl
decode_line h Stalls x (Full f) = refl
decode_line h Moves x Empty = refl
decode_line h Moves x (Faulting stop) = refl
decode_line h Moves x (Full f) = word_line h x f f.issued

-- what is fetched, by whether something is
abbrev pub new_if : ℕ → Bool → List ℕ
new_if f b = cond b (f ∷ []) []

pub new_either : (f : ℕ) (b : Bool) → (new_if f b ≡ []) ⊎ (new_if f b ≡ f ∷ [])
new_either f true = inr refl
new_either f false = inl refl

pub new_length : (f : ℕ) (b : Bool) → one_if b ≡ length (new_if f b)
new_length f true = refl
new_length f false = refl

-- what arrives has the address that was asked for
abbrev pub From : ℕ → Option Fetched → Type 0
From f None = Unit {0}
From f (Some x) = x.address ≡ f

on_line : (f : ℕ) (asked : Result (Option Request) Cause) (x : Option Fetched) → From f x → at_d (fetches_on f asked x).d ≡ new_if f (has_fetched asked x)
on_line f (Err c) x h = refl
on_line f (Ok None) x h = refl
on_line f (Ok (Some q)) None h = refl
on_line f (Ok (Some q)) (Some x) h = ap (λ a. a ∷ []) h

pub fetch_line : (instructions_size f : ℕ) (d : Latch Fetched) (flow : Flow) (x : Option Fetched) (u : Option ℕ) → From f x
    → at_d (fetch_stage f d flow (fetch_request instructions_size f flow) x u).d ≡ staying flow (at_d d) ++ new_if f (has_fetched (fetch_request instructions_size f flow) x)
fetch_line instructions_size f d RollsBack x u h = refl
fetch_line instructions_size f d Stalls x u h = sym (append-nil (at_d d))
fetch_line instructions_size f d Moves x u h = on_line f (fetch_request instructions_size f Moves) x h

-- four stages in a row: what each leaves behind it, and what the next makes of it
pub in_line : (w m x sm sx sd old lx ld new : List ℕ) → w ++ sm ≡ old → m ++ sx ≡ sm ++ lx → x ++ sd ≡ sx ++ ld
    → w ++ (m ++ (x ++ (sd ++ new))) ≡ (old ++ (lx ++ ld)) ++ new
in_line w m x sm sx sd old lx ld new a b c =
    let third : x ++ (sd ++ new) ≡ sx ++ (ld ++ new) = sym (append_assoc x sd new) ∙ ap (λ l. l ++ new) c ∙ append_assoc sx ld new in
    let second : m ++ (sx ++ (ld ++ new)) ≡ sm ++ (lx ++ (ld ++ new)) = sym (append_assoc m sx (ld ++ new)) ∙ ap (λ l. l ++ (ld ++ new)) b ∙ append_assoc sm lx (ld ++ new) in
    let first : w ++ (sm ++ (lx ++ (ld ++ new))) ≡ old ++ (lx ++ (ld ++ new)) = sym (append_assoc w sm (lx ++ (ld ++ new))) ∙ ap (λ l. l ++ (lx ++ (ld ++ new))) a in
    ap (λ l. w ++ (m ++ l)) third ∙ ap (λ l. w ++ l) second ∙ first
    ∙ ap (λ l. old ++ l) (sym (append_assoc lx ld new)) ∙ sym (append_assoc old (lx ++ ld) new)

-- c: M has a cause; w: it has to wait; h: X is held; g: its guess is wrong
abbrev gone : Bool → Bool → Bool → List ℕ → List ℕ → List ℕ
gone c w g x d = cond c (x ++ d) (cond (not c && not w && g) d [])

abbrev kept : Bool → Bool → Bool → Bool → List ℕ → List ℕ → List ℕ
kept c w h g x d = left (data_flow c w) x ++ left (execute_flow (data_flow c w) h g) d

-- a rollback removes what it does not leave
pub splits : (c w h g : Bool) (x d : List ℕ) → x ++ d ≡ kept c w h g x d ++ gone c w g x d
splits true w h g x d = refl
splits false true true g x d = sym (append-nil (x ++ d))
splits false true false g x d = sym (append-nil (x ++ d))
splits false false h true x d = ap (λ l. l ++ d) (sym (append-nil x))
splits false false h false x d = sym (append-nil (x ++ d))

pub gone_length : (c w h g : Bool) (x d : List ℕ) (n k : ℕ) → length x ≡ n → length d ≡ k
    → if_rolled (data_flow c w) n + if_rolled (execute_flow (data_flow c w) h g) k ≡ length (gone c w g x d)
gone_length true w h g x d n k a b = rw (length-append x d, a, b)
gone_length false true true g x d n k a b = refl
gone_length false true false g x d n k a b = refl
gone_length false false h true x d n k a b = omega arith
gone_length false false h false x d n k a b = refl

pub d_length : (d : Latch Fetched) → length (at_d d) ≡ occupancy d
d_length Empty = refl
d_length (Faulting stop) = refl
d_length (Full f) = refl

pub x_length : (x : Latch Decoded) → length (at_x x) ≡ occupancy x
x_length Empty = refl
x_length (Faulting stop) = refl
x_length (Full d) = refl
