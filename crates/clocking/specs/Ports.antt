-- What a clock asks of the memories and of the predictor. Assumes nothing.
use Rattle.std.specs.Prelude.{◌≡◌, ℕ, Bool, if◌then◌else◌, List, [], ◌∷◌, Some, None, Ok, Err, Option, Result}
use Rattle.base.specs.declared.branch.Outcome.{Outcome}
use Rattle.base.specs.declared.bus.Request.{Request}
use Rattle.memory.specs.Meaning.{Meaning, Reply}
use Rattle.memory.specs.declared.Answer.TheVariants.{Word}
use Rattle.rv32i.specs.Effects.{following}
use Rattle.rv32i_words.specs.Issues.{issued}
use Rattle.rv32i.specs.Targets.{target_of}
use Rattle.rv32i.specs.declared.cause.Cause.{Cause}
use Rattle.rv32i.specs.declared.instruction.Instruction.{Instruction}
use Rattle.rv32i.specs.declared.target.Target.{Target}
use Rattle.rv32i.specs.declared.target.Target.TheVariants.{Next, Branch, Jump}
use Rattle.clocking.specs.declared.latch.Fetched.{Fetched}

-- the tables of a type of predictors: the guess for every branch, by address and target, after
-- every list of outcomes still to come
abbrev pub TableOf : Type 0 → Type 0
TableOf P = P → List Outcome → ℕ → ℕ → Bool

-- a cause asks nothing
abbrev pub bus_request : Result (Option Request) Cause → Option Request
bus_request (Err c) = None
bus_request (Ok q) = q

-- one call a clock: a request and its reply, or idle
abbrev pub Asked : {M : Type 0} → Meaning M → M → Option Request → Option Reply → M → Type 0
Asked means m None None n = means.idles m n
Asked means m (Some q) (Some r) n = means.serves m q r n
Asked means m q r n = ⊥

-- a branch that retires teaches the predictor its outcome
abbrev pub Taught : {P : Type 0} → TableOf P → P → Option Outcome → P → Type 0
Taught table p None q = q ≡ p
Taught table p (Some o) q = table q ≡ (λ later. table p (o ∷ later))

-- where fetching goes on after an instruction at f
abbrev pub guess_by : {P : Type 0} → TableOf P → P → ℕ → Target → ℕ
guess_by table p f Next = following f
guess_by table p f (Branch target) = if table p [] f target then target else following f
guess_by table p f (Jump target) = target

-- a word that issues no instruction leads nowhere else
abbrev pub guess_after : {P : Type 0} → TableOf P → P → ℕ → Result Instruction Cause → ℕ
guess_after table p f (Err c) = following f
guess_after table p f (Ok i) = guess_by table p f (target_of i f)

-- what arrived from the instruction memory
abbrev pub arrival : {P : Type 0} → TableOf P → P → ℕ → Option Reply → Option Fetched
arrival table p f (Some (Ok (Word w))) = Some (record {
  address = f;
  word = w;
  issued = issued w;
  guess = guess_after table p f (issued w);
})
arrival table p f r = None
