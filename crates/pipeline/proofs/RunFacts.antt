-- What clocks in a row do to the counts of a machine and to what stops it. Assumes nothing.
use Rattle.std.proofs.Common.{◌≡◌, ℕ, zero, suc, ◌+◌, ◌<◌, ◌≤◌, Bool, true, false, ◌==◌, ◌⊎◌, List, [], ◌∷◌, length, Some, None, Option, sym, refl, ◌∙◌, inl, inr, ⊎_elim, true≢false, length-append, arith}
use Rattle.std.proofs.lemmas.Bool.{eqb-true}
use Rattle.std.proofs.lemmas.Bool.Decides.{nat_tests}
use Rattle.std.proofs.lemmas.List.{length-drop}
use Rattle.base.specs.Refusals.{reason}
use Rattle.memory.specs.Meaning.{Meaning}
use Rattle.clocking.specs.Clock.{Worked}
use Rattle.clocking.specs.WriteBack.{stop_of}
use Rattle.clocking.specs.Ports.{TableOf}
use Rattle.clocking.specs.declared.state.ClockRecord.{ClockRecord}
use Rattle.clocking.specs.declared.state.Core.{Core}
use Rattle.clocking.specs.declared.state.Event.{Event}
use Rattle.sequential.specs.declared.record.Retirement.{Retirement}
use Rattle.sequential.specs.declared.record.Stop.{Stop}
use Rattle.pipeline.specs.Calls.{Logs, empty_logs, is_full, with_events, retired_at, retired_entries, clock_entries, is_stopped, refusal_at, FreeClocks, Clocks, start, next, EndedAt, Ended}
use Rattle.pipeline.specs.declared.machine.Machine.{Machine}
use Rattle.pipeline.specs.declared.machine.RetiredAt.{RetiredAt}
use Rattle.pipeline.specs.declared.machine.Run.{Run}
use Rattle.pipeline.proofs.Runs.{says_no}

-- nothing refuses a clock of a machine that is not held, has not stopped and has clocks left
pub unrefused : {P I D : Type 0} (m : Machine P I D) → m.held ≡ false → is_stopped m ≡ false → m.core.counts.clocks < 4294967295 → refusal_at false m ≡ 0
unrefused m h s c =
    let unspent : (m.core.counts.clocks == 4294967295) ≡ false = grind (arith, nat_tests) in
    rw (h, s, unspent) refl

-- a machine that is not held and has clocks left, and whose listener has room, is refused a clock only where it has stopped
pub refused_when_stopped : {P I D : Type 0} (p : Machine P I D) (why : ℕ) (b : Bool) → is_stopped p ≡ b → p.held ≡ false → p.core.counts.clocks < 4294967295 → refusal_at false p ≡ suc why
    → is_stopped p ≡ true
refused_when_stopped p why true s h c e = s
refused_when_stopped p why false s h c e = let none = unrefused p h s c in absurd (omega arith)

module _ {P I D : Type 0} (table : TableOf P) (instructions : Meaning I) (data_memory : Meaning D) where
  -- a clock counts itself
  worked_counts : (o : Option Stop) (m : Core P I D) (e : Event) (n : Core P I D) → Worked table instructions data_memory o m e n → n.counts.clocks ≡ m.counts.clocks + 1
  worked_counts None m e n w = w.counted.clock_count
  worked_counts (Some stop) m e n w = w.counted.clock_count

  module _ (fulls : List Event → Bool) (m : Machine P I D) where
    clocks_count : (k : ℕ) (es : List Event) (n : Machine P I D) → FreeClocks table instructions data_memory fulls m k es n → n.core.counts.clocks ≡ m.core.counts.clocks + k
    clocks_count k es n start = omega arith
    clocks_count k es n (next {k = i} {es = fs} {n = p} e q c f t) =
        let one = worked_counts (stop_of p.core.latches.w) p.core e q.core t.cycled in
        let before = clocks_count i fs p c in omega arith

    pub clocks_held : (k : ℕ) (es : List Event) (n : Machine P I D) → FreeClocks table instructions data_memory fulls m k es n → n.held ≡ m.held
    clocks_held k es n start = refl
    clocks_held k es n (next {k = i} {es = fs} {n = p} e q c f t) = t.same_held ∙ clocks_held i fs p c

    -- no clocks, no change
    pub none_made : (k : ℕ) (es : List Event) (n : Machine P I D) → FreeClocks table instructions data_memory fulls m k es n → k ≡ 0 → n ≡ m
    none_made k es n start z = refl
    none_made k es n (next e q c f t) z = absurd (omega arith)

    module _ (n : ℕ) (r : Run) (es : List Event) (full : Bool) (p : Machine P I D) (made : FreeClocks table instructions data_memory fulls m r.made es p) (ends : EndedAt full p n r.made (reason r.why)) where
      made_within : (why : ℕ) → EndedAt full p n r.made why → r.made ≤ n
      made_within zero e = let all = e.0 in omega arith
      made_within (suc why) e = ⊎_elim (λ y. omega arith) (λ y. omega arith) e.0

      -- how the clocks move on
      pub clocks_on : p.core.counts.clocks ≡ m.core.counts.clocks + r.made
      clocks_on = clocks_count r.made es p made

      pub held_on : p.held ≡ m.held
      held_on = clocks_held r.made es p made

      pub not_past : r.made ≤ n
      not_past = made_within (reason r.why) ends

-- ---- into logs

-- an event adds one clock, and at most one retirement
one_at_most : (clock : ℕ) (o : Option Retirement) → length (retired_at clock o) ≤ 1
one_at_most clock None = omega arith
one_at_most clock (Some r) = omega arith

retired_few : (es : List Event) → length (retired_entries es) ≤ length es
retired_few [] = omega arith
retired_few (e ∷ es) =
    let one = one_at_most e.clock.clock e.retirement in
    let rest = retired_few es in
    let sum = length-append (retired_at e.clock.clock e.retirement) (retired_entries es) in omega arith

clocks_many : (es : List Event) → length (clock_entries es) ≡ length es
clocks_many [] = refl
clocks_many (e ∷ es) = let rest = clocks_many es in omega arith

-- with no slot left in logs of n, n clocks were made at least
all_filled : (n : ℕ) (a : List RetiredAt) (b : List ClockRecord) (es : List Event) → length a ≡ n → length b ≡ n → is_full (with_events (empty_logs a b) es) ≡ true → n ≤ length es
all_filled n a b es la lb full =
    let few = retired_few es in
    let many = clocks_many es in
    let ra = length-drop (length (retired_entries es)) a in
    let rb = length-drop (length (clock_entries es)) b in grind (arith, nat_tests)

-- the machine that is not held, over logs with room for all, ends at the limit or stopped
pub ended_why : {P I D : Type 0} (n : ℕ) (a : List RetiredAt) (b : List ClockRecord) (es : List Event) (p : Machine P I D) (made why : ℕ) → length a ≡ n → length b ≡ n
    → Ended (with_events (empty_logs a b) es) p n made why → p.held ≡ false → length es ≡ made → p.core.counts.clocks ≡ made → n ≤ 4294967295
    → (is_stopped p ≡ true) ⊎ (n ≤ p.core.counts.clocks)
ended_why n a b es p made zero la lb e h k c bound = let all = e.0 in inr (omega arith)
ended_why n a b es p made (suc why) la lb e h k c bound =
    ⊎_elim (λ x. absurd (true≢false (sym x ∙ h)))
    (⊎_elim (λ x. inl x)
    (⊎_elim (λ x. let full = all_filled n a b es la lb x in inr (omega arith))
    (λ x. let spent = eqb-true p.core.counts.clocks 4294967295 x in inr (omega arith))))
    (says_no (is_full (with_events (empty_logs a b) es)) p (λ z. let some = e.1 in omega arith))

module _ {P I D : Type 0} (table : TableOf P) (instructions : Meaning I) (data_memory : Meaning D) where
  pub events_counted : (l : Logs) (m : Machine P I D) (k : ℕ) (es : List Event) (n : Machine P I D) → Clocks table instructions data_memory l m k es n → length es ≡ k
  events_counted l m k es n start = refl
  events_counted l m k es n (next {k = i} {es = fs} {n = p} e q c f t) =
      let before = events_counted l m i fs p c in
      let sum = length-append fs (e ∷ []) in omega arith
