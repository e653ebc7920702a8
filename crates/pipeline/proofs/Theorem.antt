-- The main statement, from what every clock keeps. Assumes nothing.
use Rattle.std.proofs.Common.{◌≡◌, ℕ, ◌+◌, ◌≤◌, Bool, false, List, [], ◌∷◌, ◌++◌, length, is_some, Some, None, Ok, Err, Option, Result, sym, refl, ap, ◌∙◌, append_assoc, append-nil, arith}
use Rattle.std.proofs.lemmas.List.{append_cancel_left}
use Rattle.std.proofs.lemmas.Bool.Decides.{nat_tests}
use Rattle.base.specs.declared.refusal.Refusal.{Refusal}
use Rattle.memory.specs.Meaning.{Meaning, Lawful}
use Rattle.sequential.specs.declared.record.Stop.{Stop}
use Rattle.clocking.specs.Clock.{Worked}
use Rattle.clocking.specs.WriteBack.{stop_of}
use Rattle.clocking.specs.Ports.{TableOf}
use Rattle.clocking.specs.declared.state.Core.{Core}
use Rattle.clocking.specs.declared.state.Event.{Event}
use Rattle.clocking.proofs.Agrees.{Kept, Fresh, kept_first, kept_cycle, kept_agrees}
use Rattle.pipeline.specs.Calls.{Logs, is_full, with_events, retired_entries, clock_entries, refusal_at, Ticked, ClockCall, FreeClocks, start, next, HoldCall, ReleaseCall}
use Rattle.pipeline.specs.Theorem.{Entries, followed_by, entries_of, Added, Calls, none, clock, run, run_heard, hold, release, pause, reading, Agrees}
use Rattle.pipeline.specs.Pauses.{PauseCall}
use Rattle.pipeline.specs.declared.machine.Machine.{Machine}
use Rattle.pipeline.specs.declared.machine.Rejected.{Rejected}
use Rattle.pipeline.specs.declared.token.HoldToken.{HoldToken}
use Rattle.pipeline.proofs.Runs.{retired_after, clocks_after, logged_none, free}

none_if : {T : Type 0} (o : Option T) → is_some o ≡ false → o ≡ None
none_if None e = refl
none_if (Some x) e = cc

-- ---- the clocks are numbered

abbrev NumberedFrom : ℕ → List Event → Type 0
NumberedFrom n [] = Unit {0}
NumberedFrom n (e ∷ es) = (e.clock.clock ≡ n) × NumberedFrom (n + 1) es

numbered_more : (n : ℕ) (h : List Event) (e : Event) → NumberedFrom n h → e.clock.clock ≡ n + length h → NumberedFrom n (h ++ e ∷ [])
numbered_more n [] e k q = (omega arith, tt)
numbered_more n (x ∷ h) e k q = (k.0, numbered_more (n + 1) h e k.1 (omega arith))

numbered_at : (n : ℕ) (a : List Event) (e : Event) (b : List Event) → NumberedFrom n (a ++ e ∷ b) → e.clock.clock ≡ n + length a
numbered_at n [] e b k = let f = k.0 in omega arith
numbered_at n (x ∷ a) e b k = let f = numbered_at (n + 1) a e b k.1 in omega arith

-- ---- the entries of a call are those of its clocks

heard_more : (h : List Event) (put : Entries) (made : List Event) → put ≡ entries_of h → followed_by put (entries_of made) ≡ entries_of (h ++ made)
heard_more h put made w =
    ap (λ x. followed_by x (entries_of made)) w
    ∙ λ i. record { retired = sym (retired_after h made) i; clocks = sym (clocks_after h made) i }

written_more : (h : List Event) (put : Entries) (before after : Logs) (made : List Event) (added : Entries) → put ≡ entries_of h → after ≡ with_events before made → Added before after added
    → followed_by put added ≡ entries_of (h ++ made)
written_more h put before after made added w e a =
    let r : added.retired ≡ retired_entries made =
    append_cancel_left before.retired.records added.retired (retired_entries made) (sym a.retired ∙ ap (λ (l : Logs). l.retired.records) e) in
    let c : added.clocks ≡ clock_entries made =
    append_cancel_left before.clocks.records added.clocks (clock_entries made) (sym a.clocks ∙ ap (λ (l : Logs). l.clocks.records) e) in
    (λ i. followed_by put (record { retired = r i; clocks = c i })) ∙ heard_more h put made w

module _ {P I D : Type 0} (table : TableOf P) (instructions : Meaning I) (data_memory : Meaning D) (il : Lawful instructions) (dl : Lawful data_memory) (first : Machine P I D) where
  record Holds (h : List Event) (m : Core P I D) : Type 0 where
    kept : Kept table instructions data_memory il dl first.core h m
    numbered : NumberedFrom 1 h
    bounded : m.counts.clocks ≤ 4294967295

  clock_number : (o : Option Stop) (m : Core P I D) (e : Event) (n : Core P I D) → Worked table instructions data_memory o m e n → (e.clock.clock ≡ n.counts.clocks) × (n.counts.clocks ≡ m.counts.clocks + 1)
  clock_number None m e n w = (ap (λ (x : Event). x.clock.clock) w.event, w.counted.clock_count)
  clock_number (Some stop) m e n w = (ap (λ (x : Event). x.clock.clock) w.event, w.counted.clock_count)

  by_clock : (h : List Event) (full : Bool) (m : Machine P I D) (e : Event) (n : Machine P I D) → Holds h m.core → refusal_at full m ≡ 0 → Ticked table instructions data_memory m e n → Holds (h ++ e ∷ []) n.core
  by_clock h full m e n k z t =
      let f = free full m z in
      let unspent = f.not_spent in
      let bound = k.bounded in
      let counts = (kept_agrees table instructions data_memory il dl first.core h m.core k.kept).accounted.clock_count in
      let few : m.core.counts.clocks + 1 ≤ 4294967295 = grind (arith, nat_tests) in
      let c = clock_number (stop_of m.core.latches.w) m.core e n.core t.cycled in
      record {
        kept = kept_cycle table instructions data_memory il dl first.core h m.core e n.core k.kept (none_if m.core.stopped f.not_stopped) (omega arith) t.cycled;
        numbered = numbered_more 1 h e k.numbered (omega arith);
        bounded = omega arith;
      }

  by_clocked : (h : List Event) (l j : Logs) (m : Machine P I D) (r : Result (Unit {0}) Refusal) (es : List Event) (n : Machine P I D) → Holds h m.core → ClockCall table instructions data_memory l m r es j n
      → Holds (h ++ es) n.core × (j ≡ with_events l es)
  by_clocked h l j m (Err why) es n k c = (rw (c.1, c.2, append-nil h) k, c.3 ∙ sym (logged_none l) ∙ ap (with_events l) (sym c.1))
  by_clocked h l j m (Ok u) es n k c = (rw c.1.1 (by_clock h (is_full l) m c.1.0 n k c.0 c.1.2), c.2)

  by_clocks : (h : List Event) (full : List Event → Bool) (m : Machine P I D) (j : ℕ) (es : List Event) (n : Machine P I D) → Holds h m.core → FreeClocks table instructions data_memory full m j es n → Holds (h ++ es) n.core
  by_clocks h full m j es n k start = rw (append-nil h) k
  by_clocks h full m j es n k (next {k = i} {es = fs} {n = p} e q c f t) =
      rw (sym (append_assoc h fs (e ∷ []))) (by_clock (h ++ fs) (full fs) p e q (by_clocks h full m i fs p k c) f t)

  by_hold : (h : List Event) (m : Machine P I D) (r : Result HoldToken Refusal) (n : Machine P I D) → Holds h m.core → HoldCall m r n → Holds h n.core
  by_hold h m (Ok token) n k c = rw c.2 k
  by_hold h m (Err why) n k c = rw c.2 k

  by_release : (h : List Event) (m : Machine P I D) (token : HoldToken) (r : Result (Unit {0}) Rejected) (n : Machine P I D) → Holds h m.core → ReleaseCall m token r n → Holds h n.core
  by_release h m token (Ok u) n k c = rw c.2 k
  by_release h m token (Err e) n k c = rw c.3 k

  by_pause : (h : List Event) (m : Machine P I D) (r : Result (Unit {0}) Refusal) (n : Machine P I D) → Holds h m.core → PauseCall m r n → Holds h n.core
  by_pause h m (Ok u) n k c = rw c.1 k
  by_pause h m (Err why) n k c = rw c.2 k

  by_calls : (h : List Event) (put : Entries) (m : Machine P I D) → Holds [] first.core → Calls table instructions data_memory first h put m → Holds h m.core × (put ≡ entries_of h)
  by_calls h put m k none = (k, refl)
  by_calls h put m k (clock {h = g} {put = q} {m = p} before after r es added n cs c a) =
      let b = by_calls g q p k cs in
      let d = by_clocked g before after p r es n b.0 c in
      (d.0, written_more g q before after es added b.1 d.1 a)
  by_calls h put m k (run {h = g} {put = q} {m = p} before after count r es added n cs c a) =
      let b = by_calls g q p k cs in
      (by_clocks g (λ x. is_full (with_events before x)) p r.made es n b.0 c.0, written_more g q before after es added b.1 c.1 a)
  by_calls h put m k (run_heard {h = g} {put = q} {m = p} full count r es n cs c) =
      let b = by_calls g q p k cs in
      (by_clocks g (λ _. false) p r.made es n b.0 c.0, heard_more g q es b.1)
  by_calls h put m k (hold {h = g} {put = q} {m = p} r n cs c) = let b = by_calls g q p k cs in (by_hold g p r n b.0 c, b.1)
  by_calls h put m k (release {h = g} {put = q} {m = p} token r n cs c) = let b = by_calls g q p k cs in (by_release g p token r n b.0 c, b.1)
  by_calls h put m k (pause {h = g} {put = q} {m = p} r n cs c) = let b = by_calls g q p k cs in (by_pause g p r n b.0 c, b.1)
  by_calls h put m k (reading cs) = by_calls h put m k cs

  pub agrees : Fresh table instructions data_memory il dl first.core → Agrees table instructions data_memory first
  agrees z h put m cs =
      let zero = z.clocks in
      let b = by_calls h put m (record { kept = kept_first table instructions data_memory il dl first.core z; numbered = tt; bounded = omega arith }) cs in (
        kept_agrees table instructions data_memory il dl first.core h m.core b.0.kept,
        record {
          entries = b.1;
          numbered = λ a e c q.
              let f = numbered_at 1 a e c (rw q at b.0.numbered) in omega arith;
        },
      )
