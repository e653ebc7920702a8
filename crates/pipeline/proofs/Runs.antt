-- Clocks in a row, between the logs before and after. Assumes nothing.
use Rattle.std.proofs.Common.{◌≡◌, ℕ, zero, suc, ◌+◌, ◌<◌, Bool, true, false, if◌then◌else◌, ◌==◌, ◌⊎◌, List, [], ◌∷◌, ◌++◌, length, drop, Some, None, sym, refl, ap, ◌∙◌, inl, inr, ⊎_elim, true≢false, append_assoc, append-nil, length-append, arith}
use Rattle.std.proofs.lemmas.List.{drop-drop}
use Rattle.base.specs.Refusals.{number}
use Rattle.base.specs.declared.refusal.Refusal.{Refusal}
use Rattle.base.specs.declared.refusal.Refusal.TheVariants.{FlatSize}
use Rattle.memory.specs.Meaning.{Meaning}
use Rattle.clocking.specs.Ports.{TableOf}
use Rattle.clocking.specs.declared.state.Event.{Event}
use Rattle.clock.specs.Cycle.{CycleHeard}
use Rattle.pipeline.specs.Calls.{Slots, Logs, with_records, is_full, with_events, retired_at, retired_entries, clock_entries, is_stopped, refusal_at, Ticked, FreeClocks, start, next, Clocks, Short, EndedAt, RunInto, RunHeardCall, Heard, silence, one_more, HeardRun}
use Rattle.pipeline.specs.Logged.{logs, SameSlots, Adds}
use Rattle.pipeline.specs.declared.journal.Journal.{Journal}
use Rattle.pipeline.specs.declared.machine.Machine.{Machine}
use Rattle.pipeline.specs.declared.machine.Run.{Run}

-- ---- what is added to logs, one list after another

with_none : {R : Type 0} (s : Slots R) → with_records s [] ≡ s
with_none s = λ i. record { records = append-nil s.records i; spare = s.spare }

with_more : {R : Type 0} (s : Slots R) (xs ys : List R) → with_records (with_records s xs) ys ≡ with_records s (xs ++ ys)
with_more s xs ys =
    let left = drop-drop (length ys) (length xs) s.spare ∙ ap (λ n. drop n s.spare) (sym (length-append xs ys)) in
    λ i. record { records = append_assoc s.records xs ys i; spare = left i }

pub retired_after : (es fs : List Event) → retired_entries (es ++ fs) ≡ retired_entries es ++ retired_entries fs
retired_after [] fs = refl
retired_after (e ∷ es) fs =
    ap (λ l. retired_at e.clock.clock e.retirement ++ l) (retired_after es fs)
    ∙ sym (append_assoc (retired_at e.clock.clock e.retirement) (retired_entries es) (retired_entries fs))

pub clocks_after : (es fs : List Event) → clock_entries (es ++ fs) ≡ clock_entries es ++ clock_entries fs
clocks_after [] fs = refl
clocks_after (e ∷ es) fs = ap (λ l. e.clock ∷ l) (clocks_after es fs)

pub logged_after : (l : Logs) (es fs : List Event) → with_events (with_events l es) fs ≡ with_events l (es ++ fs)
logged_after l es fs =
    let r = with_more l.retired (retired_entries es) (retired_entries fs) ∙ ap (with_records l.retired) (sym (retired_after es fs)) in
    let c = with_more l.clocks (clock_entries es) (clock_entries fs) ∙ ap (with_records l.clocks) (sym (clocks_after es fs)) in
    λ i. record { retired = r i; clocks = c i }

pub logged_none : (l : Logs) → with_events l [] ≡ l
logged_none l = λ i. record { retired = with_none l.retired i; clocks = with_none l.clocks i }

-- ---- which test says no

abbrev number_of : Bool → Bool → Bool → Bool → ℕ
number_of a b c d = if a then 4 else (if b then 5 else (if c then 6 else (if d then 7 else 0)))

none_says_no : (a b c d : Bool) → number_of a b c d ≡ 0 → (a ≡ false) × (b ≡ false) × (c ≡ false) × (d ≡ false)
none_says_no true b c d e = absurd (omega arith)
none_says_no false true c d e = absurd (omega arith)
none_says_no false false true d e = absurd (omega arith)
none_says_no false false false true e = absurd (omega arith)
none_says_no false false false false e = (refl, refl, refl, refl)

one_says_no : (a b c d : Bool) → (number_of a b c d ≡ 0 → ⊥) → (a ≡ true) ⊎ ((b ≡ true) ⊎ ((c ≡ true) ⊎ (d ≡ true)))
one_says_no true b c d e = inl refl
one_says_no false true c d e = inr (inl refl)
one_says_no false false true d e = inr (inr (inl refl))
one_says_no false false false true e = inr (inr (inr refl))
one_says_no false false false false e = absurd (e refl)

module _ {P I D : Type 0} where
  -- nothing refuses a clock
  pub record Free (full : Bool) (m : Machine P I D) : Type 0 where
    pub not_held : m.held ≡ false
    pub not_stopped : is_stopped m ≡ false
    pub room_left : full ≡ false
    pub not_spent : (m.core.counts.clocks == 4294967295) ≡ false

  pub free : (full : Bool) (m : Machine P I D) → refusal_at full m ≡ 0 → Free full m
  free full m e =
      let f = none_says_no m.held (is_stopped m) full (m.core.counts.clocks == 4294967295) e in
      record { not_held = f.0; not_stopped = f.1; room_left = f.2; not_spent = f.3 }

  pub says_no : (full : Bool) (m : Machine P I D) → (refusal_at full m ≡ 0 → ⊥)
      → (m.held ≡ true) ⊎ ((is_stopped m ≡ true) ⊎ ((full ≡ true) ⊎ ((m.core.counts.clocks == 4294967295) ≡ true)))
  says_no full m = one_says_no m.held (is_stopped m) full (m.core.counts.clocks == 4294967295)

-- ---- one clock

module _ {P I D L : Type 0} (table : TableOf P) (instructions : Meaning I) (data_memory : Meaning D) (heard : L → Event → L → Type 0) (full : L → Bool) where
  -- a clock that nothing refuses is made, and heard
  pub ticked : (m n : Machine P I D) (l k : L) (made : Bool) → refusal_at (full l) m ≡ 0
      → CycleHeard table instructions data_memory heard full m.core l made n.core k
      → n.serial ≡ m.serial → n.held ≡ m.held
      → (e : Event) × Ticked table instructions data_memory m e n × heard l e k
  ticked m n l k true z h s t =
      (h.event, record { same_serial = s; same_held = t; cycled = h.cycled; laws = h.laws }, h.hears (free (full l) m z).room_left)
  ticked m n l k false z h s t =
      let f = free (full l) m z in
      absurd (⊎_elim (λ x. true≢false (sym x ∙ f.not_stopped)) (λ x. true≢false (sym (ap (λ (c : ℕ). c == 4294967295) x) ∙ f.not_spent)) h.why)

-- ---- how a run ends

number_positive : (why : Refusal) → number why ≡ 0 → ⊥
number_positive FlatSize e = omega arith
number_positive _ e = omega arith

short : (n : ℕ) → Short 0 n
short zero = inr (refl, refl)
short (suc n) = inl (omega arith)

module _ {P I D : Type 0} (full : Bool) (p : Machine P I D) (n made : ℕ) where
  ended_by : (k : ℕ) → (k ≡ 0 → ⊥) → refusal_at full p ≡ k → Short made n → EndedAt full p n made k
  ended_by zero some e s = absurd (some refl)
  ended_by (suc k) some e s = (s, e)

  ended : (why : Refusal) → refusal_at full p ≡ number why → Short made n → EndedAt full p n made (number why)
  ended why = ended_by (number why) (number_positive why)

-- ---- what a listener hears

module _ {P I D L : Type 0} (table : TableOf P) (instructions : Meaning I) (data_memory : Meaning D) (heard : L → Event → L → Type 0) (full : L → Bool) (l : L) (m : Machine P I D) where
  -- from the listener l and the machine m, k clocks lead to i and p
  pub record HeardClocks (k : ℕ) (i : L) (p : Machine P I D) : Type 0 where
    pub events : List Event
    pub steps : FreeClocks table instructions data_memory (λ _. false) m k events p
    pub hears : Heard heard full l events i

  pub none_heard : HeardClocks 0 l m
  none_heard = record { events = []; steps = start; hears = silence }

  module _ (k : ℕ) (i : L) (p : Machine P I D) (cs : HeardClocks k i p) where
    -- a clock more
    pub one_heard : (j : L) (q : Machine P I D) → refusal_at (full i) p ≡ 0 → (e : Event) × Ticked table instructions data_memory p e q × heard i e j → HeardClocks (k + 1) j q
    one_heard j q z t =
        let room = (free (full i) p z).room_left in
        record { events = cs.events ++ t.0 ∷ []; steps = next t.0 q cs.steps (rw room at z) t.1; hears = one_more t.0 j cs.hears room t.2 }

    -- the clock that is refused
    pub cut_short : (n : ℕ) (why : Refusal) → k < n → refusal_at (full i) p ≡ number why → HeardRun heard full table instructions data_memory l m n (record { made = k; why = Some why }) i p
    cut_short n why lt says = (cs.events, (cs.steps, ended (full i) p n k why says (inl lt)), cs.hears)

    -- as many as were asked for
    pub all_made : (n : ℕ) → k ≡ n → (k ≡ 0 → refusal_at (full i) p ≡ 0) → HeardRun heard full table instructions data_memory l m n (record { made = n; why = None }) i p
    all_made n e f = (cs.events, (rw (← e) cs.steps, (refl, λ z. f (e ∙ z))), cs.hears)

  -- refused before the first
  pub at_once : (n : ℕ) (why : Refusal) → refusal_at (full l) m ≡ number why → HeardRun heard full table instructions data_memory l m n (record { made = 0; why = Some why }) l m
  at_once n why says = ([], (start, ended (full l) m n 0 why says (short n)), silence)

-- ---- what a journal hears

-- the logs have room before each of these events
abbrev Roomy : Logs → List Event → Type 0
Roomy l [] = Unit {0}
Roomy l (e ∷ es) = (is_full l ≡ false) × Roomy (with_events l (e ∷ [])) es

roomy_more : (l : Logs) (es : List Event) (e : Event) → Roomy l es → is_full (with_events l es) ≡ false → Roomy l (es ++ e ∷ [])
roomy_more l [] e r f = (ap is_full (sym (logged_none l)) ∙ f, tt)
roomy_more l (x ∷ es) e r f = (r.0, roomy_more (with_events l (x ∷ [])) es e r.1 (ap is_full (logged_after l (x ∷ []) es) ∙ f))

roomy_less : (l : Logs) (es : List Event) (e : Event) → Roomy l (es ++ e ∷ []) → Roomy l es × (is_full (with_events l es) ≡ false)
roomy_less l [] e r = (tt, ap is_full (logged_none l) ∙ r.0)
roomy_less l (x ∷ es) e r =
    let rest = roomy_less (with_events l (x ∷ [])) es e r.1 in
    ((r.0, rest.0), ap is_full (sym (logged_after l (x ∷ []) es)) ∙ rest.1)

same : (j : Journal) → SameSlots j j
same j = record { retired_room = refl; clock_room = refl; retired_lent = refl; clock_lent = refl }

still : (i j k : Journal) → SameSlots i j → SameSlots j k → SameSlots i k
still i j k s t = record {
  retired_room = t.retired_room ∙ s.retired_room;
  clock_room = t.clock_room ∙ s.clock_room;
  retired_lent = t.retired_lent ∙ s.retired_lent;
  clock_lent = t.clock_lent ∙ s.clock_lent;
}

pub journal_hears : (j : Journal) (es : List Event) (k : Journal) → Heard (λ j e k. Adds j (e ∷ []) k) (λ j. is_full (logs j)) j es k → Adds j es k × Roomy (logs j) es
journal_hears j es k silence = (record { added = sym (logged_none (logs j)); slots = same j }, tt)
journal_hears j es k (one_more {es = fs} {l = i} e q h f a) =
    let b = journal_hears j fs i h in (
      record {
        added = a.added ∙ ap (λ x. with_events x (e ∷ [])) b.0.added ∙ logged_after (logs j) fs (e ∷ []);
        slots = still j i k b.0.slots a.slots;
      },
      roomy_more (logs j) fs e b.1 (ap is_full (sym b.0.added) ∙ f),
    )

module _ {P I D : Type 0} (table : TableOf P) (instructions : Meaning I) (data_memory : Meaning D) where
  into_logs : (l : Logs) (m : Machine P I D) (k : ℕ) (es : List Event) (n : Machine P I D) → FreeClocks table instructions data_memory (λ _. false) m k es n → Roomy l es
      → Clocks table instructions data_memory l m k es n
  into_logs l m k es n start r = start
  into_logs l m k es n (next {k = i} {es = fs} {n = p} e q c f t) r =
      let b = roomy_less l fs e r in next e q (into_logs l m i fs p c b.0) (rw b.1 f) t

  -- the journal that heard a run has all of it in its logs
  pub ran_into : (j k : Journal) (m p : Machine P I D) (n : ℕ) (r : Run) (es : List Event) → RunHeardCall table instructions data_memory (is_full (logs k)) m n r es p
      → Adds j es k × Roomy (logs j) es → RunInto table instructions data_memory (logs j) m n r (logs k) p
  ran_into j k m p n r es ran b = (es, (into_logs (logs j) m r.made es p ran.0 b.1, b.0.added, ran.1))
