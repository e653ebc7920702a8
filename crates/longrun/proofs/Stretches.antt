-- A stretch of a long run makes at least one clock, and none past what it was asked for. Assumes nothing.
use Rattle.std.proofs.Common.{◌≡◌, ℕ, zero, suc, ◌<◌, true, false, List, [], ◌∷◌, ◌++◌, sym, refl, ap, ◌∙◌, arith}
use Rattle.base.specs.Refusals.{reason}
use Rattle.memory.specs.Meaning.{Meaning}
use Rattle.clocking.specs.Ports.{TableOf}
use Rattle.clocking.specs.declared.state.Event.{Event}
use Rattle.pipeline.specs.Calls.{retired_entries, is_stopped, refusal_at, EndedAt, RunHeardCall, Heard, silence, one_more, HeardRun}
use Rattle.pipeline.specs.Theorem.{followed_by, entries_of, run_heard}
use Rattle.pipeline.specs.declared.machine.Machine.{Machine}
use Rattle.pipeline.specs.declared.machine.Run.{Run}
use Rattle.pipeline.proofs.RunFacts.{refused_when_stopped, clocks_held, none_made}
use Rattle.pipeline.proofs.Runs.{retired_after}
use Rattle.longrun.specs.Gaps.{gaps_after}
use Rattle.longrun.specs.LongRuns.{Reached}
use Rattle.longrun.specs.declared.gaps.Gaps.{Gaps}
use Rattle.longrun.proofs.Following.{gaps_append}

positive : (k : ℕ) → (k ≡ 0 → ⊥) → 0 < k
positive zero h = absurd (h refl)
positive (suc k) h = omega arith

-- what the gaps have heard
gaps_hear : (g : Gaps) (es : List Event) (k : Gaps) → Heard (λ g e k. k ≡ gaps_after g (retired_entries (e ∷ []))) (λ _. false) g es k → k ≡ gaps_after g (retired_entries es)
gaps_hear g es k silence = refl
gaps_hear g es k (one_more {es = fs} {l = i} e q h f a) =
    a ∙ ap (λ (x : Gaps). gaps_after x (retired_entries (e ∷ []))) (gaps_hear g fs i h) ∙ sym (gaps_append g (retired_entries fs) (retired_entries (e ∷ [])))
    ∙ ap (gaps_after g) (sym (retired_after fs (e ∷ [])))

module _ {P I D : Type 0} (table : TableOf P) (instructions : Meaning I) (data_memory : Meaning D) where
  -- a stretch whose listener is never full
  module _ (m : Machine P I D) (n : ℕ) (r : Run) (es : List Event) (p : Machine P I D) (ran : RunHeardCall table instructions data_memory false m n r es p) where
    made_some : (why : ℕ) → EndedAt false p n r.made why → refusal_at false m ≡ 0 → 0 < n → r.made ≡ 0 → ⊥
    made_some zero e u rn z = let all = e.0 in omega arith
    made_some (suc why) e u rn z = let says = rw (none_made table instructions data_memory (λ _. false) m r.made es p ran.0 z) at e.1 in omega arith

    short_when_stopped : (why : ℕ) → EndedAt false p n r.made why → r.made < n → p.held ≡ false → p.core.counts.clocks < 4294967295 → is_stopped p ≡ true
    short_when_stopped zero e lt h c = let all = e.0 in absurd (omega arith)
    short_when_stopped (suc why) e lt h c = refused_when_stopped p why (is_stopped p) refl h c e.1

    pub some_made : refusal_at false m ≡ 0 → 0 < n → 0 < r.made
    some_made u rn = positive r.made (made_some (reason r.why) ran.1 u rn)

    pub stopped_short : m.held ≡ false → r.made < n → p.core.counts.clocks < 4294967295 → is_stopped p ≡ true
    stopped_short h lt c = short_when_stopped (reason r.why) ran.1 lt (clocks_held table instructions data_memory (λ _. false) m r.made es p ran.0 ∙ h) c

  -- a stretch more
  pub reached_on : (m : Machine P I D) (g : Gaps) (p : Machine P I D) (k : Gaps) (n : ℕ) (r : Run) (q : Machine P I D) (j : Gaps) → Reached table instructions data_memory m g p k
      → HeardRun (λ g e k. k ≡ gaps_after g (retired_entries (e ∷ []))) (λ _. false) table instructions data_memory k p n r j q → Reached table instructions data_memory m g q j
  reached_on m g p k n r q j before (es, ran, heard) =
      record {
        history = before.history ++ es;
        put = followed_by before.put (entries_of es);
        calls = run_heard false n r es q before.calls ran;
        gaps =
            gaps_hear k es j heard ∙ ap (λ (x : Gaps). gaps_after x (retired_entries es)) before.gaps
            ∙ sym (gaps_append g (retired_entries before.history) (retired_entries es)) ∙ ap (gaps_after g) (sym (retired_after before.history es));
      }
