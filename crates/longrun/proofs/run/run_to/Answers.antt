use Rattle.std.proofs.Common.{◌≡◌, ◌+◌, ◌<◌, ◌≤◌, false, [], refl, sym, ap, ◌∙◌, true≢false, arith, rules}
use Rattle.pipeline.specs.Calls.{is_stopped}
use Rattle.pipeline.specs.Theorem.{no_entries, none}
use Rattle.pipeline.specs.declared.machine.Totals.{Totals}
use Rattle.longrun.proofs.Marking.{unmarked, marked_on}
use Rattle.pipeline.proofs.RunFacts.{unrefused, clocks_on, held_on, not_past}
use Rattle.longrun.proofs.Stretches.{some_made, stopped_short, reached_on}
use Rattle.longrun.proofs.run.run_to.Given.{Over}
use Rattle.longrun.proofs.run.run_to.Goals as goal

clocks_of : {a b : Totals} → a ≡ b → a.clocks ≡ b.clocks
clocks_of = ap (λ (t : Totals). t.clocks)

-- how far a turn goes: at least one clock, and not past the limit
record Turn (g : Over) (c : goal.After-made g) : Type 0 where
  counted : c.counts-clocks-in-loop-clocks.result.clocks ≡ c.run_heard.new.self.core.counts.clocks
  further : c.loop-clocks.clocks < c.counts-clocks-in-loop-clocks.result.clocks
  not_beyond : c.counts-clocks-in-loop-clocks.result.clocks ≤ c.args.limit
  -- as far as a mark, unless the run is over
  few : c.run_heard.new.self.core.counts.clocks ≤ c.loop-clocks.machine.core.counts.clocks + 256
  full : is_stopped c.run_heard.new.self ≡ false → c.run_heard.new.self.core.counts.clocks < c.args.limit
      → c.run_heard.new.self.core.counts.clocks ≡ c.loop-clocks.machine.core.counts.clocks + 256

turn : (g : Over) (c : goal.After-made g) → Turn g c
turn g c =
    let inv = c.loop-clocks.invariant in
    let s = c.run_heard.ensures in
    let m = c.loop-clocks.machine in
    let p = c.run_heard.new.self in
    let n = c.min-n.result in
    let r = c.run_heard.result in
    let table = g.P.Predictor.table in
    let text = g.I.Memory.means in
    let data_memory = g.D.Memory.means in
    let on = clocks_on table text data_memory (λ _. false) m n r s.0 false p s.1.0 s.1.1 in
    let past = not_past table text data_memory (λ _. false) m n r s.0 false p s.1.0 s.1.1 in
    let held : m.held ≡ false = search rules in
    let running : is_stopped m ≡ false = search rules in
    let free = unrefused m held running (omega arith) in
    let some = some_made table text data_memory m n r s.0 p s.1 free (omega arith) in
    let clocks = clocks_of c.counts-clocks-in-loop-clocks.ensures in
    let whole : is_stopped p ≡ false → p.core.counts.clocks < c.args.limit → r.made < n → ⊥ =
    λ go under short. true≢false (sym (stopped_short table text data_memory m n r s.0 p s.1 held short (omega arith)) ∙ go) in
    record {
      counted = clocks;
      further = omega arith;
      not_beyond = omega arith;
      few = omega arith;
      full = λ go under. let all = whole go under in omega arith;
    }

pub loop-clocks-init : goal.loop-clocks-init
loop-clocks-init g c =
    let clocks = clocks_of c.counts-clocks.ensures in (record { history = []; put = no_entries; calls = none; gaps = refl }, clocks, (λ h. omega arith), refl, unmarked g.W.Watch.hears c.args.limit c.args.machine.now.core.counts.clocks c.args.watch.now (is_stopped c.args.machine.now))

pub loop-clocks-smaller : goal.loop-clocks-smaller
loop-clocks-smaller g c = let t = turn g c in let f = t.further in let b = t.not_beyond in omega arith

pub loop-clocks-preserved : goal.loop-clocks-preserved
loop-clocks-preserved g c =
    let inv = c.loop-clocks.invariant in
    let s = c.run_heard.ensures in
    let m = c.loop-clocks.machine in
    let n = c.min-n.result in
    let r = c.run_heard.result in
    let p = c.run_heard.new.self in
    let t = turn g c in
    let running : is_stopped m ≡ false = search rules in
    let further = t.further in
    let counted = t.counted in (
      reached_on g.P.Predictor.table g.I.Memory.means g.D.Memory.means c.args.machine.now c.args.gaps.now m c.loop-clocks.gaps n r p c.run_heard.new.listener inv.0 s,
      t.counted,
      (λ _. t.not_beyond),
      held_on g.P.Predictor.table g.I.Memory.means g.D.Memory.means (λ _. false) m n r s.0 false p s.1.0 s.1.1 ∙ inv.3,
      marked_on g.W.Watch.hears c.args.limit _ _ _ _ _ _ _ _ inv.4 running (omega arith) (omega arith) t.few t.full (rw t.counted at c.made.ensures),
    )
