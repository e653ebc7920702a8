-- What a memory answered is what the sequential machine's definition has. Assumes nothing.
use Rattle.std.proofs.Common.{◌≡◌, ℕ, ◌%◌, Bool, true, false, if◌then◌else◌, ◌==◌, eqb, ltb, nat_lt, is_err, Some, Ok, Err, Option, Result, sym, refl, ap, subst, true≢false}
use mathlib.Core.Path.{fun_ext}
use Rattle.std.proofs.lemmas.Bool.{eq-eqb, eqb-true, and_parts, both_ways}
use Rattle.base.specs.Bytes.{within, word}
use Rattle.base.specs.declared.bus.Request.{Request}
use Rattle.base.specs.declared.bus.Request.TheVariants.{Read, Write}
use Rattle.memory.specs.Meaning.{View, Same, Settled}
use Rattle.memory.specs.Meaning.{Reply}
use Rattle.memory.specs.declared.Answer.TheVariants.{Word, Done}
use Rattle.memory.specs.declared.Unserved.TheVariants.{Outside}
use Rattle.rv32i.specs.declared.cause.Cause.{Cause}
use Rattle.rv32i.specs.declared.cause.Cause.TheVariants.{InstructionMisaligned, InstructionAccessFault}
use Rattle.rv32i.specs.declared.effect.Access.{Access}
use Rattle.rv32i.proofs.Given.{given}
use Rattle.rv32i.specs.Causes.{Gives}
use Rattle.rv32i.specs.Effects.{request, loaded}
use Rattle.rv32i.proofs.Laws.{InRange, in_range}
use Rattle.sequential.specs.Sequential.{and_then, fetchable, fetch}
use Rattle.sequential.specs.Stepping.{fetched_word, value_by_reply, Transferred}

pub fetch_faults : (size : ℕ) (instructions : ℕ → ℕ) (a : ℕ) (c : Cause) → Gives (fetchable size a) (Err c) → Gives (fetch size instructions a) (Err c)
unfolding fetch
fetch_faults size instructions a c h =
    let P : Result (Unit {0}) Cause → Type 0 = λ x. Gives (and_then x (λ _. Ok (word instructions a))) (Err c) in subst P (given _ _ h) refl

fetchable_by : (b d : Bool) (u : Unit {0}) → (if b then (if d then Ok tt else Err InstructionAccessFault) else Err InstructionMisaligned) ≡ Ok u → b ≡ true
fetchable_by true d u h = refl
fetchable_by false d u h = absurd (true≢false (ap is_err h))

is_aligned : (size a : ℕ) (u : Unit {0}) → Gives (fetchable size a) (Ok u) → a % 4 ≡ 0
is_aligned size a u h = eqb-true (a % 4) 0 (fetchable_by (a % 4 == 0) (nat_lt a size) u (sym (given _ _ h)))

module _ {M : Type 0} (v : View M) (m n : M) where
  fetch_inside : (a w : ℕ) → within (v.size m) a ≡ true → w ≡ word (v.byte m) a → Ok w ≡ fetch (v.size m) (v.byte m) a
  unfolding fetch
  fetch_inside a w h e = let p = and_parts (eqb (a % 4) 0) (ltb a (v.size m)) h in rw (p.0, p.1, e)

  fetch_outside : (a : ℕ) → a % 4 ≡ 0 → within (v.size m) a ≡ false → Err InstructionAccessFault ≡ fetch (v.size m) (v.byte m) a
  unfolding fetch
  fetch_outside a e h =
      let z = eq-eqb _ _ e in
      let o : ltb a (v.size m) ≡ false = rw z at h in
      rw (z, o)

  fetches_by : (a : ℕ) (r : Reply) → a % 4 ≡ 0 → Settled v m (Read a) r n → (fetched_word r ≡ fetch (v.size m) (v.byte m) a) × Same v m n
  fetches_by a (Err Outside) e h = (fetch_outside a e h.0, h.1)
  fetches_by a (Ok (Word w)) e h = (fetch_inside a w h.0 h.1, h.2)
  fetches_by a _ e h = absurd h

  pub fetches : (a : ℕ) (r : Reply) (z : Result ℕ Cause) (u : Unit {0}) → Gives (fetchable (v.size m) a) (Ok u) → Gives (fetched_word r) z → Settled v m (Read a) r n
      → Gives (fetch (v.size m) (v.byte m) a) z × Same v m n
  fetches a r z u e k h =
      let p = fetches_by a r (is_aligned (v.size m) a u e) h in
      (subst (λ (x : Result ℕ Cause). Gives x z) p.0 k, p.1)

  transfers_by : (q : Request) (how : Option Access) (x : ℕ) (r : Reply) → InRange (v.size m) (Ok (Some q)) → Settled v m q r n
      → Transferred v m (Ok (Some q)) how x (Ok (value_by_reply how x r)) n
  transfers_by (Read a) how x (Err Outside) k h = absurd (both_ways _ h.0 k)
  transfers_by (Write a w l) how x (Err Outside) k h = absurd (both_ways _ h.0 k)
  transfers_by (Read a) how x (Ok (Word w)) k h = ((ap (λ (y : ℕ). loaded how x y) h.1, fun_ext h.2.byte), h.2.size)
  transfers_by (Write a w l) how x (Ok Done) k h = ((refl, fun_ext h.1.byte), h.1.size)
  transfers_by _ how x _ k h = absurd h

  pub transfers : (q : Request) (how : Option Access) (x b y : ℕ) (r : Reply) → Gives (request (v.size m) how x b) (Ok (Some q)) → y ≡ value_by_reply how x r → Settled v m q r n
      → Transferred v m (request (v.size m) how x b) how x (Ok y) n
  transfers q how x b y r asked i h =
      let e = given _ _ asked in
      let k : InRange (v.size m) (Ok (Some q)) =
      subst (λ (z : Result (Option Request) Cause). InRange (v.size m) z) (sym e) (in_range (v.size m) how x b) in
      subst (λ (z : Result (Option Request) Cause). Transferred v m z how x (Ok y) n) e (rw i (transfers_by q how x r k h))
