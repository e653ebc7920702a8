-- How long a history may go on without a retirement or the stop. Assumes nothing.
use Rattle.std.proofs.Common.{◌≡◌, ℕ, ◌-◌, ◌≤◌, Bool, true, false, cond, List, [], ◌∷◌, ◌++◌, refl, ap, arith}
use Rattle.clocking.specs.Agreement.{retires, productive, Soon}
use Rattle.clocking.specs.declared.state.Event.{Event}

-- more is what a retirement allows anew
module _ (more : ℕ) where
  -- how many clocks n allows after the history, the one with a retirement or the stop among them
  abbrev next_left : Bool → ℕ → ℕ
  next_left b n = cond b more (n - 1)

  abbrev pub left : ℕ → List Event → ℕ
  left n [] = n
  left n (e ∷ h) = left (next_left (productive e) n) h

  abbrev Allowed : Bool → ℕ → Type 0
  Allowed true n = Unit {0}
  Allowed false n = 2 ≤ n

  -- no clock without a retirement or the stop was the last that n allows
  abbrev pub Paced : ℕ → List Event → Type 0
  Paced n [] = Unit {0}
  Paced n (e ∷ h) = Allowed (productive e) n × Paced (next_left (productive e) n) h

  allowed_by : (b : Bool) (n : ℕ) → (b ≡ false → 2 ≤ n) → Allowed b n
  allowed_by true n k = tt
  allowed_by false n k = k refl

  pub paced_more : (n : ℕ) (h : List Event) (e : Event) → Paced n h → (productive e ≡ false → 2 ≤ left n h) → Paced n (h ++ e ∷ [])
  paced_more n [] e k l = (allowed_by (productive e) n l, tt)
  paced_more n (x ∷ h) e k l = (k.0, paced_more (next_left (productive x) n) h e k.1 l)

  pub left_more : (n : ℕ) (h : List Event) (e : Event) → left n (h ++ e ∷ []) ≡ next_left (productive e) (left n h)
  left_more n [] e = refl
  left_more n (x ∷ h) e = left_more (next_left (productive x) n) h e

  soon_by : (b : Bool) (n : ℕ) (e : Event) (h : List Event) → 1 ≤ n → productive e ≡ b → Allowed b n → (b ≡ false → Soon (n - 1) h) → Soon n (e ∷ h)
  soon_by true n e h o q a k l = ([], e, h, refl, o, q)
  soon_by false n e h o q a k l =
      let s = k refl (omega arith) in
      let t = s.4 in
      (e ∷ s.0, s.1, s.2, ap (λ (x : List Event). e ∷ x) s.3, omega arith, s.5)

  soon_next : (b : Bool) (n : ℕ) (h : List Event) → ((n : ℕ) → Paced n h → 1 ≤ n → Soon n h) → Allowed b n → Paced (next_left b n) h → b ≡ false → Soon (n - 1) h
  soon_next true n h k a p e = absurd cc
  soon_next false n h k a p e = k (n - 1) p (omega arith)

  -- a paced history has a retirement or the stop in time
  pub soon : (h : List Event) (n : ℕ) → Paced n h → 1 ≤ n → Soon n h
  soon [] n k l = λ m. absurd (omega arith)
  soon (e ∷ h) n k l = soon_by (productive e) n e h l refl k.0 (soon_next (productive e) n h (λ n. soon h n) k.0 k.1)

  after_by : (b : Bool) (n : ℕ) (h : List Event) → 1 ≤ more → b ≡ true → Paced (next_left b n) h → Soon more h
  after_by true n h l q k = soon h more k l
  after_by false n h l q k = absurd cc

  -- and so it has after each retirement
  pub soon_after : 1 ≤ more → (a : List Event) (e : Event) (b : List Event) (n : ℕ) → Paced n (a ++ e ∷ b) → productive e ≡ true → Soon more b
  soon_after l [] e b n k q = after_by (productive e) n b l q k.1
  soon_after l (x ∷ a) e b n k q = soon_after l a e b (next_left (productive x) n) k.1 q

pub retires_productive : (e : Event) → retires e ≡ true → productive e ≡ true
retires_productive e h = rw h
