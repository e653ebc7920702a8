use Rattle.std.proofs.Common.{◌≡◌, ℕ, List, [], ◌∷◌, length, replicate, rules, arith}
use Rattle.std.proofs.lemmas.Grind.{common_steps}
use Rattle.std.specs.List.{FoldsTo}
use Rattle.image.proofs.padding.padded.Goals as goal

-- what calls that give 0 give, one after another
zeros : {P : Type 0} (R : P → ℕ → P → Type 0) → ((p q : P) (x : ℕ) → R p x q → x ≡ 0) → (xs : List ℕ) (p q : P) → FoldsTo R p xs q → xs ≡ replicate (length xs) 0
zeros R all [] p q h = grind arith
zeros R all (x ∷ xs) p q h = grind (arith, all p h.0 x h.1, zeros R all xs h.0 q h.2)

pub returns : goal.returns
returns c =
    let h = c.in_ok-resize_with.ensures.items in
    let z = zeros _ (λ p q x h. search rules) h.0 tt h.1 h.3 in
    (omega (arith, c.len.ensures, c.if-len-gt65536.false), grind (arith, common_steps, z, h.2, c.in_ok-resize_with.ensures.len, c.padded_size.ensures, c.len-2.ensures))
