-- The library's hexadecimal digits of a number of 32 bits. Assumes nothing.
use Rattle.std.proofs.Common.{◌≡◌, ℕ, zero, suc, ◌^◌, ◌/◌, ◌%◌, ◌<◌, ◌≤◌, ◌≢◌, false, List, [], ◌∷◌, ◌++◌, ◌∙◌, append_assoc, append-nil, inl, inr, arith}
use Rattle.std.proofs.lemmas.Bool.{lt-ltb, le-ltb, eq-eqb, ne_eqb, cases_lt}
use Rattle.std.proofs.Math.Nat.{pow-suc}
use Rattle.std.specs.Fmt.{digits, digits_onto}
use Rattle.text.specs.Hex.{glyph, hex, places}

last_digit : (j most n : ℕ) (acc : List ℕ) → n < 16 → digits_onto (suc j) 16 false n acc ≡ hex (suc most) n ++ acc
unfolding hex
last_digit j most n acc h =
    let none : n / 16 ≡ 0 = omega arith in
    let same : n % 16 ≡ n = omega arith in
    rw (eq-eqb (n / 16) 0 none, lt-ltb n 16 h, same)

more_digits : (j most n : ℕ) (acc : List ℕ) → 16 ≤ n → digits_onto j 16 false (n / 16) (glyph (n % 16) ∷ acc) ≡ hex most (n / 16) ++ (glyph (n % 16) ∷ acc)
    → digits_onto (suc j) 16 false n acc ≡ hex (suc most) n ++ acc
unfolding hex
more_digits j most n acc h e =
    let some : n / 16 ≢ 0 = omega arith in
    rw (ne_eqb (n / 16) 0 some, le-ltb n 16 h, append_assoc) e

digits_onto_hex : (j most n : ℕ) (acc : List ℕ) → n < 16 ^ suc most → most ≤ j → digits_onto (suc j) 16 false n acc ≡ hex (suc most) n ++ acc
digits_onto_hex j zero n acc small room = last_digit j zero n acc (omega (arith, pow-suc 16 zero))
digits_onto_hex zero (suc most) n acc small room = absurd (omega arith)
digits_onto_hex (suc j) (suc most) n acc small room = elim (cases_lt n 16) [
  | inl h ↦ last_digit (suc j) (suc most) n acc h
  | inr h ↦ more_digits (suc j) (suc most) n acc h (digits_onto_hex j most (n / 16) (glyph (n % 16) ∷ acc) (omega (arith, pow-suc 16 (suc most))) (omega arith))
]

pub digits_hex : (n : ℕ) → n < 2 ^ 32 → digits 16 false n ≡ hex places n
unfolding digits
digits_hex n h = digits_onto_hex 63 7 n [] (omega arith) (omega arith) ∙ append-nil (hex 8 n)
