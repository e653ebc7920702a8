-- Lines taken apart at spaces. Assumes nothing.
use Rattle.std.proofs.Common.{◌≡◌, ℕ, zero, suc, List, ◌∷◌, ◌++◌, Some, None, Option, Bor, codes, MatchOption, sym, ap, ◌∙◌, subst, lit<, arith}
use Rattle.std.proofs.lemmas.Str.Pattern.{IsSplitOnceResult, split_parts, split_after}
use Rattle.vectors.specs.Images.{Hexadecimal}
use Rattle.vectors.specs.Lines.{IsWord, Parts, Heads, SaysHead, Says, SaysNothing, SaysNoHead}
use Rattle.vectors.specs.declared.image.Line.{Line}
use Rattle.vectors.specs.declared.image.Line.TheVariants.{Image, Words, Run}

pub parts_of : (text : List ℕ) (x : Bor (List ℕ) × Bor (List ℕ)) → IsSplitOnceResult 32 text (Some x) → Parts text x.0.now x.1.now
parts_of text x h = let p = split_parts 32 text (Some x) h (lit< tt) in record { spaceless = p.1; joined = p.0 }

no_parts : (text word rest : List ℕ) → IsSplitOnceResult 32 text None → Parts text word rest → ⊥
no_parts text word rest h p = split_after 32 text word rest None h (lit< tt) p.joined p.spaceless

same_parts : (text word rest : List ℕ) (x : Bor (List ℕ) × Bor (List ℕ)) → IsSplitOnceResult 32 text (Some x) → Parts text word rest → (x.0.now ≡ word) × (x.1.now ≡ rest)
same_parts text word rest x h p = split_after 32 text word rest (Some x) h (lit< tt) p.joined p.spaceless

no_number : (text word : List ℕ) (n : ℕ) → text ≡ word → Hexadecimal text None → Hexadecimal word (Some n) → ⊥
no_number text word n e none some = none (subst (λ (t : List ℕ). Hexadecimal t (Some n)) (sym e) some).0

-- ---- behind the word image

pub no_name : (text : List ℕ) → IsSplitOnceResult 32 text None → SaysNoHead text
no_name text h (Image name start size) s = no_parts text name.now s.numbers h s.behind_name
no_name text h (Words address words) s = s
no_name text h Run s = s

module _ (text : List ℕ) (x : Bor (List ℕ) × Bor (List ℕ)) (named : IsSplitOnceResult 32 text (Some x)) where
  numbers_are : (name : List ℕ) (start size : ℕ) (s : Heads text name start size) → Parts x.1.now s.first s.second
  numbers_are name start size s = subst (λ (t : List ℕ). Parts t s.first s.second) (sym (same_parts text name s.numbers x named s.behind_name).1) s.behind_start

  pub no_numbers : IsSplitOnceResult 32 x.1.now None → SaysNoHead text
  no_numbers h (Image name start size) s = no_parts x.1.now s.first s.second h (numbers_are name.now start size s)
  no_numbers h (Words address words) s = s
  no_numbers h Run s = s

  module _ (y : Bor (List ℕ) × Bor (List ℕ)) (both : IsSplitOnceResult 32 x.1.now (Some y)) where
    pub no_start : Hexadecimal y.0.now None → SaysNoHead text
    no_start h (Image name start size) s = no_number y.0.now s.first start (same_parts x.1.now s.first s.second y both (numbers_are name.now start size s)).0 h s.start_reads
    no_start h (Words address words) s = s
    no_start h Run s = s

    pub no_size : Hexadecimal y.1.now None → SaysNoHead text
    no_size h (Image name start size) s = no_number y.1.now s.second size (same_parts x.1.now s.first s.second y both (numbers_are name.now start size s)).1 h s.size_reads
    no_size h (Words address words) s = s
    no_size h Run s = s

    pub head_of : (start size : ℕ) → Hexadecimal y.0.now (Some start) → Hexadecimal y.1.now (Some size) → Heads text x.0.now start size
    head_of start size a b = record {
      numbers = x.1.now;
      first = y.0.now;
      second = y.1.now;
      behind_name = parts_of text x named;
      behind_start = parts_of x.1.now y both;
      start_reads = a;
      size_reads = b;
    }

-- ---- a whole line

image_is_word : IsWord (codes "image")
image_is_word zero l e = omega arith
image_is_word (suc zero) l e = omega arith
image_is_word (suc (suc zero)) l e = omega arith
image_is_word (suc (suc (suc zero))) l e = omega arith
image_is_word (suc (suc (suc (suc zero)))) l e = omega arith
image_is_word (suc (suc (suc (suc (suc i))))) l e = omega arith

image_parts : (text rest : List ℕ) → text ≡ codes "image " ++ rest → Parts text (codes "image") rest
image_parts text rest e = record { spaceless = image_is_word; joined = e }

image_is_no_number : (n : ℕ) → Hexadecimal (codes "image") (Some n) → ⊥
image_is_no_number n h = let d = h.0.0.1.0 in omega arith

pub no_space : (text : List ℕ) → IsSplitOnceResult 32 text None → (text ≡ codes "run" → ⊥) → SaysNothing text
no_space text h r (Image name start size) s = no_parts text (codes "image") s.0 h (image_parts text s.0 s.1)
no_space text h r (Words address words) s = no_parts text s.0 words.now h s.1
no_space text h r Run s = r s

module _ (text : List ℕ) (x : Bor (List ℕ) × Bor (List ℕ)) (split : IsSplitOnceResult 32 text (Some x)) where
  pub no_address : Hexadecimal x.0.now None → (text ≡ codes "run" → ⊥) → (x.0.now ≡ codes "image" → ⊥) → SaysNothing text
  no_address h r i (Image name start size) s = i (same_parts text (codes "image") s.0 x split (image_parts text s.0 s.1)).0
  no_address h r i (Words address words) s = no_number x.0.now s.0 address (same_parts text s.0 words.now x split s.1).0 h s.2
  no_address h r i Run s = r s

  pub image_line : (r : Option Line) → x.0.now ≡ codes "image" → (text ≡ codes "run" → ⊥) → MatchOption r (SaysNoHead x.1.now) (SaysHead x.1.now) → MatchOption r (SaysNothing text) (Says text)
  image_line (Some (Image name start size)) i r h = (x.1.now, (parts_of text x split).joined ∙ ap (λ (w : List ℕ). w ++ 32 ∷ x.1.now) i, h)
  image_line (Some (Words address words)) i r h = absurd h
  image_line (Some Run) i r h = absurd h
  image_line None i r h = none
    where
      none : SaysNothing text
      none (Image name start size) s =
          let same = same_parts text (codes "image") s.0 x split (image_parts text s.0 s.1) in
          h (Image name start size) (subst (λ (t : List ℕ). Heads t name.now start size) (sym same.1) s.2)
      none (Words address words) s =
          let same = same_parts text s.0 words.now x split s.1 in
          image_is_no_number address (subst (λ (t : List ℕ). Hexadecimal t (Some address)) (sym same.0 ∙ i) s.2)
      none Run s = r s
