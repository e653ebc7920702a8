-- Lines of records, written one after another. Assumes nothing.
use Rattle.std.proofs.Common.{◌≡◌, ℕ, ◌+◌, ◌<◌, List, [], ◌∷◌, ◌++◌, length, get_or, take, sym, ap, ◌∙◌, append_assoc, append-nil, arith}
use Rattle.std.proofs.lemmas.List.{take_more, length-take-le}
use Rattle.text.specs.Lines.{lines}

module _ {R : Type 0} (line : ℕ → R → List ℕ) where
  lines_push : (n : ℕ) (rs : List R) (r : R) → lines line n (rs ++ r ∷ []) ≡ lines line n rs ++ line (n + length rs) r
  unfolding lines
  lines_push n [] r = append-nil (line n r) ∙ ap (λ (k : ℕ). line k r) (omega arith)
  lines_push n (x ∷ rs) r =
      ap (λ (l : List ℕ). line n x ++ l) (lines_push (n + 1) rs r) ∙ sym (append_assoc (line n x) (lines line (n + 1) rs) _)
      ∙ ap (λ (k : ℕ). (line n x ++ lines line (n + 1) rs) ++ line k r) (omega arith)

  -- a loop's turn
  pub lines_more : (rs : List R) (i : ℕ) (r : R) → i < length rs → r ≡ get_or rs i r → lines line 1 (take (i + 1) rs) ≡ lines line 1 (take i rs) ++ line (i + 1) r
  lines_more rs i r h e =
      ap (lines line 1) (take_more rs i r h) ∙ lines_push 1 (take i rs) (get_or rs i r)
      ∙ ap (λ (k : ℕ). lines line 1 (take i rs) ++ line k (get_or rs i r)) (rw (length-take-le i rs (omega arith)) (omega arith))
      ∙ ap (λ (x : R). lines line 1 (take i rs) ++ line (i + 1) x) (sym e)
