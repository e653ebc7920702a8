-- A layer that fits over layers that fit. Assumes nothing.
use Rattle.std.proofs.Common.{◌≡◌, ℕ, suc, Bool, true, false, true≢false, refl, ◌&&◌, List, ◌∷◌, Ok, Err, vec_len, Result, Vec, ap, ◌∙◌}
use Rattle.std.specs.declared.alloc.Global.{Global}
use Rattle.base.specs.declared.refusal.Refusal.{Refusal}
use Rattle.memory.specs.Flat.{flat_fits}
use Rattle.setup.specs.declared.choice.LayerChoice.{LayerChoice}
use Rattle.dispatch.specs.Layers.{Layer, layer_wait, Added}
use Rattle.dispatch.specs.Stacks.{Layered, means, layers_fit, Built, Unfit, Answered}
use Rattle.std.proofs.lemmas.Bool.{and_parts}

pub raised : (bytes : Vec ℕ Global) (ls : List LayerChoice) (n : ℕ) (m : Layered n) (l : LayerChoice) → Built bytes ls n m
    → (r : Result (Layer (Layered n)) Refusal) → Added (means n).view m l r → Answered bytes (l ∷ ls) (suc n) r
raised bytes ls n m l b (Ok k) h =
    let parts = and_parts (flat_fits (vec_len bytes)) (layers_fit ls) b.fits in
    record {
      fits = simp (parts.0, parts.1, (rw b.longest at h.fits));
      over = (m, b.over, h.starts);
      size = h.size ∙ b.size;
      byte = λ x. h.byte x ∙ b.byte x;
      longest = h.longest ∙ ap (layer_wait l) b.longest;
    }
raised bytes ls n m l b (Err why) h =
    let parts = and_parts (flat_fits (vec_len bytes)) (layers_fit ls) b.fits in
    (simp (parts.0, h.0), simp (parts.0, parts.1, (rw b.longest at h.1)))

and_false : (f s : Bool) (x : Bool) → (f && s) ≡ false → (f && (s && x)) ≡ false
and_false true true x h = absurd (true≢false h)
and_false true false x h = refl
and_false false s x h = refl

-- what does not fit, fits no better with a layer over it
pub unfit_above : (bytes : Vec ℕ Global) (ls : List LayerChoice) (l : LayerChoice) (why : ℕ) → Unfit bytes ls why → Unfit bytes (l ∷ ls) why
unfit_above bytes ls l why h = (h.0, and_false (flat_fits (vec_len bytes)) (layers_fit ls) _ h.1)
