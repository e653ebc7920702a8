-- Images as the programs take them. Assumes nothing.
use Rattle.std.specs.Prelude.{◌≡◌, ℕ, ◌+◌, ◌-◌, ◌*◌, ◌/◌, ◌%◌, ◌<◌, ◌≤◌, max, List, [], ◌∷◌, ◌++◌, length, replicate, vec_items, vec_capacity, Result, Vec}
use Rattle.std.specs.declared.alloc.Global.{Global}
use Rattle.base.specs.Failures.{FailureSays}
use Rattle.base.specs.Refusals.{number}
use Rattle.base.specs.declared.failure.Failure.{Failure}
use Rattle.base.specs.declared.refusal.Refusal.TheVariants.{FlatSize}
use Rattle.image.specs.declared.PaddedImage.{PaddedImage}

-- the four bytes of a word, the lowest first
abbrev pub word_bytes : ℕ → List ℕ
word_bytes w = (w % 256) ∷ (w / 256 % 256) ∷ (w / 65536 % 256) ∷ (w / 16777216 % 256) ∷ []

-- the next multiple of 16, and at least 16
abbrev pub padded_size : ℕ → ℕ
padded_size n = max ((n + 15) / 16 * 16) 16

-- an image with zeros behind it, up to that size
abbrev pub padded_image : List ℕ → List ℕ
padded_image image = image ++ replicate (padded_size (length image) - length image) 0

-- an image has too many bytes
abbrev pub TooLong : List ℕ → ℕ → Type 0
TooLong image why = (why ≡ number FlatSize) × (65536 < length image)

-- The answer to an image: it with the zeros, or number 1 above 65536 bytes. There may be no memory only where it is not refused and its vector has to grow for them.
abbrev pub Padded : Vec ℕ Global → Result PaddedImage Failure → Type 0
Padded image =
    FailureSays
    (λ p. (length (vec_items image) ≤ 65536) × (vec_items p.bytes ≡ padded_image (vec_items image)))
    (TooLong (vec_items image))
    ((length (vec_items image) ≤ 65536) × (vec_capacity image < padded_size (length (vec_items image))))
