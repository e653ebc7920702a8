use Rattle.std.proofs.Common.{◌≡◌, take, vec_items}
use Rattle.std.specs.List.{flat_map}
use Rattle.image.specs.Images.{word_bytes}
use Rattle.image.proofs.from_words.bytes_of.Given as goal

abbrev pub invariant-loop-word : goal.invariant-loop-word
invariant-loop-word l = vec_items l.bytes ≡ flat_map word_bytes (take l.word-index l.words)
