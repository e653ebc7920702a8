-- What a program prints at its end, as bytes. Assumes nothing.
use Rattle.std.specs.Prelude.{ℕ, List, [], ◌∷◌, ◌++◌, string_bytes}
use Rattle.base.specs.Refusals.{refused_text}
use Rattle.ending.specs.declared.message.Message.{Message}
use Rattle.ending.specs.declared.message.Message.TheVariants.{Text, Line, Fixed, Refused}

abbrev pub message_text : Message → List ℕ
message_text (Text text) = string_bytes text
message_text (Line line) = string_bytes line ++ 10 ∷ []
message_text (Fixed text) = text.now
message_text (Refused why) = refused_text why ++ 10 ∷ []
