-- With what a program ends. Assumes nothing.
use Rattle.std.specs.Prelude.{◌≡◌, ℕ, List, Ok, Err, Result, String}
use Rattle.std.specs.declared.alloc.AllocError.{AllocError}
use Rattle.std.specs.declared.alloc.Global.{Global}
use Rattle.base.specs.declared.failure.Failure.{Failure}
use Rattle.base.specs.declared.failure.Failure.TheVariants.{Refused, OutOfMemory}
use Rattle.ending.specs.Messages.{message_text}
use Rattle.ending.specs.declared.Ending.{Ending}
use Rattle.ending.specs.declared.Stream.{Stream}
use Rattle.ending.specs.declared.Stream.TheVariants.{Output}
use Rattle.ending.specs.declared.message.Message.TheVariants.{Text, Refused as RefusalLine}

-- this text, there, and this status
abbrev pub Ends : List ℕ → Stream → ℕ → Ending → Type 0
Ends text stream status ending =
    (message_text ending.message ≡ text) × (ending.stream ≡ stream) × (ending.status ≡ status)

-- of a run with that answer, where a refusal has that status; that there is no memory stays an error
abbrev pub EndingOf : Result (String Global) Failure → ℕ → Result Ending AllocError → Type 0
EndingOf (Ok text) refused r = r ≡ Ok (record { message = Text text; stream = Output; status = 0 })
EndingOf (Err (Refused why)) refused r =
    r ≡ Ok (record { message = RefusalLine why; stream = Output; status = refused })
EndingOf (Err (OutOfMemory error)) refused r = r ≡ Err error
