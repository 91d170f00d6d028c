-- What a call that writes to a lent output answers and leaves there. Assumes nothing.
use Rattle.std.specs.Prelude.{ℕ, List, length, leb, Ok, Err}
use Rattle.base.specs.Choice.{pick}
use Rattle.base.specs.Over.{at_front}
use Rattle.fault.specs.declared.Fault.TheVariants.{NoRoom}
use Rattle.fault.specs.Answer.{Answer}

-- how many bytes are written, or the refusal; 11 where there is no room
abbrev pub written_length : Answer (List ℕ) → List ℕ → Answer ℕ
written_length (Ok s) out = pick (leb (length s) (length out)) (Ok (length s)) (Err NoRoom)
written_length (Err f) out = Err f

-- what the output then holds: the bytes at its start and the rest as it was; a refusal writes nothing
abbrev pub held : Answer (List ℕ) → List ℕ → List ℕ
held (Ok s) out = pick (leb (length s) (length out)) (at_front out s) out
held (Err f) out = out
