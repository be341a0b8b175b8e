-- The copy of a drawing file: what the check finds of it, beside a buffer.
use Rattle.std.specs.Prelude.{ℕ, List, length}
use Rattle.model.specs.Refusals.{Walk}
use Rattle.drawing.specs.Files.{check_of}
use Rattle.writer.specs.Saves.{fitted}

-- the reader's refusal, and last of all 9 if the file won't fit
abbrev pub copy_check : List ℕ → ℕ → Walk
copy_check file room = fitted (check_of file) (length file) room
