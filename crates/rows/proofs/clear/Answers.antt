use Rattle.std.proofs.Common.{rules}
use Rattle.std.proofs.Math.Path.{fun_ext}
use Rattle.rows.proofs.Laws.Parts.{zeros_none}
use Rattle.rows.proofs.clear.Goals as goal

pub returns : goal.returns
returns c = rw (c.fill.ensures.after (search rules)) (fun_ext λ a. zeros_none _ 0 a)
