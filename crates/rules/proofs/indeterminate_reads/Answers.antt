use mathlib.Core.Bool.{Bool, not, ◌&&◌}
use mathlib.Core.Path.{ap, fun_ext}
use lib.Dec.{ltb}
use Rattle.rows.specs.Numbers.{held}
use Rattle.rules.specs.Laws.Scan.{full_by}
use Rattle.rules.proofs.indeterminate_reads.Goals as goal

pub returns : goal.returns
returns c =
    let s = c.args in
    rw (
      c.before-2.ensures,
      c.minus.ensures,
      c.load.ensures,
      c.join-fed.ensures,
      c.full.ensures,
    ) (fun_ext λ b. ap (λ (t : Bool). (held s.d.now 18 0 b && not t) && ltb b s.n) (full_by s.n s.d.now 4 b))
