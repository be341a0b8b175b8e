use Rattle.desk.specs.Laws.Rows.{unsequenced_by}
use Rattle.rows.specs.Numbers.{has, held}
use Rattle.desk.proofs.unsequenced_row.Goals as goal

pub returns : goal.returns
returns c =
    rw (
      c.minus.ensures,
      c.column.ensures,
      c.minus-apart.ensures,
      c.load-2.ensures,
      c.and-2.ensures,
      c.and.ensures,
      c.load.ensures,
      c.clash_row.ensures,
    ) (unsequenced_by c.args.n (held c.args.d.now) c.args.a (has c.args.these))
