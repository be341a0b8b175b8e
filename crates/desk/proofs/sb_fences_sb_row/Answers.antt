use Rattle.desk.specs.Laws.Rows.{sb_fences_by}
use Rattle.rows.specs.Numbers.{has, held}
use Rattle.desk.proofs.sb_fences_sb_row.Goals as goal

pub returns : goal.returns
returns c =
    let s = c.args in
    rw (
      c.join-2.ensures,
      c.and-g.ensures,
      c.join.ensures,
      c.and-f.ensures,
      c.load.ensures,
    ) (sb_fences_by s.n (held s.d.now) s.a (has s.fences))
