use Rattle.rows.specs.Numbers.{size, held}
use Rattle.rows.proofs.Laws.Quantifiers.{count_before}
use Rattle.model.specs.Judge.{indeterminate}
use Rattle.rules.proofs.indeterminate_count.Goals as goal

pub returns : goal.returns
returns c =
    let s = c.args in
    rw (c.count.ensures, c.indeterminate_reads.ensures) (count_before s.n size (indeterminate s.n (held s.d.now)) c.requires)
