use Rattle.rows.specs.Numbers.{has, held}
use Rattle.rules.specs.Laws.Reads.{unfed_by}
use Rattle.rules.proofs.reads.unfed.Goals as goal

pub returns : goal.returns
returns c =
    let s = c.args in
    λ h. rw (
      c.and.ensures,
      c.or.ensures,
      c.minus-2.ensures,
      c.minus.ensures,
      c.join-sourced.ensures,
      c.full-3.ensures,
      c.join_in-fed.ensures,
      c.full-2.ensures,
      c.join-some.ensures,
      c.full.ensures,
    ) (unfed_by s.n (held s.d.now) h s.k (has s.reads))
