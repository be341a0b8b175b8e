use Rattle.rules.specs.Laws.Reads.{rule17_by}
use Rattle.rules.proofs.reads.rule17_row.Goals as goal

pub returns : goal.returns
returns c = λ h l. rw (
  c.minus.ensures,
  c.and-2.ensures,
  c.or.ensures,
  c.without.ensures,
  c.row-8.ensures,
  c.row-7.ensures,
  c.only_if-reads.ensures,
  c.only_if-2.ensures,
  c.and.ensures,
  c.row-6.ensures,
  c.row-5.ensures,
  c.only_if-locks.ensures,
  c.only_if.ensures,
  c.row-4.ensures,
  c.contains-writes.ensures,
  c.row-3.ensures,
  c.contains-unlocks.ensures,
  c.row-2.ensures,
  c.contains-mutex.ensures,
  c.row.ensures,
) (rule17_by _ _ _)
