use Rattle.rows.proofs.Laws.Loops.{Gather}
use Rattle.rows.specs.Members.{members_left}
use Rattle.rows.specs.Numbers.{size, has, held}
use Rattle.rows.specs.Sets.{either, image}
use Rattle.desk.specs.Reading.{on}
use Rattle.relations.specs.Bases.{visible}
use Rattle.relations.proofs.seen.vsse_column.Given as goal

abbrev pub invariant-loop-v : goal.invariant-loop-v
invariant-loop-v l = Gather size (either (held l.heads 0 l.b) (image size (held l.heads 0 l.b) (on l.desk visible l.b))) (on l.desk visible l.b) (has l.all) (members_left l.v-iterator)
