-- `walk`, `source`, `source_each`, `try_source`, `arrange`, `arrange_each` and `try_next`, which call one another: each has a measure, which falls on the choices ahead, and on the members still to be ordered.
use Rattle.std.proofs.Common.{◌+◌, ◌*◌}
use Rattle.rows.specs.Sets.{count}
use Rattle.rows.specs.Numbers.{size, has, held}
use Rattle.rows.specs.Members.{members_left}
use Rattle.search.specs.Laws.Walks.{sourcing, arranging, Trying}
use Rattle.search.proofs.+walks.Given as goal

abbrev pub decreases-arrange : goal.decreases-arrange
decreases-arrange l = l.rest * 400 + 3 * count size (has l.s) + 2

abbrev pub decreases-arrange_each : goal.decreases-arrange_each
decreases-arrange_each l = l.rest * 400 + 3 * count size (has l.s) + 1

abbrev pub decreases-try_next : goal.decreases-try_next
decreases-try_next l = l.rest * 400 + 3 * count size (has l.others) + 3

abbrev pub decreases-source : goal.decreases-source
decreases-source l = l.rest * 400 + 3

abbrev pub decreases-source_each : goal.decreases-source_each
decreases-source_each l = l.rest * 400 + 2

abbrev pub decreases-try_source : goal.decreases-try_source
decreases-try_source l = l.rest * 400 + 1

abbrev pub decreases-walk : goal.decreases-walk
decreases-walk l = l.ahead * 400

abbrev pub invariant-arrange_each-loop-w : goal.invariant-arrange_each-loop-w
invariant-arrange_each-loop-w l =
    Trying (arranging l.edition l.n l.p (held l.plan 0) l.rest l.k (has l.s)) l.initial.desk l.initial.store (has l.s) l.initial.left l.desk l.store (members_left l.w-iterator) l.left

abbrev pub invariant-source_each-loop-w : goal.invariant-source_each-loop-w
invariant-source_each-loop-w l =
    Trying (sourcing l.edition l.n l.p (held l.plan 0) l.rest l.b) l.initial.desk l.initial.store (has l.fn.s) l.initial.left l.desk l.store (members_left l.w-iterator) l.left
