use Rattle.relations.specs.Laws.Derive.{Derived, Kept}
use Rattle.rows.specs.Numbers.{held}
use Rattle.relations.proofs.derive.Given as goal

abbrev pub invariant-loop-k : goal.invariant-loop-k
invariant-loop-k l = Derived l.n (held l.initial.d) (held l.d) (held l.e) l.k × Kept (held l.d) (held l.initial.store) (held l.store) l.k
