use Rattle.rows.specs.Numbers.{held}
use Rattle.slow.specs.Laws.Relations.{sw_too}
use Rattle.slow.proofs.derived.sw.Goals as goal

pub returns : goal.returns
returns c =
    let s = c.args in
    let both = sw_too s.t.n (held s.t.numbers.now) s.a s.b (rw (c.sw_atomic_fence.ensures, c.sw_fence_atomic.ensures, c.sw_fences.ensures, c.sw_atomic.ensures, c.sw_mutex.ensures, c.edge.ensures)) in
    record { value = both.0; value_2 = both.1 }
