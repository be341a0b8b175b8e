use Rattle.std.proofs.Common.{◌<◌, ◌≤◌, length, sym, ◌∙◌, ⊎_elim, arith}
use Rattle.rows.specs.Laws.Truth.{lt_or_le}
use Rattle.spelling.specs.Laws.Stands.{stands_room}
use Rattle.spelling.proofs.after.Goals as goal

pub overflow_add-result : goal.overflow_add-result
overflow_add-result c =
    let a = c.args in
    let u = a.word.now in
    let stood = sym c.stands.ensures ∙ c.if-stands.true in
    ⊎_elim (λ (l : 0 < length u). omega (arith, stands_room a.s.now a.at u l stood)) (λ (l : length u ≤ 0). omega arith) (lt_or_le 0 (length u))
