use Rattle.std.proofs.Common.{◌≡◌, ◌∙◌, refl, ap, arith, rules, Err}
use mathlib.Core.Bool.{not}
use Rattle.rows.specs.Numbers.{size, has, held}
use Rattle.rows.proofs.Laws.Turns.{turn_below}
use Rattle.rows.proofs.Laws.Quantifiers.{count_le}
use Rattle.rows.specs.Laws.Truth.{some_left, none_left}
use Rattle.choices.specs.Walks.{spread}
use Rattle.choices.proofs.Laws.Lists.{arranged_some, arranged_none, spread_source, spread_order}
use Rattle.search.specs.Laws.Walks.{walks_then, same_walk, ready_on, ready_given, sourcing, arranging, tried, given_walk, single_below, try_done, try_fewer, try_stop, try_more}
use Rattle.search.proofs.+walks.Goals as goal

-- ---- `arrange`

pub arrange-returns-then-is_empty : goal.arrange-returns-then-is_empty
arrange-returns-then-is_empty t c = same_walk (arranged_none _ _ _ _ (none_left c.is_empty.ensures (ap not c.if-is_empty.true))) c.walk.ensures

pub arrange-returns : goal.arrange-returns
arrange-returns t c = same_walk (arranged_some _ _ _ _ (some_left c.is_empty.ensures (ap not c.if-is_empty.false))) c.arrange_each.ensures

-- ---- `walk`: the books of the choices left are those of all of them

pub walk-returns-then-left-eq0 : goal.walk-returns-then-left-eq0
unfolding spread
walk-returns-then-left-eq0 t c = rw (← c.pass_over-left.ensures.1, c.if-left-eq0.true) c.leaf.ensures

pub walk-returns-then-i-n : goal.walk-returns-then-i-n
walk-returns-then-i-n t c = rw (← c.pass_over-left.ensures.1) (same_walk (spread_source _ _ _ _ _ c.if-left-eq0.false c.if-i-n.true) (rw c.load-s.ensures at c.source.ensures))

pub walk-arrange-requires : goal.walk-arrange-requires
walk-arrange-requires t c = (omega (arith, count_le size (has c.load-s.result)), search rules)

pub walk-returns : goal.walk-returns
walk-returns t c = rw (← c.pass_over-left.ensures.1) (same_walk (spread_order _ _ _ _ _ c.if-left-eq0.false c.if-i-n.false) (rw (c.ordering-k.ensures.0, c.load-s.ensures) at c.arrange.ensures))

-- ---- `source`

pub source-returns-in_err-left : goal.source-returns-in_err-left
source-returns-in_err-left t c =
    let none = c.walk.ensures in
    let stopped : c.from_residual.result ≡ Err c.in_err-left.field-0.0 = search rules in
    record { walks = walks_then _ none.walks (rw (c.in_err-left.was, stopped) (refl, refl)); back = none.back }

pub source-returns : goal.source-returns
source-returns t c =
    let each = c.source_each.ensures in
    let none = c.walk.ensures in
    record { walks = walks_then _ none.walks (rw (c.in_ok-left.was, ← none.back) each.walks); back = each.back ∙ none.back }

-- ---- `try_source`: the edge is given, and taken back

pub try_source-give-row-requires : goal.try_source-give-row-requires
try_source-give-row-requires t c = (omega arith, c.requires.3, c.requires.0.desk_long)

pub try_source-walk-walked-requires : goal.try_source-walk-walked-requires
try_source-walk-walked-requires t c = (omega arith, (ready_given c.requires.0 c.give-row.auto.desk refl _ _ (omega arith) refl c.give-row.ensures.desk_after, omega arith))

pub try_source-take_back-requires : goal.try_source-take_back-requires
try_source-take_back-requires t c = (omega arith, c.requires.3, c.walk-walked.auto.desk ∙ c.give-row.auto.desk ∙ c.requires.0.desk_long)

pub try_source-returns : goal.try_source-returns
try_source-returns t c =
    let gave = rw (c.only.ensures ∙ single_below c.requires.2) at c.give-row.ensures.desk_after in
    given_walk 4 c.args.w _ c.give-row.ensures.result_value gave c.walk-walked.ensures c.take_back.ensures

-- ---- `source_each`: a turn of the loop tries the lowest that is left

pub source_each-try_source-requires : goal.source_each-try_source-requires
source_each-try_source-requires t c =
    let h = c.loop-w.invariant in
    (omega arith, (ready_on c.requires.0 h.desk_long h.store_long h.same, c.requires.1, c.requires.2, turn_below c.in-Some.ensures.steps))

pub source_each-returns-in_err-left : goal.source_each-returns-in_err-left
source_each-returns-in_err-left t c =
    let h = c.in-Some.ensures.steps in
    let turn = tried {T = sourcing c.args.edition c.args.n c.args.p (held c.args.plan.now 0) c.args.rest c.args.b} c.try_source.auto.desk c.try_source.auto.store h.some h.first c.try_source.ensures in
    let stopped : c.from_residual.result ≡ Err c.in_err-left.field-0.0 = search rules in
    rw stopped (try_stop c.loop-w.invariant turn _ c.in_err-left.was)

pub source_each-loop-w-preserved : goal.source_each-loop-w-preserved
source_each-loop-w-preserved t c =
    let h = c.in-Some.ensures.steps in
    let turn = tried {T = sourcing c.args.edition c.args.n c.args.p (held c.args.plan.now 0) c.args.rest c.args.b} c.try_source.auto.desk c.try_source.auto.store h.some h.first c.try_source.ensures in
    rw h.others (try_more c.loop-w.invariant turn _ c.in_ok-left.was)

pub source_each-returns : goal.source_each-returns
source_each-returns t c = try_done c.loop-w.invariant c.in-None.ensures.steps.0

-- ---- `try_next`: the edges are given, and taken back

pub try_next-give-row-requires : goal.try_next-give-row-requires
try_next-give-row-requires t c = (c.requires.2, c.requires.3, c.requires.0.desk_long)

pub try_next-arrange-walked-requires : goal.try_next-arrange-walked-requires
try_next-arrange-walked-requires t c = (omega arith, (ready_given c.requires.0 c.give-row.auto.desk refl _ _ c.requires.2 refl c.give-row.ensures.desk_after, c.requires.1, c.requires.2))

pub try_next-take_back-requires : goal.try_next-take_back-requires
try_next-take_back-requires t c = (c.requires.2, c.requires.3, c.arrange-walked.auto.desk ∙ c.give-row.auto.desk ∙ c.requires.0.desk_long)

pub try_next-returns : goal.try_next-returns
try_next-returns t c =
    given_walk c.args.k c.args.w _ c.give-row.ensures.result_value c.give-row.ensures.desk_after c.arrange-walked.ensures c.take_back.ensures

-- ---- `arrange_each`: likewise

pub arrange_each-try_next-requires : goal.arrange_each-try_next-requires
arrange_each-try_next-requires t c =
    let h = c.loop-w.invariant in
    let g = c.in-Some.ensures.steps in
    let fewer = try_fewer h g.some g.first c.without-others.ensures in
    (omega (arith, fewer), (ready_on c.requires.0 h.desk_long h.store_long h.same, c.requires.1, c.requires.2, turn_below g))

pub arrange_each-returns-in_err-left : goal.arrange_each-returns-in_err-left
arrange_each-returns-in_err-left t c =
    let h = c.in-Some.ensures.steps in
    let turn = tried {T = arranging c.args.edition c.args.n c.args.p (held c.args.plan.now 0) c.args.rest c.args.k (has c.args.s)} c.try_next.auto.desk c.try_next.auto.store h.some h.first (rw c.without-others.ensures at c.try_next.ensures) in
    let stopped : c.from_residual.result ≡ Err c.in_err-left.field-0.0 = search rules in
    rw stopped (try_stop c.loop-w.invariant turn _ c.in_err-left.was)

pub arrange_each-loop-w-preserved : goal.arrange_each-loop-w-preserved
arrange_each-loop-w-preserved t c =
    let h = c.in-Some.ensures.steps in
    let turn = tried {T = arranging c.args.edition c.args.n c.args.p (held c.args.plan.now 0) c.args.rest c.args.k (has c.args.s)} c.try_next.auto.desk c.try_next.auto.store h.some h.first (rw c.without-others.ensures at c.try_next.ensures) in
    rw h.others (try_more c.loop-w.invariant turn _ c.in_ok-left.was)

pub arrange_each-returns : goal.arrange_each-returns
arrange_each-returns t c = try_done c.loop-w.invariant c.in-None.ensures.steps.0
