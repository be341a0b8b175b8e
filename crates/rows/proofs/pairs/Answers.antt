use Rattle.std.proofs.Common.{ℕ, ◌&&◌, ◌∙◌, ◌^◌, refl, rules, arith, ltb}
use borrow.Author.Tests.{tests}
use Rattle.std.proofs.lemmas.Iterator.{YieldsList-from_range, YieldsList-from_map}
use Rattle.std.proofs.lemmas.Iterator.Consumers.{YieldsList-at, sum_from_yields_List, fits_from_yields_list}
use Rattle.rows.proofs.Laws.Pairs.{row_pairs_lem, pairs_small, sum_listed}
use Rattle.rows.specs.Numbers.{size, held}
use Rattle.rows.specs.Sets.{count}
use Rattle.rows.proofs.pairs.Goals as goal

pub sum-requires-clause-fits : goal.sum-requires-clause-fits
sum-requires-clause-fits c =
    let a = c.args in
    let h : ℕ → ℕ = λ x. count a.n (λ b. ltb x b && held a.d.now a.k x b) in
    fits_from_yields_list c.map.result (2 ^ 32)
    (YieldsList-from_map _ h (YieldsList-at c.map.ensures.source (YieldsList-from_range 0 a.n a.n refl (omega arith))) c.map.ensures.closure (λ x r q k. let e = row_pairs_lem size a.n x (held a.d.now a.k x) c.requires in search (rules, tests)))
    (omega (arith, sum_listed a.n h, pairs_small size a.n a.n (held a.d.now a.k) c.requires, c.requires))

pub returns : goal.returns
returns c =
    let a = c.args in
    let h : ℕ → ℕ = λ x. count a.n (λ b. ltb x b && held a.d.now a.k x b) in
    sum_from_yields_List c.map.result _ c.sum.ensures.ran
    (YieldsList-from_map _ h (YieldsList-at c.map.ensures.source (YieldsList-from_range 0 a.n a.n refl (omega arith))) c.map.ensures.closure (λ x r q k. let e = row_pairs_lem size a.n x (held a.d.now a.k x) c.requires in search (rules, tests)))
    ∙ sum_listed a.n h
