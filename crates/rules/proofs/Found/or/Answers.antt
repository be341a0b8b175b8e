use Rattle.rules.specs.Laws.Orders.{either_found}
use borrow.Author.Tests.{lt-ltb, le-ltb}
use Rattle.rules.proofs.Found.or.Goals as goal

pub returns-then-lowest : goal.returns-then-lowest
returns-then-lowest c = let s = c.args in
    let p = c.lowest-2 in
    let q = c.lowest in
    λ n ρ s₁ s₂ l m small f g. either_found n ρ s₁ s₂ l m s.self s.other _ p.result q.result small f g p.ensures q.ensures c.or-offences.ensures (rw (lt-ltb q.result p.result c.if-lowest.true))

pub returns-else-lowest : goal.returns-else-lowest
returns-else-lowest c = let s = c.args in
    let p = c.lowest-2 in
    let q = c.lowest in
    λ n ρ s₁ s₂ l m small f g. either_found n ρ s₁ s₂ l m s.self s.other _ p.result q.result small f g p.ensures q.ensures c.or-offences.ensures (rw (le-ltb q.result p.result c.if-lowest.false))
