use mathlib.Core.Bool.{true, false}
use mathlib.Core.Path.{◌≡◌, sym, ◌∙◌}
use Rattle.rows.specs.Numbers.{held}
use Rattle.model.specs.Model.{Sb, Dd, strict}
use Rattle.slow.proofs.orders.deciding.Goals as goal

pub returns-then-strict : goal.returns-then-strict
returns-then-strict c =
    let s = c.args in
    let h : strict s.t.n (held s.t.numbers.now) (Sb s.t.n (held s.t.numbers.now)) s.a s.b ≡ true = sym c.strict.ensures ∙ c.if-strict.true in
    rw h

pub returns-then-strict-2 : goal.returns-then-strict-2
returns-then-strict-2 c =
    let s = c.args in
    let g : strict s.t.n (held s.t.numbers.now) (Sb s.t.n (held s.t.numbers.now)) s.a s.b ≡ false = sym c.strict.ensures ∙ c.if-strict.false in
    let h : strict s.t.n (held s.t.numbers.now) (Dd s.t.n (held s.t.numbers.now)) s.a s.b ≡ true = sym c.strict-2.ensures ∙ c.if-strict-2.true in
    rw (g, h)

pub returns : goal.returns
returns c =
    let s = c.args in
    let g : strict s.t.n (held s.t.numbers.now) (Sb s.t.n (held s.t.numbers.now)) s.a s.b ≡ false = sym c.strict.ensures ∙ c.if-strict.false in
    let h : strict s.t.n (held s.t.numbers.now) (Dd s.t.n (held s.t.numbers.now)) s.a s.b ≡ false = sym c.strict-2.ensures ∙ c.if-strict-2.false in
    rw (g, h)
