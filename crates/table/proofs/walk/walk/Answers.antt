use Rattle.table.specs.Laws.Walk.{walk_none, walk_more, walk_less, walk_full, walk_done, others_more, others_done}
use Rattle.rows.specs.Sets.{count}
use Rattle.rows.specs.Numbers.{area, held}
use Rattle.rows.proofs.Laws.Quantifiers.{count_le}
use Rattle.rows.proofs.Laws.Parts.{zeros_none}
use borrow.Author.Tests.{eq-eqb}
use borrow.Author.Rules.{rules}
use lib.ListN.{replicate}
use native.Mathlib.Omega.{arith}
use mathlib.Core.Path.{◌≡◌, refl}
use mathlib.Core.Bool.{not}
use Rattle.table.proofs.walk.walk.Goals as goal

pub loop-init : goal.loop-init
loop-init c =
    (c.requires.2, (refl, (omega (arith, count_le c.args.n (λ x. not (held (replicate area 0) 0 c.args.a x))), (walk_none c.requires.0 c.requires.3 (zeros_none area 0 c.args.a), λ x ne. refl))))

pub returns-then-n-c : goal.returns-then-n-c
returns-then-n-c c =
    let inv = c.loop.invariant.1.1.1 in
    others_done inv.1 (walk_done inv.0 c.requires.0 c.if-n-c.true)

pub loop-preserved : goal.loop-preserved
loop-preserved c =
    let inv = c.loop.invariant in
    let a = c.args.a in
    let marked = rw (eq-eqb a a refl) at (c.mark.ensures 0 a) in
    (search rules, (search rules, (omega (arith, inv.1.1.0, walk_less inv.1.1.1.0 c.if-n-c.false marked), (walk_more inv.1.1.1.0 c.if-n-c.false (rw (eq-eqb a a refl) at (c.follow.ensures a)) marked c.next-c.ensures, others_more _ inv.1.1.1.1 c.follow.ensures))))

pub returns : goal.returns
returns c =
    let l = c.loop in
    let inv = l.invariant.1.1 in
    let none : count c.args.n (λ x. not (held l.followed 0 c.args.a x)) ≡ 0 = omega (arith, inv.0, c.loop-test.false) in
    others_done inv.1.1 (walk_done inv.1.0 c.requires.0 (walk_full inv.1.0 none))
