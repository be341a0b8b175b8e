use Rattle.std.proofs.Common.{◌≡◌, ℕ, ◌+◌, List, Bool, true, false, ltb, refl, arith, lt-ltb, le-ltb, ltb-true, ltb-false}
use Rattle.model.specs.Limits.{most_actions}
use Rattle.rows.specs.Laws.Lists.{listed_change}
use Rattle.drawing.specs.Files.{action_at, action_of, action_no}
use Rattle.drawing.proofs.actions.Goals as goal

before_too : (j i : ℕ) → (j ≡ i → ⊥) → (b : Bool) → ltb j i ≡ b → ltb j (i + 1) ≡ b
before_too j i d true e = let l = ltb-true j i e in lt-ltb j (i + 1) (omega arith)
before_too j i d false e = let l = ltb-false j i e in le-ltb j (i + 1) (omega arith)

others : (s : List ℕ) (p j i : ℕ) → (j ≡ i → ⊥) → action_no s i p j ≡ action_no s (i + 1) p j
unfolding action_no
others s p j i d = rw (before_too j i d (ltb j i) refl)

this : (s : List ℕ) (p i : ℕ) → action_no s (i + 1) p i ≡ action_of s (action_at p i)
unfolding action_no
this s p i = simp (lt-ltb i (i + 1) (omega arith))

pub loop-i-preserved : goal.loop-i-preserved
loop-i-preserved c =
    let l = c.loop-i in
    let a = c.args in
    let s = a.file.now in
    rw (l.invariant, c.action_at.ensures, ← this s a.p l.i)
    (listed_change (action_no s l.i a.p) (action_no s (l.i + 1) a.p) most_actions l.i (omega arith) (λ j d. others s a.p j l.i d))
