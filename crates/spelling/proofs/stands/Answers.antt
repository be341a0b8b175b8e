use Rattle.std.proofs.Common.{◌≡◌, Bool, ◌&&◌, List, [], ◌∷◌, ℕ, eqb, length, take, drop, length-drop, refl, ap, ◌-◌, ◌∙◌, arith}
use Rattle.std.proofs.lemmas.List.{drop_min, take_all}
use lib.Pointwise.{pointwise}
use Rattle.spelling.specs.Spelling.{starts}
use Rattle.spelling.proofs.stands.Goals as goal

-- to start with u is to have it in front
starts_is : (u s : List ℕ) → pointwise eqb u (take (length u) s) ≡ starts u s
unfolding starts
starts_is [] s = refl
starts_is (x ∷ u) [] = refl
starts_is (x ∷ u) (y ∷ s) = ap (λ (t : Bool). eqb x y && t) (starts_is u s)

pub returns : goal.returns
returns c =
    let s = c.args.s.now in
    let rest : List ℕ = drop c.min.result s in
    let whole : take (length s - c.min.result) rest ≡ rest = take_all (length s - c.min.result) rest (omega (arith, length-drop c.min.result s)) in
    let cut : rest ≡ drop c.args.at s = rw c.min.ensures (drop_min c.args.at s) in
    c.starts_with.ensures.value ∙ rw (whole, cut) (starts_is c.args.line.now (drop c.args.at s))
