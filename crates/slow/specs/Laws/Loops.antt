-- What the searches need: nothing found so far, a test before a search, and a search for what fails.
use Rattle.std.specs.Prelude.{ℕ, ◌+◌, Bool, true, false, not, ◌&&◌, ◌||◌, ◌≡◌, refl}
use Rattle.std.proofs.Math.Bool.{and-false}
use Rattle.std.proofs.Common.{ap, ◌∙◌, add-one}
use Rattle.rows.specs.Sets.{Set, less, any, all}
use Rattle.rows.proofs.Laws.Quantifiers.{all_ext, not_any}

pub none_more : (f : Set) (k : ℕ) → any k f ≡ false → f k ≡ false → any (k + 1) f ≡ false
unfolding any
none_more f k e here = ap (λ (i : ℕ). any i f) (add-one k) ∙ rw (e, here)

pub guard_no : (g q : Bool) → g ≡ false → g && q ≡ false
guard_no g q e = rw e

pub inner_no : (g q : Bool) → q ≡ false → g && q ≡ false
inner_no g q e = rw e (and-false g)

unless : (x y : Bool) → not (x && not y) ≡ (not x || y)
unless false y = refl
unless true true = refl
unless true false = refl

-- each p is a q: no p is left without the q
pub each_by : (n : ℕ) (p q : Set) → not (any n (less p q)) ≡ all n (λ a. not (p a) || q a)
each_by n p q = not_any n (less p q) ∙ all_ext n _ _ (λ a l. unless (p a) (q a))
