-- The answer of the first door as the twelve numbers that a program in C or Rust is told.
use Rattle.std.specs.Prelude.{ℕ, ◌<◌, ◌≤◌, Bool, List, [], ◌∷◌, ◌≡◌, leb, length, Option, Some, None, Ok, Err}
use Rattle.rows.specs.Numbers.{size}
use Rattle.model.specs.declared.Judged.{Judged}
use Rattle.model.specs.declared.OrderPart.{OrderPart}
use Rattle.model.specs.declared.OrderPart.TheVariants.{Given, Refused as Withheld}
use Rattle.model.specs.declared.Verdict.{Verdict}
use Rattle.model.specs.declared.Verdict.TheVariants.{Passed, Broken}
use Rattle.model.specs.declared.refusals.Reason.{Reason}
use Rattle.model.specs.Refusals.{Answer, Refused, number}
use Rattle.drawing.specs.Files.{longest_file}

-- a refusal: not judged, its number, its position
abbrev pub refusal : ℕ → ℕ → List ℕ
refusal k at = 0 ∷ k ∷ at ∷ 0 ∷ 0 ∷ 0 ∷ 0 ∷ 0 ∷ 0 ∷ 0 ∷ 0 ∷ 0 ∷ []

-- 1 if an order was given
abbrev pub given : OrderPart → ℕ
given Given = 1
given Withheld = 0

-- a judgement: judged, no refusal, rule k broken at the pair (a, b), the three counts, whether an order was given, whether a middle is named, the middle z
abbrev pub ruling : Judged → ℕ → ℕ → ℕ → ℕ → ℕ → List ℕ
ruling j k a b named z =
    1 ∷ 0 ∷ 0 ∷ k ∷ a ∷ b ∷ j.indeterminate ∷ j.unsequenced ∷ j.races ∷ given j.order ∷ named ∷ z ∷ []

-- 1 and the middle, or zeros where none is named
abbrev pub broken : Judged → ℕ → ℕ → ℕ → Option ℕ → List ℕ
broken j k a b None = ruling j k a b 0 0
broken j k a b (Some z) = ruling j k a b 1 z

-- rule, pair and middle are zeros where every rule holds
abbrev pub judged : Judged → Verdict → List ℕ
judged j Passed = ruling j 0 0 0 0 0
judged j (Broken k a b m) = broken j k a b m

-- the twelve numbers of an answer
abbrev pub told : Answer → List ℕ
told (Err r) = refusal (number r.reason) r.at
told (Ok j) = judged j j.verdict

-- numbers of an answer
abbrev pub answer_length : ℕ
answer_length = 12

-- there is room for them
abbrev pub room : List ℕ → Bool
room answer = leb answer_length (length answer)

-- a middle that is named is an action
pub record MiddlePlaced (m : Option ℕ) : Type 0 where
  pub named : (z : ℕ) → m ≡ Some z → z < size

-- a broken rule's pair is one of actions, and so is the middle
pub record VerdictPlaced (v : Verdict) : Type 0 where
  pub pair : (k a b : ℕ) (m : Option ℕ) → v ≡ Broken k a b m → (a < size) × (b < size) × MiddlePlaced m

-- a refusal's position is one of the longest file, and what a judgement names are actions
pub record Placed (r : Answer) : Type 0 where
  pub position : (k : Reason) (at : ℕ) → r ≡ Refused k at → at ≤ longest_file
  pub verdict : (j : Judged) → r ≡ Ok j → VerdictPlaced j.verdict
