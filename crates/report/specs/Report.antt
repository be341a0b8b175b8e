-- The report of an answer, as bytes. Definitions only; Laws has what holds of them.
use Rattle.std.specs.Prelude.{ℕ, ◌+◌, ◌*◌, ◌-◌, ◌/◌, ◌≤◌, ◌&&◌, List, [], ◌∷◌, ◌++◌, map, ◌≡◌, ltb, Option, Some, None}
use Rattle.rows.specs.Sets.{Set, Rel}
use Rattle.rows.specs.Numbers.{joined}
use Rattle.page.specs.Lines.{ascii, line, lines, members}
use Rattle.model.specs.declared.Judged.{Judged}
use Rattle.model.specs.declared.OrderPart.{OrderPart}
use Rattle.model.specs.declared.OrderPart.TheVariants.{Given, Refused}
use Rattle.model.specs.declared.Verdict.{Verdict}
use Rattle.model.specs.declared.Verdict.TheVariants.{Passed, Broken}
use Rattle.model.specs.Limits.{most_actions}
use Rattle.model.specs.Candidates.{Candidate}
use Rattle.model.specs.Judge.{book, indeterminate, judged_of, order_of}

-- ---- what the lines are of, rising

abbrev pub pair : ℕ → ℕ → ℕ × ℕ
pair a b = (a, b)

-- the pairs a<b of r below n, of one a
abbrev pub row_pairs : ℕ → Rel → ℕ → List (ℕ × ℕ)
row_pairs n r a = map (pair a) (members n λ b. ltb a b && r a b)

-- the pairs a<b of r below n, by a and then by b
abbrev pub pair_list : ℕ → Rel → List (ℕ × ℕ)
pair_list n r = joined n (row_pairs n r)

-- ---- the report

-- the middle's number, if it is named
abbrev pub middle_numbers : Option ℕ → List ℕ
middle_numbers None = []
middle_numbers (Some z) = z ∷ []

-- A failed rule gives `inconsistent 19 5 5` as the first line; a middle that is named is its last number: `inconsistent 4 0 2 1`.
unfoldable pub verdict_line : Verdict → List ℕ
verdict_line Passed = line (ascii "consistent") []
verdict_line (Broken k a b m) = line (ascii "inconsistent") (k ∷ a ∷ b ∷ middle_numbers m)

abbrev pub pair_line : List ℕ → ℕ × ℕ → List ℕ
pair_line word p = line word (p.0 ∷ p.1 ∷ [])

-- a line `word a b` for each pair a<b
abbrev pub pair_lines : List ℕ → ℕ → Rel → List ℕ
pair_lines word n r = lines (pair_line word) (pair_list n r)

-- The last line is `no order`, or `order` and the numbers, each after a space.
abbrev pub order_line : OrderPart → List ℕ → List ℕ
order_line Given order = line (ascii "order") order
order_line Refused order = line (ascii "no order") []

-- Counts are indeterminate, unsequenced, data;
abbrev pub answer_lines : Judged → List ℕ
answer_lines j = verdict_line j.verdict ++ line (ascii "found") (j.indeterminate ∷ j.unsequenced ∷ j.races ∷ [])

-- then lines `indeterminate a`, `unsequenced a b`, `data a b` with a<b, rising.
abbrev pub read_lines : ℕ → Set → List ℕ
read_lines n s = lines (λ a. line (ascii "indeterminate") (a ∷ [])) (members n s)

abbrev pub race_lines : ℕ → Rel → Rel → List ℕ
race_lines n unsequenced races = pair_lines (ascii "unsequenced") n unsequenced ++ pair_lines (ascii "data") n races

unfoldable pub judged_text : ℕ → Judged → Set → Rel → Rel → List ℕ → List ℕ
judged_text n j bare unsequenced races order =
    answer_lines j ++ (read_lines n bare ++ (race_lines n unsequenced races ++ order_line j.order order))

-- the report of the judge's answer to a candidate: relation 17 is the unsequenced races, 16 the data races
unfoldable pub report_of : Candidate → List ℕ
report_of X = judged_text X.n (judged_of X) (indeterminate X.n (book X)) (book X 17) (book X 16) (order_of X)

-- A refusal is the one line `refused 3 12`.
unfoldable pub refused_text : ℕ → ℕ → List ℕ
refused_text k at = line (ascii "refused") (k ∷ at ∷ [])

-- ---- what is promised of a buffer

-- pairs a<b of the most actions
abbrev pub most_pairs : ℕ
most_pairs = most_actions * (most_actions - 1) / 2

-- the longest report: 28 bytes for the verdict, 20 for the counts, a line of 18 for each action, one of 20 for each pair, and the order
abbrev pub longest_report : ℕ
longest_report = 28 + 20 + 18 * most_actions + 20 * most_pairs + (6 + 4 * most_actions)

-- What an answer tells of a buffer's room: a length that is told fits, and room for the longest report is never too short.
pub record Roomy (room : ℕ) (r : Option ℕ) : Type 0 where
  pub fits : (k : ℕ) → r ≡ Some k → k ≤ room
  pub enough : longest_report ≤ room → r ≡ None → ⊥
