-- The verdict, the counts, the serial order, and the answer to a candidate.
use Rattle.std.specs.Prelude.{ℕ, zero, suc, Bool, true, false, not, ◌&&◌, ◌||◌, cond, List, [], ◌∷◌, ◌++◌, eqb, ltb, get_or, length, drop}
use Rattle.rows.specs.Sets.{Set, Rel, never, without, any, least, count, pairs, any_pair, least_row, least_column}
use Rattle.model.specs.declared.Verdict.{Verdict}
use Rattle.model.specs.declared.Verdict.TheVariants.{Passed, Broken}
use Rattle.model.specs.declared.OrderPart.{OrderPart}
use Rattle.model.specs.declared.OrderPart.TheVariants.{Given, Refused}
use Rattle.model.specs.declared.Judged.{Judged}
use Rattle.model.specs.Candidates.{Candidate}
use Rattle.model.specs.Limits.{rules_end}
use Rattle.model.specs.Words.{book_of}
use Rattle.model.specs.Model.{Book, filled, rules, in_force, middle_at, some, each, read, write, plain, atomic, fence, seq_cst, at_atomic, same_place, same_thread, Sb, Rf, Sc, Hb, DataRaces, UnsequencedRaces}

-- ---- the greedy order of a relation

-- the lowest-numbered action left with no predecessor left, or n
unfoldable pub next : ℕ → Rel → Set → ℕ
next n r left = least n λ a. left a && not (any n λ z. left z && r z a)

-- at each of k steps the next one, as long as there is one
unfoldable pub greedy : ℕ → Rel → ℕ → Set → List ℕ
greedy n r zero left = []
greedy n r (suc k) left =
    let a = next n r left in
    let rest = greedy n r k (without left a) in
    cond (ltb a n) (a ∷ rest) []

-- o at the front of a buffer, whose rest stays
abbrev pub onto : List ℕ → List ℕ → List ℕ
onto o s = o ++ drop (length o) s

-- ---- the order's part of the answer, by the paper's numbers

-- Given is no refusal; no serial order is due: refusal 10, position 0.
abbrev pub refusals : OrderPart → List (ℕ × ℕ)
refusals Given = []
refusals Refused = (10, 0) ∷ []

abbrev pub order_part : Bool → OrderPart
order_part due = cond due Given Refused

abbrev pub is_passed : Verdict → Bool
is_passed Passed = true
is_passed (Broken k a b m) = false

-- ---- of n actions and a book with relations 7 to 17 worked out

module _ (n : ℕ) (ρ : Book) where
  abbrev pub rule : ℕ → Rel
  rule k = get_or (rules n ρ) k never

  -- the rule k, broken at (a,b), with the middle there
  abbrev pub broken_at : ℕ → ℕ → ℕ → Verdict
  broken_at k a b = Broken k a b (middle_at n ρ k a b)

  -- ---- the counts

  -- Indeterminate: a read with no rf source.
  abbrev pub indeterminate : Set
  indeterminate b = read n ρ b && not (some n ρ λ a. Rf n ρ a b)

  -- a count counts a<b
  abbrev pub indeterminates : ℕ
  indeterminates = count n indeterminate

  abbrev pub unsequenced : ℕ
  unsequenced = pairs n (UnsequencedRaces n ρ)

  abbrev pub races : ℕ
  races = pairs n (DataRaces n ρ)

  -- ---- what the serial order asks of the accesses

  -- Edition 1: every action at an atomic place is a seq_cst atomic action.
  abbrev pub strong_places : Bool
  strong_places = each n ρ λ a. not (at_atomic n ρ a) || (atomic n ρ a && seq_cst n ρ a)

  -- a plain and an atomic access of one thread at one place, one a write, with no sb either way
  unfoldable pub loose : Rel
  loose a b =
      plain n ρ a && atomic n ρ b && same_thread n ρ a b && same_place n ρ a b && (write n ρ a || write n ρ b)
      && not (Sb n ρ a b) && not (Sb n ρ b a)

  -- Edition 2: every atomic action is seq_cst,
  abbrev pub strong_actions : Bool
  strong_actions = each n ρ λ a. not (atomic n ρ a) || seq_cst n ρ a

  -- and a plain and an atomic access of one thread at one place, one a write, are sequenced either way.
  abbrev pub none_loose : Bool
  none_loose = not (any_pair n loose)

  -- hb ∪ sc
  abbrev pub precedes : Rel
  precedes a b = Hb n ρ a b || Sc n ρ a b

-- ---- the answer, by the rules of edition e

module _ (e : ℕ) (n : ℕ) (ρ : Book) where
  -- ---- the verdict

  -- the lowest rule in force that offends at some pair, or 37
  unfoldable pub lowest : ℕ
  lowest = least rules_end λ k. in_force e k && any_pair n (rule n ρ k)

  -- Of several pairs the least a, then the least b, is returned.
  unfoldable pub verdict : Verdict
  verdict =
      cond (ltb lowest rules_end) (broken_at n ρ lowest (least_row n (rule n ρ lowest)) (least_column n (rule n ρ lowest))) Passed

  -- ---- the serial order

  -- the accesses are as the edition asks
  abbrev pub fit : Bool
  fit = cond (eqb e 2) (strong_actions n ρ && none_loose n ρ) (strong_places n ρ)

  -- no fence, and the accesses are as the edition asks
  abbrev pub suited : Bool
  suited = not (some n ρ (fence n ρ)) && fit

  -- The serial order is due exactly when the candidate is passed, has no race, no indeterminate read and no fence, and its accesses are as the edition asks.
  unfoldable pub due : Bool
  due =
      is_passed verdict && (eqb (races n ρ) 0 && eqb (unsequenced n ρ) 0) && eqb (indeterminates n ρ) 0
      && not (some n ρ (fence n ρ)) && fit

  -- what `due` asks, of a verdict and of the counts of indeterminate reads, unsequenced races and data races
  abbrev pub due_for : Verdict → ℕ → ℕ → ℕ → Bool
  due_for v indeterminate unsequenced races = is_passed v && (eqb races 0 && eqb unsequenced 0) && eqb indeterminate 0 && suited

  -- the order where one is due; none otherwise
  abbrev pub serial_order : List ℕ
  serial_order = cond due (greedy n (precedes n ρ) n λ a. ltb a n) []

  abbrev pub judgement : Judged
  judgement =
      record {
        verdict = verdict;
        indeterminate = indeterminates n ρ;
        unsequenced = unsequenced n ρ;
        races = races n ρ;
        order = order_part due;
      }

-- ---- the answer to a candidate

-- the candidate's book, relations 7 to 17 worked out
abbrev pub book : Candidate → Book
book X = filled X.n (book_of X)

unfoldable pub judged_of : Candidate → Judged
judged_of X = judgement X.edition X.n (book X)

unfoldable pub order_of : Candidate → List ℕ
order_of X = serial_order X.edition X.n (book X)
