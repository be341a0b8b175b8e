-- The answers of the first door as functions of what was handed in, and the three demands in the reader's words.
use Rattle.std.specs.Prelude.{ℕ, ◌+◌, ◌*◌, ◌<◌, cond, ◌&&◌, List, [], ◌∷◌, ◌++◌, ◌↔◌, ◌≡◌, T, leb, ltb, get_or, take, drop, Option, Ok, Err}
use Rattle.rows.specs.Sets.{before, count, pairs}
use Rattle.rows.specs.Numbers.{bit, width, wide, size, area, has, held}
use Rattle.model.specs.declared.Judged.{Judged}
use Rattle.model.specs.declared.OrderPart.TheVariants.{Given}
use Rattle.model.specs.declared.Verdict.TheVariants.{Passed, Broken}
use Rattle.model.specs.Limits.{all_relations, store_length}
use Rattle.model.specs.Candidates.{Candidate, well_formed}
use Rattle.model.specs.Model.{Book, DataRaces, UnsequencedRaces}
use Rattle.model.specs.Judge.{refusals, book, indeterminate, judgement, serial_order, judged_of, order_of}
use Rattle.model.specs.Store.{store_of}
use Rattle.model.specs.Laws.Verdicts.{Clean, FirstBroken}
use Rattle.model.specs.declared.refusals.Reason.{Reason}
use Rattle.model.specs.Refusals.{Answer, Checked, Refused, number}
use Rattle.drawing.specs.Files.{candidate_of, read_of}
use Rattle.report.specs.Report.{report_of, refused_text}
use Rattle.order.specs.Serial.{Due, Serial}
use Rattle.order.specs.Steps.{onto}
use Rattle.judge.specs.declared.Seen.{Seen}

-- what is seen, by edition e, of n actions on a desk with the book ρ: the judgement, and the row of the reads without a source
pub record Ruled (e n : ℕ) (ρ : Book) (r : Seen) : Type 0 where
  pub judged : r.judged ≡ judgement e n ρ
  pub bare : has r.bare ≡ before (indeterminate n ρ) n

-- what judging n actions by edition e comes to, whose book is ρ with relations 7 to 17 worked out, on a store that held σ and an order buffer o
pub record Judges (e n : ℕ) (ρ σ σ' : Book) (o o' : List ℕ) (r : Seen) : Type 0 where
  pub ruled : Ruled e n ρ r
  pub store : (j : ℕ) → σ' j ≡ cond (leb 7 j && ltb j 18) (ρ j) (σ j)
  pub order : o' ≡ onto (serial_order e n ρ) o

-- ---- a candidate's answer, store and order buffer

-- the store's 4,608 numbers at the front of what is lent; the numbers beyond stay
abbrev pub store_after : Candidate → List ℕ → List ℕ
store_after X store = store_of X ++ drop store_length store

-- a given order fills the first bytes, the rest stay; where none is given all stay
abbrev pub order_after : Candidate → List ℕ → List ℕ
order_after X order = onto (order_of X) order

-- what judging a candidate comes to on the store's own numbers
pub record Settled (X : Candidate) (s' o o' : List ℕ) (r : Seen) : Type 0 where
  pub ruled : Ruled X.edition X.n (book X) r
  pub parts : (j : ℕ) → j < all_relations → held s' j ≡ book X j
  pub store : s' ≡ store_of X
  pub order : o' ≡ order_after X o

-- and on a store that is lent
pub record Settles (X : Candidate) (s s' o o' : List ℕ) (r : Seen) : Type 0 where
  pub ruled : Ruled X.edition X.n (book X) r
  pub parts : (j : ℕ) → j < all_relations → held s' j ≡ book X j
  pub store : s' ≡ store_after X s
  pub order : o' ≡ order_after X o

-- ---- the first door: a file

abbrev pub answer_by : Checked → List ℕ → Answer
answer_by (Ok _) file = Ok (judged_of (candidate_of file))
answer_by (Err r) file = Err r

abbrev pub store_by : Checked → List ℕ → List ℕ → List ℕ
store_by (Ok _) file store = store_after (candidate_of file) store
store_by (Err r) file store = store

abbrev pub order_by : Checked → List ℕ → List ℕ → List ℕ
order_by (Ok _) file order = order_after (candidate_of file) order
order_by (Err r) file order = order

abbrev pub text_by : Checked → List ℕ → List ℕ
text_by (Ok _) file = report_of (candidate_of file)
text_by (Err r) file = refused_text (number r.reason) r.at

-- ---- the three demands, in the reader's words

-- what the answer j to the candidate X, and the store and order buffer after it, keep
pub record Judgement (X : Candidate) (j : Judged) (s s' o o' : List ℕ) : Type 0 where
  -- A candidate is passed exactly when every rule of its edition holds;
  pub passed : (j.verdict ≡ Passed) ↔ Clean X.edition X.n (book X)
  -- else the answer is the lowest rule broken and its least offending pair, with the middle there: named exactly if the relation tested has some a→z→b but no a→b, and then the least such z.
  pub broken : (k a b : ℕ) (m : Option ℕ) → (j.verdict ≡ Broken k a b m) ↔ FirstBroken X.edition X.n (book X) k a b m
  -- The counts are the indeterminate reads, and the pairs a<b of the races.
  pub bare : j.indeterminate ≡ count X.n (indeterminate X.n (book X))
  pub unsequenced : j.unsequenced ≡ pairs X.n (UnsequencedRaces X.n (book X))
  pub races : j.races ≡ pairs X.n (DataRaces X.n (book X))
  -- Bit b of number 256k + 2a + i of the store is a→64i + b in relation k; numbers beyond 4,608 stay.
  pub relation : (k a i b : ℕ) → k < all_relations → a < size → i < wide → b < width → bit (get_or s' (area * k + wide * a + i) 0) b ≡ book X k a (width * i + b)
  pub beyond : drop store_length s' ≡ drop store_length s
  -- The order is given exactly when it is due; it fills the first N bytes, the rest stay.
  pub due : (j.order ≡ Given) ↔ Due X.edition X.n (book X)
  pub serial : j.order ≡ Given → Serial X (take X.n o')
  pub rest : j.order ≡ Given → drop X.n o' ≡ drop X.n o
  -- Otherwise the order's part of the answer is refusal 10, at position 0, and the buffer is untouched.
  pub withheld : (refusals j.order ≡ (10, 0) ∷ []) ↔ (Due X.edition X.n (book X) → ⊥)
  pub untouched : refusals j.order ≡ (10, 0) ∷ [] → o' ≡ o

-- what the first door keeps
pub record Demands (file s o : List ℕ) (r : Answer) (s' o' : List ℕ) : Type 0 where
  -- Malformed input gets one numbered refusal with its position by the fixed order of checks,
  pub refused : (k : Reason) (at : ℕ) → (read_of file s o ≡ Refused k at) ↔ (r ≡ Refused k at)
  -- and lent memory keeps what it held.
  pub kept : (k : Reason) (at : ℕ) → r ≡ Refused k at → (s' ≡ s) × (o' ≡ o)
  -- Any other input is a well-formed candidate and is judged.
  pub formed : (j : Judged) → r ≡ Ok j → T (well_formed (candidate_of file))
  pub judged : (j : Judged) → r ≡ Ok j → Judgement (candidate_of file) j s s' o o'
