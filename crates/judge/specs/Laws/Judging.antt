-- What the desk, the store and the order buffer come to.
use Rattle.std.specs.Prelude.{ℕ, ◌+◌, ◌*◌, ◌-◌, ◌<◌, ◌≤◌, Bool, ◌&&◌, ◌≡◌, leb, get_or, length, take, drop, ◌^◌}
use Rattle.std.proofs.Math.Bool.{true, false, cond}
use mathlib.Core.List.{List, [], ◌++◌}
use Rattle.std.proofs.Common.{⊎_elim, sym, ◌∙◌, le_refl, arith, lit<, length-append, take_at, lt-ltb, le-leb}
use Rattle.std.proofs.Math.Path.{refl, ap, subst}
use Rattle.std.proofs.Math.Dec.{ltb}
use Rattle.std.proofs.Math.ListN.{get_or-append}
use Rattle.std.proofs.lemmas.Bool.{lt-leb}
use borrow.Rule.Slice.PartMut.{put_mid}
use Rattle.rows.specs.Numbers.{rel, area, has, held}
use Rattle.rows.proofs.Laws.Parts.{Words, held_same}
use Rattle.rows.specs.Laws.Truth.{lt_or_le, true_T}
use Rattle.model.specs.declared.OrderPart.TheVariants.{Given}
use Rattle.model.specs.Actions.{no_action}
use Rattle.model.specs.Limits.{given_relations, all_relations, store_length}
use Rattle.model.specs.Candidates.{Candidate, given}
use Rattle.model.specs.Words.{book_from}
use Rattle.model.specs.Model.{Book, filled}
use Rattle.model.specs.Judge.{order_part, book, indeterminate, due, judgement, serial_order, judged_of, order_of}
use Rattle.model.specs.Laws.Stores.{book_as_given, store_length_lem, store_is}
use Rattle.drawing.specs.Files.{action_at, action_of, check_of, candidate_of, candidate_with}
use Rattle.drawing.proofs.Laws.Good.{Taken, good_taken, good_candidate}
use Rattle.drawing.proofs.Laws.Formed.{acts_at, taken_formed}
use Rattle.words.specs.Sheet.{Small}
use Rattle.words.specs.Laws.Book.{book_given}
use Rattle.words.specs.Laws.Sheet.{small_ok}
use Rattle.order.specs.Steps.{onto}
use Rattle.order.specs.Laws.Order.{due_serial}
use Rattle.page.specs.Laws.Members.{members_before}
use Rattle.model.specs.declared.refusals.Reason.{Reason}
use Rattle.model.specs.declared.refusals.Refusal.{Refusal}
use Rattle.model.specs.Refusals.{Good, number}
use Rattle.report.specs.Report.{answer_lines, read_lines, race_lines, order_line, judged_text, report_of, refused_text, longest_report}
use Rattle.report.proofs.Laws.Candidates.{candidate_length}
use Rattle.report.proofs.Laws.Lengths.{refused_length}
use Rattle.judge.specs.declared.Seen.{Seen}
use Rattle.judge.specs.Answers.{Ruled, Judges, Settled, Settles}

-- action i of a good file is the candidate's, and is small
module _ (s : List ℕ) (e n t p : ℕ) (g : Taken s e n t p) (i : ℕ) (l : i < n) where
  pub acts_here : get_or (candidate_of s).acts i no_action ≡ action_of s (action_at p i)
  acts_here = rw (good_candidate s e n t p g) (acts_at s e n t p i l)

  pub small_here : Small (action_of s (action_at p i))
  small_here = small_ok t p (action_of s (action_at p i)) (omega (arith, g.threads)) g.places (g.action i l).kept

-- a store with relations 0 to 6 as given, after relations 7 to 17 were worked out in it
pub store_parts : (X : Candidate) (σ σ' : Book) → ((j : ℕ) → j < 7 → σ j ≡ rel (get_or (given X) j []))
    → ((j : ℕ) → σ' j ≡ cond (leb 7 j && ltb j 18) (book X j) (σ j)) → (j : ℕ) → j < all_relations → σ' j ≡ book X j
store_parts X σ σ' low h j m = ⊎_elim
    (λ (l : j < 7). h j ∙ rw (lt-leb 7 j l) (low j l ∙ sym (book_as_given X j l)))
    (λ (l : 7 ≤ j). h j ∙ rw (le-leb 7 j l, lt-ltb j 18 m))
    (lt_or_le j 7)

-- what is settled on the front of a store is settled on the store
pub settled_lent : (X : Candidate) (s ys o o' : List ℕ) (r : Seen) → store_length ≤ length s → Settled X ys o o' r → Settles X s (put_mid 0 (store_length - 0) s ys) o o' r
settled_lent X s ys o o' r fits h =
    let whole_front : length ys ≡ store_length = ap (λ (l : List ℕ). length l) h.store ∙ store_length_lem X in
    record {
      ruled = h.ruled;
      parts = λ j l. held_front j l whole_front ∙ h.parts j l;
      store = ap (λ (l : List ℕ). l ++ drop store_length s) h.store;
      order = h.order;
    }
  where
    held_front : (j : ℕ) → j < all_relations → length ys ≡ store_length → held (ys ++ drop store_length s) j ≡ held ys j
    held_front j l e =
        let longer : length (ys ++ drop store_length s) ≡ length ys + length (drop store_length s) = length-append ys (drop store_length s) in
        held_same (ys ++ drop store_length s) ys j j
        (le-leb (area * j + area) (length (ys ++ drop store_length s)) (omega arith) ∙ sym (le-leb (area * j + area) (length ys) (omega arith)))
        (λ m lm. get_or-append ys (drop store_length s) 0 (area * j + m) (omega arith))

-- a good file, judged
module _ (s : List ℕ) (e n t p : ℕ) (good : check_of s ≡ Good e n t p) where
  abbrev X : Candidate
  X = candidate_of s

  n_is : X.n ≡ n
  unfolding candidate_with
  n_is = ap (λ (Y : Candidate). Y.n) (good_candidate s e n t p (good_taken s e n t p good))

  e_is : X.edition ≡ e
  unfolding candidate_with
  e_is = ap (λ (Y : Candidate). Y.edition) (good_candidate s e n t p (good_taken s e n t p good))

  -- on a store that holds σ, its relations 0 to 6
  module _ (σ : Book) (low : (k : ℕ) → k < given_relations → σ k ≡ rel (get_or (given X) k [])) where
    book_is : filled n (book_from n X.acts X.places σ) ≡ book X
    book_is =
        ap (filled n) (book_given n X.acts X.places σ (λ k. rel (get_or (given X) k [])) low)
        ∙ ap (λ (k : ℕ). filled k (book_from k X.acts X.places (λ k. rel (get_or (given X) k [])))) (sym n_is)

    pub good_settled : (u o o' : List ℕ) (r : Seen) → Words u → length u ≡ store_length
        → Judges e n (filled n (book_from n X.acts X.places σ)) σ (held u) o o' r → Settled X u o o' r
    unfolding order_of
    good_settled u o o' r wu size j =
        let parts : (k : ℕ) → k < all_relations → held u k ≡ book X k = store_parts X σ (held u) low (λ k. j.store k ∙ ap (λ (ρ : Book). cond (leb 7 k && ltb k 18) (ρ k) (σ k)) book_is) in
        record {
          ruled = subst (λ (k : ℕ). Ruled X.edition k (book X) r) (sym n_is) (subst (λ (d : ℕ). Ruled d n (book X) r) (sym e_is) (rw book_is at j.ruled));
          parts = parts;
          store = store_is X u wu size parts;
          order = j.order ∙ ap (λ (ρ : Book). onto (serial_order e n ρ) o) book_is
              ∙ ap (λ (d : ℕ). onto (serial_order d n (book X)) o) (sym e_is)
              ∙ ap (λ (k : ℕ). onto (serial_order X.edition k (book X)) o) (sym n_is);
        }

  -- what is written of a good file is the candidate's report
  pub good_text : (store u o o' : List ℕ) (r : Seen) → Settles X store u o o' r → judged_text n r.judged (has r.bare) (held u 17) (held u 16) (take n o') ≡ report_of X
  unfolding report_of judged_text judged_of
  good_text store u o o' r h =
      rw (← n_is, h.ruled.judged, h.ruled.bare, h.parts 17 (lit< tt), h.parts 16 (lit< tt), h.order, members_before X.n X.n (indeterminate X.n (book X)) (le_refl X.n))
      (ap (λ (l : List ℕ). answer_lines (judgement X.edition X.n (book X)) ++ (read_lines X.n (indeterminate X.n (book X)) ++ (race_lines X.n (book X 17) (book X 16) ++ l))) (order_line_lem (due X.edition X.n (book X)) refl))
    where
      order_line_lem : (t : Bool) → due X.edition X.n (book X) ≡ t → order_line (order_part t) (take X.n (onto (order_of X) o)) ≡ order_line (order_part t) (order_of X)
      order_line_lem false q = refl
      order_line_lem true q = ap (order_line Given) (take_at (order_of X) (drop (length (order_of X)) o) X.n (due_serial X (true_T (taken_formed s e n t p good)) (rw q tt)).size)

-- and it is no longer than the longest report
pub good_length : (s : List ℕ) (e n t p : ℕ) → check_of s ≡ Good e n t p → length (report_of (candidate_of s)) ≤ longest_report
unfolding candidate_of candidate_with
good_length s e n t p good = let g = good_taken s e n t p good in candidate_length (candidate_of s) (omega (arith, g.n_is, g.actions))

-- nor is the line of a refusal, whose position fits in 64 bits
pub number_small : (k : Reason) → number k < 2 ^ 64
number_small k = grind arith

pub refused_short : (r : Refusal) → r.at < 2 ^ 64 → length (refused_text (number r.reason) r.at) ≤ longest_report
refused_short r h = refused_length (number r.reason) r.at (number_small r.reason) h
