-- The answers keep the demands.
use Rattle.std.specs.Prelude.{ℕ, ◌+◌, ◌*◌, Bool, true, ◌≡◌, refl, T, length, Result, Ok, Err}
use mathlib.Core.List.{List, ◌++◌}
use Rattle.std.proofs.Common.{sym, ◌∙◌, arith, take_at}
use Rattle.std.proofs.Math.Path.{ap}
use Rattle.std.proofs.Math.ListN.{drop, get_or-append}
use Rattle.std.proofs.Math.Seq.{drop_at}
use Rattle.rows.specs.Numbers.{bit, wide, area}
use Rattle.rows.specs.Laws.Truth.{T_true, true_T, is_false, not_both}
use Rattle.model.specs.Limits.{store_length}
use Rattle.model.specs.Candidates.{Candidate, well_formed}
use Rattle.model.specs.Judge.{refusals, order_part, book, due, judged_of, order_of}
use Rattle.model.specs.Store.{store_of}
use Rattle.model.specs.Laws.Stores.{store_length_lem, store_bit}
use Rattle.model.proofs.Laws.Verdicts.{passed_clean, clean_passed, broken_first, first_broken, given_due, refused_due}
use Rattle.model.specs.declared.refusals.Refusal.{Refusal}
use Rattle.model.specs.Refusals.{Answer, Checked}
use Rattle.drawing.specs.Files.{candidate_of, read_of}
use Rattle.drawing.proofs.Laws.Good.{read_good}
use Rattle.drawing.proofs.Laws.Formed.{taken_formed}
use Rattle.order.specs.Laws.Due.{due_is, is_due_lem}
use Rattle.order.specs.Laws.Order.{due_serial, order_withheld}
use Rattle.judge.specs.Answers.{store_after, order_after, answer_by, store_by, order_by, Judgement, Demands}

module _ (X : Candidate) (W : T (well_formed X)) (s o : List ℕ) where
  abbrev is_due : Bool
  is_due = due X.edition X.n (book X)

  -- the order's list is as long as the candidate where it is given
  order_length_lem : is_due ≡ true → length (order_of X) ≡ X.n
  order_length_lem e = (due_serial X W (true_T e)).size

  pub judgement_is : Judgement X (judged_of X) s (store_after X s) o (order_after X o)
  unfolding judged_of
  judgement_is =
      record {
        passed = (passed_clean X.edition X.n (book X), clean_passed X.edition X.n (book X));
        broken = λ k a b m. (broken_first X.edition X.n (book X) k a b m, first_broken X.edition X.n (book X) k a b m);
        bare = refl;
        unsequenced = refl;
        races = refl;
        relation = λ k a i b lk la li lb.
            ap (λ (x : ℕ). bit x b) (get_or-append (store_of X) (drop store_length s) 0 (area * k + wide * a + i) (omega (arith, store_length_lem X))) ∙ store_bit X k a i b lk la li lb;
        beyond = drop_at (store_of X) (drop store_length s) store_length (store_length_lem X);
        due = (λ e. due_is X.edition X.n (book X) (true_T (given_due is_due e)), λ d. ap order_part (T_true is_due (is_due_lem X.edition X.n (book X) d)));
        serial = λ e. let t = given_due is_due e in rw (take_at (order_of X) (drop (length (order_of X)) o) X.n (order_length_lem t)) (due_serial X W (true_T t));
        rest = λ e. let t = given_due is_due e in drop_at (order_of X) (drop (length (order_of X)) o) X.n (order_length_lem t) ∙ ap (λ (k : ℕ). drop k o) (order_length_lem t);
        withheld = (λ e d. not_both (T_true is_due (is_due_lem X.edition X.n (book X) d)) (refused_due is_due e), λ h. ap (λ (t : Bool). refusals (order_part t)) (is_false is_due λ t. h (due_is X.edition X.n (book X) (true_T t))));
        untouched = λ e. ap (λ (l : List ℕ). l ++ drop (length l) o) (order_withheld X (rw (refused_due is_due e) tt)).1;
      }

-- the same refusal, in place of any two answers
alike : {A B : Type 0} (r s : Refusal) → ◌≡◌ {A = Result A Refusal} (Err r) (Err s) → ◌≡◌ {A = Result B Refusal} (Err r) (Err s)
alike r s e = let same : r ≡ s = cc in rw same

-- answered by what the reader says
module _ (file s o : List ℕ) where
  demands_by : (c : Checked) → read_of file s o ≡ c → Demands file s o (answer_by c file) (store_by c file s) (order_by c file o)
  demands_by (Err r) e =
      record {
        refused = λ k at. (λ f. alike r _ (sym e ∙ f), λ f. e ∙ alike r _ f);
        kept = λ k at f. (refl, refl);
        formed = λ j f. let z : ◌≡◌ {A = ℕ} 0 1 = cc in absurd (omega arith);
        judged = λ j f. let z : ◌≡◌ {A = ℕ} 0 1 = cc in absurd (omega arith);
      }
  demands_by (Ok h) e =
      let W : T (well_formed (candidate_of file)) = true_T (taken_formed file h.edition h.n h.t h.p (read_good file (length s) (length o) h.edition h.n h.t h.p e).0) in
      record {
        refused = λ k at. (λ f. let z : ◌≡◌ {A = ℕ} 0 1 = cc in absurd (omega arith), λ f. let z : ◌≡◌ {A = ℕ} 0 1 = cc in absurd (omega arith));
        kept = λ k at f. let z : ◌≡◌ {A = ℕ} 0 1 = cc in absurd (omega arith);
        formed = λ j f. W;
        judged = λ j f. let q : judged_of (candidate_of file) ≡ j = cc in rw (← q) (judgement_is (candidate_of file) W s o);
      }

  demands : (r : Answer) (s' o' : List ℕ) → r ≡ answer_by (read_of file s o) file → s' ≡ store_by (read_of file s o) file s → o' ≡ order_by (read_of file s o) file o → Demands file s o r s' o'
  demands r s' o' er es eo = rw (er, es, eo) (demands_by (read_of file s o) refl)

  -- all that the first door promises, from the reader's answer c
  pub kept_all : (r : Answer) (s' o' : List ℕ) {c : Checked} → read_of file s o ≡ c → r ≡ answer_by c file → s' ≡ store_by c file s → o' ≡ order_by c file o
      → (r ≡ answer_by (read_of file s o) file) × ((s' ≡ store_by (read_of file s o) file s) × ((o' ≡ order_by (read_of file s o) file o) × Demands file s o r s' o'))
  kept_all r s' o' e er es eo =
      let fr : r ≡ answer_by (read_of file s o) file = rw e er in
      let fs : s' ≡ store_by (read_of file s o) file s = rw e es in
      let fo : o' ≡ order_by (read_of file s o) file o = rw e eo in
      (fr, (fs, (fo, demands r s' o' fr fs fo)))
