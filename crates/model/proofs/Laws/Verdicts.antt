-- What the verdict of an edition means: it is Passed exactly if no rule in force offends at any pair of actions, and Broken k a b m exactly if k is the lowest rule that does, (a, b) its least pair
-- and m the middle there. And what the order's part of the answer means.
use Rattle.std.specs.Prelude.{ℕ, ◌<◌, Bool, not, ◌&&◌, cond, [], ◌∷◌, T, eqb, Option}
use Rattle.std.proofs.Math.Bool.{true, false, and_assoc}
use Rattle.std.proofs.Math.Path.{◌≡◌, refl}
use Rattle.std.proofs.Common.{sym, ap, ◌∙◌, arith}
use Rattle.std.proofs.Math.Dec.{ltb}
use borrow.Author.Tests.{ltb-true, lt-ltb}
use Rattle.rows.specs.Sets.{Set, any_pair, least_row, least_column}
use Rattle.rows.specs.Laws.Truth.{T_true, true_T, both_true, and_both, is_false, not_both}
use Rattle.rows.proofs.Laws.Quantifiers.{any_none, any_no, least_is, least_hit, least_test}
use Rattle.rows.proofs.Laws.Pairs.{no_pair, pair_none, pair_in, least_pair, least_pair_is}
use Rattle.model.specs.declared.OrderPart.TheVariants.{Given}
use Rattle.model.specs.declared.Verdict.{Verdict}
use Rattle.model.specs.declared.Verdict.TheVariants.{Passed, Broken}
use Rattle.model.specs.Limits.{rules_end}
use Rattle.model.specs.Model.{Book, in_force, tested, middle_at, some, fence}
use Rattle.model.specs.Judge.{refusals, order_part, rule, indeterminates, unsequenced, races, lowest, broken_at, verdict, is_passed, fit, due, due_for}
use Rattle.model.proofs.Laws.Middles.{middle_is, middle_unique, middle_others}
use Rattle.model.specs.Laws.Verdicts.{Clean, FirstBroken}

-- as a test
pub is_passed_lem : (v : Verdict) → T (is_passed v) → v ≡ Passed
is_passed_lem Passed t = refl
is_passed_lem (Broken k a b m) t = absurd t

module _ (e : ℕ) (n : ℕ) (ρ : Book) where
  -- rule k is in force, and offends
  abbrev pub offends : Set
  offends k = in_force e k && any_pair n (rule n ρ k)

  abbrev found : Verdict
  found = broken_at n ρ (lowest e n ρ) (least_row n (rule n ρ (lowest e n ρ))) (least_column n (rule n ρ (lowest e n ρ)))

  verdict_is : (t : Bool) → ltb (lowest e n ρ) rules_end ≡ t → verdict e n ρ ≡ cond t found Passed
  unfolding verdict
  verdict_is t q = rw q

  -- a rule in force that does not offend has no pair
  unbroken : (k : ℕ) → offends k ≡ false → in_force e k ≡ true → any_pair n (rule n ρ k) ≡ false
  unbroken k none force = rw force at none

  -- one that has no pair where it is in force does not offend
  pub unoffending : (k : ℕ) → (in_force e k ≡ true → any_pair n (rule n ρ k) ≡ false) → offends k ≡ false
  unoffending k none = is_false (offends k) λ t. let (force, pair) = both_true _ _ t in not_both pair (none force)

  -- ---- passed

  pub passed_clean : verdict e n ρ ≡ Passed → Clean e n ρ
  unfolding lowest
  passed_clean p = go (ltb (lowest e n ρ) rules_end) refl
    where
      go : (t : Bool) → ltb (lowest e n ρ) rules_end ≡ t → Clean e n ρ
      go true q = let v = verdict_is true q in let z : ◌≡◌ {A = ℕ} 0 1 = cc in absurd (omega arith)
      go false q =
          record {
            never_offends = λ k lk force a b la lb t.
                not_both (T_true (rule n ρ k a b) t)
                (no_pair n (rule n ρ k) (unbroken k (any_no rules_end offends (sym (least_test rules_end offends) ∙ q) k lk) (T_true (in_force e k) force)) a b la lb);
          }

  pub clean_passed : Clean e n ρ → verdict e n ρ ≡ Passed
  unfolding lowest
  clean_passed h =
      verdict_is false
      (least_test rules_end offends ∙ any_none rules_end offends λ k lk. unoffending k λ force. pair_none n (rule n ρ k) λ a b la lb. is_false (rule n ρ k a b) λ t.
      h.never_offends k lk (true_T force) a b la lb (true_T t))

  -- ---- broken

  lowest_first : lowest e n ρ < rules_end
      → let a = least_row n (rule n ρ (lowest e n ρ)) in let b = least_column n (rule n ρ (lowest e n ρ)) in FirstBroken e n ρ (lowest e n ρ) a b (middle_at n ρ (lowest e n ρ) a b)
  unfolding lowest
  lowest_first l =
      let m = least_is rules_end offends in
      let (force, pair) = both_true _ _ (m.hit l) in
      record {
        rule_lt = l;
        in_force_lem = force;
        pair = least_pair n (rule n ρ (lowest e n ρ)) pair;
        lower = λ j lj force. no_pair n (rule n ρ j) (unbroken j (m.miss j lj) force);
        middle = middle_is n ρ (tested n ρ (lowest e n ρ) _ _) _ _;
        others = middle_others n ρ (lowest e n ρ) _ _;
      }

  pub broken_first : (k a b : ℕ) (m : Option ℕ) → verdict e n ρ ≡ Broken k a b m → FirstBroken e n ρ k a b m
  broken_first k a b m p = go (ltb (lowest e n ρ) rules_end) refl
    where
      moved : {k' a' b' : ℕ} {m' : Option ℕ} → k' ≡ k → a' ≡ a → b' ≡ b → m' ≡ m → FirstBroken e n ρ k' a' b' m' → FirstBroken e n ρ k a b m
      moved ek ea eb em f = rw (← ek, ← ea, ← eb, ← em) f

      go : (t : Bool) → ltb (lowest e n ρ) rules_end ≡ t → FirstBroken e n ρ k a b m
      go true q =
          let v = verdict_is true q in
          moved (cc) (cc) (cc) (cc) (lowest_first (ltb-true (lowest e n ρ) rules_end q))
      go false q = let v = verdict_is false q in let z : ◌≡◌ {A = ℕ} 0 1 = cc in absurd (omega arith)

  pub first_broken : (k a b : ℕ) (m : Option ℕ) → FirstBroken e n ρ k a b m → verdict e n ρ ≡ Broken k a b m
  unfolding verdict lowest
  first_broken k a b m f =
      let l : lowest e n ρ ≡ k =
      least_hit rules_end offends k f.rule_lt (and_both f.in_force_lem (pair_in n (rule n ρ k) a b f.pair.row_lt f.pair.column_lt f.pair.hit))
      (λ j lj. unoffending j λ force. pair_none n (rule n ρ j) (f.lower j lj force))
      in
      let p = least_pair_is n (rule n ρ k) a b f.pair in
      rw (l, lt-ltb k rules_end f.rule_lt, p.1, p.0) (ap (Broken k a b) (sym (middle_unique n ρ (tested n ρ k a b) a b m f.middle)))

-- ---- the order's part of the answer: it is given where due, and refusal 10 at position 0 elsewhere

pub given_due : (due : Bool) → order_part due ≡ Given → due ≡ true
given_due true e = refl
given_due false e = let z : ◌≡◌ {A = ℕ} 0 1 = cc in absurd (omega arith)

pub refused_due : (due : Bool) → refusals (order_part due) ≡ (10, 0) ∷ [] → due ≡ false
refused_due true e = let z : ◌≡◌ {A = ℕ} 0 1 = cc in absurd (omega arith)
refused_due false e = refl

-- what the code works out from a verdict and counts that are these
pub due_for_lem : (e n : ℕ) (ρ : Book) (v : Verdict) (i u r : ℕ) → v ≡ verdict e n ρ → i ≡ indeterminates n ρ → u ≡ unsequenced n ρ → r ≡ races n ρ → due_for e n ρ v i u r ≡ due e n ρ
unfolding due
due_for_lem e n ρ v i u r ev ei eu er =
    rw (ev, ei, eu, er)
    (sym
    (and_assoc
    (is_passed (verdict e n ρ) && (eqb (races n ρ) 0 && eqb (unsequenced n ρ) 0) && eqb (indeterminates n ρ) 0)
    (not (some n ρ (fence n ρ)))
    (fit e n ρ)))
