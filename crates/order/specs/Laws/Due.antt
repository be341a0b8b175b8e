-- `due` says what the record Due says, both ways, by the rules of either edition.
use Rattle.std.specs.Prelude.{ℕ, ◌<◌, Bool, true, false, not, ◌&&◌, ◌||◌, cond, ◌≡◌}
use Rattle.std.proofs.Math.Bool.{and_assoc}
use Rattle.std.proofs.Common.{sym, eqb→eq}
use Rattle.std.proofs.Math.Logic.{⊎_elim}
use Rattle.std.proofs.Math.Dec.{T, eqb, T_not, not_T}
use Rattle.rows.specs.Sets.{Set, Rel, all, any_pair, pairs}
use Rattle.rows.specs.Laws.Truth.{and_l, and_r, and_i, or_e, or_l, or_r, dec, T_false, eqb_i}
use Rattle.rows.proofs.Laws.Quantifiers.{any_i, any_e, all_i, all_e, count_none, count_no}
use Rattle.rows.proofs.Laws.Pairs.{no_pair, pair_none, no_pairs, pairs_none}
use Rattle.model.specs.declared.Verdict.{Verdict}
use Rattle.model.specs.Model.{Book, Sb, Rf, DataRaces, UnsequencedRaces, read, write, plain, atomic, fence, seq_cst, at_atomic, same_place, same_thread, some}
use Rattle.model.specs.Judge.{verdict, is_passed, races, unsequenced, indeterminate, indeterminates, strong_places, strong_actions, none_loose, loose, fit, due}
use Rattle.order.specs.Serial.{Due, Sequenced}
use Rattle.order.specs.Steps.{due_for}
use Rattle.model.proofs.Laws.Verdicts.{is_passed_lem}

-- no pair is counted just where there is none, as tests
no_race : (n : ℕ) (r : Rel) → T (eqb (pairs n r) 0) → (a b : ℕ) → a < b → b < n → T (not (r a b))
no_race n r e a b l lb = rw (no_pairs n r (eqb→eq (pairs n r) 0 e) a b l lb) tt

race_none : (n : ℕ) (r : Rel) → ((a b : ℕ) → a < b → b < n → T (not (r a b))) → T (eqb (pairs n r) 0)
race_none n r h = eqb_i (pairs n r) 0 (pairs_none n r λ a b l lb. T_false (r a b) (h a b l lb))

-- every member of p below n is one of q, as a test
pub each_e : (n : ℕ) (p q : Set) → T (all n λ a. not (p a) || q a) → (a : ℕ) → a < n → T (p a) → T (q a)
each_e n p q h a la t = ⊎_elim (λ u. absurd (T_not (p a) u t)) (λ u. u) (or_e (not (p a)) (q a) (all_e n (λ a. not (p a) || q a) h a la))

each_i : (n : ℕ) (p q : Set) → ((a : ℕ) → a < n → T (p a) → T (q a)) → T (all n λ a. not (p a) || q a)
each_i n p q h = all_i n (λ a. not (p a) || q a) λ a la. ⊎_elim (λ t. or_r (not (p a)) (q a) (h a la t)) (or_l (not (p a)) (q a)) (dec (p a))

-- a test by cases says in either case what is asked there
case_e : (t p q : Bool) → T (cond t p q) → (T t → T p) × (T (not t) → T q)
case_e true p q h = (λ u. h, λ u. absurd u)
case_e false p q h = (λ u. absurd u, λ u. h)

case_i : (t p q : Bool) → (T t → T p) → (T (not t) → T q) → T (cond t p q)
case_i true p q f g = f tt
case_i false p q f g = g tt

-- none are loose just where a plain and an atomic access are sequenced
module _ (n : ℕ) (ρ : Book) where
  none_loose_lem : T (none_loose n ρ) → Sequenced n ρ
  unfolding loose
  none_loose_lem none a b la lb p q t s w =
      ⊎_elim (or_l (Sb n ρ a b) (Sb n ρ b a))
      (λ (x : T (not (Sb n ρ a b))). ⊎_elim (or_r (Sb n ρ a b) (Sb n ρ b a))
      (λ (y : T (not (Sb n ρ b a))). let it : T (loose n ρ a b) = search (and_i) depth 9 in absurd (rw (no_pair n (loose n ρ) (T_false (any_pair n (loose n ρ)) none) a b la lb) at it))
      (dec (Sb n ρ b a)))
      (dec (Sb n ρ a b))

  sequenced_none : Sequenced n ρ → T (none_loose n ρ)
  unfolding loose
  sequenced_none h =
      rw (pair_none n (loose n ρ) λ a b la lb. T_false (loose n ρ a b) (not_T (loose n ρ a b) λ it.
      let p : T (plain n ρ a) = search (and_l, and_r) depth 9 in
      let q : T (atomic n ρ b) = search (and_l, and_r) depth 9 in
      let t : T (same_thread n ρ a b) = search (and_l, and_r) depth 9 in
      let s : T (same_place n ρ a b) = search (and_l, and_r) depth 9 in
      let w : T (write n ρ a || write n ρ b) = search (and_l, and_r) depth 9 in
      ⊎_elim
      (T_not (Sb n ρ a b) (search (and_l, and_r) depth 9))
      (T_not (Sb n ρ b a) (search (and_l, and_r) depth 9))
      (or_e (Sb n ρ a b) (Sb n ρ b a) (h a b la lb p q t s w)))) tt

module _ (e : ℕ) (n : ℕ) (ρ : Book) where
  abbrev strong_atomic : Set
  strong_atomic a = atomic n ρ a && seq_cst n ρ a

  pub due_is : T (due e n ρ) → Due e n ρ
  unfolding due
  due_is d =
      let passes : T (is_passed (verdict e n ρ)) = search (and_l, and_r) in
      let no_data : T (eqb (races n ρ) 0) = search (and_l, and_r) in
      let no_unsequenced : T (eqb (unsequenced n ρ) 0) = search (and_l, and_r) in
      let no_indeterminate : T (eqb (indeterminates n ρ) 0) = search (and_l, and_r) in
      let no_fences : T (not (some n ρ (fence n ρ))) = search (and_l, and_r) in
      let (new, old) = case_e (eqb e 2) (strong_actions n ρ && none_loose n ρ) (strong_places n ρ) (search (and_r)) in
      record {
        passed = is_passed_lem (verdict e n ρ) passes;
        no_data_race = no_race n (DataRaces n ρ) no_data;
        no_unsequenced_race = no_race n (UnsequencedRaces n ρ) no_unsequenced;
        source = λ b lb rd.
            ⊎_elim
            (λ q. any_e n (λ a. Rf n ρ a b) q)
            (λ q. let t : T (indeterminate n ρ b) = and_i (read n ρ b) (not (some n ρ λ a. Rf n ρ a b)) rd q in
            absurd (rw (count_no n (indeterminate n ρ) (eqb→eq (indeterminates n ρ) 0 no_indeterminate) b lb) at t))
            (dec (some n ρ λ a. Rf n ρ a b));
        no_fence = λ a la. not_T (fence n ρ a) λ t. T_not (some n ρ (fence n ρ)) no_fences (any_i n (fence n ρ) a la t);
        places_seq_cst = λ now a la t.
            let it = each_e n (at_atomic n ρ) strong_atomic (old now) a la t in
            (and_l (atomic n ρ a) (seq_cst n ρ a) it, and_r (atomic n ρ a) (seq_cst n ρ a) it);
        actions_seq_cst = λ now. each_e n (atomic n ρ) (seq_cst n ρ) (and_l (strong_actions n ρ) (none_loose n ρ) (new now));
        sequenced = λ now. none_loose_lem n ρ (and_r (strong_actions n ρ) (none_loose n ρ) (new now));
      }

  pub is_due_lem : Due e n ρ → T (due e n ρ)
  unfolding due
  is_due_lem d =
      let passes : T (is_passed (verdict e n ρ)) = rw d.passed tt in
      let no_data : T (eqb (races n ρ) 0) = race_none n (DataRaces n ρ) d.no_data_race in
      let no_unsequenced : T (eqb (unsequenced n ρ) 0) = race_none n (UnsequencedRaces n ρ) d.no_unsequenced_race in
      let no_indeterminate : T (eqb (indeterminates n ρ) 0) =
      eqb_i (indeterminates n ρ) 0 (count_none n (indeterminate n ρ) λ b lb. T_false (indeterminate n ρ b) (not_T (indeterminate n ρ b) λ t.
      let (a, la, f) = d.source b lb (and_l (read n ρ b) (not (some n ρ λ a. Rf n ρ a b)) t) in
      T_not (some n ρ λ a. Rf n ρ a b) (and_r (read n ρ b) (not (some n ρ λ a. Rf n ρ a b)) t) (any_i n (λ a. Rf n ρ a b) a la f)))
      in
      let no_fences : T (not (some n ρ (fence n ρ))) =
      not_T (some n ρ (fence n ρ)) λ t. let (a, la, q) = any_e n (fence n ρ) t in T_not (fence n ρ a) (d.no_fence a la) q
      in
      let fits : T (fit e n ρ) =
      case_i (eqb e 2) (strong_actions n ρ && none_loose n ρ) (strong_places n ρ)
      (λ now. and_i (strong_actions n ρ) (none_loose n ρ) (each_i n (atomic n ρ) (seq_cst n ρ) (d.actions_seq_cst now)) (sequenced_none n ρ (d.sequenced now)))
      (λ now. each_i n (at_atomic n ρ) strong_atomic λ a la t. let (p, q) = d.places_seq_cst now a la t in and_i (atomic n ρ a) (seq_cst n ρ a) p q)
      in
      search (and_i)

  -- what the code works out from a verdict and counts that are these
  pub due_for_lem : (v : Verdict) (i u r : ℕ) → v ≡ verdict e n ρ → i ≡ indeterminates n ρ → u ≡ unsequenced n ρ → r ≡ races n ρ → due_for e n ρ v i u r ≡ due e n ρ
  unfolding due
  due_for_lem v i u r ev ei eu er =
      rw (ev, ei, eu, er)
      (sym
      (and_assoc
      (is_passed (verdict e n ρ) && (eqb (races n ρ) 0 && eqb (unsequenced n ρ) 0) && eqb (indeterminates n ρ) 0)
      (not (some n ρ (fence n ρ)))
      (fit e n ρ)))
