-- The scan over the rules and the rows: where it stands, what each turn adds, and how it ends.
use Rattle.std.specs.Prelude.{ℕ, ◌+◌, ◌≤◌, ◌<◌, Bool, true, false, ◌&&◌, ◌||◌, List, [], ◌∷◌, ◌≡◌, refl, ◌⊎◌, T, eqb, leb, ltb, Option}
use Rattle.std.proofs.Common.{sym, ap, ◌∙◌, inl, inr, ⊎_elim, arith, ltb→lt, below_more, lt-ltb, le-ltb, le-leb, leb-true, eqb-true, ne_eqb}
use mir.Val.{has_key}
use types.Run.{OneOf, hit}
use Rattle.std.proofs.Math.ListN.{get_or-eq_default}
use Rattle.rows.specs.Sets.{Set, Rel, never, none, any, all, least, without, before, any_pair, least_row, Covers}
use Rattle.rows.specs.Numbers.{size, has, held}
use Rattle.rows.proofs.Laws.Parts.{held_out}
use Rattle.rows.proofs.Laws.Covers.{covers_none, covers_by}
use Rattle.rows.proofs.Laws.Loops.{Going, go_none, go_next, go_more, go_done}
use Rattle.rows.specs.Laws.Truth.{T_true, true_T, or_e, or_1, or_2, or_cases, and_both, is_false, not_both, lt_or_le}
use Rattle.rows.proofs.Laws.Pairs.{no_pair}
use Rattle.rows.specs.Laws.Sets.{before_ext}
use Rattle.rows.proofs.Laws.Quantifiers.{any_in, any_none, any_ext, all_e, least_is, least_hit, least_none}
use Rattle.model.specs.Model.{Book, rules, in_force, tests_order, middle_at}
use Rattle.model.specs.Limits.{rules_end}
use Rattle.model.specs.Judge.{rule, lowest, verdict}
use Rattle.model.proofs.Laws.Verdicts.{offends, unoffending}
use Rattle.model.specs.Laws.Filled.{Filled}
use Rattle.model.specs.Laws.Placing.{Placing}
use Rattle.model.specs.Laws.Holds.{Holds}
use Rattle.model.specs.declared.Verdict.TheVariants.{Passed, Broken}
use Rattle.rules.specs.declared.Found.{Found}
use Rattle.rules.specs.Promises.{beyond, Settled, told, Finds}
use Rattle.rules.specs.Laws.Settled.{settled}
use Rattle.rules.specs.Laws.Orders.{same_least, at_found}

-- no rule below k that edition e has offends
abbrev pub Clear : ℕ → ℕ → Book → ℕ → Type 0
Clear e n ρ k = (j : ℕ) → j < k → in_force e j ≡ true → any_pair n (rule n ρ j) ≡ false

-- no row of r below a leads anywhere
abbrev pub Blank : ℕ → Rel → ℕ → Type 0
Blank n r a = (x : ℕ) → x < a → any n (r x) ≡ false

pub clear_none : (e n : ℕ) (ρ : Book) → Clear e n ρ 1
unfolding rules
clear_none e n ρ j l force = let z : j ≡ 0 = omega arith in rw z (any_none n (λ a. any n (λ b. false)) (λ a k. any_none n (λ b. false) (λ b i. refl)))

-- rule k does not offend, or is not in force
pub clear_more : (e n : ℕ) (ρ : Book) (k : ℕ) → Clear e n ρ k → (in_force e k ≡ true → Blank n (rule n ρ k) n) → Clear e n ρ (k + 1)
clear_more e n ρ k clear blank =
    below_more (λ (j : ℕ). in_force e j ≡ true → any_pair n (rule n ρ j) ≡ false) k clear λ force. any_none n (λ a. any n (rule n ρ k a)) (blank force)

-- past 26, the rules that both editions have hold
pub clear_settled : (e n : ℕ) (ρ : Book) (k : ℕ) → Filled n ρ → Placing n ρ → Clear e n ρ k → 27 ≤ k → Settled n ρ
clear_settled e n ρ k F P clear l = settled n ρ F P (ok 4 (omega arith) refl) (ok 9 (omega arith) refl) (ok 13 (omega arith) refl) (ok 14 (omega arith) refl) (ok 18 (omega arith) refl)
  where
    ok : (j : ℕ) → j < 27 → in_force e j ≡ true → Holds n ρ j
    ok j h force a b la lb t = not_both (T_true _ t) (no_pair n (rule n ρ j) (clear j (omega arith) force) a b la lb)

-- ---- the rows of a rule, of the suspects alone: the rows up to the next one of them are blank

pub record Scanning (n : ℕ) (r : Rel) (left : Set) : Type 0 where
  pub suspected : Set
  pub covers : Covers n r suspected
  pub going : Going n suspected (Blank n r) left

pub scanning_none : (n : ℕ) (r : Rel) (s : Set) → Covers n r s → Scanning n r (before s n)
scanning_none n r s covers = record { suspected = s; covers = covers; going = go_none n s (Blank n r) (λ x l. absurd (omega arith)) }

module _ (m n : ℕ) (r : Rel) (left : Set) (h : Scanning n r left) where
  over : (k : ℕ) → k < n → h.suspected k ≡ false → Blank n r k → Blank n r (k + 1)
  over k l out blank = below_more (λ (x : ℕ). any n (r x) ≡ false) k blank (covers_none n r h.suspected h.covers k l out)

  -- the lowest suspect left: all rows before it are blank
  pub scanning_next : any m left ≡ true → let a = least m left in (a < n) × Blank n r a
  scanning_next some = let (low, hit, blank) = go_next m n h.suspected (Blank n r) over left h.going some in (low, blank)

  -- its row is blank, too
  pub scanning_more : any m left ≡ true → Blank n r (least m left + 1) → Scanning n r (without left (least m left))
  scanning_more some blank = record { suspected = h.suspected; covers = h.covers; going = go_more m n h.suspected (Blank n r) over left h.going (Blank n r) some blank }

  -- none is left: every row is blank
  pub scanning_done : n ≤ m → any m left ≡ false → Blank n r n
  scanning_done l none = go_done m n h.suspected (Blank n r) over left h.going l none

-- the row of a has no offence below n
pub blank_more : (n : ℕ) (ρ : Book) (r : Rel) (g : ℕ → Option ℕ) (a : ℕ) (x : Found) (b : ℕ) → n ≤ size → Finds n ρ (r a) g x → b ≡ least size (has x.offences) → n ≤ b → Blank n r a → Blank n r (a + 1)
blank_more n ρ r g a x b l f first past blank =
    below_more (λ (x : ℕ). any n (r x) ≡ false) a blank
    (any_none n (r a) (λ c k. (least_is n (r a)).miss c (omega (arith, same_least n size (has x.offences) (r a) l f.offences))))

pub scan_done : (e n : ℕ) (ρ : Book) → Clear e n ρ rules_end → Passed ≡ verdict e n ρ
unfolding verdict lowest
scan_done e n ρ clear = rw (least_none rules_end (offends e n ρ) (any_none rules_end (offends e n ρ) λ k l. unoffending e n ρ k (clear k l)))

pub scan_hit : (e n : ℕ) (ρ : Book) (k a : ℕ) (x : Found) (b : ℕ) (m : Option ℕ) → n ≤ size → k < rules_end → in_force e k ≡ true → a < n → Finds n ρ (rule n ρ k a) (middle_at n ρ k a) x → b ≡ least size (has x.offences) → b < n
    → m ≡ told n ρ x b → Clear e n ρ k → Blank n (rule n ρ k) a → Broken k a b m ≡ verdict e n ρ
unfolding verdict lowest
scan_hit e n ρ k a x b m l below force inside f first hit tells clear blank =
    let column : least n (rule n ρ k a) ≡ b = omega (arith, same_least n size (has x.offences) (rule n ρ k a) l f.offences) in
    let leads : any n (rule n ρ k a) ≡ true = any_in n (rule n ρ k a) (least n (rule n ρ k a)) (rw column hit) ((least_is n (rule n ρ k a)).hit (rw column hit)) in
    let row : least_row n (rule n ρ k) ≡ a = least_hit n (λ x. any n (rule n ρ k x)) a inside leads blank in
    let low : lowest e n ρ ≡ k = least_hit rules_end (offends e n ρ) k below (and_both force (any_in n (λ x. any n (rule n ρ k x)) a inside leads)) (λ j lj. unoffending e n ρ j (clear j lj)) in
    rw (low, lt-ltb k rules_end below, row, column) (ap (Broken k a b) (tells ∙ sym (at_found n (rule n ρ k a) (told n ρ x) b column hit) ∙ f.middle ∙ at_found n (rule n ρ k a) (middle_at n ρ k a) b column hit))

-- ---- where no arm of a match is taken

-- what a match tells there, arm by arm, after what it told earlier: k is none of the numbers of these arms
abbrev pub Missed : ℕ → Type 0 → List (List ℕ) → Type 0
Missed k earlier [] = earlier
Missed k earlier (x ∷ xs) = Missed k (earlier × (OneOf x k → ⊥)) xs

missed_before : (k : ℕ) (earlier : Type 0) (arms : List (List ℕ)) → Missed k earlier arms → earlier
missed_before k earlier [] m = m
missed_before k earlier (x ∷ xs) m = (missed_before k (earlier × (OneOf x k → ⊥)) xs m).0

-- k is a number of some arm
abbrev pub in_arms : ℕ → List (List ℕ) → Bool
in_arms k [] = false
in_arms k (x ∷ xs) = has_key x k || in_arms k xs

missed_arms : (k : ℕ) (earlier : Type 0) (arms : List (List ℕ)) → Missed k earlier arms → T (in_arms k arms) → ⊥
missed_arms k earlier [] m t = t
missed_arms k earlier (x ∷ xs) m t =
    let before = missed_before k (earlier × (OneOf x k → ⊥)) xs m in
    ⊎_elim (λ (h : T (has_key x k)). before.1 (hit x k h)) (λ (h : T (in_arms k xs)). missed_arms k (earlier × (OneOf x k → ⊥)) xs m h) (or_e (has_key x k) (in_arms k xs) t)

-- none of the arms, which have every number below m but those of a kind: one of these, or from m on
pub missed_rest : (k m : ℕ) (rest : Set) (arms : List (List ℕ)) → T (all m λ j. rest j || in_arms j arms) → Missed k Unit arms → T (rest k) ⊎ (m ≤ k)
missed_rest k m rest arms every missed = ⊎_elim
    (λ (l : k < m).
    ⊎_elim inl (λ (h : T (in_arms k arms)). absurd (missed_arms k Unit arms missed h)) (or_e (rest k) (in_arms k arms) (all_e m (λ j. rest j || in_arms j arms) every k l)))
    inr
    (lt_or_le k m)

-- none of the arms of 1 to 26
pub missed_beyond : (k : ℕ) (arms : List (List ℕ)) → T (all 27 λ j. eqb j 0 || in_arms j arms) → Missed k Unit arms → beyond k ≡ true
missed_beyond k arms every missed = ⊎_elim (λ (h : T (eqb k 0)). or_1 (leb 27 k) (T_true (eqb k 0) h)) (λ (l : 27 ≤ k). or_2 (eqb k 0) (le-leb 27 k l)) (missed_rest k 27 (λ j. eqb j 0) arms every missed)

-- these test no order
pub beyond_bare : (k : ℕ) → beyond k ≡ true → tests_order k ≡ false
beyond_bare k h = ⊎_elim
    (λ (e : eqb k 0 ≡ true). rw (eqb-true k 0 e))
    (λ (e : leb 27 k ≡ true). let l = leb-true 27 k e in rw (ne_eqb k 4 (λ q. omega arith), ne_eqb k 6 (λ q. omega arith), ne_eqb k 10 (λ q. omega arith), ne_eqb k 14 (λ q. omega arith)))
    (or_cases (eqb k 0) (leb 27 k) h)

-- none of the arms of 28 to 36, either: rule 27 or no rule, which hold
pub missed_holds : (n : ℕ) (ρ : Book) (k : ℕ) (arms : List (List ℕ)) → (27 ≤ k → Settled n ρ) → beyond k ≡ true → T (all rules_end λ j. ltb j 28 || in_arms j arms) → Missed k Unit arms → Holds n ρ k
unfolding rules
missed_holds n ρ k arms S past every missed = ⊎_elim
    (λ (h : T (ltb k 28)).
    ⊎_elim
    (λ (e : eqb k 0 ≡ true). rw (eqb-true k 0 e) (λ a b la lb t. t))
    (λ (e : leb 27 k ≡ true). let z : k ≡ 27 = omega (arith, leb-true 27 k e, ltb→lt k 28 h) in rw z (S (leb-true 27 k e)).acyclic)
    (or_cases (eqb k 0) (leb 27 k) past))
    (λ (l : rules_end ≤ k). rw (get_or-eq_default (rules n ρ) never l) (λ a b la lb t. t))
    (missed_rest k rules_end (λ j. ltb j 28) arms every missed)

-- a rule that holds offends in no row, so that no action is suspect
pub holds_nowhere : (n : ℕ) (ρ : Book) (k a : ℕ) → Holds n ρ k → a < n → before none n ≡ before (rule n ρ k a) n
holds_nowhere n ρ k a ok la = before_ext n none (rule n ρ k a) λ b lb. sym (is_false (rule n ρ k a b) λ t. ok a b la lb (true_T t))

pub holds_covered : (n : ℕ) (ρ : Book) (k : ℕ) (s : Set) → Holds n ρ k → Covers n (rule n ρ k) s
holds_covered n ρ k s ok = covers_by n (rule n ρ k) s λ a b la lb t. absurd (ok a b la lb (true_T t))

-- every row leads where the rows that a part has lead
pub full_by : (n : ℕ) (d : List ℕ) (k b : ℕ) → any n (λ c. ltb c size && held d k c b) ≡ any n (λ c. held d k c b)
full_by n d k b = any_ext n (λ c. ltb c size && held d k c b) (λ c. held d k c b) λ c m.
    ⊎_elim (λ (l : c < size). rw (lt-ltb c size l)) (λ (l : size ≤ c). rw (le-ltb c size l, held_out d k c l)) (lt_or_le c size)
