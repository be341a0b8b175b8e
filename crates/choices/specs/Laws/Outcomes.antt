-- What holds of the answer of a search: what each answer says, exactly; that a run tells it; and that a list in two parts is searched one part after the other.
use Prim.Native.Nat.{ℕ, zero, suc, ◌+◌, ◌-◌, ◌<◌, ◌≤◌, zero-le}
use Rattle.std.specs.Prelude.{Bool, ◌↔◌, ◌≡◌, get_or}
use Rattle.std.proofs.Math.Bool.{true, false, cond}
use mathlib.Core.List.{List, [], ◌∷◌, ◌++◌, map}
use Rattle.std.proofs.Math.Logic.{⊎_elim}
use Rattle.std.proofs.Math.Path.{refl, sym, ap}
use Rattle.std.proofs.Common.{◌∙◌, subst, le_refl}
use native.Mathlib.Omega.{arith}
use Rattle.std.proofs.Math.Dec.{ltb, leb}
use Rattle.std.proofs.Math.ListN.{length}
use Rattle.std.proofs.lemmas.List.{length-map}
use borrow.Author.Tests.{lt-ltb, le-ltb, le-leb, lt-leb, ltb-true, ltb-false, leb-true, leb-false}
use Rattle.rows.specs.Sets.{least}
use Rattle.rows.proofs.Laws.Quantifiers.{least_is, least_hit, least_ext, least_front}
use Rattle.rows.specs.Laws.Truth.{lt_or_le, not_both}
use Rattle.choices.specs.declared.Outcome.{Outcome}
use Rattle.choices.specs.declared.Outcome.TheVariants.{Found, None, Undecided}
use Rattle.choices.specs.Outcomes.{place, outcome, Fail, First}
use Rattle.choices.specs.Walks.{Run, hit, through, spent, seek, then, told}

module _ {A : Type 0} (f : A → Bool) where
  -- ---- the place of the first one passed

  -- it is the least number at which one passed stands
  place_least : (xs : List A) (d : A) → place f xs ≡ least (length xs) (λ i. f (get_or xs i d))
  unfolding place least
  place_least [] d = refl
  place_least (x ∷ xs) d = ap (λ (k : ℕ). cond (f x) 0 (suc k)) (place_least xs d) ∙ sym (least_front (length xs) (λ i. f (get_or (x ∷ xs) i d)))

  place_hit : (xs : List A) (d : A) → place f xs < length xs → f (get_or xs (place f xs) d) ≡ true
  place_hit xs d = rw (place_least xs d) (least_is (length xs) (λ i. f (get_or xs i d))).hit

  place_miss : (xs : List A) (d : A) → Fail f xs d (place f xs)
  place_miss xs d = rw (place_least xs d) (least_is (length xs) (λ i. f (get_or xs i d))).miss

  -- all before it fail, and no more than these
  le_fail : (xs : List A) (d : A) (m : ℕ) → m ≤ place f xs → Fail f xs d m
  le_fail xs d m l i h = place_miss xs d i (omega arith)

  fail_le : (xs : List A) (d : A) (m : ℕ) → m ≤ length xs → Fail f xs d m → m ≤ place f xs
  fail_le xs d m l h =
      ⊎_elim (λ (q : place f xs < m). not_both (place_hit xs d (omega arith)) (h (place f xs) q)) (λ q. q) (lt_or_le (place f xs) m)

  first_place : (xs : List A) (d : A) (k : ℕ) → First f xs d k → place f xs ≡ k - 1
  first_place xs d k h =
      place_least xs d ∙ least_hit (length xs) (λ i. f (get_or xs i d)) (k - 1) (omega (arith, h.counted, h.inside)) h.passed h.fail

  -- ---- the answer, by the place

  is_found : (xs : List A) (b : ℕ) → place f xs < length xs → place f xs < b → outcome f xs b ≡ Found (place f xs + 1)
  unfolding outcome
  is_found xs b l m = rw (lt-ltb (place f xs) (length xs) l, lt-ltb (place f xs) b m)

  is_none : (xs : List A) (b : ℕ) → length xs ≤ place f xs → length xs ≤ b → outcome f xs b ≡ None (length xs)
  unfolding outcome
  is_none xs b l m = rw (le-ltb (place f xs) (length xs) l, le-leb (length xs) b m)

  is_undecided : (xs : List A) (b : ℕ) → b ≤ place f xs → b < length xs → outcome f xs b ≡ Undecided b
  unfolding outcome
  is_undecided xs b l m =
      ⊎_elim
      (λ (h : place f xs < length xs). rw (lt-ltb (place f xs) (length xs) h, le-ltb (place f xs) b l))
      (λ (h : length xs ≤ place f xs). rw (le-ltb (place f xs) (length xs) h, lt-leb (length xs) b m))
      (lt_or_le (place f xs) (length xs))

  -- what an answer says of the place
  abbrev Says : List A → ℕ → Outcome → Type 0
  Says xs b (Found k) = (place f xs < length xs) × (place f xs < b) × (k ≡ place f xs + 1)
  Says xs b (None k) = (length xs ≤ place f xs) × (length xs ≤ b) × (k ≡ length xs)
  Says xs b (Undecided k) = (b ≤ place f xs) × (b < length xs) × (k ≡ b)

  says : (xs : List A) (b : ℕ) → Says xs b (outcome f xs b)
  unfolding outcome
  says xs b = go (ltb (place f xs) (length xs)) (ltb (place f xs) b) (leb (length xs) b) refl refl refl
    where
      go : (s t u : Bool) → ltb (place f xs) (length xs) ≡ s → ltb (place f xs) b ≡ t → leb (length xs) b ≡ u
          → Says xs b (cond s (cond t (Found (place f xs + 1)) (Undecided b)) (cond u (None (length xs)) (Undecided b)))
      go true true u p q r = (ltb-true (place f xs) (length xs) p, ltb-true (place f xs) b q, refl)
      go true false u p q r = (ltb-false (place f xs) b q, omega (arith, ltb-true (place f xs) (length xs) p, ltb-false (place f xs) b q), refl)
      go false t true p q r = (ltb-false (place f xs) (length xs) p, leb-true (length xs) b r, refl)
      go false t false p q r = (omega (arith, ltb-false (place f xs) (length xs) p, leb-false (length xs) b r), leb-false (length xs) b r, refl)

  -- only one answer does
  answer : (xs : List A) (b : ℕ) (o : Outcome) → Says xs b o → outcome f xs b ≡ o
  answer xs b (Found k) h = is_found xs b h.0 h.1 ∙ ap Found (sym h.2)
  answer xs b (None k) h = is_none xs b h.0 h.1 ∙ ap None (sym h.2)
  answer xs b (Undecided k) h = is_undecided xs b h.0 h.1 ∙ ap Undecided (sym h.2)

  said : (xs : List A) (b : ℕ) (o : Outcome) → outcome f xs b ≡ o → Says xs b o
  said xs b o e = subst (Says xs b) e (says xs b)

  -- ---- the same in the reader's words

  pub found_exactly : (xs : List A) (d : A) (b k : ℕ) → (outcome f xs b ≡ Found k) ↔ (First f xs d k × (k ≤ b))
  found_exactly xs d b k = (there, back)
    where
      there : outcome f xs b ≡ Found k → First f xs d k × (k ≤ b)
      there e =
          let h = said xs b (Found k) e in
          let here : place f xs ≡ k - 1 = omega (arith, h.2) in (
            record {
              counted = omega (arith, h.2);
              inside = omega (arith, h.0, h.2);
              passed = rw here at (place_hit xs d h.0);
              fail = rw here at (place_miss xs d);
            },
            omega (arith, h.1, h.2),
          )

      back : First f xs d k × (k ≤ b) → outcome f xs b ≡ Found k
      back w =
          let here = first_place xs d k w.0 in
          let some = w.0.counted in
          answer xs b (Found k) (omega (arith, w.0.inside), omega (arith, w.1), omega arith)

  pub none_exactly : (xs : List A) (d : A) (b k : ℕ) → (outcome f xs b ≡ None k) ↔ (Fail f xs d (length xs) × (length xs ≤ b) × (k ≡ length xs))
  none_exactly xs d b k = (
    λ e. let h = said xs b (None k) e in (le_fail xs d (length xs) h.0, h.1, h.2),
    λ w. answer xs b (None k) (fail_le xs d (length xs) (le_refl (length xs)) w.0, w.1, w.2),
  )

  pub undecided_exactly : (xs : List A) (d : A) (b k : ℕ) → (outcome f xs b ≡ Undecided k) ↔ (Fail f xs d b × (b < length xs) × (k ≡ b))
  undecided_exactly xs d b k = (
    λ e. let h = said xs b (Undecided k) e in (le_fail xs d b h.0, h.1, h.2),
    λ w. answer xs b (Undecided k) (fail_le xs d b (omega (arith, w.1)) w.0, w.1, w.2),
  )

  -- A larger budget never changes a found or none.
  pub found_stays : (xs : List A) (b c k : ℕ) → b ≤ c → outcome f xs b ≡ Found k → outcome f xs c ≡ Found k
  found_stays xs b c k l e = let h = said xs b (Found k) e in answer xs c (Found k) (h.0, omega (arith, h.1), h.2)

  pub none_stays : (xs : List A) (b c k : ℕ) → b ≤ c → outcome f xs b ≡ None k → outcome f xs c ≡ None k
  none_stays xs b c k l e = let h = said xs b (None k) e in answer xs c (None k) (h.0, omega (arith, h.1), h.2)

  -- ---- the run

  -- one part of a list after the other
  pub seek_append : (xs ys : List A) (b : ℕ) → seek f (xs ++ ys) b ≡ then (seek f xs b) (seek f ys)
  unfolding seek
  seek_append [] ys b = refl
  seek_append (x ∷ xs) ys zero = refl
  seek_append (x ∷ xs) ys (suc b) = go (f x) (seek_append xs ys b)
    where
      go : (t : Bool) → seek f (xs ++ ys) b ≡ then (seek f xs b) (seek f ys) → cond t (hit x b) (seek f (xs ++ ys) b) ≡ then (cond t (hit x b) (seek f xs b)) (seek f ys)
      go true e = refl
      go false e = e

  -- where a run from the budget b ends, the first one passed standing at p: there, past the whole list, or inside it
  abbrev EndsBy : ℕ → List A → ℕ → A → Run A → Type 0
  EndsBy p xs b d (hit y c) = (p < length xs) × (b ≡ p + suc c) × (y ≡ get_or xs p d)
  EndsBy p xs b d (through c) = (length xs ≤ p) × (b ≡ length xs + c)
  EndsBy p xs b d spent = (b ≤ p) × (b < length xs)

  abbrev pub Ends : List A → ℕ → A → Run A → Type 0
  Ends xs = EndsBy (place f xs) xs

  pub seek_ends : (xs : List A) (b : ℕ) (d : A) → Ends xs b d (seek f xs b)
  unfolding seek place
  seek_ends [] b d = (zero-le, omega arith)
  seek_ends (x ∷ xs) zero d = (zero-le, omega arith)
  seek_ends (x ∷ xs) (suc b) d = go (f x) (seek f xs b) (seek_ends xs b d)
    where
      go : (t : Bool) (r : Run A) → Ends xs b d r → EndsBy (cond t 0 (suc (place f xs))) (x ∷ xs) (suc b) d (cond t (hit x b) r)
      go true r h = (omega arith, omega arith, refl)
      go false (hit y c) h = (omega arith, omega arith, h.2)
      go false (through c) h = (omega arith, omega arith)
      go false spent h = (omega arith, omega arith)

  ends_says : (xs : List A) (b : ℕ) (d : A) (r : Run A) → Ends xs b d r → Says xs b (told b r)
  ends_says xs b d (hit y c) h = (h.0, omega (arith, h.1), omega (arith, h.1))
  ends_says xs b d (through c) h = (h.0, omega (arith, h.1), omega (arith, h.1))
  ends_says xs b d spent h = (h.0, h.1, refl)

  -- the run tells the answer
  pub seek_told : (xs : List A) (b : ℕ) (d : A) → told b (seek f xs b) ≡ outcome f xs b
  seek_told xs b d = sym (answer xs b (told b (seek f xs b)) (ends_says xs b d (seek f xs b) (seek_ends xs b d)))

-- ---- two lists, or two tests

-- an answer goes by the place and the list's length
outcome_by : {A B : Type 0} (f : A → Bool) (g : B → Bool) (xs : List A) (ys : List B) (b : ℕ) → place f xs ≡ place g ys → length xs ≡ length ys → outcome f xs b ≡ outcome g ys b
unfolding outcome
outcome_by f g xs ys b p l = rw (p, l)

place_map : {A B : Type 0} (g : A → B) (f : B → Bool) (xs : List A) → place f (map g xs) ≡ place (λ x. f (g x)) xs
unfolding place
place_map g f [] = refl
place_map g f (x ∷ xs) = ap (λ (k : ℕ). cond (f (g x)) 0 (suc k)) (place_map g f xs)

pub outcome_map : {A B : Type 0} (g : A → B) (f : B → Bool) (xs : List A) (b : ℕ) → outcome f (map g xs) b ≡ outcome (λ x. f (g x)) xs b
outcome_map g f xs b = outcome_by f (λ x. f (g x)) (map g xs) xs b (place_map g f xs) (length-map xs g)

pub outcome_same : {A : Type 0} (f g : A → Bool) (xs : List A) (d : A) (b : ℕ) → ((i : ℕ) → i < length xs → f (get_or xs i d) ≡ g (get_or xs i d)) → outcome f xs b ≡ outcome g xs b
outcome_same f g xs d b h =
    outcome_by f g xs xs b (place_least f xs d ∙ least_ext (length xs) (λ i. f (get_or xs i d)) (λ i. g (get_or xs i d)) h ∙ sym (place_least g xs d)) refl
