-- What two actions of one place share, and how the words of a book follow from its actions and places.
use Rattle.std.specs.Prelude.{ℕ, not, List, ◌≡◌, eqb, ltb, get_or}
use Rattle.std.proofs.Common.{sym, subst, ◌∙◌}
use Rattle.std.proofs.Math.Dec.{T, eqb→eq}
use Rattle.rows.specs.Sets.{Rel}
use Rattle.rows.specs.Laws.Truth.{and_l, and_r, and_i, eqb_i}
use Rattle.model.specs.declared.Action.{Action}
use Rattle.model.specs.Candidates.{is_fence}
use Rattle.model.specs.Words.{word, placed, act, place_kind, book_from}
use Rattle.model.specs.Model.{Book, entered, filled, at_mutex, at_plain, at_atomic, same_place}

-- same place is symmetric and transitive, and its kind is that of both
pub record Placing (n : ℕ) (ρ : Book) : Type 0 where
  pub place_sym : (a b : ℕ) → T (same_place n ρ a b) → T (same_place n ρ b a)
  pub place_trans : (a b c : ℕ) → T (same_place n ρ a b) → T (same_place n ρ b c) → T (same_place n ρ a c)
  pub at_mutex_too : (a b : ℕ) → T (same_place n ρ a b) → T (at_mutex n ρ b) → T (at_mutex n ρ a)
  pub at_plain_too : (a b : ℕ) → T (same_place n ρ a b) → T (at_plain n ρ b) → T (at_plain n ρ a)
  pub at_atomic_too : (a b : ℕ) → T (same_place n ρ a b) → T (at_atomic n ρ b) → T (at_atomic n ρ a)

-- ---- the book of n actions at places of these kinds, whatever the given relations

module _ (n : ℕ) (acts : List Action) (places : List ℕ) (σ : ℕ → Rel) where
  abbrev ρ : Book
  ρ = filled n (book_from n acts places σ)

  abbrev action : ℕ → Action
  action = act n acts places

  abbrev kind_at : ℕ → ℕ
  kind_at = place_kind n acts places

  -- the word of a kind that the book has is the action's
  pub word_out : (w a : ℕ) → T (ρ 18 w a) → T (word w (action a) (kind_at a))
  unfolding book_from entered
  word_out w a t = and_l (word w (action a) (kind_at a)) (ltb a n) t

  pub word_below : (w a : ℕ) → T (ρ 18 w a) → T (ltb a n)
  unfolding book_from entered
  word_below w a t = and_r (word w (action a) (kind_at a)) (ltb a n) t

  pub word_in : (w a : ℕ) → T (ltb a n) → T (word w (action a) (kind_at a)) → T (ρ 18 w a)
  unfolding book_from entered
  word_in w a l t = and_i (word w (action a) (kind_at a)) (ltb a n) t l

  record Placed (a b : ℕ) : Type 0 where
    la : T (ltb a n)
    lb : T (ltb b n)
    fa : T (not (is_fence (action a)))
    fb : T (not (is_fence (action b)))
    same : (action a).place ≡ (action b).place

  place_out : (a b : ℕ) → T (same_place n ρ a b) → Placed a b
  unfolding book_from entered
  place_out a b t =
      let p : T (placed (action a) (action b)) = search (and_l, and_r) in
      let e : T (eqb (action a).place (action b).place) = search (and_l, and_r) in
      record {
        la = search (and_l, and_r);
        lb = search (and_l, and_r);
        fa = search (and_l, and_r);
        fb = search (and_l, and_r);
        same = eqb→eq (action a).place (action b).place e;
      }

  place_in : (a b : ℕ) → Placed a b → T (same_place n ρ a b)
  unfolding book_from entered
  place_in a b p =
      let e : T (eqb (action a).place (action b).place) = eqb_i (action a).place (action b).place p.same in
      search (and_i)

  turned : (a b : ℕ) → Placed a b → Placed b a
  turned a b p = record { la = p.lb; lb = p.la; fa = p.fb; fb = p.fa; same = sym p.same }

  chained : (a b c : ℕ) → Placed a b → Placed b c → Placed a c
  chained a b c p q = record { la = p.la; lb = q.lb; fa = p.fa; fb = q.fb; same = p.same ∙ q.same }

  -- words of the place alone: w is 13, 14 or 15, the place's kind k
  kind_too : (k a b : ℕ) → Placed a b → T (eqb (kind_at b) k) → T (eqb (kind_at a) k)
  kind_too k a b p t = subst (λ (i : ℕ). T (eqb (get_or places i 3) k)) (sym p.same) t

  pub placing : Placing n ρ
  unfolding word
  placing =
      record {
        place_sym = λ a b t. place_in b a (turned a b (place_out a b t));
        place_trans = λ a b c s t. place_in a c (chained a b c (place_out a b s) (place_out b c t));
        at_mutex_too = λ a b s t. word_in 13 a (place_out a b s).la (kind_too 0 a b (place_out a b s) (word_out 13 b t));
        at_plain_too = λ a b s t. word_in 14 a (place_out a b s).la (kind_too 1 a b (place_out a b s) (word_out 14 b t));
        at_atomic_too = λ a b s t. word_in 15 a (place_out a b s).la (kind_too 2 a b (place_out a b s) (word_out 15 b t));
      }
