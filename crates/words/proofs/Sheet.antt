-- One action more on the sheet.
use Prim.Native.Nat.{ℕ, ◌+◌, ◌*◌, ◌<◌}
use mathlib.Core.Bool.{true, false, not, cond}
use mathlib.Core.List.{List}
use mathlib.Core.Path.{◌≡◌, refl, sym, ap, ◌∙◌, subst, fun_ext}
use mathlib.Core.Logic.{⊎_elim}
use native.Mathlib.Omega.{arith}
use lib.Dec.{eqb, ltb}
use lib.ListN.{get_or, length, set}
use lib.Seq.{get_or-set_same, get_or-set_other}
use borrow.Author.Count.{below_more}
use borrow.Author.Tests.{lt-ltb, eq-eqb, ne_eqb}
use Rattle.rows.specs.Sets.{when, single}
use Rattle.rows.specs.Numbers.{bit, width, size}
use Rattle.rows.specs.Laws.Truth.{test, eq_or_ne}
use Rattle.model.specs.Actions.{no_action}
use Rattle.model.specs.Candidates.{is_fence}
use Rattle.model.specs.Words.{word, place_kind}
use Rattle.model.specs.declared.Action.{Action}
use Rattle.words.specs.Sheet.{note, noted, Noted, Small, Sheet}

-- one number written
pub note_set : (s : List ℕ) (k a v : ℕ) → a < size → size * k + a < length s → (j b : ℕ) → b < size → note (set s (size * k + a) v) j b ≡ noted k a v (note s) j b
note_set s k a v la fits j b lb = ⊎_elim
    (λ (e : b ≡ a). ⊎_elim
    (λ (g : j ≡ k). rw (e, g, eq-eqb a a refl, eq-eqb k k refl) (get_or-set_same s (size * k + a) v 0 fits))
    (λ (g : j ≡ k → ⊥). rw (e, eq-eqb a a refl, ne_eqb j k g) (get_or-set_other s (size * k + a) (size * j + a) v 0 (λ q. g (omega arith))))
    (eq_or_ne j k))
    (λ (e : b ≡ a → ⊥). rw (ne_eqb b a e) (get_or-set_other s (size * k + a) (size * j + b) v 0 (λ q. e (omega arith))))
    (eq_or_ne b a)

-- a place that has room is a bit of its own
place_room : (x : Action) → Small x → when (not (is_fence x)) (when (ltb x.place width) (single x.place)) ≡ when (not (is_fence x)) (single x.place)
place_room x s = ⊎_elim (λ (e : is_fence x ≡ true). rw e) (λ (e : is_fence x ≡ false). rw (lt-ltb x.place width (s.low_place e))) (test (is_fence x))

-- the five numbers of action a written
module _ (a : ℕ) (x : Action) (q words place thread : ℕ) (old new : List ℕ) (la : a < size)
    (wrote : (k b : ℕ) → b < size → note new k b ≡ noted 4 a x.written (noted 3 a x.read (noted 2 a thread (noted 1 a place (noted 0 a words (note old))))) k b)
    (is_words : bit words ≡ (λ w. word w x q))
    (is_place : bit place ≡ when (not (bit words 4)) (when (ltb x.place width) (single x.place)))
    (is_thread : bit thread ≡ when (ltb x.thread width) (single x.thread)) where
  here : (k : ℕ) → note new k a ≡ cond (eqb k 4) x.written (cond (eqb k 3) x.read (cond (eqb k 2) thread (cond (eqb k 1) place (cond (eqb k 0) words (note old k a)))))
  here k = wrote k a la ∙ rw (eq-eqb a a refl)

  noted_here : Small x → Noted x q (λ k. note new k a)
  unfolding word
  noted_here room =
      record {
        words = ap bit (here 0) ∙ is_words;
        place = ap bit (here 1) ∙ is_place ∙ rw is_words (place_room x room);
        thread = ap bit (here 2) ∙ is_thread ∙ rw (lt-ltb x.thread width room.low_thread);
        read = here 3;
        written = here 4;
      }

  pub sheet_more : (acts : List Action) (places : List ℕ) → Sheet a acts places old → get_or acts a no_action ≡ x → get_or places x.place 3 ≡ q → Small x → Sheet (a + 1) acts places new
  sheet_more acts places s is_x is_q room =
      record {
        notes = below_more (λ (b : ℕ). Noted (get_or acts b no_action) (place_kind a acts places b) (λ k. note new k b)) a
            (λ b l. subst (Noted _ _) (fun_ext λ k. sym (wrote k b (omega arith) ∙ rw (ne_eqb b a (λ e. omega arith)))) (s.notes b l))
            (rw (is_x, is_q) (noted_here room));
        small = below_more (λ (b : ℕ). Small (get_or acts b no_action)) a s.small (rw is_x room);
      }
