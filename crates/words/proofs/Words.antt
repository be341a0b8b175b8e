-- The table of words by kind and order, and the words by place beside it.
use Prim.Native.Nat.{ℕ, ◌+◌, ◌≤◌, ◌<◌}
use mathlib.Core.Bool.{Bool, false, and-false}
use mathlib.Core.List.{List, [], ◌∷◌, map}
use mathlib.Core.Path.{◌≡◌, refl, ap, ◌∙◌, fun_ext}
use mathlib.Core.Logic.{⊎_elim}
use native.Mathlib.Omega.{arith}
use lib.Dec.{ltb}
use lib.ListN.{get_or, get_or-eq_default}
use borrow.Author.Tests.{le-ltb, ne_eqb}
use Rattle.rows.specs.Sets.{either}
use Rattle.rows.specs.Numbers.{bit, number, listed}
use Rattle.rows.specs.Laws.Truth.{lt_or_le, eq_or_ne}
use Rattle.rows.proofs.Laws.Loops.{collect_done}
use Rattle.rows.proofs.Laws.Bits.{number_bits}
use Rattle.rows.specs.Laws.Lists.{listed_same}
use Rattle.model.specs.Words.{word, word_list}
use Rattle.model.specs.declared.Action.{Action}
use Rattle.model.specs.declared.MemoryOrder.TheVariants.{Relaxed, Consume, Acquire, Release, AcqRel, SeqCst}
use Rattle.model.specs.declared.ActionKind.{ActionKind}
use Rattle.model.specs.declared.ActionKind.TheVariants.{Lock, Unlock, AtomicLoad, AtomicStore, ReadModifyWrite, Load, Store, Fence}
use Rattle.words.specs.Sheet.{kind_index, place_words}

-- there are twenty words
word_out : (w : ℕ) (x : Action) (q : ℕ) → 20 ≤ w → word w x q ≡ false
unfolding word
word_out w x q l = ap (λ (f : Action → ℕ → Bool). f x q) (get_or-eq_default word_list (λ x q. false) l)

-- the words that an action has by its kind and order, as a number
unfoldable pub kind_numbers : Action → ℕ
kind_numbers x = number 20 (λ w. word w x 3)

abbrev pub of : ActionKind → Action
of k = record { what = k; thread = 0; place = 0; read = 0; written = 0 }

abbrev pub kinds : List ActionKind
kinds =
    Lock ∷ Unlock ∷ Load ∷ Store
    ∷ AtomicLoad Relaxed ∷ AtomicLoad Consume ∷ AtomicLoad Acquire ∷ AtomicLoad Release ∷ AtomicLoad AcqRel ∷ AtomicLoad SeqCst
    ∷ AtomicStore Relaxed ∷ AtomicStore Consume ∷ AtomicStore Acquire ∷ AtomicStore Release ∷ AtomicStore AcqRel ∷ AtomicStore SeqCst
    ∷ ReadModifyWrite Relaxed ∷ ReadModifyWrite Consume ∷ ReadModifyWrite Acquire ∷ ReadModifyWrite Release ∷ ReadModifyWrite AcqRel ∷ ReadModifyWrite SeqCst
    ∷ Fence Relaxed ∷ Fence Consume ∷ Fence Acquire ∷ Fence Release ∷ Fence AcqRel ∷ Fence SeqCst ∷ []

-- the table: one number to a kind
unfoldable pub kind_table : List ℕ
kind_table = map (λ k. kind_numbers (of k)) kinds

at_kind : (k : ActionKind) → get_or kind_table (kind_index k) 0 ≡ kind_numbers (of k)
unfolding kind_table
at_kind Lock = refl
at_kind Unlock = refl
at_kind Load = refl
at_kind Store = refl
at_kind (AtomicLoad Relaxed) = refl
at_kind (AtomicLoad Consume) = refl
at_kind (AtomicLoad Acquire) = refl
at_kind (AtomicLoad Release) = refl
at_kind (AtomicLoad AcqRel) = refl
at_kind (AtomicLoad SeqCst) = refl
at_kind (AtomicStore Relaxed) = refl
at_kind (AtomicStore Consume) = refl
at_kind (AtomicStore Acquire) = refl
at_kind (AtomicStore Release) = refl
at_kind (AtomicStore AcqRel) = refl
at_kind (AtomicStore SeqCst) = refl
at_kind (ReadModifyWrite Relaxed) = refl
at_kind (ReadModifyWrite Consume) = refl
at_kind (ReadModifyWrite Acquire) = refl
at_kind (ReadModifyWrite Release) = refl
at_kind (ReadModifyWrite AcqRel) = refl
at_kind (ReadModifyWrite SeqCst) = refl
at_kind (Fence Relaxed) = refl
at_kind (Fence Consume) = refl
at_kind (Fence Acquire) = refl
at_kind (Fence Release) = refl
at_kind (Fence AcqRel) = refl
at_kind (Fence SeqCst) = refl

kind_only : (x : Action) → kind_numbers (of x.what) ≡ kind_numbers x
unfolding kind_numbers number word
kind_only x = refl

-- the table's number of a kind
pub table_words : (t : List ℕ) (x : Action) → t ≡ kind_table → bit (get_or t (kind_index x.what) 0) ≡ (λ w. word w x 3)
unfolding kind_numbers
table_words t x e = rw (e, at_kind x.what, kind_only x) (number_bits 20 (λ w. word w x 3) ∙ collect_done (λ w. word w x 3) 20 (λ w l. word_out w x 3 l))

-- what an action has by its place, and what it has at no place
few : (x : Action) (q : ℕ) → listed 20 (either (place_words q) (λ w. word w x 3)) ≡ listed 20 (λ w. word w x q)
unfolding listed word
few x q = ⊎_elim (λ (e : q ≡ 0). rw e) (λ (n0 : q ≡ 0 → ⊥). ⊎_elim (λ (e : q ≡ 1). rw e) (λ (n1 : q ≡ 1 → ⊥). ⊎_elim (λ (e : q ≡ 2). rw e)
    (λ (n2 : q ≡ 2 → ⊥). let l : 3 ≤ q = omega arith in rw (le-ltb q 3 l, ne_eqb q 0 n0, ne_eqb q 1 n1, ne_eqb q 2 n2)) (eq_or_ne q 2)) (eq_or_ne q 1)) (eq_or_ne q 0)

few_out : (w q : ℕ) → 20 ≤ w → place_words q w ≡ false
few_out w q l = ⊎_elim (λ (m : q < 3). rw (ne_eqb w (13 + q) (λ e. omega arith)) (and-false (ltb q 3))) (λ (m : 3 ≤ q). rw (le-ltb q 3 m)) (lt_or_le q 3)

pub words_both : (x : Action) (q : ℕ) → either (place_words q) (λ w. word w x 3) ≡ (λ w. word w x q)
words_both x q = fun_ext λ w. ⊎_elim
    (λ (l : w < 20). listed_same 20 (either (place_words q) (λ w. word w x 3)) (λ w. word w x q) (few x q) w l)
    (λ (l : 20 ≤ w). rw (word_out w x 3 l, word_out w x q l, few_out w q l))
    (lt_or_le w 20)
