-- Whether the edges of a row of asw lead to other threads: what it depends on, and what a loop over the row's members needs.
use Rattle.std.specs.Prelude.{ℕ, ◌<◌, ◌≤◌, true, false, ◌&&◌, ◌≡◌}
use Rattle.std.proofs.Math.Bool.{not}
use Rattle.std.proofs.Common.{sym, ap, ◌∙◌, eq-eqb, ne_eqb}
use Rattle.std.proofs.Math.Dec.{eqb}
use Rattle.rows.specs.Sets.{Set, any, least, both, without, before}
use Rattle.rows.specs.Numbers.{size}
use Rattle.rows.proofs.Laws.Loops.{Seeking, seek_more, seek_hit, seek_done, seek_cut}
use Rattle.rows.proofs.Laws.Quantifiers.{any_ext}
use Rattle.model.specs.declared.Action.{Action}
use Rattle.model.specs.Candidates.{to_others}

-- only the actions below n and the row matter
pub others_ext : (n : ℕ) (f g : ℕ → Action) (r q : Set) (a : ℕ) → a < n → ((i : ℕ) → i < n → f i ≡ g i) → r ≡ q → to_others n f r a ≡ to_others n g q a
unfolding to_others
others_ext n f g r q a l same row =
    rw (row, same a l)
    (ap not (any_ext n (λ b. q b && eqb (f b).thread (g a).thread) (λ b. q b && eqb (g b).thread (g a).thread) (λ b h. rw (same b h))))

-- the members of a row, lowest first, are asked for one of the thread `own`
abbrev pub Asking : (ℕ → Action) → ℕ → Set → Set → Type 0
Asking f own whole left = Seeking size whole (λ b. eqb (f b).thread own) left

module _ (f : ℕ → Action) (own : ℕ) (whole left : Set) (g : Asking f own whole left) where
  -- the lowest, k, is of another thread
  pub others_more : (k x : ℕ) → k ≡ least size left → x ≡ (f k).thread → (x ≡ own → ⊥) → Asking f own whole (without left (least size left))
  others_more k x low its ne = seek_more size whole (λ b. eqb (f b).thread own) left g (ne_eqb _ own (λ e. ne (its ∙ rw low e)))

  -- the row of a was cut at n
  module _ (n : ℕ) (r : Set) (a : ℕ) (few : n ≤ size) (cut : whole ≡ before r n) (of : own ≡ (f a).thread) where
    others_cut : not (any size (both whole (λ b. eqb (f b).thread own))) ≡ to_others n f r a
    unfolding to_others
    others_cut = rw (cut, of) (ap not (seek_cut n size r (λ b. eqb (f b).thread (f a).thread) few))

    -- the lowest is of its thread
    pub others_hit : any size left ≡ true → (k x : ℕ) → k ≡ least size left → x ≡ (f k).thread → x ≡ own → false ≡ to_others n f r a
    others_hit some k x low its e =
        ap not (sym (seek_hit size whole (λ b. eqb (f b).thread own) left g some (eq-eqb _ own (rw (← low) (sym its ∙ e))))) ∙ others_cut

    -- none is left
    pub others_done : any size left ≡ false → true ≡ to_others n f r a
    others_done empty = ap not (sym (seek_done size whole (λ b. eqb (f b).thread own) left g empty)) ∙ others_cut
