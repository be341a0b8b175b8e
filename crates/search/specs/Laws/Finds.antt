-- From what a walk came to, the answer of a search.
use Rattle.std.specs.Prelude.{ℕ, ◌-◌, ◌≤◌, Bool, true, false, cond, ◌&&◌, List, ◌≡◌, refl, leb, ltb, Ok, Err}
use Rattle.std.proofs.Common.{zero-le, ap, ◌∙◌, arith}
use Rattle.rows.specs.Sets.{never}
use Rattle.model.specs.Model.{Book}
use Rattle.choices.specs.declared.Outcome.{Outcome}
use Rattle.choices.specs.declared.Outcome.TheVariants.{Found, None, Undecided}
use Rattle.choices.specs.Outcomes.{place}
use Rattle.choices.specs.Walks.{Run, hit, through, spent, seek, passes, told}
use Rattle.choices.specs.Laws.Outcomes.{Ends, seek_ends, seek_told}
use Rattle.search.specs.declared.Stop.TheVariants.{Hit as AtHit, Spent as AtEnd}
use Rattle.search.specs.Finds.{Walked, nothing, Kept, Stands, Walks, Cleared, Leaves, Finds}

-- the budget that a walk leaves
abbrev pub budget_left : Walked → ℕ
budget_left (Err (AtHit c)) = c
budget_left (Ok c) = c
budget_left (Err AtEnd) = 0

-- the answer for a walk that began with the budget b
abbrev pub answered : ℕ → Walked → Outcome
answered b (Err (AtHit c)) = Found (b - c)
answered b (Ok c) = None (b - c)
answered b (Err AtEnd) = Undecided b

-- the store is cleared after a walk that hit nothing
abbrev pub Tidied : Book → Book → Walked → Type 0
Tidied s₁ s₂ (Err (AtHit c)) = s₂ ≡ s₁
Tidied s₁ s₂ (Ok c) = Cleared s₁ s₂
Tidied s₁ s₂ (Err AtEnd) = Cleared s₁ s₂

cleared_after : (s s₁ s₂ : Book) → Kept s s₁ → Cleared s₁ s₂ → Cleared s s₂
cleared_after s s₁ s₂ k h j = h j ∙ go (leb 7 j && ltb j 18) refl
  where
    go : (t : Bool) → leb 7 j && ltb j 18 ≡ t → cond t never (s₁ j) ≡ cond t never (s j)
    go true e = refl
    go false e = k j e

module _ {e n : ℕ} {xs : List Book} {b : ℕ} {s s₁ : Book} {r : Walked} (h : Walks e n xs b s s₁ r) where
  abbrev Ended : Run Book → Type 0
  Ended = Ends (passes e n) xs b nothing

  pub left_le : budget_left r ≤ b
  left_le = go (seek (passes e n) xs b) (seek_ends (passes e n) xs b nothing) h.stands
    where
      go : (u : Run Book) → Ended u → Stands n u s s₁ r → budget_left r ≤ b
      go (hit σ c) q w = rw w.0 (omega (arith, q.1))
      go (through c) q w = rw w.0 (omega (arith, q.1))
      go spent q w = rw w.0 zero-le

  pub finds : (s₂ : Book) → Tidied s₁ s₂ r → Finds e n xs b s s₂ (answered b r)
  finds s₂ d = record {
    answer = says (seek (passes e n) xs b) h.stands ∙ seek_told (passes e n) xs b nothing;
    left = go (seek (passes e n) xs b) (seek_ends (passes e n) xs b nothing) h.stands;
  }
    where
      says : (u : Run Book) → Stands n u s s₁ r → answered b r ≡ told b u
      says (hit σ c) w = ap (answered b) w.0
      says (through c) w = ap (answered b) w.0
      says spent w = ap (answered b) w.0

      go : (u : Run Book) → Ended u → Stands n u s s₁ r → Leaves n xs s s₂ (answered b r)
      go (hit σ c) q w =
          let i : b - c - 1 ≡ place (passes e n) xs = omega (arith, q.1) in
          let kept : s₂ ≡ s₁ = rw w.0 at d in
          rw (w.0, i) λ j. rw (kept, ← q.2) (w.1 j)
      go (through c) q w = rw w.0 (cleared_after s s₁ s₂ w.1 (rw w.0 at d))
      go spent q w = rw w.0 (cleared_after s s₁ s₂ w.1 (rw w.0 at d))
