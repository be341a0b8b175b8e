-- Why the conditions are these: two drawings that are passed and race-free, and have no serial order. H, by edition 1, has all that edition 2 asks of the accesses, so edition 1 keeps its own condition;
-- the other one, by edition 2, lacks the proviso alone: a plain and an atomic access of one thread at one place, one a write, are sequenced.
use Rattle.std.specs.Prelude.{ℕ, ◌<◌, true, false, not, ◌||◌, List, ◌≡◌, refl, T, eqb}
use Rattle.std.proofs.Common.{arith, eqb→eq}
use Rattle.rows.specs.Sets.{Rel}
use Rattle.model.specs.declared.Verdict.TheVariants.{Passed}
use Rattle.model.specs.Candidates.{Candidate}
use Rattle.model.specs.Model.{Book, Sb, Asw, Sc, Rf, read, write, fence, same_place, some, each}
use Rattle.model.specs.Judge.{book, verdict, races, unsequenced, indeterminates, strong_actions, none_loose, fit}
use Rattle.model.specs.Drawings.{H, stale_in_thread, revised, computing}
use Rattle.order.specs.Serial.{nth, Serial}
use Rattle.order.specs.Laws.Due.{each_e}

-- by the rules of its edition passed, with no race, no indeterminate read and no fence
abbrev pub Blameless : Candidate → Type 0
Blameless X =
    (verdict X.edition X.n (book X) ≡ Passed) × (races X.n (book X) ≡ 0) × (unsequenced X.n (book X) ≡ 0) × (indeterminates X.n (book X) ≡ 0)
    × (some X.n (book X) (fence X.n (book X)) ≡ false)

-- ---- what stands in every serial order of a candidate

module _ (X : Candidate) (o : List ℕ) (S : Serial X o) where
  abbrev n : ℕ
  n = X.n

  abbrev ρ : Book
  ρ = book X

  -- a stands before b
  abbrev Ahead : ℕ → ℕ → Type 0
  Ahead a b = (i j : ℕ) → i < n → j < n → nth o i ≡ a → nth o j ≡ b → i < j

  -- since an edge of r, a relation that o keeps, leads from a to b
  by_edge : (r : Rel) → ((i j : ℕ) → i < n → j < n → T (r (nth o i) (nth o j)) → i < j) → (a b : ℕ) → T (r a b) → Ahead a b
  by_edge r keeps a b t i j li lj p q = keeps i j li lj (rw (p, q) t)

  in_turn : (a b c : ℕ) → b < n → Ahead a b → Ahead b c → Ahead a c
  in_turn a b c lb f g i k li lk p r = let (j, lj, q) = S.whole b lb in omega (arith, f i j li lj p q, g j k lj lk q r)

  -- no other write of its place stands between r and w, from which alone it reads
  never_between : (w c r : ℕ) → c < n → r < n → T (read n ρ r) → T (each n ρ λ a. not (Rf n ρ a r) || eqb a w) → T (write n ρ c) → T (same_place n ρ c r) → Ahead w c → Ahead c r → ⊥
  never_between w c r lc lr rd alone wr s before after =
      let (j, lj, q) = S.whole r lr in
      let (k, lk, m) = S.whole c lc in
      let (i, l, rf, _, _, none) = S.reads j lj (rw q rd) in
      let li : i < n = omega arith in
      let source : nth o i ≡ w = eqb→eq (nth o i) w (each_e n (λ a. Rf n ρ a r) (λ a. eqb a w) alone (nth o i) (S.bound i li) (rw q at rf)) in
      none k (before i k li lk source m) (after k j lk lj m q) (rw m wr) (rw (m, q) s)

-- ---- H, by edition 1

-- it has what edition 2 asks of the accesses,
pub H_fits : Blameless H × (fit 2 H.n (book H) ≡ true)
unfolding computing
H_fits = ((refl, refl, refl, refl, refl), refl)

-- and no list is its serial order: 5 reads x from 0, and 2 writes it between (0 sb 1, 1 asw 2, 2 sc 5)
pub H_unordered : (o : List ℕ) → Serial H o → ⊥
unfolding computing
H_unordered o S =
    never_between H o S 0 2 5 (omega arith) (omega arith) tt tt tt tt
    (in_turn H o S 0 1 2 (omega arith) (by_edge H o S (Sb 6 (book H)) S.keeps_sb 0 1 tt) (by_edge H o S (Asw 6 (book H)) S.keeps_asw 1 2 tt))
    (by_edge H o S (Sc 6 (book H)) S.keeps_sc 2 5 tt)

-- ---- without the proviso, by edition 2

abbrev stale : Candidate
stale = revised stale_in_thread

-- its atomic actions are seq_cst, and 1 and 3 are not sequenced,
pub stale_fits : Blameless stale × (strong_actions 4 (book stale) ≡ true) × (none_loose 4 (book stale) ≡ false)
unfolding computing
stale_fits = ((refl, refl, refl, refl, refl), refl, refl)

-- and no list is its serial order: 3 reads x from 0, and 1 writes it between (0 sb 1, 1 sb 2, 2 sc 3)
pub stale_unordered : (o : List ℕ) → Serial stale o → ⊥
unfolding computing
stale_unordered o S =
    never_between stale o S 0 1 3 (omega arith) (omega arith) tt tt tt tt
    (by_edge stale o S (Sb 4 (book stale)) S.keeps_sb 0 1 tt)
    (in_turn stale o S 1 2 3 (omega arith) (by_edge stale o S (Sb 4 (book stale)) S.keeps_sb 1 2 tt) (by_edge stale o S (Sc 4 (book stale)) S.keeps_sc 2 3 tt))
