-- Walks one after another, and of each member of a set, lowest first.
use Rattle.std.specs.Prelude.{ℕ, zero, suc, ◌-◌, ◌<◌, ◌≤◌, Bool, true, false, cond, not, ◌&&◌, List, [], ◌∷◌, ◌++◌, ◌≡◌, refl, eqb, leb, ltb, length, Ok, Err}
use Rattle.std.proofs.Common.{sym, ◌∙◌, subst, arith, lt-ltb, le-leb, leb-true}
use Rattle.rows.specs.Sets.{Set, Rel, any, least, single, without, before, count}
use Rattle.rows.specs.Numbers.{size, held}
use Rattle.rows.proofs.Laws.Quantifiers.{least_is, least_any, count_without}
use Rattle.rows.specs.Laws.Sets.{single_before}
use Rattle.rows.specs.Laws.Truth.{and_1, and_2, and_both, not_both, is_false, some_left}
use Rattle.model.specs.Model.{Book, filled}
use Rattle.model.specs.Laws.Placing.{Placing}
use Rattle.choices.specs.Lists.{over, adds}
use Rattle.choices.specs.Walks.{Run, hit, through, spent, arranged, spread, seek, then, passes}
use Rattle.choices.proofs.Laws.Lists.{over_least, over_none}
use Rattle.choices.specs.Laws.Outcomes.{seek_append}
use Rattle.search.specs.declared.Stop.{Stop}
use Rattle.search.specs.Finds.{Walked, Hit, Through, Spent, blank, replaced, Kept, Laid, Stands, Walks, WalksDesk, Ready}
use Rattle.search.specs.Laws.Edges.{placing_adds, back_again}

-- ---- one candidate

-- no budget is left for it
pub walks_refused : (e n : ℕ) (σ s : Book) → Walks e n (σ ∷ []) 0 s s Spent
unfolding seek
walks_refused e n σ s = record { stands = (refl, λ j q. refl) }

pub passed_at : (e n : ℕ) (σ s s' : Book) (b : ℕ) → (b ≡ 0 → ⊥) → passes e n σ ≡ true → Laid n σ s s' → Walks e n (σ ∷ []) b s s' (Hit (b - 1))
unfolding seek
passed_at e n σ s s' zero some q l = absurd (some refl)
passed_at e n σ s s' (suc b) some q l = let d : suc b - 1 ≡ b = omega arith in record { stands = rw (d, q) (refl, l) }

pub failed_at : (e n : ℕ) (σ s s' : Book) (b : ℕ) → (b ≡ 0 → ⊥) → passes e n σ ≡ false → Kept s s' → Walks e n (σ ∷ []) b s s' (Through (b - 1))
unfolding seek
failed_at e n σ s s' zero some q k = absurd (some refl)
failed_at e n σ s s' (suc b) some q k = let d : suc b - 1 ≡ b = omega arith in record { stands = rw (d, q) (refl, k) }

-- ---- one list after another

-- a store that was kept, then laid or kept
narrow : (j : ℕ) → leb 4 j && ltb j 18 ≡ false → leb 7 j && ltb j 18 ≡ false
narrow j e = is_false (leb 7 j && ltb j 18) λ q.
    let l : 7 ≤ j = leb-true 7 j (and_1 (leb 7 j) (ltb j 18) q) in
    not_both (and_both (le-leb 4 j (omega arith)) (and_2 (leb 7 j) (ltb j 18) q)) e

stands_after : (n : ℕ) (u : Run Book) (s s₁ s₂ : Book) (r : Walked) → Kept s s₁ → Stands n u s₁ s₂ r → Stands n u s s₂ r
stands_after n (hit σ b) s s₁ s₂ r k h = (h.0, λ j. h.1 j ∙ go j (leb 4 j && ltb j 18) refl)
  where
    go : (j : ℕ) (t : Bool) → leb 4 j && ltb j 18 ≡ t → cond t (filled n σ j) (s₁ j) ≡ cond t (filled n σ j) (s j)
    go j true e = refl
    go j false e = k j (narrow j e)
stands_after n (through b) s s₁ s₂ r k h = (h.0, λ j e. h.1 j e ∙ k j e)
stands_after n spent s s₁ s₂ r k h = (h.0, λ j e. h.1 j e ∙ k j e)

-- what follows a walk: the walk over ys if it went through, else nothing more
abbrev pub Follows : (e n : ℕ) (ys : List Book) (s₁ s₂ : Book) (r : Walked) → Walked → Type 0
Follows e n ys s₁ s₂ r (Ok c) = Walks e n ys c s₁ s₂ r
Follows e n ys s₁ s₂ r (Err x) = (r ≡ Err x) × (s₂ ≡ s₁)

pub walks_then : {e n : ℕ} {xs : List Book} (ys : List Book) {b : ℕ} {s s₁ s₂ : Book} {r₁ r : Walked} → Walks e n xs b s s₁ r₁ → Follows e n ys s₁ s₂ r r₁ → Walks e n (xs ++ ys) b s s₂ r
walks_then {e} {n} {xs} ys {b} {s} {s₁} {s₂} {r₁} {r} g h = record { stands = rw (seek_append (passes e n) xs ys b) (go (seek (passes e n) xs b) g.stands) }
  where
    told : (t : Walked) → r₁ ≡ t → Follows e n ys s₁ s₂ r t
    told t q = subst (Follows e n ys s₁ s₂ r) q h

    go : (u : Run Book) → Stands n u s s₁ r₁ → Stands n (then u (seek (passes e n) ys)) s s₂ r
    go (hit σ c) w = let f = told (Hit c) w.0 in (f.0, λ j. rw f.1 (w.1 j))
    go (through c) w = stands_after n (seek (passes e n) ys c) s s₁ s₂ r w.1 (told (Through c) w.0).stands
    go spent w = let f = told Spent w.0 in (f.0, λ j q. rw f.1 (w.1 j q))

same_list : {e n b : ℕ} {s s' : Book} {r : Walked} {xs ys : List Book} → xs ≡ ys → Walks e n xs b s s' r → Walks e n ys b s s' r
same_list {e} {n} {b} {s} {s'} {r} q h = subst (λ (l : List Book). Walks e n l b s s' r) q h

-- the walk of a desk's book over a list that is the same by another name
pub same_walk : {e n : ℕ} {f g : Book → List Book} {b : ℕ} {d s d' s' : List ℕ} {r : Walked} → f (blank (held d)) ≡ g (blank (held d)) → WalksDesk e n f b d s d' s' r → WalksDesk e n g b d s d' s' r
same_walk q h = record { walks = same_list q h.walks; back = h.back }

-- nothing to walk
walks_none : (e n b : ℕ) (s : Book) → Walks e n [] b s s (Through b)
unfolding seek
walks_none e n b s = record { stands = (refl, λ j q. refl) }

-- ---- desk and store before a walk

module _ {n p : ℕ} {d d' s s' : List ℕ} (h : Ready n p d s) (dl : length d' ≡ length d) (sl : length s' ≡ length s) where
  ready_by : Placing n (blank (held d')) → Ready n p d' s'
  ready_by q = record { rows = h.rows; desk_long = dl ∙ h.desk_long; store_room = rw sl h.store_room; placing = q }

  pub ready_on : blank (held d') ≡ blank (held d) → Ready n p d' s'
  ready_on e = ready_by (rw e h.placing)

  -- the book ρ has edges more
  pub ready_given : {k : ℕ} (w : ℕ) (x : Set) {ρ : Book} → k < 7 → ρ ≡ blank (held d) → blank (held d') ≡ adds k w x ρ → Ready n p d' s'
  ready_given {k} w x l same gave = ready_by (rw (gave, same) (placing_adds n k w x (blank (held d)) l h.placing))

-- ---- the members of a set tried one after another, lowest first

-- What a loop tries: member w gives the book the edges from w to each of `gives w` in relation k, and `lists w` has the candidates of that book.
pub record Tries : Type 0 where
  pub edition : ℕ
  pub n : ℕ
  pub k : ℕ
  pub gives : ℕ → Set
  pub lists : ℕ → Book → List Book

-- each as the source of b
abbrev pub sourcing : (edition n p : ℕ) (π : Rel) (rest b : ℕ) → Tries
sourcing edition n p π rest b = record { edition = edition; n = n; k = 4; gives = λ w. single b; lists = λ w. spread n p π rest }

-- each as the next one of s in relation k
abbrev pub arranging : (edition n p : ℕ) (π : Rel) (rest k : ℕ) (s : Set) → Tries
arranging edition n p π rest k s = record { edition = edition; n = n; k = k; gives = without s; lists = λ w. arranged (count size (without s w)) k (without s w) (spread n p π rest) }

-- the candidates of member w, the book being σ
abbrev pub lists_of : Tries → Book → ℕ → List Book
lists_of T σ w = T.lists w (adds T.k w (T.gives w) σ)

-- What the loop keeps: the desk has its book again, and what is left to walk, the members of o within the budget m, is the whole answer.
pub record Trying (T : Tries) (desk₀ store₀ : List ℕ) (o₀ : Set) (m₀ : ℕ) (desk store : List ℕ) (o : Set) (m : ℕ) : Type 0 where
  pub desk_long : length desk ≡ length desk₀
  pub store_long : length store ≡ length store₀
  pub same : blank (held desk) ≡ blank (held desk₀)
  pub members : (x : ℕ) → o x ≡ true → o₀ x ≡ true
  pub left : (s : Book) (r : Walked) → Walks T.edition T.n (over size o (lists_of T (blank (held desk₀)))) m (held store) s r → Walks T.edition T.n (over size o₀ (lists_of T (blank (held desk₀)))) m₀ (held store₀) s r

-- One turn: the lowest member is tried, and its edges are taken back.
pub record Tried (T : Tries) (desk store : List ℕ) (o : Set) (m : ℕ) (desk' store' : List ℕ) (r : Walked) : Type 0 where
  pub desk_long : length desk' ≡ length desk
  pub store_long : length store' ≡ length store
  pub back : blank (held desk') ≡ blank (held desk)
  pub some : any size o ≡ true
  pub walks : Walks T.edition T.n (lists_of T (blank (held desk)) (least size o)) m (held store) (held store') r

-- a turn by the walk of the member tried
pub tried : {T : Tries} {desk desk' store store' : List ℕ} {o : Set} {m : ℕ} {r : Walked} {w : ℕ}
    → length desk' ≡ length desk → length store' ≡ length store → any size o ≡ true → w ≡ least size o
    → WalksDesk T.edition T.n (λ σ. lists_of T σ w) m desk store desk' store' r → Tried T desk store o m desk' store' r
tried dl sl some low walked = record {
  desk_long = dl;
  store_long = sl;
  back = walked.back;
  some = some;
  walks = rw low at walked.walks;
}

-- a walk of the book with more edges, between giving them and taking them back
pub given_walk : {e n m : ℕ} {f : Book → List Book} {d d₁ d₂ d₃ s s' : List ℕ} {r : Walked} (k w : ℕ) (x : Set) {old : Set}
    → old ≡ blank (held d) k w → blank (held d₁) ≡ adds k w x (blank (held d)) → WalksDesk e n f m d₁ s d₂ s' r → blank (held d₃) ≡ replaced k w old (blank (held d₂))
    → WalksDesk e n (λ σ. f (adds k w x σ)) m d s d₃ s' r
given_walk {d = d} {d₂ = d₂} {d₃ = d₃} k w x {old} was gave walked put = record {
  walks = rw gave at walked.walks;
  back = back_again k w x old (blank (held d)) (blank (held d₂)) (blank (held d₃)) (walked.back ∙ gave) was put;
}

-- the lowest member has a row
pub low_below : (o : Set) {w : ℕ} {r : Bool} → r ≡ not (any size o) → not r ≡ true → w ≡ least size o → w < size
low_below o e h low = rw low (least_any size o (some_left e h))

-- b alone, as a row has it
pub single_below : {b : ℕ} → b < size → before (single b) size ≡ single b
single_below {b} l = single_before b size ∙ rw (lt-ltb b size l)

module _ {T : Tries} {desk₀ store₀ : List ℕ} {o₀ : Set} {m₀ : ℕ} where
  pub try_none : Trying T desk₀ store₀ o₀ m₀ desk₀ store₀ o₀ m₀
  try_none = record { desk_long = refl; store_long = refl; same = refl; members = λ x q. q; left = λ s r h. h }

  module _ {desk store : List ℕ} {o : Set} {m : ℕ} (h : Trying T desk₀ store₀ o₀ m₀ desk store o m) where
    -- the walk over all members
    abbrev Whole : List ℕ → List ℕ → Walked → Type 0
    Whole = WalksDesk T.edition T.n (λ σ. over size o₀ (lists_of T σ)) m₀ desk₀ store₀

    pub try_done : any size o ≡ false → Whole desk store (Through m)
    try_done none = record {
      walks = h.left (held store) (Through m) (same_list (sym (over_none size o (lists_of T (blank (held desk₀))) none)) (walks_none T.edition T.n m (held store)));
      back = h.same;
    }

    -- fewer are left without the lowest
    pub try_fewer : {w : ℕ} {x : Set} → any size o ≡ true → w ≡ least size o → x ≡ without o₀ w → count size x < count size o₀
    try_fewer some low e =
        let l : least size o < size = least_any size o some in
        let q : o₀ (least size o) ≡ true = h.members (least size o) ((least_is size o).hit l) in
        rw (e, low) (omega (arith, count_without size o₀ (least size o) l q))

    module _ {desk' store' : List ℕ} {r : Walked} (d : Tried T desk store o m desk' store' r) where
      abbrev others : List Book
      others = over size (without o (least size o)) (lists_of T (blank (held desk₀)))

      -- what follows the turn is the rest of the answer
      try_then : (s : Book) (r' : Walked) → Follows T.edition T.n others (held store') s r' r
          → Walks T.edition T.n (over size o₀ (lists_of T (blank (held desk₀)))) m₀ (held store₀) s r'
      try_then s r' f = h.left s r' (same_list (sym (over_least size o (lists_of T (blank (held desk₀))) d.some)) (walks_then others (rw h.same at d.walks) f))

      pub try_stop : (x : Stop) → r ≡ Err x → Whole desk' store' (Err x)
      try_stop x q = record { walks = try_then (held store') (Err x) (rw q (refl, refl)); back = d.back ∙ h.same }

      pub try_hit : (c : ℕ) → r ≡ Hit c → Whole desk' store' (Hit c)
      try_hit c q = try_stop _ q

      pub try_spent : r ≡ Spent → Whole desk' store' Spent
      try_spent q = try_stop _ q

      pub try_more : (c : ℕ) → r ≡ Through c → Trying T desk₀ store₀ o₀ m₀ desk' store' (without o (least size o)) c
      try_more c q = record {
        desk_long = d.desk_long ∙ h.desk_long;
        store_long = d.store_long ∙ h.store_long;
        same = d.back ∙ h.same;
        members = λ x e. h.members x (and_1 (o x) (not (eqb x (least size o))) e);
        left = λ s r' w. try_then s r' (rw q w);
      }
