-- Lines one after another are read back, each where it stands; and so are edges, whatever follows them, as long as no edge that may come next does.
use Prim.Native.Nat.{ℕ, zero, suc, ◌+◌, ◌*◌, ◌<◌, ◌≤◌}
use Rattle.std.specs.Prelude.{true, false, cond, not, ◌≡◌, drop}
use mathlib.Core.List.{List, [], ◌++◌, append_assoc}
use Rattle.std.proofs.Math.Logic.{⊎_elim}
use Rattle.std.proofs.Common.{sym, ap, ◌∙◌, le_refl}
use native.Mathlib.Omega.{arith}
use Rattle.std.proofs.Math.ListN.{length, length-append}
use Rattle.std.proofs.lemmas.Bool.{not-true}
use Rattle.rows.specs.Sets.{Rel}
use Rattle.rows.specs.Numbers.{joined}
use Rattle.rows.specs.Laws.Truth.{test, top, lt_or_le, both_true, not_both, is_false}
use Rattle.model.specs.declared.Action.{Action}
use Rattle.model.specs.Limits.{most_actions, given_relations}
use Rattle.spelling.specs.Spelling.{edge_line, turn, starts, stands}
use Rattle.spelling.specs.Laws.Stands.{starts_own, after_line}
use Rattle.spelling.specs.Laws.Keys.{one_edge}
use Rattle.text.specs.Texts.{edge_lines, along, edge_next, edge_step, row_step, rows_step, relation_step, row_taken, edge_taken, barred}
use Rattle.text.specs.FirstBad.{NoEdge}

-- ---- parts one after another

-- a part stands at q, and Q holds of what follows it
pub record Left (s : List ℕ) (q : ℕ) (text : List ℕ) (Q : List ℕ → Type 0) : Type 0 where
  pub rest : List ℕ
  pub is : drop q s ≡ text ++ rest
  pub follows : Q rest

-- where Q holds of what follows a part, P holds from the part on, and the step from where it stands leads past it
record Part (s : List ℕ) (step : ℕ → ℕ) (text : List ℕ) (P Q : List ℕ → Type 0) : Type 0 where
  back : (r : List ℕ) → Q r → P (text ++ r)
  past : (q : ℕ) → Left s q text Q → step q ≡ q + length text

-- the same where what follows keeps more
over : {s : List ℕ} {q : ℕ} {text : List ℕ} {Q R : List ℕ → Type 0} → ((r : List ℕ) → R r → Q r) → Left s q text R → Left s q text Q
over f w = record { rest = w.rest; is = w.is; follows = f w.rest w.follows }

sooner : {s : List ℕ} {step : ℕ → ℕ} {text : List ℕ} {P Q R : List ℕ → Type 0} → Part s step text P Q → ((r : List ℕ) → R r → Q r) → Part s step text P R
sooner part f = record { back = λ r h. part.back r (f r h); past = λ q w. part.past q (over f w) }

module _ (s : List ℕ) (step : ℕ → ℕ → ℕ) (text : ℕ → List ℕ) (P : ℕ → List ℕ → Type 0) (n : ℕ)
    (each : (i : ℕ) → i < n → Part s (step i) (text i) (P i) (P (suc i))) where
  -- the first m parts stand at q
  abbrev First : ℕ → ℕ → Type 0
  First q m = Left s q (joined m text) (P m)

  -- and all but the last of them
  but_last : (q m : ℕ) → m < n → First q (suc m) → First q m
  unfolding joined
  but_last q m l w =
      record { rest = text m ++ w.rest; is = w.is ∙ append_assoc (joined m text) (text m) w.rest; follows = (each m l).back w.rest w.follows }

  -- and the last of them, past the others
  last_left : (q m : ℕ) → First q (suc m) → along step q m ≡ q + length (joined m text) → Left s (along step q m) (text m) (P (suc m))
  unfolding joined
  last_left q m w ends =
      record {
        rest = w.rest;
        is = rw ends (after_line s q (joined m text) (text m ++ w.rest) (w.is ∙ append_assoc (joined m text) (text m) w.rest));
        follows = w.follows;
      }

  all_back : (m : ℕ) → m ≤ n → (r : List ℕ) → P m r → P 0 (joined m text ++ r)
  unfolding joined
  all_back zero l r h = h
  all_back (suc m) l r h = rw (append_assoc (joined m text) (text m) r) (all_back m (omega arith) (text m ++ r) ((each m l).back r h))

  all_past : (m : ℕ) → m ≤ n → (q : ℕ) → First q m → along step q m ≡ q + length (joined m text)
  unfolding joined along
  all_past zero l q w = let z : q ≡ q + 0 = omega arith in z
  all_past (suc m) l q w =
      let ends : along step q m ≡ q + length (joined m text) = all_past m (omega arith) q (but_last q m l w) in
      (each m l).past (along step q m) (last_left q m w ends) ∙ omega (arith, ends, length-append (joined m text) (text m))

  -- parts one after another are a part
  parts : Part s (λ q. along step q n) (joined n text) (P 0) (P n)
  parts = record { back = all_back n (le_refl n); past = all_past n (le_refl n) }

  -- each part stands where the steps lead
  each_left : (m : ℕ) → m ≤ n → (q : ℕ) → First q m → (i : ℕ) → i < m → Left s (along step q i) (text i) (P (suc i))
  each_left zero l q w i h = absurd (let z : ⊥ = omega arith in z)
  each_left (suc m) l q w i h =
      let before = but_last q m l w in
      ⊎_elim
      (λ (z : i ≡ m). rw z (last_left q m w (all_past m (omega arith) q before)))
      (λ (z : i < m). each_left m (omega arith) q before i z)
      (top i m h)

-- ---- lines that are read whatever follows

abbrev pub Anything : List ℕ → Type 0
Anything r = Unit

module _ (s : List ℕ) (step : ℕ → ℕ → ℕ) (text : ℕ → List ℕ) (n : ℕ)
    (steps : (i : ℕ) → i < n → (q : ℕ) (r : List ℕ) → drop q s ≡ text i ++ r → step i q ≡ q + length (text i)) where
  line_part : (i : ℕ) → i < n → Part s (step i) (text i) Anything Anything
  line_part i l = record { back = λ r h. tt; past = λ q w. steps i l q w.rest w.is }

  -- n lines stand at q: where they end
  pub lines_past : (q : ℕ) → Left s q (joined n text) Anything → along step q n ≡ q + length (joined n text)
  lines_past = (parts s step text (λ i. Anything) n line_part).past

  -- and where each of them stands
  pub line_left : (q : ℕ) → Left s q (joined n text) Anything → (i : ℕ) → i < n → Left s (along step q i) (text i) Anything
  line_left = each_left s step text (λ i. Anything) n line_part n (le_refl n)

-- ---- edges

-- no edge has its turn from c up to d
abbrev Gap : ℕ → (ℕ → Rel) → ℕ → ℕ → Type 0
Gap n edges c d = (j x y : ℕ) → j < given_relations → x < n → y < n → edges j x y ≡ true → c ≤ turn j x y → turn j x y < d → ⊥

-- no edge whose turn was before c, with none of the edges since, begins the rest
abbrev Free : ℕ → (ℕ → Action) → (ℕ → Rel) → ℕ → List ℕ → Type 0
Free n act edges c rest =
    (k a b : ℕ) → k < given_relations → a < n → b < n → barred act k a b ≡ false → turn k a b < c → Gap n edges (turn k a b) c → starts (edge_line k a b) rest ≡ false

module _ (s : List ℕ) (n : ℕ) (small : n ≤ most_actions) (act : ℕ → Action) (edges : ℕ → Rel) (bars : ℕ → Rel)
    (same : (k a b : ℕ) → a < n → b < n → bars k a b ≡ barred act k a b)
    (free : (k a b : ℕ) → k < given_relations → a < n → b < n → edges k a b ≡ true → barred act k a b ≡ false) where
  abbrev edge_text : ℕ → ℕ → ℕ → List ℕ
  edge_text k a b = cond (edges k a b) (edge_line k a b) []

  abbrev row_text : ℕ → ℕ → List ℕ
  row_text k a = joined n (edge_text k a)

  abbrev relation_text : ℕ → List ℕ
  relation_text k = joined n (row_text k)

  abbrev FreeAt : ℕ → ℕ → ℕ → List ℕ → Type 0
  FreeAt k a b = Free n act edges (turn k a b)

  -- back over a gap
  free_gap : (c d : ℕ) → c ≤ d → Gap n edges c d → (r : List ℕ) → Free n act edges d r → Free n act edges c r
  free_gap c d l gap r f k a b hk ha hb bar before none =
      f k a b hk ha hb bar (omega arith)
      (λ j x y hj hx hy e from to. ⊎_elim (λ (h : turn j x y < c). none j x y hj hx hy e from h) (λ (h : c ≤ turn j x y). gap j x y hj hx hy e h to) (lt_or_le (turn j x y) c))

  -- past all edges
  free_last : (q : ℕ) → NoEdge n act edges s q → FreeAt given_relations 0 0 (drop q s)
  free_last q missing k a b hk ha hb bar before none =
      missing k a b hk ha hb bar
      (λ j x y hj hx hy e. ⊎_elim (λ (h : turn j x y < turn k a b). h) (λ (h : turn k a b ≤ turn j x y). absurd (none j x y hj hx hy e h (omega arith))) (lt_or_le (turn j x y) (turn k a b)))

  module _ (k : ℕ) (hk : k < given_relations) where
    module _ (a : ℕ) (ha : a < n) where
      -- no two pairs have the same turn
      edge_gap : (b : ℕ) → b < n → edges k a b ≡ false → Gap n edges (turn k a b) (turn k a (suc b))
      edge_gap b hb out j x y hj hx hy e from to =
          let row : most_actions * j + x ≡ most_actions * k + a = omega arith in
          let same_k : j ≡ k = omega arith in
          let same_a : x ≡ a = omega arith in
          let same_b : y ≡ b = omega arith in
          not_both (rw (same_k, same_a, same_b) at e) out

      edge_back : (b : ℕ) → b < n → (r : List ℕ) → FreeAt k a (suc b) r → FreeAt k a b (edge_text k a b ++ r)
      edge_back b hb r h = ⊎_elim
          (λ (e : edges k a b ≡ true). rw e (λ j x y hj hx hy bar before none.
          is_false _ (λ (t : starts (edge_line j x y) (edge_line k a b ++ r) ≡ true).
          let z = one_edge j x y k a b (edge_line k a b ++ r) hj (omega arith) (omega arith) hk (omega arith) (omega arith) t (starts_own (edge_line k a b) r) in
          omega (arith, z))))
          (λ (e : edges k a b ≡ false). rw e (free_gap (turn k a b) (turn k a (suc b)) (omega arith) (edge_gap b hb e) r h))
          (test (edges k a b))

      -- an edge is taken exactly if it was written
      next_is : (b : ℕ) → b < n → (q : ℕ) → Left s q (edge_text k a b) (FreeAt k a (suc b)) → edge_next s (bars k a) k a b q ≡ edges k a b
      next_is b hb q w =
          let d = w.is in
          ⊎_elim
          (λ (e : edges k a b ≡ true). rw (same k a b ha hb, free k a b hk ha hb e, e) (rw (rw e at d) (starts_own (edge_line k a b) w.rest)))
          (λ (e : edges k a b ≡ false).
          rw e
          (is_false _ (λ (t : edge_next s (bars k a) k a b q ≡ true).
          let p = both_true (not (bars k a b)) (stands s q (edge_line k a b)) t in
          let stood : starts (edge_line k a b) w.rest ≡ true = ap (starts (edge_line k a b)) (sym (rw e at d)) ∙ p.1 in
          not_both stood (w.follows k a b hk ha hb (sym (same k a b ha hb) ∙ not-true (bars k a b) p.0) (omega arith) (edge_gap b hb e)))))
          (test (edges k a b))

      edge_past : (b : ℕ) → b < n → (q : ℕ) → Left s q (edge_text k a b) (FreeAt k a (suc b)) → edge_step s (bars k a) k a b q ≡ q + length (edge_text k a b)
      unfolding edge_step
      edge_past b hb q w = ⊎_elim
          (λ (e : edges k a b ≡ true). rw (next_is b hb q w, e))
          (λ (e : edges k a b ≡ false). rw (next_is b hb q w, e) (omega arith))
          (test (edges k a b))

      edge_part : (b : ℕ) → b < n → Part s (edge_step s (bars k a) k a b) (edge_text k a b) (FreeAt k a b) (FreeAt k a (suc b))
      edge_part b hb = record { back = edge_back b hb; past = edge_past b hb }

      -- between the last edge of a row and the first of the next
      row_gap : Gap n edges (turn k a n) (turn k (suc a) 0)
      row_gap j x y hj hx hy e from to =
          let row : most_actions * j + x ≡ most_actions * k + a = omega arith in
          omega arith

      row_free : (r : List ℕ) → FreeAt k (suc a) 0 r → FreeAt k a n r
      row_free = free_gap (turn k a n) (turn k (suc a) 0) (omega arith) row_gap

      row_part : Part s (row_step s n (bars k a) k a) (row_text k a) (FreeAt k a 0) (FreeAt k (suc a) 0)
      row_part = sooner (parts s (edge_step s (bars k a) k a) (edge_text k a) (FreeAt k a) n edge_part) row_free

      row_read : (q : ℕ) → Left s q (row_text k a) (FreeAt k (suc a) 0) → (b : ℕ) → b < n → row_taken s (bars k a) k a q b ≡ edges k a b
      row_read q w b hb =
          next_is b hb (along (edge_step s (bars k a) k a) q b)
          (each_left s (edge_step s (bars k a) k a) (edge_text k a) (FreeAt k a) n edge_part n (le_refl n) q (over row_free w) b hb)

    -- between the last row of a relation and the first of the next
    relation_gap : Gap n edges (turn k n 0) (turn (suc k) 0 0)
    relation_gap j x y hj hx hy e from to =
        let relation : j ≡ k = omega arith in
        omega arith

    relation_free : (r : List ℕ) → FreeAt (suc k) 0 0 r → FreeAt k n 0 r
    relation_free = free_gap (turn k n 0) (turn (suc k) 0 0) (omega arith) relation_gap

    relation_part : Part s (relation_step s n bars k) (relation_text k) (FreeAt k 0 0) (FreeAt (suc k) 0 0)
    relation_part = sooner (parts s (λ a. row_step s n (bars k a) k a) (row_text k) (λ a. FreeAt k a 0) n row_part) relation_free

    relation_read : (q : ℕ) → Left s q (relation_text k) (FreeAt (suc k) 0 0) → (a b : ℕ) → a < n → b < n → row_taken s (bars k a) k a (rows_step s n bars k q a) b ≡ edges k a b
    relation_read q w a b ha hb =
        row_read a ha (rows_step s n bars k q a)
        (each_left s (λ a. row_step s n (bars k a) k a) (row_text k) (λ a. FreeAt k a 0) n row_part n (le_refl n) q (over relation_free w) a ha) b hb

  -- all edges stand at q, and none that may come next follows
  module _ (q : ℕ) (r : List ℕ) (is : drop q s ≡ edge_lines n edges ++ r) (missing : NoEdge n act edges s (q + length (edge_lines n edges))) where
    all_left : Left s q (edge_lines n edges) (FreeAt given_relations 0 0)
    all_left = record { rest = r; is = is; follows = rw (after_line s q (edge_lines n edges) r is) at (free_last (q + length (edge_lines n edges)) missing) }

    -- each is read back
    pub edges_read : (k a b : ℕ) → k < given_relations → a < n → b < n → edge_taken s n bars q k a b ≡ edges k a b
    unfolding edge_taken
    edges_read k a b hk ha hb =
        relation_read k hk (along (relation_step s n bars) q k)
        (each_left s (relation_step s n bars) relation_text (λ k. FreeAt k 0 0) given_relations relation_part given_relations (le_refl given_relations) q all_left k hk) a b ha hb

    -- and where they end
    pub edges_end : along (relation_step s n bars) q given_relations ≡ q + length (edge_lines n edges)
    edges_end = (parts s (relation_step s n bars) relation_text (λ k. FreeAt k 0 0) given_relations relation_part).past q all_left
