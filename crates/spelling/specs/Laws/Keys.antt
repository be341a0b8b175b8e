-- The edge whose line is in front has its turn as a key, so lines of edges are told apart by their turns.
use Rattle.std.specs.Prelude.{ℕ, zero, suc, ◌<◌, true, cond, List, [], ◌∷◌, ◌++◌, ◌≡◌, refl, ltb, length, drop}
use Rattle.std.proofs.Common.{append_assoc, sym, ap, ◌∙◌, arith}
use Rattle.model.specs.Limits.{most_actions, given_relations}
use Rattle.page.specs.Lines.{decimal, ending, newline, space}
use Rattle.spelling.specs.declared.Number.{Number}
use Rattle.spelling.specs.Spelling.{relation_word, edge_line, end_line, turn, starts, scan}
use Rattle.spelling.specs.Laws.Stands.{starts_split}
use Rattle.spelling.specs.Laws.Scans.{past, scan_decimal, past_decimal}

-- the relation whose word is in front, or 7
unfoldable relation_front : List ℕ → ℕ
relation_front r =
    cond (starts (relation_word 0) r) 0
    (cond (starts (relation_word 1) r) 1
    (cond (starts (relation_word 2) r) 2
    (cond (starts (relation_word 3) r) 3
    (cond (starts (relation_word 4) r) 4
    (cond (starts (relation_word 5) r) 5
    (cond (starts (relation_word 6) r) 6 7))))))

-- two numbers, each after a byte
abbrev first_front : List ℕ → ℕ
first_front r = (scan 0 0 (drop 1 r)).value

abbrev second_front : List ℕ → ℕ
second_front r = (scan 0 0 (drop 1 (past (drop 1 r)))).value

abbrev turn_front : ℕ → List ℕ → ℕ
turn_front k r = turn k (first_front (drop (length (relation_word k)) r)) (second_front (drop (length (relation_word k)) r))

-- the turn of the edge in front; where there is none, that after the last
unfoldable key : List ℕ → ℕ
key r = cond (ltb (relation_front r) given_relations) (turn_front (relation_front r) r) (turn given_relations 0 0)

pair_is : (a b : ℕ) (r : List ℕ) → a < most_actions → b < most_actions → (first_front (ending (a ∷ b ∷ []) ++ r) ≡ a) × (second_front (ending (a ∷ b ∷ []) ++ r) ≡ b)
unfolding ending
pair_is a b r h i =
    let e : (decimal a ++ ending (b ∷ [])) ++ r ≡ decimal a ++ (space ∷ ((decimal b ++ (newline ∷ [])) ++ r)) = append_assoc (decimal a) (ending (b ∷ [])) r in
    let f : (decimal b ++ (newline ∷ [])) ++ r ≡ decimal b ++ (newline ∷ r) = append_assoc (decimal b) (newline ∷ []) r in (
      ap (λ (l : List ℕ). (scan 0 0 l).value) e ∙ ap (λ (x : Number). x.value) (scan_decimal a 0 (space ∷ ((decimal b ++ (newline ∷ [])) ++ r)) (omega arith) refl),
      ap (λ (l : List ℕ). (scan 0 0 (drop 1 (past l))).value) e
          ∙ ap (λ (l : List ℕ). (scan 0 0 (drop 1 l)).value) (past_decimal a (space ∷ ((decimal b ++ (newline ∷ [])) ++ r)) refl)
          ∙ ap (λ (l : List ℕ). (scan 0 0 l).value) f
          ∙ ap (λ (x : Number). x.value) (scan_decimal b 0 (newline ∷ r) (omega arith) refl),
    )

key_edge : (k a b : ℕ) (r : List ℕ) → k < given_relations → a < most_actions → b < most_actions → key (edge_line k a b ++ r) ≡ turn k a b
unfolding key relation_front relation_word edge_line starts
key_edge zero a b r l h i = let p = pair_is a b r h i in rw (p.0, p.1)
key_edge (suc zero) a b r l h i = let p = pair_is a b r h i in rw (p.0, p.1)
key_edge (suc (suc zero)) a b r l h i = let p = pair_is a b r h i in rw (p.0, p.1)
key_edge (suc (suc (suc zero))) a b r l h i = let p = pair_is a b r h i in rw (p.0, p.1)
key_edge (suc (suc (suc (suc zero)))) a b r l h i = let p = pair_is a b r h i in rw (p.0, p.1)
key_edge (suc (suc (suc (suc (suc zero))))) a b r l h i = let p = pair_is a b r h i in rw (p.0, p.1)
key_edge (suc (suc (suc (suc (suc (suc zero)))))) a b r l h i = let p = pair_is a b r h i in rw (p.0, p.1)
key_edge (suc (suc (suc (suc (suc (suc (suc k))))))) a b r l h i = absurd (omega arith)

-- an edge whose line stands before a text has its turn
key_starts : (k a b : ℕ) (r : List ℕ) → k < given_relations → a < most_actions → b < most_actions → starts (edge_line k a b) r ≡ true → key r ≡ turn k a b
key_starts k a b r l h i e = ap key (starts_split (edge_line k a b) r e) ∙ key_edge k a b (drop (length (edge_line k a b)) r) l h i

-- No two edges' lines begin the same text.
pub one_edge : (j c d k a b : ℕ) (r : List ℕ) → j < given_relations → c < most_actions → d < most_actions → k < given_relations → a < most_actions → b < most_actions
    → starts (edge_line j c d) r ≡ true → starts (edge_line k a b) r ≡ true → turn j c d ≡ turn k a b
one_edge j c d k a b r hj hc hd hk ha hb e f = sym (key_starts j c d r hj hc hd e) ∙ key_starts k a b r hk ha hb f

key_end : (r : List ℕ) → key (end_line ++ r) ≡ turn given_relations 0 0
unfolding key relation_front relation_word starts
key_end r = refl

-- The end's line begins as no edge's does.
pub end_no_edge : (k a b : ℕ) (r : List ℕ) → k < given_relations → a < most_actions → b < most_actions → starts (edge_line k a b) (end_line ++ r) ≡ true → ⊥
end_no_edge k a b r hk ha hb e = let z = sym (key_end r) ∙ key_starts k a b (end_line ++ r) hk ha hb e in omega arith
