-- The lists of members and pairs: how many they are, and the lines of pairs.
use Rattle.std.specs.Prelude.{ℕ, zero, suc, ◌+◌, ◌≤◌, Bool, true, false, ◌&&◌, cond, List, [], ◌∷◌, ◌≡◌, refl, ltb, length}
use Rattle.std.proofs.Math.Bool.{and_comm}
use Rattle.std.proofs.Common.{sym, ap, ap₂, ◌∙◌, length-append}
use Rattle.std.proofs.lemmas.List.{length-map}
use Rattle.rows.specs.Sets.{Set, Rel, count, pairs, before, after}
use Rattle.rows.specs.Numbers.{joined}
use Rattle.rows.specs.Laws.Lists.{joined_length}
use Rattle.rows.proofs.Laws.Quantifiers.{sum_ext}
use Rattle.page.specs.Lines.{line, lines, members}
use Rattle.page.specs.Laws.Members.{one, members_ext, members_before, lines_map}
use Rattle.report.specs.Report.{pair, row_pairs, pair_list, pair_line}

-- ---- lines

-- one row's lines, of the members after a and before n
pub row_lines : (word : List ℕ) (n m : ℕ) (r : Rel) (a : ℕ) → n ≤ m → lines (λ b. line word (a ∷ b ∷ [])) (members m (before (after (r a) a) n)) ≡ lines (pair_line word) (row_pairs n r a)
row_lines word n m r a l =
    ap (lines (λ b. line word (a ∷ b ∷ []))) (members_before n m (after (r a) a) l ∙ members_ext n (after (r a) a) (λ b. ltb a b && r a b) (λ b h. and_comm (r a b) (ltb a b)))
    ∙ sym (lines_map (pair_line word) (pair a) (members n λ b. ltb a b && r a b))

-- ---- how many

-- Counts equal the number of lines: one for each indeterminate read,
pub members_length : (n : ℕ) (s : Set) → length (members n s) ≡ count n s
unfolding joined count
members_length zero s = refl
members_length (suc n) s = length-append (members n s) (one (s n) n) ∙ ap₂ (λ (x y : ℕ). x + y) (members_length n s) (one_length (s n) n)
  where
    one_length : (t : Bool) (b : ℕ) → length (one t b) ≡ cond t 1 0
    one_length true b = refl
    one_length false b = refl

-- and one for each pair a<b.
pub pairs_length : (n : ℕ) (r : Rel) → length (pair_list n r) ≡ pairs n r
pairs_length n r =
    joined_length n (row_pairs n r)
    ∙ sum_ext n (λ a. length (row_pairs n r a)) (λ a. count n λ b. ltb a b && r a b) (λ a l. length-map (members n λ b. ltb a b && r a b) (pair a) ∙ members_length n (λ b. ltb a b && r a b))
