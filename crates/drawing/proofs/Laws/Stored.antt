-- What a good file leaves: the store holds the candidate's relations.
use Rattle.std.specs.Prelude.{ℕ, ◌<◌, ◌≤◌, cond, List, [], ◌≡◌, ltb, get_or}
use Rattle.std.proofs.Common.{sym, ap, ◌∙◌, lt-ltb, le-ltb}
use Rattle.std.proofs.Math.Path.{fun_ext}
use Rattle.rows.specs.Laws.Lists.{listed_all}
use Rattle.rows.specs.Numbers.{bit, rel}
use Rattle.rows.specs.Sets.{Rel}
use Rattle.model.specs.Candidates.{Candidate, given}
use Rattle.model.specs.Limits.{given_relations}
use Rattle.model.specs.Refusals.{Good}
use Rattle.drawing.specs.Files.{row_no, rows_of, candidate_of, check_of}
use Rattle.drawing.proofs.Laws.Good.{good_taken, good_candidate}
use Rattle.drawing.proofs.Laws.Formed.{given_at}

-- rows from N on are zero
pub row_none : (s : List ℕ) (n p k a : ℕ) → n ≤ a → row_no s n p k a ≡ 0
unfolding row_no
row_none s n p k a l = simp (le-ltb a n l)

-- relation k, row by row
pub rows_rel : (s : List ℕ) (n p k : ℕ) → rel (rows_of s n p k) ≡ (λ a. bit (row_no s n p k a))
rows_rel s n p k = fun_ext λ a. ap bit (listed_all (row_no s n p k) n 0 (row_none s n p k) a)

-- relations 0 to 6 of a store that held old, filled from a good file so that it holds new, are the candidate's
pub filled_held : (s : List ℕ) (e n t p : ℕ) (old new : ℕ → Rel) → check_of s ≡ Good e n t p
    → ((j : ℕ) → new j ≡ cond (ltb j given_relations) (rel (rows_of s n p j)) (old j)) → (k : ℕ) → k < given_relations → new k ≡ rel (get_or (given (candidate_of s)) k [])
filled_held s e n t p old new taken filled k l =
    let same = good_candidate s e n t p (good_taken s e n t p taken) in
    filled k ∙ rw (lt-ltb k given_relations l) (ap rel (sym (ap (λ (X : Candidate). get_or (given X) k []) same ∙ given_at s e n t p k l)))
