-- The store of 4,608 numbers after a verdict.
use Rattle.std.specs.Prelude.{ℕ, ◌/◌, ◌%◌, List}
use Rattle.rows.specs.Numbers.{digit, listed, wide, area}
use Rattle.model.specs.Limits.{store_length}
use Rattle.model.specs.Candidates.{Candidate}
use Rattle.model.specs.Judge.{book}

-- Relation k fills numbers 256k to 256k+255, two to a row, low half first; rows from N on are zero. It holds relations 0 to 6 as given and 7 to 17 worked out.
unfoldable pub store_of : Candidate → List ℕ
store_of X = listed store_length λ i. digit (book X (i / area) (i % area / wide)) (i % area % wide)
