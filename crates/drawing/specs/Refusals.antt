-- Which refusal is told of a file that has two: an edition that isn't known is tested before the limits, an edge of asw inside one thread after 7 in asw's record and before dd's. By computation.
use Rattle.std.specs.Prelude.{ℕ, List, [], ◌∷◌, ◌≡◌, refl, take}
use Rattle.rows.specs.Sets.{any}
use Rattle.rows.specs.Numbers.{bit, joined}
use Rattle.model.specs.Candidates.{action_ok, to_others}
use Rattle.model.specs.Drawings.{store}
use Rattle.model.specs.declared.refusals.Reason.TheVariants.{EndsEarly, UnknownEdition, AboveLimit, BadColumn, OwnThread}
use Rattle.model.specs.Refusals.{Good, Refused}
use Rattle.drawing.specs.Files.{le_at, le, walks, head_of, head_check, header_of, header_check, edition_check, limits_check, places_of, places_check, place_check, order_of, kind_of, kind_ok, fields_ok, action_of, action_record, action_check, actions_check, relation_record, row_check, start_check, starts_check, relation_check, relations_check, end_check, records_check, check_by, check_of, file_of}

-- no edge of two actions
abbrev empty : List ℕ
empty = 0 ∷ 0 ∷ []

-- of an edition: a store of thread 0 at place 0 and one of thread t at place p, with sb, asw and dd by their rows: their records stand at 58, 80 and 102
abbrev file : ℕ → ℕ → ℕ → List ℕ → List ℕ → List ℕ → List ℕ
file e t p sb asw dd =
    file_of
    (record {
      edition = e;
      n = 2;
      t = 2;
      p = 2;
      places = 1 ∷ 1 ∷ [];
      acts = store 0 0 1 ∷ store t p 1 ∷ [];
      sb = sb;
      asw = asw;
      dd = dd;
      cd = empty;
      rf = empty;
      sc = empty;
      mo = empty;
    })

-- what computes the check of a file
unfoldable computing : ℕ
unfolding le_at le walks head_of head_check header_of header_check edition_check limits_check places_of places_check place_check order_of kind_of kind_ok fields_ok action_of action_record action_check actions_check relation_record row_check start_check starts_check relation_check relations_check end_check records_check check_by file_of joined any bit action_ok to_others
computing = 0

-- editions 1, 2, 0 and 3; a first record with N = 65, then 128, after which the places are due; with N = 129 of edition 2, of edition 3, and this without its last byte
pub editions_told : check_of (file 1 1 0 empty empty empty)
    ∷ check_of (file 2 1 0 empty empty empty)
    ∷ check_of (file 0 1 0 empty empty empty)
    ∷ check_of (file 3 1 0 empty empty empty)
    ∷ check_of (header_of 2 65 2 2)
    ∷ check_of (header_of 2 128 2 2)
    ∷ check_of (header_of 2 129 2 2)
    ∷ check_of (header_of 3 129 2 2)
    ∷ check_of (take 11 (header_of 3 129 2 2))
    ∷ []
    ≡ Good 1 2 2 2 ∷ Good 2 2 2 2 ∷ Refused UnknownEdition 0 ∷ Refused UnknownEdition 0 ∷ Refused EndsEarly 12 ∷ Refused EndsEarly 12 ∷ Refused AboveLimit 0 ∷ Refused UnknownEdition 0 ∷ Refused EndsEarly 0 ∷ []
unfolding computing
editions_told = refl

-- one thread: an edge, and a bit at column 2 of sb; of asw's next row; of dd; an edge between two places; two threads: from an action to itself; both ways at one place
pub starts_told : check_of (file 1 0 0 (4 ∷ 0 ∷ []) (2 ∷ 0 ∷ []) empty)
    ∷ check_of (file 1 0 0 empty (2 ∷ 4 ∷ []) empty)
    ∷ check_of (file 1 0 0 empty (2 ∷ 0 ∷ []) (4 ∷ 0 ∷ []))
    ∷ check_of (file 1 0 1 empty (0 ∷ 1 ∷ []) empty)
    ∷ check_of (file 1 1 0 empty (0 ∷ 2 ∷ []) empty)
    ∷ check_of (file 1 1 0 empty (2 ∷ 1 ∷ []) empty)
    ∷ []
    ≡ Refused BadColumn 58 ∷ Refused BadColumn 80 ∷ Refused OwnThread 80 ∷ Refused OwnThread 80 ∷ Refused OwnThread 80 ∷ Good 1 2 2 2 ∷ []
unfolding computing
starts_told = refl
