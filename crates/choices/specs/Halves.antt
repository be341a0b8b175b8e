-- The candidates that a drawing without rf, sc and mo may become, in the order of the request; which of them is passed. Definitions only.
use Rattle.std.specs.Prelude.{ℕ, Bool, ◌&&◌, List, [], ◌∷◌, ◌++◌, map, eqb, get_or}
use Rattle.rows.specs.Sets.{Set, before}
use Rattle.rows.specs.Numbers.{rows_of}
use Rattle.model.specs.Candidates.{Candidate, action_in, reads, writes}
use Rattle.model.specs.Words.{is_sc, placed, book_of}
use Rattle.model.specs.Model.{Book}
use Rattle.model.specs.Judge.{is_passed, judged_of}
use Rattle.choices.specs.Lists.{Option, over, sources, arrangements, books}

-- passed, by the rules of its edition
unfoldable pub passed : Candidate → Bool
passed X = is_passed (judged_of X).verdict

module _ (X : Candidate) where
  -- the writes of the place of b
  abbrev pub writes_for : ℕ → Set
  writes_for b = before (λ w. writes (action_in X w) && placed (action_in X w) (action_in X b)) X.n

  -- the writes of place q
  abbrev pub writes_at : ℕ → Set
  writes_at q = before (λ w. writes (action_in X w) && eqb (action_in X w).place q) X.n

  abbrev pub sc_actions : Set
  sc_actions = before (λ a. is_sc (action_in X a)) X.n

  -- place q is atomic
  abbrev pub atomic_place : Set
  atomic_place q = eqb (get_or X.places q 3) 2

  -- For each read by number, source none, then each write of its place by number;
  abbrev pub read_choices : List (List Option)
  read_choices = over X.n (λ b. reads (action_in X b)) λ b. sources b (writes_for b) ∷ []

  -- then for each atomic place by number the orders of its writes, in dictionary order;
  abbrev pub place_choices : List (List Option)
  place_choices = over X.p atomic_place λ q. arrangements 6 (writes_at q) ∷ []

  -- then the orders of the SC actions, likewise.
  abbrev pub sc_choice : List (List Option)
  sc_choice = arrangements 5 sc_actions ∷ []

  unfoldable pub choices_of : List (List Option)
  choices_of = read_choices ++ (place_choices ++ sc_choice)

  -- the drawing with rf, sc and mo as a book has them
  abbrev pub completed : Book → Candidate
  completed σ =
      record {
        edition = X.edition;
        n = X.n;
        t = X.t;
        p = X.p;
        places = X.places;
        acts = X.acts;
        sb = X.sb;
        asw = X.asw;
        dd = X.dd;
        cd = X.cd;
        rf = rows_of X.n (σ 4);
        sc = rows_of X.n (σ 5);
        mo = rows_of X.n (σ 6);
      }

  -- the list of candidates
  unfoldable pub candidates : List Candidate
  candidates = map completed (books choices_of (book_of X))
