-- Where the order of a candidate is due by its edition, its book is ready, and rules 29, 30, 32, 33 and 34 hold, whichever the edition.
use Rattle.std.specs.Prelude.{ℕ, ◌<◌, T, eqb}
use Rattle.std.proofs.Math.Logic.{⊎_elim}
use Rattle.std.proofs.Common.{arith}
use Rattle.rows.specs.Laws.Truth.{dec}
use Rattle.model.specs.Candidates.{Candidate, well_formed}
use Rattle.model.specs.Words.{book_of}
use Rattle.model.specs.Model.{Book, atomic, seq_cst}
use Rattle.model.specs.Judge.{book}
use Rattle.model.specs.Laws.Filled.{filled_is}
use Rattle.model.proofs.Laws.Verdicts.{passed_clean}
use Rattle.order.specs.Serial.{Due, Sequenced}
use Rattle.order.specs.Laws.Words.{wording, its_places}
use Rattle.order.specs.Laws.Places.{Base, off, atomic_place_lem}
use Rattle.order.specs.Laws.Before.{Ready}
use Rattle.order.specs.Laws.Reads.{Feeds}
use Rattle.order.specs.Laws.First.{first_feeds}

module _ (X : Candidate) (W : T (well_formed X)) (D : Due X.edition X.n (book X)) where
  abbrev n : ℕ
  n = X.n

  abbrev ρ : Book
  ρ = book X

  base : Base n ρ
  base =
      record {
        filled = filled_is n (book_of X);
        words = wording X W;
        places = its_places X;
        edition = X.edition;
        clean = passed_clean X.edition n ρ D.passed;
        no_fence = D.no_fence;
      }

  -- edition 1: an atomic action stands at an atomic place, so it is seq_cst; edition 2 asks it
  actions_seq_cst : (a : ℕ) → a < n → T (atomic n ρ a) → T (seq_cst n ρ a)
  actions_seq_cst a l t = ⊎_elim (λ new. D.actions_seq_cst new a l t) (λ old. (D.places_seq_cst old a l (atomic_place_lem n ρ base a l t)).1) (dec (eqb X.edition 2))

  -- edition 1: nothing at an atomic place is plain; edition 2 asks it
  sequenced : Sequenced n ρ
  sequenced =
      ⊎_elim D.sequenced
      (λ old a b la lb p t st s w. absurd (base.words.atomic_plain a (D.places_seq_cst old a la (base.places.at_atomic_too a b s (atomic_place_lem n ρ base b lb t))).0 p))
      (dec (eqb X.edition 2))

  pub ready : Ready n ρ
  ready =
      record {
        base = base;
        no_data_race = D.no_data_race;
        no_unsequenced_race = D.no_unsequenced_race;
        source = D.source;
        actions_seq_cst = actions_seq_cst;
        sequenced = sequenced;
      }

  -- edition 2 has them among its rules
  final_feeds : T (eqb X.edition 2) → Feeds n ρ
  unfolding base
  final_feeds new =
      record {
        seen = off n ρ base 29 (omega arith) new;
        not_later = off n ρ base 30 (omega arith) new;
        newest = off n ρ base 32 (omega arith) new;
        write_write = off n ρ base 33 (omega arith) new;
        write_read = off n ρ base 34 (omega arith) new;
      }

  -- in edition 1 they follow
  pub feeds : Feeds n ρ
  unfolding base ready
  feeds = ⊎_elim final_feeds (λ old. first_feeds n ρ ready old (λ a l t. (D.places_seq_cst old a l t).1)) (dec (eqb X.edition 2))
