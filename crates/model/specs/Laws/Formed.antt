-- A well-formed candidate, part by part, both ways.
use Rattle.std.specs.Prelude.{ℕ, ◌^◌, ◌<◌, true, ◌&&◌, [], ◌≡◌, eqb, ltb, length, get_or}
use Rattle.std.proofs.Common.{sym, eq-eqb, eqb-true, lt-ltb}
use Rattle.std.proofs.lemmas.Bool.{not-true}
use Rattle.rows.specs.Sets.{Set, Rel}
use Rattle.rows.specs.Numbers.{number, rel, rows_of}
use Rattle.rows.proofs.Laws.Bits.{number_lt}
use Rattle.rows.specs.Laws.Lists.{listed_length, listed_at}
use Rattle.rows.proofs.Laws.Quantifiers.{any_no, all_in, all_out}
use Rattle.rows.specs.Laws.Truth.{both_true, and_both, not_both}
use Rattle.model.specs.Candidates.{Candidate, given, action_in, edition_ok, place_byte_ok, action_ok, rows_ok, to_others, well_formed}
use Rattle.model.specs.Limits.{newest_edition, given_relations}

-- what a well-formed candidate keeps
pub record Parts (X : Candidate) : Type 0 where
  pub edition : edition_ok newest_edition X.edition ≡ true
  pub bytes : length X.places ≡ X.p
  pub byte : (i : ℕ) → i < X.p → place_byte_ok (get_or X.places i 0) ≡ true
  pub actions : length X.acts ≡ X.n
  pub action : (i : ℕ) → i < X.n → action_ok X.t X.p (action_in X i) ≡ true
  pub rows : (k : ℕ) → k < given_relations → rows_ok X.n (get_or (given X) k []) ≡ true
  pub others : (a : ℕ) → a < X.n → to_others X.n (action_in X) (rel X.asw a) a ≡ true

pub parts : (X : Candidate) → well_formed X ≡ true → Parts X
unfolding well_formed
parts X w =
    let (h, others) = both_true _ _ w in
    let (h, rows) = both_true _ _ h in
    let (h, action) = both_true _ _ h in
    let (h, actions) = both_true _ _ h in
    let (h, byte) = both_true _ _ h in
    let (edition, bytes) = both_true _ _ h in
    record {
      edition = edition;
      bytes = eqb-true (length X.places) X.p bytes;
      byte = all_out X.p (λ i. place_byte_ok (get_or X.places i 0)) byte;
      actions = eqb-true (length X.acts) X.n actions;
      action = all_out X.n (λ a. action_ok X.t X.p (action_in X a)) action;
      rows = all_out given_relations (λ k. rows_ok X.n (get_or (given X) k [])) rows;
      others = all_out X.n (λ a. to_others X.n (action_in X) (rel X.asw a) a) others;
    }

pub parts_formed : (X : Candidate) → Parts X → well_formed X ≡ true
unfolding well_formed
parts_formed X f =
    and_both
    (and_both
    (and_both
    (and_both
    (and_both
    (and_both f.edition (eq-eqb _ _ f.bytes))
    (all_in X.p (λ i. place_byte_ok (get_or X.places i 0)) f.byte))
    (eq-eqb _ _ f.actions))
    (all_in X.n (λ a. action_ok X.t X.p (action_in X a)) f.action))
    (all_in given_relations (λ k. rows_ok X.n (get_or (given X) k [])) f.rows))
    (all_in X.n (λ a. to_others X.n (action_in X) (rel X.asw a) a) f.others)

-- The rows of any relation are well-formed.
pub rows_formed : (n : ℕ) (r : Rel) → rows_ok n (rows_of n r) ≡ true
rows_formed n r =
    and_both
    (eq-eqb (length (rows_of n r)) n (listed_length (λ a. number n (r a)) n))
    (all_in n (λ a. ltb (get_or (rows_of n r) a 0) (2 ^ n)) (λ a l. rw (listed_at (λ a. number n (r a)) n a 0 l) (lt-ltb (number n (r a)) (2 ^ n) (number_lt n (r a)))))

-- Asw joins different threads.
pub different_threads : (X : Candidate) → well_formed X ≡ true → (a b : ℕ) → a < X.n → b < X.n → rel X.asw a b ≡ true → (action_in X a).thread ≡ (action_in X b).thread → ⊥
unfolding to_others
different_threads X w a b la lb edge same =
    let inside : Set = λ c. rel X.asw a c && eqb (action_in X c).thread (action_in X a).thread in
    not_both (and_both edge (eq-eqb _ _ (sym same))) (any_no X.n inside (not-true _ ((parts X w).others a la)) b lb)
