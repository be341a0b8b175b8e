-- A candidate handed in as a lent list of actions, with relations 0 to 6 in the store: the list by value, the check in the paper's order, and the candidate. Definitions only.
use Rattle.std.specs.Prelude.{ℕ, ◌+◌, ◌-◌, ◌*◌, ◌/◌, ◌%◌, ◌^◌, ◌<◌, cond, List, ◌≡◌, ltb, leb, eqb, length, get_or, zero, suc, set}
use Rattle.rows.specs.Numbers.{listed, width, wide, area, held}
use Rattle.model.specs.declared.Action.{Action}
use Rattle.model.specs.Limits.{newest_edition, most_actions, most_threads, most_places, given_length, store_length}
use Rattle.model.specs.Actions.{no_action}
use Rattle.model.specs.Candidates.{Candidate, edition_ok, action_ok, place_byte_ok, to_others}
use Rattle.model.specs.declared.refusals.Reason.TheVariants.{WrongLength, UnknownEdition, AboveLimit, BadField, BadColumn, ShortBuffer, OwnThread}
use Rattle.model.specs.Refusals.{Passed, Refused, Walk}
use Rattle.drawing.specs.Files.{then, walks}
use Rattle.lists.specs.declared.Gathered.{Gathered}

-- ---- the actions of a lent list, gathered

-- action i of a list, and what stands past its end
abbrev pub action_at : List Action → ℕ → Action
action_at acts i = get_or acts i no_action

-- no action of c yet
abbrev pub none_yet : ℕ → Gathered
none_yet c = record { list = listed most_actions (λ _. no_action); count = c }

-- one action more
unfoldable pub with_action : Gathered → ℕ → Action → Gathered
with_action g i x = record { list = set g.list i x; count = g.count }

-- the first m actions of a list; no action stands after them
unfoldable pub gathered : List Action → ℕ → Gathered
gathered acts zero = none_yet (length acts)
gathered acts (suc i) = with_action (gathered acts i) i (action_at acts i)

-- how many of c actions are gathered: all, but no more than 128
unfoldable pub how_many : ℕ → ℕ
how_many c = cond (ltb c most_actions) c most_actions

-- what was gathered stands for the list
pub record Stands (acts : List Action) (g : Gathered) : Type 0 where
  pub count : length acts ≡ g.count
  pub same : (i : ℕ) → i < most_actions → i < g.count → action_at g.list i ≡ action_at acts i

-- ---- the check: 9, 4, 5, 3 (these four at position 0), 6, 7, 11

-- c actions, q place bytes, edition e, a store of this length: a store of fewer than 4,608 numbers (9); edition none of 1 to the newest (4);
-- N, T or P above its limit (5); list not N or place bytes not P long (3)
unfoldable pub sizes_check : ℕ → ℕ → ℕ → ℕ → ℕ → ℕ → ℕ → Walk
sizes_check c q e n t p store =
    cond (ltb store store_length) (Refused ShortBuffer 0)
    (cond (edition_ok newest_edition e)
    (cond (ltb most_actions n) (Refused AboveLimit 0)
    (cond (ltb most_threads t) (Refused AboveLimit 0)
    (cond (ltb most_places p) (Refused AboveLimit 0)
    (cond (eqb c n)
    (cond (eqb q p) Passed (Refused WrongLength 0))
    (Refused WrongLength 0)))))
    (Refused UnknownEdition 0))

-- places first, position 128 + place (6)
unfoldable pub place_check : List ℕ → ℕ → Walk
place_check places i = cond (place_byte_ok (get_or places i 0)) Passed (Refused BadField (most_actions + i))

-- then the action number (6)
unfoldable pub action_check : List Action → ℕ → ℕ → ℕ → Walk
action_check acts t p i = cond (action_ok t p (action_at acts i)) Passed (Refused BadField i)

-- the columns below N that number h of a row has: 64 each, low half first
abbrev pub columns_in : ℕ → ℕ → ℕ
columns_in n h = cond (leb (width * h + width) n) width (n - width * h)

-- what number i of the store stays below: no bit at column N or later, and rows from N on are zero
abbrev pub number_limit : ℕ → ℕ → ℕ
number_limit n i = cond (ltb (i % area / wide) n) (2 ^ columns_in n (i % area % wide)) 1

-- index in the store of the number, either of a row's two; numbers 256k + 2a and 256k + 2a + 1 are row a of relation k (7)
unfoldable pub number_check : List ℕ → ℕ → ℕ → Walk
number_check store n i = cond (ltb (get_or store i 0) (number_limit n i)) Passed (Refused BadColumn i)

-- relation 1 is asw; an edge inside one thread, index in the store of the row's first number (11)
unfoldable pub start_check : List Action → List ℕ → ℕ → ℕ → Walk
start_check acts store n a = cond (to_others n (action_at acts) (held store 1 a) a) Passed (Refused OwnThread (area * 1 + wide * a))

-- 7 of relations 0 to 6, and after all of it 11
unfoldable pub content_check : List Action → List ℕ → List ℕ → ℕ → ℕ → ℕ → Walk
content_check acts places store n t p =
    then (walks (place_check places) 0 p)
    (then (walks (action_check acts t p) 0 n)
    (then (walks (number_check store n) 0 given_length) (walks (start_check acts store n) 0 n)))

-- the whole check, of a list with c actions
unfoldable pub counted_check : List Action → ℕ → List ℕ → ℕ → ℕ → ℕ → ℕ → List ℕ → Walk
counted_check acts c places e n t p store =
    then (sizes_check c (length places) e n t p (length store)) (content_check acts places store n t p)

abbrev pub list_check : List Action → List ℕ → ℕ → ℕ → ℕ → ℕ → List ℕ → Walk
list_check acts places e n t p store = counted_check acts (length acts) places e n t p store

-- ---- the candidate

-- row a of relation k in the store: its second number is the high half
abbrev pub row_in : List ℕ → ℕ → ℕ → ℕ
row_in store k a = get_or store (area * k + wide * a + 1) 0 * 2 ^ width + get_or store (area * k + wide * a) 0

abbrev pub rows_in : List ℕ → ℕ → ℕ → List ℕ
rows_in store n k = listed n (row_in store k)

unfoldable pub list_candidate : List Action → List ℕ → ℕ → ℕ → ℕ → ℕ → List ℕ → Candidate
list_candidate acts places e n t p store =
    record {
      edition = e;
      n = n;
      t = t;
      p = p;
      places = places;
      acts = acts;
      sb = rows_in store n 0;
      asw = rows_in store n 1;
      dd = rows_in store n 2;
      cd = rows_in store n 3;
      rf = rows_in store n 4;
      sc = rows_in store n 5;
      mo = rows_in store n 6;
    }
