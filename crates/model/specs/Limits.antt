-- The limits of a candidate, and the lengths of what is lent: each is named once, and the lengths follow from the limits.
use Rattle.std.specs.Prelude.{ℕ, ◌*◌}
use Rattle.rows.specs.Numbers.{size, area}

-- Edition 1 is the paper's, edition 2 the published C++11 (request Q-6).
abbrev pub newest_edition : ℕ
newest_edition = 2

-- Rules are numbered from 1 to below this.
abbrev pub rules_end : ℕ
rules_end = 37

-- N 0 to 128 (request Q-8), T 0 to 16, P 0 to 64.
abbrev pub most_actions : ℕ
most_actions = size

abbrev pub most_threads : ℕ
most_threads = 16

abbrev pub most_places : ℕ
most_places = 64

-- relations 0 to 6 are given, 0 to 17 stand in the store, 0 to 21 in the book
abbrev pub given_relations : ℕ
given_relations = 7

abbrev pub all_relations : ℕ
all_relations = 18

abbrev pub book_relations : ℕ
book_relations = 22

-- numbers that the given relations fill
abbrev pub given_length : ℕ
given_length = area * given_relations

-- The store is 4,608 numbers of 64 bits.
abbrev pub store_length : ℕ
store_length = area * all_relations

-- numbers of the desk, which the book is laid on
abbrev pub desk_length : ℕ
desk_length = area * book_relations

-- The order buffer is 128 bytes or more.
abbrev pub order_length : ℕ
order_length = most_actions
