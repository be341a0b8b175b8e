-- How long words and lines are.
use Rattle.std.specs.Prelude.{ℕ, suc, ◌+◌, ◌^◌, ◌<◌, ◌≤◌, Bool, true, false, cond, List, [], ◌∷◌, ◌++◌, ◌≡◌, refl, eqb, length}
use Rattle.std.proofs.Common.{◌∙◌, arith, length-append}
use Rattle.model.specs.declared.Action.{Action}
use Rattle.model.specs.declared.ActionKind.{ActionKind}
use Rattle.model.specs.declared.ActionKind.TheVariants.{Lock, Unlock, AtomicLoad, AtomicStore, ReadModifyWrite, Load, Store, Fence}
use Rattle.model.specs.Actions.{kind_number, order_in}
use Rattle.page.specs.Lines.{decimal, ending, newline, space}
use Rattle.page.specs.Laws.Lengths.{decimal_length, ending_more}
use Rattle.spelling.specs.Spelling.{header_line, place_line, kind_word, order_word, has_place, has_read, has_written, part, action_line, relation_word, edge_line}

pub either_length : (b : Bool) (u v : List ℕ) (m : ℕ) → length u ≤ m → length v ≤ m → length (cond b u v) ≤ m
either_length true u v m h i = h
either_length false u v m h i = i

pub word_length : (k : ℕ) → length (relation_word k) ≤ 3
unfolding relation_word
word_length k =
    either_length (eqb k 0) _ _ 3 (omega arith)
    (either_length (eqb k 1) _ _ 3 (omega arith)
    (either_length (eqb k 2) _ _ 3 (omega arith)
    (either_length (eqb k 3) _ _ 3 (omega arith)
    (either_length (eqb k 4) _ _ 3 (omega arith)
    (either_length (eqb k 5) _ _ 3 (omega arith) (omega arith))))))

pub edge_parts : (k a b : ℕ) → length (edge_line k a b) ≡ length (relation_word k) + (length (decimal a) + (length (decimal b) + 3))
unfolding edge_line ending
edge_parts k a b =
    length-append (relation_word k) (ending (a ∷ b ∷ []))
    ∙ omega (arith, length-append (decimal a) (ending (b ∷ [])), length-append (decimal b) (newline ∷ []))

-- numbers of 64 bits have at most 20 digits
pub edge_length : (k a b : ℕ) → a < 2 ^ 64 → b < 2 ^ 64 → length (edge_line k a b) ≤ 48
edge_length k a b h i =
    omega (arith, edge_parts k a b, word_length k, decimal_length 19 a (omega arith), decimal_length 19 b (omega arith))

pub lead_short : (k a : ℕ) → a < 2 ^ 64 → length (relation_word k ++ (space ∷ decimal a)) ≤ 24
lead_short k a h = omega (arith, length-append (relation_word k) (space ∷ decimal a), word_length k, decimal_length 19 a (omega arith))

pub edge_some : (k a b : ℕ) → 0 < length (edge_line k a b)
edge_some k a b = omega (arith, edge_parts k a b)

-- ---- words and lines of actions: how long

kind_length : (k : ℕ) → length (kind_word k) ≤ 6
unfolding kind_word
kind_length k =
    either_length (eqb k 1) _ _ 6 (omega arith)
    (either_length (eqb k 2) _ _ 6 (omega arith)
    (either_length (eqb k 3) _ _ 6 (omega arith)
    (either_length (eqb k 4) _ _ 6 (omega arith)
    (either_length (eqb k 5) _ _ 6 (omega arith)
    (either_length (eqb k 6) _ _ 6 (omega arith) (either_length (eqb k 7) _ _ 6 (omega arith) (omega arith)))))))

pub kind_short : (k : ℕ) → length (kind_word k) ≤ 8
kind_short k = omega (arith, kind_length k)

pub order_short : (o : ℕ) → length (order_word o) ≤ 8
unfolding order_word
order_short o =
    either_length (eqb o 1) _ _ 8 (omega arith)
    (either_length (eqb o 2) _ _ 8 (omega arith)
    (either_length (eqb o 3) _ _ 8 (omega arith)
    (either_length (eqb o 4) _ _ 8 (omega arith) (either_length (eqb o 5) _ _ 8 (omega arith) (either_length (eqb o 6) _ _ 8 (omega arith) (omega arith))))))

pub part_short : (k : ℕ) (due : Bool) (n : ℕ) → n < 10 ^ suc k → length (part due n) ≤ suc (suc k)
unfolding part
part_short k due n l = either_length due _ _ (suc (suc k)) (omega (arith, decimal_length k n l)) (omega arith)

-- what a kind's word, place and values come to
kind_shape : (w : ActionKind) (place read written : ℕ) → (has_place (kind_number w) ≡ true → place < 100) → read < 4294967296 → written < 4294967296
    → length (kind_word (kind_number w)) + (length (part (has_place (kind_number w)) place) + (length (part (has_read (kind_number w)) read) + length (part (has_written (kind_number w)) written))) ≤ 28
unfolding kind_word part
kind_shape Lock p r w h i j = omega (arith, decimal_length 1 p (h refl))
kind_shape Unlock p r w h i j = omega (arith, decimal_length 1 p (h refl))
kind_shape (AtomicLoad m) p r w h i j = omega (arith, decimal_length 1 p (h refl), decimal_length 9 r (omega arith))
kind_shape (AtomicStore m) p r w h i j = omega (arith, decimal_length 1 p (h refl), decimal_length 9 w (omega arith))
kind_shape (ReadModifyWrite m) p r w h i j = omega (arith, decimal_length 1 p (h refl), decimal_length 9 r (omega arith), decimal_length 9 w (omega arith))
kind_shape Load p r w h i j = omega (arith, decimal_length 1 p (h refl), decimal_length 9 r (omega arith))
kind_shape Store p r w h i j = omega (arith, decimal_length 1 p (h refl), decimal_length 9 w (omega arith))
kind_shape (Fence m) p r w h i j = omega arith

-- the line of an action, part by part
action_parts : (x : Action)
    → length (action_line x) ≡ length (kind_word (kind_number x.what)) + (length (part true x.thread) + (length (part (has_place (kind_number x.what)) x.place) + (length (order_word (order_in x.what)) + (length (part (has_read (kind_number x.what)) x.read) + (length (part (has_written (kind_number x.what)) x.written) + 1)))))
unfolding action_line
action_parts x = simp length-append

pub action_short : (x : Action) → x.thread < 65536 → x.place < 65536 → x.read < 4294967296 → x.written < 4294967296 → length (action_line x) ≤ 64
action_short x a b c d =
    let k = kind_number x.what in
    omega (arith, action_parts x, kind_length k, order_short (order_in x.what), part_short 4 true x.thread (omega arith), part_short 4 (has_place k) x.place (omega arith), part_short 9 (has_read k) x.read (omega arith), part_short 9 (has_written k) x.written (omega arith))

-- of an action whose thread and place have two digits: the longest is an rmw's
pub action_length : (x : Action) → x.thread < 100 → (has_place (kind_number x.what) ≡ true → x.place < 100) → x.read < 4294967296 → x.written < 4294967296 → length (action_line x) ≤ 40
action_length x a b c d =
    omega (arith, action_parts x, kind_shape x.what x.place x.read x.written b c d, part_short 1 true x.thread a, order_short (order_in x.what))

pub action_some : (x : Action) → 0 < length (action_line x)
action_some x = omega (arith, action_parts x)

-- ---- places

pub place_length : (k : ℕ) → length (place_line k) ≤ 7
unfolding place_line
place_length k = either_length (eqb k 0) _ _ 7 (omega arith) (either_length (eqb k 1) _ _ 7 (omega arith) (omega arith))

pub place_short : (k : ℕ) → length (place_line k) ≤ 8
place_short k = omega (arith, place_length k)

some_if : (b : Bool) (u v : List ℕ) → 0 < length u → 0 < length v → 0 < length (cond b u v)
some_if true u v h i = h
some_if false u v h i = i

pub place_some : (k : ℕ) → 0 < length (place_line k)
unfolding place_line
place_some k = some_if (eqb k 0) _ _ (omega arith) (some_if (eqb k 1) _ _ (omega arith) (omega arith))

-- ---- the first line

ending_short : (n : ℕ) (ns : List ℕ) → n < 2 ^ 64 → length (ending (n ∷ ns)) ≤ 21 + length (ending ns)
ending_short n ns h = ending_more 20 n ns (decimal_length 19 n (omega arith))

ending_none : length (ending []) ≡ 1
unfolding ending
ending_none = refl

pub header_short : (e n t p : ℕ) → e < 2 ^ 64 → n < 2 ^ 64 → t < 2 ^ 64 → p < 2 ^ 64 → length (header_line e n t p) ≤ 92
header_short e n t p h a b c =
    omega (arith, ending_short e (n ∷ t ∷ p ∷ []) h, ending_short n (t ∷ p ∷ []) a, ending_short t (p ∷ []) b, ending_short p [] c, ending_none)

-- of numbers within their limits
pub first_length : (e n t p : ℕ) → e < 10 → n < 1000 → t < 100 → p < 100 → length (header_line e n t p) ≤ 20
first_length e n t p h a b c =
    omega (arith, ending_more 1 e (n ∷ t ∷ p ∷ []) (decimal_length 0 e h), ending_more 3 n (t ∷ p ∷ []) (decimal_length 2 n a), ending_more 2 t (p ∷ []) (decimal_length 1 t b), ending_more 2 p [] (decimal_length 1 p c), ending_none)

pub header_some : (e n t p : ℕ) → 0 < length (header_line e n t p)
header_some e n t p = omega arith
