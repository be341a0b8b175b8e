-- The first bad or missing line of a text, said without reading: what stands before it, and what doesn't stand there. Definitions only; Laws.FirstBad proves that refusal 13 is told exactly of it.
use Rattle.std.specs.Prelude.{ℕ, ◌<◌, true, false, List, ◌++◌, ◌⊎◌, ◌≡◌, length}
use Rattle.rows.specs.Sets.{Rel}
use Rattle.rows.specs.Numbers.{joined}
use Rattle.model.specs.declared.Action.{Action}
use Rattle.model.specs.Limits.{given_relations}
use Rattle.model.specs.Candidates.{Candidate, action_ok, place_byte_ok, Values}
use Rattle.drawing.specs.Files.{Fileable}
use Rattle.spelling.specs.Spelling.{header_line, place_line, action_line, edge_line, end_line, turn, starts, stands}
use Rattle.text.specs.Texts.{lines_of, text_of, barred, limits_ok}

-- ---- which line may stand at q

-- a first line within the limits
abbrev pub NoFirst : List ℕ → ℕ → Type 0
NoFirst s q = (e n t p : ℕ) → limits_ok e n t p ≡ true → stands s q (header_line e n t p) ≡ false

-- a place's: 0 mutex, 1 plain, 2 atomic
abbrev pub NoPlace : List ℕ → ℕ → Type 0
NoPlace s q = (k : ℕ) → place_byte_ok k ≡ true → stands s q (place_line k) ≡ false

-- an action's, whose fields keep the rules
abbrev pub NoAction : ℕ → ℕ → List ℕ → ℕ → Type 0
NoAction t p s q = (x : Action) → action_ok t p x ≡ true → Values x → stands s q (action_line x) ≡ false

-- every edge of r comes before a→b of relation k
abbrev pub Past : ℕ → (ℕ → Rel) → ℕ → ℕ → ℕ → Type 0
Past n r k a b = (j c d : ℕ) → j < given_relations → c < n → d < n → r j c d ≡ true → turn j c d < turn k a b

-- an edge's, which comes after those of r and isn't barred
abbrev pub NoEdge : ℕ → (ℕ → Action) → (ℕ → Rel) → List ℕ → ℕ → Type 0
NoEdge n act r s q = (k a b : ℕ) → k < given_relations → a < n → b < n → barred act k a b ≡ false → Past n r k a b → stands s q (edge_line k a b) ≡ false

-- ---- the good lines before it: their text u is how s begins, and q is where it ends

pub record Begins (u s : List ℕ) (q : ℕ) : Type 0 where
  pub is : starts u s ≡ true
  pub at : q ≡ length u

pub record BadFirst (s : List ℕ) (q : ℕ) : Type 0 where
  pub at : q ≡ 0
  pub missing : NoFirst s q

-- a first line, and fewer places than it says
pub record BadPlace (s : List ℕ) (q : ℕ) : Type 0 where
  pub e : ℕ
  pub n : ℕ
  pub t : ℕ
  pub p : ℕ
  pub place : ℕ → ℕ
  pub i : ℕ
  pub limits : limits_ok e n t p ≡ true
  pub places : (j : ℕ) → j < i → place_byte_ok (place j) ≡ true
  pub fewer : i < p
  pub begins : Begins (header_line e n t p ++ joined i λ j. place_line (place j)) s q
  pub missing : NoPlace s q

-- a first line, its places, and fewer actions than it says
pub record BadAction (s : List ℕ) (q : ℕ) : Type 0 where
  pub e : ℕ
  pub n : ℕ
  pub t : ℕ
  pub p : ℕ
  pub place : ℕ → ℕ
  pub act : ℕ → Action
  pub i : ℕ
  pub limits : limits_ok e n t p ≡ true
  pub places : (j : ℕ) → j < p → place_byte_ok (place j) ≡ true
  pub actions : (j : ℕ) → j < i → (action_ok t p (act j) ≡ true) × Values (act j)
  pub fewer : i < n
  pub begins : Begins (header_line e n t p ++ ((joined p λ j. place_line (place j)) ++ joined i λ j. action_line (act j))) s q
  pub missing : NoAction t p s q

-- what a text without its end is written of
pub record Lined (e n t p : ℕ) (place : ℕ → ℕ) (act : ℕ → Action) (r : ℕ → Rel) : Type 0 where
  pub limits : limits_ok e n t p ≡ true
  pub places : (j : ℕ) → j < p → place_byte_ok (place j) ≡ true
  pub actions : (j : ℕ) → j < n → (action_ok t p (act j) ≡ true) × Values (act j)
  pub free : (k a b : ℕ) → k < given_relations → a < n → b < n → r k a b ≡ true → barred act k a b ≡ false

-- all but the end, and neither the end nor an edge that may come next
pub record BadEdge (s : List ℕ) (q : ℕ) : Type 0 where
  pub e : ℕ
  pub n : ℕ
  pub t : ℕ
  pub p : ℕ
  pub place : ℕ → ℕ
  pub act : ℕ → Action
  pub r : ℕ → Rel
  pub lined : Lined e n t p place act r
  pub begins : Begins (lines_of e n t p place act r) s q
  pub missing : NoEdge n act r s q
  pub endless : stands s q end_line ≡ false

-- a whole text, and a byte after it
pub record BadRest (s : List ℕ) (q : ℕ) : Type 0 where
  pub X : Candidate
  pub fileable : Fileable X
  pub begins : Begins (text_of X) s q
  pub more : q < length s

-- the first bad or missing line starts at q
abbrev pub FirstBad : List ℕ → ℕ → Type 0
FirstBad s q = BadFirst s q ⊎ (BadPlace s q ⊎ (BadAction s q ⊎ (BadEdge s q ⊎ BadRest s q)))
