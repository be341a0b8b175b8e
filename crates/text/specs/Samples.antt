-- Texts of the paper's drawings, and which line of a bad text is told, at samples. By computation.
use Rattle.std.specs.Prelude.{ℕ, [], ◌∷◌, ◌≡◌, refl}
use Prim.Native.String.{String}
use Rattle.rows.specs.Numbers.{joined}
use Rattle.model.specs.Candidates.{action_ok}
use Rattle.model.specs.Drawings.{computing, A, D, K}
use Rattle.page.specs.Lines.{ascii, digits, decimal, ending}
use Rattle.model.specs.declared.refusals.Reason.TheVariants.{BadLine}
use Rattle.model.specs.Refusals.{Checked, Good, Refused}
use Rattle.drawing.specs.Files.{kind_of, order_of, walks}
use Rattle.spelling.specs.Spelling.{place_line, kind_word, order_word, part, action_line, relation_word, edge_line, starts, word_end, longer, scan, field_at, clipped, place_at, kind_at, order_at, action_read}
use Rattle.text.specs.Texts.{lines_of, text_with, text_of, along, edge_step, edge_taken, candidate_in, limits_ok, first_check, place_test, action_test, end_test, begin_check, lines_check, text_check}

-- what computes the check of a text
unfoldable texting : ℕ
unfolding computing digits decimal ending joined kind_of order_of walks action_ok place_line kind_word order_word part action_line relation_word edge_line starts word_end longer scan field_at clipped place_at kind_at order_at action_read lines_of text_with text_of along edge_step edge_taken candidate_in limits_ok first_check place_test action_test end_test begin_check lines_check text_check
texting = 0

-- ---- the paper's drawings

pub text_A : text_of A ≡ ascii "drawing 1 0 0 0\nend\n"
unfolding texting
text_A = refl

pub text_K : text_of K ≡ ascii "drawing 1 2 1 1\nplain\nload 0 0 5\nstore 0 0 5\nsb 1 0\nrf 1 0\nend\n"
unfolding texting
text_K = refl

pub text_D : text_of D ≡ ascii "drawing 1 6 3 2\nplain\natomic\nstore 0 0 0\nastore 0 1 relaxed 0\nstore 1 0 1\nastore 1 1 release 1\naload 2 1 relaxed 1\nload 2 0 0\nsb 0 1\nsb 2 3\nsb 4 5\nasw 1 2\nasw 1 4\nrf 0 5\nrf 3 4\nmo 1 3\nend\n"
unfolding texting
text_D = refl

-- read back
pub read_D : candidate_in (text_of D) ≡ D
unfolding texting
read_D = refl

-- ---- bad lines

abbrev told : String → Checked
told text = text_check (ascii text)

-- leading zeros: in the first line, in an action, in an edge
pub zeros_told : told "drawing 1 0 0 0\nend\n"
    ∷ told "drawing 01 0 0 0\nend\n"
    ∷ told "drawing 1 1 1 1\nplain\nload 0 0 05\nend\n"
    ∷ told "drawing 1 2 1 1\nplain\nload 0 0 5\nstore 0 0 5\nsb 01 0\nend\n"
    ∷ []
    ≡ Good 1 0 0 0 ∷ Refused BadLine 0 ∷ Refused BadLine 22 ∷ Refused BadLine 45 ∷ []
unfolding texting
zeros_told = refl

-- edges: in their order; one too early; one twice; past N; of asw inside one thread
pub edges_told : told "drawing 1 2 1 1\nplain\nload 0 0 5\nstore 0 0 5\nsb 0 1\nsb 1 0\nrf 1 0\nend\n"
    ∷ told "drawing 1 2 1 1\nplain\nload 0 0 5\nstore 0 0 5\nrf 1 0\nsb 1 0\nend\n"
    ∷ told "drawing 1 2 1 1\nplain\nload 0 0 5\nstore 0 0 5\nsb 1 0\nsb 1 0\nend\n"
    ∷ told "drawing 1 2 1 1\nplain\nload 0 0 5\nstore 0 0 5\nsb 0 2\nend\n"
    ∷ told "drawing 1 2 1 1\nplain\nload 0 0 5\nstore 0 0 5\nasw 1 0\nend\n"
    ∷ []
    ≡ Good 1 2 1 1 ∷ Refused BadLine 52 ∷ Refused BadLine 52 ∷ Refused BadLine 45 ∷ Refused BadLine 45 ∷ []
unfolding texting
edges_told = refl

-- a fence; one with a place; without its order; in thread T; at place P a store
pub actions_told : told "drawing 2 1 1 1\nplain\nfence 0 seq_cst\nend\n"
    ∷ told "drawing 2 1 1 1\nplain\nfence 0 0 seq_cst\nend\n"
    ∷ told "drawing 2 1 1 1\nplain\nfence 0\nend\n"
    ∷ told "drawing 2 1 1 1\nplain\nfence 1 seq_cst\nend\n"
    ∷ told "drawing 2 1 1 1\nplain\nstore 0 1 0\nend\n"
    ∷ []
    ≡ Good 2 1 1 1 ∷ Refused BadLine 22 ∷ Refused BadLine 22 ∷ Refused BadLine 22 ∷ Refused BadLine 22 ∷ []
unfolding texting
actions_told = refl

-- nothing; no newline after the end; no end; a byte after it; a place missing; two spaces; N, T and P above their limits; edition 3
pub lines_told : told ""
    ∷ told "drawing 1 0 0 0\nend"
    ∷ told "drawing 1 0 0 0\n"
    ∷ told "drawing 1 0 0 0\nend\n\n"
    ∷ told "drawing 1 0 0 1\nend\n"
    ∷ told "drawing 1  0 0 0\nend\n"
    ∷ told "drawing 1 129 0 0\nend\n"
    ∷ told "drawing 1 0 17 0\nend\n"
    ∷ told "drawing 1 0 0 65\nend\n"
    ∷ told "drawing 3 0 0 0\nend\n"
    ∷ []
    ≡ Refused BadLine 0 ∷ Refused BadLine 16 ∷ Refused BadLine 16 ∷ Refused BadLine 20 ∷ Refused BadLine 16 ∷ Refused BadLine 0 ∷ Refused BadLine 0 ∷ Refused BadLine 0 ∷ Refused BadLine 0 ∷ Refused BadLine 0 ∷ []
unfolding texting
lines_told = refl
