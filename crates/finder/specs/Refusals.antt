-- The finder tests a list for 9, 4, 5 (N above 8), 3, then for 6, 7, 11 as the second door does, and last for 12: of lists with ever fewer things wrong, what is told, by computation.
use Rattle.std.specs.Prelude.{ℕ, cond, List, [], ◌∷◌, ◌≡◌, refl, eqb}
use Rattle.rows.specs.Sets.{any}
use Rattle.rows.specs.Numbers.{bit, member, held, listed}
use Rattle.model.specs.Candidates.{action_ok, to_others}
use Rattle.model.specs.Drawings.{store}
use Rattle.model.specs.declared.refusals.Reason.TheVariants.{WrongLength, UnknownEdition, AboveLimit, ShortBuffer, OwnThread, NotEmpty}
use Rattle.model.specs.Refusals.{Passed, Refused, Walk}
use Rattle.drawing.specs.Files.{then, walks}
use Rattle.lists.specs.Lists.{sizes_check, place_check, action_check, number_check, start_check, content_check}
use Rattle.finder.specs.Finding.{few_check, empty_check, half_check}

-- two actions and a place byte, for this edition and N, with a store of this length
abbrev sizes : ℕ → ℕ → ℕ → Walk
sizes e n room = then (few_check e n room) (sizes_check 2 1 e n 1 1 room)

-- edition 3 and N 9 with 4,607 numbers; room; edition 2; N 8; N 2
pub sizes_told : sizes 3 9 4607 ∷ sizes 3 9 4608 ∷ sizes 2 9 4608 ∷ sizes 2 8 4608 ∷ sizes 2 2 4608 ∷ [] ≡ Refused ShortBuffer 0 ∷ Refused UnknownEdition 0 ∷ Refused AboveLimit 0 ∷ Refused WrongLength 0 ∷ Passed ∷ []
unfolding few_check sizes_check
sizes_told = refl

-- sb, asw, dd, cd and one number of rf: the edges asw 1→0 and rf 0→1; what is past them reads as zero
abbrev numbers : List ℕ
numbers = listed 1025 λ k. cond (eqb k 258) 1 (cond (eqb k 1024) 2 0)

-- two stores of one thread, the whole test of what is handed in; the last test by itself
pub content_told : then (content_check (store 0 0 1 ∷ store 0 0 1 ∷ []) (1 ∷ []) numbers 2 1 1) (half_check numbers) ∷ half_check numbers ∷ [] ≡ Refused OwnThread 258 ∷ Refused NotEmpty 0 ∷ []
unfolding half_check empty_check content_check place_check action_check number_check start_check walks action_ok to_others any bit member held listed
content_told = refl
