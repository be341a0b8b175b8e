-- A list is tested for 9, 4, 5, 3, 6 (places first, then actions), 7, 11: of lists with ever fewer things wrong, what is told, by computation.
use Rattle.std.specs.Prelude.{ℕ, ◌-◌, ◌^◌, cond, List, [], ◌∷◌, ◌≡◌, refl, eqb}
use Rattle.rows.specs.Sets.{any}
use Rattle.rows.specs.Numbers.{bit, member, held, listed}
use Rattle.model.specs.Candidates.{action_ok, to_others}
use Rattle.model.specs.Drawings.{store}
use Rattle.model.specs.declared.refusals.Reason.TheVariants.{WrongLength, UnknownEdition, AboveLimit, BadField, BadColumn, ShortBuffer, OwnThread}
use Rattle.model.specs.Refusals.{Passed, Refused}
use Rattle.drawing.specs.Files.{walks}
use Rattle.lists.specs.Lists.{sizes_check, place_check, action_check, number_check, start_check, content_check}

-- two actions, a place byte and a store of 4,607 numbers for edition 3, N 129 and P 1; room; edition 0; edition 2; N 1; one action; edition 1
pub sizes_told : sizes_check 2 1 3 129 1 1 4607
    ∷ sizes_check 2 1 3 129 1 1 4608
    ∷ sizes_check 2 1 0 129 1 1 4608
    ∷ sizes_check 2 1 2 129 1 1 4608
    ∷ sizes_check 2 1 2 1 1 1 4608
    ∷ sizes_check 1 1 2 1 1 1 4608
    ∷ sizes_check 1 1 1 1 1 1 4608
    ∷ []
    ≡ Refused ShortBuffer 0 ∷ Refused UnknownEdition 0 ∷ Refused UnknownEdition 0 ∷ Refused AboveLimit 0 ∷ Refused WrongLength 0 ∷ Passed ∷ Passed ∷ []
unfolding sizes_check
sizes_told = refl

-- one store by thread 1 of one at a place of kind 3, with a bit at column 1 of sb; the place is plain; thread 0; a bit at column 64; a bit in row 1; none
pub contents_told : content_check (store 1 0 1 ∷ []) (3 ∷ []) (2 ∷ []) 1 1 1
    ∷ content_check (store 1 0 1 ∷ []) (1 ∷ []) (2 ∷ []) 1 1 1
    ∷ content_check (store 0 0 1 ∷ []) (1 ∷ []) (2 ∷ []) 1 1 1
    ∷ content_check (store 0 0 1 ∷ []) (1 ∷ []) (1 ∷ 1 ∷ []) 1 1 1
    ∷ content_check (store 0 0 1 ∷ []) (1 ∷ []) (1 ∷ 0 ∷ 1 ∷ []) 1 1 1
    ∷ content_check (store 0 0 1 ∷ []) (1 ∷ []) [] 1 1 1
    ∷ []
    ≡ Refused BadField 128 ∷ Refused BadField 0 ∷ Refused BadColumn 0 ∷ Refused BadColumn 1 ∷ Refused BadColumn 2 ∷ Passed ∷ []
unfolding content_check place_check action_check number_check start_check walks action_ok to_others any bit member held
contents_told = refl

-- row 0 of 66 actions: all bits of its first number, two of its second, a third; and of 128 actions: all bits of both
pub numbers_told : number_check ((2 ^ 64 - 1) ∷ []) 66 0
    ∷ number_check (0 ∷ 3 ∷ []) 66 1
    ∷ number_check (0 ∷ 4 ∷ []) 66 1
    ∷ number_check (0 ∷ (2 ^ 64 - 1) ∷ []) 128 1
    ∷ []
    ≡ Passed ∷ Passed ∷ Refused BadColumn 1 ∷ Passed ∷ []
unfolding number_check
numbers_told = refl

-- sb, asw and one number of dd, zero but for two numbers; what is past them reads as zero
abbrev numbers : ℕ → ℕ → ℕ → ℕ → List ℕ
numbers i x j y = listed 513 λ k. cond (eqb k i) x (cond (eqb k j) y 0)

-- two stores of one thread with asw to the first, and a bit at column 2 of dd; asw both ways; to the first alone; both ways between two threads
pub starts_told : content_check (store 0 0 1 ∷ store 0 0 1 ∷ []) (1 ∷ []) (numbers 258 1 512 4) 2 2 1
    ∷ content_check (store 0 0 1 ∷ store 0 0 1 ∷ []) (1 ∷ []) (numbers 256 2 258 1) 2 2 1
    ∷ content_check (store 0 0 1 ∷ store 0 0 1 ∷ []) (1 ∷ []) (numbers 258 1 512 2) 2 2 1
    ∷ content_check (store 0 0 1 ∷ store 1 0 1 ∷ []) (1 ∷ []) (numbers 256 2 258 1) 2 2 1
    ∷ []
    ≡ Refused BadColumn 512 ∷ Refused OwnThread 256 ∷ Refused OwnThread 258 ∷ Passed ∷ []
unfolding content_check place_check action_check number_check start_check walks action_ok to_others any bit member held listed
starts_told = refl
