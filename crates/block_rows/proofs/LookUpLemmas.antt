-- The look-up, part by part.
use Rattle.std.proofs.Common.{◌≡◌, Bool, true, false, cond, List, [], ◌∷◌, All, Option, Some, None, IfSome, refl}
use Rattle.std.proofs.Common.{subst, sym, ap, ◌∙◌, find, option_copied, Bor}
use Rattle.std.specs.Option.{option_or}
use Rattle.std.proofs.lemmas.List.Elements.{All-head, All-tail}
use Rattle.std.proofs.lemmas.List.Folds.{find-append}
use Rattle.scan_core.specs.declared.state.BlockState.{BlockState}
use Rattle.block_rows.specs.declared.row.Row.{Row}
use Rattle.block_rows.specs.Rows.{Table, row_for, fits, fits_as_wildcard}

-- the user's rows come first, then those shipped, then the user's wildcards
pub row_for-parts : (table : Table) (state : BlockState)
    → row_for table state ≡ option_or (option_or (find (fits state) table.user) (find (fits state) table.shipped))
    (find (fits_as_wildcard state) table.user)
row_for-parts table state = ap (λ (o : Option Row). option_or o (find (fits_as_wildcard state) table.user))
    (find-append (fits state) table.user table.shipped)

-- a row of the user's that fits is the one
pub row_for-user : (table : Table) (state : BlockState) (row : Row) → find (fits state) table.user ≡ Some row
    → Some row ≡ row_for table state
row_for-user table state row e =
    sym (row_for-parts table state
    ∙ ap (λ (o : Option Row). option_or (option_or o (find (fits state) table.shipped))
    (find (fits_as_wildcard state) table.user)) e)

-- where none does, a shipped one that fits is
pub row_for-shipped : (table : Table) (state : BlockState) (row : Row) → find (fits state) table.user ≡ None
    → find (fits state) table.shipped ≡ Some row → Some row ≡ row_for table state
row_for-shipped table state row e f = sym (row_for-parts table state
    ∙ ap (λ (o : Option Row). option_or (option_or o (find (fits state) table.shipped))
    (find (fits_as_wildcard state) table.user)) e
    ∙ ap (λ (o : Option Row). option_or o (find (fits_as_wildcard state) table.user)) f)

-- where none does either, a wildcard is
pub row_for-wildcard : (table : Table) (state : BlockState) → find (fits state) table.user ≡ None
    → find (fits state) table.shipped ≡ None → find (fits_as_wildcard state) table.user ≡ row_for table state
row_for-wildcard table state e f = sym (row_for-parts table state
    ∙ ap (λ (o : Option Row). option_or (option_or o (find (fits state) table.shipped))
    (find (fits_as_wildcard state) table.user)) e
    ∙ ap (λ (o : Option Row). option_or o (find (fits_as_wildcard state) table.user)) f)

-- a copy of nothing is nothing
pub copied_none : (o : Option (Bor Row)) → ((x : Bor Row) → ¬ o ≡ Some x) → option_copied o ≡ None
copied_none None h = refl
copied_none (Some x) h = absurd (h x refl)

-- what a search of a copy of the rows found
pub found_in : (test : Row → Bool) {rows copy : List Row} {found other : Option Row} → copy ≡ rows
    → found ≡ find test copy → found ≡ other → find test rows ≡ other
found_in test e f g = ap (find test) (sym e) ∙ sym f ∙ g

-- what holds of the first row and of a later one holds of the one that is chosen
by_test : (P : Row → Type 0) (b : Bool) (first row : Row) (later : Option Row) → P first → (later ≡ Some row → P row)
    → cond b (Some first) later ≡ Some row → P row
by_test P true first row later p h e = (let same : first ≡ row = cc in subst P same p)
by_test P false first row later p h e = h e

-- what is true of each row is true of the one that is found
pub found_all : (P : Row → Type 0) (test : Row → Bool) (rows : List Row) (row : Row) → All P rows
    → find test rows ≡ Some row → P row
found_all P test [] row all e = absurd (cc)
found_all P test (first ∷ rows) row all e =
    by_test P (test first) first row (find test rows) (All-head P first rows all)
    (found_all P test rows row (All-tail P first rows all)) e

-- what holds of a copy holds of what was copied
pub copied_some : (P : Row → Type 0) (o : Option (Bor Row)) → ((row : Row) → option_copied o ≡ Some row → P row)
    → IfSome o (λ x. P x.now)
copied_some P None h = tt
copied_some P (Some x) h = h x.now refl
