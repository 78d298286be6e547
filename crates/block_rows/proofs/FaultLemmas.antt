-- The first fault of a user's table is the one that is found.
use Rattle.std.proofs.Common.{◌≡◌, ℕ, zero, suc, ◌+◌, ◌<◌, Bool, true, false, cond, Option, Some, None, option_map}
use Rattle.std.proofs.Common.{refl, sym, ap, ◌∙◌, arith, ◌⊎◌, inl, inr}
use Rattle.std.specs.Option.{option_or}
use Rattle.std.proofs.lemmas.Bool.{cases_lt, true≢false}
use Rattle.toml.specs.Data.{Items, no_items, item, Members}
use Rattle.block_rows.specs.declared.row.Row.{Row}
use Rattle.block_rows.specs.declared.fault.RowFault.{RowFault}
use Rattle.block_rows.specs.declared.fault.RowFault.TheVariants.{Shape}
use Rattle.block_rows.specs.declared.fault.RowsFault.{RowsFault}
use Rattle.block_rows.specs.declared.fault.RowsFault.TheVariants.{BadRow}
use Rattle.block_rows.specs.UserTable.{element_fault, fault_at, has_shape, elements_of, IsFirstFault, IsDocumentFault}
use Rattle.block_rows.specs.UserTable.{TellsRows}
use Rattle.block_rows.specs.Judging.{rows_fault, document_fault}
use Rattle.std.specs.Prelude.{List}

-- an option isn't both there and none
some_none : {X : Type 0} (x : X) → Some x ≡ None → ⊥
some_none x e = absurd (cc)

-- equal options that are there have equal contents
some_is : {X : Type 0} (x y : X) → Some x ≡ Some y → x ≡ y
some_is x y e = cc

-- what is no `Some` is `None`
pub none_if : {X : Type 0} (o : Option X) → ((x : X) → o ≡ Some x → ⊥) → o ≡ None
none_if None not = refl
none_if (Some x) not = absurd (not x refl)

-- ---- what is found is the first

-- the first fault of elements, of which the first has this index
record IsFirstFrom (offset : ℕ) (elements : Items) (fault : RowsFault) : Type 0 where
  index : ℕ
  kind : RowFault
  found : fault_at elements index ≡ Some kind
  least : (before : ℕ) → before < index → fault_at elements before ≡ None
  told : fault ≡ BadRow (offset + index) kind

-- the first element has the fault, or none and a later one has it
from_here : (offset : ℕ) (o : Option RowFault) (ds : Items) (rest : Option RowsFault) (fault : RowsFault)
    → option_or (option_map (BadRow offset) o) rest ≡ Some fault
    → ((kind : RowFault) × (o ≡ Some kind) × (fault ≡ BadRow offset kind)) ⊎ ((o ≡ None) × (rest ≡ Some fault))
from_here offset (Some kind) ds rest fault e = inl (kind, refl, sym (some_is (BadRow offset kind) fault e))
from_here offset None ds rest fault e = inr (refl, e)

-- a fault that is found is the first from there on
first_from : (offset : ℕ) (elements : Items) (fault : RowsFault) → rows_fault offset elements ≡ Some fault
    → IsFirstFrom offset elements fault
first_from offset no_items fault e = absurd (cc)
first_from offset (item d ds) fault e =
    elim (from_here offset (element_fault d) ds (rows_fault (suc offset) ds) fault e) [
      | inl here ↦ record {
        index = 0;
        kind = here.0;
        found = here.1;
        least = λ before lt. absurd (omega arith);
        told = here.2 ∙ ap (λ (k : ℕ). BadRow k here.0) (omega arith);
      }
      | inr later ↦ (let first = first_from (suc offset) ds fault later.1 in
          record {
            index = suc first.index;
            kind = first.kind;
            found = first.found;
            least = least_after first later.0;
            told = first.told ∙ ap (λ (k : ℕ). BadRow k first.kind) (omega arith);
          })
    ]
  where
    least_after : (first : IsFirstFrom (suc offset) ds fault) → element_fault d ≡ None → (before : ℕ)
        → before < suc first.index → fault_at (item d ds) before ≡ None
    least_after first none zero lt = none
    least_after first none (suc before) lt = first.least before (omega arith)

-- where no fault is found neither the row nor those after it have one
none_from : (offset : ℕ) (o : Option RowFault) (rest : Option RowsFault)
    → option_or (option_map (BadRow offset) o) rest ≡ None → (o ≡ None) × (rest ≡ None)
none_from offset (Some kind) rest e = absurd (cc)
none_from offset None rest e = (refl, e)

-- where none is found no element has one
none_at : (offset : ℕ) (elements : Items) → rows_fault offset elements ≡ None → (index : ℕ)
    → fault_at elements index ≡ None
none_at offset no_items e index = refl
none_at offset (item d ds) e zero = (none_from offset (element_fault d) (rows_fault (suc offset) ds) e).0
none_at offset (item d ds) e (suc index) = none_at (suc offset) ds
    (none_from offset (element_fault d) (rows_fault (suc offset) ds) e).1 index

-- a document of the wrong shape has that fault, any other that of its rows
of_shape : (document : Members) (fault : RowsFault) (b : Bool) → has_shape document ≡ b
    → cond b (rows_fault 0 (elements_of document)) (Some (BadRow 0 Shape)) ≡ Some fault → IsDocumentFault document fault
of_shape document fault true is e =
    let first = first_from 0 (elements_of document) fault e in
    inr (
      is,
      record {
        index = first.index;
        kind = first.kind;
        found = first.found;
        least = first.least;
        told = first.told ∙ ap (λ (k : ℕ). BadRow k first.kind) (omega arith);
      },
    )
of_shape document fault false is e = inl (is, sym (some_is (BadRow 0 Shape) fault e))

-- a fault that is found is the document's
pub found_fault : (document : Members) (fault : RowsFault) → document_fault document ≡ Some fault
    → IsDocumentFault document fault
found_fault document fault e = of_shape document fault (has_shape document) refl e

-- where no fault is found the shape is right
no_shape : (b : Bool) (rows : Option RowsFault) → cond b rows (Some (BadRow 0 Shape)) ≡ None
    → (b ≡ true) × (rows ≡ None)
no_shape true rows e = (refl, e)
no_shape false rows e = absurd (cc)

-- and no row has one
pub no_fault_found : (document : Members) → document_fault document ≡ None
    → (has_shape document ≡ true) × ((index : ℕ) → fault_at (elements_of document) index ≡ None)
no_fault_found document e =
    let none = no_shape (has_shape document) (rows_fault 0 (elements_of document)) e in
    (none.0, none_at 0 (elements_of document) none.1)

-- ---- there is one at most

-- a document with a fault tells no rows
pub fault_or_rows : (document : Members) (fault : RowsFault) (rows : List Row) → IsDocumentFault document fault
    → TellsRows document rows → ⊥
fault_or_rows document fault rows (inl misshapen) tells = true≢false (sym tells.shaped ∙ misshapen.0)
fault_or_rows document fault rows (inr first) tells =
    some_none first.1.kind (sym first.1.found ∙ tells.faultless first.1.index)

-- of two indexes with the least fault neither is less
not_before : (elements : Items) (one other : RowsFault) (a : IsFirstFault elements one)
    (b : IsFirstFault elements other) → a.index < b.index → ⊥
not_before elements one other a b lt = some_none a.kind (sym a.found ∙ b.least a.index lt)

-- there is one first fault
one_first : (elements : Items) (one other : RowsFault) → IsFirstFault elements one → IsFirstFault elements other
    → one ≡ other
one_first elements one other a b = elim (cases_lt a.index b.index) [
  | inl lt ↦ absurd (not_before elements one other a b lt)
  | inr le ↦ (elim (cases_lt b.index a.index) [
    | inl lt ↦ absurd (not_before elements other one b a lt)
    | inr ge ↦ (let same : a.index ≡ b.index = omega arith in
        let kinds : a.kind ≡ b.kind = some_is a.kind b.kind (sym a.found ∙ ap (fault_at elements) same ∙ b.found) in
        a.told ∙ ap (λ (k : ℕ). BadRow k a.kind) same ∙ ap (BadRow b.index) kinds ∙ sym b.told)
  ])
]

-- a document has one fault
pub one_document_fault : (document : Members) (one other : RowsFault) → IsDocumentFault document one
    → IsDocumentFault document other → one ≡ other
one_document_fault document one other (inl a) (inl b) = a.1 ∙ sym b.1
one_document_fault document one other (inl a) (inr b) = absurd (true≢false (sym b.0 ∙ a.0))
one_document_fault document one other (inr a) (inl b) = absurd (true≢false (sym a.0 ∙ b.0))
one_document_fault document one other (inr a) (inr b) = one_first (elements_of document) one other a.1 b.1
