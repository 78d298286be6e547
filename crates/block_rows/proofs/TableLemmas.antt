-- A text tells one table or has one fault.
use Rattle.std.proofs.Common.{◌≡◌, ℕ, Bool, true, false, Option, Some, None, refl, sym, ap, subst, ◌∙◌}
use Rattle.std.proofs.Common.{◌⊎◌, inl, inr}
use Rattle.std.specs.Prelude.{List, IsUtf8}
use Rattle.std.specs.Str.{is_utf8}
use Rattle.std.proofs.lemmas.Bool.{true≢false}
use Rattle.std.proofs.lemmas.Str.{IsUtf8-from_is_utf8, is_utf8-from_IsUtf8}
use Rattle.toml.specs.Data.{Members}
use Rattle.toml.specs.Parse.{parse_document}
use Rattle.block_rows.specs.declared.row.Row.{Row}
use Rattle.block_rows.specs.declared.fault.RowsFault.{RowsFault}
use Rattle.block_rows.specs.declared.fault.RowsFault.TheVariants.{Toml}
use Rattle.block_rows.specs.Judging.{document_fault}
use Rattle.block_rows.specs.Rows.{Table}
use Rattle.block_rows.specs.Shipped.{shipped_rows}
use Rattle.block_rows.specs.UserTable.{IsDocument, IsDocumentFault, IsRowsFaultOf, IsTableOf, elements_of, rows_of}
use Rattle.block_rows.proofs.FaultLemmas.{fault_or_rows, found_fault, no_fault_found, one_document_fault}

-- equal options that are there have equal contents
same_document : (a b : Members) → Some a ≡ Some b → a ≡ b
same_document a b e = cc

-- a text is one document
one_document : (text : List ℕ) (a b : Members) → IsDocument text a → IsDocument text b → a ≡ b
one_document text a b one other = same_document a b (sym one.means ∙ other.means)

-- a document tells a table or has a fault
of_document : (text : List ℕ) (document : Members) (found : Option RowsFault) → IsDocument text document
    → document_fault document ≡ found
    → ((table : Table) × IsTableOf text table) ⊎ ((fault : RowsFault) × IsRowsFaultOf text fault)
of_document text document (Some fault) is e = inr (fault, inr (document, is, found_fault document fault e))
of_document text document None is e =
    let none = no_fault_found document e in
    inl (
      record { user = rows_of (elements_of document); shipped = shipped_rows },
      record {
        document = document;
        read = is;
        user = record { shaped = none.0; faultless = none.1; told = refl };
        shipped = refl;
      },
    )

-- UTF-8 that may be a document tells a table or has a fault
of_utf8 : (text : List ℕ) (parsed : Option Members) → IsUtf8 text → parse_document text ≡ parsed
    → ((table : Table) × IsTableOf text table) ⊎ ((fault : RowsFault) × IsRowsFaultOf text fault)
of_utf8 text (Some document) utf8 e =
    of_document text document (document_fault document) (record { utf8 = utf8; means = e }) refl
of_utf8 text None utf8 e = inr (Toml, inl (no_document, refl))
  where
    no_document : (document : Members) → ¬ IsDocument text document
    no_document document is = absurd_of (sym e ∙ is.means)
      where
        absurd_of : None ≡ Some document → ⊥
        absurd_of e = absurd (cc)

-- a text tells a table or has a fault, whether it is UTF-8 or not
by_utf8 : (text : List ℕ) (b : Bool) → is_utf8 text ≡ b
    → ((table : Table) × IsTableOf text table) ⊎ ((fault : RowsFault) × IsRowsFaultOf text fault)
by_utf8 text true e = of_utf8 text (parse_document text) (IsUtf8-from_is_utf8 text e) refl
by_utf8 text false e = inr (Toml, inl (λ document is. true≢false (sym (is_utf8-from_IsUtf8 text is.utf8) ∙ e), refl))

-- all texts tell a table or have a fault
pub table_or_fault : (text : List ℕ)
    → ((table : Table) × IsTableOf text table) ⊎ ((fault : RowsFault) × IsRowsFaultOf text fault)
table_or_fault text = by_utf8 text (is_utf8 text) refl

-- a text that tells a table has no fault
pub table_has_no_fault : (text : List ℕ) (table : Table) (fault : RowsFault)
    → IsTableOf text table → IsRowsFaultOf text fault → ⊥
table_has_no_fault text table fault is (inl none) = none.0 is.document is.read
table_has_no_fault text table fault is (inr found) =
    let same = one_document text is.document found.0 is.read found.1 in
    fault_or_rows is.document fault table.user
    (subst (λ (d : Members). IsDocumentFault d fault) (sym same) found.2) is.user

-- tables of the same rows are the same
same_table : (user user2 shipped shipped2 : List Row) → user ≡ user2 → shipped ≡ shipped2
    → ◌≡◌ {A = Table} (record { user = user; shipped = shipped }) (record { user = user2; shipped = shipped2 })
same_table user user2 shipped shipped2 one other = cc

-- a text tells one table
pub one_table : (text : List ℕ) → (a b : Table) → IsTableOf text a → IsTableOf text b → a ≡ b
one_table text a b one other =
    let same = one_document text one.document other.document one.read other.read in
    let user = one.user.told ∙ ap (λ (d : Members). rows_of (elements_of d)) same ∙ sym other.user.told in
    same_table a.user b.user a.shipped b.shipped user (one.shipped ∙ sym other.shipped)

-- a text has one fault
pub one_fault : (text : List ℕ) → (a b : RowsFault) → IsRowsFaultOf text a → IsRowsFaultOf text b → a ≡ b
one_fault text a b (inl one) (inl other) = one.1 ∙ sym other.1
one_fault text a b (inl one) (inr other) = absurd (one.0 other.0 other.1)
one_fault text a b (inr one) (inl other) = absurd (other.0 one.0 one.1)
one_fault text a b (inr one) (inr other) =
    let same = one_document text other.0 one.0 other.1 one.1 in
    one_document_fault one.0 a b one.2 (subst (λ (d : Members). IsDocumentFault d b) same other.2)
