use Rattle.std.proofs.Common.{◌≡◌, Some, option_map, unwrap_or, sym, ap, ◌∙◌}
use Rattle.toml.specs.Data.{no_items}
use Rattle.toml.specs.View.{items_view, table_view}
use Rattle.block_rows.specs.UserTable.{elements_in, rows_of}
use Rattle.block_rows.proofs.FaultLemmas.{found_fault, no_fault_found, none_if}
use Rattle.block_rows.proofs.user.document_rows.Goals as goal

pub returns-in-Some-clause-fault : goal.returns-in-Some-clause-fault
returns-in-Some-clause-fault c = λ _. found_fault (table_view c.args.document.now) c.in-Some.fault
    (sym c.document_fault.ensures ∙ c.in-Some.is)

pub returns-in_ok-user_rows-in-Some-elements-clause-found : goal.returns-in_ok-user_rows-in-Some-elements-clause-found
returns-in_ok-user_rows-in-Some-elements-clause-found c =
    let document = table_view c.args.document.now in
    let none = no_fault_found document
    (sym c.document_fault.ensures ∙ none_if c.document_fault.result c.in_default.not-Some) in
    let there : elements_in document ≡ Some (items_view c.in-Some-elements.elements.now) = sym c.elements.ensures
    ∙ ap (option_map (λ elements. items_view elements.now)) c.in-Some-elements.is in
    record {
      shaped = none.0;
      faultless = none.1;
      told = c.in_ok-user_rows-in-Some-elements.ensures ∙ ap (λ elements. rows_of (unwrap_or elements no_items))
          (sym there);
    }
