use Rattle.std.proofs.Common.{◌∷◌, [], ◌++◌, ◌∙◌, length, codes, append_assoc}
use Rattle.std.proofs.lemmas.Result.{err_from_is_err_and}
use Rattle.proof_tree.specs.Shape.{tree_of}
use Rattle.certificate_text.specs.Sections.{cells_text, proved_text}
use Rattle.certificate_text.proofs.SectionLemmas.{region_is}
use Rattle.certificate_text.proofs.SentLemmas.{err_sent, then_sent, sends_then, sends_part}
use Rattle.certificate_text.proofs.sections.put_region.Goals as goal

pub returns-in_err-put_line : goal.returns-in_err-put_line
returns-in_err-put_line g c =
    let p = err_from_is_err_and c.from_residual.result c.from_residual.ensures.1 in
    let cells = c.args.cells.now in let torches = c.args.torches.now in let tree = tree_of c.args.proof.now in
    err_sent g.W.Write.contents c.from_residual.result p.0 c.args.sink.now c.put_line.new.self
    (cells_text (codes "region") (length cells ∷ length torches ∷ []))
    (cells_text (codes "D") cells ++ proved_text torches tree) _ p.1 (region_is cells torches tree)
    c.in_err-put_line.ensures

pub returns-in_err-put_cells : goal.returns-in_err-put_cells
returns-in_err-put_cells g c =
    let p = err_from_is_err_and c.from_residual-in_err-put_cells.result c.from_residual-in_err-put_cells.ensures.1 in
    let cells = c.args.cells.now in let torches = c.args.torches.now in let tree = tree_of c.args.proof.now in
    let counts = cells_text (codes "region") (length cells ∷ length torches ∷ []) in
    let dark = cells_text (codes "D") cells in
    err_sent g.W.Write.contents c.from_residual-in_err-put_cells.result p.0 c.args.sink.now c.put_cells.new.sink
    (counts ++ dark) (proved_text torches tree) _ p.1
    (append_assoc counts dark (proved_text torches tree) ∙ region_is cells torches tree)
    (sends_part g.W.Write.contents c.args.sink.now c.put_line.new.self c.put_cells.new.sink counts dark
    c.in_ok-put_line.ensures c.in_err-put_cells.ensures)

pub returns : goal.returns
returns g c =
    let cells = c.args.cells.now in let torches = c.args.torches.now in let tree = tree_of c.args.proof.now in
    let counts = cells_text (codes "region") (length cells ∷ length torches ∷ []) in
    let dark = cells_text (codes "D") cells in
    then_sent g.W.Write.contents c.put_proved.result c.args.sink.now c.put_cells.new.sink c.put_proved.new.sink
    (counts ++ dark) (proved_text torches tree) _
    (append_assoc counts dark (proved_text torches tree) ∙ region_is cells torches tree)
    (sends_then g.W.Write.contents c.args.sink.now c.put_line.new.self c.put_cells.new.sink counts dark
    c.in_ok-put_line.ensures c.in_ok-put_cells.ensures)
    c.put_proved.ensures
