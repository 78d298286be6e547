use Rattle.std.proofs.Common.{◌∙◌, List, ℕ, ap, subst}
use Rattle.certificate_text.specs.Sections.{region_text}
use Rattle.proof_tree.specs.Shape.{tree_of}
use Rattle.certificate_text.specs.Sending.{IsSent}
use Rattle.certificate_text.proofs.SectionLemmas.{section_is}
use Rattle.certificate_text.proofs.sections.put_section.Goals as goal

pub returns : goal.returns
returns g c =
    let tree = tree_of c.args.proof.now in
    let text = ap (λ (l : List ℕ). region_text l c.places.result.now tree) c.cells.ensures.cells
    ∙ ap (λ (l : List ℕ). region_text c.args.region.now.cells l tree) c.places.ensures.places
    ∙ section_is (record { region = c.args.region.now; torches = c.args.cover.now.places; tree = tree }) in
    subst (IsSent g.W.Write.contents c.put_region.result c.args.sink.now c.put_region.new.sink) text
    c.put_region.ensures
