use Rattle.std.proofs.Common.{◌≡◌, ℕ, List, length, sym, ap, subst, ◌∙◌, arith, All}
use Rattle.set_cover.specs.Instance.{Instance}
use Rattle.set_cover.specs.Rows.{words_of}
use Rattle.set_cover.proofs.PieceLemmas.{pieces_same}
use Rattle.set_cover.proofs.instance.Instance.has_rows_of.Goals as goal

pub returns : goal.returns
returns c =
    let one = c.self.inside in let two = c.other.inside in
    let words = ap (λ (i : Instance). i.words) c.self.view_is in
    let others = ap (λ (i : Instance). i.words) c.other.view_is in
    let width : two.width ≡ one.width = ap (λ (i : Instance). i.width) c.other.view_is ∙ sym c.requires.width
    ∙ sym (ap (λ (i : Instance). i.width) c.self.view_is) in
    let count : length one.rows.items ≡ length two.rows.items = omega (
      arith,
      c.self.invariant.1.whole,
      c.other.invariant.1.whole,
      ap (λ (i : Instance). length i.places) c.self.view_is,
      ap (λ (i : Instance). length i.places) c.other.view_is,
      ap (λ (l : List ℕ). length l) c.requires.places,
    ) in (
      λ t. sym words ∙ ap words_of (sym c.deref.ensures.value ∙ c.are_same.ensures.0 t ∙ c.deref-2.ensures.value)
          ∙ others,
      λ e. c.are_same.ensures.1 (c.deref.ensures.value
          ∙ pieces_same one.width one.rows.items two.rows.items count c.self.invariant.1.wide
          (subst (λ (w : ℕ). All (λ row. length row ≡ w) two.rows.items) width c.other.invariant.1.wide)
          (words ∙ e ∙ sym others)
          ∙ sym c.deref-2.ensures.value),
    )
