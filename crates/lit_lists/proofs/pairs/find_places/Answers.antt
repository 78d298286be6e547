use Rattle.std.proofs.Common.{◌≡◌, ℕ, List, [], ◌∷◌, ◌++◌, length, slice_index, rules, sym, ap, subst, ◌∙◌}
use Rattle.std.proofs.Common.{arith}
use Rattle.std.specs.Prelude.{filter}
use Rattle.std.specs.Global.{Vec}
use Rattle.std.proofs.lemmas.Bool.{true≢false}
use Rattle.std.proofs.lemmas.Grind.{get_or_default_zero}
use Rattle.std.proofs.lemmas.List.{append-nil}
use Rattle.cave_base.specs.Box.{cell_count}
use Rattle.cave_model.specs.Parts.{parts}
use Rattle.cave_model.proofs.LightLemmas.{path_end_inside}
use Rattle.lit_lists.specs.Lists.{is_marked, ArePlacesOf}
use Rattle.lit_lists.specs.Reached.{AreReached}
use Rattle.lit_lists.proofs.TakeLemmas.{element_of}
use Rattle.lit_lists.proofs.LightsLemmas.{placed_more, placed_none, row_dark, row_light}
use Rattle.lit_lists.proofs.pairs.find_places.Goals.{then-dark-cell+in_ok-reach+in_ok-list_marked, else-dark-cell}
use Rattle.lit_lists.proofs.pairs.find_places.Goals as goal

pub loop-cell-init : goal.loop-cell-init
loop-cell-init c = record {
  scratch = c.requires.scratch;
  placed = placed_none c.args.world.now c.push.new.self.items c.new-found.result.items
      (c.in_ok-push.ensures.items ∙ ap (λ (l : List ℕ). l ++ 0 ∷ []) c.in_ok-starts.ensures.items)
      c.new-found.ensures.items;
}

pub list_marked-requires : goal.list_marked-requires
list_marked-requires c = record {
  inside = λ k d h.
      (let reached = subst (AreReached c.args.world.now c.loop-cell.cell c.light_back-light.result)
      (sym c.deref.ensures.value) c.in_ok-reach.ensures.reached in
      let there = (reached.exact (slice_index c.deref.result.now k)).0 (element_of c.deref.result.now k h) in
      let lt = path_end_inside there.1 in
      let same = get_or_default_zero c.deref.result.now k d h in
      omega (arith, c.requires.places.whole));
}

pub loop-cell-preserved : goal.loop-cell-preserved
loop-cell-preserved c =
    let long : c.len.result ≡ length c.if-dark-cell.found.items = search rules in
    let grown : c.push-in-loop-cell.new.self.items ≡ c.loop-cell.starts.items ++ length c.if-dark-cell.found.items ∷ []
    = c.in_ok-push-2.ensures.items ∙ ap (λ (n : ℕ). c.loop-cell.starts.items ++ n ∷ []) long in
    elim c.if-dark-cell.branch [
      | then-dark-cell+in_ok-reach+in_ok-list_marked w ↦ rw w.levels-is (record {
        scratch = w.in_ok-reach.ensures.scratch;
        placed = placed_more c.args.world.now c.loop-cell.cell c.loop-cell.starts.items c.loop-cell.found.items
            (filter (is_marked c.args.places.now) w.deref.result.now) c.push-in-loop-cell.new.self.items
            c.if-dark-cell.found.items c.loop-cell.invariant.placed
            (row_dark c.args.world.now c.loop-cell.cell w.light_back-light.result c.args.places.now
            w.deref.result.now ((c.requires.dark.exact c.loop-cell.cell).0 w.if-dark-cell.true) c.requires.places
            w.light_back-light.ensures.back
            (subst (AreReached c.args.world.now c.loop-cell.cell w.light_back-light.result)
            (sym w.deref.ensures.value) w.in_ok-reach.ensures.reached))
            (ap (λ (v : Vec ℕ). v.items) w.found-is ∙ w.in_ok-list_marked.ensures) grown;
      })
      | else-dark-cell w ↦ rw w.levels-is (record {
        scratch = c.loop-cell.invariant.scratch;
        placed = placed_more c.args.world.now c.loop-cell.cell c.loop-cell.starts.items c.loop-cell.found.items
            [] c.push-in-loop-cell.new.self.items c.if-dark-cell.found.items c.loop-cell.invariant.placed
            (row_light c.args.world.now c.loop-cell.cell
            (λ d. true≢false (sym ((c.requires.dark.exact c.loop-cell.cell).1 d) ∙ w.if-dark-cell.false)))
            (ap (λ (v : Vec ℕ). v.items) w.found-is ∙ sym (append-nil c.loop-cell.found.items)) grown;
      })
    ]

pub new-requires : goal.new-requires
new-requires c = record { whole = c.loop-cell.invariant.placed.whole }

pub returns : goal.returns
returns c =
    let all : c.loop-cell.cell ≡ cell_count c.args.world.now.size =
    omega (arith, c.cell_count-cell-end.ensures.count) in
    rw c.new.ensures (subst (λ (n : ℕ). ArePlacesOf c.args.world.now n
    (parts c.loop-cell.starts.items c.loop-cell.found.items)) all c.loop-cell.invariant.placed.placed)
