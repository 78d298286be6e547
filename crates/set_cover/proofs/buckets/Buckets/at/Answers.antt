use Rattle.std.proofs.Common.{◌<◌, ℕ, length, ap, ◌∙◌, arith}
use Rattle.std.specs.Global.{Vec}
use Rattle.std.proofs.lemmas.List.{length-map}
use Rattle.set_cover.proofs.BucketLemmas.{list_at}
use Rattle.set_cover.proofs.buckets.Buckets.at.Goals as goal

pub returns : goal.returns
returns c =
    let inside : c.args.key < length c.self.inside.lists.items =
    omega (
      arith,
      c.requires.key,
      ap length c.self.view_is,
      length-map c.self.inside.lists.items (λ (v : Vec ℕ). v.items),
    ) in
    c.deref.ensures.value ∙ ap (λ (v : Vec ℕ). v.items) c.index.ensures
    ∙ list_at c.self.inside.lists.items c.args.key c.index.result.now c.args.self.now c.self.view_is inside
