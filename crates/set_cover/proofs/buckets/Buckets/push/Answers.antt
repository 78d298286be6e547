use Rattle.std.proofs.Common.{◌≡◌, ◌<◌, ℕ, List, [], ◌∷◌, ◌++◌, ap, ◌∙◌, length, arith}
use Rattle.std.specs.Global.{Vec}
use Rattle.std.proofs.lemmas.List.{length-map}
use Rattle.set_cover.specs.Buckets.{bucket}
use Rattle.set_cover.proofs.BucketLemmas.{pushed, list_at}
use Rattle.set_cover.proofs.buckets.Buckets.push.Goals as goal

pub returns : goal.returns
returns c =
    let inside : c.args.key < length c.self.inside.lists.items =
    omega (
      arith,
      c.requires.key,
      ap length c.self.view_is,
      length-map c.self.inside.lists.items (λ (v : Vec ℕ). v.items),
    ) in
    let was : c.make_room.new.list.items ≡ bucket c.args.self.now c.args.key =
    c.make_room.ensures ∙ ap (λ (v : Vec ℕ). v.items) c.index_mut-list.ensures.value
    ∙ list_at c.self.inside.lists.items c.args.key c.index_mut-list.result.now c.args.self.now c.self.view_is inside
    in
    pushed c.self.inside.lists.items c.args.key c.args.item c.push.new.self c.args.self.now c.self.view_is inside
    (c.in_ok-push.ensures.items ∙ ap (λ (l : List ℕ). l ++ c.args.item ∷ []) was)
