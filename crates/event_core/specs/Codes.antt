-- A shape is told apart by its code.
use Rattle.std.specs.Prelude.{◌≡◌, List, refl}
use Rattle.std.specs.Coded.{code_by, coded×}
use Rattle.proof_tree.specs.declared.bars.Bar.{Bar}
use Rattle.proof_tree.specs.declared.branching.Branching.{Branching}
use Rattle.std.proofs.Common.{ap}
use base.Stored.{Gv, gnil, gnum, gcons, Coded, coded_ℕ, coded_list}
use Rattle.proof_tree.specs.Bars.{bar_coded}
use Rattle.proof_tree.specs.Branchings.{branching_coded}
use Rattle.proof_tree.specs.Codes.{tree_coded}
use Rattle.event_core.specs.State.{Way}
use Rattle.event_core.specs.Shape.{Shape, Shapes, at_rest, in_hand, settled, parted, no_shape, one_shape}

-- the code by which ways are told apart, made of those of their parts
abbrev pub way_coded : Coded Way
way_coded = code_by (List Bar × Branching) (coded× (coded_list bar_coded) branching_coded) (λ w. (w.bars, w.on))
    (λ p. record { bars = p.0; on = p.1 })
    (λ _. refl)

abbrev mutual
  -- a shape as its kind and what it holds
  pub code_shape : Shape → Gv
  code_shape at_rest = gcons (gnum 0) gnil
  code_shape (in_hand worker) = gcons (gnum 1) (gnum worker)
  code_shape (settled floor tree) = gcons (gnum 2) (gcons (gnum floor) (tree_coded.code tree))
  code_shape (parted way places trees boxes kids) =
      gcons (gnum 3) (gcons (way_coded.code way)
      (gcons ((coded_list coded_ℕ).code places) (gcons (gnum trees) (gcons (gnum boxes) (code_shapes kids)))))

  -- the codes of the shapes, one after another
  pub code_shapes : Shapes → Gv
  code_shapes no_shape = gnil
  code_shapes (one_shape kid kids) = gcons (code_shape kid) (code_shapes kids)

mutual
  -- two shapes with one code are one
  pub shape_inj : (x y : Shape) → code_shape x ≡ code_shape y → x ≡ y
  shape_inj at_rest at_rest p = refl
  shape_inj at_rest (in_hand w) p = absurd (cc)
  shape_inj at_rest (settled f t) p = absurd (cc)
  shape_inj at_rest (parted c ps r u ks) p = absurd (cc)
  shape_inj (in_hand v) at_rest p = absurd (cc)
  shape_inj (in_hand v) (in_hand w) p = let same : v ≡ w = cc in ap in_hand same
  shape_inj (in_hand v) (settled f t) p = absurd (cc)
  shape_inj (in_hand v) (parted c ps r u ks) p = absurd (cc)
  shape_inj (settled e s) at_rest p = absurd (cc)
  shape_inj (settled e s) (in_hand w) p = absurd (cc)
  shape_inj (settled e s) (settled f t) p =
      let floors : e ≡ f = cc in let trees : s ≡ t = tree_coded.inj s t (cc) in cc
  shape_inj (settled e s) (parted c ps r u ks) p = absurd (cc)
  shape_inj (parted b os q t js) at_rest p = absurd (cc)
  shape_inj (parted b os q t js) (in_hand w) p = absurd (cc)
  shape_inj (parted b os q v js) (settled f t) p = absurd (cc)
  shape_inj (parted b os q t js) (parted c ps r u ks) p =
      let ways : b ≡ c = way_coded.inj b c (cc) in let places : os ≡ ps = (coded_list coded_ℕ).inj os ps (cc) in
      let trees : q ≡ r = cc in let boxes : t ≡ u = cc in let kids : js ≡ ks = shapes_inj js ks (cc) in cc

  -- and so are two lists of shapes
  pub shapes_inj : (x y : Shapes) → code_shapes x ≡ code_shapes y → x ≡ y
  shapes_inj no_shape no_shape p = refl
  shapes_inj no_shape (one_shape k ks) p = absurd (cc)
  shapes_inj (one_shape k ks) no_shape p = absurd (cc)
  shapes_inj (one_shape k ks) (one_shape l ls) p =
      let here : k ≡ l = shape_inj k l (cc) in let rest : ks ≡ ls = shapes_inj ks ls (cc) in cc

-- the code by which shapes are told apart
abbrev pub shape_coded : Coded Shape
shape_coded = record { code = code_shape; inj = shape_inj }

-- the code by which lists of shapes are told apart
abbrev pub shapes_coded : Coded Shapes
shapes_coded = record { code = code_shapes; inj = shapes_inj }
