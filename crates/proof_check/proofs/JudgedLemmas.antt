-- What judging has found at the end of a tree, of a region, of a certificate.
use Rattle.std.proofs.Common.{◌≡◌, ℕ, ◌+◌, ◌⊎◌, inl, inr, List, [], ◌∷◌, ◌++◌, length, All, refl, sym, subst, ◌∙◌}
use Rattle.std.proofs.Common.{ap, arith, append_assoc, length-append}
use Rattle.std.specs.Prelude.{Option, Some, None, true, false, flat_map, map}
use Rattle.std.specs.Option.{option_or}
use Rattle.std.proofs.lemmas.List.Elements.{All-nil, All-cons, All-head, All-tail}
use Rattle.cave_base.specs.Box.{cell_count}
use Rattle.cave_model.specs.Cave.{Cave}
use Rattle.cave_model.specs.Coverage.{of_cave}
use Rattle.proof_rules.specs.Tree.{Tree, Forest, leaf, weighted, branch, bar, omit, pick, none, more, tree_count}
use Rattle.proof_rules.specs.Tree.{node_count, node_counts}
use Rattle.proof_rules.specs.declared.groups.Share.{Share}
use Rattle.proof_rules.specs.declared.groups.Group.{Group}
use Rattle.proof_rules.specs.Groups.{AreGroups}
use Rattle.proof_rules.specs.Omitted.{left_without}
use Rattle.proof_rules.proofs.OmitLemmas.{left_without-append, left_without-nil}
use Rattle.proof_rules.specs.Good.{AreWeighted, Good, AreGood}
use Rattle.std.proofs.lemmas.List.Kept.{AllPairs-from_increasing}
use Rattle.cave_model.specs.Plan.{AreDistinct}
use Rattle.proof_rules.specs.Certificate.{Section, Version, first, second, third, fourth, Certificate, AreListed}
use Rattle.proof_rules.specs.Certificate.{IsTreeIn, AreTreesIn, IsSectionIn}
use Rattle.certificate_lines.specs.Said.{Said, said, share_numbers, group_said, tree_said, forest_said, section_said}
use Rattle.certificate_lines.specs.Said.{said_of}
use Rattle.certificate_lines.specs.declared.kind.LineKind.TheVariants as kind
use Rattle.proof_check.specs.Accepted.{AreProved}
use Rattle.proof_check.specs.Refused.{IsBadAt, AreBadAt, IsFirstBad, weak_leaf, weak_leaf_of, first_weak, start_line}
use Rattle.proof_check.specs.Judged.{Frame, Spot, outset, Weighing, idle, JudgeState, Judged, at, stuck, enter, close}
use Rattle.proof_check.specs.Judged.{next_line, WeightedSteps, shares_of, StepsOver, Runs, start}

-- judging that stands still stays at its bad line
pub stays : (cave : Cave) (all : List Said) (bad : ℕ) (final : Judged) → Runs cave all (stuck bad) final
    → final ≡ stuck bad
stays cave [] bad final r = sym r
stays cave (s ∷ all) bad final (next, step, rest) = stays cave all bad final
    (subst (λ (j : Judged). Runs cave all j final) step rest)

-- a run over some lines and a step of the next are a run over both
pub runs_push : (cave : Cave) (all : List Said) (s : Said) (a b c : Judged) → Runs cave all a b → StepsOver cave s b c
    → Runs cave (all ++ s ∷ []) a c
runs_push cave [] s a b c r step = (c, subst (λ (j : Judged). StepsOver cave s j c) (sym r) step, refl)
runs_push cave (t ∷ all) s a b c (next, first_step, rest) step =
    (next, first_step, runs_push cave all s next b c rest step)

-- the first that is there, of three
option_or_assoc : (a b c : Option ℕ) → option_or (option_or a b) c ≡ option_or a (option_or b c)
option_or_assoc None b c = refl
option_or_assoc (Some x) b c = refl

-- with nothing after it, an option is itself
option_or_none : (a : Option ℕ) → option_or a None ≡ a
option_or_none None = refl
option_or_none (Some x) = refl

module _ (cave : Cave) (box : ℕ) (cells : List ℕ) (floor : ℕ) where
  abbrev state : ℕ → Spot → Option ℕ → JudgeState
  state line spot weak = record {
    line = line;
    cells = cells;
    floor = floor;
    spot = spot;
    weak = weak;
    weighing = idle;
  }

  abbrev spot_of : List ℕ → List ℕ → List ℕ → List Frame → Spot
  spot_of chosen barred omitted frames = record {
    chosen = chosen;
    barred = barred;
    omitted = omitted;
    frames = frames;
  }

  -- the state where these groups of the weighted leaf on line `leaf_line` are told, and `to_come` are to come
  abbrev weighing_state : ℕ → Spot → Option ℕ → ℕ → ℕ → List Group → JudgeState
  weighing_state line spot weak leaf_line to_come groups = record (state line spot weak) {
    weighing = record { line = leaf_line; to_come = to_come; groups = groups };
  }

  distinct : (these : List ℕ) → AreListed box these → AreDistinct these
  distinct these a = λ i j d lt h e. (let r = AllPairs-from_increasing these a.ascending i j d lt h in omega arith)

  -- what the numbers of a group's line tell is the group
  told_again : (shares : List Share) → shares_of (share_numbers shares) ≡ shares
  told_again [] = refl
  told_again (x ∷ xs) = ap (λ (l : List Share). x ∷ l) (told_again xs)

  -- a run over the lines of a weighted leaf's groups judges it as a whole
  groups_run : (leaf_line : ℕ) (chosen barred omitted : List ℕ) (frames : List Frame) (weak : Option ℕ)
      (rest : List Said) (final : Judged) (others : List Group) (group : Group) (done : List Group) (line : ℕ)
      → AreGroups (done ++ group ∷ others)
      → Runs cave (map group_said (group ∷ others) ++ rest)
      (at (weighing_state line (spot_of chosen barred omitted frames) weak leaf_line (length (group ∷ others)) done))
      final
      → ((¬ AreWeighted (of_cave cave) (left_without omitted cells) chosen barred (done ++ group ∷ others))
      × (final ≡ stuck leaf_line))
      ⊎ (AreWeighted (of_cave cave) (left_without omitted cells) chosen barred (done ++ group ∷ others)
      × Runs cave rest (at (state (line + length (group ∷ others)) (close frames)
      (option_or weak (weak_leaf floor (length chosen) (weighted (done ++ group ∷ others)) leaf_line)))) final)
  groups_run leaf_line chosen barred omitted frames weak rest final [] group done line are (next, inl (never, e), r) =
      absurd (omega (arith, never))
  groups_run leaf_line chosen barred omitted frames weak rest final [] group done line are
      (next, inr (inl (one, steps)), r) =
      elim (subst (λ (l : List Share). WeightedSteps cave
      (done ++ (record { capacity = group.capacity; shares = l }) ∷ []) leaf_line
      (weighing_state line (spot_of chosen barred omitted frames) weak leaf_line 1 done) next)
      (told_again group.shares) steps) [
        | inl (good, e) ↦ inr (good are, subst (λ (j : Judged). Runs cave rest j final) e r)
        | inr (bad, e) ↦ inl (
          bad,
          stays cave rest leaf_line final (subst (λ (j : Judged). Runs cave rest j final) e r),
        )
      ]
  groups_run leaf_line chosen barred omitted frames weak rest final [] group done line are
      (next, inr (inr (count, e, some, step)), r) = absurd (omega (arith, e, some))
  groups_run leaf_line chosen barred omitted frames weak rest final (other ∷ others) group done line are
      (next, inl (never, e), r) = absurd (omega (arith, never))
  groups_run leaf_line chosen barred omitted frames weak rest final (other ∷ others) group done line are
      (next, inr (inl (one, steps)), r) = absurd (omega (arith, one))
  groups_run leaf_line chosen barred omitted frames weak rest final (other ∷ others) group done line are
      (next, inr (inr (count, e, some, step)), r) =
      let spot = spot_of chosen barred omitted frames in
      let left : count ≡ length (other ∷ others) = omega (arith, e) in
      let lines = map group_said (other ∷ others) ++ rest in
      let same : done ++ group ∷ other ∷ others ≡ (done ++ group ∷ []) ++ other ∷ others =
      sym (append_assoc done (group ∷ []) (other ∷ others)) in
      let told = subst (λ (l : List Share). Runs cave lines
      (at (weighing_state (line + 1) spot weak leaf_line count
      (done ++ (record { capacity = group.capacity; shares = l }) ∷ []))) final) (told_again group.shares)
      (subst (λ (j : Judged). Runs cave lines j final) step r) in
      let on = subst (λ (n : ℕ). Runs cave lines
      (at (weighing_state (line + 1) spot weak leaf_line n (done ++ group ∷ []))) final) left told in
      let n : line + 1 + length (other ∷ others) ≡ line + length (group ∷ other ∷ others) = omega arith in
      elim (groups_run leaf_line chosen barred omitted frames weak rest final others other (done ++ group ∷ [])
      (line + 1) (subst AreGroups same are) on) [
        | inl (bad, f) ↦ inl (
          subst (λ (l : List Group). ¬ AreWeighted (of_cave cave) (left_without omitted cells) chosen barred l)
              (sym same) bad,
          f,
        )
        | inr (good, q) ↦ inr (
          subst (λ (l : List Group). AreWeighted (of_cave cave) (left_without omitted cells) chosen barred l)
              (sym same) good,
          subst (λ (k : ℕ). Runs cave rest (at (state k (close frames)
              (option_or weak (weak_leaf floor (length chosen) (weighted (done ++ group ∷ other ∷ others))
              leaf_line)))) final) n
              (subst (λ (l : List Group). Runs cave rest
              (at (state (line + 1 + length (other ∷ others)) (close frames)
              (option_or weak (weak_leaf floor (length chosen) (weighted l) leaf_line)))) final) (sym same) q),
        )
      ]

  mutual
    -- a run over a tree's lines stops at its first bad line, or the tree is good and the run goes on after it
    pub tree_runs : (t : Tree) → IsTreeIn box t
        → (line : ℕ) (chosen barred omitted : List ℕ) (frames : List Frame) (weak : Option ℕ) (rest : List Said)
        (final : Judged)
        → Runs cave (tree_said t ++ rest) (at (state line (spot_of chosen barred omitted frames) weak)) final
        → ((bad : ℕ) × IsBadAt cave (left_without omitted cells) chosen barred t line bad × (final ≡ stuck bad))
        ⊎ (Good (of_cave cave) (left_without omitted cells) chosen barred 0 t × Runs cave rest
        (at (state (line + node_count t) (close frames)
        (option_or weak (weak_leaf floor (length chosen) t line)))) final)
    tree_runs (leaf these) i line chosen barred omitted frames weak rest final (next, inl (good, e), r) =
        inr ((good (distinct these i), omega arith), subst (λ (j : Judged). Runs cave rest j final) e r)
    tree_runs (leaf these) i line chosen barred omitted frames weak rest final (next, inr (bad, e), r) =
        inl (
          line,
          (bad (distinct these i), refl),
          stays cave rest line final
              (subst (λ (j : Judged). Runs cave rest j final) e r),
        )
    tree_runs (branch cell kids) i line chosen barred omitted frames weak rest final (next, inl (places, is, e), r) =
        elim (forest_runs kids i.2 places (line + 1) chosen barred omitted frames weak rest final
        is.2 (subst (λ (j : Judged). Runs cave (forest_said kids ++ rest) j final) e r)) [
          | inl (bad, b, f) ↦ inl (bad, inr (places, is, b), f)
          | inr (good, q) ↦ (let n : line + 1 + node_counts kids ≡ line + (1 + node_counts kids) = omega arith in
              inr (
                (is.0, places, is.1, good),
                subst (λ (k : ℕ). Runs cave rest
                    (at (state k (close frames)
                    (option_or weak (weak_leaf_of floor (length chosen + 1) kids (line + 1))))) final) n q,
              ))
        ]
    tree_runs (branch cell kids) i line chosen barred omitted frames weak rest final (next, inr (none_such, e), r) =
        inl (
          line,
          inl (none_such, refl),
          stays cave (forest_said kids ++ rest) line final
              (subst (λ (j : Judged). Runs cave (forest_said kids ++ rest) j final) e r),
        )
    tree_runs (bar place by kid) i line chosen barred omitted frames weak rest final (next, inl (good, e), r) =
        elim (tree_runs kid i.2 (line + 1) chosen (barred ++ place ∷ []) omitted frames weak rest final
        (subst (λ (j : Judged). Runs cave (tree_said kid ++ rest) j final) e r)) [
          | inl (bad, b, f) ↦ inl (bad, inr (good, b), f)
          | inr (fine, q) ↦ (let n : line + 1 + node_count kid ≡ line + (1 + node_count kid) = omega arith in
              inr (
                (good, fine),
                subst (λ (k : ℕ). Runs cave rest
                    (at (state k (close frames)
                    (option_or weak (weak_leaf floor (length chosen) kid (line + 1))))) final) n q,
              ))
        ]
    tree_runs (bar place by kid) i line chosen barred omitted frames weak rest final (next, inr (bad, e), r) =
        inl (
          line,
          inl (bad, refl),
          stays cave (tree_said kid ++ rest) line final
              (subst (λ (j : Judged). Runs cave (tree_said kid ++ rest) j final) e r),
        )
    tree_runs (weighted []) i line chosen barred omitted frames weak rest final (next, step, r) =
        absurd (omega (arith, i.groups_are.filled))
    tree_runs (weighted (g ∷ gs)) i line chosen barred omitted frames weak rest final (next, step, r) =
        elim (groups_run line chosen barred omitted frames weak rest final gs g [] (line + 1) i.groups_are
        (subst (λ (j : Judged). Runs cave (map group_said (g ∷ gs) ++ rest) j final) step r)) [
          | inl (bad, e) ↦ inl (line, (bad, refl), e)
          | inr (good, q) ↦ (let n : line + 1 + length (g ∷ gs) ≡ line + (1 + length (g ∷ gs)) = omega arith in
              inr (
                (good, omega arith),
                subst (λ (k : ℕ). Runs cave rest
                    (at (state k (close frames)
                    (option_or weak (weak_leaf floor (length chosen) (weighted (g ∷ gs)) line)))) final) n q,
              ))
        ]
    tree_runs (omit these kid) i line chosen barred omitted frames weak rest final (next, inl (good, e), r) =
        let may = good i.1 i.0.ascending in
        let less = left_without-append omitted these cells in
        elim (tree_runs kid i.2 (line + 1) chosen barred (omitted ++ these) frames weak rest final
        (subst (λ (j : Judged). Runs cave (tree_said kid ++ rest) j final) e r)) [
          | inl (bad, b, f) ↦ inl (
            bad,
            inr (may, subst (λ (l : List ℕ). IsBadAt cave l chosen barred kid (line + 1) bad) less b),
            f,
          )
          | inr (fine, q) ↦ (let n : line + 1 + node_count kid ≡ line + (1 + node_count kid) = omega arith in
              inr (
                (may, subst (λ (l : List ℕ). Good (of_cave cave) l chosen barred 0 kid) less fine),
                subst (λ (k : ℕ). Runs cave rest
                    (at (state k (close frames)
                    (option_or weak (weak_leaf floor (length chosen) kid (line + 1))))) final) n q,
              ))
        ]
    tree_runs (omit these kid) i line chosen barred omitted frames weak rest final (next, inr (bad, e), r) =
        inl (
          line,
          inl (bad, refl),
          stays cave (tree_said kid ++ rest) line final
              (subst (λ (j : Judged). Runs cave (tree_said kid ++ rest) j final) e r),
        )
    tree_runs (pick place with without) i line chosen barred omitted frames weak rest final (next, inl (may, e), r) =
        let frame : Frame = record {
          chosen = chosen;
          barred = barred;
          omitted = omitted;
          place = place;
          later = [];
          picked = true;
        } in
        let long : length (chosen ++ place ∷ []) ≡ length chosen + 1 = length-append chosen (place ∷ []) in
        let apart = subst (λ (l : List Said). Runs cave l
        (at (state (line + 1) (spot_of (chosen ++ place ∷ []) barred omitted (frame ∷ frames)) weak)) final)
        (append_assoc (tree_said with) (tree_said without) rest)
        (subst (λ (j : Judged). Runs cave ((tree_said with ++ tree_said without) ++ rest) j final) e r) in
        elim (tree_runs with i.1 (line + 1) (chosen ++ place ∷ []) barred omitted (frame ∷ frames) weak
        (tree_said without ++ rest) final apart) [
          | inl (bad, b, f) ↦ inl (bad, inr (may, inl b), f)
          | inr (good, q) ↦
              let w = option_or weak (weak_leaf floor (length chosen + 1) with (line + 1)) in
              let q' = subst (λ (n : ℕ). Runs cave (tree_said without ++ rest)
              (at (state (line + 1 + node_count with) (close (frame ∷ frames))
              (option_or weak (weak_leaf floor n with (line + 1))))) final) long q in
              elim (tree_runs without i.2 (line + 1 + node_count with) chosen (barred ++ place ∷ []) omitted frames w
              rest final q') [
                | inl (bad, b, f) ↦ inl (bad, inr (may, inr (good, b)), f)
                | inr (fine, s) ↦
                    let n : line + 1 + node_count with + node_count without
                    ≡ line + (1 + (node_count with + node_count without)) = omega arith in
                    let o = option_or_assoc weak (weak_leaf floor (length chosen + 1) with (line + 1))
                    (weak_leaf floor (length chosen) without (line + 1 + node_count with)) in
                    inr (
                      (may, good, fine),
                      subst (λ (o : Option ℕ). Runs cave rest
                          (at (state (line + (1 + (node_count with + node_count without))) (close frames) o)) final) o
                          (subst (λ (k : ℕ). Runs cave rest
                          (at (state k (close frames)
                          (option_or w (weak_leaf floor (length chosen) without
                          (line + 1 + node_count with))))) final) n s),
                    )
              ]
        ]
    tree_runs (pick place with without) i line chosen barred omitted frames weak rest final (next, inr (bad, e), r) =
        inl (
          line,
          inl (bad, refl),
          stays cave ((tree_said with ++ tree_said without) ++ rest) line final
              (subst (λ (j : Judged). Runs cave ((tree_said with ++ tree_said without) ++ rest) j final) e r),
        )

    -- and so does a run over the lines of kids
    pub forest_runs : (ts : Forest) → AreTreesIn box ts
        → (places : List ℕ) (line : ℕ) (chosen barred omitted : List ℕ) (frames : List Frame) (weak : Option ℕ)
        (rest : List Said) (final : Judged) → length places ≡ tree_count ts
        → Runs cave (forest_said ts ++ rest) (at (state line (enter chosen barred omitted places frames) weak)) final
        → ((bad : ℕ) × AreBadAt cave (left_without omitted cells) chosen barred places ts line bad × (final
        ≡ stuck bad))
        ⊎ (AreGood (of_cave cave) (left_without omitted cells) chosen barred 0 places ts × Runs cave rest
        (at (state (line + node_counts ts) (close frames)
        (option_or weak (weak_leaf_of floor (length chosen + 1) ts line)))) final)
    forest_runs none i [] line chosen barred omitted frames weak rest final e r =
        let n : line ≡ line + 0 = omega arith in
        inr (
          tt,
          subst (λ (o : Option ℕ). Runs cave rest (at (state (line + 0) (close frames) o)) final)
              (sym (option_or_none weak))
              (subst (λ (k : ℕ). Runs cave rest (at (state k (close frames) weak)) final) n r),
        )
    forest_runs none i (p ∷ ps) line chosen barred omitted frames weak rest final e r = absurd (omega arith)
    forest_runs (more t ts) i [] line chosen barred omitted frames weak rest final e r = absurd (omega arith)
    forest_runs (more t ts) i (p ∷ ps) line chosen barred omitted frames weak rest final e r =
        let frame : Frame = record {
          chosen = chosen;
          barred = barred;
          omitted = omitted;
          place = p;
          later = ps;
          picked = false;
        } in
        let long : length (chosen ++ p ∷ []) ≡ length chosen + 1 = length-append chosen (p ∷ []) in
        let apart = subst (λ (l : List Said). Runs cave l
        (at (state line (spot_of (chosen ++ p ∷ []) barred omitted (frame ∷ frames)) weak)) final)
        (append_assoc (tree_said t) (forest_said ts) rest) r in
        elim (tree_runs t i.0 line (chosen ++ p ∷ []) barred omitted (frame ∷ frames) weak
        (forest_said ts ++ rest) final apart) [
          | inl (bad, b, f) ↦ inl (bad, inl b, f)
          | inr (good, q) ↦
              let w = option_or weak (weak_leaf floor (length chosen + 1) t line) in
              let q' = subst (λ (n : ℕ). Runs cave (forest_said ts ++ rest)
              (at (state (line + node_count t) (close (frame ∷ frames))
              (option_or weak (weak_leaf floor n t line)))) final) long q in
              elim (forest_runs ts i.1 ps (line + node_count t) chosen (barred ++ p ∷ []) omitted frames w rest final
              (omega arith) q') [
                | inl (bad, b, f) ↦ inl (bad, inr (good, b), f)
                | inr (fine, s) ↦
                    let n : line + node_count t + node_counts ts ≡ line + (node_count t + node_counts ts) =
                    omega arith in
                    let o = option_or_assoc weak (weak_leaf floor (length chosen + 1) t line)
                    (weak_leaf_of floor (length chosen + 1) ts (line + node_count t)) in
                    inr (
                      (good, fine),
                      subst (λ (o : Option ℕ). Runs cave rest
                          (at (state (line + (node_count t + node_counts ts)) (close frames) o)) final) o
                          (subst (λ (k : ℕ). Runs cave rest
                          (at (state k (close frames)
                          (option_or w (weak_leaf_of floor (length chosen + 1) ts
                          (line + node_count t))))) final) n s),
                    )
              ]
        ]

-- ---- all regions

-- what was found at the end of the regions
abbrev pub Found : Cave → List Section → ℕ → Option ℕ → Judged → Type 0
Found cave sections line weak final = ((bad : ℕ) × IsFirstBad cave sections line bad × (final ≡ stuck bad))
    ⊎ (AreProved cave (λ section. 0) sections × (last : JudgeState) × (final ≡ at last)
    × (last.weak ≡ option_or weak (first_weak sections line)))

-- what is found after a region's lines and the rest is found of both
after_region : (cave : Cave) (box : ℕ) (s : Section) (ss : List Section) (rest : List Said) (j : JudgeState)
    (final : Judged)
    → IsSectionIn box s → j.weighing ≡ idle
    → ((after : JudgeState) → after.weighing ≡ idle → Runs cave rest (at after) final
    → Found cave ss after.line after.weak final)
    → Runs cave (section_said s ++ rest) (at j) final → Found cave (s ∷ ss) j.line j.weak final
after_region cave box s ss rest j final here quiet again (j1, e1, (j2, e2, (j3, e3, r3))) =
    let f2 = subst (λ (x : Judged). StepsOver cave (said kind.Dark s.cells) x j2) e1 e2 in
    let f3 = subst (λ (x : Judged). StepsOver cave (said kind.Torches s.torches) x j3) f2 e3 in
    let g3 = subst (λ (x : Judged). Runs cave (tree_said s.tree ++ rest) x final) f3 r3 in
    let n : j.line + 1 + 1 + 1 ≡ j.line + 3 = omega arith in
    let h3 = subst (λ (k : ℕ). Runs cave (tree_said s.tree ++ rest)
    (at (record {
      line = k;
      cells = s.cells;
      floor = length s.torches;
      spot = outset;
      weak = j.weak;
      weighing = j.weighing;
    })) final) n g3 in
    let whole = left_without-nil s.cells in
    let i3 = subst (λ (w : Weighing). Runs cave (tree_said s.tree ++ rest)
    (at (record {
      line = j.line + 3;
      cells = s.cells;
      floor = length s.torches;
      spot = outset;
      weak = j.weak;
      weighing = w;
    })) final) quiet h3 in
    elim (tree_runs cave box s.cells (length s.torches) s.tree here.proof (j.line + 3) [] [] [] [] j.weak rest final
    i3) [
      | inl (bad, b, e) ↦ inl (
        bad,
        inl (subst (λ (l : List ℕ). IsBadAt cave l [] [] s.tree (j.line + 3) bad) whole b),
        e,
      )
      | inr (some, q) ↦
          let good = subst (λ (l : List ℕ). Good (of_cave cave) l [] [] 0 s.tree) whole some in
          elim (again (record {
            line = j.line + 3 + node_count s.tree;
            cells = s.cells;
            floor = length s.torches;
            spot = close [];
            weak =
                option_or j.weak (weak_leaf (length s.torches) 0 s.tree (j.line + 3));
            weighing = idle;
          }) refl q) [
            | inl (bad, b, e) ↦ inl (bad, inr (good, b), e)
            | inr (fine, last, e, w) ↦ inr (
              All-cons (λ (s : Section). Good (of_cave cave) s.cells [] [] 0 s.tree) s ss good fine,
              last,
              e,
              w ∙ option_or_assoc j.weak (weak_leaf (length s.torches) 0 s.tree (j.line + 3))
                  (first_weak ss (j.line + 3 + node_count s.tree)),
            )
          ]
    ]

-- a run over the lines of all regions finds the first bad line and the first weak one
pub regions_run : (cave : Cave) (box : ℕ) (sections : List Section) (j : JudgeState) (final : Judged)
    → All (IsSectionIn box) sections → j.weighing ≡ idle
    → Runs cave (flat_map section_said sections ++ said kind.End [] ∷ []) (at j) final
    → Found cave sections j.line j.weak final
regions_run cave box [] j final i quiet (next, step, r) =
    inr (
      All-nil (λ (s : Section). Good (of_cave cave) s.cells [] [] 0 s.tree),
      next_line j,
      sym r ∙ step,
      sym (option_or_none j.weak),
    )
regions_run cave box (s ∷ ss) j final i quiet r =
    let apart = subst (λ (l : List Said). Runs cave l (at j) final)
    (append_assoc (section_said s) (flat_map section_said ss) (said kind.End [] ∷ [])) r in
    after_region cave box s ss (flat_map section_said ss ++ said kind.End [] ∷ []) j final
    (All-head (IsSectionIn box) s ss i) quiet
    (λ after still q. regions_run cave box ss after final (All-tail (IsSectionIn box) s ss i) still q) apart

-- the first lines say nothing of nodes
pub certificate_runs : (cave : Cave) (c : Certificate) (final : Judged)
    → All (IsSectionIn (cell_count c.size)) c.sections → Runs cave (said_of c) start final
    → Found cave c.sections (start_line c.version) None final
certificate_runs cave c final i r = go c.version r where
  needed : (number need : ℕ)
      → Runs cave (said kind.Version (number ∷ []) ∷ said kind.Size (c.size.x ∷ c.size.y ∷ c.size.z ∷ []) ∷ said
      kind.Headroom (c.headroom ∷ []) ∷ said kind.Need (need ∷ []) ∷ said kind.Regions (length c.sections ∷ [])
      ∷ (flat_map section_said c.sections ++ said kind.End [] ∷ [])) start final
      → Found cave c.sections 6 None final
  needed number need (j1, e1, (j2, e2, (j3, e3, (j4, e4, (j5, e5, r5))))) =
      let f2 = subst (λ (x : Judged). StepsOver cave (said kind.Size (c.size.x ∷ c.size.y ∷ c.size.z ∷ [])) x j2) e1
      e2 in
      let f3 = subst (λ (x : Judged). StepsOver cave (said kind.Headroom (c.headroom ∷ [])) x j3) f2 e3 in
      let f4 = subst (λ (x : Judged). StepsOver cave (said kind.Need (need ∷ [])) x j4) f3 e4 in
      let f5 = subst (λ (x : Judged). StepsOver cave (said kind.Regions (length c.sections ∷ [])) x j5) f4 e5 in
      regions_run cave (cell_count c.size)
      c.sections (record {
        line = 6;
        cells = [];
        floor = 0;
        spot = outset;
        weak = None;
        weighing = idle;
      }) final i refl
      (subst (λ (x : Judged). Runs cave (flat_map section_said c.sections ++ said kind.End [] ∷ []) x final) f5 r5)

  go : (v : Version) → Runs cave (said_of (record c { version = v })) start final
      → Found cave c.sections (start_line v) None final
  go first (j1, e1, (j2, e2, (j3, e3, (j4, e4, r4)))) =
      let f2 = subst (λ (x : Judged). StepsOver cave (said kind.Size (c.size.x ∷ c.size.y ∷ c.size.z ∷ [])) x j2) e1
      e2 in
      let f3 = subst (λ (x : Judged). StepsOver cave (said kind.Headroom (c.headroom ∷ [])) x j3) f2 e3 in
      let f4 = subst (λ (x : Judged). StepsOver cave (said kind.Regions (length c.sections ∷ [])) x j4) f3 e4 in
      regions_run cave (cell_count c.size)
      c.sections (record {
        line = 5;
        cells = [];
        floor = 0;
        spot = outset;
        weak = None;
        weighing = idle;
      }) final i refl
      (subst (λ (x : Judged). Runs cave (flat_map section_said c.sections ++ said kind.End [] ∷ []) x final) f4 r4)
  go (second need) r = needed 2 need r
  go (third need) r = needed 3 need r
  go (fourth need) r = needed 4 need r
