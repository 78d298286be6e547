-- Steps of the judge of nodes at the groups of a weighted leaf.
use Rattle.std.proofs.Common.{◌≡◌, ◌≢◌, ℕ, ◌+◌, ◌-◌, ◌<◌, inl, inr, List, [], ◌∷◌, ◌++◌, length, take, drop}
use Rattle.std.proofs.Common.{slice_index, refl}
use Rattle.std.proofs.Common.{sym, ap, subst, ◌∙◌, arith}
use Rattle.std.proofs.lemmas.List.{take_all}
use Rattle.proof_rules.specs.declared.groups.Share.{Share}
use Rattle.proof_rules.specs.declared.groups.Group.{Group}
use Rattle.lit_lists.specs.Lists.{LitLists}
use Rattle.certificate_lines.specs.declared.kind.LineKind.TheVariants as kind
use Rattle.proof_check.specs.Judged.{at, idle, next_line, WeightedSteps, shares_of}
use Rattle.proof_check.specs.Kept.{IsIn, IsWeighing, JudgesWeighted, JudgesGroup, JudgesOmission, StepsOn}
use Rattle.proof_check.specs.declared.nodes.NodeJudge.{NodeJudge}
use Rattle.proof_check.specs.declared.weighing.Weighing as held
use Rattle.proof_check.proofs.StepLemmas.{nothing_said}

-- ---- groups

-- where no group is to come a group says nothing
pub group_idle : (lists : LitLists) (group : Group) (nodes : NodeJudge) → nodes.weighing.to_come ≡ 0
    → JudgesGroup lists group nodes nodes
group_idle lists group nodes e = record {
  each = λ cave s known k. (
    at (next_line s),
    inl (sym k.weighing.to_come ∙ e, refl),
    record {
      good = k.good;
      cells = k.cells;
      floor = k.floor;
      weak = k.weak;
      spot = k.spot;
      weighing = k.weighing;
      dark = k.dark;
    },
  );
}

-- a group before the last is kept
pub group_kept : (lists : LitLists) (group : Group) (old : NodeJudge) (weighing : held.Weighing) (new : NodeJudge)
    → new ≡ record old { weighing = weighing } → weighing.line ≡ old.weighing.line
    → weighing.to_come + 1 ≡ old.weighing.to_come → 0 < weighing.to_come
    → weighing.groups.items ≡ old.weighing.groups.items ++ group ∷ [] → JudgesGroup lists group old new
group_kept lists group old weighing new is line to_come some groups =
    subst (JudgesGroup lists group old) (sym is) (record {
      each = λ cave s known k. (
        at (record (next_line s) {
          weighing = record {
            line = s.weighing.line;
            to_come = weighing.to_come;
            groups = s.weighing.groups ++ group ∷ [];
          };
        }),
        inr (inr (weighing.to_come, sym k.weighing.to_come ∙ sym to_come, some, refl)),
        record {
          good = k.good;
          cells = k.cells;
          floor = k.floor;
          weak = k.weak;
          spot = k.spot;
          weighing = record {
            line = line ∙ k.weighing.line;
            to_come = refl;
            groups = groups ∙ ap (λ (l : List Group). l ++ group ∷ []) k.weighing.groups;
          };
          dark = k.dark;
        },
      );
    })

-- at the last the leaf is judged
pub group_last : (lists : LitLists) (group : Group) (old : NodeJudge) (weighing : held.Weighing) (mid new : NodeJudge)
    (groups : List Group) (line : ℕ) → mid ≡ record old { weighing = weighing } → IsWeighing weighing idle
    → old.weighing.to_come ≡ 1 → line ≡ old.weighing.line → groups ≡ old.weighing.groups.items ++ group ∷ []
    → JudgesWeighted lists groups line mid new → JudgesGroup lists group old new
group_last lists group old weighing mid new groups line is none last e f j = record {
  each = λ cave s known k.
      (let w = j.each cave (record s { weighing = idle }) known
      (subst (λ (m : NodeJudge). IsIn cave lists m (record s { weighing = idle })) (sym is) (record {
        good = k.good;
        cells = k.cells;
        floor = k.floor;
        weak = k.weak;
        spot = k.spot;
        weighing = none;
        dark = k.dark;
      })) (subst (λ (m : NodeJudge). IsWeighing m.weighing idle) (sym is) none) in
      let here : groups ≡ s.weighing.groups ++ group ∷ [] =
      f ∙ ap (λ (l : List Group). l ++ group ∷ []) k.weighing.groups in
      let there : line ≡ s.weighing.line = e ∙ k.weighing.line in (
        w.0,
        inr (inl (
          sym k.weighing.to_come ∙ last,
          subst (λ (l : List Group). WeightedSteps cave l s.weighing.line s w.0) here
              (subst (λ (n : ℕ). WeightedSteps cave groups n s w.0) there w.1),
        )),
        w.2,
      ));
}

-- ---- lines

-- a weighted leaf's line with other than one number says nothing
pub weighted_nothing : (lists : LitLists) (numbers : List ℕ) (line : ℕ) (nodes : NodeJudge) → (length numbers ≢ 1)
    → StepsOn lists kind.Weighted numbers line nodes nodes
weighted_nothing lists [] line nodes h = nothing_said lists kind.Weighted [] line nodes (λ cave s. refl)
weighted_nothing lists (a ∷ []) line nodes h = absurd (h refl)
weighted_nothing lists (a ∷ b ∷ ns) line nodes h = nothing_said lists kind.Weighted (a ∷ b ∷ ns) line nodes
    (λ cave s. refl)

-- with one it says how many groups are to come
pub weighted_begins : (lists : LitLists) (numbers : List ℕ) (count line : ℕ) (old : NodeJudge)
    (weighing : held.Weighing) (new : NodeJudge) → numbers ≡ count ∷ [] → new ≡ record old { weighing = weighing }
    → weighing.line ≡ line → weighing.to_come ≡ count → weighing.groups.items ≡ []
    → StepsOn lists kind.Weighted numbers line old new
weighted_begins lists numbers count line old weighing new e is at_line to_come groups =
    subst (λ (l : List ℕ). StepsOn lists kind.Weighted l line old new) (sym e)
    (subst (StepsOn lists kind.Weighted (count ∷ []) line old) (sym is) (record {
      each = λ cave s known k f d. (
        at (record (next_line s) { weighing = record { line = s.line; to_come = count; groups = [] } }),
        refl,
        record {
          good = k.good;
          cells = k.cells;
          floor = k.floor;
          weak = k.weak;
          spot = k.spot;
          weighing = record { line = at_line ∙ f; to_come = to_come; groups = groups };
          dark = k.dark;
        },
      );
    }))

-- a group's line with fewer than two numbers says nothing
pub group_nothing : (lists : LitLists) (numbers : List ℕ) (line : ℕ) (nodes : NodeJudge) → length numbers < 2
    → StepsOn lists kind.Group numbers line nodes nodes
group_nothing lists [] line nodes h = nothing_said lists kind.Group [] line nodes (λ cave s. refl)
group_nothing lists (a ∷ []) line nodes h = nothing_said lists kind.Group (a ∷ []) line nodes (λ cave s. refl)
group_nothing lists (a ∷ b ∷ ns) line nodes h = absurd (omega arith)

-- another tells a group
pub group_steps : (lists : LitLists) (numbers : List ℕ) (line : ℕ) (old new : NodeJudge) (capacity : ℕ)
    (told : List ℕ) (shares : List Share) → 1 < length numbers → capacity ≡ slice_index numbers 0
    → told ≡ take (length numbers - 2) (drop 2 numbers) → shares ≡ shares_of told
    → JudgesGroup lists (record { capacity = capacity; shares = shares }) old new
    → StepsOn lists kind.Group numbers line old new
group_steps lists [] line old new capacity told shares h e f g j = absurd (omega arith)
group_steps lists (a ∷ []) line old new capacity told shares h e f g j = absurd (omega arith)
group_steps lists (a ∷ b ∷ ns) line old new capacity told shares h e f g j =
    let all : take (length (a ∷ b ∷ ns) - 2) ns ≡ ns = take_all (length (a ∷ b ∷ ns) - 2) ns (omega arith) in
    let same : shares ≡ shares_of ns = g ∙ ap shares_of (f ∙ all) in
    let here = subst (λ (l : List Share). JudgesGroup lists (record { capacity = a; shares = l }) old new) same
    (subst (λ (n : ℕ). JudgesGroup lists (record { capacity = n; shares = shares }) old new) e j) in
    record { each = λ cave s known k e d. here.each cave s known k }

-- an omission with no numbers says nothing
pub omit_nothing : (lists : LitLists) (numbers : List ℕ) (line : ℕ) (nodes : NodeJudge) → length numbers < 1
    → StepsOn lists kind.Omit numbers line nodes nodes
omit_nothing lists [] line nodes h = nothing_said lists kind.Omit [] line nodes (λ cave s. refl)
omit_nothing lists (n ∷ ns) line nodes h = absurd (omega arith)

-- an omission that is judged by the cells after its count is a step
pub omit_steps : (lists : LitLists) (numbers : List ℕ) (line : ℕ) (old new : NodeJudge) → 0 < length numbers
    → JudgesOmission lists (take (length numbers - 1) (drop 1 numbers)) line old new
    → StepsOn lists kind.Omit numbers line old new
omit_steps lists [] line old new h j = absurd (omega arith)
omit_steps lists (n ∷ ns) line old new h j =
    let all : take (length (n ∷ ns) - 1) ns ≡ ns = take_all (length (n ∷ ns) - 1) ns (omega arith) in
    let here : JudgesOmission lists ns line old new = subst (λ (l : List ℕ). JudgesOmission lists l line old new) all j
    in
    record { each = λ cave s known i e d. here.each cave s known i e }

-- one number is the first
pub only_number : (numbers : List ℕ) → length numbers ≡ 1 → numbers ≡ slice_index numbers 0 ∷ []
only_number [] e = absurd (omega (arith, e))
only_number (n ∷ []) e = refl
only_number (n ∷ m ∷ ns) e = absurd (omega (arith, e))
