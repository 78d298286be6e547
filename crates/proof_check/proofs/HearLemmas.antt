-- What the judge keeps, line after line.
use Rattle.std.proofs.Common.{◌≡◌, ◌≢◌, ℕ, ◌+◌, inl, inr, List, [], ◌∷◌, ◌++◌, length, Contains, refl, sym, ap, subst}
use Rattle.std.proofs.Common.{◌∙◌, length-append, append_assoc}
use Rattle.std.specs.Prelude.{Bool, false, flat_map}
use Rattle.std.proofs.lemmas.List.{append-nil, get_or_append_left, get_or_past}
use Rattle.std.proofs.lemmas.Bool.{cases_lt}
use Rattle.proof_rules.proofs.ListLemmas.{no_member}
use Rattle.cave_model.specs.Cave.{Cave}
use Rattle.cave_model.specs.Spawn.{IsDark}
use Rattle.lit_lists.specs.Lists.{LitLists, AreListsOf}
use Rattle.certificate_lines.specs.Said.{Said, said}
use Rattle.certificate_lines.specs.declared.kind.LineKind.{LineKind}
use Rattle.certificate_lines.specs.declared.kind.LineKind.TheVariants as kind
use Rattle.proof_check.specs.Refused.{IsListed}
use Rattle.proof_check.specs.Judged.{JudgeState, Judged, at, stuck, NodeSteps, Runs, start}
use Rattle.proof_check.specs.Kept.{IsWide, Keeps, Judges}
use Rattle.proof_check.specs.Homes.{Homes, AreHomesOf, Joins, Stands}
use Rattle.proof_check.specs.Heard.{part_if, is_dark_line, is_torch_line, dark_parts, torch_parts, IsBefore, IsLed}
use Rattle.proof_check.specs.Heard.{Hears}
use Rattle.proof_check.specs.declared.judge.Judge.{Judge}
use Rattle.proof_check.proofs.JudgedLemmas.{runs_push}
use Rattle.proof_check.proofs.HomeLemmas.{stands_new}

-- ---- the lists of one line more

-- the lists of one line more are followed by that line's
pub flat_push : (f : Said → List (List ℕ)) (all : List Said) (s : Said)
    → flat_map f (all ++ s ∷ []) ≡ flat_map f all ++ f s
flat_push f [] s = append-nil (f s)
flat_push f (t ∷ all) s = ap (λ (l : List (List ℕ)). f t ++ l) (flat_push f all s)
    ∙ sym (append_assoc (f t) (flat_map f all) (f s))

-- a line of dark cells adds its list to the regions
pub dark_push : (all : List Said) (numbers : List ℕ)
    → dark_parts (all ++ said kind.Dark numbers ∷ []) ≡ dark_parts all ++ numbers ∷ []
dark_push all numbers = flat_push (λ s. part_if (is_dark_line s.kind) s.numbers) all (said kind.Dark numbers)

-- a line of torches adds its list to the torches
pub torch_push : (all : List Said) (numbers : List ℕ)
    → torch_parts (all ++ said kind.Torches numbers ∷ []) ≡ torch_parts all ++ numbers ∷ []
torch_push all numbers = flat_push (λ s. part_if (is_torch_line s.kind) s.numbers) all (said kind.Torches numbers)

-- any other kind is no line of dark cells
dark_other : (k : LineKind) → (k ≢ kind.Dark) → is_dark_line k ≡ false
dark_other kind.Version ne = refl
dark_other kind.Size ne = refl
dark_other kind.Headroom ne = refl
dark_other kind.Need ne = refl
dark_other kind.Regions ne = refl
dark_other kind.Region ne = refl
dark_other kind.Dark ne = absurd (ne refl)
dark_other kind.Torches ne = refl
dark_other kind.Leaf ne = refl
dark_other kind.Branch ne = refl
dark_other kind.Bar ne = refl
dark_other kind.Weighted ne = refl
dark_other kind.Group ne = refl
dark_other kind.Omit ne = refl
dark_other kind.Pick ne = refl
dark_other kind.End ne = refl

-- any other kind is no line of torches
torch_other : (k : LineKind) → (k ≢ kind.Torches) → is_torch_line k ≡ false
torch_other kind.Version ne = refl
torch_other kind.Size ne = refl
torch_other kind.Headroom ne = refl
torch_other kind.Need ne = refl
torch_other kind.Regions ne = refl
torch_other kind.Region ne = refl
torch_other kind.Dark ne = refl
torch_other kind.Torches ne = absurd (ne refl)
torch_other kind.Leaf ne = refl
torch_other kind.Branch ne = refl
torch_other kind.Bar ne = refl
torch_other kind.Weighted ne = refl
torch_other kind.Group ne = refl
torch_other kind.Omit ne = refl
torch_other kind.Pick ne = refl
torch_other kind.End ne = refl

-- a line of another kind leaves the regions as they were
pub no_dark : (all : List Said) (k : LineKind) (numbers : List ℕ) → (k ≢ kind.Dark)
    → dark_parts (all ++ said k numbers ∷ []) ≡ dark_parts all
no_dark all k numbers ne = flat_push (λ s. part_if (is_dark_line s.kind) s.numbers) all (said k numbers)
    ∙ ap (λ (b : Bool). dark_parts all ++ part_if b numbers) (dark_other k ne) ∙ append-nil (dark_parts all)

-- a line of another kind leaves the torches as they were
pub no_torch : (all : List Said) (k : LineKind) (numbers : List ℕ) → (k ≢ kind.Torches)
    → torch_parts (all ++ said k numbers ∷ []) ≡ torch_parts all
no_torch all k numbers ne = flat_push (λ s. part_if (is_torch_line s.kind) s.numbers) all (said k numbers)
    ∙ ap (λ (b : Bool). torch_parts all ++ part_if b numbers) (torch_other k ne) ∙ append-nil (torch_parts all)

-- ---- the judge of nodes

-- a cell keeps its list when lists follow
stands_on : (xs ys : List (List ℕ)) (i cell : ℕ) → Stands xs i cell → Stands (xs ++ ys) i cell
stands_on xs ys i cell h = elim (cases_lt i (length xs)) [
  | inl lt ↦ subst (λ (l : List ℕ). Contains l cell) (sym (get_or_append_left xs ys [] i lt)) h
  | inr le ↦ no_member cell (subst (λ (l : List ℕ). Contains l cell) (get_or_past xs i [] le) h)
]

-- what was listed in a region still is after one line more
listed_before : (all : List Said) (s : Said) (cell : ℕ) → IsListed (dark_parts all) cell
    → IsListed (dark_parts (all ++ s ∷ [])) cell
listed_before all s cell l = (
  l.0,
  subst (λ (p : List (List ℕ)). Stands p l.0 cell)
      (sym (flat_push (λ s. part_if (is_dark_line s.kind) s.numbers) all s))
      (stands_on (dark_parts all) (part_if (is_dark_line s.kind) s.numbers) l.0 cell l.1),
)

-- the cells of a line of dark cells are listed in a region
listed_now : (all : List Said) (k : LineKind) (numbers : List ℕ) (cell : ℕ) → k ≡ kind.Dark → Contains numbers cell
    → IsListed (dark_parts (all ++ said k numbers ∷ [])) cell
listed_now all k numbers cell e h = subst (λ (j : LineKind). IsListed (dark_parts (all ++ said j numbers ∷ [])) cell)
    (sym e) (
      length (dark_parts all),
      subst (λ (p : List (List ℕ)). Stands p (length (dark_parts all)) cell)
          (sym (dark_push all numbers)) (stands_new (dark_parts all) numbers cell h),
    )

-- a step leads one line on
line_of : Judged → ℕ
line_of (at s) = s.line
line_of (stuck bad) = 0

-- after a step the next line is expected
step_line : (cave : Cave) (k : LineKind) (numbers : List ℕ) (s : JudgeState) (j : Judged) → NodeSteps cave k numbers s j
    → IsBefore j (s.line + 1)
unfolding line_of
step_line cave k numbers s (stuck bad) h = tt
step_line cave kind.Version numbers s (at t) h = ap line_of h
step_line cave kind.Size numbers s (at t) h = ap line_of h
step_line cave kind.Headroom numbers s (at t) h = ap line_of h
step_line cave kind.Need numbers s (at t) h = ap line_of h
step_line cave kind.Regions numbers s (at t) h = ap line_of h
step_line cave kind.Region numbers s (at t) h = ap line_of h
step_line cave kind.Dark numbers s (at t) h = ap line_of h
step_line cave kind.Torches numbers s (at t) h = ap line_of h
step_line cave kind.End numbers s (at t) h = ap line_of h
step_line cave kind.Leaf [] s (at t) h = ap line_of h
step_line cave kind.Leaf (n ∷ ns) s (at t) (inl h) = ap line_of h.1
step_line cave kind.Leaf (n ∷ ns) s (at t) (inr h) = absurd (let e = h.1 in cc)
step_line cave kind.Branch [] s (at t) h = ap line_of h
step_line cave kind.Branch (a ∷ []) s (at t) h = ap line_of h
step_line cave kind.Branch (a ∷ b ∷ []) s (at t) (inl h) = ap line_of h.2
step_line cave kind.Branch (a ∷ b ∷ []) s (at t) (inr h) = absurd (let e = h.1 in cc)
step_line cave kind.Branch (a ∷ b ∷ c ∷ ns) s (at t) h = ap line_of h
step_line cave kind.Bar [] s (at t) h = ap line_of h
step_line cave kind.Bar (a ∷ []) s (at t) h = ap line_of h
step_line cave kind.Bar (a ∷ b ∷ []) s (at t) (inl h) = ap line_of h.1
step_line cave kind.Bar (a ∷ b ∷ []) s (at t) (inr h) = absurd (let e = h.1 in cc)
step_line cave kind.Bar (a ∷ b ∷ c ∷ ns) s (at t) h = ap line_of h
step_line cave kind.Weighted [] s (at t) h = ap line_of h
step_line cave kind.Weighted (a ∷ []) s (at t) h = ap line_of h
step_line cave kind.Weighted (a ∷ b ∷ ns) s (at t) h = ap line_of h
step_line cave kind.Group [] s (at t) h = ap line_of h
step_line cave kind.Group (a ∷ []) s (at t) h = ap line_of h
step_line cave kind.Group (a ∷ b ∷ ns) s (at t) (inl h) = ap line_of h.1
step_line cave kind.Group (a ∷ b ∷ ns) s (at t) (inr (inl (last, inl h))) = ap line_of h.1
step_line cave kind.Group (a ∷ b ∷ ns) s (at t) (inr (inl (last, inr h))) = absurd (let e = h.1 in cc)
step_line cave kind.Group (a ∷ b ∷ ns) s (at t) (inr (inr h)) = ap line_of h.3
step_line cave kind.Omit [] s (at t) h = ap line_of h
step_line cave kind.Omit (n ∷ ns) s (at t) (inl h) = ap line_of h.1
step_line cave kind.Omit (n ∷ ns) s (at t) (inr h) = absurd (let e = h.1 in cc)
step_line cave kind.Pick [] s (at t) h = ap line_of h
step_line cave kind.Pick (a ∷ []) s (at t) (inl h) = ap line_of h.1
step_line cave kind.Pick (a ∷ []) s (at t) (inr h) = absurd (let e = h.1 in cc)
step_line cave kind.Pick (a ∷ b ∷ ns) s (at t) h = ap line_of h

-- a line more, judged by its kind, leads the judge of nodes on
pub nodes_led : (cave : Cave) (old new : Judge) (all : List Said) (k : LineKind) (numbers : List ℕ) (line : ℕ)
    → new.lists ≡ old.lists → AreListsOf cave old.lists → Judges old.lists k numbers line old.nodes new.nodes
    → line ≡ length all + 1
    → (((cell : ℕ) → IsListed (dark_parts all) cell → IsDark cave cell) → IsLed cave old all)
    → ((cell : ℕ) → IsListed (dark_parts (all ++ said k numbers ∷ [])) cell → IsDark cave cell)
    → IsLed cave new (all ++ said k numbers ∷ [])
nodes_led cave old new all k numbers line same known judges e led dark = go was.j was.runs was.keeps was.before where
  was : IsLed cave old all
  was = led (λ cell l. dark cell (listed_before all (said k numbers) cell l))

  long : length (all ++ said k numbers ∷ []) ≡ length all + 1
  long = length-append all (said k numbers ∷ [])

  go : (j : Judged) → Runs cave all start j → Keeps cave old.lists old.nodes j → IsBefore j (length all + 1)
      → IsLed cave new (all ++ said k numbers ∷ [])
  go (stuck bad) r kept b = record {
    j = stuck bad;
    runs = runs_push cave all (said k numbers) start (stuck bad) (stuck bad) r refl;
    keeps = judges.still bad kept;
    before = tt;
  }
  go (at s) r kept b =
      let step = (judges.steps kept.good).each cave s known kept (e ∙ sym b)
      (λ d cell h. dark cell (listed_now all k numbers cell d h)) in
      record {
        j = step.0;
        runs = runs_push cave all (said k numbers) start (at s) step.0 r step.1;
        keeps = subst (λ (l : LitLists). Keeps cave l new.nodes step.0) (sym same) step.2;
        before = subst (IsBefore step.0) (ap (λ (n : ℕ). n + 1) b ∙ ap (λ (n : ℕ). n + 1) (sym long))
            (step_line cave k numbers s step.0 step.1);
      }

-- ---- a line more

-- the judge has heard a line once nodes, torches and regions have
pub hears_by : (k : LineKind) (numbers : List ℕ) (line : ℕ) (old new : Judge) → new.lists ≡ old.lists
    → Judges old.lists k numbers line old.nodes new.nodes → IsWide old.lists new.nodes
    → ((all : List Said) → AreHomesOf (torch_parts all) old.torches
    → AreHomesOf (torch_parts (all ++ said k numbers ∷ [])) new.torches)
    → ((all : List Said) → AreHomesOf (dark_parts all) old.regions
    → AreHomesOf (dark_parts (all ++ said k numbers ∷ [])) new.regions)
    → length new.torches.homes ≡ length old.torches.homes → length new.regions.homes ≡ length old.regions.homes
    → Hears k numbers line old new
hears_by k numbers line old new same judges wide torches regions t r = record {
  each = λ cave all a e. record {
    known = subst (AreListsOf cave) (sym same) a.known;
    wide = subst (λ (l : LitLists). IsWide l new.nodes) (sym same) wide;
    torches = torches all a.torches;
    regions = regions all a.regions;
    torch_cells = t ∙ a.torch_cells;
    region_cells = r ∙ a.region_cells;
    led = nodes_led cave old new all k numbers line same a.known judges e a.led;
  };
}

-- cells that join as the next list are the next region
pub regions_join : (all : List Said) (k : LineKind) (numbers : List ℕ) (old new : Homes) → k ≡ kind.Dark
    → Joins numbers old new → AreHomesOf (dark_parts all) old → AreHomesOf (dark_parts (all ++ said k numbers ∷ [])) new
regions_join all k numbers old new e j a =
    subst (λ (x : LineKind). AreHomesOf (dark_parts (all ++ said x numbers ∷ [])) new) (sym e)
    (subst (λ (p : List (List ℕ)). AreHomesOf p new) (sym (dark_push all numbers)) (j.each (dark_parts all) a))

-- torches that join as the next list are the next list of torches
pub torches_join : (all : List Said) (k : LineKind) (numbers : List ℕ) (old new : Homes) → k ≡ kind.Torches
    → Joins numbers old new → AreHomesOf (torch_parts all) old
    → AreHomesOf (torch_parts (all ++ said k numbers ∷ [])) new
torches_join all k numbers old new e j a =
    subst (λ (x : LineKind). AreHomesOf (torch_parts (all ++ said x numbers ∷ [])) new) (sym e)
    (subst (λ (p : List (List ℕ)). AreHomesOf p new) (sym (torch_push all numbers)) (j.each (torch_parts all) a))

-- the homes of the regions stay at a line of another kind
pub regions_stay : (all : List Said) (k : LineKind) (numbers : List ℕ) (h : Homes) → (k ≢ kind.Dark)
    → AreHomesOf (dark_parts all) h → AreHomesOf (dark_parts (all ++ said k numbers ∷ [])) h
regions_stay all k numbers h ne a = subst (λ (p : List (List ℕ)). AreHomesOf p h) (sym (no_dark all k numbers ne)) a

-- the homes of the torches stay at a line of another kind
pub torches_stay : (all : List Said) (k : LineKind) (numbers : List ℕ) (h : Homes) → (k ≢ kind.Torches)
    → AreHomesOf (torch_parts all) h → AreHomesOf (torch_parts (all ++ said k numbers ∷ [])) h
torches_stay all k numbers h ne a = subst (λ (p : List (List ℕ)). AreHomesOf p h) (sym (no_torch all k numbers ne)) a
