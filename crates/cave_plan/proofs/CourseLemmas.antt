-- Regions planned one after another.
use Rattle.std.proofs.Common.{◌≡◌, ℕ, ◌+◌, ◌≤◌, Bool, true, false, List, [], ◌∷◌, ◌++◌, length, map, All, Contains}
use Rattle.std.proofs.Common.{refl, sym, ap, subst, ◌∙◌, arith, Option, Some, None, ◌*◌, append_assoc}
use Rattle.std.proofs.Common.{length-append}
use Rattle.std.specs.Prelude.{max}
use Rattle.std.specs.Prelude.{flat_map, IsSome, if◌then◌else◌}
use Rattle.std.proofs.lemmas.Bool.{true≢false}
use Rattle.std.proofs.lemmas.List.{map-append, append-nil}
use Rattle.std.proofs.lemmas.List.Elements.{All-append, All-cons, All-nil, All-head, All-tail, Contains-append_left}
use Rattle.std.proofs.lemmas.List.Elements.{Contains-push}
use Rattle.std.proofs.lemmas.Grind.{flat_map-append}
use Rattle.std.proofs.Math.Nat.{mul-le-mul_right}
use Rattle.set_cover.specs.Instance.{Instance, of_instance}
use Rattle.cave_model.specs.Coverage.{IsPlaceOf}
use Rattle.proof_rules.specs.Tree.{Tree}
use Rattle.proof_rules.specs.Good.{IsCoverOfPiece}
use Rattle.proof_rules.proofs.ListLemmas.{all_members, at_member, distinct_nil}
use Rattle.proof_rules.proofs.BoundLemmas.{bounds, piece_serves}
use Rattle.instance_regions.specs.Cover.{Covering, IsCover, IsCoverOfRegion}
use Rattle.certificate_text.specs.Planned.{Plan}
use Rattle.search_traits.specs.Planned.{IsBest, IsStopped}
use Rattle.search_traits.specs.Turns.{IsShareSpent, IsWithin}
use Rattle.search_traits.specs.declared.planner.Allowance.{Allowance}
use Rattle.cave_plan.specs.Bounded.{Bounded, AreTurnsOf, IsGrantedBy, all_torches, finished, total_floor}
use Rattle.cave_plan.specs.Course.{Course, course, IsBounded, IsProved, AreFinished, AreProvedPlans, IsCourse, GoesOn}

-- what holds of a value holds of all of a list of it alone
one : {X : Type 0} (P : X → Type 0) (x : X) → P x → All P (x ∷ [])
one P x h = All-cons P x [] h (All-nil P)

-- ---- sums

-- the total floor of two lists is the sum of theirs
pub total-append : (these those : List Bounded) → total_floor (these ++ those) ≡ total_floor these + total_floor those
total-append [] those = omega arith
total-append (p ∷ ps) those = (let rest = total-append ps those in omega (arith, rest))

-- the torches of two lists are theirs one after the other
pub torches-append : (these those : List Bounded) → all_torches (these ++ those) ≡ all_torches these
    ++ all_torches those
torches-append [] those = refl
torches-append (p ∷ ps) those = ap (λ (l : List ℕ). p.torches
    ++ l) (torches-append ps those) ∙ sym (append_assoc p.torches (all_torches ps) (all_torches those))

-- a cover of the region is one of its whole piece
pub of_piece : (region : Instance) (places : List ℕ) → IsCoverOfRegion region places
    → IsCoverOfPiece (of_instance region) region.cells [] [] places
of_piece region places cover = record {
  distinct = cover.distinct;
  legal = all_members ((of_instance region).Place) places
      (λ p h. (at_member (IsPlaceOf (of_instance region) region.cells) places p cover.of_it h).0);
  covers = cover.covers;
  holds = All-nil _;
  avoids = All-nil _;
}

-- a floor is at most the size of the cover
pub floor_within : (part : Bounded) → IsBounded part → part.floor ≤ length part.torches
floor_within part is = is.none_below part.torches (of_piece part.region part.torches is.cover)

-- where no floor is above its torches, their sum isn't
pub total_within : (parts : List Bounded) → All IsBounded parts → total_floor parts ≤ length (all_torches parts)
total_within [] all = omega arith
total_within (p ∷ ps) all =
    let first = floor_within p (All-head IsBounded p ps all) in let rest = total_within ps
    (All-tail IsBounded p ps all) in
    omega (arith, first, rest, length-append p.torches (all_torches ps))

-- ---- finished parts

-- a choice in front of both parts of a list is one in front of the whole
choice-append : (b : Bool) (part : Bounded) (these those : List Bounded)
    → (if b then these ++ those else part ∷ (these ++ those)) ≡ (if b then these else part ∷ these) ++ those
choice-append true part these those = refl
choice-append false part these those = refl

-- the finished parts of two lists are theirs one after the other
finished-append : (these those : List Bounded) → finished (these ++ those) ≡ finished these ++ finished those
finished-append [] those = refl
finished-append (p ∷ ps) those =
    ap (λ (l : List Bounded). if p.spent then l else p ∷ l) (finished-append ps those)
    ∙ choice-append p.spent p (finished ps) (finished those)

-- where both have the same of two lists of plans, they have it of both together
both_have : {X : Type 0} (f : Bounded → X) (g : Plan → X) (parts more : List Bounded) (plans others : List Plan)
    → map f (finished parts) ≡ map g plans → map f (finished more) ≡ map g others
    → map f (finished (parts ++ more)) ≡ map g (plans ++ others)
both_have f g parts more plans others these those =
    ap (map f) (finished-append parts more) ∙ map-append f (finished parts) (finished more)
    ∙ ap (λ l. l ++ map f (finished more)) these ∙ ap (λ l. map g plans ++ l) those
    ∙ sym (map-append g plans others)

-- more parts, with plans of those of them that are finished
finished_more : (parts more : List Bounded) (plans others : List Plan) → AreFinished parts plans
    → AreFinished more others → AreFinished (parts ++ more) (plans ++ others)
finished_more parts more plans others these those = record {
  regions = both_have (λ (part : Bounded). part.region) (λ (plan : Plan). plan.region) parts more plans others
      these.regions those.regions;
  torches = both_have (λ (part : Bounded). part.torches) (λ (plan : Plan). plan.torches) parts more plans others
      these.torches those.torches;
}

-- a spent part is one among more
abbrev HasSpent : List Bounded → Type 0
HasSpent parts = Contains (map (λ part. part.spent) parts) true

spent_before : (parts more : List Bounded) → HasSpent parts → HasSpent (parts ++ more)
spent_before parts more has = subst (λ (l : List Bool). Contains l true)
    (sym (map-append (λ (part : Bounded). part.spent) parts more))
    (Contains-append_left (map (λ (part : Bounded). part.spent) parts) (map (λ (part : Bounded). part.spent) more)
    true has)

spent_last : (parts : List Bounded) (part : Bounded) → part.spent ≡ true → HasSpent (parts ++ part ∷ [])
spent_last parts part is = subst (λ (l : List Bool). Contains l true)
    (sym (map-append (λ (p : Bounded). p.spent) parts (part ∷ [])))
    (subst (λ (b : Bool). Contains (map (λ (p : Bounded). p.spent) parts ++ part.spent ∷ []) b) is
    (Contains-push (map (λ (p : Bounded). p.spent) parts) part.spent))

-- ---- one region more

-- a part more, where a plan is added with it or the turns were spent
pub part_more : (regions : List Instance) (allowance : Allowance) (old : Course) (part : Bounded) (floor : ℕ)
    (stopped : Bool) (turns : ℕ) (more : List Plan)
    → (c : IsCourse regions allowance old) → IsBounded part → IsGrantedBy allowance part
    → AreTurnsOf allowance stopped turns
    → (old.floor + part.floor ≤ length (old.torches ++ part.torches) → floor ≡ old.floor + part.floor)
    → (stopped ≡ false → AreProvedPlans (regions ++ part.region ∷ []) (old.torches ++ part.torches) (old.plans ++ more))
    → (stopped ≡ true → IsSome allowance.turns)
    → AreFinished (part ∷ []) more → (stopped ≡ true → HasSpent (c.parts ++ part ∷ []))
    → IsCourse (regions ++ part.region ∷ []) allowance
    (course (old.torches ++ part.torches) floor stopped turns (old.plans ++ more))
part_more regions allowance old part floor stopped turns more c is granted most sum proved limited finished_is spent =
    let parts = c.parts ++ part ∷ [] in
    let all : All IsBounded parts = All-append IsBounded c.parts (part ∷ []) c.each (one IsBounded part is) in
    let torches : all_torches parts ≡ old.torches ++ part.torches =
    torches-append c.parts (part ∷ []) ∙ ap (λ (l : List ℕ). all_torches c.parts
    ++ l) (append-nil part.torches) ∙ ap (λ (l : List ℕ). l ++ part.torches) c.whole in
    let total : total_floor parts ≡ old.floor + part.floor =
    (let t = total-append c.parts (part ∷ []) in let o = c.total in omega (arith, t, o)) in
    let within : old.floor + part.floor ≤ length (old.torches ++ part.torches) =
    subst (λ (n : ℕ). n ≤ length (old.torches
    ++ part.torches)) total (subst (λ (l : List ℕ). total_floor parts ≤ length l) torches
    (total_within parts all)) in
    record {
      parts = parts;
      of_them = map-append (λ (p : Bounded). p.region) c.parts (part ∷ []) ∙ ap (λ (l : List Instance). l
          ++ part.region ∷ []) c.of_them;
      each = all;
      granted = All-append (IsGrantedBy allowance) c.parts (part ∷ []) c.granted
          (one (IsGrantedBy allowance) part granted);
      most = most;
      whole = torches;
      total = total ∙ sym (sum within);
      proved = proved;
      limited = limited;
      finished_are = finished_more c.parts (part ∷ []) old.plans more c.finished_are finished_is;
      spent = spent;
    }

-- the number that was added up
abbrev pub AddsUp : List ℕ → ℕ → ℕ → ℕ → Type 0
AddsUp torches a b sum = a + b ≤ length torches → sum ≡ a + b

-- a region that was planned to the end
abbrev best_part : Instance → Covering → ℕ → Bounded
best_part region cover granted =
    record { region = region; torches = cover.places; floor = length cover.places; spent = false; granted = granted }

-- a best cover's size is a floor
pub best_bounded : (region : Instance) (cover : Covering) (granted : ℕ) (tree : Tree) → IsBest region cover tree
    → IsCover cover → IsBounded (best_part region cover granted)
best_bounded region cover granted tree best kept = record {
  whole = λ e. refl;
  some = λ e. absurd (true≢false (sym e));
  cover = subst (λ (r : Instance). IsCoverOfRegion r cover.places) best.of_it kept;
  none_below = λ places is. bounds (of_instance region) region.cells [] [] tree (length cover.places) places
      distinct_nil best.proved
      (piece_serves (of_instance region) region.cells [] [] places is);
}

-- one more proved region
proved_more : (regions : List Instance) (torches : List ℕ) (plans : List Plan) (plan : Plan)
    → AreProvedPlans regions torches plans → IsProved plan
    → AreProvedPlans (regions ++ plan.region ∷ []) (torches ++ plan.torches) (plans ++ plan ∷ [])
proved_more regions torches plans plan are is = record {
  of_them = map-append (λ (p : Plan). p.region) plans (plan ∷ []) ∙ ap (λ (l : List Instance). l
      ++ plan.region ∷ []) are.of_them;
  each = All-append IsProved plans (plan ∷ []) are.each (one IsProved plan is);
  whole = flat_map-append (λ (p : Plan). p.torches) plans (plan ∷ []) ∙ ap
      (λ (l : List ℕ). flat_map (λ (p : Plan). p.torches) plans ++ l) (append-nil plan.torches)
      ∙ ap (λ (l : List ℕ). l ++ plan.torches) are.whole;
}

-- ---- turns

-- a limit bounds the greater of two numbers where it bounds both
within_most : (limit : Option ℕ) (a b : ℕ) → IsWithin limit a → IsWithin limit b → IsWithin limit (max a b)
within_most None a b one other = tt
within_most (Some most) a b one other = omega (arith, one, other)

-- a share is spent by as many turns and more
share_more : (workers : ℕ) (limit : Option ℕ) (less more : ℕ) → IsShareSpent workers limit less → less ≤ more
    → IsWithin limit more → IsShareSpent workers limit more
share_more workers None less more spent le within = absurd spent
share_more workers (Some most) less more spent le within =
    let step : less + 1 ≤ more + 1 = omega (arith, le) in
    let scaled : (less + 1) * workers ≤ (more + 1) * workers = mul-le-mul_right workers step in
    (within, omega (arith, spent.1, scaled))

-- the most of the turns before and of those of a region that was planned to the end
pub most_best : (allowance : Allowance) (stopped : Bool) (turns granted : ℕ) → AreTurnsOf allowance stopped turns
    → IsWithin allowance.turns granted → AreTurnsOf allowance stopped (max turns granted)
most_best allowance stopped turns granted are within =
    let both = within_most allowance.turns turns granted are.within within in record {
      within = both;
      used = λ e. share_more allowance.workers allowance.turns turns (max turns granted) (are.used e)
          (omega arith) both;
    }

-- a share that is spent is within the limit
share_within : (workers : ℕ) (limit : Option ℕ) (granted : ℕ) → IsShareSpent workers limit granted
    → IsWithin limit granted
share_within workers None granted spent = tt
share_within workers (Some most) granted spent = spent.0

-- the most of the turns before and of those of a region whose turns were spent
pub most_stopped : (allowance : Allowance) (stopped : Bool) (turns granted : ℕ) → AreTurnsOf allowance stopped turns
    → IsShareSpent allowance.workers allowance.turns granted → AreTurnsOf allowance true (max turns granted)
most_stopped allowance stopped turns granted are used =
    let within = share_within allowance.workers allowance.turns granted used in
    let both = within_most allowance.turns turns granted are.within within in record {
      within = both;
      used = λ e. share_more allowance.workers allowance.turns granted (max turns granted) used (omega arith) both;
    }

-- ---- a region more, with its plan

-- one more region, with a best cover
pub best_more : (allowance : Allowance) (region : Instance) (cover : Covering) (granted : ℕ) (tree : Tree)
    (old : Course) (floor : ℕ)
    → IsBest region cover tree → IsCover cover → IsWithin allowance.turns granted
    → AddsUp (old.torches ++ cover.places) old.floor (length cover.places) floor
    → GoesOn allowance region old (course (old.torches ++ cover.places) floor old.stopped (max old.turns granted)
    (old.plans ++ record { region = region; torches = cover.places; tree = tree } ∷ []))
best_more allowance region cover granted tree old floor best kept within sum =
    let part : Bounded = best_part region cover granted in
    let plan : Plan = record { region = region; torches = cover.places; tree = tree } in
    let bounded : IsBounded part = best_bounded region cover granted tree best kept in
    record {
      each = λ regions c. part_more regions allowance old part floor old.stopped (max old.turns granted) (plan ∷ []) c
          bounded (record { within = within; used = λ e. absurd (true≢false (sym e)) })
          (most_best allowance old.stopped old.turns granted c.most within) sum
          (λ e. proved_more regions old.torches old.plans plan (c.proved e)
          (record { cover = bounded.cover; good = best.proved })) c.limited
          (record { regions = refl; torches = refl })
          (λ e. spent_before c.parts (part ∷ []) (c.spent e));
    }

-- one more region, whose turns were spent
pub stopped_more : (allowance : Allowance) (cover : Covering) (least granted : ℕ) (old : Course) (floor : ℕ)
    → IsStopped cover.region allowance.turns cover least
    → IsShareSpent allowance.workers allowance.turns granted → IsCover cover
    → AddsUp (old.torches ++ cover.places) old.floor least floor
    → GoesOn allowance cover.region old
    (course (old.torches ++ cover.places) floor true (max old.turns granted) old.plans)
stopped_more allowance cover least granted old floor stops used kept sum =
    let part : Bounded = record {
      region = cover.region;
      torches = cover.places;
      floor = least;
      spent = true;
      granted = granted;
    } in
    record {
      each = λ regions c. subst (λ (l : List Plan). IsCourse (regions ++ cover.region ∷ []) allowance
          (course (old.torches ++ cover.places) floor true (max old.turns granted) l)) (append-nil old.plans)
          (part_more regions allowance old part floor true (max old.turns granted) [] c
          (record {
            cover = kept;
            none_below = stops.none_below;
            whole = λ e. absurd (true≢false e);
            some = λ e. stops.some;
          })
          (record {
            within = share_within allowance.workers allowance.turns granted used;
            used = λ e. used;
          })
          (most_stopped allowance old.stopped old.turns granted c.most used) sum
          (λ e. absurd (true≢false e)) (λ e. stops.limited)
          (record { regions = refl; torches = refl }) (λ e. spent_last c.parts part refl));
    }

-- no turns are within each limit
within_none : (limit : Option ℕ) → IsWithin limit 0
within_none None = tt
within_none (Some most) = omega arith

-- before the first region nothing is planned
pub none_planned : (allowance : Allowance) → IsCourse [] allowance (course [] 0 false 0 [])
none_planned allowance = record {
  parts = [];
  of_them = refl;
  each = All-nil IsBounded;
  granted = All-nil (IsGrantedBy allowance);
  most = record { within = within_none allowance.turns; used = λ e. absurd (true≢false (sym e)) };
  whole = refl;
  total = refl;
  proved = λ e. record { of_them = refl; each = All-nil IsProved; whole = refl };
  limited = λ e. absurd (true≢false (sym e));
  finished_are = record { regions = refl; torches = refl };
  spent = λ e. absurd (true≢false (sym e));
}

-- ---- the same of what the code has

-- a region with a best cover, as the code adds it
pub best_added : (allowance : Allowance) (region : Instance) (cover : Covering) (granted : ℕ) (tree : Tree)
    (old : Course) (torches : List ℕ) (floor turns : ℕ) (plans : List Plan) → IsBest region cover tree → IsCover cover
    → IsWithin allowance.turns granted
    → torches ≡ old.torches ++ cover.places → AddsUp torches old.floor (length cover.places) floor
    → turns ≡ max old.turns granted
    → plans ≡ old.plans ++ record { region = region; torches = cover.places; tree = tree } ∷ []
    → GoesOn allowance region old (course torches floor old.stopped turns plans)
best_added allowance region cover granted tree old torches floor turns plans best kept within grown sum most added =
    subst (λ (v : List ℕ × (ℕ × List Plan)). GoesOn allowance region old (course v.0 floor old.stopped v.1.0 v.1.1))
    (λ i. (sym grown i, (sym most i, sym added i)))
    (best_more allowance region cover granted tree old floor best kept within
    (subst (λ (ts : List ℕ). AddsUp ts old.floor (length cover.places) floor) grown sum))

-- a region whose turns were spent, as the code adds it
pub stopped_added : (allowance : Allowance) (cover : Covering) (least granted : ℕ) (old : Course) (torches : List ℕ)
    (floor turns : ℕ)
    → IsStopped cover.region allowance.turns cover least
    → IsShareSpent allowance.workers allowance.turns granted → IsCover cover
    → torches ≡ old.torches ++ cover.places → AddsUp torches old.floor least floor → turns ≡ max old.turns granted
    → GoesOn allowance cover.region old (course torches floor true turns old.plans)
stopped_added allowance cover least granted old torches floor turns stops used kept grown sum most =
    subst (λ (v : List ℕ × ℕ). GoesOn allowance cover.region old (course v.0 floor true v.1 old.plans))
    (λ i. (sym grown i, sym most i))
    (stopped_more allowance cover least granted old floor stops used kept
    (subst (λ (ts : List ℕ). AddsUp ts old.floor least floor) grown sum))
