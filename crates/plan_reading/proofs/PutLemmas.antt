-- Torches put one after another.
use Rattle.std.proofs.Common.{◌≡◌, ◌≢◌, ℕ, ◌<◌, ◌≤◌, ◌⊎◌, inl, inr, Bool, true, false, ◌&&◌, IsTrue, List, [], ◌∷◌}
use Rattle.std.proofs.Common.{◌++◌, length, map, set, take, get_or, Contains, refl, sym, ap, subst, arith, ◌∙◌}
use Rattle.std.proofs.Common.{length-set, true≢false}
use Rattle.std.proofs.lemmas.Bool.{cases_eq, cases_lt}
use Rattle.std.proofs.lemmas.List.{get_or-map, get_or-take, get_or_append_left, get_or_push, length-map}
use Rattle.std.proofs.lemmas.List.{length-take-le, length_push, map_push, set_comm}
use Rattle.cave_base.specs.Box.{Point, cell_count, is_small, is_within}
use Rattle.cave_base.specs.Class.{IsSoundClass, new_torch, void}
use Rattle.cave_base.specs.declared.class.Class.{Class}
use Rattle.cave_model.specs.Cave.{Cave, IsSound, IsWorld, cave, class_at}
use Rattle.cave_model.specs.Plan.{cave_with, classes_with}
use Rattle.cave_model.specs.Rule.{IsRule, Rule}
use Rattle.cave_model.specs.Torches.{is_legal}
use Rattle.cave_model.proofs.TorchLemmas as with_torches
use Rattle.plan_reading.specs.Placed.{AllMayStand, IsNoPlan, IsPlanFault, MayStand, NamesIllegal, StandsIllegally}
use Rattle.plan_reading.specs.Placed.{cell_of, illegal, point_of, torch_at}
use Rattle.plan_reading.specs.PlanLines.{TellsTorches}
use Rattle.plan_reading.specs.Putting.{ArePut, IsFree, PutsTorch}
use Rattle.plan_reading.specs.declared.fault.TorchesFault.{TorchesFault}
use Rattle.plan_reading.specs.declared.fault.TorchesFault.TheVariants as faults
use Rattle.plan_reading.specs.declared.torch.ToldTorch.{ToldTorch}
use Rattle.plan_reading.proofs.LineLemmas.{one_plan}
use Rattle.plan_reading.proofs.ReadLemmas.{told_fits}

-- ---- classes with torches

-- there are as many
length_with : (classes : List Class) (cells : List ℕ) → length (classes_with classes cells) ≡ length classes
length_with classes [] = refl
length_with classes (cell ∷ cells) = length-set (classes_with classes cells) cell new_torch ∙ length_with classes cells

-- a torch more, put before the others or after them
set_either : (classes : List Class) (a b : ℕ)
    → set (set classes a new_torch) b new_torch ≡ set (set classes b new_torch) a new_torch
set_either classes a b = elim (cases_eq a b) [
  | inl e ↦ ap (λ (n : ℕ). set (set classes n new_torch) b new_torch) e
      ∙ ap (λ (n : ℕ). set (set classes b new_torch) n new_torch) (sym e)
  | inr ne ↦ set_comm classes a b new_torch new_torch ne
]

-- the classes with a torch behind the others
pub classes_push : (classes : List Class) (cells : List ℕ) (cell : ℕ)
    → classes_with classes (cells ++ cell ∷ []) ≡ set (classes_with classes cells) cell new_torch
classes_push classes [] cell = refl
classes_push classes (c ∷ cells) cell =
    ap (λ (cs : List Class). set cs c new_torch) (classes_push classes cells cell)
    ∙ set_either (classes_with classes cells) cell c

-- ---- torches that may go where they are

-- where both hold the first does
first_true : (a b : Bool) → IsTrue (a && b) → IsTrue a
first_true true b e = refl
first_true false b e = e

-- a legal place gives way to a torch
legal_put : (cave : Cave) (torches : List ToldTorch) (i : ℕ) → MayStand cave torches i
    → IsTrue (class_at cave (cell_of cave.size (torch_at torches i))).put
legal_put cave torches i m = first_true _ _ m.legal

-- whose cell is among those of the torches
which : (cave : Cave) (us : List ToldTorch) (cell : ℕ) → Contains (map (cell_of cave.size) us) cell
    → (k : ℕ) × (k < length us) × (cell_of cave.size (torch_at us k) ≡ cell)
which cave us cell c =
    let inside : c.0 < length us = omega (arith, c.1, length-map us (cell_of cave.size)) in
    (c.0, inside, sym (get_or-map (cell_of cave.size) us c.0 (torch_at [] 0) cell inside) ∙ c.2)

-- the cell of a torch is among them
among : (cave : Cave) (us : List ToldTorch) (k : ℕ) → k < length us
    → Contains (map (cell_of cave.size) us) (cell_of cave.size (torch_at us k))
among cave us k inside = (
  k,
  omega (arith, inside, length-map us (cell_of cave.size)),
  get_or-map (cell_of cave.size) us k (torch_at [] 0) (cell_of cave.size (torch_at us k)) inside,
)

-- each of the cells gives way to a torch
all_put : (cave : Cave) (us : List ToldTorch) → AllMayStand cave us
    → with_torches.ArePut cave (map (cell_of cave.size) us)
all_put cave us stand = record {
  at = λ cell c. let w = which cave us cell c in
      subst (λ (n : ℕ). IsTrue (class_at cave n).put) w.2 (legal_put cave us w.0 (stand w.0 w.1));
}

-- a torch with this index that may go where it is
abbrev StandsAs : Cave → List ToldTorch → ℕ → ToldTorch → Type 0
StandsAs cave vs j t = IsTrue (is_within cave.size (point_of t)) × IsTrue (is_legal cave (cell_of cave.size t) t.hang)
    × ((k : ℕ) → k < j → cell_of cave.size (torch_at vs k) ≢ cell_of cave.size t)

-- a torch behind the same others may go where it is as well
stands_so : (cave : Cave) (us vs : List ToldTorch) (j : ℕ) → ((k : ℕ) → k ≤ j → torch_at us k ≡ torch_at vs k)
    → MayStand cave us j → MayStand cave vs j
stands_so cave us vs j same m =
    let here_so : StandsAs cave vs j (torch_at us j) = (
      m.inside,
      m.legal,
      λ k less. subst (λ (t : ToldTorch). cell_of cave.size t ≢ cell_of cave.size (torch_at us j))
          (same k (omega (arith, less))) (m.alone k less),
    ) in
    let so = subst (λ (t : ToldTorch). StandsAs cave vs j t) (same j (omega arith)) here_so in
    record { inside = so.0; legal = so.1; alone = so.2 }

-- the cell of a free torch is not among those of the others
free_alone : (cave : Cave) (us : List ToldTorch) (t : ToldTorch) → AllMayStand cave us
    → IsFree cave (classes_with cave.classes (map (cell_of cave.size) us)) t
    → Contains (map (cell_of cave.size) us) (cell_of cave.size t) → ⊥
free_alone cave us t stand free c =
    let is = with_torches.torch_at cave (map (cell_of cave.size) us) (all_put cave us stand) (cell_of cave.size t) c in
    true≢false (sym free.untaken ∙ ap (λ (class : Class). class.put) is)

-- one more torch that is free
pub push_stands : (cave : Cave) (us : List ToldTorch) (t : ToldTorch) → AllMayStand cave us
    → IsFree cave (classes_with cave.classes (map (cell_of cave.size) us)) t → AllMayStand cave (us ++ t ∷ [])
push_stands cave us t stand free = λ j less. elim (cases_lt j (length us)) [
  | inl early ↦ stands_so cave us (us ++ t ∷ []) j
      (λ k le. sym (get_or_append_left us (t ∷ []) (torch_at [] 0) k (omega (arith, le, early)))) (stand j early)
  | inr late ↦ (let last : length us ≡ j = omega (arith, less, late, length_push us t) in
      let here : t ≡ torch_at (us ++ t ∷ []) j = sym (get_or_push us t (torch_at [] 0) j last) in
      let here_so : StandsAs cave (us ++ t ∷ []) j t = (
        free.inside,
        free.legal,
        λ k early same.
            let inside : k < length us = omega (arith, early, last) in
            let is : cell_of cave.size (torch_at us k) ≡ cell_of cave.size t =
            ap (cell_of cave.size) (sym (get_or_append_left us (t ∷ []) (torch_at [] 0) k inside)) ∙ same in
            free_alone cave us t stand free (subst (λ (n : ℕ). Contains (map (cell_of cave.size) us) n) is
            (among cave us k inside)),
      ) in
      let so = subst (λ (u : ToldTorch). StandsAs cave (us ++ t ∷ []) j u) here here_so in
      record { inside = so.0; legal = so.1; alone = so.2 })
]

-- one more torch that was put
pub puts_more : (cave : Cave) (us : List ToldTorch) (t : ToldTorch) (old new : List Class) → ArePut cave us old
    → PutsTorch cave t old new → ArePut cave (us ++ t ∷ []) new
puts_more cave us t old new are puts = record {
  stand = push_stands cave us t are.stand (subst (λ (cs : List Class). IsFree cave cs t) are.put puts.free);
  put = puts.put ∙ ap (λ (cs : List Class). set cs (cell_of cave.size t) new_torch) are.put
      ∙ sym (classes_push cave.classes (map (cell_of cave.size) us) (cell_of cave.size t))
      ∙ ap (classes_with cave.classes) (sym (map_push (cell_of cave.size) us t));
}

-- torches that were put leave as many classes
pub put_length : (cave : Cave) (us : List ToldTorch) (classes : List Class) → IsSound cave → ArePut cave us classes
    → length classes ≡ cell_count cave.size
put_length cave us classes sound are =
    ap length are.put ∙ length_with cave.classes (map (cell_of cave.size) us) ∙ sound.whole

-- the first torch that isn't free may not go where it is
pub first_illegal : (cave : Cave) (torches : List ToldTorch) (i : ℕ) (old : List Class) → i < length torches
    → ArePut cave (take i torches) old → ¬ IsFree cave old (torch_at torches i)
    → NamesIllegal cave torches (illegal (torch_at torches i))
first_illegal cave torches i old inside are taken = record {
  index = i;
  first = record {
    is = (inside, λ m. taken (record { inside = m.inside; legal = m.legal; untaken = untaken m }));
    first = λ n bad. earlier n bad (cases_lt n i);
  };
  named = refl;
} where
  us : List ToldTorch
  us = take i torches

  counted : length us ≡ i
  counted = length-take-le i torches (omega (arith, inside))

  same : (k : ℕ) → k < i → torch_at us k ≡ torch_at torches k
  same k less = get_or-take i torches k (torch_at [] 0) less

  earlier : (n : ℕ) → StandsIllegally cave torches n → (n < i) ⊎ (i ≤ n) → i ≤ n
  earlier n bad (inr le) = le
  earlier n bad (inl lt) = absurd (bad.1 (stands_so cave us torches n (λ k le. same k (omega (arith, le, lt)))
      (are.stand n (omega (arith, lt, counted)))))

  untaken : MayStand cave torches i → IsTrue (get_or old (cell_of cave.size (torch_at torches i)) void).put
  untaken m =
      let cell = cell_of cave.size (torch_at torches i) in
      subst (λ (cs : List Class). IsTrue (get_or cs cell void).put) (sym are.put)
      (elim (with_torches.at_with cave (map (cell_of cave.size) us) (all_put cave us are.stand) cell) [
        | inl new ↦ (let w = which cave us cell new.0 in
            absurd (m.alone w.0 (omega (arith, w.1, counted))
            (ap (cell_of cave.size) (sym (same w.0 (omega (arith, w.1, counted)))) ∙ w.2)))
        | inr old ↦ subst (λ (class : Class). IsTrue class.put) (sym old) (legal_put cave torches i m)
      ])

-- ---- the cave with all torches

-- a new torch keeps what every class keeps
torch_sound : IsSoundClass new_torch
torch_sound = record {
  thin = omega arith;
  faint = omega arith;
  clear = λ e. refl;
  unlit = λ e. absurd (true≢false (sym e));
  roomy = λ e. refl;
  no_ground = λ e. refl;
  no_top = λ e. refl;
  no_side = λ e. refl;
}

-- what every world keeps
pub put_world : (cave : Cave) (us : List ToldTorch) → IsSound cave → IsTrue (is_small cave.size) → IsRule cave.rule
    → AllMayStand cave us → IsWorld (cave_with cave (map (cell_of cave.size) us))
put_world cave us sound small ruled stand = record {
  sound = record {
    whole = length_with cave.classes (map (cell_of cave.size) us) ∙ sound.whole;
    classed = λ cell. elim (with_torches.at_with cave (map (cell_of cave.size) us) (all_put cave us stand) cell) [
      | inl new ↦ subst IsSoundClass (sym new.1) torch_sound
      | inr old ↦ subst IsSoundClass (sym old) (sound.classed cell)
    ];
    needed = sound.needed;
  };
  small = small;
  ruled = ruled;
}

-- the cave of these parts is the one with the torches
pub put_cave : (w : Cave) (us : List ToldTorch) (size : Point) (classes : List Class) (rule : Rule) → size ≡ w.size
    → rule ≡ w.rule → ArePut w us classes → cave size classes rule ≡ cave_with w (map (cell_of w.size) us)
put_cave w us size classes rule same_size same_rule are =
    ap (λ (s : Point). cave s classes rule) same_size ∙ ap (λ (cs : List Class). cave w.size cs rule) are.put
    ∙ ap (λ (r : Rule). cave w.size (classes_with w.classes (map (cell_of w.size) us)) r) same_rule

-- ---- one answer

-- where the text wasn't read
pub unread_refused : (w : Cave) (bytes : List ℕ) (e : TorchesFault)
    → ((torches : List ToldTorch) → TellsTorches bytes torches → e ≡ faults.OutOfMemory)
    → ((due : TorchesFault) → IsNoPlan bytes due → (e ≡ due) ⊎ (e ≡ faults.OutOfMemory))
    → (due : TorchesFault) → IsPlanFault w bytes due → (e ≡ due) ⊎ (e ≡ faults.OutOfMemory)
unread_refused w bytes e only refused due (inl none) = refused due none
unread_refused w bytes e only refused due (inr (torches, told, names)) = inr (only torches told)

-- the first torch that may not stand is one
one_illegal : (w : Cave) (torches : List ToldTorch) (e due : TorchesFault) → NamesIllegal w torches e
    → NamesIllegal w torches due → e ≡ due
one_illegal w torches e due a b =
    let same : a.index ≡ b.index = omega (arith, a.first.first b.index b.first.is, b.first.first a.index a.first.is) in
    a.named ∙ ap (λ (n : ℕ). illegal (torch_at torches n)) same ∙ sym b.named

-- where a torch may not stand
pub illegal_refused : (w : Cave) (bytes : List ℕ) (torches : List ToldTorch) (e : TorchesFault)
    → TellsTorches bytes torches → NamesIllegal w torches e → (due : TorchesFault) → IsPlanFault w bytes due
    → (e ≡ due) ⊎ (e ≡ faults.OutOfMemory)
illegal_refused w bytes torches e told names due (inl none) = absurd (told_fits bytes torches due told none)
illegal_refused w bytes torches e told names due (inr (others, told_too, named)) = inl (one_illegal w torches e due
    names (subst (λ (ts : List ToldTorch). NamesIllegal w ts due) (one_plan bytes others torches told_too told) named))

-- where all may
pub all_clean : (w : Cave) (bytes : List ℕ) (torches : List ToldTorch) → TellsTorches bytes torches
    → AllMayStand w torches → (due : TorchesFault) → IsPlanFault w bytes due → ⊥
all_clean w bytes torches told stand due (inl none) = told_fits bytes torches due told none
all_clean w bytes torches told stand due (inr (others, told_too, names)) =
    let named = subst (λ (ts : List ToldTorch). NamesIllegal w ts due) (one_plan bytes others torches told_too told)
    names in
    named.first.is.1 (stand named.index named.first.is.0)
