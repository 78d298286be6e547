-- Lists and compounds: what is read is spelled so, and what is spelled so is read.
use Rattle.std.proofs.Common.{◌≡◌, ℕ, zero, suc, ◌+◌, ◌-◌, ◌<◌, ◌≤◌, ℤ, cond, eqb, List, [], ◌∷◌, ◌++◌, length}
use Rattle.std.proofs.Common.{Option, Some, None, Ok, Err, refl, ap, subst, ◌∙◌, append_assoc, arith, inl, inr}
use Rattle.std.proofs.lemmas.Bool.{eqb-true}
use Rattle.std.proofs.lemmas.List.{length-append}
use Rattle.nbt_core.specs.declared.fault.NbtFault.{NbtFault}
use Rattle.nbt_core.specs.declared.fault.NbtFault.TheVariants.{BadLength}
use Rattle.nbt_core.specs.declared.kind.Kind.{Kind}
use Rattle.nbt_core.specs.declared.kind.Kind.TheVariants as kinds
use Rattle.nbt_core.specs.declared.kind.LeafKind.{LeafKind}
use Rattle.nbt_core.specs.Value.{Nbt, leaf, list, compound, Items, no_items, item, Members, no_members, member}
use Rattle.nbt_core.specs.Value.{count_of, natural}
use Rattle.nbt_core.specs.Reading.{Reads, ◌>>=◌, mapped, text_at, kind_at, count_at}
use Rattle.nbt_core.specs.LeafReading.{leaf_at}
use Rattle.nbt_core.specs.TreeReading.{by_kind, items_at, members_at, list_at, compound_at, value_at}
use Rattle.nbt_core.specs.Ids.{id_of, id_of_items}
use Rattle.nbt_core.specs.Spelling.{◌▷◌, IsByte, IsInt, IsText, SpellsLeaf, Spells, AreItems, AreMembers}
use Rattle.nbt_core.proofs.Results.{bind_ok, mapped_ok, chosen, gave, ok_is, err_never}
use Rattle.nbt_core.proofs.Fronts.{Takes, takes_then, takes_none, takes_split, takes_as, takes_mapped, regroup}
use Rattle.nbt_core.proofs.Pieces.{count_takes, text_takes, kind_takes, count_again, text_again, kind_again}
use Rattle.nbt_core.proofs.LeafLaws.{leaf_takes, leaf_again}

-- ---- what is read is spelled so

-- each value that `inner` reads is spelled so, at this depth
abbrev pub Spelled : (Kind → List ℕ → Reads Nbt) → ℕ → Type 0
Spelled inner depth = (kind : Kind) (bytes : List ℕ) (x : Nbt × List ℕ) → inner kind bytes ≡ Ok x
    → Takes (Spells kind x.0 depth) bytes x.1

items_take : (inner : Kind → List ℕ → Reads Nbt) (depth : ℕ) → Spelled inner depth
    → (kind : Kind) (n : ℕ) (bytes : List ℕ) (x : Items × List ℕ) → items_at (inner kind) n bytes ≡ Ok x
    → Takes (AreItems (Some kind) x.0 depth) bytes x.1 × (n ≡ count_of x.0)
unfolding items_at
items_take inner depth ih kind zero bytes x e =
    subst (λ (y : Items × List ℕ). Takes (AreItems (Some kind) y.0 depth) bytes y.1 × (0 ≡ count_of y.0))
    (ok_is _ x e) (takes_none bytes, refl)
items_take inner depth ih kind (suc n) bytes x e =
    let a = bind_ok (inner kind bytes) (λ first. mapped (item first.0) (items_at (inner kind) n first.1)) x e in
    let b = mapped_ok (item a.0.0) (items_at (inner kind) n a.0.1) x a.2 in
    let others = items_take inner depth ih kind n a.0.1 b.0 b.1 in
    subst (λ (y : Items × List ℕ). Takes (AreItems (Some kind) y.0 depth) bytes y.1 × (suc n ≡ count_of y.0)) b.2
    (takes_then (ih kind bytes a.0 a.1) others.0, ap suc others.1)

list_takes : (end : ℕ) (inner : Kind → List ℕ → Reads Nbt) (depth : ℕ) → depth ≤ 512 → Spelled inner (suc depth)
    → (bytes : List ℕ) (x : Nbt × List ℕ) → list_at end inner bytes ≡ Ok x
    → Takes (Spells kinds.List x.0 depth) bytes x.1
unfolding list_at
list_takes end inner depth shallow ih bytes x e =
    let a = bind_ok (kind_at end bytes) _ x e in
    let b = bind_ok (count_at end a.0.1) _ x a.2 in
    let count = count_takes end a.0.1 b.0 b.1 in
    goes_on a.0.0 (kind_takes end bytes a.0 a.1) b.0 count b.2
  where
    goes_on : (of : Option Kind) {left : List ℕ} → Takes (IsByte (id_of_items of)) bytes left → (m : ℕ × List ℕ)
        → (n : ℤ) × (natural n ≡ m.0) × Takes (IsInt n) left m.1
        → by_kind of (cond (eqb m.0 0) (Ok (list no_items, m.1)) (Err (BadLength (end - length left))))
        (λ k. mapped list (items_at (inner k) m.0 m.1)) ≡ Ok x
        → Takes (Spells kinds.List x.0 depth) bytes x.1
    goes_on None first m count e =
        elim (chosen (eqb m.0 0) _ _ _ e) [
          | inl p ↦ subst (λ (y : Nbt × List ℕ). Takes (Spells kinds.List y.0 depth) bytes y.1) (ok_is _ x p.1)
              (takes_as (takes_then first (takes_then count.2 (takes_none m.1)))
              (λ front is. (refl, shallow, None, count.0, count.1 ∙ eqb-true _ _ p.0, is)))
          | inr p ↦ absurd (err_never x _ p.1)
        ]
    goes_on (Some kind) first m count e =
        let c = mapped_ok list (items_at (inner kind) m.0 m.1) x e in
        let ts = items_take inner (suc depth) ih kind m.0 m.1 c.0 c.1 in
        subst (λ (y : Nbt × List ℕ). Takes (Spells kinds.List y.0 depth) bytes y.1) c.2
        (takes_as (takes_then first (takes_then count.2 ts.0))
        (λ front is. (refl, shallow, Some kind, count.0, count.1 ∙ ts.1, is)))

member_takes : (depth : ℕ) (kind : Kind) (name : List ℕ) (t : Nbt) (ms : Members) {bytes b1 b2 b3 b4 : List ℕ}
    → Takes (IsByte (id_of kind)) bytes b1 → Takes (IsText name) b1 b2 → Takes (Spells kind t depth) b2 b3
    → Takes (AreMembers ms depth ▷ IsByte 0) b3 b4 → Takes (AreMembers (member name t ms) depth ▷ IsByte 0) bytes b4
member_takes depth kind called t ms first name payload others =
    let o = takes_split others in
    takes_then (takes_as (takes_then first (takes_then name (takes_then payload o.1))) (λ front is. (kind, is))) o.2

members_take : (end : ℕ) (inner : Kind → List ℕ → Reads Nbt) (depth : ℕ) → Spelled inner depth
    → (fuel : ℕ) (bytes : List ℕ) (x : Members × List ℕ) → members_at end inner fuel bytes ≡ Ok x
    → Takes (AreMembers x.0 depth ▷ IsByte 0) bytes x.1
unfolding members_at
members_take end inner depth ih zero bytes x e = absurd (err_never x _ e)
members_take end inner depth ih (suc fuel) bytes x e =
    let a = bind_ok (kind_at end bytes) _ x e in
    goes_on a.0.0 (kind_takes end bytes a.0 a.1) (λ b y h. members_take end inner depth ih fuel b y h) a.2
  where
    goes_on : (of : Option Kind) {left : List ℕ} → Takes (IsByte (id_of_items of)) bytes left
        → ((b : List ℕ) (y : Members × List ℕ) → members_at end inner fuel b ≡ Ok y
        → Takes (AreMembers y.0 depth ▷ IsByte 0) b y.1)
        → by_kind of (Ok (no_members, left)) (λ k. text_at end left >>= λ name. inner k name.1 >>=
        λ first. mapped (member name.0 first.0) (members_at end inner fuel first.1)) ≡ Ok x
        → Takes (AreMembers x.0 depth ▷ IsByte 0) bytes x.1
    goes_on None first more e =
        subst (λ (y : Members × List ℕ). Takes (AreMembers y.0 depth ▷ IsByte 0) bytes y.1) (ok_is _ x e)
        (takes_then (takes_none bytes) first)
    goes_on (Some kind) {left} first more e =
        let b = bind_ok (text_at end left) _ x e in
        let c = bind_ok (inner kind b.0.1) _ x b.2 in
        let d = mapped_ok (member b.0.0 c.0.0) (members_at end inner fuel c.0.1) x c.2 in
        let name = text_takes end left b.0 b.1 in
        let payload = ih kind b.0.1 c.0 c.1 in
        let others = more c.0.1 d.0 d.1 in
        subst (λ (y : Members × List ℕ). Takes (AreMembers y.0 depth ▷ IsByte 0) bytes y.1)
        {x = (member b.0.0 c.0.0 d.0.0, d.0.1)} d.2
        (member_takes depth kind b.0.0 c.0.0 d.0.0 first name payload others)

compound_takes : (end : ℕ) (inner : Kind → List ℕ → Reads Nbt) (depth : ℕ) → depth ≤ 512 → Spelled inner (suc depth)
    → (bytes : List ℕ) (x : Nbt × List ℕ) → compound_at end inner bytes ≡ Ok x
    → Takes (Spells kinds.Compound x.0 depth) bytes x.1
unfolding compound_at
compound_takes end inner depth shallow ih bytes =
    takes_mapped compound (λ ms. AreMembers ms (suc depth) ▷ IsByte 0) (λ t. Spells kinds.Compound t depth) bytes
    (members_at end inner (length bytes) bytes) (members_take end inner (suc depth) ih (length bytes) bytes)
    (λ ms front is. (refl, shallow, is))

value_leaf_takes : (end depth : ℕ) (kind : LeafKind) (bytes : List ℕ) (x : Nbt × List ℕ)
    → mapped leaf (leaf_at end kind bytes) ≡ Ok x → Takes (Spells (kinds.Leaf kind) x.0 depth) bytes x.1
value_leaf_takes end depth kind bytes =
    takes_mapped leaf (SpellsLeaf kind) (λ t. Spells (kinds.Leaf kind) t depth) bytes (leaf_at end kind bytes)
    (leaf_takes end bytes kind) (λ v front is. (kind, refl, is))

pub value_takes : (end room depth : ℕ) → depth + room ≡ 513 → Spelled (value_at end room) depth
unfolding value_at
value_takes end zero depth deep (kinds.Leaf kind) bytes x e = value_leaf_takes end depth kind bytes x e
value_takes end zero depth deep kinds.List bytes x e = absurd (err_never x _ e)
value_takes end zero depth deep kinds.Compound bytes x e = absurd (err_never x _ e)
value_takes end (suc room) depth deep (kinds.Leaf kind) bytes x e = value_leaf_takes end depth kind bytes x e
value_takes end (suc room) depth deep kinds.List bytes x e =
    list_takes end (value_at end room) depth (omega arith) (value_takes end room (suc depth) (omega arith)) bytes x e
value_takes end (suc room) depth deep kinds.Compound bytes x e =
    compound_takes end (value_at end room) depth (omega arith)
    (value_takes end room (suc depth) (omega arith)) bytes x e

-- ---- what is spelled so is read

-- each value that is spelled so at this depth is read by `inner`
abbrev pub Reread : (Kind → List ℕ → Reads Nbt) → ℕ → Type 0
Reread inner depth = (kind : Kind) (t : Nbt) (front rest : List ℕ)
    → Spells kind t depth front → inner kind (front ++ rest) ≡ Ok (t, rest)

items_again : (inner : Kind → List ℕ → Reads Nbt) (depth : ℕ) → Reread inner depth
    → (kind : Kind) (ts : Items) (front rest : List ℕ) → AreItems (Some kind) ts depth front
    → items_at (inner kind) (count_of ts) (front ++ rest) ≡ Ok (ts, rest)
unfolding items_at
items_again inner depth ih kind no_items front rest is = ap (λ (x : List ℕ). gave no_items (x ++ rest)) is
items_again inner depth ih kind (item t ts) front rest is =
    ap (items_at (inner kind) (suc (count_of ts))) (regroup rest is)
    ∙ rw (
      ih kind t is.front (is.rest ++ rest) is.first,
      items_again inner depth ih kind ts is.rest rest is.second,
    ) refl

list_rest : (inner : Kind → List ℕ → Reads Nbt) (depth : ℕ) → Reread inner depth
    → (of : Option Kind) (ts : Items) (body rest : List ℕ) (d : NbtFault) → AreItems of ts depth body
    → by_kind of (cond (eqb (count_of ts) 0) (gave (list no_items) (body ++ rest)) (Err d))
    (λ k. mapped list (items_at (inner k) (count_of ts) (body ++ rest))) ≡ gave (list ts) rest
list_rest inner depth ih None no_items body rest d is = ap (λ (x : List ℕ). gave (list no_items) (x ++ rest)) is
list_rest inner depth ih None (item t ts) body rest d is = absurd is
list_rest inner depth ih (Some kind) ts body rest d is = ap (mapped list)
    (items_again inner depth ih kind ts body rest is)

list_again : (end : ℕ) (inner : Kind → List ℕ → Reads Nbt) (depth : ℕ) → Reread inner depth
    → (of : Option Kind) (n : ℤ) (ts : Items) (front rest : List ℕ) → natural n ≡ count_of ts
    → (IsByte (id_of_items of) ▷ IsInt n ▷ AreItems of ts depth) front → list_at end inner (front ++ rest) ≡ Ok
    (list ts, rest)
unfolding list_at
list_again end inner depth ih of n ts front rest count is =
    let after = is.second in
    let whole : front ++ rest ≡ is.front ++ (after.front ++ (after.rest ++ rest)) = regroup rest is
    ∙ ap (λ (x : List ℕ). is.front ++ x) (regroup rest after) in
    ap (list_at end inner) whole
    ∙ rw (
      kind_again end of is.front (after.front ++ (after.rest ++ rest)) is.first,
      count_again end n after.front (after.rest ++ rest) after.first,
      count,
    )
    (list_rest inner depth ih of ts after.rest rest _ after.second)

-- the parts of a member's bytes, one after another
regroup_member : (front f a b c d e g r rest : List ℕ) → front ≡ f ++ r → f ≡ a ++ b → b ≡ c ++ d → d ≡ e ++ g
    → front ++ rest ≡ a ++ (c ++ (e ++ ((g ++ r) ++ rest)))
regroup_member front f a b c d e g r rest p1 p2 p3 p4 = rw (p1, p2, p3, p4) (simp append_assoc)

length_member : (front f a b c d e g r : List ℕ) (id fuel : ℕ) → front ≡ f ++ r → f ≡ a ++ b → b ≡ c ++ d → d ≡ e ++ g
    → a ≡ id ∷ [] → length front ≤ fuel → length (g ++ r) < fuel
length_member front f a b c d e g r id fuel p1 p2 p3 p4 one le =
    omega (
      arith,
      ap length p1,
      ap length p2,
      ap length p3,
      ap length p4,
      ap length one,
      length-append f r,
      length-append a b,
      length-append c d,
      length-append e g,
      length-append g r,
    )

members_again : (end : ℕ) (inner : Kind → List ℕ → Reads Nbt) (depth : ℕ) → Reread inner depth
    → (ms : Members) (fuel : ℕ) (front rest : List ℕ) → length front ≤ fuel
    → (AreMembers ms depth ▷ IsByte 0) front → members_at end inner fuel (front ++ rest) ≡ Ok (ms, rest)
unfolding members_at
members_again end inner depth ih no_members zero front rest enough is =
    absurd (omega (arith, ap length is.parts, length-append is.front is.rest, ap length is.second))
members_again end inner depth ih no_members (suc fuel) front rest enough is =
    let byte : IsByte 0 front = is.parts ∙ ap (λ (x : List ℕ). x ++ is.rest) is.first ∙ is.second in
    rw (kind_again end None front rest byte) refl
members_again end inner depth ih (member name t ms) fuel front rest enough is =
    let m = is.first.1 in
    let m1 = m.second in
    let m2 = m1.second in
    let left : List ℕ = (m2.rest ++ is.rest) ++ rest in
    let others : (AreMembers ms depth ▷ IsByte 0) (m2.rest ++ is.rest) =
    record { front = m2.rest; rest = is.rest; parts = refl; first = m2.second; second = is.second } in
    let room : length (m2.rest ++ is.rest) < fuel = length_member
    front is.front m.front m.rest m1.front m1.rest m2.front m2.rest is.rest (id_of is.first.0) fuel is.parts
    m.parts m1.parts m2.parts m.first enough in
    let whole : front ++ rest ≡ m.front ++ (m1.front ++ (m2.front ++ left)) =
    regroup_member front is.front m.front m.rest m1.front m1.rest m2.front m2.rest is.rest rest is.parts m.parts
    m1.parts m2.parts in
    let more : (less : ℕ) → fuel ≡ suc less → members_at end inner less left ≡ Ok (ms, rest) =
    λ less f. members_again end inner depth ih ms less (m2.rest ++ is.rest) rest (omega arith) others in
    ap (members_at end inner fuel) whole
    ∙ one_member fuel room is.first.0 _ _ _ _ (kind_again end
    (Some is.first.0) m.front (m1.front ++ (m2.front ++ left)) m.first)
    (text_again end name m1.front (m2.front ++ left) m1.first) (ih is.first.0 t m2.front left m2.first) more
  where
    one_member : (fuel : ℕ) {n : ℕ} → n < fuel → (kind : Kind) (b0 b1 b2 b3 : List ℕ)
        → kind_at end b0 ≡ Ok (Some kind, b1) → text_at end b1 ≡ Ok (name, b2) → inner kind b2 ≡ Ok (t, b3)
        → ((less : ℕ) → fuel ≡ suc less → members_at end inner less b3 ≡ Ok (ms, rest))
        → members_at end inner fuel b0 ≡ Ok (member name t ms, rest)
    one_member zero lt kind b0 b1 b2 b3 h1 h2 h3 h4 = absurd (omega arith)
    one_member (suc less) lt kind b0 b1 b2 b3 h1 h2 h3 h4 = rw (h1, h2, h3, h4 less refl) refl

compound_again : (end : ℕ) (inner : Kind → List ℕ → Reads Nbt) (depth : ℕ) → Reread inner depth
    → (ms : Members) (front rest : List ℕ)
    → (AreMembers ms depth ▷ IsByte 0) front → compound_at end inner (front ++ rest) ≡ Ok (compound ms, rest)
unfolding compound_at
compound_again end inner depth ih ms front rest is =
    ap (mapped compound) (members_again end inner depth ih ms
    (length (front ++ rest)) front rest (omega (arith, length-append front rest)) is)

pub value_again : (end room depth : ℕ) → depth + room ≡ 513 → Reread (value_at end room) depth
unfolding value_at
value_again end zero depth deep kind (leaf v) front rest is =
    rw is.1 (ap (mapped leaf) (leaf_again end is.0 front rest v is.2))
value_again end zero depth deep kind (list ts) front rest is = absurd (omega (arith, is.1))
value_again end zero depth deep kind (compound ms) front rest is = absurd (omega (arith, is.1))
value_again end (suc room) depth deep kind (leaf v) front rest is =
    rw is.1 (ap (mapped leaf) (leaf_again end is.0 front rest v is.2))
value_again end (suc room) depth deep kind (list ts) front rest is =
    rw is.0 (list_again end (value_at end room) (suc depth) (value_again end room (suc depth) (omega arith)) is.2 is.3
    ts front rest is.4 is.5)
value_again end (suc room) depth deep kind (compound ms) front rest is =
    rw is.0 (compound_again end (value_at end room) (suc depth)
    (value_again end room (suc depth) (omega arith)) ms front rest is.2)
