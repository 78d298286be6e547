-- The members of a compound from the last one on: their names, and the last texts.
use Rattle.std.proofs.Common.{◌≡◌, ℕ, ◌+◌, ◌-◌, ◌<◌, ◌≤◌, Bool, true, false, not, cond, ◌||◌, List, ◌∷◌, length}
use Rattle.std.proofs.Common.{get_or, drop, Ordering, refl, sym, ap, subst, ◌∙◌, arith}
use Rattle.std.specs.Prelude.{if◌then◌else◌, reverse, bytes_eq}
use Rattle.std.specs.Borrow.{Bor}
use Rattle.std.specs.Bool.{OnFalse}
use Rattle.std.specs.List.{list_any}
use Rattle.std.specs.Ordering.{is_eq, nat_cmp}
use Rattle.std.specs.Cmp.Lexicographic.{slice_cmp}
use Rattle.std.specs.BTreeSet.{BTreeSet, contains}
use Rattle.std.proofs.lemmas.List.{drop_more}
use Rattle.std.proofs.lemmas.Map.Text.{is_eq-slice_cmp}
use Rattle.std.proofs.lemmas.Slice.Eq.{bytes_eq-Decides}
use Rattle.nbt_core.specs.Value.{Nbt, Members, members_of}
use Rattle.scan_core.specs.Named.{named_values}
use Rattle.scan_core.specs.Properties.{has_name, with_text, last_texts}

-- some key has these bytes
abbrev pub has_key : List ℕ → BTreeSet (Bor (List ℕ)) → Bool
has_key name seen = list_any (λ (k : Bor (List ℕ)). is_eq (slice_cmp nat_cmp name k.now)) seen.keys

-- the texts of these members, the last one first, and their names
pub record AreSeen (members : List (Bor (List ℕ) × Nbt)) (props : List (List ℕ
    × List ℕ)) (seen : BTreeSet (Bor (List ℕ))) : Type 0 where
  pub texts : reverse props ≡ last_texts (members_of (named_values members))
  pub names : (name : List ℕ) → has_key name seen ≡ has_name name (members_of (named_values members))

-- a key as it is looked up by
abbrev query : List ℕ → Bor (List ℕ)
query name = record { ref_ptr = (0, 0); now = name }

abbrev by_bytes : Bor (List ℕ) → Bor (List ℕ) → Ordering
by_bytes x y = slice_cmp nat_cmp x.now y.now

-- bytes that are judged equal are
same_bytes : (xs ys : List ℕ) → bytes_eq xs ys ≡ true → xs ≡ ys
same_bytes xs ys e = (bytes_eq-Decides xs ys).0 e

-- the members from this one on
pub from_here : (members : List (Bor (List ℕ) × Nbt)) (index : ℕ) (found : Bor (List ℕ) × Nbt) → 0 < index
    → index ≤ length members → found ≡ get_or members (index - 1) found
    → drop (index - 1) members ≡ found ∷ drop index members
from_here members index found h k e =
    let next : index - 1 + 1 ≡ index = omega arith in
    drop_more members (index - 1) found (omega arith)
    ∙ ap (λ (m : Bor (List ℕ) × Nbt). m ∷ drop (index - 1 + 1) members) (sym e)
    ∙ ap (λ (n : ℕ). found ∷ drop n members) next

-- a name that was seen adds nothing
names_again : (key name : List ℕ) (ms : Members) → has_name key ms ≡ true
    → has_name name ms ≡ (bytes_eq key name || has_name name ms)
names_again key name ms e = by_case (bytes_eq key name)
    (λ p. subst (λ (n : List ℕ). has_name n ms ≡ true) (same_bytes key name p) e)
  where
    by_case : (b : Bool) → (b ≡ true → has_name name ms ≡ true) → has_name name ms ≡ (b || has_name name ms)
    by_case true p = p refl
    by_case false p = refl

-- a name that was seen before, from behind, adds no property
seen_again : (members rest : List (Bor (List ℕ) × Nbt)) (found : Bor (List ℕ)
    × Nbt) (props : List (List ℕ × List ℕ)) (seen after : BTreeSet (Bor (List ℕ))) → members ≡ found ∷ rest
    → AreSeen rest props seen → has_key found.0.now seen ≡ true → after.keys ≡ seen.keys
    → AreSeen members props after
seen_again members rest found props seen after e s h same =
    let ms = members_of (named_values rest) in
    let known : has_name found.0.now ms ≡ true = sym (s.names found.0.now) ∙ h in
    subst (λ (all : List (Bor (List ℕ) × Nbt)). AreSeen all props after) (sym e) (record {
      texts = s.texts ∙ sym (ap (λ (b : Bool). if b then last_texts ms
          else with_text found.0.now found.1 (last_texts ms)) known);
      names = λ name.
          ap (λ (keys : List (Bor (List ℕ))). list_any (λ (k : Bor (List ℕ)). is_eq (slice_cmp nat_cmp name k.now))
          keys) same
          ∙ s.names name
          ∙ names_again found.0.now name ms known;
    })

-- a test by the first of two tests
either : (a b : Bool) → (cond a true b) ≡ (a || b)
either true b = refl
either false b = refl

-- a name that wasn't seen before adds its property, where it has a text
seen_first : (members rest : List (Bor (List ℕ) × Nbt)) (found : Bor (List ℕ)
    × Nbt) (props more : List (List ℕ × List ℕ)) (seen after : BTreeSet (Bor (List ℕ))) → members ≡ found ∷ rest
    → AreSeen rest props seen → has_key found.0.now seen ≡ false
    → reverse more ≡ with_text found.0.now found.1 (reverse props)
    → ((q : Bor (List ℕ))
    → contains by_bytes after q ≡ cond (is_eq (slice_cmp nat_cmp found.0.now q.now)) true
    (contains by_bytes seen q)) → AreSeen members more after
seen_first members rest found props more seen after e s h texts updates =
    let ms = members_of (named_values rest) in
    let known : has_name found.0.now ms ≡ false = sym (s.names found.0.now) ∙ h in
    subst (λ (all : List (Bor (List ℕ) × Nbt)). AreSeen all more after) (sym e) (record {
      texts = texts
          ∙ ap (with_text found.0.now found.1) s.texts
          ∙ sym (ap (λ (b : Bool). if b then last_texts ms else with_text found.0.now found.1 (last_texts ms)) known);
      names = λ name.
          updates (query name)
          ∙ ap (λ (b : Bool). cond b true (contains by_bytes seen (query name))) (is_eq-slice_cmp found.0.now name)
          ∙ either (bytes_eq found.0.now name) (has_key name seen)
          ∙ ap (λ (b : Bool). bytes_eq found.0.now name || b) (s.names name);
    })

-- a name that wasn't added was there
not_new : (added found : Bool) → added ≡ not found → added ≡ false → found ≡ true
not_new added true e f = refl
not_new added false e f = absurd (cc)

-- a name that was added wasn't there
is_new : (added found : Bool) → added ≡ not found → added ≡ true → found ≡ false
is_new added true e f = absurd (cc)
is_new added false e f = refl

-- a step of the loop at a name that was there, as the set tells it
pub step_again : (members rest : List (Bor (List ℕ) × Nbt)) (found : Bor (List ℕ)
    × Nbt) (props : List (List ℕ × List ℕ)) (seen after : BTreeSet (Bor (List ℕ))) (key : List ℕ) (added : Bool)
    → members ≡ found ∷ rest → AreSeen rest props seen → key ≡ found.0.now → added ≡ not (has_key key seen)
    → added ≡ false → OnFalse added (after.keys ≡ seen.keys) → AreSeen members props after
step_again members rest found props seen after key added e s k new h same =
    seen_again members rest found props seen after e s
    (ap (λ (name : List ℕ). has_key name seen) (sym k) ∙ not_new added (has_key key seen) new h)
    (subst (λ (b : Bool). OnFalse b (after.keys ≡ seen.keys)) h same)

-- a step of the loop at a new name
pub step_first : (members rest : List (Bor (List ℕ) × Nbt)) (found : Bor (List ℕ)
    × Nbt) (props more : List (List ℕ
    × List ℕ)) (seen after : BTreeSet (Bor (List ℕ))) (key : List ℕ) (added : Bool) → members ≡ found ∷ rest
    → AreSeen rest props seen → key ≡ found.0.now → added ≡ not (has_key key seen) → added ≡ true
    → reverse more ≡ with_text found.0.now found.1 (reverse props)
    → ((q : Bor (List ℕ))
    → contains by_bytes after q ≡ cond (is_eq (slice_cmp nat_cmp key q.now)) true
    (contains by_bytes seen q)) → AreSeen members more after
step_first members rest found props more seen after key added e s k new h texts updates =
    seen_first members rest found props more seen after e s
    (ap (λ (name : List ℕ). has_key name seen) (sym k) ∙ is_new added (has_key key seen) new h)
    texts
    (λ q. updates q ∙ ap (λ (name : List ℕ). cond (is_eq (slice_cmp nat_cmp name q.now)) true
    (contains by_bytes seen q)) k)
