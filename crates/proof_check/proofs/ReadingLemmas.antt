-- What was read of a certificate, piece after piece.
use Rattle.std.proofs.Common.{◌≡◌, ℕ, ◌+◌, ◌*◌, ◌^◌, ◌<◌, ◌≤◌, ◌⊎◌, inl, inr, List, ◌++◌, length, take, Option}
use Rattle.std.proofs.Common.{Some, None, sym, ap, subst, ◌∙◌, arith, append_assoc, length-append}
use Rattle.std.specs.Prelude.{IfSome}
use Rattle.std.specs.Io.KnownBytes.{Consumes, IsAtEnd, Keeps}
use Rattle.std.proofs.lemmas.List.{append-nil, length-take-le}
use Rattle.cave_model.specs.Cave.{Cave}
use Rattle.proof_check.specs.Reading.{Gives, GivesAtMost, GivesNone}
use Rattle.proof_check.specs.Tried.{Tried, HasRoom, HearsAll, IsTheVerdict, Concludes}
use Rattle.proof_check.specs.declared.fault.CheckFault.{CheckFault}
use Rattle.proof_check.specs.declared.fault.CheckFault.TheVariants as faults
use Rattle.proof_check.specs.declared.trial.Trial.{Trial}
use Rattle.proof_check.specs.declared.verdict.Verdict.{Verdict}

-- bytes consumed one after the other are consumed together
consumes_more : (old now new : Option (List ℕ)) (a b : List ℕ) → Consumes old now a → Consumes now new b
    → Consumes old new (a ++ b)
consumes_more None now new a b p q = tt
consumes_more (Some xs) None new a b p q = absurd p
consumes_more (Some xs) (Some ys) None a b p q = absurd q
consumes_more (Some xs) (Some ys) (Some zs) a b p q = p ∙ ap (λ (l : List ℕ). a ++ l) q ∙ sym (append_assoc a b zs)

-- a reader that is kept changes nothing of what was consumed
consumes_kept : (old now new : Option (List ℕ)) (a : List ℕ) → Consumes old now a → Keeps now new → Consumes old new a
consumes_kept None now new a p q = tt
consumes_kept (Some xs) None new a p q = absurd p
consumes_kept (Some xs) (Some ys) None a p q = absurd q
consumes_kept (Some xs) (Some ys) (Some zs) a p q = p ∙ ap (λ (l : List ℕ). a ++ l) (sym q)

-- where more than a limit was consumed, the known bytes are longer than it
known_longer : (old new : Option (List ℕ)) (a : List ℕ) (limit : ℕ) → Consumes old new a → limit < length a
    → IfSome old (λ b. limit < length b)
known_longer None new a limit p h = tt
known_longer (Some xs) None a limit p h = absurd p
known_longer (Some xs) (Some ys) a limit p h = omega (arith, ap length p, length-append a ys)

-- what holds of all bytes consumed up to the end holds of the known bytes
known_all : (old new : Option (List ℕ)) (a : List ℕ) (P : List ℕ → Type 0) → Consumes old new a → IsAtEnd new → P a
    → IfSome old P
known_all None new a P p e h = tt
known_all (Some xs) None a P p e h = absurd p
known_all (Some xs) (Some ys) a P p e h = subst P (sym (p ∙ ap (λ (l : List ℕ). a ++ l) e ∙ append-nil a)) h

-- ---- bytes that were read, and the room that is left

pub record IsRead (old now : Option (List ℕ)) (limit room : ℕ) (bytes : List ℕ) : Type 0 where
  pub taken : Consumes old now bytes
  pub fits : length bytes + room ≡ limit

-- a piece more is read, and the room shrinks by its length
pub read_more : (old now new : Option (List ℕ)) (limit room left count : ℕ) (bytes buffer : List ℕ)
    → IsRead old now limit room bytes → Gives now new room buffer count → left + count ≡ room
    → IsRead old new limit left (bytes ++ take count buffer)
read_more old now new limit room left count bytes buffer r g e = record {
  taken = consumes_more old now new bytes (take count buffer) r.taken g.given;
  fits = omega (arith, r.fits, g.within, length-append bytes (take count buffer), length-take-le count buffer g.within);
}

-- a piece that doesn't fit shows that the bytes are longer than the limit
pub read_too_long : (old now new : Option (List ℕ)) (limit room : ℕ) (bytes : List ℕ) (e : CheckFault)
    → IsRead old now limit room bytes → GivesNone now new room e → e ≡ faults.TooLong
    → IfSome old (λ b. limit < length b)
read_too_long old now new limit room bytes e r (inl failed) is = (let f = failed.0 in absurd cc)
read_too_long old now new limit room bytes e r (inr (long, (front, more, given))) is =
    known_longer old new (bytes ++ front) limit (consumes_more old now new bytes front r.taken given)
    (omega (arith, r.fits, length-append bytes front))

-- where a read fails, at most the limit was consumed
pub read_failed : (old now new : Option (List ℕ)) (limit room : ℕ) (bytes : List ℕ) (e : CheckFault)
    → IsRead old now limit room bytes → GivesNone now new room e → e ≡ faults.ReadFailed → GivesAtMost limit old new
read_failed old now new limit room bytes e r (inl failed) is =
    (bytes, omega (arith, r.fits), consumes_kept old now new bytes r.taken failed.1)
read_failed old now new limit room bytes e r (inr long) is = (let f = long.0 in absurd cc)

-- where no piece comes, a read failed or the bytes are too long
pub none_kinds : (old new : Option (List ℕ)) (room : ℕ) (e : CheckFault) → GivesNone old new room e
    → (e ≡ faults.ReadFailed) ⊎ (e ≡ faults.TooLong)
none_kinds old new room e (inl failed) = inl failed.0
none_kinds old new room e (inr long) = inr long.0

-- at the end
pub read_whole : (old now new : Option (List ℕ)) (limit room count : ℕ) (bytes buffer : List ℕ) (P : List ℕ → Type 0)
    → IsRead old now limit room bytes → Gives now new room buffer count → count ≡ 0 → P bytes → IfSome old P
read_whole old now new limit room count bytes buffer P r g none h =
    let more = consumes_more old now new bytes (take count buffer) r.taken g.given in
    let e : bytes ++ take count buffer ≡ bytes = ap (λ (n : ℕ). bytes ++ take n buffer) none ∙ append-nil bytes in
    known_all old new (bytes ++ take count buffer) P more (g.end none) (subst P (sym e) h)

-- at the end the known bytes keep within the limit
pub read_within : (old now new : Option (List ℕ)) (limit room count : ℕ) (bytes buffer : List ℕ)
    → IsRead old now limit room bytes → Gives now new room buffer count → count ≡ 0 → IfSome old (λ b. length b ≤ limit)
read_within old now new limit room count bytes buffer r g none = read_whole old now new limit room count bytes buffer
    (λ b. length b ≤ limit) r g none (omega (arith, r.fits))

-- ---- with a trial that hears them

pub record IsReadOf (cave : Cave) (old now : Option (List ℕ)) (limit room calls : ℕ) (trial : Trial) : Type 0 where
  pub bytes : List ℕ
  pub read : IsRead old now limit room bytes
  pub few : length bytes ≤ 8192 * calls
  pub tried : Tried cave bytes trial

-- a piece more is read, and the trial has heard it
pub of_more : (cave : Cave) (old now new : Option (List ℕ)) (limit room left calls count : ℕ) (buffer piece : List ℕ)
    (trial next : Trial) → IsReadOf cave old now limit room calls trial → Gives now new room buffer count
    → length buffer ≡ 8192 → left + count ≡ room → piece ≡ take count buffer → HearsAll cave piece trial next
    → IsReadOf cave old new limit left (calls + 1) next
of_more cave old now new limit room left calls count buffer piece trial next r g wide e same hears = record {
  bytes = r.bytes ++ take count buffer;
  read = read_more old now new limit room left count r.bytes buffer r.read g e;
  few = omega (arith, r.few, g.within, length-append r.bytes (take count buffer), length-take-le count buffer g.within);
  tried = subst (λ (p : List ℕ). Tried cave (r.bytes ++ p) next) same (hears.each r.bytes r.tried);
}

-- and room for each piece that comes
pub of_piece : (cave : Cave) (old now : Option (List ℕ)) (limit room calls count : ℕ) (buffer piece : List ℕ)
    (trial : Trial) → IsReadOf cave old now limit room calls trial → limit < 2 ^ 64 → count ≤ room
    → count ≤ length buffer → piece ≡ take count buffer → HasRoom cave trial (length piece)
of_piece cave old now limit room calls count buffer piece trial r h le within same = record {
  bytes = r.bytes;
  tried = r.tried;
  room = omega (arith, r.read.fits, ap length same, length-take-le count buffer within);
}

-- at the end the trial's verdict is that of the known bytes
pub of_verdict : (cave : Cave) (old now new : Option (List ℕ)) (limit room calls count : ℕ) (buffer : List ℕ)
    (trial : Trial) (verdict : Verdict) → IsReadOf cave old now limit room calls trial → Gives now new room buffer count
    → count ≡ 0 → Concludes cave trial verdict → IfSome old (λ b. IsTheVerdict cave b verdict)
of_verdict cave old now new limit room calls count buffer trial verdict r g none c =
    read_whole old now new limit room count r.bytes buffer (λ b. IsTheVerdict cave b verdict) r.read g none
    (c.each r.bytes r.tried)
