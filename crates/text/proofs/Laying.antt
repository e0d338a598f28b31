-- Laws of printing into a buffer: of `laid_over`, a text over a buffer; of `Prints`, the buffer and the answer after some text; of `Adds`.
-- Assumes nothing.
use Rattle.std.specs.Prelude.{if◌then◌else◌, Option, Some, None}
use Rattle.std.proofs.Common.{◌≡◌, ℕ, suc, ◌+◌, ◌≤◌, ◌<◌, Bool, true, false, List, [], ◌∷◌, ◌++◌, length, refl, sym, ap, ◌∙◌, arith, append-nil, append_assoc, length-append}
use Rattle.std.proofs.Math.ListN.{set}
use Rattle.tokens.specs.Bool.{ltb}
use Rattle.std.proofs.lemmas.Bool.{lt-ltb, le-ltb, ltb-true, ltb-false}
use Rattle.text.specs.Post.{laid_over, printed, Prints, Adds}

pub length_laid : (out text : List ℕ) → length (laid_over out text) ≡ length out
unfolding laid_over
length_laid [] text = refl
length_laid (b ∷ out) [] = refl
length_laid (b ∷ out) (t ∷ text) = ap suc (length_laid out text)

laid_none : (out : List ℕ) → out ≡ laid_over out []
unfolding laid_over
laid_none [] = refl
laid_none (b ∷ out) = refl

-- one byte more, if there is room
laid_more : (out text : List ℕ) (byte : ℕ) → length text < length out → set (laid_over out text) (length text) byte ≡ laid_over out (text ++ (byte ∷ []))
unfolding laid_over
laid_more [] text byte l = absurd (omega arith)
laid_more (b ∷ out) [] byte l = ap (λ (x : List ℕ). byte ∷ x) (laid_none out)
laid_more (b ∷ out) (t ∷ text) byte l = ap (λ (x : List ℕ). t ∷ x) (laid_more out text byte (omega arith))

-- past the end of the buffer nothing changes
laid_past : (out text more : List ℕ) → length out ≤ length text → laid_over out text ≡ laid_over out (text ++ more)
unfolding laid_over
laid_past [] text more l = refl
laid_past (b ∷ out) [] more l = absurd (omega arith)
laid_past (b ∷ out) (t ∷ text) more l = ap (λ (x : List ℕ). t ∷ x) (laid_past out text more (omega arith))

-- a text that fits, and one that does not
fits : (text : List ℕ) (room : ℕ) → length text ≤ room → printed text room ≡ Some (length text)
fits text room l = rw (le-ltb room (length text) l)

lost : (text : List ℕ) (room : ℕ) → room < length text → printed text room ≡ None
lost text room l = rw (lt-ltb room (length text) l)

-- what an answer says of the text so far
record Whole (out₀ text out : List ℕ) (at : ℕ) : Type 0 where
  pub place : at ≡ length text
  pub inside : length text ≤ length out₀
  pub long : length out ≡ length out₀

whole : {out₀ text out : List ℕ} {at : ℕ} → Prints out₀ text out (Some at) → Whole out₀ text out at
whole {out₀} {text} {out} {at} h = by (ltb (length out₀) (length text)) refl h.says
  where
    by : (t : Bool) → ltb (length out₀) (length text) ≡ t → Some at ≡ (if t then None else Some (length text)) → Whole out₀ text out at
    by true e p = absurd (cc)
    by false e p = record { place = cc; inside = ltb-false (length out₀) (length text) e; long = ap length h.bytes ∙ length_laid out₀ text }

pub whole_inside : {out₀ text out : List ℕ} {n : ℕ} → Prints out₀ text out (Some n) → n ≤ length out₀
whole_inside h = let w = whole h in omega (arith, w.place, w.inside)

shorter : {out₀ text out : List ℕ} → Prints out₀ text out None → length out₀ < length text
shorter {out₀} {text} {out} h = by (ltb (length out₀) (length text)) refl h.says
  where
    by : (t : Bool) → ltb (length out₀) (length text) ≡ t → ◌≡◌ {A = Option ℕ} None (if t then None else Some (length text)) → length out₀ < length text
    by true e p = ltb-true (length out₀) (length text) e
    by false e p = absurd (cc)

-- a byte is added, or lost
pub put_more : {out : List ℕ} {at byte : ℕ} → at < length out → Adds (byte ∷ []) out at (set out at byte) (Some (at + 1))
put_more {out} {at} {byte} l =
    record {
      after = λ out₀ before h.
          let w = whole h in
          let n : at + 1 ≡ length (before ++ (byte ∷ [])) = omega (arith, w.place, length-append before (byte ∷ [])) in
          record {
            bytes = rw (w.place, h.bytes) (laid_more out₀ before byte (omega (arith, w.place, w.long)));
            says = ap Some n ∙ sym (fits (before ++ (byte ∷ [])) (length out₀) (omega (arith, w.long)));
          };
    }

pub put_lost : {out : List ℕ} {at byte : ℕ} → length out ≤ at → Adds (byte ∷ []) out at out None
put_lost {out} {at} {byte} l =
    record {
      after = λ out₀ before h.
          let w = whole h in
          record {
            bytes = h.bytes ∙ laid_past out₀ before (byte ∷ []) (omega (arith, w.place, w.long));
            says = sym (lost (before ++ (byte ∷ [])) (length out₀) (omega (arith, w.place, w.long, length-append before (byte ∷ []))));
          };
    }

-- one text after another
pub adds_then : {a b out₁ out₂ out₃ : List ℕ} {p q : ℕ} {answer : Option ℕ} → Adds a out₁ p out₂ (Some q) → Adds b out₂ q out₃ answer → Adds (a ++ b) out₁ p out₃ answer
adds_then {a} {b} f g = record { after = λ out₀ before h. rw (sym (append_assoc before a b)) (g.after out₀ (before ++ a) (f.after out₀ before h)) }

-- where a byte was lost, what would follow is lost
pub adds_past : {a out₁ out₂ : List ℕ} {p : ℕ} {answer : Option ℕ} (b : List ℕ) → answer ≡ None → Adds a out₁ p out₂ None → Adds (a ++ b) out₁ p out₂ answer
adds_past {a} {out₁} {out₂} b e f =
    rw e
    (record {
      after = λ out₀ before h.
          let g = f.after out₀ before h in
          let past = shorter g in
          let n = length-append (before ++ a) b in
          rw (sym (append_assoc before a b))
          (record { bytes = g.bytes ∙ laid_past out₀ (before ++ a) b (omega arith); says = sym (lost ((before ++ a) ++ b) (length out₀) (omega arith)) });
    })

-- the same text by another name
pub adds_as : {a b out₁ out₂ : List ℕ} {p : ℕ} {answer : Option ℕ} → a ≡ b → Adds a out₁ p out₂ answer → Adds b out₁ p out₂ answer
adds_as e f = rw (sym e) f

-- a text that is printed from the buffer's start on
pub prints : {text out₀ out : List ℕ} {answer : Option ℕ} → Adds text out₀ 0 out answer → Prints out₀ text out answer
prints {out₀ = out₀} f = f.after out₀ [] (record { bytes = laid_none out₀; says = sym (fits [] (length out₀) (omega arith)) })

-- a text that is added part by part: what was added of it so far, and what is left
pub record Parts (text rest out₀ : List ℕ) (at₀ : ℕ) (out : List ℕ) (answer : Option ℕ) : Type 0 where
  pub done : List ℕ
  pub adds : Adds done out₀ at₀ out answer
  pub is : text ≡ done ++ rest

pub parts_none : {text rest out : List ℕ} {at : ℕ} → text ≡ rest → Parts text rest out at out (Some at)
parts_none e = record { done = []; adds = record { after = λ out₀ before h. rw (append-nil before) h }; is = e }

pub parts_more : {text rest part rest' out₀ out out' : List ℕ} {at₀ at : ℕ} {answer : Option ℕ} → Parts text rest out₀ at₀ out (Some at) → rest ≡ part ++ rest'
    → Adds part out at out' answer → Parts text rest' out₀ at₀ out' answer
parts_more {part = part} {rest'} h e a = record { done = h.done ++ part; adds = adds_then h.adds a; is = h.is ∙ ap (λ (l : List ℕ). h.done ++ l) e ∙ sym (append_assoc h.done part rest') }

pub parts_all : {text rest out₀ out : List ℕ} {at₀ : ℕ} {answer : Option ℕ} → Parts text rest out₀ at₀ out answer → rest ≡ [] → Adds text out₀ at₀ out answer
parts_all h e = adds_as (sym (h.is ∙ ap (λ (l : List ℕ). h.done ++ l) e ∙ append-nil h.done)) h.adds

pub parts_lost : {text rest out₀ out : List ℕ} {at₀ : ℕ} {answer : Option ℕ} → answer ≡ None → Parts text rest out₀ at₀ out None → Adds text out₀ at₀ out answer
parts_lost {rest = rest} e h = adds_as (sym h.is) (adds_past rest e h.adds)
