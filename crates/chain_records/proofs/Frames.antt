-- The frame of a record, told by its six bytes.
use Rattle.std.proofs.Common.{◌≡◌, ℕ, ◌+◌, ◌-◌, ◌*◌, ◌<◌, ◌≤◌, Bool, true, false, cond, eqb, leb, List, [], ◌∷◌, ◌++◌, length, get_or, take, drop, Some, None, Option, sym, refl, ap, ◌∙◌, arith}
use Rattle.std.proofs.lemmas.Bool.{eqb-true, eqb-false, ne_eqb, cond-true, cond-false}
use Rattle.std.proofs.lemmas.Bool.Decides.{nat_tests}
use Rattle.std.proofs.Math.Seq.{take-add}
use Rattle.std.specs.Bool.{then_some}
use Rattle.std.specs.Option.{MatchOption}
use Rattle.std.proofs.lemmas.List.{length-drop, length-take-le}
use Rattle.chain_lists.specs.declared.Kind.{Kind}
use Rattle.chain_lists.specs.declared.Kind.TheVariants.{Head, Exchange, End, ShiftTotal, LampTotal}
use Rattle.chain_lists.specs.Lists.{little, framed, kind_number, kind_length, kind_numbered}
use Rattle.chain_records.specs.Records.{exchanges_in}
use Rattle.chain_lists.specs.Faults.{Beginning, stated, kind_in, complete, cut_off, misshapen, kind_fault, record_fault}

pub at_end : (xs : List ℕ) (at : ℕ) → at ≤ length xs → eqb at (length xs) ≡ eqb (length (drop at xs)) 0
at_end xs at h = grind (arith, length-drop)

pub complete_tells : (xs : List ℕ) → complete xs ≡ true → (4 ≤ length xs) × (4 + stated xs ≤ length xs)
unfolding complete
complete_tells xs h = grind arith

pub complete_is : (xs : List ℕ) (behind : ℕ) → behind + 4 ≡ length xs → leb (stated xs) behind ≡ complete xs
unfolding complete
complete_is xs behind h = grind (arith, nat_tests)

pub short_is : (xs : List ℕ) → length xs < 4 → complete xs ≡ false
unfolding complete
short_is xs h = grind arith

-- what both say of one answer
pub both_told : {X G : Type 0} {N M : Type 0} {C Q : X → Type 0} (o : Option X) → MatchOption o N C → MatchOption o M Q → (N → M → G) → ((x : X) → C x → Q x → G) → G
both_told None n m f h = f n m
both_told (Some x) c q f h = h x c q

numbered_is : (m : ℕ) (k : Kind) → kind_numbered m ≡ Some k → m ≡ kind_number k
numbered_is m k h = grind arith

-- bytes that write a number below 256
four : (a b c d m : ℕ) → a < 256 → b < 256 → c < 256 → d < 256 → m < 256 → a + 256 * (b + 256 * (c + 256 * (d + 256 * 0))) ≡ m
    → (a ≡ m) × (b ≡ 0) × (c ≡ 0) × (d ≡ 0)
four a b c d m p q r s t h = (omega arith, omega arith, omega arith, omega arith)

two : (a b m : ℕ) → a < 256 → b < 256 → m < 256 → a + 256 * (b + 256 * 0) ≡ m → (a ≡ m) × (b ≡ 0)
two a b m p q t h = (omega arith, omega arith)

frame_bytes : (k : Kind) → framed k [] ≡ kind_length k ∷ 0 ∷ 0 ∷ 0 ∷ kind_number k ∷ 0 ∷ []
unfolding little
frame_bytes Head = refl
frame_bytes Exchange = refl
frame_bytes End = refl
frame_bytes ShiftTotal = refl
frame_bytes LampTotal = refl

small : (k : Kind) → (kind_length k < 256) × (kind_number k < 256)
small Head = (omega arith, omega arith)
small Exchange = (omega arith, omega arith)
small End = (omega arith, omega arith)
small ShiftTotal = (omega arith, omega arith)
small LampTotal = (omega arith, omega arith)

-- six bytes that state the kind k and its length
pub frame_is
    : (xs : List ℕ) (k : Kind) → ((i : ℕ) → get_or xs i 0 < 256) → 6 ≤ length xs
    → stated xs ≡ kind_length k → kind_in xs ≡ Some k → take 6 xs ≡ framed k []
frame_is [] k byte long length-is kind-is = absurd (omega arith)
frame_is (a ∷ []) k byte long length-is kind-is = absurd (omega arith)
frame_is (a ∷ b ∷ []) k byte long length-is kind-is = absurd (omega arith)
frame_is (a ∷ b ∷ c ∷ []) k byte long length-is kind-is = absurd (omega arith)
frame_is (a ∷ b ∷ c ∷ d ∷ []) k byte long length-is kind-is = absurd (omega arith)
frame_is (a ∷ b ∷ c ∷ d ∷ e ∷ []) k byte long length-is kind-is = absurd (omega arith)
frame_is (a ∷ b ∷ c ∷ d ∷ e ∷ f ∷ xs) k byte long length-is kind-is =
    let p = four a b c d (kind_length k) (byte 0) (byte 1) (byte 2) (byte 3) (small k).0 length-is in
    let q = two e f (kind_number k) (byte 4) (byte 5) (small k).1 (numbered_is _ k kind-is) in
    let z : a ∷ b ∷ c ∷ d ∷ e ∷ f ∷ [] ≡ kind_length k ∷ 0 ∷ 0 ∷ 0 ∷ kind_number k ∷ 0 ∷ [] = cc in
    z ∙ sym (frame_bytes k)

pub few_exchanges : (k : Kind) → exchanges_in k ≤ kind_length k
few_exchanges k = grind arith

pub kind_long : (k : Kind) → 2 ≤ kind_length k
kind_long k = grind arith

-- a record that is all there, but has no kind with its length
wrong_kind : (b : Beginning) (xs : List ℕ) → complete xs ≡ true
    → ((k : Kind) → kind_in xs ≡ Some k → stated xs ≡ kind_length k → ⊥) → record_fault b xs ≡ Some misshapen
wrong_kind b xs whole none = cond-true _ _ _ whole ∙ go (kind_in xs) none
  where
    go : (o : Option Kind) → ((k : Kind) → o ≡ Some k → stated xs ≡ kind_length k → ⊥) → kind_fault b o xs ≡ Some misshapen
    go None h = refl
    go (Some k) h = cond-false _ _ _ (ne_eqb _ _ (h k refl))

-- a length that has no room for a kind is that of no kind
pub no_kind : (b : Beginning) (xs : List ℕ) → complete xs ≡ true → length xs < 6 → record_fault b xs ≡ Some misshapen
no_kind b xs whole short = wrong_kind b xs whole (λ k is l. omega (arith, complete_tells xs whole, kind_long k))

pub kind_told
    : (xs : List ℕ) (k : Kind) (told : Option Kind) → ((i : ℕ) → get_or xs i 0 < 256) → complete xs ≡ true → 6 ≤ length xs
    → kind_in xs ≡ Some k → told ≡ then_some (eqb (stated xs) (kind_length k)) k
    → MatchOption told ((b : Beginning) → record_fault b xs ≡ Some misshapen) (λ k. (take 6 xs ≡ framed k []) × (4 + kind_length k ≤ length xs))
kind_told xs k told byte whole long is answer = rw answer (go (eqb (stated xs) (kind_length k)) refl)
  where
    go : (t : Bool) → t ≡ eqb (stated xs) (kind_length k)
        → MatchOption (then_some t k) ((b : Beginning) → record_fault b xs ≡ Some misshapen) (λ k. (take 6 xs ≡ framed k []) × (4 + kind_length k ≤ length xs))
    go true t =
        let l : stated xs ≡ kind_length k = eqb-true _ _ (sym t) in
        (frame_is xs k byte long l is, omega (arith, complete_tells xs whole))
    go false t = λ b. wrong_kind b xs whole (λ j at l. let same : j ≡ k = cc in eqb-false _ _ (sym t) (l ∙ ap kind_length same))

pub nothing_left : (xs : List ℕ) → eqb (length xs) 0 ≡ true → xs ≡ []
nothing_left [] h = refl
nothing_left (x ∷ xs) h = absurd (omega (arith, eqb-true _ _ h))

pub some_left : (xs : List ℕ) {t : Bool} → t ≡ eqb (length xs) 0 → t ≡ false → xs ≡ [] → ⊥
some_left xs e h none = eqb-false (length xs) 0 (sym e ∙ h) (ap length none)

pub cut_fault : (b : Beginning) (xs : List ℕ) → complete xs ≡ false → record_fault b xs ≡ Some cut_off
cut_fault b xs h = ap (λ (t : Bool). cond t (kind_fault b (kind_in xs) xs) (Some cut_off)) h

framed_body : (k : Kind) (body : List ℕ) → framed k [] ++ body ≡ framed k body
unfolding little
framed_body Head body = refl
framed_body Exchange body = refl
framed_body End body = refl
framed_body ShiftTotal body = refl
framed_body LampTotal body = refl

-- the record that begins with the frame of k, whose length is m
pub CutRecord
    : (xs : List ℕ) (k : Kind) (m : ℕ) → m ≡ kind_length k → take 6 xs ≡ framed k [] → 4 + kind_length k ≤ length xs
    → (take (4 + m) xs ≡ framed k (take (4 + m - 6) (drop 6 xs))) × (length (take (4 + m - 6) (drop 6 xs)) + 2 ≡ kind_length k)
CutRecord xs k m is frame long =
    let two : 2 ≤ kind_length k = kind_long k in
    let sum : 4 + m ≡ 6 + (4 + m - 6) = omega arith in
    let l : length (take (4 + m - 6) (drop 6 xs)) ≡ 4 + m - 6 = length-take-le _ _ (omega (arith, length-drop 6 xs)) in
    let split = take-add 6 (4 + m - 6) xs in
    (ap (λ (i : ℕ). take i xs) sum ∙ split ∙ ap (λ (ys : List ℕ). ys ++ take (4 + m - 6) (drop 6 xs)) frame ∙ framed_body k _, omega arith)
