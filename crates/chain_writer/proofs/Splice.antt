-- Bytes that are put into a buffer: what stands before their end, and what stays.
use Rattle.std.proofs.Common.{◌≡◌, ℕ, ◌+◌, ◌/◌, ◌%◌, ◌<◌, ◌≤◌, List, [], ◌∷◌, ◌++◌, length, get_or, take, drop, ℤ, sym, ap, ◌∙◌, subst, arith, w64, SFits, to_z, of_z}
use Rattle.std.proofs.lemmas.List.{append_assoc, drop_at, drop-drop, length-append, length-drop, length-take-le, take_at}
use Rattle.std.proofs.lemmas.Bool.{cond-true, cond-false, le-leb, lt-leb}
use Rattle.std.proofs.lemmas.Int.{to_z-of_z}
use Rattle.chain_lists.specs.declared.Kind.{Kind}
use Rattle.chain_lists.specs.Lists.{little, framed, kind_length, kind_number}
use Rattle.chain_lists.proofs.Bytes.{length_framed, length_little, little_8}
use Rattle.chain_writer.specs.Writing.{Puts, put_at, put_in}

-- how long what stands before the end of the bytes is
length_before : (a : ℕ) (ys xs : List ℕ) → a ≤ length xs → length (take a xs ++ ys) ≡ a + length ys
length_before a ys xs h = omega (arith, length-append (take a xs) ys, length-take-le a xs h)

parted : (a : ℕ) (ys xs : List ℕ) → put_at a ys xs ≡ (take a xs ++ ys) ++ drop (a + length ys) xs
parted a ys xs = sym (append_assoc (take a xs) ys (drop (a + length ys) xs))

pub length_put : (a : ℕ) (ys xs : List ℕ) → a + length ys ≤ length xs → length (put_at a ys xs) ≡ length xs
length_put a ys xs h =
    let low : a ≤ length xs = omega arith in
    omega
    (arith, ap length (parted a ys xs), length-append (take a xs ++ ys) (drop (a + length ys) xs), length_before a ys xs low, length-drop (a + length ys) xs)

pub take_put : (a : ℕ) (ys xs : List ℕ) → a + length ys ≤ length xs → take (a + length ys) (put_at a ys xs) ≡ take a xs ++ ys
take_put a ys xs h =
    let low : a ≤ length xs = omega arith in
    ap (take (a + length ys)) (parted a ys xs)
    ∙ take_at (take a xs ++ ys) (drop (a + length ys) xs) (a + length ys) (length_before a ys xs low)

drop_put : (a : ℕ) (ys xs : List ℕ) → a + length ys ≤ length xs → drop (a + length ys) (put_at a ys xs) ≡ drop (a + length ys) xs
drop_put a ys xs h =
    let low : a ≤ length xs = omega arith in
    ap (drop (a + length ys)) (parted a ys xs)
    ∙ drop_at (take a xs ++ ys) (drop (a + length ys) xs) (a + length ys) (length_before a ys xs low)

-- bytes that are put in right after others are put in with them
pub put_after
    : (a : ℕ) (ys zs xs : List ℕ)
    → a + length ys ≤ length xs → put_at (a + length ys) zs (put_at a ys xs) ≡ put_at a (ys ++ zs) xs
put_after a ys zs xs h =
    let b : ℕ = a + length ys in
    let same : a + length (ys ++ zs) ≡ b + length zs = omega (arith, length-append ys zs) in
    let front = take_put a ys xs h in
    let rest : drop (b + length zs) (put_at a ys xs) ≡ drop (b + length zs) xs =
    sym (drop-drop (length zs) b (put_at a ys xs)) ∙ ap (drop (length zs)) (drop_put a ys xs h) ∙ drop-drop (length zs) b xs in
    ap (λ (q : List ℕ). q ++ (zs ++ drop (b + length zs) (put_at a ys xs))) front
    ∙ ap (λ (q : List ℕ). (take a xs ++ ys) ++ (zs ++ q)) rest
    ∙ append_assoc (take a xs) ys (zs ++ drop (b + length zs) xs)
    ∙ ap (λ (q : List ℕ). take a xs ++ q) (sym (append_assoc ys zs (drop (b + length zs) xs)))
    ∙ ap (λ (k : ℕ). take a xs ++ ((ys ++ zs) ++ drop k xs)) (sym same)

-- ---- where there is room

pub put_fits : (a : ℕ) (ys xs : List ℕ) → a + length ys ≤ length xs → put_in a ys xs ≡ put_at a ys xs
put_fits a ys xs h = cond-true _ _ _ (le-leb _ _ h)

pub put_not : (a : ℕ) (ys xs : List ℕ) → length xs < a + length ys → put_in a ys xs ≡ xs
put_not a ys xs h = cond-false _ _ _ (lt-leb _ _ h)

-- ---- what calls put in

-- bytes that are put in, in other words
pub puts_same : {at end : ℕ} {old new ys zs : List ℕ} → ys ≡ zs → Puts at ys old new end → Puts at zs old new end
puts_same {at} {end} {old} {new} e p = subst (λ (q : List ℕ). Puts at q old new end) e p

-- the length, the kind and the body of a record, one after the other
pub puts_framed
    : (k : Kind) (at : ℕ) (body : List ℕ) {ls ks old old₁ old₂ new : List ℕ} {kind_at body_at end : ℕ}
    → ls ≡ little 4 (kind_length k) → ks ≡ little 2 (kind_number k) → at + length (framed k body) ≤ length old
    → kind_at ≡ at + length ls → old₁ ≡ put_at at ls old
    → body_at ≡ kind_at + length ks → old₂ ≡ put_at kind_at ks old₁
    → end ≡ body_at + length body → new ≡ put_at body_at body old₂
    → Puts at (framed k body) old new end
puts_framed k at body {ls} {ks} {old} {old₁} {old₂} {new} {kind_at} {body_at} {end} d e room p₁ w₁ p₂ w₂ p₃ w₃ =
    puts_same
    (append_assoc ls ks body ∙ ap (λ (l : List ℕ). l ++ (ks ++ body)) d ∙ ap (λ (l : List ℕ). little 4 (kind_length k) ++ (l ++ body)) e)
    (record { place = λ h. omega (arith, p₁, p₂, p₃, both, all); written = made ∙ sym (put_fits at ((ls ++ ks) ++ body) old fits) })
  where
    both : length (ls ++ ks) ≡ length ls + length ks
    both = length-append ls ks

    all : length ((ls ++ ks) ++ body) ≡ length (ls ++ ks) + length body
    all = length-append (ls ++ ks) body

    fits : at + length ((ls ++ ks) ++ body) ≤ length old
    fits = omega (arith, room, length_framed k body, ap length d, ap length e, length_little 4 (kind_length k), length_little 2 (kind_number k), both, all)

    two : old₂ ≡ put_at at (ls ++ ks) old
    two =
        w₂
        ∙ ap (λ (a : ℕ). put_at a ks old₁) p₁
        ∙ ap (put_at (at + length ls) ks) w₁
        ∙ put_after at ls ks old (omega (arith, fits, both, all))

    made : new ≡ put_at at ((ls ++ ks) ++ body) old
    made =
        w₃
        ∙ ap (λ (a : ℕ). put_at a body old₂) (omega (arith, p₁, p₂, both))
        ∙ ap (put_at (at + length (ls ++ ks)) body) two
        ∙ put_after at (ls ++ ks) body old (omega (arith, fits, all))

-- the bytes of a number, read one by one
pub read_eight
    : (bs rest : List ℕ) (x : ℕ)
    → bs
    ≡ x % 256 ∷ x / 256 % 256 ∷ x / 65536 % 256 ∷ x / 16777216 % 256 ∷ x / 4294967296 % 256 ∷ x / 1099511627776 % 256 ∷ x / 281474976710656 % 256 ∷ x / 72057594037927936 % 256 ∷ []
    → get_or bs 0 0 ∷ get_or bs 1 0 ∷ get_or bs 2 0 ∷ get_or bs 3 0 ∷ get_or bs 4 0 ∷ get_or bs 5 0 ∷ get_or bs 6 0 ∷ get_or bs 7 0 ∷ rest
    ≡ little 8 x ++ rest
read_eight bs rest x e =
    ap (λ (q : List ℕ). get_or q 0 0 ∷ get_or q 1 0 ∷ get_or q 2 0 ∷ get_or q 3 0 ∷ get_or q 4 0 ∷ get_or q 5 0 ∷ get_or q 6 0 ∷ get_or q 7 0 ∷ rest) e
    ∙ ap (λ (q : List ℕ). q ++ rest) (sym (little_8 x))

-- signed numbers, as a caller passes them
pub eights_same
    : (x y : ℤ) → SFits w64 x → SFits w64 y
    → little 8 (of_z w64 (to_z w64 (of_z w64 x))) ++ little 8 (of_z w64 (to_z w64 (of_z w64 y))) ≡ little 8 (of_z w64 x) ++ little 8 (of_z w64 y)
eights_same x y f g =
    let eight : ℤ → List ℕ = λ z. little 8 (of_z w64 z) in
    ap (λ (z : ℤ). eight z ++ eight (to_z w64 (of_z w64 y))) (to_z-of_z w64 x f) ∙ ap (λ (z : ℤ). eight x ++ eight z) (to_z-of_z w64 y g)
