-- The labels of a set as a list: empty where there is none, and else the lowest one before the others.
use Rattle.std.proofs.Common.{◌≡◌, ℕ, zero, suc, ◌<◌, ◌≤◌, Bool, true, false, cond, not, ◌&&◌, eqb, leb, ◌^◌, List, [], ◌∷◌, ◌++◌, Some, None, Option, sym, refl, ap, ◌∙◌, ap₂, subst, append-nil, arith}
use native.Mathlib.Decide.{ℕ_discrete}
use lib.Bits.{bit_and}
use Rattle.std.specs.List.{list_all, list_any, find, flat_map, fold}
use Rattle.std.specs.Option.{option_or}
use Rattle.std.proofs.lemmas.Bool.{true≢false}
use Rattle.std.proofs.lemmas.Bool.Decides.{nat_tests}
use Rattle.std.proofs.lemmas.List.Folds.{list_all-append, list_any-append, find-append}
use Rattle.std.proofs.lemmas.List.Sums.{fold-append}
use Rattle.std.proofs.lemmas.Grind.{flat_map-append}
use Rattle.labels.specs.Sets.{has, full, insert, no_label, passing}
use Rattle.labels.proofs.Member.{has_above, has_pos, has_full, members}
use Rattle.labels.proofs.Card.{ext}
use Rattle.labels.proofs.Passing.{one_more}
use Rattle.labels.specs.Listed.{labels_in}

-- what the label n adds
abbrev also : ℕ → Bool → List ℕ → List ℕ
also n b es = cond b (es ++ n ∷ []) es

pub labels_none : (s n : ℕ) → ((e : ℕ) → e ≤ n → has s e ≡ false) → labels_in s n ≡ []
unfolding labels_in
labels_none s zero h = refl
labels_none s (suc n) h = ap (λ (b : Bool). also (suc n) b (labels_in s n)) (h (suc n) (omega arith)) ∙ labels_none s n (λ e l. h e (omega arith))

pub labels_same : (s t n : ℕ) → ((e : ℕ) → 1 ≤ e → e ≤ n → has s e ≡ has t e) → labels_in s n ≡ labels_in t n
unfolding labels_in
labels_same s t zero h = refl
labels_same s t (suc n) h = ap₂ (also (suc n)) (h (suc n) (omega arith) (omega arith)) (labels_same s t n (λ e l g. h e l (omega arith)))

-- t has the labels of s but for the lowest one
pub labels_lowest : (s t e n : ℕ) → 1 ≤ e → e ≤ n → has s e ≡ true → ((f : ℕ) → f < e → has s f ≡ false)
    → ((f : ℕ) → f ≤ e → has t f ≡ false) → ((f : ℕ) → e < f → has t f ≡ has s f) → labels_in s n ≡ e ∷ labels_in t n
unfolding labels_in
labels_lowest s t e zero l g h low gone same = absurd (omega arith)
labels_lowest s t e (suc n) l g h low gone same = go (ℕ_discrete e (suc n)) (λ k. labels_lowest s t e n l k h low gone same)
  where
    after : (b : Bool) → also (suc n) b (e ∷ labels_in t n) ≡ e ∷ also (suc n) b (labels_in t n)
    after true = refl
    after false = refl

    go : Dec (e ≡ suc n) → (e ≤ n → labels_in s n ≡ e ∷ labels_in t n) → also (suc n) (has s (suc n)) (labels_in s n) ≡ e ∷ also (suc n) (has t (suc n)) (labels_in t n)
    go (yes q) ih =
        ap₂ (also (suc n)) (ap (has s) (sym q) ∙ h) (labels_none s n (λ f k. low f (omega arith)))
        ∙ ap (λ (x : ℕ). x ∷ []) (sym q)
        ∙ ap (λ (es : List ℕ). e ∷ es) (sym (ap₂ (also (suc n)) (gone (suc n) (omega arith)) (labels_none t n (λ f k. gone f (omega arith)))))
    go (no q) ih = ap₂ (also (suc n)) (sym (same (suc n) (omega arith))) (ih (omega arith)) ∙ after (has t (suc n))

-- ---- labels above n are not listed

pub labels_cut : (s n m : ℕ) → n ≤ m → labels_in (bit_and s (full n)) m ≡ labels_in s n
unfolding labels_in
labels_cut s zero zero h = refl
labels_cut s (suc n) zero h = absurd (omega arith)
labels_cut s n (suc m) h = go (ℕ_discrete n (suc m)) (labels_cut s n m)
  where
    go : Dec (n ≡ suc m) → (n ≤ m → labels_in (bit_and s (full n)) m ≡ labels_in s n) → also (suc m) (has (bit_and s (full n)) (suc m)) (labels_in (bit_and s (full n)) m) ≡ labels_in s n
    go (yes q) ih = labels_same (bit_and s (full n)) s (suc m) (λ e l g. let w = has_full n e in grind (arith, members, nat_tests)) ∙ ap (labels_in s) (sym q)
    go (no q) ih =
        let w = has_full n (suc m) in
        let above : has (bit_and s (full n)) (suc m) ≡ false = grind (arith, members, nat_tests) in
        ap (λ (b : Bool). also (suc m) b (labels_in (bit_and s (full n)) m)) above ∙ ih (omega arith)

-- ---- a test of each listed label, and one label more at the end

-- where t passes just the labels of s that fail p
pub no_label_listed : (t p : ℕ → Bool) (s n : ℕ) → ((e : ℕ) → 1 ≤ e → e ≤ n → t e ≡ (has s e && not (p e))) → no_label t n ≡ list_all p (labels_in s n)
unfolding labels_in
no_label_listed t p s zero h = refl
no_label_listed t p s (suc n) h = go (has s (suc n)) (h (suc n) (omega arith) (omega arith)) (no_label_listed t p s n (λ e l g. h e l (omega arith)))
  where
    go : (b : Bool) → t (suc n) ≡ (b && not (p (suc n))) → no_label t n ≡ list_all p (labels_in s n) → (not (t (suc n)) && no_label t n) ≡ list_all p (also (suc n) b (labels_in s n))
    go true q ih = let r = list_all-append p (labels_in s n) (suc n ∷ []) in grind arith
    go false q ih = grind arith

-- a fold over the labels takes a label of the set at the end
pub fold_labels : {B : Type 0} (h : B → ℕ → B) (z : B) (s n : ℕ) → fold h z (labels_in s (suc n)) ≡ cond (has s (suc n)) (h (fold h z (labels_in s n)) (suc n)) (fold h z (labels_in s n))
unfolding labels_in
fold_labels h z s n = go (has s (suc n))
  where
    go : (b : Bool) → fold h z (also (suc n) b (labels_in s n)) ≡ cond b (h (fold h z (labels_in s n)) (suc n)) (fold h z (labels_in s n))
    go true = fold-append h z (labels_in s n) (suc n ∷ [])
    go false = refl

-- so does what each label of the set makes, one after another
pub flat_labels : {A : Type 0} (h : ℕ → List A) (s n : ℕ) → flat_map h (labels_in s (suc n)) ≡ flat_map h (labels_in s n) ++ cond (has s (suc n)) (h (suc n)) []
unfolding labels_in
flat_labels {A = A} h s n = go (has s (suc n))
  where
    go : (b : Bool) → flat_map h (also (suc n) b (labels_in s n)) ≡ flat_map h (labels_in s n) ++ cond b (h (suc n)) []
    go true = flat_map-append h (labels_in s n) (suc n ∷ []) ∙ ap (λ (xs : List A). flat_map h (labels_in s n) ++ xs) (append-nil (h (suc n)))
    go false = sym (append-nil (flat_map h (labels_in s n)))

-- ---- the list tells its set

listed : (s f n : ℕ) → list_any (eqb f) (labels_in s n) ≡ ((leb 1 f && leb f n) && has s f)
unfolding labels_in
listed s f zero = grind (arith, nat_tests)
listed s f (suc n) = go (has s (suc n)) refl (listed s f n)
  where
    go : (b : Bool) → has s (suc n) ≡ b → list_any (eqb f) (labels_in s n) ≡ ((leb 1 f && leb f n) && has s f)
        → list_any (eqb f) (also (suc n) b (labels_in s n)) ≡ ((leb 1 f && leb f (suc n)) && has s f)
    go true q ih = let r = list_any-append (eqb f) (labels_in s n) (suc n ∷ []) in grind (arith, nat_tests)
    go false q ih = grind (arith, nat_tests)

pub labels_tell : (s t n : ℕ) → s < 2 ^ n → t < 2 ^ n → labels_in s n ≡ labels_in t n → s ≡ t
labels_tell s t n h l q = ext s t (λ f.
    let a = listed s f n in let b = listed t f n in let z = ap (list_any (eqb f)) q in
    let u = has_above n s f h in let v = has_above n t f l in let w = has_pos s f in let x = has_pos t f in grind (arith, nat_tests))

-- ---- what a loop over the labels of s gathers or finds

-- where t passes just the labels of s that pass p, and add adds a label
pub passing_listed : (t p : ℕ → Bool) (add : ℕ → ℕ → ℕ) (s n : ℕ) → ((e : ℕ) → 1 ≤ e → e ≤ n → t e ≡ (has s e && p e)) → ((c e : ℕ) → 1 ≤ e → e ≤ n → add c e ≡ insert c e)
    → passing t n ≡ fold (λ c e. cond (p e) (add c e) c) 0 (labels_in s n)
unfolding passing labels_in
passing_listed t p add s zero h k = refl
passing_listed t p add s (suc n) h k =
    go (has s (suc n)) (h (suc n) (omega arith) (omega arith)) (passing_listed t p add s n (λ e l g. h e l (omega arith)) (λ c e l g. k c e l (omega arith)))
    ∙ sym (fold_labels (λ c e. cond (p e) (add c e) c) 0 s n)
  where
    go : (b : Bool) → t (suc n) ≡ (b && p (suc n)) → passing t n ≡ fold (λ c e. cond (p e) (add c e) c) 0 (labels_in s n)
        → cond (t (suc n)) (insert (passing t n) (suc n)) (passing t n)
        ≡ cond b (cond (p (suc n)) (add (fold (λ c e. cond (p e) (add c e) c) 0 (labels_in s n)) (suc n)) (fold (λ c e. cond (p e) (add c e) c) 0 (labels_in s n))) (fold (λ c e. cond (p e) (add c e) c) 0 (labels_in s n))
    go true q ih =
        ap (λ (x : Bool). cond x (insert (passing t n) (suc n)) (passing t n)) q
        ∙ ap (λ (c : ℕ). cond (p (suc n)) (insert c (suc n)) c) ih
        ∙ ap (λ (x : ℕ). let c = fold (λ c e. cond (p e) (add c e) c) 0 (labels_in s n) in cond (p (suc n)) x c) (sym (k _ (suc n) (omega arith) (omega arith)))
    go false q ih = ap (λ (x : Bool). cond x (insert (passing t n) (suc n)) (passing t n)) q ∙ ih

-- the first label of s among 1..n that passes p, if one does
abbrev pub FirstListed : (ℕ → Bool) → ℕ → ℕ → Option ℕ → Type 0
FirstListed p s n None = (d : ℕ) → 1 ≤ d → d ≤ n → has s d ≡ true → p d ≡ false
FirstListed p s n (Some e) = (1 ≤ e) × (e ≤ n) × (has s e ≡ true) × (p e ≡ true) × ((d : ℕ) → 1 ≤ d → d < e → has s d ≡ true → p d ≡ false)

longer : (p : ℕ → Bool) (s n : ℕ) (r : Option ℕ) → (has s (suc n) ≡ true → p (suc n) ≡ false) → FirstListed p s n r → FirstListed p s (suc n) r
longer p s n None f h = one_more (λ (d : ℕ). has s d ≡ true → p d ≡ false) n h f
longer p s n (Some e) f h = (h.0, omega arith, h.2, h.3, h.4)

pub find_listed : (p : ℕ → Bool) (s n : ℕ) → FirstListed p s n (find p (labels_in s n))
unfolding labels_in
find_listed p s zero = λ d l g h. absurd (omega arith)
find_listed p s (suc n) = go (has s (suc n)) refl (find p (labels_in s n)) refl (find_listed p s n)
  where
    last : (c : Bool) → p (suc n) ≡ c → has s (suc n) ≡ true → FirstListed p s n None → FirstListed p s (suc n) (cond c (Some (suc n)) None)
    last true q b ih = (omega arith, omega arith, b, q, λ d l g h. ih d l (omega arith) h)
    last false q b ih = longer p s n None (λ _. q) ih

    go : (b : Bool) → has s (suc n) ≡ b → (r : Option ℕ) → find p (labels_in s n) ≡ r → FirstListed p s n r → FirstListed p s (suc n) (find p (also (suc n) b (labels_in s n)))
    go false w r q ih = subst (FirstListed p s (suc n)) (sym q) (longer p s n r (λ h. absurd (true≢false (sym h ∙ w))) ih)
    go true w None q ih =
        subst (FirstListed p s (suc n)) (sym (find-append p (labels_in s n) (suc n ∷ []) ∙ ap (λ (x : Option ℕ). option_or x (find p (suc n ∷ []))) q)) (last (p (suc n)) refl w ih)
    go true w (Some e) q ih =
        subst (FirstListed p s (suc n)) (sym (find-append p (labels_in s n) (suc n ∷ []) ∙ ap (λ (x : Option ℕ). option_or x (find p (suc n ∷ []))) q)) (ih.0, omega arith, ih.2, ih.3, ih.4)

-- the labels of the list are labels of 1..n
abbrev pub among : ℕ → ℕ → Bool
among n e = leb 1 e && leb e n

pub labels_among : (s n m : ℕ) → n ≤ m → list_all (among m) (labels_in s n) ≡ true
unfolding labels_in
labels_among s zero m h = refl
labels_among s (suc n) m h = go (has s (suc n)) (labels_among s n m (omega arith))
  where
    go : (b : Bool) → list_all (among m) (labels_in s n) ≡ true → list_all (among m) (also (suc n) b (labels_in s n)) ≡ true
    go true ih = let r = list_all-append (among m) (labels_in s n) (suc n ∷ []) in grind (arith, nat_tests)
    go false ih = ih

pub first_among : (n e : ℕ) (es : List ℕ) → list_all (among n) (e ∷ es) ≡ true → (1 ≤ e) × (e ≤ n)
first_among n e es h = (grind (arith, nat_tests), grind (arith, nat_tests))

pub rest_among : (n e : ℕ) (es : List ℕ) → list_all (among n) (e ∷ es) ≡ true → list_all (among n) es ≡ true
rest_among n e es h = grind (arith, nat_tests)
