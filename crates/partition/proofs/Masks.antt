-- The labels of each class as a word.
use Rattle.std.proofs.Common.{◌≡◌, ℕ, zero, suc, ◌-◌, ◌<◌, ◌≤◌, Bool, true, false, cond, ◌&&◌, eqb, List, [], ◌∷◌, ◌++◌, length, get_or, set, sym, refl, ap, ◌∙◌, ap₂, add-one, arith}
use native.Mathlib.Decide.{ℕ_discrete}
use lib.Bits.{bit_and, bit_or}
use Rattle.std.proofs.lemmas.List.{get_or_append_left, get_or_push, get_or-set_same, get_or-set_other, length_push, length-map, get_or-map, ext_get_or}
use Rattle.std.proofs.lemmas.Bool.Decides.{nat_tests}
use Rattle.labels.specs.Sets.{has, insert, passing, single}
use Rattle.labels.proofs.Member.{has_and}
use Rattle.labels.proofs.Card.{ext}
use Rattle.labels.proofs.Passing.{has_passing, passing_same}
use Rattle.label_words.specs.Words.{word_of}
use Rattle.label_words.proofs.Held.{word_in}
use Rattle.partition_laws.specs.Partition.{part_in}
use Rattle.partition.specs.Classes.{class_count, class_at, class_set, Masked}
use Rattle.partition.specs.Rooms.{limits_by_class, labels_by_class}
use Rattle.partition.specs.declared.room.Room.{Room}

-- the labels of s in class i, by the word of that class
pub part_is : (cs : List ℕ) (s i : ℕ) → bit_and s (class_set cs i) ≡ part_in (length cs) (class_at cs) s i
part_is cs s i = ext _ _ (λ e.
    let a = has_and s (class_set cs i) e in
    let p = has_passing (λ e. eqb (class_at cs e) i) (length cs) e in
    let q = has_passing (λ e. has s e && eqb (class_at cs e) i) (length cs) e in
    grind (arith, nat_tests))

-- the rooms that a partition begins with
module _ (cs ls : List ℕ) (rooms : List Room) (z : cs ≡ []) (n : length ls ≡ class_count) (m : length rooms ≡ class_count)
    (each : (i : ℕ) → i < class_count → get_or rooms i (record { limit = 0; labels = 0 }) ≡ record { limit = get_or ls i 0; labels = 0 }) where
  pub masked_at_first : Masked cs (labels_by_class rooms)
  unfolding passing
  masked_at_first i l =
      get_or-map (λ r. r.labels) rooms i (record { limit = 0; labels = 0 }) 0 (omega (arith, m)) ∙ ap (λ (r : Room). r.labels) (each i l)
      ∙ ap (λ (ds : List ℕ). class_set ds (suc i)) (sym z)

  pub limits_at_first : limits_by_class rooms ≡ ls
  limits_at_first = ext_get_or 0 (limits_by_class rooms) ls (length-map rooms (λ r. r.limit) ∙ m ∙ sym n) (λ i l.
      let k : i < class_count = omega (arith, length-map rooms (λ (r : Room). r.limit), m) in
      get_or-map (λ r. r.limit) rooms i (record { limit = 0; labels = 0 }) 0 (omega (arith, m)) ∙ ap (λ (r : Room). r.limit) (each i k))

-- a write into one room, seen in the lists
pub labels_set : (rooms : List Room) (k : ℕ) (r : Room) → labels_by_class (set rooms k r) ≡ set (labels_by_class rooms) k r.labels
labels_set [] k r = refl
labels_set (x ∷ xs) zero r = refl
labels_set (x ∷ xs) (suc k) r = ap (λ (ys : List ℕ). x.labels ∷ ys) (labels_set xs k r)

pub limits_set : (rooms : List Room) (k : ℕ) (r d : Room) → r.limit ≡ (get_or rooms k d).limit → limits_by_class (set rooms k r) ≡ limits_by_class rooms
limits_set [] k r d q = refl
limits_set (x ∷ xs) zero r d q = ap (λ (l : ℕ). l ∷ limits_by_class xs) q
limits_set (x ∷ xs) (suc k) r d q = ap (λ (ys : List ℕ). x.limit ∷ ys) (limits_set xs k r d q)

-- one label more, of class c
module _ (cs : List ℕ) (c : ℕ) where
  class_before : (e : ℕ) → e ≤ length cs → class_at (cs ++ c ∷ []) e ≡ class_at cs e
  class_before zero l = refl
  class_before (suc k) l = get_or_append_left cs (c ∷ []) 0 k (omega arith)

  class_last : class_at (cs ++ c ∷ []) (suc (length cs)) ≡ c
  class_last = get_or_push cs c 0 (length cs) refl

  longer : length (cs ++ c ∷ []) ≡ suc (length cs)
  longer = length_push cs c ∙ add-one (length cs)

  class_more : (i : ℕ) → class_set (cs ++ c ∷ []) i ≡ cond (eqb c i) (insert (class_set cs i) (suc (length cs))) (class_set cs i)
  unfolding passing
  class_more i =
      ap (passing (λ e. eqb (class_at (cs ++ c ∷ []) e) i)) longer
      ∙ ap₂ (λ (b : Bool) (x : ℕ). cond b (insert x (suc (length cs))) x) (ap (λ (d : ℕ). eqb d i) class_last)
      (passing_same (λ e. eqb (class_at (cs ++ c ∷ []) e) i) (λ e. eqb (class_at cs e) i) (length cs) (λ e l g. ap (λ (d : ℕ). eqb d i) (class_before e g)))

-- its class's word gets that label
pub masked_more : (cs ds ms : List ℕ) (c n m : ℕ) → 1 ≤ c → c ≤ class_count → length ms ≡ class_count → Masked cs ms
    → ds ≡ cs ++ c ∷ [] → n ≡ length ds → n ≤ 64 → m ≡ bit_or (get_or ms (c - 1) 0) (word_of n) → Masked ds (set ms (c - 1) m)
masked_more cs ds ms c n m l h w M z k b q i g = go (ℕ_discrete i (c - 1))
  where
    last : n ≡ suc (length cs)
    last = k ∙ ap length z ∙ longer cs c

    joined : i ≡ c - 1 → m ≡ insert (class_set cs (suc i)) (suc (length cs))
    joined e =
        q ∙ ap₂ bit_or (ap (λ (j : ℕ). get_or ms j 0) (sym e) ∙ M i g) (word_in n (omega (arith, last)) b ∙ ap single last)

    told : (f : Bool) → eqb c (suc i) ≡ f → class_set ds (suc i) ≡ cond f (insert (class_set cs (suc i)) (suc (length cs))) (class_set cs (suc i))
    told f p =
        ap (λ (es : List ℕ). class_set es (suc i)) z ∙ class_more cs c (suc i)
        ∙ ap (λ (y : Bool). cond y (insert (class_set cs (suc i)) (suc (length cs))) (class_set cs (suc i))) p

    go : Dec (i ≡ c - 1) → get_or (set ms (c - 1) m) i 0 ≡ class_set ds (suc i)
    go (yes e) =
        ap (λ (j : ℕ). get_or (set ms (c - 1) m) j 0) e ∙ get_or-set_same ms (c - 1) m 0 (omega arith) ∙ joined e
        ∙ sym (told true (grind (arith, nat_tests)))
    go (no e) = get_or-set_other ms (c - 1) i m 0 e ∙ M i g ∙ sym (told false (grind (arith, nat_tests)))
