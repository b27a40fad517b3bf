-- Four labels, l and d in a set and m and g outside it: which two of them complete what the set has beside l and d.
use Rattle.std.proofs.Common.{◌≡◌, ℕ, ◌≤◌, Bool, true, false, ◌⊎◌, refl, sym, ap, ◌∙◌, inl, inr, arith}
use Rattle.std.proofs.lemmas.Bool.{both_ways, false_from_ne_true}
use native.Mathlib.Decide.{ℕ_discrete}
use Rattle.labels.specs.Sets.{has, insert, remove, swap, Subset, card}
use Rattle.labels.proofs.Member.{has_pos, members}
use Rattle.labels.proofs.Card.{ext, card_remove}
use Rattle.labels.proofs.Swap.{card_swap}
use Rattle.matroid_laws.specs.Matroids.{IsMatroid}

-- Of sets alone, apart from any matroid, whose laws `grind` would go through too.
remove_part : (u k : ℕ) → Subset (remove u k) u
remove_part u k e m = grind (arith, members)

-- all that s has and j has not is p and q
abbrev Beyond : ℕ → ℕ → ℕ → ℕ → Type 0
Beyond s j p q = (e : ℕ) → has s e ≡ true → has j e ≡ false → (e ≡ p) ⊎ (e ≡ q)

beyond : (s j p q : ℕ) → ((e : ℕ) → has s e ≡ true → has j e ≡ false → (e ≡ p → ⊥) → (e ≡ q → ⊥) → ⊥) → Beyond s j p q
beyond s j p q f e x y = go (ℕ_discrete e p) (ℕ_discrete e q)
  where
    go : Dec (e ≡ p) → Dec (e ≡ q) → (e ≡ p) ⊎ (e ≡ q)
    go (yes a) z = inl a
    go (no a) (yes b) = inr b
    go (no a) (no b) = absurd (f e x y a b)

-- labels l and d of a set t, and m and g outside it
module _ (t l d m g : ℕ) (l_in : has t l ≡ true) (d_in : has t d ≡ true) (m_out : has t m ≡ false) (g_out : has t g ≡ false)
    (m_pos : 1 ≤ m) (g_pos : 1 ≤ g) (ld : l ≡ d → ⊥) (mg : m ≡ g → ⊥) where
  l_pos : 1 ≤ l
  l_pos = has_pos t l l_in

  d_pos : 1 ≤ d
  d_pos = has_pos t d d_in

  abbrev both : ℕ
  both = swap (swap t l m) d g

  -- what each of three completes with each of two others
  m_l : insert (remove (swap t l m) d) l ≡ swap t d m
  m_l = ext _ _ (λ e. grind (arith, members))

  m_g : insert (remove (swap t l m) d) g ≡ both
  m_g = ext _ _ (λ e. grind (arith, members))

  l_m : insert (remove t d) m ≡ swap t d m
  l_m = ext _ _ (λ e. grind (arith, members))

  l_g : insert (remove t d) g ≡ swap t d g
  l_g = ext _ _ (λ e. grind (arith, members))

  g_d : insert (remove (swap t d g) l) d ≡ swap t l g
  g_d = ext _ _ (λ e. grind (arith, members))

  g_m : insert (remove (swap t d g) l) m ≡ both
  g_m = ext _ _ (λ e. grind (arith, members))

  g_l' : insert (remove both m) l ≡ swap t d g
  g_l' = ext _ _ (λ e. grind (arith, members))

  g_d' : insert (remove both m) d ≡ swap t l g
  g_d' = ext _ _ (λ e. grind (arith, members))

  g_l : insert (remove (swap t l g) d) l ≡ swap t d g
  g_l = ext _ _ (λ e. grind (arith, members))

  g_m' : insert (remove (swap t l g) d) m ≡ both
  g_m' = ext _ _ (λ e. grind (arith, members))

  has_d : has (swap t l m) d ≡ true
  has_d = grind (arith, members)

  has_l : has (swap t d g) l ≡ true
  has_l = grind (arith, members)

  has_m : has both m ≡ true
  has_m = grind (arith, members)

  has_d' : has (swap t l g) d ≡ true
  has_d' = grind (arith, members)

  g_after : has (swap t l m) g ≡ false
  g_after = grind (arith, members)

  same_lm : card (swap t l m) ≡ card t
  same_lm = card_swap t l m m_pos l_in m_out

  same_dm : card (swap t d m) ≡ card t
  same_dm = card_swap t d m m_pos d_in m_out

  same_dg : card (swap t d g) ≡ card t
  same_dg = card_swap t d g g_pos d_in g_out

  same_lg : card (swap t l g) ≡ card t
  same_lg = card_swap t l g g_pos l_in g_out

  same_both : card both ≡ card t
  same_both = card_swap (swap t l m) d g g_pos has_d g_after ∙ same_lm

  -- what one set has beyond what another has without a label
  b1 : Beyond (swap t d g) (remove (swap t l m) d) l g
  b1 = beyond _ _ _ _ (λ e x y p q. grind (arith, members))

  b2 : Beyond both (remove t d) m g
  b2 = beyond _ _ _ _ (λ e x y p q. grind (arith, members))

  b3 : Beyond (swap t l m) (remove (swap t d g) l) d m
  b3 = beyond _ _ _ _ (λ e x y p q. grind (arith, members))

  b4 : Beyond t (remove both m) l d
  b4 = beyond _ _ _ _ (λ e x y p q. grind (arith, members))

  b5 : Beyond (swap t d m) (remove (swap t l g) d) l m
  b5 = beyond _ _ _ _ (λ e x y p q. grind (arith, members))

  module _ (n : ℕ) (independent : ℕ → Bool) (M : IsMatroid n independent) where
    one_joins : (s u k p q v w : ℕ) → independent s ≡ true → independent u ≡ true → has u k ≡ true → card s ≡ card u → Beyond s (remove u k) p q
        → insert (remove u k) p ≡ v → insert (remove u k) q ≡ w → (independent v ≡ true) ⊎ (independent w ≡ true)
    one_joins s u k p q v w a b i same only x y =
        let r = M.augments (remove u k) s (M.hereditary (remove u k) u (remove_part u k) b) a (omega (arith, card_remove u k i)) in go (only r.0 r.1 r.2) r.3
      where
        go : {e : ℕ} → (e ≡ p) ⊎ (e ≡ q) → independent (insert (remove u k) e) ≡ true → (independent v ≡ true) ⊎ (independent w ≡ true)
        go (inl z) h = inl (ap independent (sym x) ∙ ap (λ (f : ℕ). independent (insert (remove u k) f)) (sym z) ∙ h)
        go (inr z) h = inr (ap independent (sym y) ∙ ap (λ (f : ℕ). independent (insert (remove u k) f)) (sym z) ∙ h)

    not_left : {a b : Bool} → (a ≡ true) ⊎ (b ≡ true) → a ≡ false → b ≡ true
    not_left (inl x) z = absurd (both_ways _ z x)
    not_left (inr y) z = y

    module _ (T : independent t ≡ true) (U : independent (swap t l m) ≡ true) where
      -- d and m do not swap: d and g swap after it if they did before, and the other way round
      m_there : independent (swap t d m) ≡ false → independent (swap t d g) ≡ true → independent both ≡ true
      m_there z h = not_left (one_joins (swap t d g) (swap t l m) d l g _ _ h U has_d (same_dg ∙ sym same_lm) b1 m_l m_g) z

      m_back : independent (swap t d m) ≡ false → independent both ≡ true → independent (swap t d g) ≡ true
      m_back z h = not_left (one_joins both t d m g _ _ h T d_in same_both b2 l_m l_g) z

      -- the same where l and g do not
      g_there : independent (swap t l g) ≡ false → independent (swap t d g) ≡ true → independent both ≡ true
      g_there z h = not_left (one_joins (swap t l m) (swap t d g) l d m _ _ U h has_l (same_lm ∙ sym same_dg) b3 g_d g_m) z

      g_back : independent (swap t l g) ≡ false → independent both ≡ true → independent (swap t d g) ≡ true
      g_back z h = not_left (swapped (one_joins t both m l d _ _ T h has_m (sym same_both) b4 g_l' g_d')) z
        where
          swapped : {a b : Bool} → (a ≡ true) ⊎ (b ≡ true) → (b ≡ true) ⊎ (a ≡ true)
          swapped (inl x) = inr x
          swapped (inr y) = inl y

      -- the other two do, and d and g did not
      pub turned : independent (swap t d m) ≡ true → independent (swap t l g) ≡ true → independent (swap t d g) ≡ false → independent both ≡ true
      turned x y z = not_left (one_joins (swap t d m) (swap t l g) d l m _ _ x y has_d' (same_dm ∙ sym same_lg) b5 g_l g_m') z

      same_from : (a b : Bool) → (a ≡ true → b ≡ true) → (b ≡ true → a ≡ true) → a ≡ b
      same_from true b f g = sym (f refl)
      same_from false b f g = sym (false_from_ne_true _ (λ h. both_ways _ refl (g h)))

      pub stays_m : independent (swap t d m) ≡ false → independent both ≡ independent (swap t d g)
      stays_m z = same_from _ _ (m_back z) (m_there z)

      pub stays_g : independent (swap t l g) ≡ false → independent both ≡ independent (swap t d g)
      stays_g z = same_from _ _ (g_back z) (g_there z)
