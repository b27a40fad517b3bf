-- A list in short, record by record.
use Rattle.std.proofs.Common.{◌≡◌, ℕ, ◌<◌, false, List, [], ◌∷◌, ◌++◌, length, ℤ, Some, sym, refl, ◌∙◌, subst, arith}
use borrow.Author.Tests.{clash}
use Rattle.chain_lists.specs.declared.Kind.TheVariants.{ShiftTotal, LampTotal}
use Rattle.chain_lists.specs.declared.Swap.{Swap}
use Rattle.chain_lists.specs.declared.Total.{Total}
use Rattle.chain_lists.specs.declared.Total.TheVariants.{Shift, Lamp}
use Rattle.chain_lists.specs.Lists.{ChainList, Holds, stands}
use Rattle.chain_lists.specs.Faults.{Beginning, nothing, so_far, ended}
use Rattle.chain_lists.proofs.Growth.{last_set_more, length_head_written, length_swap_written, length_shift_written, length_lamp_written, length_end_written}
use Rattle.chain_reader.specs.declared.values.Entry.{Entry}
use Rattle.chain_reader.specs.declared.values.Entry.TheVariants.{Head, Exchange, Total as Summed, End}
use Rattle.chain_reader.specs.declared.values.Summary.{Summary}
use Rattle.chain_reader.specs.Reading.{Finished, Summarises, SummaryAfter, Told, entry_written, extended, shift_among, lamp_among}

-- ---- a total more

shift_first : (ts : List Total) (a b : ℤ) → stands ShiftTotal ts ≡ false → shift_among (ts ++ Shift a b ∷ []) ≡ Some (a, b)
shift_first [] a b h = refl
shift_first (Shift x y ∷ ts) a b h = absurd (clash (sym h))
shift_first (Lamp w ∷ ts) a b h = shift_first ts a b h

lamp_first : (ts : List Total) (w : ℕ) → stands LampTotal ts ≡ false → lamp_among (ts ++ Lamp w ∷ []) ≡ Some w
lamp_first [] w h = refl
lamp_first (Shift x y ∷ ts) w h = lamp_first ts w h
lamp_first (Lamp v ∷ ts) w h = absurd (clash (sym h))

lamp_kept : (ts : List Total) (a b : ℤ) → lamp_among (ts ++ Shift a b ∷ []) ≡ lamp_among ts
lamp_kept [] a b = refl
lamp_kept (Shift x y ∷ ts) a b = lamp_kept ts a b
lamp_kept (Lamp v ∷ ts) a b = refl

shift_kept : (ts : List Total) (w : ℕ) → shift_among (ts ++ Lamp w ∷ []) ≡ shift_among ts
shift_kept [] w = refl
shift_kept (Shift x y ∷ ts) w = refl
shift_kept (Lamp v ∷ ts) w = shift_kept ts w

-- ---- what a record adds

pub exchange_adds
    : (b : Beginning) (s : Summary) (e : Entry) (x : Swap) (t : ℕ) → e ≡ Exchange x t → SummaryAfter b s → Told b e
    → SummaryAfter (extended b e) (record { n = s.n; start = s.start; last = t; count = s.count; shift = s.shift; lamp = s.lamp })
exchange_adds b s e x t is =
    subst (λ (a : Entry). SummaryAfter b s → Told b a → SummaryAfter (extended b a) (record { n = s.n; start = s.start; last = t; count = s.count; shift = s.shift; lamp = s.lamp })) (sym is) (go b)
  where
    go : (a : Beginning) → SummaryAfter a s → Told a (Exchange x t)
        → SummaryAfter (extended a (Exchange x t)) (record { n = s.n; start = s.start; last = t; count = s.count; shift = s.shift; lamp = s.lamp })
    go nothing o told = absurd told
    go (so_far c) o told =
        record { labels = o.labels; first = o.first; latest = told ∙ sym (last_set_more c.start c.swaps x); shifts = o.shifts; lamps = o.lamps }
    go (ended c) o told = absurd told

pub shift_adds
    : (b : Beginning) (s : Summary) (t : Total) (x y : ℤ) → t ≡ Shift x y → SummaryAfter b s → Told b (Summed t)
    → SummaryAfter (extended b (Summed t)) (record { n = s.n; start = s.start; last = s.last; count = s.count; shift = Some (x, y); lamp = s.lamp })
shift_adds b s t x y is =
    subst (λ (u : Total). SummaryAfter b s → Told b (Summed u) → SummaryAfter (extended b (Summed u)) (record { n = s.n; start = s.start; last = s.last; count = s.count; shift = Some (x, y); lamp = s.lamp })) (sym is) (go b)
  where
    go : (a : Beginning) → SummaryAfter a s → Told a (Summed (Shift x y))
        → SummaryAfter (extended a (Summed (Shift x y))) (record { n = s.n; start = s.start; last = s.last; count = s.count; shift = Some (x, y); lamp = s.lamp })
    go nothing o told = absurd told
    go (so_far c) o told =
        record { labels = o.labels; first = o.first; latest = o.latest; shifts = sym (shift_first c.totals x y told); lamps = o.lamps ∙ sym (lamp_kept c.totals x y) }
    go (ended c) o told = absurd told

pub lamp_adds
    : (b : Beginning) (s : Summary) (t : Total) (w : ℕ) → t ≡ Lamp w → SummaryAfter b s → Told b (Summed t)
    → SummaryAfter (extended b (Summed t)) (record { n = s.n; start = s.start; last = s.last; count = s.count; shift = s.shift; lamp = Some w })
lamp_adds b s t w is =
    subst (λ (u : Total). SummaryAfter b s → Told b (Summed u) → SummaryAfter (extended b (Summed u)) (record { n = s.n; start = s.start; last = s.last; count = s.count; shift = s.shift; lamp = Some w })) (sym is) (go b)
  where
    go : (a : Beginning) → SummaryAfter a s → Told a (Summed (Lamp w))
        → SummaryAfter (extended a (Summed (Lamp w))) (record { n = s.n; start = s.start; last = s.last; count = s.count; shift = s.shift; lamp = Some w })
    go nothing o told = absurd told
    go (so_far c) o told =
        record { labels = o.labels; first = o.first; latest = o.latest; shifts = o.shifts ∙ sym (shift_kept c.totals w); lamps = sym (lamp_first c.totals w told) }
    go (ended c) o told = absurd told

-- at the end
pub finish
    : (file : List ℕ) (b : Beginning) (s : Summary) → Finished file b → SummaryAfter b s → (c : ChainList) × Holds file c × Summarises s c
finish file nothing s f o = absurd f
finish file (so_far c) s f o = absurd f
finish file (ended c) s f o = (c, f, o)

-- no record is empty
pub entry_long : (e : Entry) → 0 < length (entry_written e)
entry_long (Head n s) = omega (arith, length_head_written n s)
entry_long (Exchange x t) = omega (arith, length_swap_written x)
entry_long (Summed (Shift a b)) = omega (arith, length_shift_written a b)
entry_long (Summed (Lamp w)) = omega (arith, length_lamp_written w)
entry_long (End k) = omega (arith, length_end_written k)
