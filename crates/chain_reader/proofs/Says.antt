-- What a record says after a beginning, by its kind.
use Rattle.std.proofs.Common.{◌≡◌, ℕ, ◌+◌, ◌^◌, ◌<◌, ◌≤◌, true, false, eqb, List, [], ◌∷◌, ◌++◌, length, get_or, sym, refl, ap, ◌∙◌, subst, arith}
use borrow.Author.Tests.{clash}
use Rattle.std.proofs.lemmas.List.{length-append, nil_from_length}
use Rattle.std.proofs.lemmas.Bool.{eqb-true}
use Rattle.labels.specs.Sets.{limit}
use Rattle.chain_lists.specs.declared.Kind.{Kind}
use Rattle.chain_lists.specs.declared.Kind.TheVariants.{ShiftTotal, LampTotal}
use Rattle.chain_lists.specs.declared.Kind.TheVariants as kind
use Rattle.chain_lists.specs.declared.Spot.{Spot}
use Rattle.chain_lists.specs.declared.Swap.{Swap}
use Rattle.chain_lists.specs.declared.Total.{Total}
use Rattle.chain_lists.specs.declared.TotalKinds.{TotalKinds}
use Rattle.chain_lists.specs.declared.Total.TheVariants.{Shift, Lamp}
use Rattle.chain_lists.specs.Lists.{ChainList, Marks, is_marked, Fitting, after, framed, last_set, lawful_swap, stands, total_kind, total_written}
use Rattle.chain_lists.specs.Faults.{Beginning, nothing, so_far, ended}
use Rattle.chain_lists.proofs.Growth.{last_set_more, lawful_swap_more, front_swap_more, is_marked_stands, lawful_total_more, front_total_more}
use Rattle.chain_lists.proofs.Lawful.{head_tells}
use Rattle.chain_records.specs.Records.{exchanges_in}
use Rattle.chain_reader.specs.declared.states.Progress.{Progress}
use Rattle.chain_reader.specs.declared.states.Stage.{Stage}
use Rattle.chain_reader.specs.declared.states.Stage.TheVariants.{SoFar}
use Rattle.chain_reader.specs.declared.values.Entry.TheVariants.{Exchange, Total as Summed}
use Rattle.chain_reader.specs.Reading.{Known, Says, StageAfter}

-- ---- bodies

two : (body : List ℕ) → length body + 2 ≡ 4 → body ≡ get_or body 0 0 ∷ get_or body 1 0 ∷ []
two [] l = absurd (omega arith)
two (a ∷ []) l = absurd (omega arith)
two (a ∷ b ∷ []) l = refl
two (a ∷ b ∷ c ∷ bs) l = absurd (omega arith)

-- ---- totals

pub no_totals : (ts : List Total) → stands ShiftTotal ts ≡ false → stands LampTotal ts ≡ false → ts ≡ []
no_totals [] s l = refl
no_totals (Shift a b ∷ ts) s l = absurd (clash (sym s))
no_totals (Lamp w ∷ ts) s l = absurd (clash (sym l))

pub some_total : (k : Kind) (ts : List Total) → stands k ts ≡ true → eqb (length ts) 0 ≡ false
some_total k [] h = absurd (clash h)
some_total k (t ∷ ts) h = grind arith

-- ---- the list of a beginning

-- a reader that is amid a list has read a list so far
pub amid
    : (P : Beginning → Type 0) {b : Beginning} {s : Stage} {at : Spot} {p : Progress} → s ≡ SoFar p → Known b s at
    → ((c : ChainList) → Known (so_far c) (SoFar p) at → P (so_far c)) → P b
amid P {b = nothing} is k f = absurd (subst (StageAfter nothing) is k.stage)
amid P {b = so_far c} is k f = f c (record { lawful = k.lawful; stage = subst (StageAfter (so_far c)) is k.stage; before = k.before })
amid P {b = ended c} is k f = absurd (subst (StageAfter (ended c)) is k.stage)

-- ---- records

pub exchange_says
    : (c : ChainList) (p : Progress) (x : Swap) (t : ℕ) (body : List ℕ) (at : Spot)
    → Known (so_far c) (SoFar p) at → length body + 2 ≡ 4 → at.before + 2 < 2 ^ 64
    → eqb (length c.totals) 0 ≡ true → x.high ≡ get_or body 0 0 → x.low ≡ get_or body 1 0
    → lawful_swap p.n p.present x ≡ true
    → ((n : ℕ) → n ≤ limit → lawful_swap n p.present x ≡ true → t ≡ after p.present x)
    → Says (so_far c) kind.Exchange body (Exchange x t) (SoFar (record { n = p.n; present = t; totals = p.totals }))
exchange_says c p x t body at known l few first eh el h leads =
    let st = known.stage in
    let lawful : lawful_swap c.n (last_set c.start c.swaps) x ≡ true = cc in
    let labels : p.n ≤ limit = omega (arith, st.0, head_tells c.n c.start known.lawful.heads) in
    let set : t ≡ after (last_set c.start c.swaps) x = leads p.n labels h ∙ ap (λ (s : ℕ). after s x) st.1 in
    let pair : body ≡ x.high ∷ x.low ∷ [] = two body l ∙ cc in
    record {
      told = set;
      lawful = lawful_swap_more c x known.lawful lawful (omega (arith, few, known.before));
      bytes = ap (framed kind.Exchange) pair;
      grown = front_swap_more c x (nil_from_length c.totals (eqb-true _ _ first));
      swaps = length-append c.swaps (x ∷ []);
      stage = (st.0, set ∙ sym (last_set_more c.start c.swaps x), st.2);
    }

-- a total of a kind that stands not there yet
pub total_says
    : (c : ChainList) (p : Progress) (t : Total) (body : List ℕ) (at : Spot) (marks : TotalKinds)
    → Known (so_far c) (SoFar p) at → is_marked p.totals t ≡ false → Fitting t
    → framed (total_kind t) body ≡ total_written t → ((ts : List Total) → Marks p.totals ts → Marks marks (ts ++ t ∷ []))
    → Says (so_far c) (total_kind t) body (Summed t) (SoFar (record { n = p.n; present = p.present; totals = marks }))
total_says c p t body at marks known unmarked f bytes more =
    let st = known.stage in
    let new : stands (total_kind t) c.totals ≡ false = sym (is_marked_stands p.totals c.totals t st.2) ∙ unmarked in
    record {
      told = new;
      lawful = lawful_total_more c t known.lawful new f;
      bytes = bytes;
      grown = front_total_more c t;
      swaps = no_more t;
      stage = (st.0, st.1, more c.totals st.2);
    }
  where
    no_more : (u : Total) → length c.swaps ≡ length c.swaps + exchanges_in (total_kind u)
    no_more (Shift a b) = omega arith
    no_more (Lamp w) = omega arith
