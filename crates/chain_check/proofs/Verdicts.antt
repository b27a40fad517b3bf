-- The answer to a file, and that it has one only.
use Rattle.std.proofs.Common.{◌≡◌, ℕ, ◌+◌, ◌≤◌, List, ◌++◌, length, take, codes, Option, refl, ap, ap₂, sym, ◌∙◌, subst, arith, length-take-le}
use Rattle.intake.specs.Taking.{Taken}
use Rattle.chain_lists.specs.declared.Spot.{Spot}
use Rattle.chain_lists.specs.Faults.{Beginning, Fault, Refused as IsRefused, ended}
use Rattle.chain_lists.specs.Lists.{ChainList}
use Rattle.chain_laws.proofs.Law.{law}
use Rattle.chain_reader.specs.Text.{fault_text}
use Rattle.chain_check.specs.declared.answering.Answer.{Answer}
use Rattle.chain_check.specs.declared.answering.Answer.TheVariants.{Accepted, Refused}
use Rattle.chain_check.specs.Answers.{Answered, IsOnly, IsText, Refusing, most_input}
use Rattle.chain_check.specs.Lines.{lines_of}

-- a reader found what is at fault after a beginning, and the text of that goes on by the fault
pub refusing
    : {file read : List ℕ} {f : Fault} {at : Spot} (b : Beginning) (old new : List ℕ)
    → read ≡ file → (r : IsRefused read f at) → r.beginning ≡ b → old ≡ lines_of b → new ≡ old ++ (fault_text f at ++ codes "\n") → Refusing file new
refusing {f = f} {at = at} b old new same r after is_old is_new = record {
  fault = f;
  at = at;
  refused = record { beginning = r.beginning; lawful = r.lawful; rest = r.rest; made = sym same ∙ r.made; fault = r.fault; byte = r.byte; before = r.before };
  whole = is_new
      ∙ ap (λ (q : List ℕ). q ++ (fault_text f at ++ codes "\n")) is_old
      ∙ ap (λ (a : Beginning). lines_of a ++ (fault_text f at ++ codes "\n")) (sym after);
}

pub only : (file : List ℕ) (a : Answer) (text : List ℕ) → IsText file a text → IsOnly file a text
only file Accepted text h Accepted words k =
    (refl, k.whole ∙ ap (λ (c : ChainList). lines_of (ended c) ++ codes "accepted\n") (law.one_list file k.list h.list k.holds h.holds) ∙ sym h.whole)
only file Accepted text h Refused words k = absurd (law.not_both file h.list k.fault k.at h.holds k.refused)
only file Refused text h Accepted words k = absurd (law.not_both file k.list h.fault h.at k.holds h.refused)
only file Refused text h Refused words k =
    let one = law.one_refusal file k.fault h.fault k.at h.at k.refused h.refused in (
      refl,
      k.whole
          ∙ ap (λ (b : Beginning). lines_of b ++ (fault_text k.fault k.at ++ codes "\n")) one.2
          ∙ ap₂ (λ (f : Fault) (s : Spot). lines_of h.refused.beginning ++ (fault_text f s ++ codes "\n")) one.0 one.1
          ∙ sym h.whole,
    )

-- n bytes were taken into a buffer, as a file, and answered
pub answered
    : {i j : Option (List ℕ)} {room : ℕ} {a : Answer} {text : List ℕ} (n : ℕ) (buffer : List ℕ) (Did : Answer → List ℕ → Type 0)
    → (n ≤ length buffer) × Taken i j room (take n buffer) → room ≡ most_input + 1 → n ≤ most_input → IsText (take n buffer) a text → Did a text
    → Answered i j Did
answered {i = i} {j = j} {a = a} {text = text} n buffer Did t room fits h did = record {
  file = take n buffer;
  taken = subst (λ (k : ℕ). Taken i j k (take n buffer)) room t.1;
  fits = omega (arith, length-take-le n buffer t.0);
  answer = a;
  text = text;
  is_text = h;
  only = only (take n buffer) a text h;
  did = did;
}
