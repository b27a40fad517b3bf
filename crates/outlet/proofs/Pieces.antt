-- What was written, one piece after another.
use Rattle.std.proofs.Common.{◌≡◌, ℕ, ◌+◌, ◌-◌, ◌<◌, List, [], ◌++◌, length, take, drop, refl, ap, sym, ◌∙◌, arith, Option, Some, None, append_assoc, append-nil, length-append, take-append-drop, length-drop, drop-drop, take_all, subst}
use Rattle.std.proofs.Common.{Result, Ok, Err, MatchResult}
use Rattle.std.specs.Io.KnownBytes.{Appends}
use Rattle.outlet.specs.Sending.{Broken, Holding, Passes, Sends}

-- nothing was appended
pub appends_nothing : (a : Option (List ℕ)) → Appends a a []
appends_nothing None = tt
appends_nothing (Some p) = sym (append-nil p)

pub appends_on : (a b c : Option (List ℕ)) (x y : List ℕ) → Appends a b x → Appends b c y → Appends a c (x ++ y)
appends_on None b c x y h k = tt
appends_on (Some p) None c x y h k = absurd h
appends_on (Some p) (Some q) None x y h k = absurd k
appends_on (Some p) (Some q) (Some r) x y h k = k ∙ ap (λ (t : List ℕ). t ++ y) h ∙ append_assoc p x y

-- nothing was sent yet
pub holding_all : (a : Option (List ℕ)) (t : List ℕ) → Holding a a t t
holding_all a t = record { sent = []; appended = appends_nothing a; whole = refl }

-- a front of what was held back was sent
pub holding_on : {a b c : Option (List ℕ)} {held text : List ℕ} (x rest : List ℕ) → Holding a b held text → Appends b c x → x ++ rest ≡ held → Holding a c rest text
holding_on {a = a} {b = b} {c = c} x rest h k e = record {
  sent = h.sent ++ x;
  appended = appends_on a b c h.sent x h.appended k;
  whole = append_assoc h.sent x rest ∙ ap (λ (t : List ℕ). h.sent ++ t) e ∙ h.whole;
}

-- it broke off in what was held back
pub breaks_off : {a b c : Option (List ℕ)} {held text : List ℕ} → Holding a b held text → Broken b c held → Broken a c text
breaks_off {a = a} {b = b} {c = c} h k = record {
  sent = h.sent ++ k.sent;
  rest = k.rest;
  appended = appends_on a b c h.sent k.sent h.appended k.appended;
  whole = append_assoc h.sent k.sent k.rest ∙ ap (λ (t : List ℕ). h.sent ++ t) k.whole ∙ h.whole;
  missing = k.missing;
}

-- a text that broke off, as the front of a longer one
pub breaks_longer : {a b : Option (List ℕ)} {text : List ℕ} (more : List ℕ) → Broken a b text → Broken a b (text ++ more)
breaks_longer more k = record {
  sent = k.sent;
  rest = k.rest ++ more;
  appended = k.appended;
  whole = sym (append_assoc k.sent k.rest more) ∙ ap (λ (t : List ℕ). t ++ more) k.whole;
  missing = rw length-append (omega (arith, k.missing));
}

-- all that was held back is missing
pub breaks_here : {a b : Option (List ℕ)} {held text : List ℕ} → Holding a b held text → 0 < length held → Broken a b text
breaks_here {held = held} h k = record { sent = h.sent; rest = held; appended = h.appended; whole = h.whole; missing = k }

-- the n bytes from place i on were sent, of the slice from there to the end
pub sent_from : {a b c : Option (List ℕ)} {text : List ℕ} (i n : ℕ) → Holding a b (drop i text) text → Appends b c (take n (take (length text - i) (drop i text))) → Holding a c (drop (i + n) text) text
sent_from {b = b} {c = c} {text = text} i n h k =
    let whole : take (length text - i) (drop i text) ≡ drop i text = take_all _ _ (omega (arith, length-drop i text)) in
    holding_on (take n (drop i text)) (drop (i + n) text) h (subst (λ (t : List ℕ). Appends b c (take n t)) whole k)
    (ap (λ (t : List ℕ). take n (drop i text) ++ t) (sym (drop-drop n i text)) ∙ take-append-drop n (drop i text))

-- all is held back, as the text is
pub holding_as : (a : Option (List ℕ)) {held text : List ℕ} → held ≡ text → Holding a a held text
holding_as a e = record { sent = []; appended = appends_nothing a; whole = e }

-- all that was held back is to be sent
pub sends_all : {E : Type 0} {a b : Option (List ℕ)} (c : Option (List ℕ)) {held text : List ℕ} (r : Result (Unit {0}) E) → Holding a b held text → Sends b c r held → Sends a c r text
sends_all {a = a} {b = b} c {held = held} (Ok u) h k = subst (λ (t : List ℕ). Appends a c t) h.whole (appends_on a b c h.sent held h.appended k)
sends_all c (Err e) h k = breaks_off h k

-- one text sent, and then another
pub sends_after : {E : Type 0} (a b c : Option (List ℕ)) (x y : List ℕ) (r : Result (Unit {0}) E) → Appends a b x → Sends b c r y → Sends a c r (x ++ y)
sends_after a b c x y r h k = sends_all {a = a} {b = b} c r (record { sent = x; appended = h; whole = refl }) k

module _ {a b : Option (List ℕ)} {all : List ℕ} (held x y : List ℕ) (h : Holding a b (held ++ (x ++ y)) all) where
  -- what was held back and x were passed on, and y is still to come
  pub goes_on : {c : Option (List ℕ)} (after : List ℕ) → Holding b c after (held ++ x) → Holding a c (after ++ y) all
  goes_on after k =
      holding_on k.sent (after ++ y) h k.appended
      (sym (append_assoc k.sent after y) ∙ ap (λ (q : List ℕ). q ++ y) k.whole ∙ append_assoc held x y)

  -- it broke off in them
  pub stops_in : {c : Option (List ℕ)} → Broken b c (held ++ x) → Broken a c all
  stops_in {c = c} k = breaks_off h (subst (λ (q : List ℕ). Broken b c q) (append_assoc held x y) (breaks_longer y k))

-- nothing is still to come
pub goes_last : {E : Type 0} {a b : Option (List ℕ)} (c : Option (List ℕ)) {all : List ℕ} (held x after : List ℕ) (r : Result (Unit {0}) E)
    → Holding a b (held ++ x) all → Passes b c r after (held ++ x) → Passes a c r after all
goes_last c held x after (Ok u) h k = holding_on k.sent after h k.appended k.whole
goes_last c held x after (Err e) h k = breaks_off h k
